-- How many URLs a queue, or all queues, accepted, how far these are, and how many offers were answered `seen`.
use Rattle.std.specs.Prelude.{ℕ, zero, suc, ◌+◌, ◌-◌, Bool, List, ◌++◌, codes, is_some, length, slice_get, unwrap_or, Option, None, Some, decimal, option_and_then, option_map}
use Rattle.crawl_core.specs.declared.progress.Progress.{Progress}
use Rattle.crawl_core.specs.Flags.{one_if}
use Rattle.crawl_core.specs.Handing.{progress_of}
use Rattle.crawl_session.specs.declared.stats.Stats.{Stats}
use Rattle.crawl_session.specs.Frontiers.{Frontier, deferrals_at}
use Rattle.crawl_session.specs.Seen.{sum_of}

abbrev pub no_stats : Stats
no_stats = record { accepted = 0; done = 0; in_progress = 0; waiting = 0; put_back = 0; seen = 0 }

abbrev pub plus : Stats → Stats → Stats
plus a b = record {
  accepted = a.accepted + b.accepted;
  done = a.done + b.done;
  in_progress = a.in_progress + b.in_progress;
  waiting = a.waiting + b.waiting;
  put_back = a.put_back + b.put_back;
  seen = sum_of a.seen b.seen;
}

-- how many URLs of a queue with this state wait: those that it has not given out, and those that were put back
abbrev pub waiting_of : Progress → ℕ → ℕ
waiting_of progress put_back = (progress.accepted - progress.taken) + put_back

-- of a queue with this state, in which the given number of URLs wait that were put back, and which may be busy with such a URL; and
-- this many offers to it were answered `seen`
abbrev pub stats_of : Progress → ℕ → Bool → ℕ → Stats
stats_of progress put_back is_busy seen =
    let in_progress = one_if progress.busy + one_if is_busy in
    let waiting = waiting_of progress put_back in
    record {
      accepted = progress.accepted;
      done = progress.accepted - (in_progress + waiting);
      in_progress = in_progress;
      waiting = waiting;
      put_back = put_back;
      seen = seen;
    }

-- of the queue with this number, if it exists and a request can name it
abbrev pub stats_at : Frontier → ℕ → Option Stats
stats_at frontier queue =
    option_and_then
    (λ progress. option_map (stats_of progress (length (deferrals_at frontier queue).waiting) (is_some (deferrals_at frontier queue).fetched)) (slice_get frontier.seen queue))
    (progress_of frontier.machine queue)

-- how many URLs wait in the queue with this number
abbrev pub waiting_at : Frontier → ℕ → ℕ
waiting_at frontier queue = unwrap_or (option_map (λ progress. waiting_of progress (length (deferrals_at frontier queue).waiting)) (progress_of frontier.machine queue)) 0

-- of the queues below this number
abbrev pub stats_below : Frontier → ℕ → Stats
stats_below frontier zero = no_stats
stats_below frontier (suc queue) = plus (stats_below frontier queue) (unwrap_or (stats_at frontier queue) no_stats)

-- of one queue, or of all
abbrev pub stats_for : Frontier → Option ℕ → Option Stats
stats_for frontier None = Some (stats_below frontier (length frontier.deferrals))
stats_for frontier (Some queue) = stats_at frontier queue

-- the numbers of the URLs that are not done
abbrev pub unfinished_text : Stats → List ℕ
unfinished_text stats = codes " in-progress " ++ decimal stats.in_progress ++ codes " waiting " ++ decimal stats.waiting ++ codes " put-back " ++ decimal stats.put_back

abbrev pub stats_text : Stats → List ℕ
stats_text stats = codes "stats accepted " ++ decimal stats.accepted ++ codes " done " ++ decimal stats.done ++ unfinished_text stats ++ codes " seen " ++ decimal stats.seen
