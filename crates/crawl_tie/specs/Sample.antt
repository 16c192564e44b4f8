-- A sample history: two workers, two senders that offer the same URL, a lost try, and the end of the run.
use Rattle.std.specs.Prelude.{ℕ, List, [], ◌∷◌}
use Rattle.crawl_gate.specs.Word.{open_at}
use Rattle.crawl_queues.specs.declared.entry.Entry.{Entry}
use Rattle.crawl_tie.specs.Acts.{Act, Splits, Looks, Enters, Loses, LeavesSeen, LeavesFetch, LeavesSeeds, Closes, NotClosesClosed, NotClosesPending, Pushes, Pops, PopsNone, FindsNothing, TakesIn}

-- Two passes for workers and two for senders are split off. Both senders find count 1; 7 enters, and 9 loses and tries again. The
-- URL of 7 is pushed to subqueue q, and 9 offers the same URL.
abbrev pub offers_made : ℕ → Entry → List Act
offers_made q e =
    Splits ∷ Splits ∷ Splits ∷ Splits ∷ Looks 7 (open_at 1) ∷ Looks 9 (open_at 1) ∷ Enters 7 1 ∷ Loses 9 (open_at 2) ∷ Looks 9 (open_at 2) ∷ Enters 9 2
    ∷ Pushes q e ∷ LeavesSeen 9 q e.url 2 ∷ LeavesSeeds 1 ∷ []

-- The worker of q pops the URL and loads the gate's word with its unit. The other one finds nothing in its subqueue, and one unit
-- at the gate. Then the first one closes the gate, and the other finds it closed.
abbrev pub turns_made : ℕ → ℕ → Entry → List Act
turns_made q other e =
    Pops q e ∷ Looks q (open_at 1) ∷ PopsNone other ∷ NotClosesPending 1 ∷ FindsNothing other ∷ LeavesFetch q 0
    ∷ PopsNone q ∷ Closes ∷ FindsNothing q ∷ PopsNone other ∷ NotClosesClosed ∷ FindsNothing other ∷ TakesIn q ∷ TakesIn other ∷ []
