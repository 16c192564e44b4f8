-- What a shard's `admit` returns and does.
use Rattle.std.specs.Prelude.{◌≡◌, ◌≢◌, ℕ, ◌^◌, ◌<◌, ◌≤◌, true, false, List, [], ◌∷◌, ◌++◌, length, Some, slice_get}
use Rattle.crawl_gate.specs.Seat.{SeatId}
use Rattle.crawl_queues.specs.declared.entry.Entry.{Entry}
use Rattle.crawl_frontier.specs.declared.shard.Admit.{Admit}
use Rattle.crawl_frontier.specs.declared.shard.Admit.TheVariants.{Admitted, Crossed, Seen, TooFar, NoMemory}
use Rattle.crawl_frontier.specs.Limits.{hops_limit}
use Rattle.crawl_queues.specs.Entries.{has_url, count_of, entry}
use Rattle.crawl_frontier.specs.Parts.{ShardId, shard}

-- The shard before and after, the URL, the sender's id and own count, the hops, the unit, and the result. The checks are in this
-- order: the counts differ; the URL is in the list; the hops are above the limit. If none applies, the URL is added at the end. The
-- index that is returned is that of the URL from then on.
abbrev pub Admits : ShardId → ShardId → List ℕ → ℕ → ℕ → ℕ → SeatId → Admit → Type 0
Admits s t url id own hops unit (Admitted n i) =
    (n ≡ own) × (own < 2 ^ 63) × (count_of id s.sent ≡ own) × (has_url url s.sent ≡ false) × (hops ≤ hops_limit)
    × (t ≡ shard s.queue (s.sent ++ entry url id own hops ∷ [])) × (i ≡ length s.sent)
Admits s t url id own hops unit (Crossed found u) = (found ≡ count_of id s.sent) × (found ≢ own) × (t ≡ s) × (u ≡ unit)
Admits s t url id own hops unit (Seen there i u) =
    (count_of id s.sent ≡ own) × (has_url url s.sent ≡ true) × (there ≡ url) × (t ≡ s) × (u ≡ unit)
    × ((e : Entry) × (slice_get s.sent i ≡ Some e) × (e.url ≡ url))
Admits s t url id own hops unit (TooFar u) =
    (count_of id s.sent ≡ own) × (has_url url s.sent ≡ false) × (hops_limit < hops) × (t ≡ s) × (u ≡ unit)
Admits s t url id own hops unit (NoMemory u) = (t ≡ s) × (u ≡ unit)
