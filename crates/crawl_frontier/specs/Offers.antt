-- The result of an offer, and what the offer does to the books and the pass of its sender.
use Rattle.std.specs.Prelude.{◌≡◌, ◌≢◌, ◌⊎◌, ℕ, ◌^◌, ◌<◌, ◌≤◌, true, List, Some, Ok, Err, Result, slice_get, slice_set}
use Rattle.crawl_keys.specs.Assignment.{subqueue_of}
use Rattle.crawl_gate.specs.View.{knows_closed, fresh_view}
use Rattle.crawl_gate.specs.Seat.{SeatId}
use Rattle.crawl_gate.specs.Enter.{EntersAtLast, EntersAtLastHolding}
use Rattle.crawl_gate.specs.declared.gate.enter.Enter.TheVariants as enter
use Rattle.crawl_queues.specs.declared.entry.Entry.{Entry}
use Rattle.crawl_frontier.specs.declared.shard.Admit.{Admit}
use Rattle.crawl_frontier.specs.declared.shard.Admit.TheVariants as admit
use Rattle.crawl_frontier.specs.declared.offer.Offer.{Offer}
use Rattle.crawl_frontier.specs.declared.offer.Offer.TheVariants.{Accepted, Seen}
use Rattle.crawl_frontier.specs.declared.error.OfferError.{OfferError}
use Rattle.crawl_frontier.specs.declared.error.OfferError.TheVariants.{Filtered, Closed, Full, Crossed, TooFar, NoMemory}
use Rattle.crawl_frontier.specs.Limits.{hops_limit}
use Rattle.crawl_queues.specs.Entries.{entry}
use Rattle.crawl_queues.specs.Logs.{Has}
use Rattle.crawl_frontier.specs.Units.{GaveBack}
use Rattle.crawl_queues.specs.Books.{BookId, book_accepting, book_seeing}

-- what is known of the shard's result after the lock is released
abbrev pub Replies : List ℕ → ℕ → ℕ → SeatId → Admit → Type 0
Replies url own hops unit (admit.Admitted n i) = (n ≡ own) × (own < 2 ^ 63) × (hops ≤ hops_limit)
Replies url own hops unit (admit.Crossed found u) = (found ≢ own) × (u ≡ unit)
Replies url own hops unit (admit.Seen there i u) = (there ≡ url) × (u ≡ unit)
Replies url own hops unit (admit.TooFar u) = (hops_limit < hops) × (u ≡ unit)
Replies url own hops unit (admit.NoMemory u) = u ≡ unit

-- the index that the shard returned is right for the lists as they are known
abbrev pub IsKnown : List (List Entry) → ℕ → List ℕ → ℕ → ℕ → Admit → Type 0
IsKnown lists q url id hops (admit.Admitted n i) = Has lists q i (entry url id n hops)
IsKnown lists q url id hops (admit.Crossed found u) = Unit {0}
IsKnown lists q url id hops (admit.Seen there i u) = (e : Entry) × Has lists q i e × (e.url ≡ url)
IsKnown lists q url id hops (admit.TooFar u) = Unit {0}
IsKnown lists q url id hops (admit.NoMemory u) = Unit {0}

-- the books before and after an offer, by its result
abbrev pub OfferBooks : ℕ → BookId → BookId → List ℕ → ℕ → Result Offer OfferError → Type 0
OfferBooks workers b b' url hops (Ok (Accepted q n)) =
    (q ≡ subqueue_of url workers) × (slice_get b.counts q ≡ Some n) × (hops ≤ hops_limit) × (b' ≡ book_accepting b q n (entry url b.id n hops))
OfferBooks workers b b' url hops (Ok Seen) = b' ≡ book_seeing b url (subqueue_of url workers)
OfferBooks workers b b' url hops (Err (Crossed own found)) = (b' ≡ b) × (slice_get b.counts (subqueue_of url workers) ≡ Some own) × (found ≢ own)
OfferBooks workers b b' url hops (Err TooFar) = (b' ≡ b) × (hops_limit < hops)
OfferBooks workers b b' url hops (Err _) = b' ≡ b

-- the passes of an offer that has entered: if the URL was accepted, the sender keeps its pass; otherwise it gets the one that the
-- unit became
abbrev pub Delivers : SeatId → SeatId → SeatId → Result Offer OfferError → Type 0
Delivers pass pass' unit (Ok (Accepted q n)) = pass' ≡ pass
Delivers pass pass' unit (Ok Seen) = GaveBack unit pass'
Delivers pass pass' unit (Err (Crossed own found)) = GaveBack unit pass'
Delivers pass pass' unit (Err TooFar) = GaveBack unit pass'
Delivers pass pass' unit (Err NoMemory) = GaveBack unit pass'
Delivers pass pass' unit (Err _) = ⊥

-- the pass entered, and its unit was given back
abbrev pub EntersAndLeaves : SeatId → SeatId → Type 0
EntersAndLeaves pass pass' = (u : SeatId) × EntersAtLast pass (enter.Entered u) × GaveBack u pass'

-- the words that a sender's pass meets, by the result
abbrev pub OfferWords : SeatId → SeatId → Result Offer OfferError → Type 0
OfferWords pass pass' (Ok (Accepted q n)) = ((u : SeatId) × EntersAtLast pass (enter.Entered u)) × (pass'.view ≡ fresh_view pass.view.max_pending)
OfferWords pass pass' (Ok Seen) = EntersAndLeaves pass pass'
OfferWords pass pass' (Err Closed) = EntersAtLast pass (enter.Closed pass') × (knows_closed pass'.view ≡ true)
OfferWords pass pass' (Err Full) = EntersAtLast pass (enter.Full pass')
OfferWords pass pass' (Err (Crossed own found)) = EntersAndLeaves pass pass'
OfferWords pass pass' (Err TooFar) = EntersAndLeaves pass pass'
OfferWords pass pass' (Err NoMemory) = (pass' ≡ pass) ⊎ EntersAndLeaves pass pass'
OfferWords pass pass' (Err Filtered) = pass' ≡ pass

-- likewise for a sender that holds a unit, with which it makes the loads
abbrev pub EntersAndLeavesHolding : SeatId → SeatId → SeatId → SeatId → Type 0
EntersAndLeavesHolding held held' pass pass' = (u : SeatId) × EntersAtLastHolding held held' pass (enter.Entered u) × GaveBack u pass'

abbrev pub OfferWordsHolding : SeatId → SeatId → SeatId → SeatId → Result Offer OfferError → Type 0
OfferWordsHolding held held' pass pass' (Ok (Accepted q n)) =
    ((u : SeatId) × EntersAtLastHolding held held' pass (enter.Entered u)) × (pass'.view ≡ fresh_view held.view.max_pending)
OfferWordsHolding held held' pass pass' (Ok Seen) = EntersAndLeavesHolding held held' pass pass'
OfferWordsHolding held held' pass pass' (Err Closed) = ⊥
OfferWordsHolding held held' pass pass' (Err Full) = EntersAtLastHolding held held' pass (enter.Full pass')
OfferWordsHolding held held' pass pass' (Err (Crossed own found)) = EntersAndLeavesHolding held held' pass pass'
OfferWordsHolding held held' pass pass' (Err TooFar) = EntersAndLeavesHolding held held' pass pass'
OfferWordsHolding held held' pass pass' (Err NoMemory) = ((held' ≡ held) × (pass' ≡ pass)) ⊎ EntersAndLeavesHolding held held' pass pass'
OfferWordsHolding held held' pass pass' (Err Filtered) = (held' ≡ held) × (pass' ≡ pass)

-- the results for a sender that knows that the gate is closed
abbrev pub IsLate : Result Offer OfferError → Type 0
IsLate (Err Closed) = Unit {0}
IsLate (Err Filtered) = Unit {0}
IsLate (Err NoMemory) = Unit {0}
IsLate _ = ⊥

abbrev pub IsFiltered : Result Offer OfferError → Type 0
IsFiltered (Err Filtered) = Unit {0}
IsFiltered _ = ⊥
