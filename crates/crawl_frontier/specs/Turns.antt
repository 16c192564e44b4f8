-- The results of a worker's `next` and `done`.
use Rattle.std.specs.Prelude.{◌≡◌, ◌⊎◌, ℕ, ◌+◌, ◌<◌, [], ◌∷◌, ◌++◌}
use Rattle.crawl_gate.specs.Word.{open_at, closed_at}
use Rattle.crawl_gate.specs.Seat.{SeatId, after_looking, after_not_closing, after_closing}
use Rattle.crawl_frontier.specs.declared.worker.Turn.{Turn}
use Rattle.crawl_frontier.specs.declared.worker.Turn.TheVariants.{Busy, Idle, Closed}
use Rattle.crawl_queues.specs.Entries.{MayFollow}
use Rattle.crawl_frontier.specs.Units.{GaveBack}
use Rattle.crawl_frontier.specs.Parts.{WorkerId, BusyId, worker}

-- the unit of a message, after a load that found the gate open
abbrev pub LoadedHeld : SeatId → SeatId → Type 0
LoadedHeld u u' = (n : ℕ) × (0 < n) × (u' ≡ after_looking u (open_at n))

abbrev pub Turns : {K : _} → ℕ → WorkerId → Turn K → Type 0
Turns n w (Busy b) =
    (b.worker ≡ worker w.queue w.seat (w.taken ++ b.message.entry ∷ []) w.empty_pops w.book)
    × MayFollow n w.queue w.taken b.message.entry
    × ((u : SeatId) × LoadedHeld u b.message.unit)
Turns n w (Idle v c) = (0 < c) × (v ≡ worker w.queue (after_not_closing w.seat (open_at c)) w.taken (w.empty_pops + 1) w.book)
Turns n w (Closed v) =
    ((v.seat ≡ after_closing w.seat (open_at 0)) ⊎ (v.seat ≡ after_not_closing w.seat (closed_at 0)))
    × (v ≡ worker w.queue v.seat w.taken (w.empty_pops + 1) w.book)

-- the message's unit was given back and is now the worker's pass; nothing else changed
abbrev pub Done : BusyId → WorkerId → Type 0
Done b w = GaveBack b.message.unit w.seat × (w ≡ worker b.worker.queue w.seat b.worker.taken b.worker.empty_pops b.worker.book)
