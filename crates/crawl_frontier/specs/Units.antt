-- How a unit is given back.
use Rattle.std.specs.Prelude.{◌≡◌, ℕ, ◌+◌}
use Rattle.crawl_gate.specs.Word.{open_at}
use Rattle.crawl_gate.specs.Seat.{SeatId, after_leaving}

-- The pass is the unit's own seat: it holds no unit, and has met one more word, whose count is one above what was left.
abbrev pub GaveBack : SeatId → SeatId → Type 0
GaveBack unit pass = (n : ℕ) × (pass ≡ after_leaving unit (open_at (n + 1)))
