-- What is computed for 16 bytes at the same time.
use Rattle.std.specs.Prelude.{◌≡◌, ◌<◌, ◌≤◌, ◌+◌, ◌==◌, ℕ, Bool, true, false, List, slice_index, if◌then◌else◌}
use Rattle.std.specs.Int.{w64, trailing_zeros}
use Rattle.crawl_keys.specs.Plain.{may_follow}

-- from one position to before another, each byte may be followed by the byte after it
abbrev pub Follow : List ℕ → ℕ → ℕ → Type 0
Follow text at end = (k : ℕ) → at ≤ k → k < end → may_follow (slice_index text k) (slice_index text (k + 1)) ≡ true

-- the first n of the 16 bytes from this position on pass the test
pub record IsRun (test : ℕ → Bool) (text : List ℕ) (at run : ℕ) : Type 0 where
  pub few : run ≤ 16
  pub pass : (k : ℕ) → at ≤ k → k < at + run → test (slice_index text k) ≡ true
  pub stops : run < 16 → test (slice_index text (at + run)) ≡ false

-- the position of the lowest bit that is set, or 16
abbrev pub first_set : ℕ → ℕ
first_set mask = if mask == 0 then 16 else trailing_zeros w64 mask
