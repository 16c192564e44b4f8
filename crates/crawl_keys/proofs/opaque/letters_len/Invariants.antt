use Rattle.crawl_keys.proofs.Prelude.{◌≡◌, ◌<◌, ◌≤◌, ◌-◌, ℕ, true, get_or, length, is_lower}
use Rattle.crawl_keys.proofs.opaque.letters_len.Given as goal

-- the bytes so far are letters
abbrev pub invariant-loop-len : goal.invariant-loop-len
invariant-loop-len l = (l.len ≤ length l.bytes) × ((k : ℕ) → k < l.len → is_lower (get_or l.bytes k 0) ≡ true)

abbrev pub decreases-loop-len : goal.decreases-loop-len
decreases-loop-len l = length l.bytes - l.len
