use Rattle.crawl_keys.proofs.Prelude.{◌≡◌, ◌<◌, ◌≤◌, ◌-◌, ℕ, true, get_or, length, is_host_byte}
use Rattle.crawl_keys.proofs.plain.host_len.Given as goal

-- the bytes so far may be in a host
abbrev pub invariant-loop-len : goal.invariant-loop-len
invariant-loop-len l = (l.len ≤ length l.bytes) × ((k : ℕ) → k < l.len → is_host_byte (get_or l.bytes k 0) ≡ true)

abbrev pub decreases-loop-len : goal.decreases-loop-len
decreases-loop-len l = length l.bytes - l.len
