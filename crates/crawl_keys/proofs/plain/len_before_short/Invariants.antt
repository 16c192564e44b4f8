use Rattle.crawl_keys.proofs.Prelude.{◌≡◌, ◌<◌, ℕ, true, get_or, is_other}
use Rattle.crawl_keys.proofs.plain.len_before_short.Given as goal

-- the bytes so far are others
abbrev pub invariant-loop-place : goal.invariant-loop-place
invariant-loop-place l = (k : ℕ) → k < l.place → is_other l.mark (get_or l.bytes k 0) ≡ true
