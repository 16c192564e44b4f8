use Rattle.crawl_keys.proofs.Prelude.{◌≤◌, ◌+◌, length, Utf8, shadow, IsAfterDots}
use Rattle.crawl_keys.proofs.dots.after_dots.Given as goal

-- so far the text reads as the rest
abbrev pub invariant-loop-up : goal.invariant-loop-up
invariant-loop-up l = shadow (Utf8 l.rest) × IsAfterDots l.fn.text l.ups l.rest × (l.ups + length l.rest ≤ length l.fn.text)

abbrev pub decreases-loop-up : goal.decreases-loop-up
decreases-loop-up l = length l.rest
