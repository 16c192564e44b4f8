use Rattle.crawl_keys.proofs.Prelude.{◌≡◌, ◌≤◌, ◌+◌, length, Utf8, shadow, after_ups}
use Rattle.crawl_keys.proofs.plain.after_ups.Given as goal

-- the text is the part that was passed, and the rest
abbrev pub invariant-loop-more : goal.invariant-loop-more
invariant-loop-more l = shadow (Utf8 l.rest) × (l.fn.text ≡ after_ups l.ups l.rest) × (l.ups + length l.rest ≤ length l.fn.text)

abbrev pub decreases-loop-more : goal.decreases-loop-more
decreases-loop-more l = length l.rest
