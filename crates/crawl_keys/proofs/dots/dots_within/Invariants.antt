use Rattle.crawl_keys.proofs.Prelude.{length, Utf8, shadow, IsAhead}
use Rattle.crawl_keys.proofs.dots.dots_within.Given as goal

-- so far there are whole segments before the rest
abbrev pub invariant-loop-more : goal.invariant-loop-more
invariant-loop-more l = shadow (Utf8 l.rest) × IsAhead l.fn.text l.rest

abbrev pub decreases-loop-more : goal.decreases-loop-more
decreases-loop-more l = length l.rest
