use denote.Shadow.{shadow}
use denote.Text.{Utf8}
use Rattle.site_check.proofs.Prelude.{◌≡◌, any_end, fits, length}
use Rattle.site_check.proofs.pattern.is_end.Given as goal

abbrev pub invariant-pieces : goal.invariant-pieces
invariant-pieces l = shadow (Utf8 l.pattern) × shadow (Utf8 l.rest) × (any_end (fits l.pattern) l.rest ≡ any_end (fits l.fn.pattern) l.fn.text)

abbrev pub decreases-pieces : goal.decreases-pieces
decreases-pieces l = length l.pattern
