use Rattle.document_links.proofs.Prelude.{◌≡◌, length}
use Rattle.document_links.specs.Prescan.{declared}
use Rattle.document_links.proofs.prescan.declared.Given as goal

-- what is left declares the same
abbrev pub invariant-markup : goal.invariant-markup
invariant-markup l = declared l.rest ≡ declared l.fn.start

abbrev pub decreases-markup : goal.decreases-markup
decreases-markup l = length l.rest
