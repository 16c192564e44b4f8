use Rattle.document_links.proofs.Prelude.{◌≡◌, length}
use Rattle.document_links.specs.Prescan.{label_in}
use Rattle.document_links.proofs.prescan.label_in.Given as goal

abbrev pub invariant-labels : goal.invariant-labels
invariant-labels l = label_in l.rest ≡ label_in l.fn.text

abbrev pub decreases-labels : goal.decreases-labels
decreases-labels l = length l.rest
