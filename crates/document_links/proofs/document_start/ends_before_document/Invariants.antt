use Rattle.document_links.proofs.Prelude.{◌≡◌, length}
use Rattle.document_links.specs.Sniffing.{ends_before_document}
use Rattle.document_links.proofs.document_start.ends_before_document.Given as goal

-- a document starts in what is left
abbrev pub invariant-ends : goal.invariant-ends
invariant-ends l = ends_before_document l.rest ≡ ends_before_document l.fn.text

abbrev pub decreases-ends : goal.decreases-ends
decreases-ends l = length l.rest
