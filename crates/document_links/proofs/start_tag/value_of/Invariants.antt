use Rattle.document_links.proofs.Prelude.{◌≡◌, length}
use Rattle.document_links.specs.Markup.{value_left, value_of}
use Rattle.document_links.proofs.start_tag.value_of.Given as goal

-- the value is that in the rest, and the number of bytes from it on is the same there
abbrev pub invariant-values : goal.invariant-values
invariant-values l = (value_of l.fn.name l.rest ≡ value_of l.fn.name l.fn.tag) × (value_left l.fn.name l.rest ≡ value_left l.fn.name l.fn.tag)

abbrev pub decreases-values : goal.decreases-values
decreases-values l = length l.rest
