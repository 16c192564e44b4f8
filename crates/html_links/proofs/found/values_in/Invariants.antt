use Rattle.html_links.proofs.Prelude.{length, names_of_attributes, values_at}
use Rattle.html_links.proofs.Reading.{Reading}
use Rattle.html_links.proofs.found.values_in.Given as goal

abbrev pub invariant-pieces : goal.invariant-pieces
invariant-pieces l = Reading l.fn.bytes l.rest (names_of_attributes l.element) (values_at l.values)

abbrev pub decreases-pieces : goal.decreases-pieces
decreases-pieces l = length l.rest
