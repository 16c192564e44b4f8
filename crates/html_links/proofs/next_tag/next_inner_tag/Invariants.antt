use Rattle.html_links.proofs.Prelude.{length}
use Rattle.html_links.proofs.Passing.{Sought}
use Rattle.html_links.proofs.next_tag.next_inner_tag.Given as goal

abbrev pub invariant-markup : goal.invariant-markup
invariant-markup l = Sought l.fn.context l.fn.bytes l.at l.rest

abbrev pub decreases-markup : goal.decreases-markup
decreases-markup l = length l.rest
