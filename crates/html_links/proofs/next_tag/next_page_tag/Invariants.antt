use Rattle.html_links.proofs.Prelude.{length, Html}
use Rattle.html_links.proofs.Passing.{Sought}
use Rattle.html_links.proofs.next_tag.next_page_tag.Given as goal

abbrev pub invariant-markup : goal.invariant-markup
invariant-markup l = Sought (Html 0) l.fn.bytes (Html 0) l.rest

abbrev pub decreases-markup : goal.decreases-markup
decreases-markup l = length l.rest
