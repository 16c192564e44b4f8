use Rattle.html_links.proofs.Prelude.{◌≡◌, [], length, types_after}
use Rattle.html_links.proofs.reader.has_link_type.Given as goal

abbrev pub invariant-keywords : goal.invariant-keywords
invariant-keywords l = types_after [] l.rest ≡ types_after [] l.fn.rel

abbrev pub decreases-keywords : goal.decreases-keywords
decreases-keywords l = length l.rest
