use Rattle.html_links.proofs.Prelude.{◌≡◌, length, map, reverse, [], run, BeforeName, attribute_at}
use Rattle.html_links.proofs.tag.read_tag.Given as goal

-- what is left gives, after the attributes so far, what the whole gives
abbrev pub invariant-pieces : goal.invariant-pieces
invariant-pieces l = run BeforeName (reverse (map attribute_at l.attributes.items)) l.rest ≡ run BeforeName [] l.fn.bytes

abbrev pub decreases-pieces : goal.decreases-pieces
decreases-pieces l = length l.rest
