use Rattle.html_links.proofs.Prelude.{◌≡◌, List, length, [], Attribute, run, BeforeName}
use Rattle.html_links.proofs.document.after_pieces.Given as goal

-- the tag ends where the rest of it ends, after some attributes
abbrev pub invariant-pieces : goal.invariant-pieces
invariant-pieces l = (all : List Attribute) × (run BeforeName all l.rest ≡ run BeforeName [] l.fn.bytes)

abbrev pub decreases-pieces : goal.decreases-pieces
decreases-pieces l = length l.rest
