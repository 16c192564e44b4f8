use Rattle.html_links.proofs.Prelude.{◌≡◌, ◌++◌, length, candidates_of}
use Rattle.html_links.specs.Positions.{all_at}
use Rattle.html_links.proofs.srcset.push_candidates.Given as goal

-- the texts so far and those of what is left are the whole, and so are the positions
abbrev pub invariant-candidates : goal.invariant-candidates
invariant-candidates g l = (g.L.Links.texts l.links ++ candidates_of l.rest ≡ g.L.Links.texts l.initial.links ++ candidates_of l.fn.text) ×
    (g.L.Links.positions l.links ++ all_at l.position (candidates_of l.rest) ≡ g.L.Links.positions l.initial.links ++ all_at l.fn.position (candidates_of l.fn.text))

abbrev pub decreases-candidates : goal.decreases-candidates
decreases-candidates g l = length l.rest
