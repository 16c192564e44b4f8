use Rattle.html_links.proofs.Prelude.{◌≡◌, ◌++◌, length, seen_from}
use Rattle.html_links.specs.Links.{inner_links_in, inner_links_of}
use Rattle.html_links.specs.Positions.{all_at}
use Rattle.html_links.proofs.reader.push_document.Given as goal

-- the links so far and those of what is left are the whole, and so are the positions
abbrev pub invariant-tags : goal.invariant-tags
invariant-tags g l = (g.L.Links.texts l.links ++ inner_links_in (seen_from l.context l.rest) ≡ g.L.Links.texts l.initial.links ++ inner_links_of l.fn.document) ×
    (g.L.Links.positions l.links ++ all_at l.position (inner_links_in (seen_from l.context l.rest)) ≡ g.L.Links.positions l.initial.links ++ all_at l.fn.position (inner_links_of l.fn.document))

abbrev pub decreases-tags : goal.decreases-tags
decreases-tags g l = length l.rest
