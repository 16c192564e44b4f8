use Rattle.html_links.proofs.Prelude.{◌≡◌, ◌++◌, length, seen_from, links_in, links_of, ids_in, ids_of, base_in, base_of, or_later, base_at}
use Rattle.html_links.specs.Positions.{positions_in, positions_of}
use Rattle.html_links.proofs.reader.read_page.Given as goal

-- the links and ids so far and those of what is left are the whole, and so are the base and the positions
abbrev pub invariant-tags : goal.invariant-tags
invariant-tags g l = (g.L.Links.texts l.links ++ links_in l.styles (seen_from l.context l.rest) ≡ g.L.Links.texts l.initial.links ++ links_of l.fn.styles l.fn.syntax l.fn.document) ×
    (g.I.DocumentIds.texts l.ids ++ ids_in (seen_from l.context l.rest) ≡ g.I.DocumentIds.texts l.initial.ids ++ ids_of l.fn.syntax l.fn.document) ×
    (or_later (base_at l.base) (base_in (seen_from l.context l.rest)) ≡ base_of l.fn.syntax l.fn.document) ×
    (g.L.Links.positions l.links ++ positions_in l.styles (length l.fn.document) (seen_from l.context l.rest) ≡ g.L.Links.positions l.initial.links ++ positions_of l.fn.styles l.fn.syntax l.fn.document)

abbrev pub decreases-tags : goal.decreases-tags
decreases-tags g l = length l.rest
