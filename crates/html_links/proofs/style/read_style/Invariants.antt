use Rattle.html_links.proofs.Prelude.{◌≡◌, ◌++◌, length, style_links_of}
use Rattle.html_links.specs.Positions.{url_positions}
use Rattle.html_links.proofs.style.read_style.Given as goal

-- the texts so far and those of what is left are the whole, and so are the positions
abbrev pub invariant-urls : goal.invariant-urls
invariant-urls g l = (g.L.Links.texts l.links ++ style_links_of l.rest ≡ g.L.Links.texts l.initial.links ++ style_links_of l.fn.sheet) ×
    (g.L.Links.positions l.links ++ url_positions l.end l.rest ≡ g.L.Links.positions l.initial.links ++ url_positions l.fn.end l.fn.sheet)

abbrev pub decreases-urls : goal.decreases-urls
decreases-urls g l = length l.rest
