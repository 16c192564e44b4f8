use Rattle.document_links.proofs.Prelude.{◌≡◌, ◌++◌, [], length}
use Rattle.document_links.specs.UrlLists.{line_positions_from, url_line_positions, url_lines_of}
use Rattle.document_links.proofs.url_list.push_url_lines.Given as goal

-- the links so far and those of what is left are the whole, and so are the positions
abbrev pub invariant-lines : goal.invariant-lines
invariant-lines l = (l.raw.texts ++ url_lines_of l.rest ≡ l.initial.raw.texts ++ url_lines_of l.fn.text) ×
    (l.raw.positions.items ++ line_positions_from (length l.text) [] l.rest ≡ l.initial.raw.positions.items ++ url_line_positions l.fn.text)

abbrev pub decreases-lines : goal.decreases-lines
decreases-lines l = length l.rest
