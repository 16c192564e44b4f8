-- The links of a list of URLs.
use Rattle.std.specs.Prelude.{ℕ, ◌+◌, ◌-◌, ◌==◌, List, [], ◌∷◌, ◌++◌, length, if◌then◌else◌}
use Rattle.url.specs.Input.{is_c0_control_or_space, trim_c0_control_and_space, trim_start}
use Rattle.html_links.specs.Positions.{all_at}
use Rattle.document_links.specs.Feeds.{text_links}

-- the links of the lines; the first line begins with these bytes
abbrev pub lines_from : List ℕ → List ℕ → List (List ℕ)
lines_from line [] = text_links (trim_c0_control_and_space line)
lines_from line (b ∷ bytes) = if b == 10 then text_links (trim_c0_control_and_space line) ++ lines_from [] bytes else lines_from (line ++ b ∷ []) bytes

-- the links of a list of URLs: each line without white space at its ends, unless it is empty then
abbrev pub url_lines_of : List ℕ → List (List ℕ)
url_lines_of text = lines_from [] text

-- the position of the link of a line, from whose start on there are `left` bytes of a list with `end` bytes
abbrev pub line_positions : ℕ → ℕ → List ℕ → List ℕ
line_positions end left line = all_at (end - (left - (length line - length (trim_start is_c0_control_or_space line)))) (text_links (trim_c0_control_and_space line))

-- the positions of the links of the lines of such a list; the first line begins with these bytes
abbrev pub line_positions_from : ℕ → List ℕ → List ℕ → List ℕ
line_positions_from end line [] = line_positions end (length line) line
line_positions_from end line (b ∷ bytes) =
    if b == 10 then line_positions end (length line + length (b ∷ bytes)) line ++ line_positions_from end [] bytes else line_positions_from end (line ++ b ∷ []) bytes

-- the positions of the links of a list of URLs: after the white space at the start of their lines
abbrev pub url_line_positions : List ℕ → List ℕ
url_line_positions text = line_positions_from (length text) [] text
