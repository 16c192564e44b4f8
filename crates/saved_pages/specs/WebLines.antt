-- The content of a line of a saved web, of either version.
use Rattle.std.specs.Prelude.{ℕ, ◌==◌, Bool, true, false, List, length, codes, if◌then◌else◌, Option, Some, None}
use Rattle.std.specs.Borrow.{Bor}
use Rattle.std.specs.Option.{option_map_or}
use Rattle.std.specs.Result.{result_ok}
use Rattle.std.specs.Str.{bytes_eq, is_utf8}
use Rattle.crawl_keys.specs.CanonicalText.{canonical}
use Rattle.text_lines.specs.Fields.{at_space}
use Rattle.saved_pages.specs.declared.line.Line.{Line}
use Rattle.saved_pages.specs.declared.line.Line.TheVariants as says

-- the content of a text, from the texts before and after its first space
abbrev pub said_apart : List ℕ → Option (List ℕ × List ℕ) → Line (List ℕ)
said_apart text None = if length text == 0 then says.Empty else says.Other
said_apart text (Some p) =
    if bytes_eq p.0 (codes "page") then says.Page p.1
    else if bytes_eq p.0 (codes "link") then says.Link p.1
    else if bytes_eq p.0 (codes "moved") then says.Moved p.1
    else says.Other

abbrev pub line_of_text : List ℕ → Line (List ℕ)
line_of_text text = said_apart text (at_space text)

-- the content of a line; a line that is not UTF-8 is neither a page, nor a link, nor a moved line
abbrev pub line_of : List ℕ → Line (List ℕ)
line_of line = if is_utf8 line then line_of_text line else says.Other

-- the content of a line whose text is borrowed
abbrev pub pointed : Line (Bor (List ℕ)) → Line (List ℕ)
pointed (says.Page text) = says.Page text.now
pointed (says.Link text) = says.Link text.now
pointed (says.Moved text) = says.Moved text.now
pointed says.Empty = says.Empty
pointed says.Other = says.Other

abbrev pub says_page : Line (List ℕ) → Bool
says_page (says.Page text) = true
says_page _ = false

abbrev pub says_link : Line (List ℕ) → Bool
says_link (says.Link text) = true
says_link _ = false

abbrev pub says_moved : Line (List ℕ) → Bool
says_moved (says.Moved text) = true
says_moved _ = false

-- the line is a page, a link, or a moved line
abbrev pub is_page : List ℕ → Bool
is_page line = says_page (line_of line)

abbrev pub is_link : List ℕ → Bool
is_link line = says_link (line_of line)

abbrev pub is_moved_line : List ℕ → Bool
is_moved_line line = says_moved (line_of line)

abbrev pub url_said : Line (List ℕ) → Option (List ℕ)
url_said (says.Page text) = result_ok (canonical text)
url_said _ = None

-- the canonical URL of the line, if it is a page line
abbrev pub page_url : List ℕ → Option (List ℕ)
page_url line = url_said (line_of line)

-- the line is a page line with this URL
abbrev pub is_page_at : List ℕ → List ℕ → Bool
is_page_at url line = option_map_or (λ own. bytes_eq own url) (page_url line) false
