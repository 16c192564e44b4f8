-- The positions of a document's links: that of the first byte of the value that names the link, after its quote. A URL in a style has
-- its own position. The links of a `srcdoc` are at its value.
use Rattle.std.specs.Prelude.{ℕ, ◌-◌, Bool, if◌then◌else◌, List, [], ◌∷◌, ◌++◌, length, map, take, Option, None, Some, bytes_eq}
use Rattle.html_links.specs.declared.context.Syntax.{Syntax}
use Rattle.html_links.specs.declared.element.Element.{Element}
use Rattle.html_links.specs.References.{text_of}
use Rattle.html_links.specs.Styles.{style_lefts_of, style_links_of}
use Rattle.html_links.specs.Values.{Values}
use Rattle.html_links.specs.Seen.{Seen, seen_in}
use Rattle.html_links.specs.Links.{first_links, second_links, third_links}

-- the same position for each of some links
abbrev pub all_at : ℕ → List (List ℕ) → List ℕ
all_at position links = map (λ link. position) links

-- the positions of the links of an element's values, in a document with this number of bytes
abbrev pub positions_with : ℕ → Element → Values → List ℕ
positions_with end element v =
    all_at (end - v.first_left) (first_links element v) ++ all_at (end - v.second_left) (second_links element v) ++ all_at (end - v.third_left) (third_links element v)

-- those of the URLs of a style sheet that ends at this position
abbrev pub url_positions : ℕ → List ℕ → List ℕ
url_positions end sheet = map (λ left. end - left) (style_lefts_of sheet)

-- those of the links of a `style`, by the number of bytes from its value on. If the value has character references, so that its text
-- is another, all of them are at the value.
abbrev pub style_positions : ℕ → Option (List ℕ) → ℕ → List ℕ
style_positions end None left = []
style_positions end (Some value) left =
    if bytes_eq (text_of value) value then url_positions (end - (left - length value)) value else all_at (end - left) (style_links_of (text_of value))

-- and of those of the style sheet in the element, from whose start on there is this number of bytes
abbrev pub style_positions_with : ℕ → Values → List ℕ → ℕ → List ℕ
style_positions_with end v sheet left = style_positions end v.style v.style_left ++ url_positions (end - (left - length sheet)) sheet

abbrev pub positions_at : Bool → ℕ → Seen → List ℕ
positions_at styles end seen =
    if styles then style_positions_with end seen.values seen.sheet seen.left ++ positions_with end seen.element seen.values
    else positions_with end seen.element seen.values

abbrev pub positions_in : Bool → ℕ → List Seen → List ℕ
positions_in styles end [] = []
positions_in styles end (seen ∷ rest) = positions_at styles end seen ++ positions_in styles end rest

-- the position of each link of a document, in the order of `links_of`
abbrev pub positions_of : Bool → Syntax → List ℕ → List ℕ
positions_of styles syntax document = positions_in styles (length document) (seen_in syntax document)

-- the positions that are needed: the first ones, up to a number, or all if no number is given
abbrev pub needed_positions : Option ℕ → List ℕ → List ℕ
needed_positions None positions = positions
needed_positions (Some needed) positions = take needed positions
