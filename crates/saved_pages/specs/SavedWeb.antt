-- The page that a saved web has at each URL.
use Rattle.std.specs.Prelude.{◌≡◌, ◌⊎◌, ℕ, not, List, [], ◌∷◌, if◌then◌else◌, Option, Some, None, count_by, is_none, filter_map, take_while}
use Rattle.std.specs.Result.{result_ok}
use Rattle.crawl_keys.specs.CanonicalText.{resolve}
use Rattle.saved_pages.specs.WebLines.{line_of, is_page, is_link, is_moved_line, is_page_at, page_url}
use Rattle.crawl_pages.specs.declared.page.Page.{Page}
use Rattle.crawl_pages.specs.declared.page.Page.TheVariants.{Found, Moved, Missing}
use Rattle.saved_pages.specs.declared.line.Line.{Line}
use Rattle.saved_pages.specs.declared.line.Line.TheVariants as says

-- the lines after the first page line with this URL
abbrev pub lines_after : List (List ℕ) → List ℕ → Option (List (List ℕ))
lines_after [] url = None
lines_after (line ∷ more) url = if is_page_at url line then Some more else lines_after more url

-- ---- the lines of a page, up to the next page

abbrev pub put_link : Line (List ℕ) → List (List ℕ) → List (List ℕ)
put_link (says.Page text) texts = []
put_link (says.Link text) texts = text ∷ texts
put_link _ texts = texts

-- the texts of the links among these lines, up to the next page
abbrev pub link_texts : List (List ℕ) → List (List ℕ)
link_texts [] = []
link_texts (line ∷ more) = put_link (line_of line) (link_texts more)

abbrev pub put_moved : Line (List ℕ) → Option (List ℕ) → Option (List ℕ)
put_moved (says.Page text) later = None
put_moved (says.Link text) later = None
put_moved (says.Moved text) later = Some text
put_moved _ later = later

-- the text of the moved line among these, if there is one before any page or link
abbrev pub moved_text : List (List ℕ) → Option (List ℕ)
moved_text [] = None
moved_text (line ∷ more) = put_moved (line_of line) (moved_text more)

-- ---- pages

-- the canonical URL of a link on the page at `base`, if it has one
abbrev pub link_url : List ℕ → List ℕ → Option (List ℕ)
link_url base text = result_ok (resolve base text)

-- the page at a URL, from the texts of its links
abbrev pub found_page : List ℕ → List (List ℕ) → Page
found_page url texts = Found (filter_map (link_url url) texts) (count_by (λ text. is_none (link_url url text)) texts)

-- the page at a URL, from the text of its moved line, or else from its links
abbrev pub page_with : List ℕ → Option (List ℕ) → List (List ℕ) → Page
page_with url (Some text) texts = Moved (link_url url text)
page_with url None texts = found_page url texts

-- the page at a URL, from the lines after the page's own
abbrev pub page_after : List ℕ → Option (List (List ℕ)) → Page
page_after url None = Missing
page_after url (Some lines) = page_with url (moved_text lines) (link_texts lines)

-- the page that these lines define at a URL
abbrev pub page_of : List (List ℕ) → List ℕ → Page
page_of lines url = page_after url (lines_after lines url)

-- the canonical URLs of the pages of a web with these lines
abbrev pub page_urls : List (List ℕ) → List (List ℕ)
page_urls lines = filter_map page_url lines

-- ---- the terms of the laws

-- the lines among these up to the next page
abbrev pub up_to_page : List (List ℕ) → List (List ℕ)
up_to_page lines = take_while (λ line. not (is_page line)) lines

-- there is no moved line among these, or there is one and no link
abbrev pub IsUnmixed : List (List ℕ) → Type 0
IsUnmixed lines =
    (count_by is_moved_line lines ≡ 0) ⊎ ((count_by is_moved_line lines ≡ 1) × (count_by is_link lines ≡ 0))
