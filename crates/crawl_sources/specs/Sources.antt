-- The pages that link to the missing URLs of a report: one line for each URL, in the report's order.
use Rattle.std.specs.Prelude.{ℕ, Bool, List, [], ◌∷◌, ◌++◌, length, map, filter, fold, codes, if◌then◌else◌, Option, Some, None, decimal, bytes_eq}
use Rattle.std.specs.List.{list_any, flat_map}
use Rattle.std.specs.Ordering.{is_lt, nat_cmp}
use Rattle.std.specs.Cmp.Lexicographic.{slice_cmp}
use Rattle.crawl_pages.specs.Pages.{links_of, is_missing}
use Rattle.crawl_pages.specs.ResultOrder.{results_by_url}
use Rattle.crawl_pages.specs.declared.page.PageResult.{PageResult}

-- ---- the results that link to a URL

-- the URL is among the links that a crawl follows from the result's page
abbrev pub links_to : List ℕ → PageResult → Bool
links_to url r = list_any (λ link. bytes_eq link url) (links_of r.page)

-- the results that link to the URL; a result that does so twice is listed once
abbrev pub sources_of : List PageResult → List ℕ → List PageResult
sources_of results url = filter (links_to url) results

-- ---- the least of their URLs

-- the lesser of two texts, byte by byte
abbrev pub lesser : List ℕ → List ℕ → List ℕ
lesser a b = if is_lt (slice_cmp nat_cmp b a) then b else a

-- the least of the texts so far, if any, and one more text
abbrev pub least_with : Option (List ℕ) → List ℕ → Option (List ℕ)
least_with None text = Some text
least_with (Some least) text = Some (lesser least text)

-- the least of the texts, if there is one
abbrev pub least : List (List ℕ) → Option (List ℕ)
least texts = fold least_with None texts

-- ---- the lines

-- the text of a page, or of none
abbrev pub page_text : Option (List ℕ) → List ℕ
page_text None = codes "-"
page_text (Some page) = page

-- the line for a URL: how many results link to it, and the page that is named of them, if any
abbrev pub source_line : ℕ → Option (List ℕ) → List ℕ → List ℕ
source_line count page url = codes "from " ++ decimal count ++ codes " " ++ page_text page ++ codes " " ++ url ++ 10 ∷ []

-- the line for a URL: how many results link to it, and the least of their URLs
abbrev pub line_of : List PageResult → List ℕ → List ℕ
line_of results url = source_line (length (sources_of results url)) (least (map (λ r. r.url) (sources_of results url))) url

-- the missing results of a report, in its order
abbrev pub missing : List PageResult → List PageResult
missing results = filter (λ r. is_missing r.page) (results_by_url results)

abbrev pub sources : List PageResult → List ℕ
sources results = flat_map (λ r. line_of results r.url) (missing results)
