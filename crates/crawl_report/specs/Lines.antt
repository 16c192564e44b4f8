-- The lines of a report, whatever prints them: their fixed text, and the members of their JSON objects.
use Rattle.std.specs.Prelude.{ℕ, List, [], ◌∷◌, ◌++◌, codes, Option, decimal, option_map}
use Rattle.json.specs.Json.{Members, no_members, member}
use Rattle.crawl_report.specs.ReportText.{moved_part}
use Rattle.crawl_sources.specs.Sources.{page_text}
use Rattle.crawl_report.specs.Members.{kind, text_at, count_at, text_or_null}
use Rattle.crawl_report.specs.declared.row.Row.{Row}
use Rattle.crawl_report.specs.declared.row.Row.TheVariants as row

-- what a line says
pub data Line : Type 0 where
  -- a page that was found: its URL, how many links it has, those that are skipped too, and how many are skipped
  page : List ℕ → ℕ → ℕ → Line
  moved : List ℕ → Line
  missing : List ℕ → Line
  -- how many results there are, how many of them found a page, how many are missing, and how many moved
  total : ℕ → ℕ → ℕ → ℕ → Line
  -- a queue, and how many URLs it had
  queue : ℕ → ℕ → Line
  -- how many results link to a URL, the least of their URLs, and the URL
  from : ℕ → Option (List ℕ) → List ℕ → Line
  -- a result's URL, and one that it links to
  link : List ℕ → List ℕ → Line
  -- the URL to which a page moved, if it has one, and its own URL
  to : Option (List ℕ) → List ℕ → Line
  unreached : List ℕ → Line

-- what a row says
abbrev pub line_of : Row → Line
line_of (row.Page url links skipped) = page url.now links skipped
line_of (row.Moved url) = moved url.now
line_of (row.Missing url) = missing url.now
line_of (row.Total results found missing_ones moved_ones) = total results found missing_ones moved_ones
line_of (row.Queue number urls) = queue number urls
line_of (row.From pages first url) = from pages (option_map (λ p. p.now) first) url.now
line_of (row.Link of_page url) = link of_page.now url.now
line_of (row.To target url) = to (option_map (λ p. p.now) target) url.now
line_of (row.Unreached url) = unreached url.now

-- ---- the text

-- the bytes of a line, without its end
abbrev pub line_text : Line → List ℕ
line_text (page url links skipped) = codes "ok " ++ decimal links ++ codes " " ++ decimal skipped ++ codes " " ++ url
line_text (moved url) = codes "moved " ++ url
line_text (missing url) = codes "missing " ++ url
line_text (total results found missing_ones moved_ones) =
    codes "total " ++ decimal results ++ codes " ok " ++ decimal found ++ codes " missing " ++ decimal missing_ones ++ moved_part moved_ones
line_text (queue number urls) = codes "queue " ++ decimal number ++ codes " " ++ decimal urls
line_text (from pages first url) = codes "from " ++ decimal pages ++ codes " " ++ page_text first ++ codes " " ++ url
line_text (link of_page url) = codes "link " ++ of_page ++ codes " " ++ url
line_text (to target url) = codes "to " ++ page_text target ++ codes " " ++ url
line_text (unreached url) = codes "unreached " ++ url

-- a line ends in LF
abbrev pub text_line : Line → List ℕ
text_line line = line_text line ++ 10 ∷ []

-- ---- JSON

abbrev pub members_of : Line → Members
members_of (page url links skipped) = kind (codes "ok") (text_at (codes "url") url (count_at (codes "links") links (count_at (codes "skipped") skipped no_members)))
members_of (moved url) = kind (codes "moved") (text_at (codes "url") url no_members)
members_of (missing url) = kind (codes "missing") (text_at (codes "url") url no_members)
members_of (total results found missing_ones moved_ones) =
    kind (codes "total") (count_at (codes "results") results (count_at (codes "ok") found (count_at (codes "missing") missing_ones (count_at (codes "moved") moved_ones no_members))))
members_of (queue number urls) = kind (codes "queue") (count_at (codes "queue") number (count_at (codes "urls") urls no_members))
members_of (from pages first url) =
    kind (codes "from") (count_at (codes "pages") pages (member (codes "first") (text_or_null first) (text_at (codes "url") url no_members)))
members_of (link of_page url) = kind (codes "link") (text_at (codes "page") of_page (text_at (codes "url") url no_members))
members_of (to target url) = kind (codes "to") (member (codes "to") (text_or_null target) (text_at (codes "url") url no_members))
members_of (unreached url) = kind (codes "unreached") (text_at (codes "url") url no_members)
