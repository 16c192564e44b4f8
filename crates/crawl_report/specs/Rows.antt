-- Which lines a report has, in which order.
use Rattle.std.specs.Prelude.{ℕ, ◌+◌, Bool, true, false, List, [], ◌∷◌, ◌++◌, length, map, filter, count_by, if◌then◌else◌, Option, None}
use Rattle.std.specs.List.{enumerate_from, flat_map}
use Rattle.crawl_pages.specs.Pages.{is_found, is_missing, is_moved}
use Rattle.crawl_pages.specs.declared.page.Page.{Page}
use Rattle.crawl_pages.specs.declared.page.Page.TheVariants.{Found, Moved, Missing}
use Rattle.crawl_pages.specs.declared.page.PageResult.{PageResult}
use Rattle.crawl_sources.specs.Sources.{sources_of, least}
use Rattle.crawl_report.specs.Json.{printed_line}
use Rattle.crawl_report.specs.Lines as line
use Rattle.crawl_report.specs.Lines.{Line}
use Rattle.crawl_sources.specs.Tallies.{pointed}
use Rattle.crawl_report.specs.declared.sections.Sections.{Sections}
use Rattle.crawl_report.specs.declared.report.Report.{Report}
use Rattle.crawl_report.specs.declared.sections.Sources.{Sources}
use Rattle.crawl_report.specs.declared.sections.Sources.TheVariants as sources

-- ---- results

abbrev pub page_line : List ℕ → Page → Line
page_line url (Found links skipped) = line.page url (length links + skipped) skipped
page_line url (Moved to) = line.moved url
page_line url Missing = line.missing url

abbrev pub result_lines : List PageResult → List Line
result_lines pages = map (λ r. page_line r.url r.page) pages

abbrev pub total_of : List PageResult → Line
total_of pages =
    line.total (length pages) (count_by (λ r. is_found r.page) pages) (count_by (λ r. is_missing r.page) pages) (count_by (λ r. is_moved r.page) pages)

-- ---- queues

-- a line for each count, the queues from 0
abbrev pub queue_lines : List ℕ → List Line
queue_lines counts = map (λ (x : ℕ × ℕ). line.queue x.0 x.1) (enumerate_from 0 counts)

-- ---- sources

-- the sources of the URL are listed: it is missing; or it moved, and moved pages are listed
abbrev pub lists_sources : Bool → Page → Bool
lists_sources with_moved (Found links skipped) = false
lists_sources with_moved (Moved to) = with_moved
lists_sources with_moved Missing = true

abbrev pub is_listed : Bool → PageResult → Bool
is_listed with_moved r = lists_sources with_moved r.page

-- how many results link to the URL, and the least of their URLs
abbrev pub from_line : List PageResult → List ℕ → Line
from_line pages url = line.from (length (sources_of pages url)) (least (map (λ r. r.url) (sources_of pages url))) url

-- each result that links to the URL
abbrev pub link_lines : List PageResult → List ℕ → List Line
link_lines pages url = map (λ r. line.link r.url url) (sources_of pages url)

abbrev pub lines_at : Bool → List PageResult → List ℕ → List Line
lines_at all pages url = from_line pages url ∷ (if all then link_lines pages url else [])

abbrev pub lines_of_all : Bool → Bool → List PageResult → List Line
lines_of_all all with_moved pages = flat_map (λ r. lines_at all pages r.url) (filter (is_listed with_moved) pages)

abbrev pub source_lines : Sources → Bool → List PageResult → List Line
source_lines sources.None with_moved pages = []
source_lines sources.First with_moved pages = lines_of_all false with_moved pages
source_lines sources.All with_moved pages = lines_of_all true with_moved pages

-- ---- moved pages

-- the URL to which the page moved, if it moved to a URL
abbrev pub target : Page → Option (List ℕ)
target (Found links skipped) = None
target (Moved to) = to
target Missing = None

abbrev pub moved_lines : Bool → List PageResult → List Line
moved_lines with_moved pages = if with_moved then map (λ r. line.to (target r.page) r.url) (filter (λ r. is_moved r.page) pages) else []

-- ---- the report

-- the lines of the sections, in their order
abbrev pub section_lines : Sections → List PageResult → List (List ℕ) → List Line
section_lines sections pages unreached = source_lines sections.sources sections.moved pages ++ (moved_lines sections.moved pages ++ map line.unreached unreached)

-- the sections if nothing is listed but, at most, the first source of each missing URL
abbrev pub plain_sections : Bool → Sections
plain_sections with_sources = record { sources = if with_sources then sources.First else sources.None; moved = false; unreached = false }

-- the lines of a report, in their order
abbrev pub rows_with : Sections → List PageResult → List ℕ → List (List ℕ) → List Line
rows_with sections pages queues unreached = result_lines pages ++ (total_of pages ∷ queue_lines queues) ++ section_lines sections pages unreached

abbrev pub rows_of : Report → List Line
rows_of report = rows_with report.sections report.pages.now report.queues.now (pointed report.unreached.now)

-- the lines after those of the results
abbrev pub rows_after : Report → List Line
rows_after report = (total_of report.pages.now ∷ queue_lines report.queues.now) ++ section_lines report.sections report.pages.now (pointed report.unreached.now)

-- the report's bytes, as JSON or as text
abbrev pub printed : Bool → Report → List ℕ
printed as_json report = flat_map (printed_line as_json) (rows_of report)
