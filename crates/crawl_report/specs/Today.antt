-- The text of results, queues and sources, one after the other.
use Rattle.std.specs.Prelude.{ℕ, Bool, List, [], ◌∷◌, ◌++◌, codes, if◌then◌else◌, decimal}
use Rattle.std.specs.List.{enumerate_from, flat_map}
use Rattle.crawl_report.specs.ReportText.{report}
use Rattle.crawl_pages.specs.declared.page.PageResult.{PageResult}
use Rattle.crawl_sources.specs.Sources.{sources}
use Rattle.crawl_report.specs.Lines.{text_line}
use Rattle.crawl_report.specs.Rows.{plain_sections, rows_with}

-- a queue, its count, and LF
abbrev pub queue_line : ℕ → ℕ → List ℕ
queue_line queue count = codes "queue " ++ decimal queue ++ codes " " ++ decimal count ++ 10 ∷ []

-- a line for each count, the queues from 0
abbrev pub queue_lines : List ℕ → List ℕ
queue_lines counts = flat_map (λ (x : ℕ × ℕ). queue_line x.0 x.1) (enumerate_from 0 counts)

-- the report of the results, then the queues and the sources, if they are listed
abbrev pub listed_text : Bool → Bool → List PageResult → List ℕ → List ℕ
listed_text with_queues with_sources pages counts = report pages ++ (if with_queues then queue_lines counts else []) ++ (if with_sources then sources pages else [])

-- the text of a report with only these sections
abbrev pub text_with : Bool → Bool → List PageResult → List ℕ → List ℕ
text_with with_queues with_sources pages counts =
    flat_map text_line (rows_with (plain_sections with_sources) pages (if with_queues then counts else []) [])
