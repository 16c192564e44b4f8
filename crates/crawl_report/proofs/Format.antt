-- The text of the sections, and of the report that they make.
use Rattle.crawl_report.proofs.Prelude.{◌≡◌, ℕ, Bool, false, List, [], ◌∷◌, ◌++◌, map, filter, append-nil, refl, sym, ap, ◌∙◌, if◌then◌else◌, arith, append_assoc, flat_map-append, slice_cmp, enumerate_from, flat_map, IsSortedByKey, nat_cmp, is_missing, results_by_url, report, result_line, total_line, PageResult, results_by_url-only, line_of, sources, Line, text_line, from_line, lines_of_all, is_listed, result_lines, lists_sources, total_of}
use Rattle.crawl_pages.specs.declared.page.Page.{Page}
use Rattle.crawl_report.specs.Lines as line
use Rattle.crawl_report.specs.Rows as rows
use Rattle.crawl_report.specs.declared.sections.Sources.TheVariants as listed
use Rattle.crawl_report.specs.Today.{queue_line, queue_lines, text_with, listed_text}

same_results : (pages : List PageResult) → flat_map text_line (result_lines pages) ≡ flat_map result_line pages
same_results [] = refl
same_results (r ∷ rs) = grind (arith, same_results rs)

same_queues : (counts : List (ℕ × ℕ)) → flat_map text_line (map (λ x. line.queue x.0 x.1) counts) ≡ flat_map (λ x. queue_line x.0 x.1) counts
same_queues [] = refl
same_queues (x ∷ xs) = grind (arith, same_queues xs)

same_sources : (results listed : List PageResult) → flat_map text_line (flat_map (λ r. from_line results r.url ∷ []) listed) ≡ flat_map (λ r. line_of results r.url) listed
same_sources results [] = refl
same_sources results (r ∷ rs) = grind (arith, same_sources results rs)

missing_only : (page : Page) → lists_sources false page ≡ is_missing page
missing_only page = grind arith

in_order : (pages : List PageResult) → IsSortedByKey (λ r. r.url) (slice_cmp nat_cmp) pages → pages ≡ results_by_url pages
in_order pages sorted = results_by_url-only pages pages (record { ascends = sorted; keeps = λ url. refl })

missing_sources : (pages : List PageResult) → IsSortedByKey (λ r. r.url) (slice_cmp nat_cmp) pages → flat_map text_line (lines_of_all false false pages) ≡ sources pages
missing_sources pages sorted =
    same_sources pages (filter (is_listed false) pages)
    ∙ (λ i. flat_map (λ (r : PageResult). line_of pages r.url) (filter (λ (r : PageResult). missing_only r.page i) pages))
    ∙ ap (λ rs. flat_map (λ (r : PageResult). line_of pages r.url) (filter (λ (r : PageResult). is_missing r.page) rs)) (in_order pages sorted)

pub queues_in_one_chunk : (counts : List ℕ) → flat_map text_line (rows.queue_lines counts) ≡ queue_lines counts
queues_in_one_chunk counts = same_queues (enumerate_from 0 counts)

-- the lines of results in order, and then of their total
pub report_lines : (results : List PageResult) → flat_map text_line (result_lines (results_by_url results) ++ total_of results ∷ []) ≡ report results
report_lines results = grind (arith, flat_map-append, same_results, append-nil)

listed_queues : (with_queues : Bool) (counts : List ℕ) → flat_map text_line (rows.queue_lines (if with_queues then counts else [])) ≡ (if with_queues then queue_lines counts else [])
listed_queues with_queues counts = grind (arith, queues_in_one_chunk)

listed_sources : (with_sources : Bool) (pages : List PageResult) → IsSortedByKey (λ r. r.url) (slice_cmp nat_cmp) pages → flat_map text_line (rows.source_lines (if with_sources then listed.First else listed.None) false pages) ≡ (if with_sources then sources pages else [])
listed_sources with_sources pages sorted = grind (arith, missing_sources)

pub text_same : (with_queues with_sources : Bool) (pages : List PageResult) (counts : List ℕ) → IsSortedByKey (λ r. r.url) (slice_cmp nat_cmp) pages → text_with with_queues with_sources pages counts ≡ listed_text with_queues with_sources pages counts
text_same with_queues with_sources pages counts sorted =
    let queues = rows.queue_lines (if with_queues then counts else []) in
    let from = rows.source_lines (if with_sources then listed.First else listed.None) false pages in
    let lines : List Line → List ℕ = flat_map text_line in
    let results' : lines (result_lines pages) ≡ flat_map result_line (results_by_url pages) = same_results pages ∙ ap (flat_map result_line) (in_order pages sorted) in
    let last : lines from ≡ (if with_sources then sources pages else []) = listed_sources with_sources pages sorted in
    ap (λ t. lines (result_lines pages ++ (total_of pages ∷ queues) ++ t)) (append-nil from)
    ∙ flat_map-append text_line (result_lines pages ++ (total_of pages ∷ queues)) from
    ∙ ap (λ t. t ++ lines from) (flat_map-append text_line (result_lines pages) (total_of pages ∷ queues))
    ∙ (λ i. (results' i ++ (total_line pages ++ listed_queues with_queues counts i)) ++ last i)
    ∙ ap (λ t. t ++ (if with_sources then sources pages else [])) (sym (append_assoc (flat_map result_line (results_by_url pages)) (total_line pages) (if with_queues then queue_lines counts else [])))
