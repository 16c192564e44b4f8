-- The report of results: a line for each in ascending order of URL, then the total.
use Rattle.std.specs.Prelude.{ℕ, ◌+◌, ◌==◌, List, [], ◌∷◌, ◌++◌, length, codes, count_by, if◌then◌else◌, flat_map, decimal}
use Rattle.crawl_pages.specs.Pages.{is_found, is_missing, is_moved}
use Rattle.crawl_pages.specs.ResultOrder.{results_by_url}
use Rattle.crawl_pages.specs.declared.page.Page.{Page}
use Rattle.crawl_pages.specs.declared.page.Page.TheVariants.{Found, Moved, Missing}
use Rattle.crawl_pages.specs.declared.page.PageResult.{PageResult}

-- ---- the lines

-- what a line says of the page at a URL: how many links it has, those that are skipped too, and how many are skipped
abbrev pub page_text : List ℕ → Page → List ℕ
page_text url (Found links skipped) = codes "ok " ++ decimal (length links + skipped) ++ codes " " ++ decimal skipped ++ codes " " ++ url
page_text url (Moved to) = codes "moved " ++ url
page_text url Missing = codes "missing " ++ url

abbrev pub result_text : PageResult → List ℕ
result_text r = page_text r.url r.page

-- how many moved, if some did
abbrev pub moved_part : ℕ → List ℕ
moved_part count = if count == 0 then [] else codes " moved " ++ decimal count

-- how many results there are, how many of them found a page, how many are missing, and how many moved, if some did
abbrev pub total_text : List PageResult → List ℕ
total_text results =
    codes "total " ++ decimal (length results) ++ codes " ok " ++ decimal (count_by (λ r. is_found r.page) results)
    ++ codes " missing " ++ decimal (count_by (λ r. is_missing r.page) results)
    ++ moved_part (count_by (λ r. is_moved r.page) results)

-- each line ends in LF
abbrev pub result_line : PageResult → List ℕ
result_line r = result_text r ++ 10 ∷ []

abbrev pub total_line : List PageResult → List ℕ
total_line results = total_text results ++ 10 ∷ []

-- ---- the report

abbrev pub report : List PageResult → List ℕ
report results = flat_map result_line (results_by_url results) ++ total_line results
