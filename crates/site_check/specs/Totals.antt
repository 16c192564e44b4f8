-- The totals of a check: of a crawl's results, and of the rows that are printed.
use Rattle.std.specs.Prelude.{ℕ, ◌+◌, ◌-◌, ◌^◌, Bool, true, false, ◌||◌, if◌then◌else◌, List, length, count_by, sum_by, min, max}
use Rattle.check_report.specs.declared.value.Broken.{Broken}
use Rattle.check_report.specs.declared.value.Kind.{Kind}
use Rattle.check_report.specs.declared.value.Kind.TheVariants.{NoPage, NoAnchor, NotUrl, UnknownScheme, LocalFile, Leaves, OutsideBase, NotInMap}
use Rattle.check_report.specs.declared.value.Redirect.{Redirect}
use Rattle.check_report.specs.declared.value.Totals.{Totals}
use Rattle.crawl_pages.specs.declared.page.Page.{Page}
use Rattle.crawl_pages.specs.declared.page.Page.TheVariants.{Found, Moved, Missing}
use Rattle.crawl_pages.specs.declared.page.PageResult.{PageResult}
use Rattle.site_files.specs.declared.alias.Alias.{Alias}
use Rattle.site_check.specs.Aliases.{is_alias, is_alias_page, is_document, is_document_page, is_file_page, is_own_page}

-- a count stops at the greatest number of 64 bits
abbrev pub capped : ℕ → ℕ
capped n = min n (2 ^ 64 - 1)

-- the number of links in a page, with those that lead to no URL
abbrev pub links_in : Page → ℕ
links_in (Found links skipped) = length links + skipped
links_in (Moved to) = 0
links_in Missing = 0

-- the links of a page at the own URL of a file; `is_other` is true of aliases
abbrev pub own_links : (List ℕ → Bool) → PageResult → ℕ
own_links is_other r = if is_own_page is_other r then links_in r.page else 0

abbrev pub link_count : (List ℕ → Bool) → List PageResult → ℕ
link_count is_other results = capped (sum_by (own_links is_other) results)

-- a row is that of a missing page, of a missing anchor, of an invalid link, or of a URL outside the site

abbrev pub is_page : Kind → Bool
is_page NoPage = true
is_page _ = false

abbrev pub is_anchor : Kind → Bool
is_anchor NoAnchor = true
is_anchor _ = false

abbrev pub is_missing : Kind → Bool
is_missing kind = is_page kind || is_anchor kind

abbrev pub is_invalid : Kind → Bool
is_invalid NotUrl = true
is_invalid UnknownScheme = true
is_invalid LocalFile = true
is_invalid _ = false

abbrev pub is_leaving : Kind → Bool
is_leaving Leaves = true
is_leaving OutsideBase = true
is_leaving NotInMap = true
is_leaving _ = false

-- the number of locations of such rows
abbrev pub places_if : (Kind → Bool) → Broken → ℕ
places_if test b = if test b.kind then length b.places.items else 0

abbrev pub place_count : (Kind → Bool) → List Broken → ℕ
place_count test broken = capped (sum_by (places_if test) broken)

-- the same, if a row without locations is one of one link
abbrev pub links_if : (Kind → Bool) → Broken → ℕ
links_if test b = if test b.kind then max (length b.places.items) 1 else 0

abbrev pub row_links : (Kind → Bool) → List Broken → ℕ
row_links test broken = capped (sum_by (links_if test) broken)

abbrev pub anchor_count : List Broken → ℕ
anchor_count broken = count_by (λ b. is_anchor b.kind) broken

abbrev pub url_count : List Broken → ℕ
url_count broken = count_by (λ b. is_page b.kind) broken

-- the documents and the other files at their own URLs and their links, the pages at aliases, and the rows; `is_other` is true of
-- aliases, and `is_text` of documents
abbrev pub totals_by : (List ℕ → Bool) → (List ℕ → Bool) → List PageResult → List Broken → List Redirect → Totals
totals_by is_other is_text results broken redirects =
    record {
      pages = count_by (is_document_page is_other is_text) results;
      files = count_by (is_file_page is_other is_text) results;
      aliases = count_by (is_alias_page is_other) results;
      links = link_count is_other results;
      broken_links = place_count is_missing broken;
      broken_urls = url_count broken;
      broken_anchors = anchor_count broken;
      invalid_links = row_links is_invalid broken;
      leaving_links = row_links is_leaving broken;
      moved = length redirects;
    }

abbrev pub totals_of : List Alias → List (List ℕ) → List PageResult → List Broken → List Redirect → Totals
totals_of aliases documents results broken redirects = totals_by (is_alias aliases) (is_document documents) results broken redirects
