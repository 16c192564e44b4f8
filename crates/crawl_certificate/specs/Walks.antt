-- What a pass finds over results that are in the order of the entries.
use Rattle.std.specs.Prelude.{◌≡◌, ℕ, ◌+◌, ◌<◌, ◌^◌, Bool, true, List, length, slice_get, Some}
use Rattle.crawl_queues.specs.declared.entry.Entry.{Entry}
use Rattle.crawl_pages.specs.declared.page.PageResult.{PageResult}
use Rattle.crawl_certificate.specs.CertErrors.{is_linked}
use Rattle.crawl_certificate.specs.Lookups.{has_url_at}
use Rattle.crawl_certificate.specs.Marks.{MarksOnly}

-- from this index on, the URLs of the entries are those of the results, in order
abbrev pub AreFrom : List Entry → ℕ → List PageResult → Type 0
AreFrom entries first results = (k : ℕ) (r : PageResult) → slice_get results k ≡ Some r → has_url_at entries (first + k) r.url ≡ true

-- the results have the URLs of the entries from `first` on, if a u64 can count them; and to each marked entry a result of an entry
-- with one hop less links
pub record IsWalk (entries : List Entry) (first : ℕ) (results : List PageResult) (marks : List Bool) : Type 0 where
  pub long : length marks ≡ length entries
  pub own : first + length results < 2 ^ 64 → AreFrom entries first results
  pub only : MarksOnly (is_linked entries results) entries marks
