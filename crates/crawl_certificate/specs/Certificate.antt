-- What a certificate states.
use Rattle.std.specs.Prelude.{◌≡◌, ◌↔◌, ℕ, ◌==◌, ◌<◌, Bool, IsTrue, List, map, length, count_by, slice_get, Option, Some, None, Result, Ok, Err, All, AllPairs, Contains}
use Rattle.std.specs.Cmp.Lexicographic.{slice_cmp}
use Rattle.std.specs.Ordering.{nat_cmp}
use Rattle.std.specs.declared.cmp.Ordering.TheVariants.{Less}
use Rattle.crawl_queues.specs.declared.entry.Entry.{Entry}
use Rattle.crawl_pages.specs.declared.page.Page.{Page}
use Rattle.crawl_pages.specs.declared.page.PageResult.{PageResult}
use Rattle.crawl_certificate.specs.declared.error.CertError.{CertError}
use Rattle.crawl_certificate.specs.declared.error.CertError.TheVariants.{NoMemory}
use Rattle.crawl_frontier.specs.Accounts.{AccountId}
use Rattle.crawl_keys.specs.Assignment.{subqueue_of}
use Rattle.crawl_keys.specs.Outcome.{Gives}
use Rattle.crawl_pages.specs.Pages.{links_of}
use Rattle.crawl_certificate.specs.Reachable.{Reachable}

-- the URLs of entries, and of results, in order
abbrev pub entry_urls : List Entry → List (List ℕ)
entry_urls entries = map (λ e. e.url) entries

abbrev pub result_urls : List PageResult → List (List ℕ)
result_urls results = map (λ r. r.url) results

-- each URL is below all later ones, byte by byte
abbrev pub IsAscending : List (List ℕ) → Type 0
IsAscending urls = AllPairs (λ a b. slice_cmp nat_cmp a b ≡ Less) urls

-- each result has the page that the source has at its URL
abbrev pub ArePages : (List ℕ → Page) → List PageResult → Type 0
ArePages meaning results = All (λ r. r.page ≡ meaning r.url) results

-- the URLs are exactly those that can be reached
abbrev pub AreReachable : (List ℕ → Page) → (List ℕ → Bool) → List (List ℕ) → List (List ℕ) → Type 0
AreReachable page allowed seeds urls = (url : List ℕ) → Contains urls url ↔ Reachable page allowed seeds url

-- for each of the account's queues, the number of its entries is that of the URLs that belong to the queue
abbrev pub CountsOf : AccountId → List (List ℕ) → Type 0
CountsOf account urls =
    (queue : ℕ) (entries : List Entry) → queue < account.workers → slice_get account.queues queue ≡ Some entries
    → count_by (λ url. subqueue_of url account.workers == queue) urls ≡ length entries

-- the pages of a whole crawl: the URLs that can be reached, each once and in ascending order, with the pages that the source has
-- there
pub record IsCrawl (meaning : List ℕ → Page) (allowed : List ℕ → Bool) (seeds : List (List ℕ)) (pages : List PageResult) : Type 0 where
  pub ascends : IsAscending (result_urls pages)
  pub means : ArePages meaning pages
  pub reached : AreReachable meaning allowed seeds (result_urls pages)

-- the error if there is one, and otherwise Ok
abbrev pub unless_error : Option CertError → Result (Unit {0}) CertError
unless_error None = Ok tt
unless_error (Some error) = Err error

-- the result is the error if there is one, and otherwise Ok; or it is out of memory
abbrev pub Reports : {T : Type 0} → Result T CertError → Option CertError → Type 0
Reports result error = Gives NoMemory (λ _. tt) result (unless_error error)

-- each allowed URL of the second list is also in the first list
abbrev pub AllowedAreIn : (List ℕ → Bool) → List (List ℕ) → List (List ℕ) → Type 0
AllowedAreIn allowed those urls = All (λ url. IsTrue (allowed url) → Contains those url) urls

-- each allowed seed and link is an entry, and each entry has a result
pub record NothingLost (allowed : List ℕ → Bool) (seed_urls : List (List ℕ)) (entries : List Entry) (results : List PageResult) : Type 0 where
  pub seeds : AllowedAreIn allowed (entry_urls entries) seed_urls
  pub fetched : All (λ e. Contains (result_urls results) e.url) entries
  pub links : All (λ r. AllowedAreIn allowed (entry_urls entries) (links_of r.page)) results
