-- What the account of a run in which nothing is lost contains.
use Rattle.std.specs.Prelude.{◌≡◌, ℕ, Bool, true, IsTrue, List, map, All}
use Rattle.crawl_keys.specs.Assignment.{subqueue_of}
use Rattle.crawl_pages.specs.declared.page.PageResult.{PageResult}
use Rattle.crawl_queues.specs.declared.entry.Entry.{Entry}
use Rattle.crawl_queues.specs.Entries.{has_url}
use Rattle.crawl_frontier.specs.Accounts.{At}

-- the URLs of results, and of entries, in order
abbrev pub result_urls : List PageResult → List (List ℕ)
result_urls results = map (λ r. r.url) results

abbrev pub entry_urls : List Entry → List (List ℕ)
entry_urls entries = map (λ e. e.url) entries

-- the URL is in the list of the URLs that its subqueue accepted
pub record IsAccepted (workers : ℕ) (queues : List (List Entry)) (url : List ℕ) : Type 0 where
  pub list : List Entry
  pub at : At queues (subqueue_of url workers) list
  pub has : has_url url list ≡ true

-- each of these URLs that is allowed is accepted
abbrev pub AllAccepted : ℕ → (List ℕ → Bool) → List (List Entry) → List (List ℕ) → Type 0
AllAccepted workers allowed queues urls = All (λ url. IsTrue (allowed url) → IsAccepted workers queues url) urls
