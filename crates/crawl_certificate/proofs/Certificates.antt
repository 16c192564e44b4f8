-- What is true of the pages of a run's account, from its verdict and its order.
use Rattle.crawl_certificate.proofs.Prelude.{◌≡◌, ℕ, Bool, List, None, subst, take, slice_cmp, nat_cmp, All, IsPermutation, IsSortedByKey, Entry, AccountId, subqueue_of, PageResult, entries_of, DifferByUrl, first_error, entry_urls, result_urls, IsAscending, AreReachable, CountsOf, AreQueues, WalkOf, page_in}
use Rattle.crawl_certificate.proofs.Crawls.{pages_reached, own_pages, pages_ascend, one_each, entries_walk}
use Rattle.crawl_certificate.proofs.KeptRules.{account_counts}
use Rattle.crawl_certificate.proofs.Order.{ascends}

-- the pages are those of a certified run
pub record AreCertified (account : AccountId) (allowed : List ℕ → Bool) (seeds : List (List ℕ)) (results pages : List PageResult) : Type 0 where
  pub error : first_error allowed seeds (entries_of account) results ≡ None
  pub ascends : IsAscending (result_urls pages)
  pub one_each : IsPermutation (entry_urls (entries_of account)) (result_urls pages)
  pub counts : CountsOf account (result_urls pages)
  pub reached : AreReachable (page_in results) allowed seeds (result_urls pages)
  pub hops : All (λ e. WalkOf (page_in results) allowed seeds e.hops e.url) (entries_of account)

-- the entries that were checked are those of the account
pub certified : (account : AccountId) (allowed : List ℕ → Bool) (seeds : List (List ℕ)) (entries : List Entry) (results pages : List PageResult)
    → entries ≡ entries_of account → DifferByUrl (entries_of account) → AreQueues (λ url. subqueue_of url account.workers) (take account.workers account.queues)
    → first_error allowed seeds entries results ≡ None → IsPermutation results pages → IsSortedByKey (λ r. r.url) (slice_cmp nat_cmp) pages
    → AreCertified account allowed seeds results pages
certified account allowed seeds entries results pages all apart queues verdict moved sorted =
    let none = subst (λ es. first_error allowed seeds es results ≡ None) all verdict in
    let each = one_each allowed seeds (entries_of account) results pages none apart moved in
    record {
      error = none;
      ascends = pages_ascend allowed seeds (entries_of account) results pages none moved sorted;
      one_each = each;
      counts = account_counts account (result_urls pages) queues each;
      reached = pages_reached (page_in results) allowed seeds (entries_of account) results pages none moved (own_pages allowed seeds (entries_of account) results none);
      hops = entries_walk allowed seeds (entries_of account) results none;
    }
