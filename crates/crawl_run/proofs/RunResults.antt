-- From the ends of a run to its results, and from an account to its counts.
use Rattle.crawl_run.proofs.Prelude.{◌≡◌, ◌⊎◌, inl, inr, ℕ, ◌+◌, Bool, List, [], ◌∷◌, ◌++◌, length, slice_get, Option, Some, sym, ap, ◌∙◌, arith, length-append, cases_lt, All-nil, All-append, ArePages, CountsOf, first_error, CertError, IsCulprit, shows_error, no_memory, Culprit, get_last, AccountId, WorkerId, Entry, Page, PageResult, AllRan, WorkerEnd, AreCounts, ComesIn, CountedBelow, IsJudged, IsJudgedAt, IsOfRun, of_cert, all_found, get_before}
use Rattle.crawl_run.specs.declared.error.CrawlError.{CrawlError}
use Rattle.crawl_certificate.specs.declared.error.CertError.TheVariants as cert
use Rattle.crawl_run.specs.declared.settings.Mode.{Mode}
use Rattle.crawl_run.specs.declared.error.CrawlError.TheVariants as wrong

-- every result of every worker has the page that its URL means
pub all_pages : {K : _} (workers : ℕ) (allowed : List ℕ → Bool) (meaning : List ℕ → Page) (starts : List WorkerId) (ends : List (WorkerEnd K)) → AllRan workers allowed meaning starts ends → ArePages meaning (all_found ends)
all_pages {K} workers allowed meaning [] [] ran = All-nil (λ (r : PageResult). r.page ≡ meaning r.url)
all_pages {K} workers allowed meaning (s ∷ ss) (e ∷ es) ran = All-append (λ (r : PageResult). r.page ≡ meaning r.url) e.results.items (all_found es) ran.0.0.pages (all_pages workers allowed meaning ss es ran.1)
all_pages {K} workers allowed meaning starts ends ran = absurd ran

-- ---- counts

pub one_more_counted : (some : ℕ) (account : AccountId) (counts : List ℕ) (entries : List Entry) → CountedBelow some account counts → slice_get account.queues some ≡ Some entries → CountedBelow (some + 1) account (counts ++ length entries ∷ [])
one_more_counted some account counts entries counted at = record {
  len = length-append counts (length entries ∷ []) ∙ ap (λ n. n + 1) counted.len;
  each = λ queue below. elim (cases_lt queue some) [
    | inl less ↦
        let old = counted.each queue less in
        (old.0, (old.1.0, get_before counts (length entries) (length old.0) queue old.1.1))
    | inr not_before ↦
        let last : queue ≡ some = omega (arith, below, not_before) in
        (entries, (ap (slice_get account.queues) last ∙ at, ap (slice_get (counts ++ length entries ∷ [])) (last ∙ sym counted.len) ∙ get_last counts (length entries)))
  ];
}

-- the numbers of entries are the counts of the URLs
pub urls_counted : (account : AccountId) (urls : List (List ℕ)) (counts : List ℕ) → CountedBelow account.workers account counts → CountsOf account urls → AreCounts account.workers urls counts
urls_counted account urls counts counted own = record {
  len = counted.len;
  each = λ queue below.
      let here = counted.each queue below in
      here.1.1 ∙ ap Some (sym (own queue here.0 below here.1.0));
}

-- ---- the error of a certificate

-- a culprit of these entries and results, as the crawl reports it
pub culprit_judged : (meaning : List ℕ → Page) (allowed : List ℕ → Bool) (seeds : List (List ℕ)) (entries : List Entry) (results : List PageResult) (culprit : Culprit) → ArePages meaning results
    → IsCulprit (first_error allowed seeds entries results) (shows_error allowed seeds entries results) culprit ⊎ (culprit ≡ no_memory) → IsJudgedAt meaning allowed seeds (of_cert culprit.cause) culprit.url
culprit_judged meaning allowed seeds entries results culprit means reported = grind arith

-- the cause of a culprit is an error of a run
pub cause_of_run : (cause : CertError) → IsOfRun (of_cert cause)
cause_of_run cause = grind arith

-- and it can occur in either mode
pub cause_comes : (mode : Mode) (cause : CertError) → ComesIn mode (of_cert cause)
cause_comes mode cause = grind arith

-- likewise for the error without its URL
pub judged_on_one_worker : (meaning : List ℕ → Page) (allowed : List ℕ → Bool) (seeds : List (List ℕ)) (error : CrawlError) (culprit : Option (List ℕ)) → IsJudgedAt meaning allowed seeds error culprit → IsJudged meaning allowed seeds error
judged_on_one_worker meaning allowed seeds error culprit at = grind arith
