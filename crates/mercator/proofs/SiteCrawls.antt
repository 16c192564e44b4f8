-- The pages of a saved web that can be reached are one list, and so its report is one text.
use Rattle.mercator.proofs.Prelude.{◌≡◌, ℕ, ◌≤◌, Bool, List, [], ◌∷◌, length, map, Result, Ok, refl, sym, ap, subst, ◌∙◌, arith, IsCrawl, result_urls, allows, KeyError, page_of, PageResult, lines, AreCounts, ComesIn, CrawlFails, IsJudgedAt, AreAllSeeds, ComesOf, IsBegun, IsCrawlReport, IsFound, IsRefused, IsSiteCrawl, IsSiteFailure, IsUnbegun, IsUnread, of_crawl, of_crawl_by, CommandError, Crawled, CrawlError, CrawlFailure}
use Rattle.crawl_certificate.proofs.OneCrawl.{one_crawl}
use Rattle.crawl_pages.specs.declared.page.Page.{Page}
use Rattle.saved_pages.specs.WebErrors.{IsSound}
use Rattle.crawl_report.specs.ReportText.{report}
use Rattle.crawl_run.specs.JudgedRuns.{CountsLosses}
use Rattle.crawl_run.specs.Losses.{IsLost}
use Rattle.mercator.specs.declared.commands.error.CommandError.TheVariants as wrong
use Rattle.crawl_run.specs.declared.error.CrawlError.TheVariants as crawl
use Rattle.crawl_run.specs.declared.settings.Mode.{Mode}

-- of texts that are all canonical, there is one list of URLs
abbrev as_ok : List ℕ → Result (List ℕ) KeyError
as_ok url = Ok url

same_oks : (xs ys : List (List ℕ)) → map as_ok xs ≡ map as_ok ys → xs ≡ ys
same_oks [] [] same = refl
same_oks [] (y ∷ ys) same = absurd (cc)
same_oks (x ∷ xs) [] same = absurd (cc)
same_oks (x ∷ xs) (y ∷ ys) same = grind (arith, same_oks xs ys)

-- what a crawl says of a meaning it says of a meaning that is the same at each URL
pub crawl_of_same : (meaning other : List ℕ → Page) (allowed : List ℕ → Bool) (seeds : List (List ℕ)) (pages : List PageResult) → ((url : List ℕ) → meaning url ≡ other url) → IsCrawl meaning allowed seeds pages → IsCrawl other allowed seeds pages
crawl_of_same meaning other allowed seeds pages same crawl =
    let both : meaning ≡ other = λ i url. same url i in
    subst (λ m. IsCrawl m allowed seeds pages) both crawl

-- a crawl of a saved web by its pages is what is found of its bytes
pub found_of : (workers : ℕ) (bytes listed : List ℕ) (texts suffixes : List (List ℕ)) (meaning : List ℕ → Page) (seeds : List (List ℕ)) (found : Crawled) → IsSound (lines bytes) → ((url : List ℕ) → meaning url ≡ page_of (lines bytes) url)
    → AreAllSeeds listed texts seeds → IsCrawl meaning (allows suffixes) seeds found.result → AreCounts workers (result_urls found.result) found.counts.items → IsFound workers bytes listed texts suffixes found
found_of workers bytes listed texts suffixes meaning seeds found sound same named crawl counted = record {
  crawl = record {
    sound = sound;
    seeds = seeds;
    named = named;
    found = crawl_of_same meaning (page_of (lines bytes)) (allows suffixes) seeds found.result same crawl;
  };
  counted = counted;
}

-- a crawl of the saved web that failed so
failed_of : (workers max : ℕ) (bytes listed : List ℕ) (texts suffixes : List (List ℕ)) (failure : CrawlFailure) (error : CrawlError) → failure.error ≡ error → IsBegun bytes listed texts → CrawlFails workers max failure.error
    → IsSiteFailure workers bytes listed texts suffixes failure → IsUnbegun workers max bytes listed texts suffixes (of_crawl_by error failure)
failed_of workers max bytes listed texts suffixes failure error is begun fails failed = grind arith

-- by a meaning that is the same at each URL
pub unbegun_of : (workers max : ℕ) (bytes listed : List ℕ) (texts suffixes : List (List ℕ)) (meaning : List ℕ → Page) (seeds : List (List ℕ)) (failure : CrawlFailure) → IsSound (lines bytes) → ((url : List ℕ) → meaning url ≡ page_of (lines bytes) url)
    → AreAllSeeds listed texts seeds → 1 ≤ length seeds → CrawlFails workers max failure.error → IsJudgedAt meaning (allows suffixes) seeds failure.error failure.culprit → IsLost failure.error failure.losses
    → CountsLosses workers (allows suffixes) meaning seeds failure.error failure.culprit failure.losses → IsUnbegun workers max bytes listed texts suffixes (of_crawl failure)
unbegun_of workers max bytes listed texts suffixes meaning seeds failure sound same named some fails judged lost counted =
    let both : meaning ≡ page_of (lines bytes) = λ i url. same url i in
    failed_of workers max bytes listed texts suffixes failure failure.error refl (record { sound = sound; seeds = seeds; named = named; some = some }) fails
    (record {
      sound = sound;
      seeds = seeds;
      named = named;
      judged = subst (λ m. IsJudgedAt m (allows suffixes) seeds failure.error failure.culprit) both judged;
      lost = lost;
      counted = subst (λ m. CountsLosses workers (allows suffixes) m seeds failure.error failure.culprit failure.losses) both counted;
    })

-- likewise for a report
refused_by : (workers max : ℕ) (bytes : List ℕ) (texts suffixes : List (List ℕ)) (failure : CrawlFailure) (error : CrawlError) → failure.error ≡ error → CrawlFails workers max failure.error
    → IsSiteFailure workers bytes [] texts suffixes failure → IsRefused workers max bytes texts suffixes (of_crawl_by error failure)
refused_by workers max bytes texts suffixes failure error is fails failed = grind arith

pub refused_of : (workers max : ℕ) (bytes : List ℕ) (texts suffixes : List (List ℕ)) (meaning : List ℕ → Page) (seeds : List (List ℕ)) (failure : CrawlFailure) → IsSound (lines bytes) → ((url : List ℕ) → meaning url ≡ page_of (lines bytes) url)
    → AreAllSeeds [] texts seeds → CrawlFails workers max failure.error → IsJudgedAt meaning (allows suffixes) seeds failure.error failure.culprit → IsLost failure.error failure.losses
    → CountsLosses workers (allows suffixes) meaning seeds failure.error failure.culprit failure.losses → IsRefused workers max bytes texts suffixes (of_crawl failure)
refused_of workers max bytes texts suffixes meaning seeds failure sound same named fails judged lost counted =
    let both : meaning ≡ page_of (lines bytes) = λ i url. same url i in
    refused_by workers max bytes texts suffixes failure failure.error refl fails
    (record {
      sound = sound;
      seeds = seeds;
      named = named;
      judged = subst (λ m. IsJudgedAt m (allows suffixes) seeds failure.error failure.culprit) both judged;
      lost = lost;
      counted = subst (λ m. CountsLosses workers (allows suffixes) m seeds failure.error failure.culprit failure.losses) both counted;
    })

pub unread_refused : (workers max : ℕ) (bytes : List ℕ) (texts suffixes : List (List ℕ)) (error : CommandError) → IsUnread bytes [] texts error → IsRefused workers max bytes texts suffixes error
unread_refused workers max bytes texts suffixes error is = grind arith

-- the error of a crawl in a mode
comes_by : (mode : Mode) (failure : CrawlFailure) (error : CrawlError) → failure.error ≡ error → ComesIn mode failure.error → ComesOf mode (of_crawl_by error failure)
comes_by mode failure error is comes = grind arith

pub comes_of : (mode : Mode) (failure : CrawlFailure) → ComesIn mode failure.error → ComesOf mode (of_crawl failure)
comes_of mode failure comes = comes_by mode failure failure.error refl comes

pub unread_comes : (mode : Mode) (bytes : List ℕ) (texts : List (List ℕ)) (error : CommandError) → IsUnread bytes [] texts error → ComesOf mode error
unread_comes mode bytes texts error is = grind arith

-- why there are no web and seeds is why there is no crawl of them
pub unread_unbegun : (workers max : ℕ) (bytes listed : List ℕ) (texts suffixes : List (List ℕ)) (error : CommandError) → IsUnread bytes listed texts error → IsUnbegun workers max bytes listed texts suffixes error
unread_unbegun workers max bytes listed texts suffixes error is = grind arith

-- a file of seeds and texts have one list of seeds
one_seeds : (listed : List ℕ) (texts seeds others : List (List ℕ)) → AreAllSeeds listed texts seeds → AreAllSeeds listed texts others → seeds ≡ others
one_seeds listed texts seeds others own its = grind (arith, same_oks)

pub one_site_crawl : (bytes listed : List ℕ) (texts suffixes : List (List ℕ)) (pages others : List PageResult) → IsSiteCrawl bytes listed texts suffixes pages → IsSiteCrawl bytes listed texts suffixes others → pages ≡ others
one_site_crawl bytes listed texts suffixes pages others own other =
    let seeds : own.seeds ≡ other.seeds = one_seeds listed texts own.seeds other.seeds own.named other.named in
    one_crawl (page_of (lines bytes)) (allows suffixes) other.seeds pages others (subst (λ s. IsCrawl (page_of (lines bytes)) (allows suffixes) s pages) seeds own.found) other.found

pub one_report : (bytes : List ℕ) (texts suffixes : List (List ℕ)) (text other : List ℕ) → IsCrawlReport bytes texts suffixes text → IsCrawlReport bytes texts suffixes other → text ≡ other
one_report bytes texts suffixes text other own its =
    own.written ∙ ap report (one_site_crawl bytes [] texts suffixes own.pages its.pages own.crawl its.crawl) ∙ sym its.written
