-- A crawl of a source that has the pages of a saved web.
use Rattle.mercator_site.proofs.Prelude.{common_steps, get_or, sym, subst, ◌∙◌, arith, false, not, ◌&&◌, IsCrawl, resolve, allows, host_key, PageResult, AreAliasesIn, AreStarts, IsTopCrawl, is_left_out, starts, IsTopIncomplete, IsUnfinished, is_unfinished, of_crawl, of_crawl_by, AreOwn, IsSiteSource, PageFound, page_at, Alias}
use Rattle.std.specs.Prelude.{◌≡◌, ℕ, Bool, true, List, [], ◌∷◌, ◌++◌, map, Option, Some, None, is_some, Result, Ok, Err, IfErr, IfOk, IfSome}
use Rattle.std.proofs.Common.{true≢false}
use Rattle.std.specs.Str.Lines.{lines}
use Rattle.saved_pages.specs.SavedWeb.{page_of}
use Rattle.crawl_pages.specs.declared.page.Page.{Page}
use Rattle.crawl_run.specs.Crawls.{CrawlFails, is_incomplete}
use Rattle.crawl_run.specs.declared.crawled.Crawled.{Crawled}
use Rattle.crawl_run.specs.declared.failure.CrawlFailure.{CrawlFailure}
use Rattle.crawl_run.specs.declared.error.CrawlError.{CrawlError}
use Rattle.crawl_run.specs.declared.error.CrawlError.TheVariants as crawl
use Rattle.mercator_site.specs.Checks.{AreReached, reached_by}
use Rattle.mercator_site.specs.Sources.{IsSourceOf}
use Rattle.mercator_site.specs.Starts.{documents_in}
use Rattle.mercator_site.specs.declared.error.FolderError.{FolderError}
use Rattle.saved_site.specs.Aliases.{AreAliases}
use Rattle.saved_site.specs.AllPages.{HasAllPages, IsWebOf}
use Rattle.saved_site.specs.Served.{AreServed, IsServedPage}
use Rattle.site_files.specs.declared.files.SiteFiles.{SiteFiles}

-- the pages of a site are those of its saved web
pub source_of : (top : List ℕ) (pages : List PageFound) (source : IsSiteSource top pages) → IsSourceOf (page_at pages) source.bytes
source_of top pages source = record { sound = source.web.sound; same = source.same }

-- aliases among the pages of a source are aliases in its saved web
pub aliases_in : (pages : List PageFound) (web : List ℕ) (aliases : List Alias) → IsSourceOf (page_at pages) web → AreAliases pages aliases → AreAliasesIn web aliases
aliases_in pages web aliases source are = λ k d below. sym (source.same (get_or aliases k d).url) ∙ are k d below

-- what a crawl says of a meaning it says of a meaning that is the same at each URL
crawl_of_same : (meaning other : List ℕ → Page) (allowed : List ℕ → Bool) (seeds : List (List ℕ)) (pages : List PageResult) → ((url : List ℕ) → meaning url ≡ other url) → IsCrawl meaning allowed seeds pages → IsCrawl other allowed seeds pages
crawl_of_same meaning other allowed seeds pages same crawl =
    let both : meaning ≡ other = λ i url. same url i in
    subst (λ m. IsCrawl m allowed seeds pages) both crawl

-- the starts of a check of a source are those of its saved web
pub starts_in : (meaning : List ℕ → Page) (web : List ℕ) (top : List ℕ) (reachable : Bool) (links begun : List (List ℕ)) → IsSourceOf meaning web
    → map (resolve top) (starts (is_left_out reachable (meaning top)) links) ≡ map Ok begun → AreOwn top begun → AreStarts top web reachable links begun
starts_in meaning web top reachable links begun source resolved own = grind (arith, common_steps)

-- what is crawled from the starts and from documents
pub top_crawl : (answer : Result Crawled FolderError) (meaning : List ℕ → Page) (top web : List ℕ) (reachable : Bool) (links begun documents seeds : List (List ℕ)) → IsSourceOf meaning web
    → AreStarts top web reachable links begun → seeds ≡ begun ++ documents → IfOk answer (λ found. IsCrawl meaning (allows (host_key top ∷ [])) seeds found.result) → IfOk answer (λ found. IsTopCrawl top web reachable links documents found.result)
top_crawl (Ok found) meaning top web reachable links begun documents seeds source started are is = record {
  begun = begun;
  started = started;
  sound = source.sound;
  found =
      crawl_of_same meaning (page_of (lines web)) (allows (host_key top ∷ [])) (begun ++ documents) found.result source.same
      (subst (λ us. IsCrawl meaning (allows (host_key top ∷ [])) us found.result) are is);
}
top_crawl (Err error) meaning top web reachable links begun documents seeds source started are is = tt

-- such a crawl that is incomplete
pub top_incomplete : (answer : Result Crawled FolderError) (meaning : List ℕ → Page) (top web : List ℕ) (reachable : Bool) (links begun : List (List ℕ)) (workers : ℕ) → IsSourceOf meaning web → AreStarts top web reachable links begun
    → IfErr answer (λ error. is_unfinished error ≡ true → IsUnfinished workers) → IfErr answer (λ error. is_unfinished error ≡ true → IsTopIncomplete top web reachable links workers)
top_incomplete (Ok found) meaning top web reachable links begun workers source started is = tt
top_incomplete (Err error) meaning top web reachable links begun workers source started is = λ two. record { begun = begun; started = started; sound = source.sound; unfinished = is two }

-- what the search of two crawls finds, or of one, which has no other starts then
pub reached_of : (reached : Option Crawled) (whole : List PageResult) (listed reachable : Bool) (site : SiteFiles) (top web : List ℕ) (links : List (List ℕ)) → is_some reached ≡ (not reachable && listed)
    → IfSome reached (λ crawled. IsTopCrawl top web reachable links [] crawled.result) → IsTopCrawl top web reachable links (documents_in reachable site top) whole → AreReached listed top web reachable links (reached_by reached whole listed)
reached_of (Some found) whole true reachable site top web links is search all = search
reached_of (Some found) whole false true site top web links is search all = absurd (true≢false is)
reached_of (Some found) whole false false site top web links is search all = absurd (true≢false is)
reached_of None whole true true site top web links is search all = all
reached_of None whole true false site top web links is search all = absurd (true≢false (sym is))
reached_of None whole false reachable site top web links is search all = tt

-- an unfinished check has an incomplete crawl
unfinished_by : (error : CrawlError) (failure : CrawlFailure) → is_unfinished (of_crawl_by error failure) ≡ true → is_incomplete failure.error ≡ true
unfinished_by error failure is = grind (arith, common_steps)

pub unfinished_of : (workers max : ℕ) (failure : CrawlFailure) → CrawlFails workers max failure.error → is_unfinished (of_crawl failure) ≡ true → IsUnfinished workers
unfinished_of workers max failure fails two = record { max = max; error = failure.error; incomplete = unfinished_by failure.error failure two; fails = fails }
