-- A crawl of a saved web, from its bytes to the report.
use Rattle.std.specs.Prelude.{◌≡◌, ℕ, ◌+◌, Bool, false, if◌then◌else◌, List, [], ◌∷◌, ◌++◌, ◌≤◌, length, map, Ok, Err, IsOk, String, Vec, flat_map, IsPermutation, IsSortedByKey}
use Rattle.std.specs.declared.alloc.Global.{Global}
use Rattle.std.specs.Cmp.Lexicographic.{slice_cmp}
use Rattle.std.specs.Ordering.{nat_cmp}
use Rattle.std.specs.Str.Lines.{lines}
use Rattle.crawl_keys.specs.CanonicalText.{canonical}
use Rattle.crawl_report.specs.Json.{printed_line}
use Rattle.crawl_report.specs.ReportText.{report}
use Rattle.crawl_report.specs.Rows.{plain_sections, rows_with}
use Rattle.crawl_report.specs.Today.{listed_text}
use Rattle.crawl_report.specs.Unreached.{unreached_of}
use Rattle.crawl_report.specs.declared.sections.Sections.{Sections}
use Rattle.crawl_sources.specs.Seeds.{seeds_in}
use Rattle.saved_pages.specs.SavedWeb.{page_of, page_urls}
use Rattle.crawl_keys.specs.declared.error.KeyError.{KeyError}
use Rattle.saved_pages.specs.WebErrors.{IsSound, IsWebError}
use Rattle.mercator.specs.declared.commands.error.CommandError.{CommandError}
use Rattle.mercator.specs.declared.commands.error.CommandError.TheVariants as wrong
use Rattle.mercator.specs.declared.commands.planned.CrawlOptions.{CrawlOptions}
use Rattle.crawl_certificate.specs.Certificate.{IsCrawl, result_urls}
use Rattle.crawl_keys.specs.HostFilter.{allows}
use Rattle.crawl_run.specs.Crawls.{AreCounts, ComesIn, CrawlFails, IsJudgedAt}
use Rattle.crawl_run.specs.JudgedRuns.{CountsLosses}
use Rattle.crawl_run.specs.Losses.{IsLost}
use Rattle.crawl_run.specs.declared.crawled.Crawled.{Crawled}
use Rattle.crawl_run.specs.declared.failure.CrawlFailure.{CrawlFailure}
use Rattle.crawl_run.specs.declared.settings.Mode.{Mode}
use Rattle.crawl_pages.specs.declared.page.PageResult.{PageResult}

-- what the plan of a crawl asks for
pub record CrawlPlan : Type 0 where
  pub workers : ℕ
  pub max : ℕ
  pub queues : Bool
  pub file : String Global
  pub seeds : Vec (String Global) Global
  pub options : CrawlOptions

-- these are the canonical URLs of the texts
abbrev pub AreSeeds : List (List ℕ) → List (List ℕ) → Type 0
AreSeeds texts seeds = map canonical texts ≡ map Ok seeds

-- these are the seeds of a crawl: those of a seeds file with the bytes listed, and then those of the texts. A crawl without such
-- a file has the seeds of no bytes, which are none
pub record AreAllSeeds (listed : List ℕ) (texts seeds : List (List ℕ)) : Type 0 where
  pub first : List (List ℕ)
  pub others : List (List ℕ)
  pub filed : seeds_in (lines listed) ≡ Ok first
  pub named : AreSeeds texts others
  pub joined : seeds ≡ first ++ others

-- the bytes are a saved web, those listed a seeds file, each seed has a canonical URL, and there is at least one
pub record IsBegun (bytes listed : List ℕ) (texts : List (List ℕ)) : Type 0 where
  pub sound : IsSound (lines bytes)
  pub seeds : List (List ℕ)
  pub named : AreAllSeeds listed texts seeds
  pub some : 1 ≤ length seeds

-- the seed with this number, counted from 1, is the first that has no canonical URL, by this refusal
pub record IsFirstBadSeed (texts : List (List ℕ)) (number : ℕ) (refusal : KeyError) : Type 0 where
  pub front : List (List ℕ)
  pub text : List ℕ
  pub rest : List (List ℕ)
  pub split : texts ≡ front ++ text ∷ rest
  pub counted : number ≡ length front + 1
  pub seeds : List (List ℕ)
  pub named : AreSeeds front seeds
  pub refused : canonical text ≡ Err refusal

-- why seeds are refused: by the first that has no canonical URL, or out of memory
abbrev pub IsSeedError : List (List ℕ) → CommandError → Type 0
IsSeedError texts (wrong.Seed number refusal) = IsFirstBadSeed texts number refusal
IsSeedError texts wrong.NoMemory = Unit {0}
IsSeedError texts _ = ⊥

-- why there are no web and seeds, in this order: the bytes are no saved web, by this error; those listed are no seeds file, by
-- this error; the first text that has no canonical URL, by its refusal; or out of memory
abbrev pub IsUnread : List ℕ → List ℕ → List (List ℕ) → CommandError → Type 0
IsUnread bytes listed texts (wrong.Web error) = IsWebError (lines bytes) error
IsUnread bytes listed texts (wrong.Seeds error) = IsSound (lines bytes) × (seeds_in (lines listed) ≡ Err error)
IsUnread bytes listed texts (wrong.Seed number refusal) = IsSound (lines bytes) × IsOk (seeds_in (lines listed)) × IsFirstBadSeed texts number refusal
IsUnread bytes listed texts wrong.NoMemory = Unit {0}
IsUnread bytes listed texts _ = ⊥

-- the bytes are a saved web, and a run of this many workers over it from the seeds failed so: an error of the certificate has the
-- least URL with this error, and what was lost
pub record IsSiteFailure (workers : ℕ) (bytes listed : List ℕ) (texts suffixes : List (List ℕ)) (failure : CrawlFailure) : Type 0 where
  pub sound : IsSound (lines bytes)
  pub seeds : List (List ℕ)
  pub named : AreAllSeeds listed texts seeds
  pub judged : IsJudgedAt (page_of (lines bytes)) (allows suffixes) seeds failure.error failure.culprit
  pub lost : IsLost failure.error failure.losses
  pub counted : CountsLosses workers (allows suffixes) (page_of (lines bytes)) seeds failure.error failure.culprit failure.losses

-- why a crawl with these numbers finds no pages, in this order: there are no web and seeds; there is no seed; or the crawl failed
abbrev pub IsUnbegun : ℕ → ℕ → List ℕ → List ℕ → List (List ℕ) → List (List ℕ) → CommandError → Type 0
IsUnbegun workers max bytes listed texts suffixes wrong.NoSeed = IsSound (lines bytes) × AreAllSeeds listed texts []
IsUnbegun workers max bytes listed texts suffixes (wrong.Crawl failure) = IsBegun bytes listed texts × CrawlFails workers max failure.error × IsSiteFailure workers bytes listed texts suffixes failure
IsUnbegun workers max bytes listed texts suffixes error = IsUnread bytes listed texts error

-- why there is no report of a crawl with these numbers, in this order: there are no web and seeds; or the crawl failed
abbrev pub IsRefused : ℕ → ℕ → List ℕ → List (List ℕ) → List (List ℕ) → CommandError → Type 0
IsRefused workers max bytes texts suffixes (wrong.Crawl failure) = CrawlFails workers max failure.error × IsSiteFailure workers bytes [] texts suffixes failure
IsRefused workers max bytes texts suffixes error = IsUnread bytes [] texts error

-- an error that a crawl in this mode can end by: workers that take turns never lack a thread
abbrev pub ComesOf : Mode → CommandError → Type 0
ComesOf mode (wrong.Crawl failure) = ComesIn mode failure.error
ComesOf mode _ = Unit {0}

-- the bytes are a saved web, and these are its pages at exactly the URLs that can be reached from the seeds by URLs that the
-- filter with these suffixes allows
pub record IsSiteCrawl (bytes listed : List ℕ) (texts suffixes : List (List ℕ)) (pages : List PageResult) : Type 0 where
  pub sound : IsSound (lines bytes)
  pub seeds : List (List ℕ)
  pub named : AreAllSeeds listed texts seeds
  pub found : IsCrawl (page_of (lines bytes)) (allows suffixes) seeds pages

-- this was found: those pages, and for each subqueue how many of their URLs belong to it
pub record IsFound (workers : ℕ) (bytes listed : List ℕ) (texts suffixes : List (List ℕ)) (found : Crawled) : Type 0 where
  pub crawl : IsSiteCrawl bytes listed texts suffixes found.result
  pub counted : AreCounts workers (result_urls found.result) found.counts.items

-- the text is the report of the pages that can be reached from the seeds of the texts
pub record IsCrawlReport (bytes : List ℕ) (texts suffixes : List (List ℕ)) (text : List ℕ) : Type 0 where
  pub pages : List PageResult
  pub crawl : IsSiteCrawl bytes [] texts suffixes pages
  pub written : text ≡ report pages

-- ---- what is printed of a crawl

-- the URLs of the pages of a saved web with these lines, if the report lists those that no result has
abbrev pub pages_to_list : Sections → List (List ℕ) → List (List ℕ)
pages_to_list sections lines = if sections.unreached then page_urls lines else []

-- of these URLs, those that no result has, of hosts that the filter with these suffixes allows, in ascending order
pub record AreUnreached (known suffixes : List (List ℕ)) (pages : List PageResult) (urls : List (List ℕ)) : Type 0 where
  pub same : IsPermutation (unreached_of (allows suffixes) pages known) urls
  pub ascends : IsSortedByKey (λ url. url) (slice_cmp nat_cmp) urls

-- the text of pages, counts and unreached pages, with the sections that the plan asks for
abbrev pub printed_with : CrawlPlan → List PageResult → List ℕ → List (List ℕ) → List ℕ
printed_with plan pages counts unreached =
    flat_map (printed_line plan.options.json) (rows_with plan.options.sections pages (if plan.queues then counts else []) unreached)

-- the text has the pages and counts of a crawl; among the URLs `known` are the pages that no result has
pub record IsTextOf (plan : CrawlPlan) (known suffixes : List (List ℕ)) (pages : List PageResult) (counts text : List ℕ) : Type 0 where
  pub unreached : List (List ℕ)
  pub unseen : AreUnreached known suffixes pages unreached
  pub written : text ≡ printed_with plan pages counts unreached

-- the text is that of such a crawl
pub record IsCrawlText (workers : ℕ) (plan : CrawlPlan) (bytes listed : List ℕ) (texts suffixes : List (List ℕ)) (text : List ℕ) : Type 0 where
  pub pages : List PageResult
  pub crawl : IsSiteCrawl bytes listed texts suffixes pages
  pub counts : List ℕ
  pub counted : AreCounts workers (result_urls pages) counts
  pub output : IsTextOf plan (pages_to_list plan.options.sections (lines bytes)) suffixes pages counts text

-- ---- the text of a crawl that asks for no more than the lines of queues and of sources

-- the text is that of such a crawl
pub record IsBasicText (workers : ℕ) (with_queues with_sources : Bool) (bytes listed : List ℕ) (texts suffixes : List (List ℕ)) (text : List ℕ) : Type 0 where
  pub pages : List PageResult
  pub crawl : IsSiteCrawl bytes listed texts suffixes pages
  pub counts : List ℕ
  pub counted : AreCounts workers (result_urls pages) counts
  pub written : text ≡ listed_text with_queues with_sources pages counts

-- no more is requested
pub record IsPlain (with_sources : Bool) (plan : CrawlPlan) : Type 0 where
  pub sections : plan.options.sections ≡ plain_sections with_sources
  pub json : plan.options.json ≡ false
