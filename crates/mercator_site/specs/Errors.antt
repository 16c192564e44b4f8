-- The errors of a check of a folder, and of its saved web.
use Rattle.std.specs.Prelude.{◌≡◌, ℕ, Bool, true, false, List, string_bytes}
use Rattle.std.specs.Str.Lines.{lines}
use Rattle.crawl_run.specs.Crawls.{CrawlFails, is_incomplete}
use Rattle.crawl_run.specs.declared.error.CrawlError.{CrawlError}
use Rattle.crawl_run.specs.declared.error.CrawlError.TheVariants as crawl
use Rattle.crawl_run.specs.declared.failure.CrawlFailure.{CrawlFailure}
use Rattle.saved_pages.specs.WebErrors.{IsSound}
use Rattle.mercator_site.specs.Asks.{seeds_of}
use Rattle.mercator_site.specs.Starts.{AreStarts}
use Rattle.mercator_site.specs.declared.options.CheckOptions.{CheckOptions}
use Rattle.mercator_site.specs.declared.error.FolderError.{FolderError}
use Rattle.mercator_site.specs.declared.error.FolderError.TheVariants as wrong
use Rattle.saved_site.specs.Meaning.{IsSiteWeb}
use Rattle.site_check.specs.declared.check_error.CheckError.{CheckError}
use Rattle.site_check.specs.declared.check_error.CheckError.TheVariants as unchecked
use Rattle.site_files.specs.Below.{IsTop}
use Rattle.site_files.specs.declared.error.SiteError.{SiteError}
use Rattle.site_files.specs.declared.error.SiteError.TheVariants as unmade
use Rattle.site_files.specs.declared.site_list.ListError.{ListError}
use Rattle.site_files.specs.declared.site_list.ListError.TheVariants as unlisted

-- the error for each error of a part
abbrev pub of_site : SiteError → FolderError
of_site unmade.BadBase = wrong.BadBase
of_site unmade.NoFiles = wrong.NoFiles
of_site unmade.NoneListed = wrong.NoneListed
of_site unmade.TooLarge = wrong.TooLarge
of_site unmade.NoMemory = wrong.NoMemory
of_site (unmade.Io why) = wrong.CannotReadFolder

-- the error for each error of a site list
abbrev pub of_list : ListError → FolderError
of_list unlisted.NoMemory = wrong.NoMemory
of_list error = wrong.List error

-- the error for each error of the test of the results
abbrev pub of_check : CheckError → FolderError
of_check unchecked.FileUnread = wrong.FileUnread
of_check unchecked.FileChanged = wrong.FileChanged
of_check unchecked.LinkLost = wrong.LinkLost
of_check unchecked.NoMemory = wrong.NoMemory

-- the error for a crawl that failed so, because of this
abbrev pub of_crawl_by : CrawlError → CrawlFailure → FolderError
of_crawl_by crawl.NoMemory failure = wrong.NoMemory
of_crawl_by error failure = wrong.Crawl failure

abbrev pub of_crawl : CrawlFailure → FolderError
of_crawl failure = of_crawl_by failure.error failure

-- the crawl of a check is incomplete
abbrev pub is_unfinished : FolderError → Bool
is_unfinished (wrong.Crawl failure) = is_incomplete failure.error
is_unfinished error = false

-- a crawl by this number of workers is incomplete
pub record IsUnfinished (workers : ℕ) : Type 0 where
  pub max : ℕ
  pub error : CrawlError
  pub incomplete : is_incomplete error ≡ true
  pub fails : CrawlFails workers max error

-- a crawl of the saved web by this number of workers, from such starts or more, is incomplete
pub record IsTopIncomplete (top web : List ℕ) (reachable : Bool) (links : List (List ℕ)) (workers : ℕ) : Type 0 where
  pub begun : List (List ℕ)
  pub started : AreStarts top web reachable links begun
  pub sound : IsSound (lines web)
  pub unfinished : IsUnfinished workers

-- a crawl of the saved web of a site with this top is incomplete
pub record IsIncompleteAt (top : List ℕ) (reachable : Bool) (links : List (List ℕ)) (workers : ℕ) : Type 0 where
  pub web : List ℕ
  pub made : IsSiteWeb web
  pub crawl : IsTopIncomplete top web reachable links workers

-- the crawl of a check, whose top is that of BASE, is incomplete
pub record IsSiteIncomplete (options : CheckOptions) : Type 0 where
  pub top : List ℕ
  pub is_top : IsTop (string_bytes options.site.base) top
  pub incomplete : IsIncompleteAt top options.reachable (seeds_of options) options.workers
