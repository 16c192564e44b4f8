-- The error of a command for each error of a part of it: out of memory is one error, wherever it occurs.
use Rattle.std.specs.Prelude.{ℕ, if◌then◌else◌}
use Rattle.crawl_keys.specs.declared.error.KeyError.{KeyError}
use Rattle.crawl_keys.specs.declared.error.KeyError.TheVariants as key
use Rattle.crawl_keys.specs.declared.filter.error.FilterError.{FilterError}
use Rattle.crawl_keys.specs.declared.filter.error.FilterError.TheVariants as filter
use Rattle.saved_pages.specs.declared.error.WebError.{WebError}
use Rattle.saved_pages.specs.declared.error.WebError.TheVariants as web
use Rattle.crawl_sources.specs.declared.seeds.SeedsError.{SeedsError}
use Rattle.crawl_sources.specs.declared.seeds.SeedsError.TheVariants as seeds
use Rattle.crawl_session.specs.declared.serving.ServeError.{ServeError}
use Rattle.crawl_session.specs.declared.serving.ServeError.TheVariants as serving
use Rattle.mercator.specs.declared.commands.error.CommandError.{CommandError}
use Rattle.mercator.specs.declared.commands.error.CommandError.TheVariants as wrong
use Rattle.session_log.specs.Errors.{status_of_log}
use Rattle.session_log.specs.declared.error.LogError.{LogError}
use Rattle.session_log.specs.declared.error.LogError.TheVariants as unlogged
use Rattle.session_log.specs.declared.error.LoggedError.{LoggedError}
use Rattle.session_log.specs.declared.error.LoggedError.TheVariants as ends
use Rattle.mercator.specs.declared.commands.input.Unread.{Unread}
use Rattle.mercator.specs.declared.commands.input.Unread.TheVariants as unread
use Rattle.crawl_run.specs.Crawls.{is_incomplete}
use Rattle.crawl_run.specs.declared.error.CrawlError.{CrawlError}
use Rattle.crawl_run.specs.declared.error.CrawlError.TheVariants as crawl
use Rattle.crawl_run.specs.declared.failure.CrawlFailure.{CrawlFailure}
use Rattle.mercator_site.specs.declared.error.FolderError.{FolderError}
use Rattle.mercator_site.specs.declared.error.FolderError.TheVariants as unsited
use Rattle.crawl_replay.specs.declared.script.error.ScriptError.{ScriptError}
use Rattle.crawl_replay.specs.declared.script.error.ScriptError.TheVariants as script

abbrev pub of_unread : Unread → CommandError
of_unread unread.NoMemory = wrong.NoMemory
of_unread _ = wrong.CannotRead

-- for a file with an error of its own
abbrev pub of_unread_file : CommandError → Unread → CommandError
of_unread_file error unread.NoMemory = wrong.NoMemory
of_unread_file error _ = error

abbrev pub of_seeds : SeedsError → CommandError
of_seeds seeds.NoMemory = wrong.NoMemory
of_seeds error = wrong.Seeds error

abbrev pub of_script : ScriptError → CommandError
of_script script.NoMemory = wrong.NoMemory
of_script error = wrong.Script error

abbrev pub of_web : WebError → CommandError
of_web web.NoMemory = wrong.NoMemory
of_web error = wrong.Web error

abbrev pub of_url : KeyError → CommandError
of_url key.NoMemory = wrong.NoMemory
of_url refusal = wrong.Url refusal

abbrev pub of_filter : FilterError → CommandError
of_filter (filter.BadSuffix index) = wrong.BadSuffix
of_filter filter.NoMemory = wrong.NoMemory

abbrev pub of_session : ServeError → CommandError
of_session serving.CannotRead = wrong.CannotRead
of_session serving.CannotWrite = wrong.CannotWrite
of_session serving.NoMemory = wrong.NoMemory

abbrev pub of_log : LogError → CommandError
of_log unlogged.NoMemory = wrong.NoMemory
of_log why = wrong.Log why

abbrev pub of_logged : LoggedError → CommandError
of_logged (ends.Log why) = of_log why
of_logged (ends.Session why) = of_session why

-- the error for a crawl that failed so, because of this
abbrev pub of_crawl_by : CrawlError → CrawlFailure → CommandError
of_crawl_by crawl.NoMemory failure = wrong.NoMemory
of_crawl_by error failure = wrong.Crawl failure

abbrev pub of_crawl : CrawlFailure → CommandError
of_crawl failure = of_crawl_by failure.error failure

-- for each error of a folder
abbrev pub of_site : FolderError → CommandError
of_site (unsited.Crawl failure) = of_crawl failure
of_site unsited.NoMemory = wrong.NoMemory
of_site error = wrong.Site error

-- the exit status for an error: 2 if a crawl is incomplete, that of a log's error, otherwise 1
abbrev pub status_of_error : CommandError → ℕ
status_of_error (wrong.Crawl failure) = if is_incomplete failure.error then 2 else 1
status_of_error (wrong.Log why) = status_of_log why
status_of_error error = 1

-- for the seed with this number
abbrev pub of_seed : ℕ → KeyError → CommandError
of_seed number key.NoMemory = wrong.NoMemory
of_seed number refusal = wrong.Seed number refusal
