-- The texts of errors, and their lines.
use Rattle.std.specs.Prelude.{ℕ, ◌+◌, List, [], ◌∷◌, ◌++◌, codes, Option, Some, None, string_bytes, decimal}
use Rattle.crawl_certificate.specs.declared.error.CertError.{CertError}
use Rattle.crawl_certificate.specs.declared.error.CertError.TheVariants as cert
use Rattle.crawl_frontier.specs.ErrorTexts.{frontier_error_text}
use Rattle.crawl_frontier.specs.declared.error.FinishError.{FinishError}
use Rattle.crawl_frontier.specs.declared.error.FinishError.TheVariants as finish
use Rattle.crawl_keys.specs.CanonicalText.{message}
use Rattle.crawl_session.specs.declared.rebuild.LeftOut.{LeftOut}
use Rattle.crawl_workers.specs.ErrorTexts.{run_error_text}
use Rattle.saved_pages.specs.declared.error.WebError.{WebError}
use Rattle.saved_pages.specs.declared.error.WebError.TheVariants as web
use Rattle.crawl_sources.specs.declared.seeds.SeedsError.{SeedsError}
use Rattle.crawl_sources.specs.declared.seeds.SeedsError.TheVariants as seeds
use Rattle.link_offers.specs.declared.losses.Losses.{Losses}
use Rattle.mercator.specs.declared.commands.error.CommandError.{CommandError}
use Rattle.mercator.specs.declared.commands.error.CommandError.TheVariants as wrong
use Rattle.crawl_run.specs.declared.error.CrawlError.{CrawlError}
use Rattle.crawl_run.specs.declared.error.CrawlError.TheVariants as crawl
use Rattle.crawl_run.specs.declared.failure.CrawlFailure.{CrawlFailure}
use Rattle.crawl_replay.specs.declared.script.error.ScriptError.{ScriptError}
use Rattle.crawl_replay.specs.declared.script.error.ScriptError.TheVariants as script
use Rattle.mercator_site.specs.declared.error.FolderError.{FolderError}
use Rattle.mercator_site.specs.declared.error.FolderError.TheVariants as unsited
use Rattle.session_log.specs.Errors.{log_text}
use Rattle.site_files.specs.declared.site_list.ListError.{ListError}
use Rattle.site_files.specs.declared.site_list.ListError.TheVariants as list
use Rattle.shown_text.specs.Shown.{shown}

-- what is wrong with a line
abbrev pub line_text : ℕ → List ℕ → List ℕ
line_text number reason = codes "line " ++ decimal number ++ codes ": " ++ reason

-- what is wrong, with the number of the line if there is one
abbrev pub reason_text : Option ℕ → List ℕ → List ℕ
reason_text None reason = reason
reason_text (Some number) reason = line_text number reason

-- why bytes are not a saved web
abbrev pub web_text : WebError → List ℕ
web_text (web.LineTooLong number) = line_text number (codes "line too long")
web_text (web.NotText number) = line_text number (codes "not UTF-8")
web_text web.BadHeader = codes "bad header"
web_text (web.BadLine number) = line_text number (codes "bad line")
web_text (web.LinkBeforePage number) = line_text number (codes "link before page")
web_text (web.MovedMixed number) = line_text number (codes "mixed page")
web_text (web.BadPageUrl number) = line_text number (codes "bad page URL")
web_text (web.PageTwice number) = line_text number (codes "page twice")
web_text web.NoMemory = codes "out of memory"

-- why bytes are not a file of seeds
abbrev pub seeds_text : SeedsError → List ℕ
seeds_text (seeds.LineTooLong number) = line_text number (codes "line too long")
seeds_text (seeds.NotText number) = line_text number (codes "not UTF-8")
seeds_text (seeds.NotUrl number) = line_text number (codes "not a URL")
seeds_text (seeds.NotHttp number) = line_text number (codes "not http or https")
seeds_text seeds.NoMemory = codes "out of memory"

-- why bytes are not a site list
abbrev pub list_text : ListError → List ℕ
list_text (list.LineTooLong number) = line_text number (codes "line too long")
list_text (list.NotText number) = line_text number (codes "not UTF-8")
list_text (list.BadLine number) = line_text number (codes "bad line")
list_text (list.NotUrl number) = line_text number (codes "not a URL")
list_text (list.NotHttp number) = line_text number (codes "not http or https")
list_text (list.BadFile number) = line_text number (codes "bad file name")
list_text list.NoMemory = codes "out of memory"

-- why bytes are not a script
abbrev pub script_text : ScriptError → List ℕ
script_text (script.LineTooLong number) = line_text number (codes "line too long")
script_text (script.NotText number) = line_text number (codes "not UTF-8")
script_text script.BadHeader = codes "bad header"
script_text (script.BadLine number) = line_text number (codes "bad line")
script_text (script.BadUrl number) = line_text number (codes "bad URL")
script_text script.NoMemory = codes "out of memory"

-- what is wrong with an account
abbrev pub finish_text : FinishError → List ℕ
finish_text finish.MissingPart = codes "part missing"
finish_text (finish.Unsettled word) = codes "gate not closed"
finish_text (finish.Disagree queue) = codes "subqueue " ++ decimal queue ++ codes " disagrees"
finish_text finish.NoMemory = codes "out of memory"

-- what a certificate lacks
abbrev pub cert_text : CertError → List ℕ
cert_text cert.SeedMissing = codes "seed missing"
cert_text cert.NotFetched = codes "page not fetched"
cert_text cert.LinkMissing = codes "link missing"
cert_text cert.Unfounded = codes "unfounded URL"
cert_text cert.Twice = codes "fetched twice"
cert_text cert.NoMemory = codes "out of memory"

-- why a crawl has no pages: its numbers are out of range, in the frontier's own terms, and nothing was crawled; or it is incomplete
abbrev pub crawl_text : CrawlError → List ℕ
crawl_text (crawl.Frontier error) = frontier_error_text error
crawl_text (crawl.Run error) = codes "incomplete: " ++ run_error_text error
crawl_text (crawl.Finish error) = codes "incomplete: " ++ finish_text error
crawl_text (crawl.Cert error) = codes "incomplete: " ++ cert_text error
crawl_text crawl.NoMemory = codes "out of memory"

-- why the folder with this name has no report, or no saved web
abbrev pub site_text : List ℕ → FolderError → List ℕ
site_text file unsited.CannotReadFolder = codes "cannot read " ++ file ++ codes ": not a readable folder"
site_text file unsited.BadBase = codes "BASE: must be the http or https URL of a folder, without a query, such as https://example.org/docs/"
site_text file unsited.BadHost = codes "BASE: the host may contain only letters, digits, - and ."
site_text file unsited.NoFiles = file ++ codes ": no files"
site_text file (unsited.List error) = codes "index: " ++ list_text error
site_text file unsited.NoneListed = codes "index: no URL below BASE"
site_text file (unsited.CannotReadMap folder) = codes "cannot read " ++ string_bytes folder ++ codes ": not a readable folder (--map)"
site_text file (unsited.NoMapFiles folder) = string_bytes folder ++ codes ": no files (--map)"
site_text file unsited.BadSeed = codes "--seed: not a URL below BASE"
site_text file (unsited.NoStart link) = string_bytes link ++ codes ": no such page to start at"
site_text file unsited.NoDocuments = file ++ codes ": no HTML documents (if a generator makes the site, pass the folder that it writes)"
site_text file unsited.TooLarge = file ++ codes ": more than 1073741824 bytes of links"
site_text file unsited.PagesLost = file ++ codes ": a page was lost; please report this bug"
site_text file unsited.FileUnread = file ++ codes ": a file changed while it was checked"
site_text file unsited.FileChanged = file ++ codes ": a link in a file changed while it was checked"
site_text file unsited.LinkLost = file ++ codes ": a link was lost; please report this bug"
site_text file (unsited.Crawl failure) = crawl_text failure.error
site_text file unsited.NoMemory = codes "out of memory"

-- the text of an error about this file
abbrev pub error_text : List ℕ → CommandError → List ℕ
error_text file wrong.CannotRead = codes "cannot read " ++ file
error_text file wrong.CannotReadSeeds = codes "cannot read " ++ file ++ codes " (--seeds)"
error_text file wrong.CannotReadIgnores = codes "cannot read " ++ file ++ codes " (--ignore)"
error_text file wrong.CannotReadIndex = codes "cannot read " ++ file ++ codes " (--index)"
error_text file wrong.CannotWrite = codes "cannot write"
error_text file wrong.CannotFix = codes "cannot rewrite every file of " ++ file
error_text file wrong.NoMemory = codes "out of memory"
error_text file wrong.BadSuffix = codes "bad suffix"
error_text file (wrong.Url refusal) = codes "URL: " ++ message refusal
error_text file (wrong.Seed number refusal) = codes "seed " ++ decimal number ++ codes ": " ++ message refusal
error_text file (wrong.Seeds error) = codes "seeds: " ++ seeds_text error
error_text file wrong.NoSeed = codes "seeds: no seed in the list or on the command line"
error_text file (wrong.Web error) = codes "saved web: " ++ web_text error
error_text file (wrong.Script error) = codes "script: " ++ script_text error
error_text file (wrong.Crawl failure) = crawl_text failure.error
error_text file (wrong.Site error) = site_text file error
error_text file (wrong.Log error) = codes "log " ++ file ++ codes ": " ++ log_text error

-- the line that reports it; hidden characters in the name of the file are escaped
abbrev pub error_line : List ℕ → CommandError → List ℕ
error_line file error = codes "mercator: " ++ error_text (shown file) error ++ 10 ∷ []

-- the line that reports an error at this URL
abbrev pub culprit_line : List ℕ → CommandError → List ℕ → List ℕ
culprit_line file error url = codes "mercator: " ++ error_text (shown file) error ++ codes ": " ++ url ++ 10 ∷ []

-- the line that reports the losses by cause
abbrev pub losses_line : Losses → List ℕ
losses_line losses =
    codes "mercator: lost: " ++ (decimal losses.full ++ (codes " above --max-pending, " ++ (decimal losses.too_far ++ (codes " too far from a seed, " ++ (decimal losses.crossed
    ++ (codes " from a duplicate sender, " ++ (decimal losses.failed ++ (codes " not fetched, " ++ (decimal (losses.no_memory + losses.unkept) ++ (codes " out of memory" ++ 10 ∷ []))))))))))

-- the lines that report the first URL at which a crawl failed, and what it lost
abbrev pub culprit_lines : List ℕ → CrawlFailure → Option (List ℕ) → List ℕ
culprit_lines file failure None = []
culprit_lines file failure (Some url) = culprit_line file (wrong.Crawl failure) url ++ losses_line failure.losses

-- the lines of an error in addition to its own, if they are requested: only the failure of a crawl has any
abbrev pub more_lines : List ℕ → CommandError → List ℕ
more_lines file (wrong.Crawl failure) = culprit_lines file failure failure.culprit
more_lines file error = []

-- a line about something with this name
abbrev pub note_line : List ℕ → List ℕ → List ℕ
note_line name reason = codes "mercator: " ++ shown name ++ codes ": " ++ reason ++ 10 ∷ []

-- the line that reports how many URLs of this log a narrower suffix leaves out
abbrev pub left_out_line : List ℕ → LeftOut → List ℕ
left_out_line file left =
    codes "mercator: log " ++ (shown file ++ (codes ": URLs left out by --within: " ++ (decimal left.all ++ (codes " (" ++ (decimal left.unfinished ++ (codes " unfinished)" ++ 10 ∷ []))))))

-- the line that reports that the last line of this log had no end, and was removed
abbrev pub torn_line : List ℕ → List ℕ
torn_line file = (codes "mercator: log " ++ shown file ++ codes ": incomplete last line removed") ++ 10 ∷ []
