-- What each command prints, and why it fails, by the bytes of its FILE.
use Rattle.std.specs.Prelude.{◌≡◌, ◌==◌, ◌⊎◌, ℕ, ◌≤◌, Bool, true, false, not, if◌then◌else◌, List, [], ◌++◌, codes, length, map, Option, Some, None, Err, IfSome, IsSome, IsSomeAnd, IsErr, String, string_bytes}
use Rattle.std.specs.Io.KnownBytes.{Appends}
use Rattle.std.specs.declared.alloc.Global.{Global}
use Rattle.crawl_keys.specs.CanonicalText.{canonical}
use Rattle.mercator.specs.Ending.{Begins}
use Rattle.mercator.specs.ErrorText.{error_line, left_out_line, more_lines, torn_line}
use Rattle.mercator.specs.Errors.{status_of_error}
use Rattle.mercator.specs.KeyLine.{IsKeyLine}
use Rattle.mercator.specs.Limits.{most_input_bytes}
use Rattle.mercator.specs.Plans.{IsVisible, crawl_of, explains, has_notices, is_bad_suffix, is_input, known_bytes, known_ignores, known_seeds, suffixes_of, file_of_error}
use Rattle.crawl_replay.specs.Replay.{IsReplay}
use Rattle.crawl_replay.specs.Script.{script_of}
use Rattle.crawl_run.specs.Crawls.{is_incomplete}
use Rattle.crawl_session.specs.Answers.{answer_lines}
use Rattle.crawl_session.specs.Frontiers.{Shows, start}
use Rattle.crawl_session.specs.Sessions.{answers, session_text, state_after}
use Rattle.crawl_session.specs.Settings.{SessionView, Settings}
use Rattle.std.specs.Str.Lines.{lines}
use Rattle.mercator_site.specs.Ends.{IsFolderCheck}
use Rattle.mercator_site.specs.Errors.{IsSiteIncomplete}
use Rattle.mercator_site.specs.declared.options.CheckOptions.{CheckOptions}
use Rattle.mercator_site.specs.declared.options.Fix.{Fix}
use Rattle.mercator_site.specs.declared.options.Fix.TheVariants as fix
use Rattle.saved_site.specs.Below.{IsWebAt}
use Rattle.saved_site.specs.Meaning.{IsSiteWeb}
use Rattle.session_log.specs.Plans.{queues_of}
use Rattle.session_log.specs.Plans as session
use Rattle.session_log.specs.Lists.{IsListed}
use Rattle.crawl_session.specs.declared.rebuild.LeftOut.{LeftOut}
use Rattle.session_log.specs.declared.error.LogError.TheVariants as unlogged
use Rattle.session_log.specs.declared.plan.LogPlan.{LogPlan}
use Rattle.session_log.specs.declared.plan.SessionPlan.{SessionPlan}
use Rattle.mercator.specs.WebCrawl.{CrawlPlan, IsBegun, IsCrawlText, IsUnbegun}
use Rattle.mercator.specs.declared.commands.planned.Plan.{Plan}
use Rattle.mercator.specs.declared.commands.planned.Plan.TheVariants as asks
use Rattle.mercator.specs.declared.commands.plan_error.PlanError.{PlanError}
use Rattle.mercator.specs.declared.commands.plan_error.PlanError.TheVariants as unplanned
use Rattle.mercator.specs.declared.commands.error.CommandError.{CommandError}
use Rattle.mercator.specs.declared.commands.error.CommandError.TheVariants as wrong

-- P holds for some bytes that the file can have: the known ones, if they are known, and no more than the limit
pub record OfFile (known : Option (List ℕ)) (P : List ℕ → Type 0) : Type 0 where
  pub bytes : List ℕ
  pub read : IfSome known (λ known. bytes ≡ known)
  pub few : length bytes ≤ most_input_bytes
  pub holds : P bytes

-- P holds for some bytes that the two files of a crawl can have: those of the saved web, and those of the file of seeds
abbrev pub OfFiles : CrawlPlan → Option (List ℕ) → (List ℕ → List ℕ → Type 0) → Type 0
OfFiles crawl input P = OfFile (known_bytes (string_bytes crawl.file) input) (λ bytes. OfFile (known_seeds crawl.options.listed input) (λ seeds. P bytes seeds))

-- these can be the bytes of the two files
pub record AreFiles (crawl : CrawlPlan) (input : Option (List ℕ)) (bytes seeds : List ℕ) : Type 0 where
  pub read : IfSome (known_bytes (string_bytes crawl.file) input) (λ known. bytes ≡ known)
  pub few : length bytes ≤ most_input_bytes
  pub read_seeds : IfSome (known_seeds crawl.options.listed input) (λ known. seeds ≡ known)
  pub few_seeds : length seeds ≤ most_input_bytes

abbrev pub settings_of : SessionPlan → List ℕ → Settings
settings_of given identity = session.settings_of given (suffixes_of given.within) identity

-- of a part without a log
abbrev pub no_identity : List ℕ
no_identity = codes "none"

-- the text has the answers of a session to the lines of an input: of these bytes, which are all that the input has if that is
-- known
pub record IsSessionText (given : SessionPlan) (input : Option (List ℕ)) (text : List ℕ) : Type 0 where
  pub bytes : List ℕ
  pub read : IfSome input (λ known. bytes ≡ known)
  pub is_text : text ≡ session_text (settings_of given no_identity) given.max bytes

-- the text has the answers of a session that resumes from a log. Whatever requests the log had, after its first line, and
-- whatever identity there: the text has the answers, from the state after these, to the lines of an input
pub record IsResumedText (given : SessionPlan) (input : Option (List ℕ)) (text : List ℕ) : Type 0 where
  pub identity : List ℕ
  pub log : List ℕ
  pub bytes : List ℕ
  pub read : IfSome input (λ known. bytes ≡ known)
  pub is_text : text ≡ answer_lines (answers (settings_of given identity) (state_after (settings_of given identity) (start (queues_of given) given.max) (lines log)) (lines bytes))

-- a session resumed from a log: whatever requests the log had, after its first line, and whatever identity there, it has the settings
-- of the plan, and the state after these requests
pub record Resumes (plan : LogPlan) (resumed : SessionView) : Type 0 where
  pub identity : List ℕ
  pub log : List ℕ
  pub settings : resumed.settings ≡ settings_of plan.session identity
  pub shown : Shows resumed.core (state_after (settings_of plan.session identity) (start (queues_of plan.session) plan.session.max) (lines log))

-- the text is the report of a check of a folder, with the ignore list in this file
abbrev pub IsChecked : CheckOptions → Option (String Global) → Bool → List ℕ → Type 0
IsChecked options ignores broken text = OfFile (known_ignores ignores) (λ list. IsFolderCheck options list broken text)

-- a check prints its report, and not a diff
abbrev pub reports : Fix → Bool
reports fix.Off = true
reports fix.Diff = false
reports fix.Write = true

-- a check rewrites no links, and prints no diff
abbrev pub is_off : Fix → Bool
is_off fix.Off = true
is_off how = false

-- the text is the diff of the files with links that can be rewritten. Which files and links these are it does not say
abbrev pub IsDiff : Bool → List ℕ → Type 0
IsDiff broken text = broken ≡ not (length text == 0)

-- the text is what a check prints: the diff or the report
abbrev pub IsCheckText : Fix → CheckOptions → Option (String Global) → Bool → List ℕ → Type 0
IsCheckText fix.Off options ignores broken text = IsChecked options ignores broken text
IsCheckText fix.Diff options ignores broken text = IsDiff broken text
IsCheckText fix.Write options ignores broken text = IsChecked options ignores broken text

-- the text is the output of a crawl
abbrev pub IsCrawlOutput : CrawlPlan → Option (List ℕ) → List ℕ → Type 0
IsCrawlOutput crawl input text =
    (is_bad_suffix crawl.options.within ≡ false)
    × OfFiles crawl input (λ bytes list. IsBegun bytes list (map string_bytes crawl.seeds.items) × IsCrawlText crawl.workers crawl bytes list (map string_bytes crawl.seeds.items) (suffixes_of crawl.options.within) text)

-- the text is the output of the plan; for a check, of one that found nothing broken
abbrev pub IsOutput : Plan → Option (List ℕ) → List ℕ → Type 0
IsOutput (asks.Crawl workers max queues file seeds options) input text = IsCrawlOutput (crawl_of workers max queues file seeds options) input text
IsOutput (asks.Site options) input text = IsSiteWeb text × IsWebAt (string_bytes options.base) text
IsOutput (asks.Check options ignores) input text = IsCheckText options.fix options ignores false text
IsOutput (asks.Key url workers) input text = IsKeyLine (string_bytes url) workers text
IsOutput (asks.Replay file) input text = OfFile (known_bytes (string_bytes file) input) (λ bytes. IsReplay bytes text)
IsOutput (asks.Serve given) input text = (is_bad_suffix given.within ≡ false) × IsSessionText given input text
IsOutput (asks.ServeLog given) input text = (is_bad_suffix given.session.within ≡ false) × IsResumedText given.session input text
IsOutput (asks.List list) input text = IsListed list text
IsOutput (asks.Compact given) input text = (is_bad_suffix given.log.session.within ≡ false) × (text ≡ [])

-- the text is the report of a check that found something broken
abbrev pub IsBroken : Plan → List ℕ → Type 0
IsBroken (asks.Check options ignores) text = IsCheckText options.fix options ignores true text
IsBroken plan text = ⊥

-- why a replay fails: the FILE cannot be read, or is no script, with this error; or memory runs out
abbrev pub FailsReplay : List ℕ → Option (List ℕ) → CommandError → Type 0
FailsReplay file input wrong.CannotRead = Unit {0}
FailsReplay file input (wrong.Script error) = OfFile (known_bytes file input) (λ bytes. script_of bytes ≡ Err error)
FailsReplay file input wrong.NoMemory = Unit {0}
FailsReplay file input _ = ⊥

-- why a crawl fails, in this order: the suffix is bad; the FILE cannot be read; the file of seeds cannot be read; the saved web or
-- a seed is refused, there is no seed, or the crawl is incomplete. Memory may run out at any time
abbrev pub FailsCrawl : CrawlPlan → Option (List ℕ) → CommandError → Type 0
FailsCrawl crawl input wrong.BadSuffix = is_bad_suffix crawl.options.within ≡ true
FailsCrawl crawl input wrong.CannotRead = is_bad_suffix crawl.options.within ≡ false
FailsCrawl crawl input wrong.CannotReadSeeds = (is_bad_suffix crawl.options.within ≡ false) × IsSome crawl.options.listed
FailsCrawl crawl input wrong.NoMemory = Unit {0}
FailsCrawl crawl input error =
    (is_bad_suffix crawl.options.within ≡ false) × OfFiles crawl input (λ bytes list. IsUnbegun crawl.workers crawl.max bytes list (map string_bytes crawl.seeds.items) (suffixes_of crawl.options.within) error)

-- why a key is not printed: the text has no canonical URL, with this error; or memory runs out
abbrev pub FailsKey : List ℕ → CommandError → Type 0
FailsKey url (wrong.Url refusal) = canonical url ≡ Err refusal
FailsKey url wrong.NoMemory = Unit {0}
FailsKey url _ = ⊥

-- why a session does not start: its suffix is bad, or memory runs out
abbrev pub FailsSession : Option (String Global) → CommandError → Type 0
FailsSession within wrong.BadSuffix = is_bad_suffix within ≡ true
FailsSession within wrong.NoMemory = Unit {0}
FailsSession within _ = ⊥

-- why a session with a log does not start, and why a log is not compacted: the suffix is bad, the log cannot be used, or memory
-- runs out
abbrev pub FailsLog : Option (String Global) → CommandError → Type 0
FailsLog within wrong.BadSuffix = is_bad_suffix within ≡ true
FailsLog within (wrong.Log unlogged.NoMemory) = ⊥
FailsLog within (wrong.Log error) = is_bad_suffix within ≡ false
FailsLog within wrong.NoMemory = Unit {0}
FailsLog within _ = ⊥

-- why a log is not listed: it cannot be opened or read, it is none, it is damaged, or memory runs out
abbrev pub FailsList : CommandError → Type 0
FailsList (wrong.Log unlogged.CannotOpen) = Unit {0}
FailsList (wrong.Log unlogged.CannotRead) = Unit {0}
FailsList (wrong.Log unlogged.NotALog) = Unit {0}
FailsList (wrong.Log (unlogged.Damaged last first)) = Unit {0}
FailsList wrong.NoMemory = Unit {0}
FailsList _ = ⊥

-- why links are not rewritten: the ignore list cannot be read, there is no check of the folder, not every file can be rewritten or the
-- crawl is incomplete, or memory runs out
abbrev pub FailsFix : Option (String Global) → CommandError → Type 0
FailsFix ignores wrong.CannotReadIgnores = IsSome ignores
FailsFix ignores wrong.CannotFix = Unit {0}
FailsFix ignores (wrong.Site why) = Unit {0}
FailsFix ignores wrong.NoMemory = Unit {0}
FailsFix ignores _ = ⊥

-- why a check fails: the ignore list or the site list cannot be read, links cannot be rewritten, there is no check of the folder, the
-- crawl is incomplete or its numbers are out of range, or memory runs out
abbrev pub FailsCheck : CheckOptions → Option (String Global) → CommandError → Type 0
FailsCheck options ignores wrong.CannotReadIgnores = IsSome ignores
FailsCheck options ignores wrong.CannotReadIndex = IsSome options.site.index
FailsCheck options ignores wrong.CannotFix = is_off options.fix ≡ false
FailsCheck options ignores (wrong.Site why) = Unit {0}
FailsCheck options ignores (wrong.Crawl failure) = is_incomplete failure.error ≡ true → IsSiteIncomplete options
FailsCheck options ignores wrong.NoMemory = Unit {0}
FailsCheck options ignores _ = ⊥

-- why a session ends before its input does: the input cannot be read, an answer or the log cannot be written, another program
-- changed the log, or memory runs out. Memory may also run out while a saved web is written
abbrev pub BreaksOff : Plan → CommandError → Type 0
BreaksOff (asks.Serve given) wrong.CannotRead = is_bad_suffix given.within ≡ false
BreaksOff (asks.Serve given) wrong.CannotWrite = is_bad_suffix given.within ≡ false
BreaksOff (asks.Serve given) wrong.NoMemory = is_bad_suffix given.within ≡ false
BreaksOff (asks.ServeLog given) wrong.CannotRead = is_bad_suffix given.session.within ≡ false
BreaksOff (asks.ServeLog given) wrong.CannotWrite = is_bad_suffix given.session.within ≡ false
BreaksOff (asks.ServeLog given) wrong.NoMemory = is_bad_suffix given.session.within ≡ false
BreaksOff (asks.ServeLog given) (wrong.Log unlogged.CannotWrite) = is_bad_suffix given.session.within ≡ false
BreaksOff (asks.ServeLog given) (wrong.Log unlogged.Changed) = is_bad_suffix given.session.within ≡ false
BreaksOff (asks.Site options) wrong.NoMemory = (text : List ℕ) × IsSiteWeb text × IsWebAt (string_bytes options.base) text
BreaksOff plan error = ⊥

-- the plan's command fails with this error before it writes
abbrev pub Fails : Plan → Option (List ℕ) → CommandError → Type 0
Fails (asks.Crawl workers max queues file seeds options) input error = FailsCrawl (crawl_of workers max queues file seeds options) input error
Fails (asks.Site options) input error = status_of_error error ≡ 1
Fails (asks.Check options ignores) input error = FailsCheck options ignores error
Fails (asks.Key url workers) input error = FailsKey (string_bytes url) error
Fails (asks.Replay file) input error = FailsReplay (string_bytes file) input error
Fails (asks.Serve given) input error = FailsSession given.within error
Fails (asks.ServeLog given) input error = FailsLog given.session.within error
Fails (asks.List list) input error = FailsList error
Fails (asks.Compact given) input error = FailsLog given.log.session.within error

-- the command cannot have an output: the suffix is bad; the FILE is known and no script; the URL has no canonical URL; or, for all
-- bytes that the files of a crawl can have, there is no saved web, a seed has no canonical URL, or there is no seed
abbrev pub HasNoOutput : Plan → Option (List ℕ) → Type 0
HasNoOutput (asks.Crawl workers max queues file seeds options) input =
    (is_bad_suffix options.within ≡ true) ⊎ (OfFiles (crawl_of workers max queues file seeds options) input (λ bytes list. IsBegun bytes list (map string_bytes seeds.items)) → ⊥)
HasNoOutput (asks.Site options) input = ⊥
HasNoOutput (asks.Check options ignores) input = ⊥
HasNoOutput (asks.Key url workers) input = IsErr (canonical (string_bytes url))
HasNoOutput (asks.Replay file) input = IsSomeAnd (known_bytes (string_bytes file) input) (λ bytes. IsErr (script_of bytes))
HasNoOutput (asks.Serve given) input = is_bad_suffix given.within ≡ true
HasNoOutput (asks.ServeLog given) input = is_bad_suffix given.session.within ≡ true
HasNoOutput (asks.List list) input = ⊥
HasNoOutput (asks.Compact given) input = is_bad_suffix given.log.session.within ≡ true

-- only a crawl can be incomplete: one of a saved web, from at least one seed, whose seeds have canonical URLs; or that of a check
abbrev pub MayLose : Plan → Option (List ℕ) → Type 0
MayLose (asks.Crawl workers max queues file seeds options) input =
    (is_bad_suffix options.within ≡ false) × OfFiles (crawl_of workers max queues file seeds options) input (λ bytes list. IsBegun bytes list (map string_bytes seeds.items))
MayLose (asks.Check options ignores) input = IsSiteIncomplete options
MayLose _ input = ⊥

-- the plan's output was appended to what a writer holds, if that is known
pub record Gains (plan : Plan) (input old new : Option (List ℕ)) : Type 0 where
  pub text : List ℕ
  pub output : IsOutput plan input text
  pub gained : Appends old new text

-- the report of a check that found something broken was appended
pub record GainsBroken (plan : Plan) (old new : Option (List ℕ)) : Type 0 where
  pub text : List ℕ
  pub output : IsBroken plan text
  pub gained : Appends old new text

-- the one or the other
abbrev pub GainsAs : Bool → Plan → Option (List ℕ) → Option (List ℕ) → Option (List ℕ) → Type 0
GainsAs true plan input old new = GainsBroken plan old new
GainsAs false plan input old new = Gains plan input old new

-- why a plan's command ended with this error: it failed before it wrote anything; a write of its output failed; or it ended while
-- it wrote
abbrev pub EndsBy : Plan → Option (List ℕ) → CommandError → Type 0 → Type 0
EndsBy plan input error Unwritten = (Fails plan input error × Unwritten) ⊎ (((error ≡ wrong.CannotWrite) × ((text : List ℕ) × (IsOutput plan input text ⊎ IsBroken plan text))) ⊎ BreaksOff plan error)

-- what a command may print in addition to an error: a session with a log, that the last line of the log was incomplete; a command
-- for a folder, any notices
abbrev pub MayNote : Plan → Option (List ℕ) → Option (List ℕ) → Type 0
MayNote (asks.ServeLog given) old new = Begins old new (torn_line (string_bytes given.file))
MayNote (asks.Compact given) old new = (left : LeftOut) × Begins old new (left_out_line (string_bytes given.log.file) left)
MayNote plan old new = Unit {0}

-- the writer for errors gained the line, up to where it failed, after the notices
abbrev pub ReportsError : Plan → Option (List ℕ) → Option (List ℕ) → List ℕ → Type 0
ReportsError (asks.ServeLog given) old new line = (middle : Option (List ℕ)) × MayNote (asks.ServeLog given) old middle × Begins middle new line
ReportsError (asks.Compact given) old new line = (middle : Option (List ℕ)) × MayNote (asks.Compact given) old middle × Begins middle new line
ReportsError (asks.Site options) old new line = (middle : Option (List ℕ)) × Begins middle new line
ReportsError (asks.Check options ignores) old new line = (middle : Option (List ℕ)) × Begins middle new line
ReportsError plan old new line = Begins old new line

-- the lines that report an error: its own, and if the plan asks for them, those about the URL of a crawl's failure and what was lost
abbrev pub error_lines : Plan → CommandError → List ℕ
error_lines plan error = error_line (file_of_error plan error) error ++ (if explains plan then more_lines (file_of_error plan error) error else [])

-- a command ended with an error: the status is that of the error, and the writer for errors gained the error's lines, up to where
-- it failed
pub record EndsByError (plan : Plan) (ended : ℕ) (input err_old err_new : Option (List ℕ)) (Unwritten : Type 0) : Type 0 where
  pub error : CommandError
  pub status : ended ≡ status_of_error error
  pub output : ReportsError plan err_old err_new (error_lines plan error)
  pub why : EndsBy plan input error Unwritten

-- both crawls print the same sections, in the same form
pub record AskForOneReport (crawl other : CrawlPlan) : Type 0 where
  pub sections : crawl.options.sections ≡ other.options.sections
  pub json : crawl.options.json ≡ other.options.json

-- both crawl the standard input, from the same seeds of the command line and within the same suffix, and print the same
-- sections. If they print the counts of queues, they have the same number of workers
abbrev pub AskForOneCrawl : CrawlPlan → CrawlPlan → Type 0
AskForOneCrawl crawl other =
    (is_input (string_bytes crawl.file) ≡ true) × (is_input (string_bytes other.file) ≡ true) × (crawl.options.listed ≡ None) × (other.options.listed ≡ None)
    × (map string_bytes crawl.seeds.items ≡ map string_bytes other.seeds.items) × (suffixes_of crawl.options.within ≡ suffixes_of other.options.within)
    × AskForOneReport crawl other × (crawl.queues ≡ other.queues) × (crawl.queues ≡ true → crawl.workers ≡ other.workers)

-- both plans are for such crawls
abbrev pub AskForOneText : Plan → Plan → Type 0
AskForOneText (asks.Crawl workers max queues file seeds options) (asks.Crawl others most counts from those settings) = AskForOneCrawl (crawl_of workers max queues file seeds options) (crawl_of others most counts from those settings)
AskForOneText _ _ = ⊥

-- what is wrong with arguments is reported: the writer for errors gained a beginning of the text, which cannot control a terminal
abbrev pub ReportsArguments : PlanError → Option (List ℕ) → Option (List ℕ) → Type 0
ReportsArguments (unplanned.Shown text status) old new = Begins old new (string_bytes text) × IsVisible (string_bytes text)
ReportsArguments unplanned.NoMemory old new = ⊥

-- the plan has a log
abbrev pub HasLog : Plan → Type 0
HasLog (asks.ServeLog given) = Unit {0}
HasLog (asks.Compact given) = Unit {0}
HasLog plan = ⊥

-- another program uses the log of the plan: the writer for errors gained the line that says so, up to where it failed
abbrev pub ReportsInUse : Plan → Option (List ℕ) → Option (List ℕ) → Type 0
ReportsInUse (asks.ServeLog given) old new = Begins old new (error_line (string_bytes given.file) (wrong.Log unlogged.InUse))
ReportsInUse (asks.Compact given) old new = Begins old new (error_line (string_bytes given.log.file) (wrong.Log unlogged.InUse))
ReportsInUse plan old new = ⊥

-- arguments led to no plan, and the writer for errors gained the reason: help could not be written, or there was no memory and
-- nothing is written
abbrev pub FailsWithoutPlan : Option (List ℕ) → Option (List ℕ) → Type 0 → Type 0
FailsWithoutPlan old new Unwritten = Begins old new (error_line [] wrong.CannotWrite) ⊎ (Begins old new (error_line [] wrong.NoMemory) × Unwritten)

-- a command that may print notices is done, and may have printed some
pub record IsDoneWithNote (plan : Plan) (input out_old out_new err_old err_new : Option (List ℕ)) : Type 0 where
  pub noting : has_notices plan ≡ true
  pub gains : Gains plan input out_old out_new
  pub noted : MayNote plan err_old err_new
