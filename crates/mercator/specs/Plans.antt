-- What a command line asks for.
use Rattle.std.specs.Prelude.{ℕ, ◌≤◌, ◌≡◌, ◌⊎◌, ◌&&◌, ◌||◌, Bool, true, false, not, List, [], ◌∷◌, codes, length, if◌then◌else◌, Option, Some, None, IsSome, String, Vec, string_bytes, bytes_eq, chars}
use Rattle.std.specs.declared.alloc.Global.{Global}
use Rattle.std.specs.List.{list_all}
use Rattle.crawl_limits.specs.Limits.{worker_limit, AreLimits}
use Rattle.crawl_keys.specs.HostFilter.{is_good}
use Rattle.session_log.specs.Plans.{IsSessionPlan}
use Rattle.shown_text.specs.Shown.{is_visible_or_lf}
use Rattle.mercator.specs.declared.commands.error.CommandError.{CommandError}
use Rattle.mercator.specs.declared.commands.error.CommandError.TheVariants as wrong
use Rattle.mercator.specs.WebCrawl.{CrawlPlan}
use Rattle.mercator.specs.declared.commands.planned.CrawlOptions.{CrawlOptions}
use Rattle.mercator.specs.declared.commands.planned.CrawlPlan.{CrawlPlan as Fields}
use Rattle.mercator.specs.declared.commands.planned.Plan.{Plan}
use Rattle.mercator.specs.declared.commands.planned.Plan.TheVariants as asks
use Rattle.mercator.specs.declared.commands.plan_error.PlanError.{PlanError}
use Rattle.mercator.specs.declared.commands.plan_error.PlanError.TheVariants as unplanned

-- the FILE is the standard input
abbrev pub is_input : List ℕ → Bool
is_input file = bytes_eq file (codes "-")

-- there is a file of seeds, and it is the standard input
abbrev pub lists_input : Option (String Global) → Bool
lists_input None = false
lists_input (Some file) = is_input (string_bytes file)

-- the fields of a plan for a crawl, together
abbrev pub crawl_of : ℕ → ℕ → Bool → String Global → Vec (String Global) Global → CrawlOptions → CrawlPlan
crawl_of workers max queues file seeds options = record { workers = workers; max = max; queues = queues; file = file; seeds = seeds; options = options }

-- what a function gets of them
abbrev pub plan_of : Fields → CrawlPlan
plan_of crawl = crawl_of crawl.workers crawl.max crawl.queues crawl.file.now crawl.seeds.now crawl.options.now

-- the plan that these are the fields of
abbrev pub crawl_plan : Fields → Plan
crawl_plan crawl = asks.Crawl crawl.workers crawl.max crawl.queues crawl.file.now crawl.seeds.now crawl.options.now

-- its numbers are within the limits of a frontier; a crawl has a seed or a file of seeds, and not both of its files are the
-- standard input
abbrev pub IsWithinLimits : Plan → Type 0
IsWithinLimits (asks.Crawl workers max queues file seeds options) =
    AreLimits workers max × (IsSome options.listed ⊎ (1 ≤ length seeds.items)) × ((is_input (string_bytes file) && lists_input options.listed) ≡ false)
IsWithinLimits (asks.Site options) = Unit {0}
IsWithinLimits (asks.Check options ignores) = (1 ≤ options.workers) × (options.workers ≤ worker_limit)
IsWithinLimits (asks.Key url workers) = (1 ≤ workers) × (workers ≤ worker_limit)
IsWithinLimits (asks.Replay file) = Unit {0}
IsWithinLimits (asks.Serve given) = IsSessionPlan given
IsWithinLimits (asks.ServeLog given) = IsSessionPlan given.session
IsWithinLimits (asks.List list) = Unit {0}
IsWithinLimits (asks.Compact given) = IsSessionPlan given.log.session

-- a text of several lines has no hidden character, which could control a terminal
abbrev pub IsVisible : List ℕ → Type 0
IsVisible text = list_all is_visible_or_lf (chars text) ≡ true

-- a text is shown with the status of help or with that of a bad command line
abbrev pub IsShown : PlanError → Type 0
IsShown (unplanned.Shown text status) = ((status ≡ 0) ⊎ (status ≡ 3)) × IsVisible (string_bytes text)
IsShown unplanned.NoMemory = Unit {0}

-- what is known of the bytes of a FILE: what is known of the standard input; nothing of another file
abbrev pub known_bytes : List ℕ → Option (List ℕ) → Option (List ℕ)
known_bytes file input = if is_input file then input else None

-- what is known of the bytes of a file of seeds; without one there are none
abbrev pub known_seeds : Option (String Global) → Option (List ℕ) → Option (List ℕ)
known_seeds None input = Some []
known_seeds (Some file) input = known_bytes (string_bytes file) input

-- what is known of the bytes of an ignore list; without one there are none
abbrev pub known_ignores : Option (String Global) → Option (List ℕ)
known_ignores None = Some []
known_ignores (Some file) = None

-- the FILE of a plan; a key and a compaction have none, and a session reads the standard input
abbrev pub file_of : Plan → List ℕ
file_of (asks.Crawl workers max queues file seeds options) = string_bytes file
file_of (asks.Site options) = string_bytes options.folder
file_of (asks.Check options ignores) = string_bytes options.site.folder
file_of (asks.Key url workers) = []
file_of (asks.Replay file) = string_bytes file
file_of (asks.Serve given) = codes "-"
file_of (asks.ServeLog given) = codes "-"
file_of (asks.List list) = string_bytes list.file
file_of (asks.Compact given) = []

-- the name of the list if there is one, else FILE
abbrev pub listed_or : Option (String Global) → List ℕ → List ℕ
listed_or None file = file
listed_or (Some listed) file = string_bytes listed

-- the file that an error of a plan is about: the file of seeds, the ignore list or the site list if that cannot be read, the log if
-- that cannot be used, else FILE
abbrev pub file_of_error : Plan → CommandError → List ℕ
file_of_error (asks.Crawl workers max queues file seeds options) wrong.CannotReadSeeds = listed_or options.listed (string_bytes file)
file_of_error (asks.Check options ignores) wrong.CannotReadIgnores = listed_or ignores (string_bytes options.site.folder)
file_of_error (asks.Check options ignores) wrong.CannotReadIndex = listed_or options.site.index (string_bytes options.site.folder)
file_of_error (asks.Site options) wrong.CannotReadIndex = listed_or options.index (string_bytes options.folder)
file_of_error (asks.ServeLog given) (wrong.Log why) = string_bytes given.file
file_of_error (asks.Compact given) (wrong.Log why) = string_bytes given.log.file
file_of_error plan error = file_of plan

-- the suffixes of the filter of a crawl
abbrev pub suffixes_of : Option (String Global) → List (List ℕ)
suffixes_of None = []
suffixes_of (Some suffix) = string_bytes suffix ∷ []

-- there is a suffix, and no host can end in it
abbrev pub is_bad_suffix : Option (String Global) → Bool
is_bad_suffix None = false
is_bad_suffix (Some suffix) = not (is_good (string_bytes suffix))

-- one of the files of a crawl is the standard input, and the suffix is not bad
abbrev pub reads_files : CrawlPlan → Bool
reads_files crawl = not (is_bad_suffix crawl.options.within) && (is_input (string_bytes crawl.file) || lists_input crawl.options.listed)

-- the command reads the standard input: it is a session, or one of its files is the standard input; and the suffix is not bad
abbrev pub reads_input : Plan → Bool
reads_input (asks.Crawl workers max queues file seeds options) = reads_files (crawl_of workers max queues file seeds options)
reads_input (asks.Site options) = false
reads_input (asks.Check options ignores) = false
reads_input (asks.Key url workers) = false
reads_input (asks.Replay file) = is_input (string_bytes file)
reads_input (asks.Serve given) = not (is_bad_suffix given.within)
reads_input (asks.ServeLog given) = not (is_bad_suffix given.session.within)
reads_input (asks.List list) = false
reads_input (asks.Compact given) = false

-- the command may print notices if it succeeds: a session with a log, or a command for a folder
abbrev pub has_notices : Plan → Bool
has_notices (asks.ServeLog given) = true
has_notices (asks.Compact given) = true
has_notices (asks.Site options) = true
has_notices (asks.Check options ignores) = true
has_notices plan = false

-- the command reports the first affected URL of an incomplete crawl
abbrev pub explains : Plan → Bool
explains (asks.Crawl workers max queues file seeds options) = options.explain
explains plan = false
