-- What a new file gains of a log that is compacted, with the same settings or with other ones.
use Rattle.std.specs.Prelude.{◌≡◌, ℕ, ◌*◌, true, List, [], ◌∷◌, ◌++◌, ◌==◌, codes, if◌then◌else◌, Option, Some, None, Ok, String, string_bytes}
use Rattle.std.specs.Io.KnownBytes.{Appends}
use Rattle.std.specs.List.{concat}
use Rattle.std.specs.Option.{option_or}
use Rattle.std.specs.declared.alloc.Global.{Global}
use Rattle.std.specs.declared.hash.DefaultHasher.{DefaultHasher}
use Rattle.crawl_keys.specs.HostFilter.{filter_of}
use Rattle.crawl_session.specs.Compacting.{Compacts, Had, compacted, log_text}
use Rattle.crawl_session.specs.Frontiers.{Frontier, Shows, start}
use Rattle.crawl_session.specs.Listing.{done_in}
use Rattle.crawl_session.specs.LogStarts.{start_text}
use Rattle.crawl_session.specs.Logs.{settings_line}
use Rattle.crawl_session.specs.Rebuilding.{Given, Inventory, empty, lines_text, rebuilt, with_lines, with_unfinished}
use Rattle.crawl_session.specs.Settings.{SessionView, Settings}
use Rattle.crawl_session.specs.declared.rebuild.LeftOut.{LeftOut}
use Rattle.session_log.specs.LogFile.{flag_text, framed, part_apart, sum_with}
use Rattle.session_log.specs.Plans.{queues_of, settings_of}
use Rattle.session_log.specs.declared.compact_plan.NamedSettings.{NamedSettings}
use Rattle.session_log.specs.declared.error.Setting.{Setting}
use Rattle.session_log.specs.declared.error.Setting.TheVariants as other
use Rattle.session_log.specs.declared.plan.SessionPlan.{SessionPlan}

-- what a file gains of whole lines in pieces, each with its checksum if the file has checksums
abbrev pub framed_pieces : Option DefaultHasher → List (List ℕ) → List ℕ
framed_pieces sum [] = []
framed_pieces sum (piece ∷ more) = let text = framed sum true piece in text ++ framed_pieces (sum_with sum text) more

-- a writer and the state of its checksum
pub record Summing : Type 0 where
  pub sum : Option DefaultHasher
  pub contents : Option (List ℕ)

abbrev pub summing : Option DefaultHasher → Option (List ℕ) → Summing
summing sum contents = record { sum = sum; contents = contents }

-- a writer gained these pieces
pub record Gained (pieces : List (List ℕ)) (old new : Summing) : Type 0 where
  pub gained : Appends old.contents new.contents (framed_pieces old.sum pieces)
  pub sum : new.sum ≡ sum_with old.sum (framed_pieces old.sum pieces)

-- some lines were given to a session, by what was known of earlier ones, and the writer gained those that are needed
pub record Compacted (had : Had) (old : SessionView) (next : Had) (new : SessionView) (out_old out_new : Summing) : Type 0 where
  pub requests : List (List ℕ)
  pub pieces : List (List ℕ)
  pub gained : Gained pieces out_old out_new
  pub compacts : Compacts had old requests (concat pieces) next new

-- the writer gained these first lines, and then those of the compacted log of some requests, whatever state the session was in: each
-- piece of them with its checksum
pub record IsCompacted (session : SessionView) (first : List (List ℕ)) (sum : Option DefaultHasher) (out_old out_new : Option (List ℕ)) : Type 0 where
  pub requests : List (List ℕ)
  pub pieces : List (List ℕ)
  pub gained : Appends out_old out_new (framed_pieces sum (first ++ pieces))
  pub shortest : (state : Frontier) → Shows session.core state → concat pieces ≡ log_text (compacted session.settings state requests)

-- ---- other settings

-- the suffixes of a filter, by the suffix of its plan
abbrev pub suffixes_of : Option (String Global) → List (List ℕ)
suffixes_of None = []
suffixes_of (Some suffix) = string_bytes suffix ∷ []

-- the settings of a new log: those that the command line names, and the others of the log
pub record AreNewSettings (named : NamedSettings) (given own new_settings : SessionPlan) : Type 0 where
  pub workers : new_settings.workers ≡ (if named.workers then given.workers else own.workers)
  pub max : new_settings.max ≡ (if named.max then given.max else own.max)
  pub within : suffixes_of new_settings.within ≡ (if named.within then suffixes_of given.within else suffixes_of own.within)
  pub part : new_settings.part ≡ own.part

-- the part of a log whose queues would be of another number
abbrev pub other_queues : Option (ℕ × ℕ) → ℕ → ℕ → Option Setting
other_queues None own workers = None
other_queues (Some p) own workers = if own == workers then None else Some (other.Part p.0 p.1)

-- the first setting that a new log cannot have otherwise: the part of the log, if the command line names another one, or other queues
abbrev pub fixed_apart : NamedSettings → SessionPlan → SessionPlan → Option Setting
fixed_apart named given own = option_or (if named.part then part_apart own.part given.part else None) (other_queues own.part own.workers (if named.workers then given.workers else own.workers))

-- what the first line of a part's log has before the settings
abbrev pub part_start : Option (ℕ × ℕ) → List ℕ → List ℕ
part_start None identity = []
part_start (Some p) identity = start_text (Some p) (Some identity)

-- the first line of a log with checksums, with its LF
abbrev pub first_line : SessionPlan → List ℕ → List ℕ
first_line plan identity = ((part_start plan.part identity ++ settings_line plan.workers plan.max (suffixes_of plan.within)) ++ flag_text true) ++ 10 ∷ []

-- the number of the first queue of a part with this many
abbrev pub first_of : ℕ → Option (ℕ × ℕ) → ℕ
first_of workers None = 0
first_of workers (Some p) = p.0 * workers

abbrev pub first_queue : SessionPlan → ℕ
first_queue plan = first_of plan.workers plan.part

-- the URLs of a session that is in this state, and is then given these lines
abbrev pub inventory_after : Settings → List (List ℕ) → Frontier → Inventory
inventory_after settings requests state = with_unfinished settings.workers (done_in settings requests state).state (with_lines settings state empty requests)

-- the lines after the first one of a log of this plan that has these URLs
abbrev pub rebuilt_log : SessionPlan → List (List ℕ) → List ℕ → Inventory → Given
rebuilt_log plan filter identity had = rebuilt (settings_of plan filter identity) (first_queue plan) had (start (queues_of plan) plan.max)

-- the URLs of a session that was given some lines, whatever state it was in
pub record ReadsUrls (session : SessionView) (had : Inventory) : Type 0 where
  pub requests : List (List ℕ)
  pub urls : (state : Frontier) → Shows session.core state → had ≡ inventory_after session.settings requests state

-- the text of these lines, each of which the new session answers as it has to, and how many URLs it does not allow
pub record IsRebuiltText (had : Inventory) (plan : SessionPlan) (identity text : List ℕ) (left_out : LeftOut) : Type 0 where
  pub filter : List (List ℕ)
  pub filtered : filter_of (suffixes_of plan.within) ≡ Ok filter
  pub fits : (rebuilt_log plan filter identity had).fits ≡ true
  pub lines : text ≡ lines_text (rebuilt_log plan filter identity had).lines
  pub counted : left_out ≡ (rebuilt_log plan filter identity had).left_out

-- a writer gained this text in pieces
pub record InPieces (text : List ℕ) (old new : Summing) : Type 0 where
  pub pieces : List (List ℕ)
  pub whole : concat pieces ≡ text
  pub gained : Gained pieces old new

-- the writer gained the first line of a log of this plan, and then the lines of one that has the URLs of the session after some
-- requests, whatever state it was in: each piece of them with its checksum
pub record IsRebuilt (session : SessionView) (plan : SessionPlan) (identity : List ℕ) (left_out : LeftOut) (sum : Option DefaultHasher) (out_old out_new : Option (List ℕ)) : Type 0 where
  pub had : Inventory
  pub read : ReadsUrls session had
  pub pieces : List (List ℕ)
  pub rebuilt : IsRebuiltText had plan identity (concat pieces) left_out
  pub gained : Appends out_old out_new (framed_pieces sum (first_line plan identity ∷ pieces))
