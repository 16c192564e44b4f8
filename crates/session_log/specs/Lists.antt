-- The list of a log, by its first line and its requests.
use Rattle.std.specs.Prelude.{◌≡◌, ℕ, Bool, List, ◌++◌, Option, Some, Ok}
use Rattle.crawl_keys.specs.HostFilter.{filter_of}
use Rattle.crawl_replay.specs.Script.{header_of}
use Rattle.crawl_session.specs.Frontiers.{Frontier, Shows, start}
use Rattle.crawl_session.specs.Listing.{Listed, Lists, done_in, in_progress_below, list_text, pending_below, stats_in}
use Rattle.crawl_session.specs.LogStarts.{read_start}
use Rattle.crawl_session.specs.Logs.{within_text}
use Rattle.crawl_session.specs.Sessions.{state_after}
use Rattle.crawl_session.specs.Settings.{Settings, SessionView}
use Rattle.crawl_session.specs.declared.list.ListForm.{ListForm}
use Rattle.session_log.specs.LogFile.{flag_text}
use Rattle.session_log.specs.Plans.{IsSessionPlan, queues_of, settings_of}
use Rattle.session_log.specs.declared.listing.ListKind.{ListKind}
use Rattle.session_log.specs.declared.listing.ListKind.TheVariants as kinds
use Rattle.session_log.specs.declared.listing.ListPlan.{ListPlan}
use Rattle.session_log.specs.declared.plan.SessionPlan.{SessionPlan}

-- what is listed of a session that is in this state, and is then given these lines
abbrev pub listed_of : ListKind → ListForm → Settings → List (List ℕ) → Frontier → Listed
listed_of kinds.Pending form settings requests state = pending_below settings.workers (state_after settings state requests)
listed_of kinds.InProgress form settings requests state = in_progress_below settings.workers (state_after settings state requests)
listed_of kinds.Done form settings requests state = done_in settings requests state
listed_of kinds.Stats form settings requests state = stats_in form settings.workers (state_after settings state requests)

-- the first line of a log, with checksums or not, has these settings, which are within the limits, and the suffixes of this filter
pub record IsFirstLine (line : List ℕ) (sums : Bool) (plan : SessionPlan) (filter : List (List ℕ)) : Type 0 where
  pub suffixes : List (List ℕ)
  pub rest : List ℕ
  pub placed : (read_start line).0 ≡ plan.part
  pub begun : (read_start line).1.1 ≡ (within_text suffixes ++ rest) ++ flag_text sums
  pub numbers : header_of rest ≡ Some (record { workers = plan.workers; max = plan.max })
  pub limits : IsSessionPlan plan
  pub filtered : filter_of suffixes ≡ Ok filter

-- the list of a log: of some settings that a first line has, and some requests after it
pub record IsListed (plan : ListPlan) (text : List ℕ) : Type 0 where
  pub line : List ℕ
  pub sums : Bool
  pub own : SessionPlan
  pub filter : List (List ℕ)
  pub identity : List ℕ
  pub first : IsFirstLine line sums own filter
  pub requests : List (List ℕ)
  pub listed : text ≡ list_text plan.form (listed_of plan.kind plan.form (settings_of own filter identity) requests (start (queues_of own) own.max)).rows

-- a new session of a log with this first line
pub record IsBegun (line : List ℕ) (sums : Bool) (session : SessionView) : Type 0 where
  pub own : SessionPlan
  pub filter : List (List ℕ)
  pub identity : List ℕ
  pub first : IsFirstLine line sums own filter
  pub settings : session.settings ≡ settings_of own filter identity
  pub start : Shows session.core (start (queues_of own) own.max)

-- lines were given to a session, and the URLs that they end were written
abbrev pub ListsLines : ListForm → SessionView → Option (List ℕ) → Option (List ℕ) → SessionView → Type 0
ListsLines form old out_old out_new new = (requests : List (List ℕ)) × Lists form (done_in old.settings requests) old out_old out_new new

-- the list of a session that is given some lines, whatever state it keeps
pub record ListsLog (kind : ListKind) (form : ListForm) (session : SessionView) (text : List ℕ) : Type 0 where
  pub requests : List (List ℕ)
  pub listed : (state : Frontier) → Shows session.core state → text ≡ list_text form (listed_of kind form session.settings requests state).rows
