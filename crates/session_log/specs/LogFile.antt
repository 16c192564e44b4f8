-- What a log gains, and why it cannot be used.
use Rattle.std.specs.Prelude.{◌≡◌, ℕ, ◌-◌, Bool, true, false, ◌&&◌, ◌||◌, List, [], ◌∷◌, ◌++◌, ◌==◌, codes, if◌then◌else◌, drop, length, min, nat_lt, Option, Some, None, position, slice_range, String, string_bytes, take, unwrap_or, bytes_eq}
use Rattle.std.specs.Option.{option_or}
use Rattle.std.specs.declared.alloc.Global.{Global}
use Rattle.std.specs.List.{concat, list_any}
use Rattle.std.specs.Str.Lines.{lines}
use Rattle.std.specs.Hash.DefaultHasher.{initial, write}
use Rattle.std.specs.declared.hash.DefaultHasher.{DefaultHasher}
use Rattle.crawl_replay.specs.Script.{header_of}
use Rattle.crawl_replay.specs.declared.script.header.Header.{Header}
use Rattle.crawl_session.specs.Input.{held_limit}
use Rattle.crawl_session.specs.LogStarts.{read_start}
use Rattle.crawl_session.specs.Logs.{within_text}
use Rattle.crawl_session.specs.Sums.{summed, unchecked, wrong_after}
use Rattle.crawl_session.specs.declared.serving.ServeError.{ServeError}
use Rattle.crawl_session.specs.declared.serving.ServeError.TheVariants as session
use Rattle.session_log.specs.declared.error.AppendError.{AppendError}
use Rattle.session_log.specs.declared.error.AppendError.TheVariants as append
use Rattle.session_log.specs.declared.error.LogError.{LogError}
use Rattle.session_log.specs.declared.error.LogError.TheVariants as unlogged
use Rattle.session_log.specs.declared.error.LoggedError.{LoggedError}
use Rattle.session_log.specs.declared.error.LoggedError.TheVariants as ends
use Rattle.session_log.specs.declared.error.Setting.{Setting}
use Rattle.session_log.specs.declared.error.Setting.TheVariants as other
use Rattle.session_log.specs.declared.plan.SessionPlan.{SessionPlan}
use Rattle.session_log.specs.declared.window.Window.{Window}

-- the bytes that were read and not handed on
abbrev pub items : Window → List ℕ
items w = slice_range w.bytes.items w.from w.to

-- what ends a line whose last byte is this one: the line is then the same with its end as without
abbrev pub line_end : ℕ → List ℕ
line_end last = if last == 10 then [] else if last == 13 then 13 ∷ 10 ∷ [] else 10 ∷ []

-- how many bytes come before the first LF, or the end
abbrev pub line_len : List ℕ → ℕ
line_len bytes = unwrap_or (position (λ b. b == 10) bytes) (length bytes)

-- what is appended of bytes that follow the given number of an unfinished line: all, but for those of that line past the limit
abbrev pub noted : ℕ → List ℕ → List ℕ
noted unfinished bytes = take (min (line_len bytes) (held_limit - unfinished)) bytes ++ drop (line_len bytes) bytes

-- what a file gains of bytes of requests, which are at the start of a line or not, if this is the state of its checksum, or if it has
-- none
abbrev pub framed : Option DefaultHasher → Bool → List ℕ → List ℕ
framed None start bytes = bytes
framed (Some hash) start bytes = summed hash start bytes

-- the state of its checksum after this text
abbrev pub sum_with : Option DefaultHasher → List ℕ → Option DefaultHasher
sum_with None text = None
sum_with (Some hash) text = Some (write hash text)

-- the checksum of some lines of a log, each with its LF, of which none is a wrong checksum
abbrev pub IsRightSum : DefaultHasher → Type 0
IsRightSum sum = (lines : List (List ℕ)) × ((wrong_after unchecked lines ≡ None) × (sum ≡ write initial (concat lines)))

-- a line of these is `sync`
abbrev pub has_sync : List (List ℕ) → Bool
has_sync ls = list_any (λ line. bytes_eq line (codes "sync")) ls

-- this number of bytes can be a beginning of `sync` and a CR
abbrev pub may_be_sync : ℕ → Bool
may_be_sync unfinished = nat_lt 0 unfinished && nat_lt unfinished 6

-- a line that ends in these bytes, which follow the given number of an unfinished line, may be `sync`
abbrev pub may_sync : ℕ → List ℕ → Bool
may_sync unfinished bytes = may_be_sync unfinished || has_sync (lines bytes)

-- the part of a log, if it is another one than that of the plan
abbrev pub part_apart : Option (ℕ × ℕ) → Option (ℕ × ℕ) → Option Setting
part_apart None None = None
part_apart None (Some own) = Some other.NoPart
part_apart (Some p) None = Some (other.Part p.0 p.1)
part_apart (Some p) (Some own) = if (p.0 == own.0) && (p.1 == own.1) then None else Some (other.Part p.0 p.1)

-- the suffixes are that of the plan, or none if it has none
abbrev pub is_within : List (List ℕ) → Option (String Global) → Bool
is_within [] None = true
is_within (suffix ∷ []) (Some own) = bytes_eq suffix (string_bytes own)
is_within suffixes own = false

-- the suffixes of a log, if they are others
abbrev pub within_apart : List (List ℕ) → Option (String Global) → Option Setting
within_apart suffixes own = if is_within suffixes own then None else if length suffixes == 0 then Some other.NoWithin else Some other.Within

-- its number of workers, if it is another one
abbrev pub workers_apart : ℕ → ℕ → Option Setting
workers_apart workers own = if workers == own then None else Some (other.Workers workers)

-- its limit of pending URLs, if it is another one
abbrev pub max_apart : ℕ → ℕ → Option Setting
max_apart max own = if max == own then None else Some (other.MaxPending max)

-- the first setting, in the order of the first line, in which a log with these settings differs from a plan
abbrev pub setting_apart : Option (ℕ × ℕ) → List (List ℕ) → Header → SessionPlan → Option Setting
setting_apart part suffixes header plan =
    option_or (option_or (option_or (part_apart part plan.part) (within_apart suffixes plan.within)) (workers_apart header.workers plan.workers)) (max_apart header.max plan.max)

-- what follows the settings in the first line of a log, which may have checksums
abbrev pub flag_text : Bool → List ℕ
flag_text false = []
flag_text true = codes " sums"

-- the first line of a log has this setting, which is another one than that of a plan
pub record HasOther (line : List ℕ) (plan : SessionPlan) (setting : Setting) : Type 0 where
  pub suffixes : List (List ℕ)
  pub rest : List ℕ
  pub header : Header
  pub sums : Bool
  pub begun : (read_start line).1.1 ≡ (within_text suffixes ++ rest) ++ flag_text sums
  pub numbers : header_of rest ≡ Some header
  pub other : setting_apart (read_start line).0 suffixes header plan ≡ Some setting

-- why a log with this first line is not the log of a plan
abbrev pub IsErrorOfLine : List ℕ → SessionPlan → LogError → Type 0
IsErrorOfLine line plan (unlogged.OtherSettings setting) = HasOther line plan setting
IsErrorOfLine line plan unlogged.NotALog = Unit {0}
IsErrorOfLine line plan error = ⊥

-- a log cannot be read: it cannot be opened, a read fails, it is none, it is damaged, or memory runs out
abbrev pub IsReadError : LogError → Type 0
IsReadError (unlogged.Damaged right wrong) = Unit {0}
IsReadError unlogged.CannotOpen = Unit {0}
IsReadError unlogged.CannotRead = Unit {0}
IsReadError unlogged.NotALog = Unit {0}
IsReadError unlogged.NoMemory = Unit {0}
IsReadError error = ⊥

-- a log that is open cannot be read or written, or memory runs out
abbrev pub IsUseError : LogError → Type 0
IsUseError unlogged.CannotRead = Unit {0}
IsUseError unlogged.CannotWrite = Unit {0}
IsUseError unlogged.Changed = Unit {0}
IsUseError unlogged.NoMemory = Unit {0}
IsUseError why = ⊥

-- a session with a log breaks off by this error: its input cannot be read, an answer or the log cannot be written, another program
-- changed the log, or out of memory
abbrev pub IsBreak : LoggedError → Type 0
IsBreak (ends.Session why) = Unit {0}
IsBreak (ends.Log unlogged.CannotWrite) = Unit {0}
IsBreak (ends.Log unlogged.Changed) = Unit {0}
IsBreak error = ⊥

-- the error of a log that cannot be appended to
abbrev pub error_of_append : AppendError → LogError
error_of_append append.CannotWrite = unlogged.CannotWrite
error_of_append append.Changed = unlogged.Changed
error_of_append append.NoMemory = unlogged.NoMemory

-- the error of a session that ends for this reason, after an append that may have failed
abbrev pub error_of_break : Option AppendError → ServeError → LoggedError
error_of_break None why = ends.Session why
error_of_break (Some append.CannotWrite) why = ends.Log unlogged.CannotWrite
error_of_break (Some append.Changed) why = ends.Log unlogged.Changed
error_of_break (Some append.NoMemory) why = ends.Session session.NoMemory
