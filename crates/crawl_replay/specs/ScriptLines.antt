-- The lines of a script, as the format defines them: which bytes each kind of line has.
use Rattle.std.specs.Prelude.{◌≡◌, ◌≢◌, ◌⊎◌, ◌+◌, ◌≤◌, ◌<◌, ◌^◌, ℕ, List, [], ◌∷◌, ◌++◌, length, codes, Option, Some, None, Result, Ok, Err, All, IsUtf8}
use Rattle.std.specs.Str.Parse.{digits_value}
use Rattle.crawl_keys.specs.Assignment.{subqueue_of}
use Rattle.crawl_keys.specs.CanonicalText.{canonical}
use Rattle.crawl_keys.specs.declared.error.KeyError.{KeyError}
use Rattle.crawl_core.specs.declared.event.Event.{Event}
use Rattle.crawl_core.specs.declared.event.Event.TheVariants.{Look, Enter, Admit, Back, EndSeeds, Take, Done, Close}
use Rattle.crawl_limits.specs.Limits.{AreLimits, line_limit}
use Rattle.crawl_replay.specs.Limits.{most_digits}
use Rattle.crawl_replay.specs.Script.{Said}
use Rattle.crawl_replay.specs.declared.script.header.Header.{Header}
use Rattle.crawl_replay.specs.declared.script.error.ScriptError.{ScriptError}
use Rattle.crawl_replay.specs.declared.script.error.ScriptError.TheVariants.{LineTooLong, NotText, BadHeader, BadLine, BadUrl, NoMemory}

-- a line that is UTF-8 and not too long
pub record IsLineText (line : List ℕ) : Type 0 where
  pub short : length line ≤ line_limit
  pub text : IsUtf8 line

-- one digit or more, at most the number that is allowed, with this value, which fits this number of bits
pub record IsNumber (bits value : ℕ) (text : List ℕ) : Type 0 where
  pub digits : All (λ b. (48 ≤ b) × (b ≤ 57)) text
  pub some : 1 ≤ length text
  pub few : length text ≤ most_digits
  pub means : digits_value 10 text ≡ value
  pub fits : value < 2 ^ bits

-- the word, a space, and a number of this value
pub record IsNumbered (word : List ℕ) (bits value : ℕ) (line : List ℕ) : Type 0 where
  pub number : List ℕ
  pub written : line ≡ word ++ (codes " " ++ number)
  pub valued : IsNumber bits value number

-- `admit`, a space, a sender, a space, and an address
pub record IsAdmit (sender : ℕ) (address line : List ℕ) : Type 0 where
  pub number : List ℕ
  pub written : line ≡ codes "admit" ++ (codes " " ++ (number ++ (codes " " ++ address)))
  pub sent : IsNumber 64 sender number

-- an address with this canonical URL, which belongs to this subqueue, of this number
pub record IsAdmission (workers sender : ℕ) (url : List ℕ) (queue : ℕ) (line : List ℕ) : Type 0 where
  pub address : List ℕ
  pub admits : IsAdmit sender address line
  pub named : canonical address ≡ Ok url
  pub placed : queue ≡ subqueue_of url workers

-- an address without a canonical URL
pub record IsBadAdmission (line : List ℕ) : Type 0 where
  pub sender : ℕ
  pub address : List ℕ
  pub admits : IsAdmit sender address line
  pub refusal : KeyError
  pub refused : canonical address ≡ Err refusal

-- the line of an event, for a frontier with this number of workers
abbrev pub IsEventLine : ℕ → Event → List ℕ → Type 0
IsEventLine workers (Look sender) line = IsNumbered (codes "look") 64 sender line
IsEventLine workers (Enter sender) line = IsNumbered (codes "enter") 64 sender line
IsEventLine workers (Admit sender url queue) line = IsAdmission workers sender url queue line
IsEventLine workers (Back sender) line = IsNumbered (codes "back") 64 sender line
IsEventLine workers EndSeeds line = line ≡ codes "endseeds"
IsEventLine workers (Take queue) line = IsNumbered (codes "take") 32 queue line
IsEventLine workers (Done queue) line = IsNumbered (codes "done") 32 queue line
IsEventLine workers Close line = line ≡ codes "close"

-- `workers N max M`, with numbers that are within a frontier's limits
pub record IsHeaderLine (workers max : ℕ) (line : List ℕ) : Type 0 where
  pub first : List ℕ
  pub second : List ℕ
  pub written : line ≡ codes "workers" ++ (codes " " ++ (first ++ (codes " max" ++ (codes " " ++ second))))
  pub workers_are : IsNumber 32 workers first
  pub max_is : IsNumber 64 max second
  pub within : AreLimits workers max

-- the content of the line with this number, after the first: which lines are empty, which are an event, and which have each error
abbrev pub LineSays : ℕ → ℕ → List ℕ → Result (Option Event) ScriptError → Type 0
LineSays workers number line (Ok None) = line ≡ []
LineSays workers number line (Ok (Some event)) = IsLineText line × IsEventLine workers event line
LineSays workers number line (Err (LineTooLong n)) = (n ≡ number) × (line_limit < length line)
LineSays workers number line (Err (NotText n)) = (n ≡ number) × (length line ≤ line_limit) × (IsUtf8 line → ⊥)
LineSays workers number line (Err (BadLine n)) =
    (n ≡ number) × IsLineText line × (line ≢ []) × ((event : Event) → IsEventLine workers event line → ⊥) × (IsBadAdmission line → ⊥)
LineSays workers number line (Err (BadUrl n)) = (n ≡ number) × IsLineText line × IsBadAdmission line
LineSays workers number line (Err BadHeader) = ⊥
LineSays workers number line (Err NoMemory) = ⊥

-- the content of the first line: which lines are a header, and which have each error
abbrev pub HeaderSays : List ℕ → Result Header ScriptError → Type 0
HeaderSays line (Ok header) = IsLineText line × IsHeaderLine header.workers header.max line
HeaderSays line (Err (LineTooLong n)) = (n ≡ 1) × (line_limit < length line)
HeaderSays line (Err (NotText n)) = (n ≡ 1) × (length line ≤ line_limit) × (IsUtf8 line → ⊥)
HeaderSays line (Err BadHeader) = IsLineText line × ((workers max : ℕ) → IsHeaderLine workers max line → ⊥)
HeaderSays line (Err (BadLine n)) = ⊥
HeaderSays line (Err (BadUrl n)) = ⊥
HeaderSays line (Err NoMemory) = ⊥

-- the lines have exactly these events, in order; the first of the lines has this number
abbrev pub LinesSay : ℕ → ℕ → List (List ℕ) → List Event → Type 0
LinesSay workers number [] events = events ≡ []
LinesSay workers number (line ∷ more) events =
    (LineSays workers number line (Ok None) × LinesSay workers (number + 1) more events)
    ⊎ ((event : Event) × (later : List Event) × (events ≡ event ∷ later) × LineSays workers number line (Ok (Some event)) × LinesSay workers (number + 1) more later)

-- the lines are this script: the first has its header, and the others its events
pub record IsScript (lines : List (List ℕ)) (script : Said) : Type 0 where
  pub first : List ℕ
  pub more : List (List ℕ)
  pub split : lines ≡ first ∷ more
  pub headed : HeaderSays first (Ok (record { workers = script.workers; max = script.max }))
  pub events : LinesSay script.workers 2 more script.events
