-- The script in bytes: each line has a content or an error, and the first line with an error determines that of the script.
use Rattle.std.specs.Prelude.{ℕ, ◌+◌, Bool, ◌&&◌, List, [], ◌∷◌, length, codes, ◌==◌, nat_le, if◌then◌else◌, Option, Some, None, option_and_then, ok_or, Result, Ok, Err, option_map, bytes_eq}
use Rattle.std.specs.Str.Lines.{lines}
use Rattle.crawl_core.specs.declared.event.Event.{Event}
use Rattle.crawl_core.specs.declared.event.Event.TheVariants.{Look, Enter, Admit, Back, EndSeeds, Take, Done, Close}
use Rattle.crawl_limits.specs.Limits.{worker_limit, pending_limit}
use Rattle.crawl_keys.specs.declared.error.KeyError.{KeyError}
use Rattle.crawl_keys.specs.CanonicalText.{canonical}
use Rattle.crawl_keys.specs.Assignment.{subqueue_of}
use Rattle.text_lines.specs.Lines.{text_of}
use Rattle.text_lines.specs.declared.lines.LineError.{LineError}
use Rattle.crawl_replay.specs.Numbers.{number_of}
use Rattle.text_lines.specs.Fields.{at_space}
use Rattle.crawl_replay.specs.ScriptErrors.{error_of}
use Rattle.crawl_replay.specs.declared.script.header.Header.{Header}
use Rattle.crawl_replay.specs.declared.script.error.ScriptError.{ScriptError}
use Rattle.crawl_replay.specs.declared.script.error.ScriptError.TheVariants.{BadHeader, BadLine, BadUrl}

-- the content of a script: its header, and its events in order
pub record Said : Type 0 where
  pub workers : ℕ
  pub max : ℕ
  pub events : List Event

-- ---- the header

-- both numbers are within the limits of a frontier
abbrev pub is_within : ℕ → ℕ → Bool
is_within workers max = nat_le 1 workers && nat_le workers worker_limit && nat_le 1 max && nat_le max pending_limit

abbrev pub header_with : ℕ → ℕ → Option Header
header_with workers max = if is_within workers max then Some (record { workers = workers; max = max }) else None

abbrev pub header_from : List ℕ → List ℕ → List ℕ → List ℕ → Option Header
header_from first workers second max =
    if bytes_eq first (codes "workers") && bytes_eq second (codes "max") then
    option_and_then (λ w. option_and_then (λ m. header_with w m) (number_of 64 max)) (number_of 32 workers)
    else None

-- `workers N max M`
abbrev pub header_of : List ℕ → Option Header
header_of text =
    option_and_then (λ a. option_and_then (λ b. option_and_then (λ c. header_from a.0 b.0 c.0 c.1) (at_space b.1)) (at_space a.1)) (at_space text)

-- ---- an event

-- the canonical URL of a text, and the subqueue, of this number, to which its host key is assigned; a bad URL if it has none
abbrev pub address_from : ℕ → ℕ → Result (List ℕ) KeyError → Result (List ℕ × ℕ) ScriptError
address_from workers number (Ok url) = Ok (url, subqueue_of url workers)
address_from workers number (Err _) = Err (BadUrl number)

abbrev pub address_of : ℕ → ℕ → List ℕ → Result (List ℕ × ℕ) ScriptError
address_of workers number text = address_from workers number (canonical text)

abbrev pub admit_at : ℕ → Result (List ℕ × ℕ) ScriptError → Result Event ScriptError
admit_at sender (Ok address) = Ok (Admit sender address.0 address.1)
admit_at sender (Err error) = Err error

-- `S URL`: the URL is all of the text after the first space
abbrev pub admit_parts : List ℕ → Option (ℕ × List ℕ)
admit_parts rest = option_and_then (λ p. option_map (λ sender. (sender, p.1)) (number_of 64 p.0)) (at_space rest)

abbrev pub admit_with : ℕ → ℕ → Option (ℕ × List ℕ) → Result Event ScriptError
admit_with workers number None = Err (BadLine number)
admit_with workers number (Some p) = admit_at p.0 (address_of workers number p.1)

abbrev pub admit_of : ℕ → ℕ → List ℕ → Result Event ScriptError
admit_of workers number rest = admit_with workers number (admit_parts rest)

abbrev pub plain_event : List ℕ → Option Event
plain_event word =
    if bytes_eq word (codes "endseeds") then Some EndSeeds
    else if bytes_eq word (codes "close") then Some Close
    else None

abbrev pub numbered_event : List ℕ → List ℕ → Option Event
numbered_event word number =
    if bytes_eq word (codes "look") then option_map Look (number_of 64 number)
    else if bytes_eq word (codes "enter") then option_map Enter (number_of 64 number)
    else if bytes_eq word (codes "back") then option_map Back (number_of 64 number)
    else if bytes_eq word (codes "take") then option_map Take (number_of 32 number)
    else if bytes_eq word (codes "done") then option_map Done (number_of 32 number)
    else None

abbrev pub event_from : ℕ → ℕ → List ℕ → Option (List ℕ × List ℕ) → Result Event ScriptError
event_from workers number text None = ok_or (plain_event text) (BadLine number)
event_from workers number text (Some p) =
    if bytes_eq p.0 (codes "admit") then admit_of workers number p.1
    else ok_or (numbered_event p.0 p.1) (BadLine number)

-- the event of a text on the line with this number, for a frontier with this number of workers
abbrev pub event_of : ℕ → ℕ → List ℕ → Result Event ScriptError
event_of workers number text = event_from workers number text (at_space text)

-- ---- a line, and all lines together

abbrev pub with_text : {A : Type 0} → Result (List ℕ) LineError → (List ℕ → Result A ScriptError) → Result A ScriptError
with_text (Ok text) says = says text
with_text (Err error) says = Err (error_of error)

-- the header on the first line
abbrev pub header_in : List ℕ → Result Header ScriptError
header_in line = with_text (text_of 1 line) (λ text. ok_or (header_of text) BadHeader)

abbrev pub some_event : Result Event ScriptError → Result (Option Event) ScriptError
some_event (Ok event) = Ok (Some event)
some_event (Err error) = Err error

-- the event on another line; none if the line is empty
abbrev pub said_by : ℕ → ℕ → List ℕ → Result (Option Event) ScriptError
said_by workers number line = with_text (text_of number line) (λ text. if length text == 0 then Ok None else some_event (event_of workers number text))

-- the content of each line; the first of these lines has this number
abbrev pub said_from : ℕ → ℕ → List (List ℕ) → List (Result (Option Event) ScriptError)
said_from workers number [] = []
said_from workers number (line ∷ more) = said_by workers number line ∷ said_from workers (number + 1) more

-- the error of the first line that has one
abbrev pub least_error : List (Result (Option Event) ScriptError) → Option ScriptError
least_error [] = None
least_error (Ok said ∷ more) = least_error more
least_error (Err error ∷ more) = Some error

-- the events on the lines, in order
abbrev pub events_in : List (Result (Option Event) ScriptError) → List Event
events_in [] = []
events_in (Ok (Some event) ∷ more) = event ∷ events_in more
events_in (Ok None ∷ more) = events_in more
events_in (Err error ∷ more) = events_in more

abbrev pub unless_error : {A : Type 0} → Option ScriptError → A → Result A ScriptError
unless_error None x = Ok x
unless_error (Some error) x = Err error

abbrev pub events_of : ℕ → ℕ → List (List ℕ) → Result (List Event) ScriptError
events_of workers number more = unless_error (least_error (said_from workers number more)) (events_in (said_from workers number more))

abbrev pub with_events : Header → Result (List Event) ScriptError → Result Said ScriptError
with_events header (Err error) = Err error
with_events header (Ok events) = Ok (record { workers = header.workers; max = header.max; events = events })

abbrev pub with_header : Result Header ScriptError → List (List ℕ) → Result Said ScriptError
with_header (Err error) more = Err error
with_header (Ok header) more = with_events header (events_of header.workers 2 more)

abbrev pub script_in : List (List ℕ) → Result Said ScriptError
script_in [] = Err BadHeader
script_in (line ∷ more) = with_header (header_in line) more

-- the script in the bytes, or its error
abbrev pub script_of : List ℕ → Result Said ScriptError
script_of bytes = script_in (lines bytes)
