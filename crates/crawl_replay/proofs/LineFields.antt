-- The content of a line of a script is the one that the format defines.
use Rattle.crawl_replay.proofs.Prelude.{◌≡◌, ◌≢◌, ℕ, ◌<◌, ◌≤◌, Bool, false, List, [], length, nat_eq, nat_lt, Option, Some, None, Result, Ok, Err, refl, sym, ap, subst, ◌∙◌, arith, lt-ltb, ltb-true, ◌+◌, ◌∷◌, ◌++◌, append_assoc, if◌then◌else◌, IsUtf8, is_utf8, nat_tests, Event, line_limit, text_of, LineError, event_of, said_by, some_event, with_text, events_of, unless_error, IsLineText, IsEventLine, IsBadAdmission, LineSays, ScriptError}
use Rattle.std.proofs.lemmas.Str.{IsUtf8-from_is_utf8, is_utf8-from_IsUtf8, IsUtf8-nil}
use Rattle.text_lines.specs.declared.lines.LineError.TheVariants as without
use Rattle.crawl_replay.specs.declared.script.error.ScriptError.TheVariants as wrong
use Rattle.crawl_replay.proofs.EventLines.{Holds, holds, event_said, bad_url_said}

-- ---- the text of a line

-- the text of a line, if it has one
abbrev pub TextHolds : ℕ → List ℕ → Result (List ℕ) LineError → Type 0
TextHolds number line (Ok text) = (text ≡ line) × IsLineText line
TextHolds number line (Err (without.TooLong n)) = (n ≡ number) × (line_limit < length line)
TextHolds number line (Err (without.NotText n)) = (n ≡ number) × (length line ≤ line_limit) × (IsUtf8 line → ⊥)

below_not : (a b : ℕ) → nat_lt a b ≡ false → b ≤ a
below_not a b e = grind (arith, nat_tests, e)

not_below : (a b : ℕ) → b ≤ a → nat_lt a b ≡ false
not_below a b h = grind (arith, nat_tests, h)

text_by_utf8 : (number : ℕ) (line : List ℕ) (utf8 : Bool) → length line ≤ line_limit → is_utf8 line ≡ utf8 → TextHolds number line (if utf8 then Ok line else Err (without.NotText number))
text_by_utf8 number line utf8 short is = grind (arith, IsUtf8-from_is_utf8, is_utf8-from_IsUtf8)

pub text_holds : (number : ℕ) (line : List ℕ) → TextHolds number line (text_of number line)
text_holds number line = grind (arith, ltb-true, text_by_utf8, below_not)

pub text_of-too_long : (number : ℕ) (line : List ℕ) → line_limit < length line → text_of number line ≡ Err (without.TooLong number)
text_of-too_long number line long = rw (lt-ltb line_limit (length line) long) refl

pub text_of-not_text : (number : ℕ) (line : List ℕ) → length line ≤ line_limit → (IsUtf8 line → ⊥) → text_of number line ≡ Err (without.NotText number)
text_of-not_text number line short none = grind (arith, not_below, IsUtf8-from_is_utf8)

pub text_of-text : (number : ℕ) (line : List ℕ) → IsLineText line → text_of number line ≡ Ok line
text_of-text number line is = rw (not_below line_limit (length line) is.short, is_utf8-from_IsUtf8 line is.text) refl

-- ---- a line after the first

-- the content of a text that is not empty
abbrev some_said : ℕ → ℕ → List ℕ → Result (Option Event) ScriptError
some_said workers number text = if nat_eq (length text) 0 then Ok None else some_event (event_of workers number text)

not_empty : (workers number : ℕ) (line : List ℕ) → line ≢ [] → some_said workers number line ≡ some_event (event_of workers number line)
not_empty workers number line some = grind arith

line_by_event : (workers number : ℕ) (line : List ℕ) (said : Result Event ScriptError) → IsLineText line → line ≢ [] → event_of workers number line ≡ said → Holds workers number line said → LineSays workers number line (some_event said)
line_by_event workers number line said text some is there = grind (arith, event_said, bad_url_said)

line_holds : (workers number : ℕ) (line : List ℕ) → LineSays workers number line (said_by workers number line)
line_holds workers number line = grind (arith, ltb-true, text_by_utf8, below_not, not_empty, line_by_event, holds)

-- an event line is not empty
never_empty : (workers number : ℕ) (line : List ℕ) (said : Result Event ScriptError) → event_of workers number line ≡ said → (said ≡ Err (wrong.BadLine number) → ⊥) → line ≢ []
never_empty workers number line said is other none = other (sym is ∙ ap (event_of workers number) none)

with_event : (workers number : ℕ) (line : List ℕ) (said : Result Event ScriptError) → IsLineText line → line ≢ [] → event_of workers number line ≡ said → said_by workers number line ≡ some_event said
with_event workers number line said text some is = ap (λ r. with_text r (some_said workers number)) (text_of-text number line text) ∙ not_empty workers number line some ∙ ap some_event is

bad_line : (workers number : ℕ) (line : List ℕ) (said : Result Event ScriptError) → event_of workers number line ≡ said → Holds workers number line said → ((event : Event) → IsEventLine workers event line → ⊥) → (IsBadAdmission line → ⊥) → said ≡ Err (wrong.BadLine number)
bad_line workers number line said is there none_said none_bad = grind arith

line_said : (workers number : ℕ) (line : List ℕ) (said : Result (Option Event) ScriptError) → LineSays workers number line said → said_by workers number line ≡ said
line_said workers number line (Ok None) empty =
    let text : IsLineText [] = record { short = omega arith; text = IsUtf8-nil } in
    ap (said_by workers number) empty ∙ ap (λ r. with_text r (some_said workers number)) (text_of-text number [] text)
line_said workers number line (Ok (Some event)) there =
    let says = event_said workers number event line there.1 in
    with_event workers number line (Ok event) there.0 (never_empty workers number line (Ok event) says (λ e. absurd (cc))) says
line_said workers number line (Err (wrong.LineTooLong n)) there = ap (λ r. with_text r (some_said workers number)) (text_of-too_long number line there.1) ∙ ap (λ m. Err (wrong.LineTooLong m)) (sym there.0)
line_said workers number line (Err (wrong.NotText n)) there = ap (λ r. with_text r (some_said workers number)) (text_of-not_text number line there.1 there.2) ∙ ap (λ m. Err (wrong.NotText m)) (sym there.0)
line_said workers number line (Err (wrong.BadLine n)) there =
    let says = bad_line workers number line (event_of workers number line) refl (holds workers number line) there.3 there.4 in
    with_event workers number line (Err (wrong.BadLine number)) there.1 there.2 says ∙ ap (λ m. Err (wrong.BadLine m)) (sym there.0)
line_said workers number line (Err (wrong.BadUrl n)) there =
    let says = bad_url_said workers number line there.2 in
    with_event workers number line (Err (wrong.BadUrl number)) there.1 (never_empty workers number line (Err (wrong.BadUrl number)) says (λ e. absurd (cc))) says ∙ ap (λ m. Err (wrong.BadUrl m)) (sym there.0)
line_said workers number line (Err wrong.BadHeader) there = absurd there
line_said workers number line (Err wrong.NoMemory) there = absurd there

pub line_means : (workers number : ℕ) (line : List ℕ) (said : Result (Option Event) ScriptError) → (said_by workers number line ≡ said → LineSays workers number line said) × (LineSays workers number line said → said_by workers number line ≡ said)
line_means workers number line said = (λ is. subst (LineSays workers number line) is (line_holds workers number line), line_said workers number line said)

-- The content of a script's lines, when they are read one by one

-- the events that were read so far, followed by those of the lines that remain
abbrev pub following : List Event → Result (List Event) ScriptError → Result (List Event) ScriptError
following front (Ok events) = Ok (front ++ events)
following front (Err error) = Err error

put : (front events : List Event) (event : Event) (error : Option ScriptError) → following front (unless_error error (event ∷ events)) ≡ following (front ++ event ∷ []) (unless_error error events)
put front events event error = grind (arith, append_assoc)

-- the first line that remains has an event
pub read_event : (workers : ℕ) (front : List Event) (number : ℕ) (left : List (List ℕ)) (line : List ℕ) (more : List (List ℕ)) (event : Event) (all : Result (List Event) ScriptError) → left ≡ line ∷ more → said_by workers number line ≡ Ok (Some event) → following front (events_of workers number left) ≡ all → following (front ++ event ∷ []) (events_of workers (number + 1) more) ≡ all
read_event workers front number left line more event all cut said before = grind (arith, put)
