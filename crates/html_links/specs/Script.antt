-- The text of a script up to its end tag, as the HTML Standard's tokenizer reads it in its script data states. The temporary buffer
-- is represented by the number of letters of `script` in it, or 7 if it has others.
use Rattle.std.specs.Prelude.{ℕ, ◌==◌, if◌then◌else◌, List, [], ◌∷◌, Option, None, Some}
use Rattle.std.specs.Char.{to_ascii_lowercase}
use Rattle.html_links.specs.declared.script.State.{State}
use Rattle.html_links.specs.declared.script.State.TheVariants.{Text, LessThan, EndTagOpen, EndTagName, EscapeStart, EscapeStartDash, Escaped, EscapedDash, EscapedDashDash, EscapedLessThan, EscapedEndTagOpen, EscapedEndTagName, DoubleEscapeStart, DoubleEscaped, DoubleEscapedDash, DoubleEscapedDashDash, DoubleEscapedLessThan, DoubleEscapeEnd}
use Rattle.html_links.specs.declared.script.Next.{Next}
use Rattle.html_links.specs.declared.script.Next.TheVariants.{Go, Ends}
use Rattle.html_links.specs.Tags.{class_of, is_letter}
use Rattle.html_links.specs.RawText.{ends_name}

-- this number if the byte is the letter, and otherwise 7
abbrev pub letters_if : ℕ → ℕ → ℕ → ℕ
letters_if letter count c = if to_ascii_lowercase c == letter then count else 7

-- the number of letters of `script` after one more letter
abbrev pub letter_after : ℕ → ℕ → ℕ
letter_after count c =
    if count == 0 then letters_if 115 1 c
    else if count == 1 then letters_if 99 2 c
    else if count == 2 then letters_if 114 3 c
    else if count == 3 then letters_if 105 4 c
    else if count == 4 then letters_if 112 5 c
    else if count == 5 then letters_if 116 6 c
    else 7

abbrev pub text_step : ℕ → Next
text_step c = if c == 60 then Go LessThan else Go Text

abbrev pub escaped_step : ℕ → Next
escaped_step c =
    if c == 45 then Go EscapedDash
    else if c == 60 then Go EscapedLessThan
    else Go Escaped

abbrev pub double_step : ℕ → Next
double_step c =
    if c == 45 then Go DoubleEscapedDash
    else if c == 60 then Go DoubleEscapedLessThan
    else Go DoubleEscaped

-- the end at white space, `/` or `>` if the name is `script`; otherwise another step
abbrev pub end_step : ℕ → ℕ → Next → Next
end_step count c other = if count == 6 then (if ends_name (class_of c) then Ends else other) else other

-- likewise, if the name changes the state instead of ending the text
abbrev pub change_step : ℕ → ℕ → Next → Next → Next → Next
change_step count c changed same other = if ends_name (class_of c) then (if count == 6 then changed else same) else other

abbrev pub step : State → ℕ → Next
step Text c = text_step c
step LessThan c =
    if c == 47 then Go EndTagOpen
    else if c == 33 then Go EscapeStart
    else text_step c
step EndTagOpen c = if is_letter c then Go (EndTagName (letter_after 0 c)) else text_step c
step (EndTagName count) c = if is_letter c then Go (EndTagName (letter_after count c)) else end_step count c (text_step c)
step EscapeStart c = if c == 45 then Go EscapeStartDash else text_step c
step EscapeStartDash c = if c == 45 then Go EscapedDashDash else text_step c
step Escaped c = escaped_step c
step EscapedDash c = if c == 45 then Go EscapedDashDash else escaped_step c
step EscapedDashDash c =
    if c == 45 then Go EscapedDashDash
    else if c == 62 then Go Text
    else escaped_step c
step EscapedLessThan c =
    if c == 47 then Go EscapedEndTagOpen
    else if is_letter c then Go (DoubleEscapeStart (letter_after 0 c))
    else escaped_step c
step EscapedEndTagOpen c = if is_letter c then Go (EscapedEndTagName (letter_after 0 c)) else escaped_step c
step (EscapedEndTagName count) c = if is_letter c then Go (EscapedEndTagName (letter_after count c)) else end_step count c (escaped_step c)
step (DoubleEscapeStart count) c = if is_letter c then Go (DoubleEscapeStart (letter_after count c)) else change_step count c (Go DoubleEscaped) (Go Escaped) (escaped_step c)
step DoubleEscaped c = double_step c
step DoubleEscapedDash c = if c == 45 then Go DoubleEscapedDashDash else double_step c
step DoubleEscapedDashDash c =
    if c == 45 then Go DoubleEscapedDashDash
    else if c == 62 then Go Text
    else double_step c
step DoubleEscapedLessThan c = if c == 47 then Go (DoubleEscapeEnd 0) else double_step c
step (DoubleEscapeEnd count) c = if is_letter c then Go (DoubleEscapeEnd (letter_after count c)) else change_step count c (Go Escaped) (Go DoubleEscaped) (double_step c)

abbrev pub follow : Next → (State → Option (List ℕ)) → List ℕ → Option (List ℕ)
follow (Go state) on here = on state
follow Ends on here = Some here

-- the bytes after the name of the script's end tag, if there is one
abbrev pub run : State → List ℕ → Option (List ℕ)
run state [] = None
run state (c ∷ rest) = follow (step state c) (λ state. run state rest) (c ∷ rest)
