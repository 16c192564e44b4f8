-- Raw text, as in `style` or `title`, up to its end tag, as the HTML Standard's tokenizer reads it in its RCDATA and RAWTEXT
-- states. They differ only in character references.
use Rattle.std.specs.Prelude.{ℕ, ◌==◌, Bool, true, false, if◌then◌else◌, List, [], ◌∷◌, ◌++◌, map, Option, None, Some, bytes_eq}
use Rattle.html_links.specs.declared.bytes.Class.{Class}
use Rattle.html_links.specs.declared.bytes.Class.TheVariants.{Space, Slash, Greater}
use Rattle.std.specs.Char.{to_ascii_lowercase}
use Rattle.html_links.specs.Tags.{class_of, is_letter}

-- the state in the name of an end tag contains the name so far: the Standard's temporary buffer, in lower case
pub data State : Type 0 where
  Text : State
  LessThan : State
  EndTagOpen : State
  EndTagName : List ℕ → State

-- go to a state, or continue at this byte after the name of the end tag
pub data Next : Type 0 where
  Go : State → Next
  Ends : Next

abbrev pub text_step : ℕ → Next
text_step c = if c == 60 then Go LessThan else Go Text

-- the name of an appropriate end tag ends at white space, `/` or `>`
abbrev pub ends_name : Class → Bool
ends_name Space = true
ends_name Slash = true
ends_name Greater = true
ends_name _ = false

abbrev pub step : List ℕ → State → ℕ → Next
step name Text c = text_step c
step name LessThan c = if c == 47 then Go EndTagOpen else text_step c
step name EndTagOpen c = if is_letter c then Go (EndTagName (to_ascii_lowercase c ∷ [])) else text_step c
step name (EndTagName so_far) c =
    if is_letter c then Go (EndTagName (so_far ++ to_ascii_lowercase c ∷ []))
    else if ends_name (class_of c) then (if bytes_eq so_far name then Ends else text_step c)
    else text_step c

abbrev pub follow : Next → (State → Option (List ℕ)) → List ℕ → Option (List ℕ)
follow (Go state) on here = on state
follow Ends on here = Some here

-- the bytes after the name of the end tag of this element, if there is one
abbrev pub run : List ℕ → State → List ℕ → Option (List ℕ)
run name state [] = None
run name state (c ∷ rest) = follow (step name state c) (λ state. run name state rest) (c ∷ rest)

-- what the code tests about the bytes after the letters that follow a `</`
abbrev pub ends_at : List ℕ → Bool
ends_at [] = false
ends_at (c ∷ rest) = ends_name (class_of c)

abbrev pub same_name : List ℕ → List ℕ → Bool
same_name found name = bytes_eq (map to_ascii_lowercase found) (map to_ascii_lowercase name)
