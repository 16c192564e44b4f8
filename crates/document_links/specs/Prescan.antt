-- The encoding that a document declares, by the HTML Standard's prescan of its first bytes. Each position in the Standard's text is a
-- constructor of `State`, and each transition an equation of `step`. Two differences: a name that is not an encoding's ends the
-- prescan too, and neither UTF-16 nor an XML declaration is looked for.
use Rattle.std.specs.Prelude.{ℕ, zero, suc, ◌==◌, ◌&&◌, ◌||◌, not, Bool, true, false, List, [], ◌∷◌, ◌++◌, codes, length, take, drop, Option, None, Some, if◌then◌else◌}
use Rattle.std.specs.Char.{is_ascii_alphabetic, is_ascii_whitespace}
use Rattle.std.specs.List.{list_any}
use Rattle.std.specs.Option.{option_map_or, unwrap_or}
use Rattle.std.specs.Str.{str_eq_ignore_ascii_case}
use Rattle.html_links.specs.Shown.{following, front}
use Rattle.url.specs.Input.{trim_end, trim_start}
use Rattle.document_links.specs.Markup.{begins, is_quote}
use Rattle.document_links.specs.Starts.{begins_in_any_case}
use Rattle.document_links.specs.declared.prescan.Opening.{Opening}
use Rattle.document_links.specs.declared.prescan.Opening.TheVariants as opening

-- there is a first byte, and it passes a test
abbrev pub first_is : (ℕ → Bool) → List ℕ → Bool
first_is test bytes = list_any test (take 1 bytes)

-- ---- extracting an encoding from a `meta`

-- without ASCII white space at its ends
abbrev pub bare_label : List ℕ → List ℕ
bare_label label = trim_end is_ascii_whitespace (trim_start is_ascii_whitespace label)

-- up to the first such quote, or nothing if there is none
abbrev pub unquoted : ℕ → List ℕ → List ℕ
unquoted quote text = if length (following (λ b. not (b == quote)) text) == 0 then [] else front (λ b. not (b == quote)) text

abbrev pub in_label : ℕ → Bool
in_label b = not (is_ascii_whitespace b || b == 59)

-- in quotes, or up to white space or `;`
abbrev pub label_at : List ℕ → List ℕ
label_at [] = []
label_at (b ∷ text) = if is_quote b then unquoted b text else front in_label (b ∷ text)

abbrev pub after_spaces : List ℕ → List ℕ
after_spaces text = following is_ascii_whitespace text

abbrev pub begins_charset : List ℕ → Bool
begins_charset text = begins_in_any_case (codes "charset") text && first_is (λ b. b == 61) (after_spaces (drop 7 text))

-- after the first `charset` that comes before a `=`
abbrev pub label_in : List ℕ → List ℕ
label_in [] = []
label_in (b ∷ text) = if begins_charset (b ∷ text) then label_at (after_spaces (drop 1 (after_spaces (drop 6 text)))) else label_in text

-- The first values of the attributes of a `meta`: its `charset`, its `http-equiv` and its `content`. Those of other tags are not kept.
pub record Meta : Type 0 where
  pub is_meta : Bool
  pub charset : Option (List ℕ)
  pub header : Option (List ℕ)
  pub content : Option (List ℕ)

abbrev pub first : Option (List ℕ) → List ℕ → Option (List ℕ)
first old value = Some (unwrap_or old value)

-- with one more attribute
abbrev pub noted : Meta → List ℕ → List ℕ → Meta
noted tag name value =
    if not tag.is_meta then tag
    else if str_eq_ignore_ascii_case name (codes "charset") then record { is_meta = true; charset = first tag.charset value; header = tag.header; content = tag.content }
    else if str_eq_ignore_ascii_case name (codes "http-equiv") then record { is_meta = true; charset = tag.charset; header = first tag.header value; content = tag.content }
    else if str_eq_ignore_ascii_case name (codes "content") then record { is_meta = true; charset = tag.charset; header = tag.header; content = first tag.content value }
    else tag

abbrev pub is_kind : List ℕ → Bool
is_kind header = str_eq_ignore_ascii_case header (codes "content-type")

-- what the `content` says, if the `http-equiv` is that of a type
abbrev pub pragma_label : Meta → List ℕ
pragma_label tag = if option_map_or is_kind tag.header false then option_map_or label_in tag.content [] else []

-- the name of an encoding that the tag declares, or no bytes
abbrev pub label_of : Meta → List ℕ
label_of tag = bare_label (unwrap_or tag.charset (pragma_label tag))

-- ---- the prescan

pub data State : Type 0 where
  Content : State
  Comment : State
  -- up to the next `>`
  Markup : State
  TagName : State
  -- the name `meta`, of which this number of bytes comes after the next one
  MetaName : ℕ → State
  BeforeName : Meta → State
  Name : Meta → List ℕ → State
  AfterName : Meta → List ℕ → State
  BeforeValue : Meta → List ℕ → State
  Quoted : ℕ → Meta → List ℕ → List ℕ → State
  Unquoted : Meta → List ℕ → List ℕ → State

-- the next state, or the name that was found
pub data Next : Type 0 where
  Go : State → Next
  Found : List ℕ → Next

-- white space or `/`
abbrev pub is_gap : ℕ → Bool
is_gap b = is_ascii_whitespace b || b == 47

-- what begins with a `<`, by the bytes after it
abbrev pub opening_of : List ℕ → Opening
opening_of bytes =
    if begins (codes "!--") bytes then opening.Comment
    else if begins_in_any_case (codes "meta") bytes && first_is is_gap (drop 4 bytes) then opening.Meta
    else if first_is is_ascii_alphabetic bytes || (begins (codes "/") bytes && first_is is_ascii_alphabetic (drop 1 bytes)) then opening.Tag
    else if begins (codes "!") bytes || begins (codes "/") bytes || begins (codes "?") bytes then opening.Other
    else opening.Nothing

abbrev pub state_in : Opening → State
state_in opening.Comment = Comment
state_in opening.Meta = MetaName 3
state_in opening.Tag = TagName
state_in opening.Other = Markup
state_in opening.Nothing = Content

abbrev pub new_tag : Bool → Meta
new_tag is_meta = record { is_meta = is_meta; charset = None; header = None; content = None }

-- the end of a tag
abbrev pub ended : Meta → Next
ended tag = if length (label_of tag) == 0 then Go Content else Found (label_of tag)

-- "get an attribute", at its first byte
abbrev pub begun : Meta → ℕ → Next
begun tag b = if is_gap b then Go (BeforeName tag) else if b == 62 then ended tag else Go (Name tag (b ∷ []))

-- the step at a byte, before these bytes
abbrev pub step : State → ℕ → List ℕ → Next
step Content b bytes = Go (if b == 60 then state_in (opening_of bytes) else Content)
step Comment b bytes = Go (if begins (codes "-->") (b ∷ bytes) then Markup else Comment)
step Markup b bytes = Go (if b == 62 then Content else Markup)
step TagName b bytes = if is_ascii_whitespace b || b == 62 then begun (new_tag false) b else Go TagName
step (MetaName (suc count)) b bytes = Go (MetaName count)
step (MetaName zero) b bytes = Go (BeforeName (new_tag true))
step (BeforeName tag) b bytes = begun tag b
step (Name tag name) b bytes =
    if is_ascii_whitespace b then Go (AfterName tag name)
    else if b == 61 then Go (BeforeValue tag name)
    else if b == 47 || b == 62 then begun (noted tag name []) b
    else Go (Name tag (name ++ b ∷ []))
step (AfterName tag name) b bytes =
    if is_ascii_whitespace b then Go (AfterName tag name)
    else if b == 61 then Go (BeforeValue tag name)
    else begun (noted tag name []) b
step (BeforeValue tag name) b bytes =
    if is_ascii_whitespace b then Go (BeforeValue tag name)
    else if is_quote b then Go (Quoted b tag name [])
    else if b == 62 then begun (noted tag name []) b
    else Go (Unquoted tag name (b ∷ []))
step (Quoted quote tag name value) b bytes = Go (if b == quote then BeforeName (noted tag name value) else Quoted quote tag name (value ++ b ∷ []))
step (Unquoted tag name value) b bytes =
    if is_ascii_whitespace b || b == 62 then begun (noted tag name value) b else Go (Unquoted tag name (value ++ b ∷ []))

abbrev pub follow : Next → (State → Option (List ℕ)) → Option (List ℕ)
follow (Go state) on = on state
follow (Found name) on = Some name

-- If the bytes end, nothing is declared.
abbrev pub prescan : State → List ℕ → Option (List ℕ)
prescan state [] = None
prescan state (b ∷ bytes) = follow (step state b bytes) (λ state. prescan state bytes)

-- the name of an encoding in the start of a document
abbrev pub declared : List ℕ → Option (List ℕ)
declared start = prescan Content start
