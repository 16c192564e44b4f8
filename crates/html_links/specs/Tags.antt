-- Start tags, from the bytes after their name, as the HTML Standard's tokenizer reads them in its states from before attribute name
-- to self-closing start tag. Each state is a constructor, and each transition an equation of `step`. Carriage returns count as
-- white space, since the Standard first makes line feeds of them. NUL stays NUL, and character references stay as they are.
use Rattle.std.specs.Prelude.{ℕ, ◌==◌, ◌||◌, ◌&&◌, nat_le, Bool, true, false, if◌then◌else◌, List, [], ◌∷◌, ◌++◌, length, reverse, Option, None, Some, suc}
use Rattle.std.specs.Char.{to_ascii_lowercase}
use Rattle.html_links.specs.declared.bytes.Class.{Class}
use Rattle.html_links.specs.declared.bytes.Class.TheVariants.{Space, Slash, Greater, Equals, Quote, Apostrophe, Other}

-- tab, line feed, form feed, carriage return and space; `/`, `>`, `=`, `"`, `'`
abbrev pub class_of : ℕ → Class
class_of c =
    if c == 9 || c == 10 || c == 12 || c == 13 || c == 32 then Space
    else if c == 47 then Slash
    else if c == 62 then Greater
    else if c == 61 then Equals
    else if c == 34 then Quote
    else if c == 39 then Apostrophe
    else Other

-- an ASCII upper-case letter in lower case
abbrev pub lower : ℕ → ℕ
lower c = to_ascii_lowercase c

abbrev pub is_letter : ℕ → Bool
is_letter c = (nat_le 65 c && nat_le c 90) || (nat_le 97 c && nat_le c 122)

-- `left` is the number of bytes from the first byte of the value to the end of the document. A quote is not part of the value, and
-- a value that is not there is at the end of the attribute's name.
pub record Attribute : Type 0 where
  pub name : List ℕ
  pub value : List ℕ
  pub left : ℕ

pub data State : Type 0 where
  BeforeName : State
  Name : State
  AfterName : State
  BeforeValue : State
  DoubleQuoted : State
  SingleQuoted : State
  Unquoted : State
  AfterQuoted : State
  SelfClosing : State

-- a new attribute, whose name has one byte, with this number of bytes after it
abbrev pub start : ℕ → ℕ → List Attribute → List Attribute
start c left all = record { name = lower c ∷ []; value = []; left = left } ∷ all

-- one more byte of the latest attribute's name, and of its value
abbrev pub to_name : ℕ → ℕ → List Attribute → List Attribute
to_name c left [] = []
to_name c left (a ∷ all) = record { name = a.name ++ lower c ∷ []; value = a.value; left = left } ∷ all

abbrev pub to_value : ℕ → List Attribute → List Attribute
to_value c [] = []
to_value c (a ∷ all) = record { name = a.name; value = a.value ++ c ∷ []; left = a.left } ∷ all

-- the value of the latest attribute begins, with this number of bytes from there on
abbrev pub begin_value : ℕ → List Attribute → List Attribute
begin_value left [] = []
begin_value left (a ∷ all) = record { name = a.name; value = a.value; left = left } ∷ all

-- Go to a state, or emit the tag, with its self-closing flag.
pub data Next : Type 0 where
  Go : State → List Attribute → Next
  Emit : Bool → List Attribute → Next

-- the step at a byte of this class, with this number of bytes after it
abbrev pub step : State → Class → ℕ → ℕ → List Attribute → Next
step BeforeName Space c left all = Go BeforeName all
step BeforeName Slash c left all = Go SelfClosing all
step BeforeName Greater c left all = Emit false all
step BeforeName _ c left all = Go Name (start c left all)
step Name Space c left all = Go AfterName all
step Name Slash c left all = Go SelfClosing all
step Name Greater c left all = Emit false all
step Name Equals c left all = Go BeforeValue all
step Name _ c left all = Go Name (to_name c left all)
step AfterName Space c left all = Go AfterName all
step AfterName Slash c left all = Go SelfClosing all
step AfterName Equals c left all = Go BeforeValue all
step AfterName Greater c left all = Emit false all
step AfterName _ c left all = Go Name (start c left all)
step BeforeValue Space c left all = Go BeforeValue all
step BeforeValue Quote c left all = Go DoubleQuoted (begin_value left all)
step BeforeValue Apostrophe c left all = Go SingleQuoted (begin_value left all)
step BeforeValue Greater c left all = Emit false (begin_value (suc left) all)
step BeforeValue _ c left all = Go Unquoted (to_value c (begin_value (suc left) all))
step DoubleQuoted Quote c left all = Go AfterQuoted all
step DoubleQuoted _ c left all = Go DoubleQuoted (to_value c all)
step SingleQuoted Apostrophe c left all = Go AfterQuoted all
step SingleQuoted _ c left all = Go SingleQuoted (to_value c all)
step Unquoted Space c left all = Go BeforeName all
step Unquoted Greater c left all = Emit false all
step Unquoted _ c left all = Go Unquoted (to_value c all)
step AfterQuoted Space c left all = Go BeforeName all
step AfterQuoted Slash c left all = Go SelfClosing all
step AfterQuoted Greater c left all = Emit false all
step AfterQuoted _ c left all = Go Name (start c left all)
step SelfClosing Greater c left all = Emit true all
step SelfClosing Space c left all = Go BeforeName all
step SelfClosing Slash c left all = Go SelfClosing all
step SelfClosing _ c left all = Go Name (start c left all)

-- A tag that was emitted: its attributes in order, and the bytes after it.
pub record Tag : Type 0 where
  pub attributes : List Attribute
  pub self_closing : Bool
  pub rest : List ℕ

abbrev pub follow : Next → (State → List Attribute → Option Tag) → List ℕ → Option Tag
follow (Go state all) on rest = on state all
follow (Emit closing all) on rest = Some (record { attributes = reverse all; self_closing = closing; rest = rest })

-- At the end of the file within a tag there is no tag.
abbrev pub run : State → List Attribute → List ℕ → Option Tag
run state all [] = None
run state all (c ∷ rest) = follow (step state (class_of c) c (length rest) all) (λ state all. run state all rest) rest

-- the tag that has these bytes after its name
abbrev pub tag_of : List ℕ → Option Tag
tag_of bytes = run BeforeName [] bytes
