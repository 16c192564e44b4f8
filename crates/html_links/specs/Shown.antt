-- What the code's values mean in the terms of `Tags`, and the runs of bytes that it cuts.
use Rattle.std.specs.Prelude.{◌≡◌, ℕ, ◌<◌, Bool, true, false, if◌then◌else◌, List, [], ◌∷◌, length, map, reverse, Option, None, Some}
use Rattle.html_links.specs.declared.bytes.Class.{Class}
use Rattle.html_links.specs.declared.bytes.Class.TheVariants.{Space, Slash, Greater, Equals}
use Rattle.html_links.specs.declared.tag.AttributeAt.{AttributeAt}
use Rattle.html_links.specs.declared.tag.TagAt.{TagAt}
use Rattle.html_links.specs.declared.tag.Piece.{Piece}
use Rattle.html_links.specs.declared.tag.Piece.TheVariants as piece
use Rattle.html_links.specs.Tags.{Attribute, Tag, BeforeName, BeforeValue, lower, class_of, run}

-- the longest prefix whose bytes pass a test
abbrev pub front : (ℕ → Bool) → List ℕ → List ℕ
front test [] = []
front test (c ∷ rest) = if test c then c ∷ front test rest else []

-- the bytes after that prefix
abbrev pub following : (ℕ → Bool) → List ℕ → List ℕ
following test [] = []
following test (c ∷ rest) = if test c then following test rest else c ∷ rest

abbrev pub is_space : ℕ → Bool
is_space c = elim (class_of c) [ Space ↦ true | _ ↦ false ]

abbrev pub in_name : ℕ → Bool
in_name c = elim (class_of c) [ Space ↦ false | Slash ↦ false | Greater ↦ false | Equals ↦ false | _ ↦ true ]

abbrev pub in_unquoted : ℕ → Bool
in_unquoted c = elim (class_of c) [ Space ↦ false | Greater ↦ false | _ ↦ true ]

-- an attribute may begin at a byte of this class
abbrev pub begins : Class → Bool
begins Space = false
begins Slash = false
begins Greater = false
begins _ = true

abbrev pub BeginsName : List ℕ → Type 0
BeginsName [] = ⊥
BeginsName (c ∷ rest) = begins (class_of c) ≡ true

-- a name, whose first byte may be `=`, and the bytes after it
abbrev pub name_front : List ℕ → List ℕ
name_front [] = []
name_front (c ∷ rest) = c ∷ front in_name rest

abbrev pub following_name : List ℕ → List ℕ
following_name [] = []
following_name (c ∷ rest) = following in_name rest

abbrev pub attribute_at : AttributeAt → Attribute
attribute_at a = record { name = map lower a.name.now; value = a.value.now; left = a.left }

abbrev pub tag_at : Option TagAt → Option Tag
tag_at None = None
tag_at (Some t) = Some (record { attributes = map attribute_at t.attributes.items; self_closing = t.self_closing; rest = t.rest.now })

-- what the tokenizer reads after a piece, and after these attributes
abbrev pub outcome : Piece → List Attribute → Option Tag
outcome (piece.Attribute a more) all = run BeforeName (attribute_at a ∷ all) more.now
outcome (piece.Slash more) all = run BeforeName all more.now
outcome (piece.End closing more) all = Some (record { attributes = reverse all; self_closing = closing; rest = more.now })
outcome piece.Unfinished all = None

abbrev pub Reads : Piece → List ℕ → Type 0
Reads piece bytes = (all : List Attribute) → run BeforeName all bytes ≡ outcome piece all

-- likewise from before the value of an attribute with this name, whatever number of bytes comes after the name
abbrev pub ReadsValue : Piece → List ℕ → List ℕ → Type 0
ReadsValue piece name bytes = (left : ℕ) (all : List Attribute) → run BeforeValue (record { name = map lower name; value = []; left = left } ∷ all) bytes ≡ outcome piece all

-- fewer than n bytes come after the piece
abbrev pub Leaves : Piece → ℕ → Type 0
Leaves (piece.Attribute a more) n = length more.now < n
Leaves (piece.Slash more) n = length more.now < n
Leaves (piece.End closing more) n = length more.now < n
Leaves piece.Unfinished n = Unit {0}

-- the first byte, if there is one, fails the test
abbrev pub Stopped : (ℕ → Bool) → List ℕ → Type 0
Stopped test [] = Unit {0}
Stopped test (c ∷ rest) = test c ≡ false
