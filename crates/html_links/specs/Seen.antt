-- What a reader of links sees of a page: for each start tag its name and element, the values of its attributes that are read, and
-- the style sheet in the element, and the number of bytes after the tag. The contents of a `template` element are in a document fragment that is not part of the page,
-- unless it becomes a shadow root.
use Rattle.std.specs.Prelude.{◌<◌, ◌≤◌, ℕ, zero, suc, ◌-◌, ◌==◌, ◌&&◌, not, Bool, if◌then◌else◌, List, [], ◌∷◌, length, map, take, codes, Option, None, Some, bytes_eq}
use Rattle.std.specs.Borrow.{Bor}
use Rattle.html_links.specs.declared.context.Context.{Context}
use Rattle.html_links.specs.declared.context.Syntax.{Syntax}
use Rattle.html_links.specs.declared.element.Element.{Element}
use Rattle.html_links.specs.declared.next_tag.NextTag.{NextTag}
use Rattle.html_links.specs.Tags.{lower}
use Rattle.html_links.specs.Document.{StartTag, Token, Start, TemplateEnd, Data, read}
use Rattle.html_links.specs.Contexts.{context_of, is_foreign, element_at, closes_itself, opens_template}
use Rattle.html_links.specs.Elements.{names_of_attributes, is_inert}
use Rattle.html_links.specs.RawText as raw
use Rattle.html_links.specs.Shown.{front}
use Rattle.html_links.specs.Values.{Values, values_of}

pub record Seen : Type 0 where
  pub name : List ℕ
  pub element : Element
  pub values : Values
  pub sheet : List ℕ
  pub left : ℕ

abbrev pub sheet_before : Option (List ℕ) → List ℕ → List ℕ
sheet_before None bytes = bytes
sheet_before (Some rest) bytes = take (length bytes - length rest - 7) bytes

-- the raw text of a `style` element, from the bytes after its start tag: the bytes before a `</style`, or all of them
abbrev pub raw_sheet : List ℕ → List ℕ
raw_sheet bytes = sheet_before (raw.run (codes "style") raw.Text bytes) bytes

-- the text of a `style` in foreign content, if its tag does not close it: the bytes before the first `<`
abbrev pub foreign_sheet : Bool → List ℕ → List ℕ
foreign_sheet self_closing bytes = if self_closing then [] else front (λ c. not (c == 60)) bytes

abbrev pub sheet_of : Context → List ℕ → Bool → List ℕ → List ℕ
sheet_of at name self_closing bytes =
    if bytes_eq name (codes "style") then (if is_foreign at then foreign_sheet self_closing bytes else raw_sheet bytes) else []

abbrev pub seen_with : List ℕ → Element → Values → List ℕ → ℕ → Seen
seen_with name element values sheet left = record { name = name; element = element; values = values; sheet = sheet; left = left }

-- what is seen of a start tag with these bytes after it
abbrev pub seen_of : Context → StartTag → List ℕ → Seen
seen_of at t bytes =
    seen_with t.name (element_at at t.name) (values_of (names_of_attributes (element_at at t.name)) t.attributes t.self_closing) (sheet_of at t.name t.self_closing bytes) (length bytes)

-- the number of templates that are open after the tag, if none was open before it
abbrev pub opened : Context → Seen → ℕ
opened at seen = if is_inert seen.element seen.values.third && not (closes_itself at seen.values.self_closing) then 1 else 0

-- The tags of the page, if n templates are open. As in the Standard's insertion mode "in head", an end tag `template` is ignored if
-- no template is open.
abbrev pub seen_within : ℕ → List Token → List Seen
seen_within zero [] = []
seen_within (suc n) [] = []
seen_within zero (Start at t bytes ∷ rest) = seen_of at t bytes ∷ seen_within (opened at (seen_of at t bytes)) rest
seen_within (suc n) (Start at t bytes ∷ rest) = seen_within (if opens_template at t.name t.self_closing then suc (suc n) else suc n) rest
seen_within zero (TemplateEnd ∷ rest) = seen_within zero rest
seen_within (suc n) (TemplateEnd ∷ rest) = seen_within n rest

-- the tags of the page in these bytes, which begin in this context
abbrev pub seen_from : Context → List ℕ → List Seen
seen_from at bytes = seen_within 0 (read at Data bytes)

abbrev pub seen_in : Syntax → List ℕ → List Seen
seen_in syntax document = seen_from (context_of syntax) document

-- what contracts state of the code: the tags in the rest of the bytes; none if there is no rest
abbrev pub seen_rest : Option (Context × Bor (List ℕ)) → List Seen
seen_rest None = []
seen_rest (Some x) = seen_from x.0 x.1.now

abbrev pub ContentLeaves : Option (Context × Bor (List ℕ)) → List ℕ → Type 0
ContentLeaves None bytes = Unit {0}
ContentLeaves (Some x) bytes = length x.1.now ≤ length bytes

abbrev pub seen_at : NextTag → Values → Seen
seen_at t values = seen_with (map lower t.name.now) t.element values (sheet_of t.own (map lower t.name.now) values.self_closing t.text.now) (length t.text.now)

abbrev pub LeavesTag : Option NextTag → List ℕ → Type 0
LeavesTag None bytes = Unit {0}
LeavesTag (Some t) bytes = length t.rest.now < length bytes
