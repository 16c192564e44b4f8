-- The tags of a document, as the HTML Standard's tokenizer reads them in its states from the data state to the DOCTYPE state. The
-- name of an element and its context determine how its content is read. A doctype ends at the first `>` in each of its states, as a
-- bogus comment does.
use Rattle.std.specs.Prelude.{ℕ, ◌==◌, ◌||◌, ◌&&◌, Bool, true, false, if◌then◌else◌, List, [], ◌∷◌, ◌++◌, length, reverse, codes, bytes_eq}
use Rattle.html_links.specs.declared.bytes.Class.{Class}
use Rattle.html_links.specs.declared.bytes.Class.TheVariants.{Space, Slash, Greater}
use Rattle.html_links.specs.declared.document.Opening.{Opening}
use Rattle.html_links.specs.declared.document.Opening.TheVariants as opening
use Rattle.html_links.specs.Tags.{Attribute, class_of, lower, is_letter, BeforeName, SelfClosing}
use Rattle.html_links.specs.Tags as tags
use Rattle.html_links.specs.Comments.{mark_of}
use Rattle.html_links.specs.Comments as comments
use Rattle.html_links.specs.RawText as raw
use Rattle.html_links.specs.Cdata as cdata
use Rattle.html_links.specs.declared.cdata.State as sections
use Rattle.html_links.specs.declared.cdata.State.TheVariants as section
use Rattle.html_links.specs.declared.cdata.Next as section_nexts
use Rattle.html_links.specs.declared.cdata.Next.TheVariants as section_next
use Rattle.html_links.specs.declared.context.Context.{Context}
use Rattle.html_links.specs.declared.context.Context.TheVariants as context
use Rattle.html_links.specs.declared.context.Syntax.TheVariants as syntax
use Rattle.html_links.specs.Elements.{names_of_attributes}
use Rattle.html_links.specs.Values.{values_of}
use Rattle.html_links.specs.Contexts.{context_of, is_foreign, tag_context, element_at, inner_context, outer_context, ends_template}
use Rattle.html_links.specs.declared.document.Content.{Content}
use Rattle.html_links.specs.declared.document.Content.TheVariants as content
use Rattle.html_links.specs.declared.script.State as code
use Rattle.html_links.specs.declared.script.State.TheVariants as script
use Rattle.html_links.specs.declared.script.Next as nexts
use Rattle.html_links.specs.declared.script.Next.TheVariants as next
use Rattle.html_links.specs.Script as scripts

pub record StartTag : Type 0 where
  pub name : List ℕ
  pub attributes : List Attribute
  pub self_closing : Bool

-- What the tokenizer emits: start tags with their context and the bytes after them, and the end tags of templates. Other end tags
-- do not determine whether a tag is part of the page.
pub data Token : Type 0 where
  Start : Context → StartTag → List ℕ → Token
  TemplateEnd : Token

-- how the content of an element is read, by its name: as text up to its end tag, as a script, as text to the end of the document,
-- or as markup
abbrev pub is_raw : List ℕ → Bool
is_raw name =
    bytes_eq name (codes "title") || bytes_eq name (codes "textarea") || bytes_eq name (codes "style") || bytes_eq name (codes "xmp")
    || bytes_eq name (codes "iframe") || bytes_eq name (codes "noembed") || bytes_eq name (codes "noframes")

abbrev pub content_of : List ℕ → Content
content_of name =
    if is_raw name then content.Raw
    else if bytes_eq name (codes "script") then content.Script
    else if bytes_eq name (codes "plaintext") then content.Plain
    else content.Markup

-- likewise in a context: in foreign content, the content of each element is markup
abbrev pub content_at : Context → List ℕ → Content
content_at (context.Html points) name = content_of name
content_at _ name = content.Markup

-- what begins with `<` and this byte
abbrev pub opening_of : ℕ → Opening
opening_of c =
    if c == 33 then opening.Bang
    else if c == 47 then opening.Solidus
    else if c == 63 then opening.Question
    else if is_letter c then opening.Letter
    else opening.Plain

-- The state in a tag contains whether it is an end tag, and its name so far.
pub data State : Type 0 where
  Data : State
  TagOpen : State
  EndTagOpen : State
  TagName : Bool → List ℕ → State
  InTag : Bool → List ℕ → tags.State → List Attribute → State
  MarkupDeclaration : State
  MarkupDash : State
  Bogus : State
  InComment : comments.State → State
  InCdata : sections.State → State
  InRaw : List ℕ → raw.State → State
  InScript : code.State → State
  InPlain : State

-- Go to a state; or emit what has ended, with the bytes after it, and continue in a context and a state.
pub data Next : Type 0 where
  Go : State → Next
  Emit : (List ℕ → List Token) → Context → State → Next

abbrev pub end_tag : Context → List ℕ → List Token
end_tag at name = if ends_template at name then TemplateEnd ∷ [] else []

-- what is emitted at the end of a tag; the attributes of an end tag are ignored
abbrev pub emitted : Context → Bool → List ℕ → List Attribute → Bool → List ℕ → List Token
emitted at true name attributes closing rest = end_tag at name
emitted at false name attributes closing rest = Start (tag_context at name) (record { name = name; attributes = attributes; self_closing = closing }) rest ∷ []

-- the context of an element's content, by the context of its start tag
abbrev pub entered : Context → List ℕ → List Attribute → Bool → Context
entered at name attributes closing = inner_context at name (element_at at name) (values_of (names_of_attributes (element_at at name)) attributes closing)

-- the context after a tag
abbrev pub passed : Context → Bool → List ℕ → List Attribute → Bool → Context
passed at true name attributes closing = outer_context at name
passed at false name attributes closing = entered (tag_context at name) name attributes closing

abbrev pub raw_content : List ℕ → State
raw_content name = InRaw name raw.Text

abbrev pub script_content : State
script_content = InScript script.Text

abbrev pub after_start : Content → List ℕ → State
after_start content.Raw name = raw_content name
after_start content.Script name = script_content
after_start content.Plain name = InPlain
after_start content.Markup name = Data

abbrev pub past_tag : Context → Bool → List ℕ → State
past_tag at true name = Data
past_tag at false name = after_start (content_at (tag_context at name) name) name

abbrev pub data_step : ℕ → Next
data_step c = if c == 60 then Go TagOpen else Go Data

abbrev pub bogus_step : ℕ → Next
bogus_step c = if c == 62 then Go Data else Go Bogus

abbrev pub open_step : Opening → ℕ → Next
open_step opening.Bang c = Go MarkupDeclaration
open_step opening.Solidus c = Go EndTagOpen
open_step opening.Question c = Go Bogus
open_step opening.Letter c = Go (TagName false (lower c ∷ []))
open_step opening.Plain c = data_step c

abbrev pub end_open_step : Opening → ℕ → Next
end_open_step opening.Letter c = Go (TagName true (lower c ∷ []))
end_open_step _ c = bogus_step c

abbrev pub name_step : Context → Class → Bool → List ℕ → ℕ → Next
name_step at Space ends name c = Go (InTag ends name BeforeName [])
name_step at Slash ends name c = Go (InTag ends name SelfClosing [])
name_step at Greater ends name c = Emit (emitted at ends name [] false) (passed at ends name [] false) (past_tag at ends name)
name_step at _ ends name c = Go (TagName ends (name ++ lower c ∷ []))

abbrev pub tag_step : Context → Bool → List ℕ → tags.Next → Next
tag_step at ends name (tags.Go state all) = Go (InTag ends name state all)
tag_step at ends name (tags.Emit closing all) = Emit (emitted at ends name (reverse all) closing) (passed at ends name (reverse all) closing) (past_tag at ends name)

abbrev pub comment_step : comments.Next → Next
comment_step (comments.Go state) = Go (InComment state)
comment_step comments.Emit = Go Data

abbrev pub cdata_step : section_nexts.Next → Next
cdata_step (section_next.Go state) = Go (InCdata state)
cdata_step section_next.Ends = Go Data

-- the step after a `<!`
abbrev pub declaration_step : Context → ℕ → Next
declaration_step at c =
    if c == 45 then Go MarkupDash
    else if is_foreign at && c == 91 then Go (InCdata (section.Name 0))
    else bogus_step c

-- a step in raw text; after the name of its end tag comes the state before an attribute's name. The name is left out, since the end
-- tag ends no other element
abbrev pub raw_step : Context → List ℕ → ℕ → ℕ → raw.Next → Next
raw_step at name c left (raw.Go state) = Go (InRaw name state)
raw_step at name c left raw.Ends = tag_step at true [] (tags.step BeforeName (class_of c) c left [])

abbrev pub script_step : Context → ℕ → ℕ → nexts.Next → Next
script_step at c left (next.Go state) = Go (InScript state)
script_step at c left next.Ends = tag_step at true [] (tags.step BeforeName (class_of c) c left [])

-- the step at a byte, with this number of bytes after it
abbrev pub step : Context → State → ℕ → ℕ → Next
step at Data c left = data_step c
step at TagOpen c left = open_step (opening_of c) c
step at EndTagOpen c left = end_open_step (opening_of c) c
step at (TagName ends name) c left = name_step at (class_of c) ends name c
step at (InTag ends name state all) c left = tag_step at ends name (tags.step state (class_of c) c left all)
step at MarkupDeclaration c left = declaration_step at c
step at MarkupDash c left = if c == 45 then Go (InComment comments.Start) else bogus_step c
step at Bogus c left = bogus_step c
step at (InComment state) c left = comment_step (comments.step state (mark_of c))
step at (InCdata state) c left = cdata_step (cdata.step state c)
step at (InRaw name state) c left = raw_step at name c left (raw.step name state c)
step at (InScript state) c left = script_step at c left (scripts.step state c)
step at InPlain c left = Go InPlain

abbrev pub follow : Context → Next → List ℕ → (Context → State → List Token) → List Token
follow at (Go here) rest on = on at here
follow at (Emit found after here) rest on = found rest ++ on after here

-- the tags that end in these bytes, which begin in this context and state
abbrev pub read : Context → State → List ℕ → List Token
read at here [] = []
read at here (c ∷ rest) = follow at (step at here c (length rest)) rest (λ at here. read at here rest)

abbrev pub start_tags : List Token → List StartTag
start_tags [] = []
start_tags (Start at t bytes ∷ rest) = t ∷ start_tags rest
start_tags (TemplateEnd ∷ rest) = start_tags rest

-- the tags of an HTML document
abbrev pub tags_of : List ℕ → List StartTag
tags_of bytes = start_tags (read (context_of syntax.Html) Data bytes)
