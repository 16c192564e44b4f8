-- What contracts state of the code that reads a document.
use Rattle.std.specs.Prelude.{◌≡◌, ◌≤◌, ℕ, Bool, true, false, List, [], ◌∷◌, length, map, Option, None, Some}
use Rattle.std.specs.Borrow.{Bor}
use Rattle.html_links.specs.declared.bytes.Class.TheVariants.{Space, Slash, Greater}
use Rattle.html_links.specs.declared.document.Markup.{Markup}
use Rattle.html_links.specs.declared.document.Markup.TheVariants as markup
use Rattle.html_links.specs.declared.document.StartTagAt.{StartTagAt}
use Rattle.html_links.specs.declared.context.Context.{Context}
use Rattle.html_links.specs.Tags.{class_of, lower, BeforeName, Tag}
use Rattle.html_links.specs.Shown.{front, following, attribute_at}
use Rattle.html_links.specs.Document.{StartTag, Token, Data, InTag, TagOpen, EndTagOpen, read}

abbrev pub in_tag_name : ℕ → Bool
in_tag_name c = elim (class_of c) [ Space ↦ false | Slash ↦ false | Greater ↦ false | _ ↦ true ]

-- the first byte, and the bytes after it that pass the test
abbrev pub led_front : (ℕ → Bool) → List ℕ → List ℕ
led_front test [] = []
led_front test (c ∷ rest) = c ∷ front test rest

abbrev pub led_after : (ℕ → Bool) → List ℕ → List ℕ
led_after test [] = []
led_after test (c ∷ rest) = following test rest

abbrev pub start_tag_at : StartTagAt → StartTag
start_tag_at t = record { name = map lower t.name.now; attributes = map attribute_at t.attributes.items; self_closing = t.self_closing }

-- the tags in the rest of the bytes; none if there is no rest
abbrev pub read_rest : Context → Option (Bor (List ℕ)) → List Token
read_rest at None = []
read_rest at (Some rest) = read at Data rest.now

abbrev pub rest_of : Option Tag → Option (List ℕ)
rest_of None = None
rest_of (Some t) = Some t.rest

-- the markup is what the tokenizer reads from the bytes after a `<`
abbrev pub MarkupReads : Markup → Context → List ℕ → Type 0
MarkupReads (markup.Start name more) at bytes = read at TagOpen bytes ≡ read at (InTag false (map lower name.now) BeforeName []) more.now
MarkupReads (markup.End name more) at bytes = read at TagOpen bytes ≡ read at (InTag true (map lower name.now) BeforeName []) more.now
MarkupReads (markup.Other more) at bytes = read at TagOpen bytes ≡ read at Data more.now
MarkupReads markup.Unfinished at bytes = read at TagOpen bytes ≡ []

abbrev pub MarkupLeaves : Markup → List ℕ → Type 0
MarkupLeaves (markup.Start name more) bytes = length more.now ≤ length bytes
MarkupLeaves (markup.End name more) bytes = length more.now ≤ length bytes
MarkupLeaves (markup.Other more) bytes = length more.now ≤ length bytes
MarkupLeaves markup.Unfinished bytes = Unit {0}

abbrev pub RestLeaves : Option (Bor (List ℕ)) → List ℕ → Type 0
RestLeaves None bytes = Unit {0}
RestLeaves (Some rest) bytes = length rest.now ≤ length bytes

abbrev pub other_markup : Option (Bor (List ℕ)) → Markup
other_markup None = markup.Unfinished
other_markup (Some rest) = markup.Other rest

-- the markup is what the tokenizer reads from the bytes after a `</`
abbrev pub MarkupEnds : Markup → List ℕ → Type 0
MarkupEnds (markup.Start name more) bytes = ⊥
MarkupEnds (markup.End name more) bytes = (at : Context) → read at EndTagOpen bytes ≡ read at (InTag true (map lower name.now) BeforeName []) more.now
MarkupEnds (markup.Other more) bytes = (at : Context) → read at EndTagOpen bytes ≡ read at Data more.now
MarkupEnds markup.Unfinished bytes = (at : Context) → read at EndTagOpen bytes ≡ []
