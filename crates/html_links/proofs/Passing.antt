-- What a reader of links sees, tag by tag, and the tags that it skips because they have no links.
use Rattle.html_links.proofs.Prelude.{◌≡◌, ◌∙◌, ◌<◌, ◌≤◌, sym, ap, subst, refl, arith, ℕ, Bool, true, false, cond, List, Option, None, [], ◌∷◌, ◌++◌, length, map, Some, not-true, or_from, append-nil, cond-false, cond-true, codes, bytes_eq, bytes_eq-Decides, lower, tag_of, Tag, BeforeName, may_be, element_of, element_at, names_of_attributes, is_usual, AttributeNames, Data, InTag, Token, TemplateEnd, ends_template, end_tag, content_of, content_at, read, after_start, tag_context, inner_context, Context, Html, Values, tag_with, values_in, Seen, seen_with, seen_within, seen_from, opened, links_in, ids_in, base_in, or_later, append_assoc, Element, needed_texts}
use Rattle.std.proofs.lemmas.List.{take-append-le}
use Rattle.html_links.specs.declared.element.Element.TheVariants as element
use Rattle.html_links.specs.declared.element.TheConstants.{LENGTHS}
use Rattle.html_links.specs.declared.document.Content.TheVariants as content
use Rattle.html_links.specs.declared.document.TheConstants.{TEXTS}
use Rattle.html_links.specs.Contexts.{html_content}
use Rattle.html_links.specs.Values.{TagValues}
use Rattle.html_links.specs.Positions.{needed_positions, positions_at, positions_in}
use Rattle.html_links.specs.Links.{AreEnough, links_at, inner_links_with, inner_links_in, is_base, ids_with, base_with}
use Rattle.html_links.specs.Passed.{name_nothing, Has}
use Rattle.html_links.specs.Seen.{raw_sheet, sheet_of}
use Rattle.html_links.proofs.Documents.{to_markup, in_tag, tag_less, tag_then}
use Rattle.html_links.proofs.Naming.{other_name, otherwise}

-- a tag, and what is seen of the tags after it
abbrev pub with_contents : Context → Seen → List Token → List Seen
with_contents own seen more = seen ∷ seen_within (opened own seen) more

-- a start tag, by its values

abbrev seen_values : Context → Element → List ℕ → Option TagValues → List Seen
seen_values own element name None = []
seen_values own element name (Some x) = with_contents own (seen_with name element x.values (sheet_of own name x.values.self_closing x.rest) (length x.rest)) (read (inner_context own name element x.values) (after_start (content_at own name) name) x.rest)

tag_seen : (at : Context) (name : List ℕ) (o : Option Tag) →
    seen_within 0 (tag_then at false name o) ≡ seen_values (tag_context at name) (element_at (tag_context at name) name) name (values_in (names_of_attributes (element_at (tag_context at name) name)) o)
tag_seen at name None = refl
tag_seen at name (Some t) = refl

-- a start tag whose values were found
pub seen_start : (at own : Context) (name bytes : List ℕ) (element : Element) (v : Values) (text : List ℕ) (more : List Token) → own ≡ tag_context at name → element ≡ element_at own name →
    Some (tag_with v text) ≡ values_in (names_of_attributes element) (tag_of bytes) → read (inner_context own name element v) (after_start (content_at own name) name) text ≡ more →
    seen_within 0 (read at (InTag false name BeforeName []) bytes) ≡ with_contents own (seen_with name element v (sheet_of own name v.self_closing text) (length text)) more
seen_start at own name bytes element v text more here is found following =
    ap (seen_within 0) (in_tag at false name BeforeName [] bytes) ∙ tag_seen at name (tag_of bytes)
    ∙ ap (λ own. seen_values own (element_at own name) name (values_in (names_of_attributes (element_at own name)) (tag_of bytes))) (sym here)
    ∙ ap (λ element. seen_values own element name (values_in (names_of_attributes element) (tag_of bytes))) (sym is)
    ∙ ap (seen_values own element name) (sym found) ∙ ap (with_contents own (seen_with name element v (sheet_of own name v.self_closing text) (length text))) following

-- a start tag that does not end
pub open_start : (at : Context) (name bytes : List ℕ) (w : AttributeNames) → None ≡ values_in w (tag_of bytes) → seen_within 0 (read at (InTag false name BeforeName []) bytes) ≡ []
open_start at name bytes w found = grind (arith, in_tag)

pub text_less : (w : AttributeNames) (v : Values) (text bytes : List ℕ) → Some (tag_with v text) ≡ values_in w (tag_of bytes) → length text < length bytes
text_less w v text bytes found = grind (arith, tag_less)

-- names that are not those of elements that name documents or have text

usual_not : (name : List ℕ) → is_usual name ≡ true → (text : List ℕ) → may_be LENGTHS text ≡ true → bytes_eq (map lower name) text ≡ false
usual_not name usual text may = other_name LENGTHS name text (not-true (may_be LENGTHS name) usual) may

pub usual_element : (name : List ℕ) → is_usual name ≡ true → element_of (map lower name) ≡ element.Other
usual_element name usual = grind (arith, usual_not, otherwise, or_from)

pub usual_content : (name : List ℕ) → is_usual name ≡ true → content_of (map lower name) ≡ content.Markup
usual_content name usual = grind (arith, not-true, other_name, otherwise, or_from)

-- and not those of elements that have text
pub text_content : (name : List ℕ) → may_be TEXTS name ≡ false → content_of (map lower name) ≡ content.Markup
text_content name other = grind (arith, other_name, otherwise, or_from)

-- the content of an element other than `svg` and `math` is HTML

stays : (element : Element) (name text : List ℕ) (v : Values) → ((points : ℕ) → html_content points element ≡ Html points) →
    read (inner_context (Html 0) name element v) (after_start (content_of name) name) text ≡ read (Html 0) (after_start (content_of name) name) text
stays element name text v html = ap (λ at. read at (after_start (content_of name) name) text) (same v.self_closing)
  where
    same : (b : Bool) → cond b (Html 0) (html_content 0 element) ≡ Html 0
    same true = refl
    same false = html 0

-- what is seen of such a tag

pub usual_seen : (name more last : List ℕ) (v : Values) → is_usual name ≡ true → Some (tag_with v last) ≡ values_in (names_of_attributes element.Other) (tag_of more) →
    seen_within 0 (read (Html 0) (InTag false (map lower name) BeforeName []) more) ≡ seen_with (map lower name) element.Other v (sheet_of (Html 0) (map lower name) v.self_closing last) (length last) ∷ seen_from (Html 0) last
usual_seen name more last v usual found =
    seen_start (Html 0) (Html 0) (map lower name) more element.Other v last (read (Html 0) Data last) refl (sym (usual_element name usual)) found
    (stays element.Other (map lower name) last v (λ points. refl) ∙ to_markup (content_of (map lower name)) (map lower name) last (sym (usual_content name usual)) (Html 0))

-- what is seen of an `a`
pub anchor_seen : (name more last : List ℕ) (v : Values) → bytes_eq (map lower name) (codes "a") ≡ true → Some (tag_with v last) ≡ values_in (names_of_attributes element.Anchor) (tag_of more) →
    seen_within 0 (read (Html 0) (InTag false (map lower name) BeforeName []) more) ≡ seen_with (map lower name) element.Anchor v (sheet_of (Html 0) (map lower name) v.self_closing last) (length last) ∷ seen_from (Html 0) last
anchor_seen name more last v is found =
    let same : map lower name ≡ codes "a" = (bytes_eq-Decides (map lower name) (codes "a")).0 is in
    let an_anchor : element_of (map lower name) ≡ element.Anchor = ap element_of same in
    let markup : content_of (map lower name) ≡ content.Markup = ap content_of same in
    seen_start (Html 0) (Html 0) (map lower name) more element.Anchor v last (read (Html 0) Data last) refl (sym an_anchor) found
    (stays element.Anchor (map lower name) last v (λ points. refl) ∙ to_markup (content_of (map lower name)) (map lower name) last (sym markup) (Html 0))

-- tags that have the same links as others

pub has_same : (all some : List Seen) → all ≡ some → Has all some
has_same all some same = record {
  links = ap (links_in false) same;
  styled = ap (links_in true) same;
  inner = ap inner_links_in same;
  positions = λ styles end. ap (positions_in styles end) same;
  ids = ap ids_in same;
  base = ap base_in same;
}

pub has_links : (styles : Bool) (all some : List Seen) → Has all some → links_in styles all ≡ links_in styles some
has_links true all some has = has.styled
has_links false all some has = has.links

pub has_then : (all some less : List Seen) → Has all some → Has some less → Has all less
has_then all some less first then = record {
  links = first.links ∙ then.links;
  styled = first.styled ∙ then.styled;
  inner = first.inner ∙ then.inner;
  positions = λ styles end. first.positions styles end ∙ then.positions styles end;
  ids = first.ids ∙ then.ids;
  base = first.base ∙ then.base;
}

no_sheet : (name bytes : List ℕ) (closing : Bool) → is_usual name ≡ true → sheet_of (Html 0) (map lower name) closing bytes ≡ []
no_sheet name bytes closing usual = ap (λ is. cond is (raw_sheet bytes) []) (usual_not name usual (codes "style") refl)

-- a tag that names nothing, but for positions
record HasTexts (all some : List Seen) : Type 0 where
  links : links_in false all ≡ links_in false some
  ids : ids_in all ≡ ids_in some
  base : base_in all ≡ base_in some
  styled : links_in true all ≡ links_in true some
  inner : inner_links_in all ≡ inner_links_in some

passed_texts : (name : List ℕ) (v : Values) (n : ℕ) (rest : List Seen) → is_usual name ≡ true → name_nothing v ≡ true → HasTexts (seen_with (map lower name) element.Other v [] n ∷ rest) rest
passed_texts name v n rest usual nothing = grind (arith, other_name, not-true)

-- and its positions
passed_positions : (name : List ℕ) (v : Values) (n : ℕ) (rest : List Seen) → name_nothing v ≡ true → (styles : Bool) (end : ℕ) →
    positions_in styles end (seen_with (map lower name) element.Other v [] n ∷ rest) ≡ positions_in styles end rest
passed_positions name v n rest nothing styles end = grind arith

passed_at : (name : List ℕ) (v : Values) (n : ℕ) (rest : List Seen) → is_usual name ≡ true → name_nothing v ≡ true → Has (seen_with (map lower name) element.Other v [] n ∷ rest) rest
passed_at name v n rest usual nothing =
    let texts : HasTexts (seen_with (map lower name) element.Other v [] n ∷ rest) rest = passed_texts name v n rest usual nothing in
    record { links = texts.links; styled = texts.styled; inner = texts.inner; positions = passed_positions name v n rest nothing; ids = texts.ids; base = texts.base }

pub passed : (name bytes : List ℕ) (v : Values) (rest : List Seen) → is_usual name ≡ true → name_nothing v ≡ true →
    Has (seen_with (map lower name) element.Other v (sheet_of (Html 0) (map lower name) v.self_closing bytes) (length bytes) ∷ rest) rest
passed name bytes v rest usual nothing = subst (λ sheet. Has (seen_with (map lower name) element.Other v sheet (length bytes) ∷ rest) rest) (sym (no_sheet name bytes v.self_closing usual)) (passed_at name v (length bytes) rest usual nothing)

-- what the bytes have is what the rest of them has
pub record Sought (at : Context) (bytes : List ℕ) (left_at : Context) (rest : List ℕ) : Type 0 where
  pub has : Has (seen_from at bytes) (seen_from left_at rest)
  pub left : length rest ≤ length bytes

end_seen : (b : Bool) (more : List Token) → seen_within 0 (cond b (TemplateEnd ∷ []) [] ++ more) ≡ seen_within 0 more
end_seen b more = grind arith

-- an end tag
pub passes_end : (at after : Context) (rest more name : List ℕ) → read at Data rest ≡ end_tag at name ++ read after Data more → Has (seen_from at rest) (seen_from after more)
passes_end at after rest more name reads = has_same (seen_from at rest) (seen_from after more) (ap (seen_within 0) reads ∙ end_seen (ends_template at name) (read after Data more))

-- a tag that names nothing
pub passes_tag : (name more last : List ℕ) (v : Values) → is_usual name ≡ true → name_nothing v ≡ true → Some (tag_with v last) ≡ values_in (names_of_attributes element.Other) (tag_of more) →
    Has (seen_within 0 (read (Html 0) (InTag false (map lower name) BeforeName []) more)) (seen_from (Html 0) last)
passes_tag name more last v usual nothing found =
    has_then _ (seen_with (map lower name) element.Other v (sheet_of (Html 0) (map lower name) v.self_closing last) (length last) ∷ seen_from (Html 0) last) (seen_from (Html 0) last) (has_same _ _ (usual_seen name more last v usual found))
    (passed name last v (seen_from (Html 0) last) usual nothing)

-- the links, ids and base with one more tag

pub more_links : (styles : Bool) (old new whole : List (List ℕ)) (all rest : List Seen) (seen : Seen) → old ++ links_in styles all ≡ whole → Has all (seen ∷ rest) → new ≡ old ++ links_at styles seen →
    new ++ links_in styles rest ≡ whole
more_links styles old new whole all rest seen inv has pushed =
    ap (λ t. t ++ links_in styles rest) pushed ∙ append_assoc old (links_at styles seen) (links_in styles rest) ∙ ap (λ t. old ++ t) (sym (has_links styles all (seen ∷ rest) has)) ∙ inv

pub more_positions : (styles : Bool) (end : ℕ) (old new whole : List ℕ) (all rest : List Seen) (seen : Seen) → old ++ positions_in styles end all ≡ whole → Has all (seen ∷ rest) → new ≡ old ++ positions_at styles end seen →
    new ++ positions_in styles end rest ≡ whole
more_positions styles end old new whole all rest seen inv has pushed =
    ap (λ t. t ++ positions_in styles end rest) pushed ∙ append_assoc old (positions_at styles end seen) (positions_in styles end rest) ∙ ap (λ t. old ++ t) (sym (has.positions styles end)) ∙ inv

-- the links of a document in a `srcdoc` with one more tag, which may be the `base` that ends them

pub more_inner : (old new whole : List (List ℕ)) (all rest : List Seen) (seen : Seen) → old ++ inner_links_in all ≡ whole → Has all (seen ∷ rest) → is_base seen.element seen.values ≡ false →
    new ≡ old ++ inner_links_with seen.element seen.values → new ++ inner_links_in rest ≡ whole
more_inner old new whole all rest seen inv has other pushed =
    ap (λ t. t ++ inner_links_in rest) pushed ∙ append_assoc old (inner_links_with seen.element seen.values) (inner_links_in rest)
    ∙ ap (λ t. old ++ t) (sym (has.inner ∙ cond-false (is_base seen.element seen.values) [] (inner_links_with seen.element seen.values ++ inner_links_in rest) other)) ∙ inv

pub last_inner : (old whole : List (List ℕ)) (all rest : List Seen) (seen : Seen) → old ++ inner_links_in all ≡ whole → Has all (seen ∷ rest) → is_base seen.element seen.values ≡ true → old ≡ whole
last_inner old whole all rest seen inv has is =
    sym (append-nil old) ∙ ap (λ t. old ++ t) (sym (has.inner ∙ cond-true (is_base seen.element seen.values) [] (inner_links_with seen.element seen.values ++ inner_links_in rest) is)) ∙ inv

pub more_ids : (old new whole : List (List ℕ)) (all rest : List Seen) (seen : Seen) → old ++ ids_in all ≡ whole → Has all (seen ∷ rest) → new ≡ old ++ ids_with seen.name seen.values → new ++ ids_in rest ≡ whole
more_ids old new whole all rest seen inv has pushed =
    ap (λ t. t ++ ids_in rest) pushed ∙ append_assoc old (ids_with seen.name seen.values) (ids_in rest) ∙ ap (λ t. old ++ t) (sym has.ids) ∙ inv

or_last : (first second third : Option (List ℕ)) → or_later (or_later first second) third ≡ or_later first (or_later second third)
or_last None second third = refl
or_last (Some x) second third = refl

pub more_base : (old new whole : Option (List ℕ)) (all rest : List Seen) (seen : Seen) → or_later old (base_in all) ≡ whole → Has all (seen ∷ rest) → new ≡ or_later old (base_with seen.element seen.values) →
    or_later new (base_in rest) ≡ whole
more_base old new whole all rest seen inv has taken =
    ap (λ b. or_later b (base_in rest)) taken ∙ or_last old (base_with seen.element seen.values) (base_in rest) ∙ ap (or_later old) (sym has.base) ∙ inv

-- ---- the first links

enough_texts : (needed : Option ℕ) (texts more : List (List ℕ)) → AreEnough needed (length texts) → needed_texts needed texts ≡ needed_texts needed (texts ++ more)
enough_texts None texts more enough = absurd enough
enough_texts (Some n) texts more enough = sym (take-append-le n texts more enough)

enough_places : (needed : Option ℕ) (positions more : List ℕ) → AreEnough needed (length positions) → needed_positions needed positions ≡ needed_positions needed (positions ++ more)
enough_places None positions more enough = absurd enough
enough_places (Some n) positions more enough = sym (take-append-le n positions more enough)

-- enough links, with those of one more tag
pub enough_links : (styles : Bool) (needed : Option ℕ) (old new whole : List (List ℕ)) (all rest : List Seen) (seen : Seen) → old ++ links_in styles all ≡ whole → Has all (seen ∷ rest) →
    new ≡ old ++ links_at styles seen → AreEnough needed (length new) → needed_texts needed new ≡ needed_texts needed whole
enough_links styles needed old new whole all rest seen inv has pushed enough =
    enough_texts needed new (links_in styles rest) enough ∙ ap (needed_texts needed) (more_links styles old new whole all rest seen inv has pushed)

pub enough_positions : (styles : Bool) (needed : Option ℕ) (end : ℕ) (old new whole : List ℕ) (all rest : List Seen) (seen : Seen) → old ++ positions_in styles end all ≡ whole → Has all (seen ∷ rest) →
    new ≡ old ++ positions_at styles end seen → AreEnough needed (length new) → needed_positions needed new ≡ needed_positions needed whole
enough_positions styles needed end old new whole all rest seen inv has pushed enough =
    enough_places needed new (positions_in styles end rest) enough ∙ ap (needed_positions needed) (more_positions styles end old new whole all rest seen inv has pushed)

-- if all links are needed, no number of them is enough
pub never_enough : (needed : Option ℕ) (count : ℕ) → AreEnough needed count → needed ≡ None → ⊥
never_enough None count enough none = enough
never_enough (Some n) count enough none = cc
