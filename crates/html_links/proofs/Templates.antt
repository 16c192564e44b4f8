-- The contents of a template, tag by tag.
use Rattle.html_links.proofs.Prelude.{◌≡◌, ◌∙◌, ap, sym, refl, arith, ℕ, suc, Bool, true, false, cond, List, [], ◌∷◌, ◌++◌, Option, None, Some, Tag, BeforeName, tag_of, Token, TemplateEnd, Data, InTag, after_start, content_at, tag_context, inner_context, outer_context, opens_template, ends_template, element_at, Context, Element, AttributeNames, names_of_attributes, Values, values_in, tag_with, read, rest_of, Seen, seen_within}
use Rattle.html_links.specs.Values.{TagValues}
use Rattle.html_links.proofs.Documents.{in_tag, end_then, tag_then}

pub none_within : (n : ℕ) → seen_within n [] ≡ []
none_within n = grind arith

-- a tag that does not end

pub open_start_within : (at : Context) (name bytes : List ℕ) (w : AttributeNames) → None ≡ values_in w (tag_of bytes) → (n : ℕ) → seen_within (suc n) (read at (InTag false name BeforeName []) bytes) ≡ []
open_start_within at name bytes w none n = grind (arith, in_tag)

pub open_end_within : (at : Context) (name bytes : List ℕ) → None ≡ rest_of (tag_of bytes) → (n : ℕ) → seen_within (suc n) (read at (InTag true name BeforeName []) bytes) ≡ []
open_end_within at name bytes none n = grind (arith, in_tag)

-- a start tag

abbrev inner_values : ℕ → Context → Element → List ℕ → Option TagValues → List Seen
inner_values n own element name None = []
inner_values n own element name (Some x) =
    seen_within (cond (opens_template own name x.values.self_closing) (suc (suc n)) (suc n)) (read (inner_context own name element x.values) (after_start (content_at own name) name) x.rest)

tag_within : (n : ℕ) (at : Context) (name : List ℕ) (o : Option Tag) →
    seen_within (suc n) (tag_then at false name o) ≡ inner_values n (tag_context at name) (element_at (tag_context at name) name) name (values_in (names_of_attributes (element_at (tag_context at name) name)) o)
tag_within n at name None = refl
tag_within n at name (Some t) = refl

pub start_within : (at own : Context) (name bytes : List ℕ) (element : Element) (v : Values) (text : List ℕ) (more : List Token) (is : Bool) → own ≡ tag_context at name → element ≡ element_at own name →
    Some (tag_with v text) ≡ values_in (names_of_attributes element) (tag_of bytes) → read (inner_context own name element v) (after_start (content_at own name) name) text ≡ more → opens_template own name v.self_closing ≡ is → (n : ℕ) →
    seen_within (suc n) (read at (InTag false name BeforeName []) bytes) ≡ seen_within (cond is (suc (suc n)) (suc n)) more
start_within at own name bytes element v text more is here among found following same n =
    ap (seen_within (suc n)) (in_tag at false name BeforeName [] bytes) ∙ tag_within n at name (tag_of bytes)
    ∙ ap (λ own. inner_values n own (element_at own name) name (values_in (names_of_attributes (element_at own name)) (tag_of bytes))) (sym here)
    ∙ ap (λ element. inner_values n own element name (values_in (names_of_attributes element) (tag_of bytes))) (sym among)
    ∙ ap (inner_values n own element name) (sym found) ∙ ap (λ is. seen_within (cond is (suc (suc n)) (suc n)) (read (inner_context own name element v) (after_start (content_at own name) name) text)) same ∙ ap (seen_within (cond is (suc (suc n)) (suc n))) following

-- an end tag
pub end_within : (at after : Context) (name bytes rest : List ℕ) (is : Bool) → Some rest ≡ rest_of (tag_of bytes) → after ≡ outer_context at name → ends_template at name ≡ is → (n : ℕ) →
    seen_within (suc n) (read at (InTag true name BeforeName []) bytes) ≡ seen_within (suc n) (cond is (TemplateEnd ∷ []) [] ++ read after Data rest)
end_within at after name bytes rest is ends here same n = grind (arith, in_tag, end_then)
