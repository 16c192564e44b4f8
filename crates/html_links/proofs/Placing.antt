-- Positions of links, one after another.
use Rattle.html_links.proofs.Prelude.{◌≡◌, ◌∙◌, sym, ap, ℕ, false, true, List, [], ◌∷◌, ◌++◌, map, append-nil, append_assoc, map-append, cond-false, cond-true, bytes_eq, bytes_eq-Decides, Seen}
use Rattle.html_links.specs.References.{text_of}
use Rattle.html_links.specs.Links.{inner_links_in, inner_links_with, is_base}
use Rattle.html_links.specs.Passed.{Has}
use Rattle.html_links.specs.Positions.{all_at}

pub more_mapped : {A : Type 0} (f : A → ℕ) (old new whole : List ℕ) (x : A) (rest more : List A) → old ++ map f rest ≡ whole → new ≡ old ++ f x ∷ [] → rest ≡ x ∷ more → new ++ map f more ≡ whole
more_mapped f old new whole x rest more inv pushed is =
    ap (λ t. t ++ map f more) pushed ∙ append_assoc old (f x ∷ []) (map f more) ∙ sym (ap (λ r. old ++ map f r) is) ∙ inv

pub last_mapped : {A : Type 0} (f : A → ℕ) (old whole : List ℕ) (rest : List A) → old ++ map f rest ≡ whole → rest ≡ [] → old ≡ whole
last_mapped f old whole rest inv none = sym (append-nil old) ∙ sym (ap (λ r. old ++ map f r) none) ∙ inv

-- a value without character references
pub as_written : (value : List ℕ) → bytes_eq (text_of value) value ≡ true → text_of value ≡ value
as_written value same = (bytes_eq-Decides (text_of value) value).0 same

all_append : (position : ℕ) (a b : List (List ℕ)) → all_at position (a ++ b) ≡ all_at position a ++ all_at position b
all_append position a b = map-append (λ (link : List ℕ). position) a b

-- the links of three values, all at one position
pub three_at : (position : ℕ) (old first second new : List ℕ) (a b c : List (List ℕ)) → first ≡ old ++ all_at position a → second ≡ first ++ all_at position b → new ≡ second ++ all_at position c →
    new ≡ old ++ all_at position (a ++ b ++ c)
three_at position old first second new a b c one two three =
    three
    ∙ ap (λ t. t ++ all_at position c) (two ∙ ap (λ t. t ++ all_at position b) one ∙ append_assoc old (all_at position a) (all_at position b))
    ∙ append_assoc old (all_at position a ++ all_at position b) (all_at position c)
    ∙ ap (λ t. old ++ t) (sym (all_append position (a ++ b) c ∙ ap (λ t. t ++ all_at position c) (all_append position a b)))

-- the links of a document in a `srcdoc` with one more tag, which may be the `base` that ends them

pub more_inner_at : (position : ℕ) (old new whole : List ℕ) (all rest : List Seen) (seen : Seen) → old ++ all_at position (inner_links_in all) ≡ whole → Has all (seen ∷ rest) → is_base seen.element seen.values ≡ false →
    new ≡ old ++ all_at position (inner_links_with seen.element seen.values) → new ++ all_at position (inner_links_in rest) ≡ whole
more_inner_at position old new whole all rest seen inv has other pushed =
    ap (λ t. t ++ all_at position (inner_links_in rest)) pushed
    ∙ append_assoc old (all_at position (inner_links_with seen.element seen.values)) (all_at position (inner_links_in rest))
    ∙ ap (λ t. old ++ t) (sym (all_append position (inner_links_with seen.element seen.values) (inner_links_in rest)))
    ∙ ap (λ t. old ++ all_at position t) (sym (has.inner ∙ cond-false (is_base seen.element seen.values) [] (inner_links_with seen.element seen.values ++ inner_links_in rest) other)) ∙ inv

pub last_inner_at : (position : ℕ) (old whole : List ℕ) (all rest : List Seen) (seen : Seen) → old ++ all_at position (inner_links_in all) ≡ whole → Has all (seen ∷ rest) → is_base seen.element seen.values ≡ true → old ≡ whole
last_inner_at position old whole all rest seen inv has is =
    last_mapped (λ (link : List ℕ). position) old whole (inner_links_in all) inv (has.inner ∙ cond-true (is_base seen.element seen.values) [] (inner_links_with seen.element seen.values ++ inner_links_in rest) is)

-- and at its end
pub no_inner_at : (position : ℕ) (old whole : List ℕ) (all : List Seen) → old ++ all_at position (inner_links_in all) ≡ whole → Has all [] → old ≡ whole
no_inner_at position old whole all inv has = last_mapped (λ (link : List ℕ). position) old whole (inner_links_in all) inv has.inner
