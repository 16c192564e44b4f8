-- The least of several texts.
use Rattle.crawl_sources.proofs.Prelude.{◌≡◌, ◌⊎◌, inl, inr, ℕ, zero, suc, Bool, true, false, List, [], ◌∷◌, fold, Some, None, refl, sym, ap, ◌∙◌, subst, suc-le-suc, zero-le, cases_Bool, cond-true, cond-false, All-nil, All-cons, All, Contains}
use Rattle.std.proofs.lemmas.Cmp.{nat_list_cmp_total}
use Rattle.std.proofs.lemmas.List.Sorted.{ranks_by}
use Rattle.std.specs.Cmp.{IsStrictWeakOrder}
use Rattle.std.specs.Cmp.Lexicographic.{slice_cmp}
use Rattle.std.specs.Ordering.{is_lt, nat_cmp}
use Rattle.crawl_sources.specs.Sources.{lesser, least_with, least}

abbrev less : List ℕ → List ℕ → Bool
less a b = is_lt (slice_cmp nat_cmp a b)

ranks : IsStrictWeakOrder less
ranks = ranks_by nat_list_cmp_total (λ t. t)

not_less : (t : List ℕ) → less t t ≡ false
not_less t = elim (cases_Bool (less t t)) [ inl h ↦ ranks.one_way t t h | inr h ↦ h ]

here : (x : List ℕ) (xs : List (List ℕ)) → Contains (x ∷ xs) x
here x xs = (zero, suc-le-suc zero-le, refl)

there : (y x : List ℕ) (xs : List (List ℕ)) → Contains xs x → Contains (y ∷ xs) x
there y x xs has = (suc has.0, suc-le-suc has.1, has.2)

-- the least of a text and of those after it
record IsLeastFrom (a : List ℕ) (texts : List (List ℕ)) (text : List ℕ) : Type 0 where
  first : less a text ≡ false
  among : (a ≡ text) ⊎ Contains texts text
  below : All (λ t. less t text ≡ false) texts

from_more : (b : Bool) (a x : List ℕ) (xs : List (List ℕ)) (text : List ℕ) → less x a ≡ b → ((l : List ℕ) → lesser a x ≡ l → IsLeastFrom l xs text) → IsLeastFrom a (x ∷ xs) text
from_more true a x xs text is rest =
    let k = rest x (cond-true _ _ _ is) in
    record {
      first = ranks.chain a x text (ranks.one_way x a is) k.first;
      among = elim k.among [ inl e ↦ inr (subst (λ t. Contains (x ∷ xs) t) e (here x xs)) | inr has ↦ inr (there x text xs has) ];
      below = All-cons (λ t. less t text ≡ false) x xs k.first k.below;
    }
from_more false a x xs text is rest =
    let k = rest a (cond-false _ _ _ is) in
    record {
      first = k.first;
      among = elim k.among [ inl e ↦ inl e | inr has ↦ inr (there x text xs has) ];
      below = All-cons (λ t. less t text ≡ false) x xs (ranks.chain x a text is k.first) k.below;
    }

least_from : (a : List ℕ) (texts : List (List ℕ)) (text : List ℕ) → fold least_with (Some a) texts ≡ Some text → IsLeastFrom a texts text
least_from a [] text is =
    let same : a ≡ text = cc in
    record {
      first = subst (λ t. less a t ≡ false) same (not_less a);
      among = inl same;
      below = All-nil (λ t. less t text ≡ false);
    }
least_from a (x ∷ xs) text is =
    from_more (less x a) a x xs text refl (λ l e. least_from l xs text (ap (λ t. fold least_with (Some t) xs) (sym e) ∙ is))

pub least_among : (texts : List (List ℕ)) (text : List ℕ) → least texts ≡ Some text → Contains texts text
least_among [] text is = absurd (cc)
least_among (x ∷ xs) text is =
    elim (least_from x xs text is).among [ inl e ↦ subst (λ t. Contains (x ∷ xs) t) e (here x xs) | inr has ↦ there x text xs has ]

pub least_below : (texts : List (List ℕ)) (text : List ℕ) → least texts ≡ Some text → All (λ t. is_lt (slice_cmp nat_cmp t text) ≡ false) texts
least_below [] text is = absurd (cc)
least_below (x ∷ xs) text is =
    let k = least_from x xs text is in
    All-cons (λ t. less t text ≡ false) x xs k.first k.below

some_least : (a : List ℕ) (texts : List (List ℕ)) → fold least_with (Some a) texts ≡ None → ⊥
some_least a [] is = (cc)
some_least a (x ∷ xs) is = some_least (lesser a x) xs is

pub least_none : (texts : List (List ℕ)) → least texts ≡ None → texts ≡ []
least_none [] is = refl
least_none (x ∷ xs) is = absurd (some_least x xs is)
