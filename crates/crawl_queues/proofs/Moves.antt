-- Each move of a seat keeps the rule of a list that only grows.
use Rattle.crawl_queues.proofs.Prelude.{common_steps, ◌≡◌, ◌≢◌, ℕ, zero, suc, List, [], ◌∷◌, ◌++◌, set, true, refl, sym, ap, ◌∙◌, subst, arith, some, some-ne-none, some-injective, get_elem?, Entry, ListView, holding, owning, beginning, Stays, Fits, Grows, Adding, Compares}
use Rattle.atomic_table.specs.Table.{Me, Allows, Splits, Joins, keeps, opening}
use Rattle.atomic_table.proofs.Lists.{at_set, at_snoc, set_again}
use Rattle.crawl_queues.proofs.Passing.{no}

abbrev pub Sitting : Type 0
Sitting = Me (Unit {0}) ListView

pub stays_front : {X : Type 0} (xs ys : List X) → Stays xs (xs ++ ys)
stays_front [] ys k p e = absurd (cc)
stays_front (x ∷ xs) ys zero p e = e
stays_front (x ∷ xs) ys (suc k) p e = stays_front xs ys k p e

pub stays_nil : {X : Type 0} (xs : List X) → Stays [] xs
stays_nil xs k x e = absurd (cc)

pub stays_on : {X : Type 0} (xs ys zs : List X) → Stays xs ys → Stays ys zs → Stays xs zs
stays_on xs ys zs a b k x e = b k x (a k x e)

fits_set : (owner : ℕ) (list : List Entry) (views : List ListView) (seat : ℕ) (w : ListView) → ((j : ℕ) (u : ListView) → j ≢ seat → get_elem? views j ≡ some u → Fits owner list j u)
    → Fits owner list seat w → (j : ℕ) (u : ListView) → get_elem? (set views seat w) j ≡ some u → Fits owner list j u
fits_set owner list views seat w others mine j u e = grind (arith, common_steps, at_set)

pub begins : (words : List ℕ) → Grows (opening words [] (owning []))
begins words = (0, [], one)
  where
    one : (seat : ℕ) (v : ListView) → get_elem? (owning [] ∷ []) seat ≡ some v → Fits 0 [] seat v
    one zero v e = subst (Fits 0 [] 0) (some-injective _ _ e) ((λ _. (refl, refl)), stays_nil [])
    one (suc seat) v e = absurd (some-ne-none v (sym e))

pub adds : (slots seat : ℕ) (m : Sitting) (x : Entry) → m.0 ≡ owning m.0.all → Allows Grows slots seat m 0 (λ r. r) (λ n after. Adding x m after)
adds slots seat m x is table h _ at _ =
    let mine = (h.2 seat m.0 at).0 (ap (λ v. v.owns) is) in
    let w = owning (m.0.all ++ x ∷ []) in
    let list = h.1 ++ x ∷ [] in (
      w,
      keeps,
      tt,
      (
        h.0,
        list,
        fits_set h.0 list table.views seat w
            (λ j u apart e. ((λ o. absurd (apart (((h.2 j u e).0 o).0 ∙ sym mine.0))), stays_on u.begins h.1 list (h.2 j u e).1 (stays_front h.1 (x ∷ []))))
            ((λ _. (mine.0, ap (λ l. l ++ x ∷ []) mine.1)), stays_nil list),
      ),
      (refl, refl),
    )

pub compares : (slots seat : ℕ) (m : Sitting) → m.0.owns ≡ true → Allows Grows slots seat m 0 (λ r. r) (λ n after. Compares m after)
compares slots seat m owns table h _ at _ =
    let mine = h.2 seat m.0 at in
    let known = mine.0 owns in
    let w = owning m.0.all in (
      w,
      keeps,
      tt,
      (h.0, h.1, fits_set h.0 h.1 table.views seat w (λ j u apart e. h.2 j u e) ((λ _. known), stays_nil h.1)),
      (subst (λ l. Stays m.0.begins l) (sym known.1) mine.1, refl, refl),
    )

pub learns : (seat : ℕ) (v : ListView) → v ≡ owning v.all → Splits Grows seat v v (beginning v.all)
learns seat v is table h at = grind (arith, common_steps, set_again, no, at_snoc)

pub repeats : (seat : ℕ) (v : ListView) → Splits Grows seat v v (beginning v.begins)
repeats seat v table h at = grind (arith, common_steps, set_again, no, at_snoc)

pub hands_in : (seat : ℕ) (v : ListView) (other : ℕ) (u : ListView) → v ≡ owning v.all → Joins Grows seat v other u (holding v.all u.begins) (beginning [])
hands_in seat v other u is table h at apart there = grind (arith, common_steps, at_set, fits_set, no, stays_nil)
