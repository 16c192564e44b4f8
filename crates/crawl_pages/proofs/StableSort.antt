-- A stable sort by a test has one result: the list that ascends by it and keeps elements that tie in their order.
use Rattle.std.proofs.Common.{◌≡◌, ℕ, zero, suc, ◌<◌, ◌≤◌, Bool, true, false, not, List, [], ◌∷◌, length, get_or, filter, map, refl, sym, ap, ◌∙◌, subst, arith, inl, inr, suc-le-suc, zero-le, add-one}
use Rattle.std.proofs.lemmas.Bool.{cond-true, cond-false, cases_Bool, and_parts, not-true, false≢true}
use Rattle.std.specs.Cmp.{IsStrictWeakOrder}
use Rattle.std.specs.List.Sorted.{ties, IsPermutation, IsSortedBy, IsStableBy}
use Rattle.std.proofs.lemmas.List.Sorted.{sorted_far, IsPermutation-refl, IsPermutation-cons, IsPermutation-trans, IsPermutation-middle}
use Rattle.crawl_pages.specs.ResultOrder.{insertion, stable_sort}

-- ---- the elements of a list that pass a test

pub filter-kept : {X : Type 0} (p : X → Bool) (y : X) (ys : List X) → p y ≡ true → filter p (y ∷ ys) ≡ y ∷ filter p ys
filter-kept p y ys h = cond-true _ _ _ h

pub filter-dropped : {X : Type 0} (p : X → Bool) (y : X) (ys : List X) → p y ≡ false → filter p (y ∷ ys) ≡ filter p ys
filter-dropped p y ys h = cond-false _ _ _ h

-- ---- what ties

not_less : {X : Type 0} (lt : X → X → Bool) → IsStrictWeakOrder lt → (x : X) → lt x x ≡ false
not_less lt o x = elim (cases_Bool (lt x x)) [ inl less ↦ o.one_way x x less | inr other ↦ other ]

neither : {X : Type 0} (lt : X → X → Bool) (x y : X) → ties lt x y ≡ true → (lt x y ≡ false) × (lt y x ≡ false)
neither lt x y h = let both = and_parts (not (lt x y)) (not (lt y x)) h in (not-true _ both.0, not-true _ both.1)

tie : {X : Type 0} (lt : X → X → Bool) (x y : X) → lt x y ≡ false → lt y x ≡ false → ties lt x y ≡ true
tie lt x y left right = rw (left, right) refl

-- ---- an insertion keeps elements that tie in their order

filter-insertion : {X : Type 0} (lt : X → X → Bool) → IsStrictWeakOrder lt → (x c : X) (ds : List X) → filter (ties lt x) (insertion lt c ds) ≡ filter (ties lt x) (c ∷ ds)
filter-insertion lt o x c [] = refl
filter-insertion lt o x c (d ∷ ds) = grind (arith, cases_Bool, cond-false, cond-true, filter-dropped, false≢true, neither, filter-kept, filter-insertion lt o x c ds)

pub filter-stable_sort : {X : Type 0} (lt : X → X → Bool) → IsStrictWeakOrder lt → (x : X) (cs : List X) → filter (ties lt x) (stable_sort lt cs) ≡ filter (ties lt x) cs
filter-stable_sort lt o x [] = refl
filter-stable_sort lt o x (c ∷ cs) = grind (arith, filter-insertion, filter-stable_sort lt o x cs)

-- ---- lists that ascend, by recursion

-- none of them is less than x
abbrev AreAtLeast : {X : Type 0} → (X → X → Bool) → X → List X → Type 0
AreAtLeast lt x [] = Unit {0}
AreAtLeast lt x (y ∷ ys) = (lt y x ≡ false) × AreAtLeast lt x ys

abbrev Ascends : {X : Type 0} → (X → X → Bool) → List X → Type 0
Ascends lt [] = Unit {0}
Ascends lt (y ∷ ys) = AreAtLeast lt y ys × Ascends lt ys

AreAtLeast-less : {X : Type 0} (lt : X → X → Bool) → IsStrictWeakOrder lt → (x y : X) (zs : List X) → lt y x ≡ false → AreAtLeast lt y zs → AreAtLeast lt x zs
AreAtLeast-less lt o x y [] below h = tt
AreAtLeast-less lt o x y (z ∷ zs) below h = (o.chain z y x h.0 below, AreAtLeast-less lt o x y zs below h.1)

AreAtLeast-insertion : {X : Type 0} (lt : X → X → Bool) (x c : X) (ds : List X) → lt c x ≡ false → AreAtLeast lt x ds → AreAtLeast lt x (insertion lt c ds)
AreAtLeast-insertion lt x c [] above h = (above, tt)
AreAtLeast-insertion lt x c (d ∷ ds) above h = grind (arith, cases_Bool, cond-true, cond-false, AreAtLeast-insertion lt x c ds above h.1)

Ascends-insertion : {X : Type 0} (lt : X → X → Bool) → IsStrictWeakOrder lt → (c : X) (ds : List X) → Ascends lt ds → Ascends lt (insertion lt c ds)
Ascends-insertion lt o c [] h = (tt, tt)
Ascends-insertion lt o c (d ∷ ds) h = grind (arith, cases_Bool, cond-true, AreAtLeast-insertion, cond-false, AreAtLeast-less, Ascends-insertion lt o c ds h.1)

Ascends-stable_sort : {X : Type 0} (lt : X → X → Bool) → IsStrictWeakOrder lt → (cs : List X) → Ascends lt (stable_sort lt cs)
Ascends-stable_sort lt o [] = tt
Ascends-stable_sort lt o (c ∷ cs) = Ascends-insertion lt o c (stable_sort lt cs) (Ascends-stable_sort lt o cs)

-- ---- the same for indices, as std states it

AreAtLeast-at : {X : Type 0} (lt : X → X → Bool) (x : X) (ys : List X) → ((j : ℕ) → j < length ys → lt (get_or ys j x) x ≡ false) → AreAtLeast lt x ys
AreAtLeast-at lt x [] h = tt
AreAtLeast-at lt x (y ∷ ys) h = (h zero (suc-le-suc zero-le), AreAtLeast-at lt x ys (λ j below. h (suc j) (suc-le-suc below)))

Ascends-from_far : {X : Type 0} (lt : X → X → Bool) (ys : List X) → ((i j : ℕ) (d : X) → i ≤ j → j < length ys → lt (get_or ys j d) (get_or ys i d) ≡ false) → Ascends lt ys
Ascends-from_far lt [] h = tt
Ascends-from_far lt (y ∷ ys) h = (
  AreAtLeast-at lt y ys (λ j below. h zero (suc j) y zero-le (suc-le-suc below)),
  Ascends-from_far lt ys (λ i j d le below. h (suc i) (suc j) d (suc-le-suc le) (suc-le-suc below)),
)

Ascends-from_sort : {X : Type 0} (lt : X → X → Bool) → IsStrictWeakOrder lt → (ys : List X) → IsSortedBy lt ys → Ascends lt ys
Ascends-from_sort lt o ys sorted = Ascends-from_far lt ys (sorted_far lt o ys sorted)

next_above : {X : Type 0} (lt : X → X → Bool) (ys : List X) (k : ℕ) (d : X) → suc k < length ys → Ascends lt ys → lt (get_or ys (suc k) d) (get_or ys k d) ≡ false
next_above lt [] k d below h = absurd (omega arith)
next_above lt (y ∷ []) k d below h = absurd (omega arith)
next_above lt (y ∷ z ∷ zs) zero d below h = h.0.0
next_above lt (y ∷ z ∷ zs) (suc k) d below h = next_above lt (z ∷ zs) k d (omega arith) h.1

pub sorted-stable_sort : {X : Type 0} (lt : X → X → Bool) → IsStrictWeakOrder lt → (cs : List X) → IsSortedBy lt (stable_sort lt cs)
sorted-stable_sort lt o cs k d low below =
    let P : ℕ → Type 0 = λ n. lt (get_or (stable_sort lt cs) n d) (get_or (stable_sort lt cs) k d) ≡ false in
    subst P (sym (add-one k)) (next_above lt (stable_sort lt cs) k d (omega arith) (Ascends-stable_sort lt o cs))

-- ---- an insertion moves elements, and neither adds nor drops any

IsPermutation-insertion : {X : Type 0} (lt : X → X → Bool) (c : X) (ds : List X) → IsPermutation (c ∷ ds) (insertion lt c ds)
IsPermutation-insertion lt c [] = IsPermutation-refl (c ∷ [])
IsPermutation-insertion lt c (d ∷ ds) =
    let P : List _ → Type 0 = IsPermutation (c ∷ d ∷ ds) in
    elim (cases_Bool (lt d c)) [
      | inl past ↦
          subst P (sym (cond-true _ _ _ past))
          (IsPermutation-trans _ _ _ (IsPermutation-middle (c ∷ []) d ds) (IsPermutation-cons d _ _ (IsPermutation-insertion lt c ds)))
      | inr stays ↦ subst P (sym (cond-false _ _ _ stays)) (IsPermutation-refl (c ∷ d ∷ ds))
    ]

pub IsPermutation-stable_sort : {X : Type 0} (lt : X → X → Bool) (cs : List X) → IsPermutation cs (stable_sort lt cs)
IsPermutation-stable_sort lt [] = IsPermutation-refl []
IsPermutation-stable_sort lt (c ∷ cs) =
    IsPermutation-trans _ _ _ (IsPermutation-cons c _ _ (IsPermutation-stable_sort lt cs)) (IsPermutation-insertion lt c (stable_sort lt cs))

-- ---- there is only one such list

-- what ties with x occurs among them
AreAtLeast-found : {X : Type 0} (lt : X → X → Bool) → IsStrictWeakOrder lt → (n x : X) (ys : List X) (w : X) (ws : List X) → AreAtLeast lt n ys → filter (ties lt x) ys ≡ w ∷ ws → lt x n ≡ false
AreAtLeast-found lt o n x [] w ws h e = cc
AreAtLeast-found lt o n x (y ∷ ys) w ws h e = grind (arith, cases_Bool, neither, filter-dropped, AreAtLeast-found lt o n x ys w ws h.1)

same_from_ties : {X : Type 0} (lt : X → X → Bool) → IsStrictWeakOrder lt → (ys zs : List X) → Ascends lt ys → Ascends lt zs → ((x : X) → filter (ties lt x) ys ≡ filter (ties lt x) zs) → ys ≡ zs
same_from_ties lt o [] [] left right same = refl
same_from_ties lt o [] (z ∷ zs) left right same =
    let itself = tie lt z z (not_less lt o z) (not_less lt o z) in
    let clash = same z ∙ filter-kept (ties lt z) z zs itself in cc
same_from_ties lt o (y ∷ ys) [] left right same =
    let itself = tie lt y y (not_less lt o y) (not_less lt o y) in
    let clash = sym (same y) ∙ filter-kept (ties lt y) y ys itself in cc
same_from_ties lt o (y ∷ ys) (z ∷ zs) left right same =
    let at_y = filter-kept (ties lt y) y ys (tie lt y y (not_less lt o y) (not_less lt o y)) in
    let at_z = filter-kept (ties lt z) z zs (tie lt z z (not_less lt o z) (not_less lt o z)) in
    let up = AreAtLeast-found lt o z y (z ∷ zs) y _ (not_less lt o z, right.0) (sym (same y) ∙ at_y) in
    let down = AreAtLeast-found lt o y z (y ∷ ys) z _ (not_less lt o y, left.0) (same z ∙ at_z) in
    let heads = sym at_y ∙ same y ∙ filter-kept (ties lt y) z zs (tie lt y z up down) in
    let head : y ≡ z = cc in
    let tails : (x : _) → filter (ties lt x) ys ≡ filter (ties lt x) zs =
    λ x. elim (cases_Bool (ties lt x y)) [
      | inl with ↦
          let both = sym (filter-kept (ties lt x) y ys with) ∙ same x ∙ filter-kept (ties lt x) z zs (ap (ties lt x) (sym head) ∙ with) in cc
      | inr without ↦
          sym (filter-dropped (ties lt x) y ys without) ∙ same x ∙ filter-dropped (ties lt x) z zs (ap (ties lt x) (sym head) ∙ without)
    ] in
    ap (λ w. w ∷ ys) head ∙ ap (λ l. z ∷ l) (same_from_ties lt o ys zs left.1 right.1 tails)

pub stable_sort-from_sort : {X : Type 0} (lt : X → X → Bool) → IsStrictWeakOrder lt → (xs ys : List X) → IsSortedBy lt ys → IsStableBy lt xs ys → ys ≡ stable_sort lt xs
stable_sort-from_sort lt o xs ys sorted stable =
    same_from_ties lt o ys (stable_sort lt xs) (Ascends-from_sort lt o ys sorted) (Ascends-stable_sort lt o xs)
    (λ x. stable x ∙ sym (filter-stable_sort lt o x xs))

-- ---- elements that are mapped to others

map-insertion : {X Y : Type 0} (v : Y → X) (lt : X → X → Bool) (c : Y) (ds : List Y) → map v (insertion (λ a b. lt (v a) (v b)) c ds) ≡ insertion lt (v c) (map v ds)
map-insertion v lt c [] = refl
map-insertion v lt c (d ∷ ds) =
    elim (cases_Bool (lt (v d) (v c))) [
      | inl past ↦ ap (map v) (cond-true _ _ _ past) ∙ ap (λ l. v d ∷ l) (map-insertion v lt c ds) ∙ sym (cond-true _ _ _ past)
      | inr stays ↦ ap (map v) (cond-false _ _ _ stays) ∙ sym (cond-false _ _ _ stays)
    ]

pub map-stable_sort : {X Y : Type 0} (v : Y → X) (lt : X → X → Bool) (cs : List Y) → map v (stable_sort (λ a b. lt (v a) (v b)) cs) ≡ stable_sort lt (map v cs)
map-stable_sort v lt [] = refl
map-stable_sort v lt (c ∷ cs) = grind (arith, map-insertion, map-stable_sort v lt cs)
