-- Lists by their keys: sorted, each key once, searched.
use Rattle.std.proofs.Common.{◌≡◌, ℕ, ◌+◌, ◌<◌, zero, suc, not, ◌&&◌, ◌⊎◌, true, false, Ordering, List, [], ◌∷◌, Some, filter, get_or, length, map, refl, sym, ap, ◌∙◌, subst, inl, inr, suc-le-suc, zero-le, arith}
use Rattle.std.specs.Prelude.{if◌then◌else◌, slice_get}
use Rattle.std.specs.declared.cmp.Ordering.TheVariants.{Less, Equal, Greater}
use Rattle.std.specs.Cmp.{IsStrictWeakOrder, IsTotalOrder}
use Rattle.std.specs.Cmp.Lexicographic.{slice_cmp}
use Rattle.std.specs.List.{AllByRecursion, dedup, dedup_from}
use Rattle.std.specs.List.Sorted.{IsNonDecreasingBy, IsPartitionPoint, IsSorted, IsStableBy, IsStrictlySortedBy, ties}
use Rattle.std.specs.Ordering.{is_eq, is_lt, nat_cmp, ordering_index, ordering_reverse}
use Rattle.std.specs.Str.{bytes_eq}
use Rattle.std.proofs.lemmas.Bool.{cases_Bool, cases_lt, cond-false, cond-true}
use Rattle.std.proofs.lemmas.Cmp.{nat_list_cmp_total}
use Rattle.std.proofs.lemmas.List.Kept.{IsStrictlySortedBy-dedup}
use Rattle.std.proofs.lemmas.List.Sorted.{ranks_by, searchable_from_sorted}
use Rattle.std.proofs.lemmas.Map.Keys.{Less-from_sorted}
use Rattle.std.proofs.lemmas.Map.Text.{is_eq-slice_cmp}
use Rattle.std.proofs.lemmas.Slice.Eq.{bytes_eq-Decides}
use Rattle.site_files.specs.Firsts.{cmp_keys, first_with}

pub keys_rank : {X : Type 0} (key : X → List ℕ) → IsStrictWeakOrder (λ a b. is_lt (cmp_keys key a b))
keys_rank key = ranks_by nat_list_cmp_total key

keys_total : {X : Type 0} (key : X → List ℕ) → IsTotalOrder (cmp_keys key)
keys_total key = record {
  antisymm = λ a b. nat_list_cmp_total.antisymm (key a) (key b);
  trans = λ a b c. nat_list_cmp_total.trans (key a) (key b) (key c);
  congr = λ a b c. nat_list_cmp_total.congr (key a) (key b) (key c);
}

-- ---- a stable sort

tied : (o : Ordering) → not (is_lt (ordering_reverse o)) && not (is_lt o) ≡ is_eq o
tied o = grind arith

ties-key : {X : Type 0} (key : X → List ℕ) (a b : X) → ties (λ x y. is_lt (cmp_keys key x y)) a b ≡ bytes_eq (key b) (key a)
ties-key key a b =
    ap (λ o. not (is_lt o) && not (is_lt (slice_cmp nat_cmp (key b) (key a)))) (nat_list_cmp_total.antisymm (key a) (key b))
    ∙ tied (slice_cmp nat_cmp (key b) (key a)) ∙ is_eq-slice_cmp (key b) (key a)

-- the first of those with a key is the first with it
first-filter : {X V : Type 0} (key : X → List ℕ) (value : X → V) (none : V) (text : List ℕ) (xs : List X) → first_with key value none (filter (λ x. bytes_eq (key x) text) xs) text ≡ first_with key value none xs text
first-filter key value none text [] = refl
first-filter key value none text (x ∷ xs) =
    elim (cases_Bool (bytes_eq (key x) text)) [
      | inl is ↦ ap (λ ys. first_with key value none ys text) (cond-true _ _ _ is) ∙ cond-true _ _ _ is ∙ sym (cond-true _ _ _ is)
      | inr other ↦
          ap (λ ys. first_with key value none ys text) (cond-false _ _ _ other)
          ∙ first-filter key value none text xs ∙ sym (cond-false _ _ _ other)
    ]

-- one of them has the key, or the first with it is none
has_key : {X V : Type 0} (key : X → List ℕ) (value : X → V) (none : V) (text : List ℕ) (xs : List X) → ((x : X) × (key x ≡ text)) ⊎ (first_with key value none xs text ≡ none)
has_key key value none text [] = inr refl
has_key key value none text (x ∷ xs) = elim (cases_Bool (bytes_eq (key x) text)) [
  | inl is ↦ inl (x, (bytes_eq-Decides (key x) text).0 is)
  | inr other ↦ elim (has_key key value none text xs) [ inl found ↦ inl found | inr lacks ↦ inr (cond-false _ _ _ other ∙ lacks) ]
]

first-tied : {X V : Type 0} (key : X → List ℕ) (value : X → V) (none : V) (one : X) (given ordered : List X) → IsStableBy (λ a b. is_lt (cmp_keys key a b)) given ordered → first_with key value none ordered (key one) ≡ first_with key value none given (key one)
first-tied key value none one given ordered stable =
    let same = ap (λ p. filter p ordered) (λ i b. sym (ties-key key one b) i) ∙ stable one ∙ ap (λ p. filter p given) (λ i b. ties-key key one b i) in
    sym (first-filter key value none (key one) ordered) ∙ ap (λ xs. first_with key value none xs (key one)) same
    ∙ first-filter key value none (key one) given

pub first-sort : {X V : Type 0} (key : X → List ℕ) (value : X → V) (none : V) (text : List ℕ) (given ordered : List X) → IsStableBy (λ a b. is_lt (cmp_keys key a b)) given ordered → first_with key value none ordered text ≡ first_with key value none given text
first-sort key value none text given ordered stable =
    let by_one = λ (one : _) (is : key one ≡ text). subst (λ k. first_with key value none ordered k ≡ first_with key value none given k) is (first-tied key value none one given ordered stable) in
    elim (has_key key value none text ordered) [
      | inl found ↦ by_one found.0 found.1
      | inr lacks ↦ elim (has_key key value none text given) [ inl found ↦ by_one found.0 found.1 | inr other ↦ lacks ∙ sym other ]
    ]

-- ---- each key once

first-same : {X V : Type 0} (key : X → List ℕ) (value : X → V) (none : V) (text : List ℕ) (kept x : X) (xs : List X) → bytes_eq (key x) (key kept) ≡ true → first_with key value none (kept ∷ x ∷ xs) text ≡ first_with key value none (kept ∷ xs) text
first-same key value none text kept x xs same =
    let is : key x ≡ key kept = (bytes_eq-Decides (key x) (key kept)).0 same in
    elim (cases_Bool (bytes_eq (key kept) text)) [
      | inl is_kept ↦ cond-true _ _ _ is_kept ∙ sym (cond-true _ _ _ is_kept)
      | inr differs ↦
          cond-false _ _ _ differs ∙ cond-false _ _ _ (ap (λ k. bytes_eq k text) is ∙ differs) ∙ sym (cond-false _ _ _ differs)
    ]

first-dedup_from : {X V : Type 0} (key : X → List ℕ) (value : X → V) (none : V) (text : List ℕ) (kept : X) (xs : List X) → first_with key value none (dedup_from (λ a b. bytes_eq (key a) (key b)) kept xs) text ≡ first_with key value none (kept ∷ xs) text
first-dedup_from key value none text kept [] = refl
first-dedup_from key value none text kept (x ∷ xs) =
    elim (cases_Bool (bytes_eq (key x) (key kept))) [
      | inl same ↦
          ap (λ ys. first_with key value none ys text) (cond-true _ _ _ same)
          ∙ first-dedup_from key value none text kept xs ∙ sym (first-same key value none text kept x xs same)
      | inr other ↦
          ap (λ ys. first_with key value none ys text) (cond-false _ _ _ other)
          ∙ elim (cases_Bool (bytes_eq (key kept) text)) [
            | inl is_kept ↦ cond-true _ _ _ is_kept ∙ sym (cond-true _ _ _ is_kept)
            | inr differs ↦ cond-false _ _ _ differs ∙ first-dedup_from key value none text x xs ∙ sym (cond-false _ _ _ differs)
          ]
    ]

pub first-dedup : {X V : Type 0} (key : X → List ℕ) (value : X → V) (none : V) (text : List ℕ) (xs : List X) → first_with key value none (dedup (λ a b. bytes_eq (key a) (key b)) xs) text ≡ first_with key value none xs text
first-dedup key value none text [] = refl
first-dedup key value none text (x ∷ xs) = first-dedup_from key value none text x xs

pub ascends-dedup : {X : Type 0} (key : X → List ℕ) (xs : List X) → IsSorted (cmp_keys key) xs → IsStrictlySortedBy (cmp_keys key) (dedup (λ a b. bytes_eq (key a) (key b)) xs)
ascends-dedup key xs ascends = IsStrictlySortedBy-dedup (keys_total key) (λ a b. sym (is_eq-slice_cmp (key a) (key b))) xs ascends

-- ---- a search

rises : {X : Type 0} (key : X → List ℕ) (xs : List X) → IsStrictlySortedBy (cmp_keys key) xs → IsSorted (cmp_keys key) xs
rises key xs ascends k d low below =
    let up = Less-from_sorted (cmp_keys key) xs k (k + 1) d ascends (omega arith) below in
    rw ((keys_total key).antisymm (get_or xs (k + 1) d) (get_or xs k d), up) refl

all-get : {X : Type 0} (P : X → Type 0) (xs : List X) (i : ℕ) (x : X) → AllByRecursion P xs → slice_get xs i ≡ Some x → P x
all-get P [] i x all there = cc
all-get P (y ∷ ys) zero x all there = let is : y ≡ x = cc in subst P is all.0
all-get P (y ∷ ys) (suc i) x all there = all-get P ys i x all.1 there

-- the one with a key is the first with it
pub first-found : {X V : Type 0} (key : X → List ℕ) (value : X → V) (none : V) (xs : List X) (i : ℕ) (x : X) → IsStrictlySortedBy (cmp_keys key) xs → slice_get xs i ≡ Some x → first_with key value none xs (key x) ≡ value x
unfolding IsStrictlySortedBy
first-found key value none [] i x ascends there = cc
first-found key value none (y ∷ ys) zero x ascends there =
    let is : y ≡ x = cc in
    cond-true _ _ _ ((bytes_eq-Decides (key y) (key x)).1 (ap key is)) ∙ ap value is
first-found key value none (y ∷ ys) (suc i) x ascends there =
    let before : cmp_keys key y x ≡ Less = all-get (λ other. cmp_keys key y other ≡ Less) ys i x ascends.0 there in
    let differs : bytes_eq (key y) (key x) ≡ false = sym (is_eq-slice_cmp (key y) (key x)) ∙ ap is_eq before in
    cond-false _ _ _ differs ∙ first-found key value none ys i x ascends.1 there

first-none : {X V : Type 0} (key : X → List ℕ) (value : X → V) (none : V) (text : List ℕ) (xs : List X) → ((k : ℕ) (d : X) → k < length xs → bytes_eq (key (get_or xs k d)) text ≡ false) → first_with key value none xs text ≡ none
first-none key value none text [] lacks = refl
first-none key value none text (x ∷ xs) lacks =
    cond-false _ _ _ (lacks zero x (suc-le-suc zero-le))
    ∙ first-none key value none text xs (λ k d below. lacks (suc k) d (suc-le-suc below))

pub first-missing : {X V : Type 0} (key : X → List ℕ) (value : X → V) (none : V) (text : List ℕ) (xs : List X) (i : ℕ) → IsStrictlySortedBy (cmp_keys key) xs → (IsNonDecreasingBy (λ x. ordering_index (slice_cmp nat_cmp (key x) text)) xs → IsPartitionPoint (λ x. slice_cmp nat_cmp (key x) text ≡ Less) (λ x. slice_cmp nat_cmp (key x) text ≡ Greater) xs i) → first_with key value none xs text ≡ none
first-missing key value none text xs i ascends point =
    let parts = point (searchable_from_sorted nat_list_cmp_total key xs text (rises key xs ascends)) in
    first-none key value none text xs
    (λ k d below. elim (cases_lt k i) [
      | inl front ↦ sym (is_eq-slice_cmp (key (get_or xs k d)) text) ∙ ap is_eq (parts.0 k d zero-le front)
      | inr back ↦ sym (is_eq-slice_cmp (key (get_or xs k d)) text) ∙ ap is_eq (parts.1 k d back below)
    ])

-- an element at which the search ends has the key
pub key_found : {X : Type 0} (key : X → List ℕ) (text : List ℕ) (x : X) → slice_cmp nat_cmp (key x) text ≡ Equal → key x ≡ text
key_found key text x equal = (bytes_eq-Decides (key x) text).0 (sym (is_eq-slice_cmp (key x) text) ∙ ap is_eq equal)

-- ---- other elements with the same keys and values

pub first-map : {X Y V : Type 0} (f : X → Y) (key : Y → List ℕ) (value : Y → V) (none : V) (text : List ℕ) (xs : List X) → first_with key value none (map f xs) text ≡ first_with (λ x. key (f x)) (λ x. value (f x)) none xs text
first-map f key value none text [] = refl
first-map f key value none text (x ∷ xs) = ap (λ rest. if bytes_eq (key (f x)) text then value (f x) else rest) (first-map f key value none text xs)
