-- Lemmas on lists and indices.
use Rattle.crawl_core.proofs.Prelude.{◌≡◌, ℕ, zero, suc, ◌+◌, ◌<◌, true, false, List, [], ◌∷◌, ◌++◌, length, take, map, nat_eq, slice_get, slice_set, Option, Some, None, refl, ap, ◌∙◌, arith, eqb-true, inl, inr, ◌⊎◌, nat_tests, option_map, length-set, sum_by-set, slice_get_within, get_or_from_slice_get}
use Rattle.std.specs.List.{sum_by, filter_map, cons_option, zip}

-- the sum over a list after one element was replaced
pub sum_at : {X : Type 0} (f : X → ℕ) (xs : List X) (place : ℕ) (old new : X) → slice_get xs place ≡ Some old → sum_by f (slice_set xs place new) + f old ≡ sum_by f xs + f new
sum_at f xs place old new at =
    rw (get_or_from_slice_get xs place old old at) at (sum_by-set f xs place new old (slice_get_within xs place old at))

pub length-slice_set : {X : Type 0} (xs : List X) (i : ℕ) (y : X) → length (slice_set xs i y) ≡ length xs
length-slice_set xs i y = length-set xs i y

pub get_set_same : {X : Type 0} (xs : List X) (i : ℕ) (x y : X) → slice_get xs i ≡ Some x → slice_get (slice_set xs i y) i ≡ Some y
get_set_same [] i x y at = absurd (cc)
get_set_same (z ∷ zs) zero x y at = refl
get_set_same (z ∷ zs) (suc i) x y at = get_set_same zs i x y at

pub get_set_other : {X : Type 0} (xs : List X) (i j : ℕ) (y : X) → nat_eq i j ≡ false → slice_get (slice_set xs i y) j ≡ slice_get xs j
get_set_other [] i j y apart = refl
get_set_other (z ∷ zs) zero zero y apart = absurd (cc)
get_set_other (z ∷ zs) zero (suc j) y apart = refl
get_set_other (z ∷ zs) (suc i) zero y apart = refl
get_set_other (z ∷ zs) (suc i) (suc j) y apart = get_set_other zs i j y (grind (arith, apart))

-- what is at an index after a write: the new element at the index that was written, the old elements elsewhere
pub set_cases : {X : Type 0} (P : Option X → Type 0) (xs : List X) (place there : ℕ) (old new : X) → slice_get xs place ≡ Some old → (nat_eq place there ≡ true → slice_get xs there ≡ Some old → P (Some new)) → (nat_eq place there ≡ false → P (slice_get xs there)) → P (slice_get (slice_set xs place new) there)
set_cases P xs place there old new at same other = grind (arith, slice_set, eqb-true, get_set_same, get_set_other)

-- an element of a filtered list comes from an element of the list
pub record Source {X Y : Type 0} (h : X → Option Y) (xs : List X) (y : Y) : Type 0 where
  pub place : ℕ
  pub item : X
  pub at : slice_get xs place ≡ Some item
  pub gives : h item ≡ Some y

later_source : {X Y : Type 0} (h : X → Option Y) (x : X) (xs : List X) (y : Y) → Source h xs y → Source h (x ∷ xs) y
later_source h x xs y source = record { place = suc source.place; item = source.item; at = source.at; gives = source.gives }

pub from_filter_map : {X Y : Type 0} (h : X → Option Y) (xs : List X) (k : ℕ) (y : Y) → slice_get (filter_map h xs) k ≡ Some y → Source h xs y
from_filter_map h [] k y at = absurd (cc)
from_filter_map {X} {Y} h (x ∷ xs) k y at = by_first (h x) refl k (λ k. from_filter_map h xs k y) at
  where
    by_first : (o : Option Y) → h x ≡ o → (k : ℕ) → ((k : ℕ) → slice_get (filter_map h xs) k ≡ Some y → Source h xs y) → slice_get (cons_option o (filter_map h xs)) k ≡ Some y → Source h (x ∷ xs) y
    by_first None e k later at = later_source h x xs y (later k at)
    by_first (Some z) e zero later at = record { place = 0; item = x; at = refl; gives = e ∙ at }
    by_first (Some z) e (suc k) later at = later_source h x xs y (later k at)

-- an element that passes the filter comes after those that passed before it
pub at_rank : {X Y : Type 0} (h : X → Option Y) (xs : List X) (i : ℕ) (x : X) (y : Y) → slice_get xs i ≡ Some x → h x ≡ Some y → slice_get (filter_map h xs) (length (filter_map h (take i xs))) ≡ Some y
at_rank h [] i x y at e = absurd (cc)
at_rank h (z ∷ zs) zero x y at e = let here : h z ≡ Some y = ap h (cc) ∙ e in rw here refl
at_rank {X} {Y} h (z ∷ zs) (suc i) x y at e = grind (arith, nat_tests, at_rank h zs i x y)

-- and before the elements that pass later
pub rank_below : {X Y : Type 0} (h : X → Option Y) (xs : List X) (i j : ℕ) (x : X) (y : Y) → i < j → slice_get xs i ≡ Some x → h x ≡ Some y → length (filter_map h (take i xs)) < length (filter_map h (take j xs))
rank_below h [] i j x y lt at e = absurd (cc)
rank_below h (z ∷ zs) i zero x y lt at e = absurd (omega arith)
rank_below h (z ∷ zs) zero (suc j) x y lt at e = let here : h z ≡ Some y = ap h (cc) ∙ e in rw here (omega arith)
rank_below {X} {Y} h (z ∷ zs) (suc i) (suc j) x y lt at e = grind (arith, nat_tests, rank_below h zs i j x y)

-- the first of a pair comes from the first list
pub zip_first : {A B : Type 0} (xs : List A) (ys : List B) (i : ℕ) (a : A) (b : B) → slice_get (zip xs ys) i ≡ Some (a, b) → slice_get xs i ≡ Some a
zip_first [] ys i a b at = absurd (cc)
zip_first (x ∷ xs) [] i a b at = absurd (cc)
zip_first (x ∷ xs) (y ∷ ys) zero a b at = grind arith
zip_first (x ∷ xs) (y ∷ ys) (suc i) a b at = zip_first xs ys i a b at

pub slice_get-map : {X Y : Type 0} (f : X → Y) (xs : List X) (i : ℕ) → slice_get (map f xs) i ≡ option_map f (slice_get xs i)
slice_get-map f [] i = refl
slice_get-map f (x ∷ xs) zero = refl
slice_get-map f (x ∷ xs) (suc i) = slice_get-map f xs i

pub slice_get-take : {X : Type 0} (xs : List X) (n i : ℕ) (x : X) → slice_get (take n xs) i ≡ Some x → slice_get xs i ≡ Some x
slice_get-take [] zero i x at = absurd (cc)
slice_get-take [] (suc n) i x at = absurd (cc)
slice_get-take (z ∷ zs) zero i x at = absurd (cc)
slice_get-take (z ∷ zs) (suc n) zero x at = at
slice_get-take (z ∷ zs) (suc n) (suc i) x at = slice_get-take zs n i x at

-- the elements of a list and one more
pub push_cases : {X : Type 0} (xs : List X) (y : X) (i : ℕ) (x : X) → slice_get (xs ++ y ∷ []) i ≡ Some x → (slice_get xs i ≡ Some x) ⊎ ((i ≡ length xs) × (x ≡ y))
push_cases [] y zero x at = inr (refl, cc)
push_cases [] y (suc i) x at = absurd (cc)
push_cases (z ∷ zs) y zero x at = inl at
push_cases (z ∷ zs) y (suc i) x at = elim (push_cases zs y i x at) [ inl h ↦ inl h | inr h ↦ inr (ap suc h.0, h.1) ]
