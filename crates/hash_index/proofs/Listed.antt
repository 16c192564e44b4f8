-- Texts of a list and their indices.
use Rattle.hash_index.proofs.Prelude.{◌≡◌, ◌⊎◌, inl, inr, ℕ, zero, suc, ◌<◌, Bool, true, false, List, [], ◌∷◌, ◌++◌, length, take, slice_get, Option, Some, None, is_some, refl, ap, subst, suc-le-suc, zero-le, arith, option_map, bytes_eq, both_ways, index_of, is_this, has_text_at, AreApart}
use Rattle.std.specs.Bool.{if◌then◌else◌}
use Rattle.std.specs.List.{list_any}
use Rattle.std.proofs.lemmas.Slice.Eq.{bytes_eq-Decides}

pub same_text : (u v : List ℕ) → bytes_eq u v ≡ true → u ≡ v
same_text u v e = (bytes_eq-Decides u v).0 e

-- an element of a list with one more is an element of the list or the last
pub push_cases : {X : Type 0} (xs : List X) (y : X) (k : ℕ) (x : X) → slice_get (xs ++ y ∷ []) k ≡ Some x → ((k < length xs) × (slice_get xs k ≡ Some x)) ⊎ ((k ≡ length xs) × (y ≡ x))
push_cases [] y zero x at = inr (refl, cc)
push_cases [] y (suc k) x at = absurd (cc)
push_cases (z ∷ zs) y zero x at = inl (suc-le-suc zero-le, at)
push_cases (z ∷ zs) y (suc k) x at = grind (arith, suc-le-suc, push_cases zs y k x at)

-- an element of the first n is an element of the list below n
pub slice_get_take : {X : Type 0} (n : ℕ) (xs : List X) (k : ℕ) (x : X) → slice_get (take n xs) k ≡ Some x → (k < n) × (slice_get xs k ≡ Some x)
slice_get_take zero xs k x at = absurd (cc)
slice_get_take (suc n) [] k x at = absurd (cc)
slice_get_take (suc n) (y ∷ ys) zero x at = (suc-le-suc zero-le, at)
slice_get_take (suc n) (y ∷ ys) (suc k) x at = let more = slice_get_take n ys k x at in (suc-le-suc more.0, more.1)

pub at_index : (texts : List (List ℕ)) (k : ℕ) (key : List ℕ) → has_text_at texts k key ≡ true → slice_get texts k ≡ Some key
at_index texts k key is_there = by_text (slice_get texts k) is_there
  where
    by_text : (o : Option (List ℕ)) → is_this o key ≡ true → o ≡ Some key
    by_text None is = absurd (cc)
    by_text (Some text) is = ap Some (same_text text key is)

pub has_text_there : (texts : List (List ℕ)) (k : ℕ) (key : List ℕ) → slice_get texts k ≡ Some key → has_text_at texts k key ≡ true
has_text_there texts k key at = grind (arith, bytes_eq-Decides)

-- the text is at the index that `index_of` returns
pub found_at : (texts : List (List ℕ)) (key : List ℕ) (k : ℕ) → index_of texts key ≡ Some k → slice_get texts k ≡ Some key
found_at [] key k found = absurd (cc)
found_at (text ∷ texts) key k found = by_first (bytes_eq text key) refl found (index_of texts key) refl (found_at texts key)
  where
    by_first : (b : Bool) → bytes_eq text key ≡ b → (if b then Some 0 else option_map suc (index_of texts key)) ≡ Some k
        → (o : Option ℕ) → index_of texts key ≡ o → ((j : ℕ) → index_of texts key ≡ Some j → slice_get texts j ≡ Some key) → slice_get (text ∷ texts) k ≡ Some key
    by_first true is found o more rest =
        let at : 0 ≡ k = cc in
        subst (λ j. slice_get (text ∷ texts) j ≡ Some key) at (ap Some (same_text text key is))
    by_first false is found None more rest = absurd (cc)
    by_first false is found (Some j) more rest =
        let at : suc j ≡ k = cc in
        subst (λ i. slice_get (text ∷ texts) i ≡ Some key) at (rest j more)

-- if it returns none, the text is nowhere in the list
pub absent_at : (texts : List (List ℕ)) (key : List ℕ) → index_of texts key ≡ None → (k : ℕ) → slice_get texts k ≡ Some key → ⊥
absent_at [] key none k at = cc
absent_at (text ∷ texts) key none k at = grind (arith, both_ways, absent_at texts key, bytes_eq-Decides)

-- the index at which the text is, is the one that it returns
pub there_first : (texts : List (List ℕ)) (key : List ℕ) (k : ℕ) → AreApart texts → has_text_at texts k key ≡ true → index_of texts key ≡ Some k
there_first texts key k apart is_there = by_index (index_of texts key) refl
  where
    by_index : (o : Option ℕ) → index_of texts key ≡ o → o ≡ Some k
    by_index None found = absurd (absent_at texts key found k (at_index texts k key is_there))
    by_index (Some j) found = ap Some (apart j k key (found_at texts key j found) (at_index texts k key is_there))

pub AreApart-push : (texts : List (List ℕ)) (key : List ℕ) → index_of texts key ≡ None → AreApart texts → AreApart (texts ++ key ∷ [])
AreApart-push texts key none apart i k text at_i at_k = grind (arith, push_cases, absent_at)

-- a text has an index if and only if it is in the list
pub has_index : (texts : List (List ℕ)) (key : List ℕ) → is_some (index_of texts key) ≡ list_any (λ text. bytes_eq text key) texts
has_index [] key = refl
has_index (text ∷ texts) key = grind (arith, has_index texts key)

pub none_there : {X : Type 0} (o : Option X) → is_some o ≡ false → o ≡ None
none_there o e = grind arith
