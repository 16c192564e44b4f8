-- What a hash index keeps, and what a search of it finds.
use Rattle.hash_index.proofs.Prelude.{◌≡◌, inl, inr, ℕ, ◌+◌, ◌<◌, ◌≤◌, Bool, true, false, List, [], ◌∷◌, ◌++◌, length, map, take, get_or, slice_get, Option, Some, None, IfSome, Result, Ok, Err, IfOk, refl, sym, ap, subst, ◌∙◌, arith, bytes_eq, unwrap_or, both_ways, false_from_ne_true, take_more, length-take-le, map-append, index_of, has_text_at, AreApart, AreTaken, IsFirstVacant, IsInSlots, Misses, IsInOverflow, IsKept, AreKept, IsIndexOf, HashIndex}
use Rattle.std.specs.BTreeMap.{get, get_by_text}
use Rattle.std.specs.Ordering.{nat_cmp}
use Rattle.std.proofs.lemmas.Option.{slice_get-get_or}
use Rattle.hash_index.specs.declared.overflow.Overflow.{Overflow}
use Rattle.hash_index.proofs.Listed.{same_text, push_cases, slice_get_take, has_text_there, found_at, there_first, AreApart-push}

-- ---- the overflow

-- if an index was kept for a hash or a text, it is still the one that is kept
pub was_kept : (o : Option ℕ) (index kept k : ℕ) → kept ≡ unwrap_or o index → o ≡ Some k → kept ≡ k
was_kept o index kept k is at = is ∙ ap (λ o. unwrap_or o index) at

-- no index in the overflow passes if neither the first of the hash nor that of the text passes
pub misses_in_overflow : (passes : ℕ → Bool) (overflow : Overflow) (hash : ℕ) (text : List ℕ) (index first : ℕ) → first ≡ unwrap_or (get nat_cmp overflow.by_hash hash) index
    → passes first ≡ false → ((k : ℕ) → get_by_text overflow.by_text text ≡ Some k → passes k ≡ false) → (k : ℕ) → IsInOverflow overflow hash text k → passes k ≡ false
misses_in_overflow passes overflow hash text index first is other own k in_overflow = grind (arith, was_kept)

-- if the text is not at the index that is kept for it, changing that index keeps each index whose text is in the list
pub text_stays : (texts : List (List ℕ)) (old new : List ℕ → Option ℕ) (key : List ℕ) (index kept : ℕ) → kept ≡ unwrap_or (old key) index → has_text_at texts kept key ≡ false
    → ((other : List ℕ) (k : ℕ) → bytes_eq key other ≡ false → old other ≡ Some k → new other ≡ Some k)
    → (other : List ℕ) (k : ℕ) → old other ≡ Some k → has_text_at texts k other ≡ true → new other ≡ Some k
text_stays texts old new key index kept is not_there others other k at is_there = by_text (bytes_eq key other) refl
  where
    by_text : (b : Bool) → bytes_eq key other ≡ b → new other ≡ Some k
    by_text false differs = others other k differs at
    by_text true same =
        let own : other ≡ key = sym (same_text key other same) in
        let there : kept ≡ k = was_kept _ index kept k is (subst (λ u. old u ≡ Some k) own at) in
        absurd (both_ways _ not_there (subst (λ n. has_text_at texts n key ≡ true) (sym there) (subst (λ u. has_text_at texts k u ≡ true) own is_there)))

-- ---- what stays kept

-- an index stays kept if neither the slots nor the overflow lose it
pub stays : (old new : HashIndex) (hash : ℕ) (text : List ℕ) (k : ℕ) → (IsInSlots old.slots hash k → IsInSlots new.slots hash k)
    → (AreTaken old.slots hash 8 → AreTaken new.slots hash 8) → (IsInOverflow old.overflow hash text k → IsInOverflow new.overflow hash text k) → IsKept old hash text k → IsKept new hash text k
stays old new hash text k slots taken in_overflow (inl held) = inl (slots held)
stays old new hash text k slots taken in_overflow (inr (full, at)) = inr (taken full, in_overflow at)

-- no kept index passes if the hash's slots miss, and one of them is vacant or the overflow misses too
pub misses_vacant : (passes : ℕ → Bool) (table : HashIndex) (hash : ℕ) (text : List ℕ) (slot : ℕ) → IsFirstVacant table.slots hash slot → Misses passes table.slots hash
    → (k : ℕ) → IsKept table hash text k → passes k ≡ false
misses_vacant passes table hash text slot first misses k h8 = grind arith

pub misses_full : (passes : ℕ → Bool) (table : HashIndex) (hash : ℕ) (text : List ℕ) → Misses passes table.slots hash → ((k : ℕ) → IsInOverflow table.overflow hash text k → passes k ≡ false)
    → (k : ℕ) → IsKept table hash text k → passes k ≡ false
misses_full passes table hash text misses others k h7 = grind arith

-- ---- what a search returns

module _ (hash : List ℕ → ℕ) (texts : List (List ℕ)) (table : HashIndex) (key : List ℕ) (is : IsIndexOf hash texts table) where
  -- if the text is at no index that is kept for it, it is at none
  pub none_found : ((k : ℕ) → IsKept table (hash key) key k → has_text_at texts k key ≡ false) → index_of texts key ≡ None
  none_found never = by_index (index_of texts key) refl
    where
      by_index : (o : Option ℕ) → index_of texts key ≡ o → o ≡ None
      by_index None found = refl
      by_index (Some k) found =
          let at = found_at texts key k found in
          absurd (both_ways _ (never k (is.1 k key at)) (has_text_there texts k key at))

  pub answers : (o : Option ℕ) → IfSome o (λ k. has_text_at texts k key ≡ true) → (o ≡ None → (k : ℕ) → IsKept table (hash key) key k → has_text_at texts k key ≡ false) → o ≡ index_of texts key
  answers None found never = sym (none_found (never refl))
  answers (Some k) found never = sym (there_first texts key k is.0 found)

  -- ---- the index of the list, and of the list with one more text

  -- it is the index of the list if each index whose text is in the list stays kept
  pub index_stays : (new : HashIndex) → ((text : List ℕ) (k : ℕ) → IsKept table (hash text) text k → has_text_at texts k text ≡ true → IsKept new (hash text) text k) → IsIndexOf hash texts new
  index_stays new stay = (is.0, λ k text at. stay text k (is.1 k text at) (has_text_there texts k text at))

  pub index_pushed : index_of texts key ≡ None → IsKept table (hash key) key (length texts) → IsIndexOf hash (texts ++ key ∷ []) table
  index_pushed none own = (
    AreApart-push texts key none is.0,
    λ k text at. elim (push_cases texts key k text at) [
      | inl before ↦ is.1 k text before.1
      | inr last ↦ subst (λ n. IsKept table (hash text) text n) (sym last.0) (subst (λ u. IsKept table (hash u) u (length texts)) last.1 own)
    ],
  )

-- for a list of items with one more
pub pushed_item : {X : Type 0} (text : X → List ℕ) (hash : List ℕ → ℕ) (table : HashIndex) (items longer : List X) (item : X) → longer ≡ items ++ item ∷ []
    → IsIndexOf hash (map text items ++ text item ∷ []) table → IsIndexOf hash (map text longer) table
pushed_item text hash table items longer item is known = grind (arith, map-append)

-- if all slots of the hash are taken, the maps of the overflow decide the result of a search
module _ (hash : List ℕ → ℕ) (texts : List (List ℕ)) (old new : HashIndex) (key : List ℕ) (was : IsIndexOf hash texts old) (misses : Misses (λ k. has_text_at texts k key) old.slots (hash key)) where
  pub found_beside : {E : Type 0} (r : Result (Option ℕ) E) → IfOk r (λ o. IfSome o (λ k. has_text_at texts k key ≡ true))
      → IfOk r (λ o. o ≡ None → (k : ℕ) → IsInOverflow old.overflow (hash key) key k → has_text_at texts k key ≡ false) → IfOk r (λ o. o ≡ index_of texts key)
  found_beside (Ok o) found never = answers hash texts old key was o found (λ none. misses_full (λ k. has_text_at texts k key) old (hash key) key misses (never none))
  found_beside (Err e) found never = tt

  pub pushed_beside : {E : Type 0} (r : Result (Option ℕ) E) → IsIndexOf hash texts new → AreTaken new.slots (hash key) 8 → IfOk r (λ o. o ≡ index_of texts key)
      → IfOk r (λ o. o ≡ None → IsInOverflow new.overflow (hash key) key (length texts)) → IfOk r (λ o. o ≡ None → IsIndexOf hash (texts ++ key ∷ []) new)
  pushed_beside (Ok o) is full found own = λ none. index_pushed hash texts new key is (sym found ∙ none) (inr (full, own none))
  pushed_beside (Err e) is full found own = tt

-- ---- larger tables

module _ (hash : List ℕ → ℕ) (texts : List (List ℕ)) (i : ℕ) (key : List ℕ) (h : ℕ) (below : i < length texts) (is : key ≡ get_or texts i []) (hash_is : h ≡ hash (get_or texts i [])) (apart : AreApart texts) where
  here : slice_get texts i ≡ Some key
  here = slice_get-get_or texts i [] below ∙ ap Some (sym is)

  own_hash : h ≡ hash key
  own_hash = hash_is ∙ ap hash (sym is)

  -- if one text keeps its index and the other texts keep theirs, all do
  pub keeps_each : (old new : HashIndex) → ((other : List ℕ) (n k : ℕ) → bytes_eq key other ≡ false → IsKept old n other k → IsKept new n other k)
      → (IsKept old h key i → IsKept new h key i) → AreKept hash texts old → AreKept hash texts new
  keeps_each old new others own kept k text at = by_text (bytes_eq key text) refl
    where
      by_text : (b : Bool) → bytes_eq key text ≡ b → IsKept new (hash text) text k
      by_text false differs = others text (hash text) k differs (kept k text at)
      by_text true found =
          let same : key ≡ text = same_text key text found in
          let index : i ≡ k = apart i k text (here ∙ ap Some same) at in
          let hashed : IsKept new (hash key) key i = subst (λ n. IsKept old n key i → IsKept new n key i) own_hash own (kept i key here) in
          subst (λ j. IsKept new (hash text) text j) index (subst (λ u. IsKept new (hash u) u i) same hashed)

  -- of the first n texts and one more, each keeps its index
  pub keeps_taken : (before old new : HashIndex) → AreKept hash texts before → ((other : List ℕ) (n k : ℕ) → bytes_eq key other ≡ false → IsKept old n other k → IsKept new n other k)
      → (IsKept before h key i → IsKept new h key i) → AreKept hash (take i texts) old → AreKept hash (take (i + 1) texts) new
  keeps_taken before old new was others own kept =
      let more : take (i + 1) texts ≡ take i texts ++ key ∷ [] = take_more texts i [] below ∙ ap (λ u. take i texts ++ u ∷ []) (sym is) in
      let within : i ≤ length texts = omega (arith, below) in
      let counted : length (take i texts) ≡ i = length-take-le i texts within in
      let hashed : IsKept new (hash key) key i = subst (λ n. IsKept before n key i → IsKept new n key i) own_hash own (was i key here) in
      let each : AreKept hash (take i texts ++ key ∷ []) new =
      λ k text at. elim (push_cases (take i texts) key k text at) [
        | inl first ↦
            let there = slice_get_take i texts k text first.1 in
            let differs : bytes_eq key text ≡ false = false_from_ne_true _ (λ same.
            let index : i ≡ k = apart i k text (here ∙ ap Some (same_text key text same)) there.1 in
            omega (arith, index, there.0)) in
            others text (hash text) k differs (kept k text first.1)
        | inr last ↦ subst (λ u. IsKept new (hash u) u k) last.1 (subst (λ n. IsKept new (hash key) key n) (sym (last.0 ∙ counted)) hashed)
      ] in
      subst (λ xs. AreKept hash xs new) (sym more) each
