-- URLs by their indices in a list.
use native.Mathlib.Omega.{arith}
use Rattle.std.proofs.Common.{◌≡◌, ℕ, zero, suc, List, [], ◌∷◌, ◌++◌, length, map, slice_get, Some, Result, Ok, Err, IfOk, refl, ap, ◌∙◌, map-id}
use Rattle.hash_index.specs.Lists.{index_of}
use Rattle.hash_index.proofs.Listed.{found_at}
use Rattle.saved_pages.specs.UrlIndices.{LeadTo, KeepIndices}

-- an element of the first list is at the same index of both lists together
pub get_front : {X : Type 0} (xs ys : List X) (k : ℕ) (x : X) → slice_get xs k ≡ Some x → slice_get (xs ++ ys) k ≡ Some x
get_front [] ys k x at = absurd (cc)
get_front (y ∷ xs) ys zero x at = at
get_front (y ∷ xs) ys (suc k) x at = get_front xs ys k x at

-- the index that was found, in four bytes
pub found_there : {E : Type 0} (urls : List (List ℕ)) (url : List ℕ) (index : ℕ) (error : Result ℕ E) → Some index ≡ index_of (map (λ u. u) urls) url → IfOk error (λ short. short ≡ index) → IfOk error (λ short. slice_get urls short ≡ Some url)
found_there urls url index error found is = grind (arith, found_at, map-id)

-- the index of the URL that was pushed
pub pushed_there : {E : Type 0} (urls longer : List (List ℕ)) (url : List ℕ) (last : ℕ) (error : Result ℕ E) → longer ≡ urls ++ url ∷ [] → last ≡ length urls → IfOk error (λ short. short ≡ last) → IfOk error (λ short. slice_get longer short ≡ Some url)
pushed_there urls longer url last (Err e) is at answered_is = tt
pushed_there urls longer url last (Ok short) is at answered_is =
    ap (slice_get longer) (answered_is ∙ at) ∙ ap (λ l. slice_get l (length urls)) is ∙ get_last urls url
  where
    get_last : (xs : List (List ℕ)) (y : List ℕ) → slice_get (xs ++ y ∷ []) (length xs) ≡ Some y
    get_last [] y = refl
    get_last (x ∷ xs) y = get_last xs y

pub keep_pushed : (urls longer : List (List ℕ)) (url : List ℕ) → longer ≡ urls ++ url ∷ [] → KeepIndices urls longer
keep_pushed urls longer url is index other at = ap (λ l. slice_get l index) is ∙ get_front urls (url ∷ []) index other at

-- if URLs keep their indices, the same links are at these indices
pub lead_still : (old new : List (List ℕ)) (indices : List ℕ) (links : List (List ℕ)) → KeepIndices old new → LeadTo old indices links → LeadTo new indices links
lead_still old new [] [] keep lead = refl
lead_still old new [] (link ∷ links) keep lead = absurd (cc)
lead_still old new (index ∷ indices) [] keep lead = absurd (cc)
lead_still old new (index ∷ indices) (link ∷ links) keep lead = grind (arith, lead_still old new indices links keep)
