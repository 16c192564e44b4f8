-- Ids in one block, and one more id after them.
use Rattle.page_anchors.proofs.Prelude.{◌≡◌, ◌∙◌, ℕ, zero, suc, ◌+◌, ◌-◌, ◌<◌, ◌≤◌, List, [], ◌∷◌, ◌++◌, length, drop, get_or, length-append, refl, ap, arith, Bor, slice_cmp, flat_map, slice_range, IsSorted, is_lt, nat_cmp, DoBound, pointed, texts_from, DoAscend}
use Rattle.std.proofs.lemmas.List.{drop-append-le, drop_at, get_or-map, length-drop, length-map, length-take, map-append, take-append-le, take_all}

-- ---- the ids

pub count_of : (bytes : List ℕ) (from : ℕ) (ends : List ℕ) → length (texts_from bytes from ends) ≡ length ends
count_of bytes from [] = refl
count_of bytes from (end ∷ ends) = ap suc (count_of bytes end ends)

-- the id with this index begins where the one before it ends
pub id_is : (bytes : List ℕ) (from : ℕ) (ends : List ℕ) (k : ℕ) → k < length ends →
    get_or (texts_from bytes from ends) k [] ≡ slice_range bytes (get_or (from ∷ ends) k 0) (get_or ends k 0)
id_is bytes from [] k below = absurd (omega (arith, below))
id_is bytes from (end ∷ ends) zero below = refl
id_is bytes from (end ∷ ends) (suc k) below = id_is bytes end ends k (omega (arith, below))

up_to : (from : ℕ) (ends : List ℕ) (count : ℕ) → DoBound from ends count → from ≤ count
up_to from [] count bound = omega (arith, bound)
up_to from (end ∷ ends) count bound = omega (arith, bound.0, up_to end ends count bound.1)

-- its start and its end are within the bytes
pub id_within : (from : ℕ) (ends : List ℕ) (count k : ℕ) → DoBound from ends count → k < length ends → (get_or (from ∷ ends) k 0 ≤ get_or ends k 0) × (get_or ends k 0 ≤ count)
id_within from [] count k bound below = absurd (omega (arith, below))
id_within from (end ∷ ends) count zero bound below = (bound.0, up_to end ends count bound.1)
id_within from (end ∷ ends) count (suc k) bound below = id_within end ends count k bound.1 (omega (arith, below))

-- the ids together are the bytes
pub bytes_of : (bytes : List ℕ) (from : ℕ) (ends : List ℕ) → DoBound from ends (length bytes) → from + length (flat_map (λ (id : List ℕ). id) (texts_from bytes from ends)) ≡ length bytes
bytes_of bytes from [] bound = omega (arith, bound)
bytes_of bytes from (end ∷ ends) bound =
    let first = slice_range bytes from end in
    let rest = texts_from bytes end ends in
    let within : end ≤ length bytes = up_to end ends (length bytes) bound.1 in
    omega (arith, bytes_of bytes end ends bound.1, bound.0, within, length-append first (flat_map (λ (id : List ℕ). id) rest), length-take (end - from) (drop from bytes), length-drop from bytes)

-- ---- one more id

pub bound_more : (from : ℕ) (ends : List ℕ) (count more : ℕ) → DoBound from ends count → count ≤ more → DoBound from (ends ++ more ∷ []) more
bound_more from [] count more bound up = (omega (arith, bound, up), refl)
bound_more from (end ∷ ends) count more bound up = (bound.0, bound_more end ends count more bound.1 up)

pub ids_more : (bytes id : List ℕ) (from : ℕ) (ends : List ℕ) → DoBound from ends (length bytes) →
    texts_from (bytes ++ id) from (ends ++ length (bytes ++ id) ∷ []) ≡ texts_from bytes from ends ++ id ∷ []
ids_more bytes id from [] bound = grind (arith, drop_at, length-append, take_all)
ids_more bytes id from (end ∷ ends) bound = grind (arith, up_to, ids_more bytes id end ends bound.1, length-drop, drop-append-le, take-append-le)

pub bound_pushed : (bytes more id : List ℕ) (ends longer : List ℕ) → DoBound 0 ends (length bytes) → more ≡ bytes ++ id → longer ≡ ends ++ length more ∷ [] → DoBound 0 longer (length more)
bound_pushed bytes more id ends longer bound is ends_are = grind (arith, length-append, bound_more)

-- ---- the ids to which references point

pub pointed_push : (ids : List (Bor (List ℕ))) (id : Bor (List ℕ)) → pointed (ids ++ id ∷ []) ≡ pointed ids ++ id.now ∷ []
pointed_push ids id = map-append (λ (text : Bor (List ℕ)). text.now) ids (id ∷ [])

pub pointed_ascend : (ids : List (Bor (List ℕ))) → IsSorted (λ x y. slice_cmp nat_cmp x.now y.now) ids → DoAscend (pointed ids)
pointed_ascend [] up = λ k d first below. absurd (omega (arith, below))
pointed_ascend (id ∷ ids) up = λ k d first below.
    let all : List (Bor (List ℕ)) = id ∷ ids in
    let within : k + 1 < length all = omega (arith, below, length-map all (λ (text : Bor (List ℕ)). text.now)) in
    let next = get_or-map (λ (text : Bor (List ℕ)). text.now) all (k + 1) id d within in
    let here = get_or-map (λ (text : Bor (List ℕ)). text.now) all k id d (omega (arith, within)) in
    (λ i. is_lt (slice_cmp nat_cmp (next i) (here i))) ∙ up k id first within
