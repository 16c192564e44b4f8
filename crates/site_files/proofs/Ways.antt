-- The names of a path, one after another.
use Rattle.std.proofs.Common.{◌≡◌, ℕ, ◌+◌, ◌-◌, ◌<◌, true, false, List, [], ◌∷◌, ◌++◌, length, take, drop, get_or, map, Some, refl, sym, ap, ◌∙◌, append-nil, arith, length-drop}
use Rattle.std.proofs.Math.Seq.{take-length}
use Rattle.std.specs.Borrow.{Bor}
use Rattle.std.specs.Prelude.{option_and_then}
use Rattle.std.specs.List.{join_with_byte, position_or_len}
use Rattle.std.proofs.lemmas.List.{get_or_default, length-map, map-append}
use Rattle.std.proofs.lemmas.List.Splits.{length-slice_split, slice_split_first, slice_split_none}
use Rattle.std.proofs.lemmas.List.Sums.{position_or_len_is}
use Rattle.site_files.specs.Below.{is_slash}
use Rattle.site_files.specs.Names.{IsCut, shown}
use Rattle.site_files.specs.Server.{ends_in_folder, names_of, respelled, respelled_name, stepped, walked, without_last}

-- a path has a name, perhaps an empty one
some_name : (path : List ℕ) → 0 < length (names_of path)
some_name path = omega (arith, length-slice_split is_slash path)

pub join_more : (name : List ℕ) (names : List (List ℕ)) → 0 < length names → join_with_byte 47 (name ∷ names) ≡ name ++ 47 ∷ join_with_byte 47 names
join_more name [] some = absurd (omega arith)
join_more name (other ∷ names) some = refl

-- the names, each after a slash
abbrev pub slashed : List (List ℕ) → List ℕ
slashed [] = []
slashed (name ∷ names) = (47 ∷ name) ++ slashed names

pub join_slashed : (name : List ℕ) (names : List (List ℕ)) → join_with_byte 47 (name ∷ names) ≡ name ++ slashed names
join_slashed name [] = sym (append-nil name)
join_slashed name (other ∷ names) = ap (λ rest. name ++ 47 ∷ rest) (join_slashed other names)

-- ---- a path that is cut at its first slash

pub cut_at : (path : List ℕ) (i : ℕ) → i < length path → ((k : ℕ) → k < i → is_slash (get_or path k 0) ≡ false) → is_slash (get_or path i 0) ≡ true → IsCut path (take i path) (drop (i + 1) path)
cut_at path i below before at =
    let first : position_or_len is_slash path ≡ i = position_or_len_is is_slash path i 0 (omega arith) before (λ _. at) in
    record {
      names = let whole = slice_split_first is_slash path 0 (rw first below) in rw first at whole;
      shorter = omega (arith, length-drop (i + 1) path);
    }

pub take_rest : (path : List ℕ) (i : ℕ) → take (length path - i) (drop i path) ≡ drop i path
take_rest path i = rw (← length-drop i path) (take-length (drop i path))

pub no_cut : (path : List ℕ) → ((k : ℕ) → k < length path → is_slash (get_or path k 0) ≡ false) → names_of path ≡ path ∷ []
no_cut path none = slice_split_none is_slash path (λ k d below. rw (get_or_default path k d 0 below) (none k below))

pub respelled_cut : (path name rest : List ℕ) → IsCut path name rest → respelled path ≡ respelled_name name ++ 47 ∷ respelled rest
respelled_cut path name rest cut =
    let some : 0 < length (map respelled_name (names_of rest)) = rw (length-map (names_of rest) respelled_name) (some_name rest) in
    ap (λ names. join_with_byte 47 (map respelled_name names)) cut.names
    ∙ join_more (respelled_name name) (map respelled_name (names_of rest)) some

pub respelled_last : (path : List ℕ) → names_of path ≡ path ∷ [] → respelled path ≡ respelled_name path
respelled_last path last = ap (λ names. join_with_byte 47 (map respelled_name names)) last

-- ---- the way that names lead

pub without_last_back : (front : List (List ℕ)) (name : List ℕ) → without_last (front ++ name ∷ []) ≡ Some front
without_last_back [] name = refl
without_last_back (first ∷ []) name = refl
without_last_back (first ∷ second ∷ front) name = rw (without_last_back (second ∷ front) name) refl

pub shown_back : (names : List (Bor (List ℕ))) (name : Bor (List ℕ)) → shown (names ++ name ∷ []) ≡ shown names ++ name.now ∷ []
shown_back names name = map-append (λ (one : Bor (List ℕ)). one.now) names (name ∷ [])

ends_more : (name : List ℕ) (names : List (List ℕ)) → 0 < length names → ends_in_folder (name ∷ names) ≡ ends_in_folder names
ends_more name [] some = absurd (omega arith)
ends_more name (other ∷ names) some = refl

pub ends_cut : (path name rest : List ℕ) → IsCut path name rest → ends_in_folder (names_of path) ≡ ends_in_folder (names_of rest)
ends_cut path name rest cut = ap ends_in_folder cut.names ∙ ends_more name (names_of rest) (some_name rest)

pub walked_cut : (path name rest : List ℕ) → IsCut path name rest → (way next : List (List ℕ)) → Some next ≡ stepped way name → walked next (names_of rest) ≡ walked way (names_of path)
walked_cut path name rest cut way next step =
    sym (ap (walked way) cut.names ∙ ap (option_and_then (λ after. walked after (names_of rest))) (sym step))
