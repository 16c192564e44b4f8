-- The new text of a link.
use Rattle.std.specs.Prelude.{◌≡◌, ◌⊎◌, ℕ, ◌==◌, ◌&&◌, ◌||◌, Bool, true, not, List, [], ◌∷◌, ◌++◌, drop, take}
use Rattle.std.specs.Int.{is_in_range}
use Rattle.std.specs.List.{list_all, list_any, prefix_len}

-- the byte begins neither a query nor a fragment
abbrev pub is_path : ℕ → Bool
is_path b = not (b == 63 || (b == 35))

-- what comes before the query and the fragment
abbrev pub path_of : List ℕ → List ℕ
path_of link = take (prefix_len is_path link) link

-- the query and the fragment
abbrev pub tail_of : List ℕ → List ℕ
tail_of link = drop (prefix_len is_path link) link

-- the bytes " # & ' ( ) , < > ? \ and `
abbrev pub is_special : ℕ → Bool
is_special b = list_any (λ (special : ℕ). b == special) (34 ∷ 35 ∷ 38 ∷ 39 ∷ 40 ∷ 41 ∷ 44 ∷ 60 ∷ 62 ∷ 63 ∷ 92 ∷ 96 ∷ [])

-- a visible ASCII character that is not one of these
abbrev pub is_plain : ℕ → Bool
is_plain b = is_in_range 33 126 b && not (is_special b)

-- a new text for a link that is written like this: its query and fragment, and before them its path and a slash, or plain bytes
pub record IsNewLink (written text : List ℕ) : Type 0 where
  pub path : List ℕ
  pub whole : text ≡ path ++ tail_of written
  pub plain : (path ≡ path_of written ++ 47 ∷ []) ⊎ (list_all is_plain path ≡ true)
