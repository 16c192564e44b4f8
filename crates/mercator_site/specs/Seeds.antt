-- The seeds of a check.
use Rattle.std.specs.Prelude.{ℕ, ◌==◌, Bool, true, false, not, ◌||◌, ◌&&◌, List, [], ◌∷◌, if◌then◌else◌}

-- a byte that a URL parser reads as a slash
abbrev pub is_slash : ℕ → Bool
is_slash b = b == 47 || b == 92

-- what comes after a slash is no second one
abbrev pub is_one : List ℕ → Bool
is_one [] = true
is_one (b ∷ bs) = not (is_slash b)

-- the link is a path from the root of its host
abbrev pub is_path : List ℕ → Bool
is_path [] = false
is_path (b ∷ bs) = is_slash b && is_one bs

-- the link at which a search starts. If the URL of the folder is not known, the root is the top, so a path is one from the top
abbrev pub seed_link : Bool → List ℕ → List ℕ
seed_link rooted link = if rooted && is_path link then 46 ∷ link else link
