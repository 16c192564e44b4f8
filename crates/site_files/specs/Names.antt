-- Names on a path as the code holds them.
use Rattle.std.specs.Prelude.{◌≡◌, ℕ, ◌<◌, List, ◌∷◌, length, map}
use Rattle.std.specs.Borrow.{Bor}
use Rattle.site_files.specs.Server.{names_of}

-- the texts that references point to
abbrev pub shown : List (Bor (List ℕ)) → List (List ℕ)
shown names = map (λ name. name.now) names

-- a path is cut into its first name and what is after a slash
pub record IsCut (path name rest : List ℕ) : Type 0 where
  pub names : names_of path ≡ name ∷ names_of rest
  pub shorter : length rest < length path
