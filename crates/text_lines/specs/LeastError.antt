-- The first error in lines: the first check that fails on the first line that fails one.
use Rattle.std.specs.Prelude.{◌≡◌, ℕ, List, [], ◌∷◌, ◌++◌, Option, Some, None}

-- none of these lines fails a check after the earlier lines. `error_after earlier line` is the first check that a line fails after
-- these earlier lines, if it fails one
abbrev pub SoundAfter : {E : Type 0} → (List (List ℕ) → List ℕ → Option E) → List (List ℕ) → List (List ℕ) → Type 0
SoundAfter error_after earlier [] = Unit {0}
SoundAfter error_after earlier (line ∷ more) = (error_after earlier line ≡ None) × SoundAfter error_after (earlier ++ line ∷ []) more

-- the lines before some line pass all checks, and that line has this error
pub record IsLeastError {E : Type 0} (error_after : List (List ℕ) → List ℕ → Option E) (lines : List (List ℕ)) (error : E) : Type 0 where
  pub front : List (List ℕ)
  pub line : List ℕ
  pub rest : List (List ℕ)
  pub split : lines ≡ front ++ line ∷ rest
  pub sound : SoundAfter error_after [] front
  pub fails : error_after front line ≡ Some error
