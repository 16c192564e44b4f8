-- A text without the slashes at its end.
use Rattle.std.proofs.Common.{◌≡◌, ℕ, true, false, List, [], ◌∷◌, ◌++◌, arith}
use Rattle.std.proofs.lemmas.List.Folds.{list_all-append}
use Rattle.site_files.specs.Below.{is_slash, without_slashes}

-- a slash at the end goes
pub cut_one : (text : List ℕ) (b : ℕ) → is_slash b ≡ true → without_slashes (text ++ b ∷ []) ≡ without_slashes text
cut_one [] b slash = grind arith
cut_one (c ∷ cs) b slash = grind (arith, list_all-append, cut_one cs b slash)

-- a text that ends in something else stays
pub keeps : (text : List ℕ) (b : ℕ) → is_slash b ≡ false → without_slashes (text ++ b ∷ []) ≡ text ++ b ∷ []
keeps [] b other = grind arith
keeps (c ∷ cs) b other = grind (arith, list_all-append, keeps cs b other)
