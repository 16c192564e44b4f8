-- The content of a line of a saved web, and the lines under the last page.
use native.Mathlib.Omega.{arith}
use Rattle.std.proofs.Common.{◌≡◌, ℕ, Bool, false, ◌||◌, List, [], ◌∷◌, ◌++◌, refl, ap, ◌∙◌, if◌then◌else◌, IsUtf8}
use Rattle.std.proofs.Math.Bool.{or-false}
use Rattle.std.specs.List.{list_any}
use Rattle.std.proofs.lemmas.List.Folds.{list_any-append}
use Rattle.std.proofs.lemmas.Str.{is_utf8-from_IsUtf8}
use Rattle.saved_pages.specs.WebErrors.{under_last_page}
use Rattle.saved_pages.specs.WebLines.{line_of_text, line_of, is_page}

pub line_of-utf8 : (line : List ℕ) → IsUtf8 line → line_of line ≡ line_of_text line
line_of-utf8 line utf8 = rw (is_utf8-from_IsUtf8 line utf8) refl

-- ---- the lines under the last page, with one more line

-- one line
one_under : (page : Bool) (line : List ℕ) → (if page || false then [] else line ∷ []) ≡ (if page then [] else [] ++ line ∷ [])
one_under page line = grind arith

more_under : (some page : Bool) (x : List ℕ) (xs : List (List ℕ)) (line : List ℕ) → under_last_page (xs ++ line ∷ []) ≡ (if page then [] else under_last_page xs ++ line ∷ []) → (if some || page then under_last_page (xs ++ line ∷ []) else x ∷ xs ++ line ∷ []) ≡ (if page then [] else (if some then under_last_page xs else x ∷ xs) ++ line ∷ [])
more_under some page x xs line e = grind arith

pub under_more : (earlier : List (List ℕ)) (line : List ℕ) → under_last_page (earlier ++ line ∷ []) ≡ (if is_page line then [] else under_last_page earlier ++ line ∷ [])
under_more [] line = one_under (is_page line) line
under_more (x ∷ xs) line =
    ap (λ b. if b then under_last_page (xs ++ line ∷ []) else x ∷ xs ++ line ∷ []) (list_any-append is_page (x ∷ xs) (line ∷ []) ∙ ap (λ b. list_any is_page (x ∷ xs) || b) (or-false (is_page line)))
    ∙ more_under (list_any is_page (x ∷ xs)) (is_page line) x xs line (under_more xs line)
