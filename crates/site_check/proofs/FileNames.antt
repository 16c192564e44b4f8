-- The name of a file, cut after its last slash.
use Rattle.site_check.proofs.Prelude.{common_steps, ◌≡◌, ◌∙◌, ℕ, ◌||◌, true, false, List, [], ◌∷◌, ◌++◌, length, length-append, take, refl, sym, ap, arith, cond-true, cond-false, list_any, after_slashes, folder_in, is_slash}
use Rattle.std.proofs.Common.{◌-◌, codes}
use Rattle.std.proofs.Math.Seq.{take-append_seam}
use Rattle.site_check.proofs.Outsides.{IsName, first_free, more_name}

no_slash : (text : List ℕ) → IsName text → list_any is_slash text ≡ false
no_slash [] free = refl
no_slash (b ∷ text) free = λ i. first_free b text free i || no_slash text (more_name b text free) i

has_slash : (folder file : List ℕ) → list_any is_slash (folder ++ 47 ∷ file) ≡ true
has_slash [] file = refl
has_slash (b ∷ folder) file = grind (arith, common_steps, has_slash folder file)

pub file_only : (name : List ℕ) → IsName name → name ≡ after_slashes name
file_only [] free = refl
file_only (b ∷ name) free = sym (cond-false (list_any is_slash (b ∷ name)) _ _ (no_slash (b ∷ name) free))

file_after : (folder file : List ℕ) → IsName file → after_slashes (folder ++ 47 ∷ file) ≡ file
file_after [] file free = sym (file_only file free)
file_after (b ∷ folder) file free = cond-true (list_any is_slash (b ∷ folder ++ 47 ∷ file)) _ _ (has_slash (b ∷ folder) file) ∙ file_after folder file free

pub file_cut : (name folder file : List ℕ) → name ≡ folder ++ 47 ∷ file → IsName file → file ≡ after_slashes name
file_cut name folder file is free = sym (ap after_slashes is ∙ file_after folder file free)

-- what is before the slash has the length of all without the file and the slash
before_slash : (folder file : List ℕ) → IsName file → take (length (folder ++ 47 ∷ file) - length (after_slashes (folder ++ 47 ∷ file)) - 1) (folder ++ 47 ∷ file) ≡ folder
before_slash folder file free =
    let count : length (folder ++ 47 ∷ file) - length (after_slashes (folder ++ 47 ∷ file)) - 1 ≡ length folder =
    omega (arith, length-append folder (47 ∷ file), ap length (file_after folder file free)) in
    ap (λ n. take n (folder ++ 47 ∷ file)) count ∙ take-append_seam folder (47 ∷ file)

pub folder_cut : (name folder file : List ℕ) → name ≡ folder ++ 47 ∷ file → IsName file → folder ≡ folder_in name
folder_cut name folder file is free =
    sym (ap folder_in is ∙ cond-true (list_any is_slash (folder ++ 47 ∷ file)) _ _ (has_slash folder file) ∙ before_slash folder file free)

pub folder_only : (name : List ℕ) → IsName name → codes "." ≡ folder_in name
folder_only name free = sym (cond-false (list_any is_slash name) _ _ (no_slash name free))
