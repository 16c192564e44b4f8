-- If lines pass all checks, they have no error; otherwise they have one.
use Rattle.saved_web.proofs.Prelude.{◌≡◌, ℕ, List, [], ◌∷◌, ◌++◌, Option, Some, None, Ok, Err, refl, sym, ap, subst, ◌∙◌, append_assoc, append-nil, arith, option_or, IsRefusal, SoundAfter, IsLeastError, error_after, IsSound, IsWebError, IsWebRefusal, WebError}
use Rattle.saved_pages.specs.declared.error.WebError.TheVariants as wrong

-- the error of the first of these lines that has one, if they come after the earlier lines
first_error : List (List ℕ) → List (List ℕ) → Option WebError
first_error earlier [] = None
first_error earlier (line ∷ more) = option_or (error_after earlier line) (first_error (earlier ++ line ∷ []) more)

error_of_sound : (earlier all : List (List ℕ)) → SoundAfter error_after earlier all → first_error earlier all ≡ None
unfolding first_error
error_of_sound earlier [] sound = refl
error_of_sound earlier (line ∷ more) sound = rw sound.0 (error_of_sound (earlier ++ line ∷ []) more sound.1)

error_of_least : (earlier front : List (List ℕ)) (line : List ℕ) (rest : List (List ℕ)) (error : WebError) → SoundAfter error_after earlier front → error_after (earlier ++ front) line ≡ Some error → first_error earlier (front ++ line ∷ rest) ≡ Some error
unfolding first_error
error_of_least earlier [] line rest error sound fails = rw (rw append-nil at fails) refl
error_of_least earlier (x ∷ front) line rest error sound fails =
    let P : List (List ℕ) → Type 0 = λ e. error_after e line ≡ Some error in
    rw sound.0 (error_of_least (earlier ++ x ∷ []) front line rest error sound.1 (subst P (sym (append_assoc earlier (x ∷ []) front)) fails))

least_error : (all : List (List ℕ)) (error : WebError) → IsLeastError error_after all error → first_error [] all ≡ Some error
least_error all error least =
    ap (first_error []) least.split ∙ error_of_least [] least.front least.line least.rest error least.sound least.fails

one_error : (all : List (List ℕ)) (other error : WebError) → IsWebError all other → IsWebError all error → other ≡ error
one_error all other error a b = grind (arith, least_error)

pub no_error : (all : List (List ℕ)) (error : WebError) → IsSound all → IsWebError all error → ⊥
no_error all error sound is = grind (arith, error_of_sound, least_error)

pub only_memory : {A : Type 0} (all : List (List ℕ)) (value : A) (other : WebError) → IsWebRefusal all other → IsSound all → IsRefusal wrong.NoMemory (Ok value) other
only_memory all value other h3 sound = grind (arith, no_error)

pub same_error : {A : Type 0} (all : List (List ℕ)) (other error : WebError) → IsWebRefusal all other → IsWebError all error → IsRefusal {A = A} wrong.NoMemory (Err error) other
same_error all other error h3 expected = grind (arith, one_error)
