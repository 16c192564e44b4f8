-- The first error of lines, as a relation.
use Rattle.crawl_sources.proofs.Prelude.{◌≡◌, ℕ, ◌+◌, List, [], ◌∷◌, ◌++◌, length, Option, Some, None, refl, sym, ap, ◌∙◌, arith, append_assoc, append-nil, length-append, option_or, line_error, first_error}
use Rattle.text_lines.specs.LeastError.{SoundAfter, IsLeastError}
use Rattle.crawl_sources.specs.SeedErrors.{error_after}
use Rattle.crawl_sources.specs.declared.seeds.SeedsError.{SeedsError}

none_first : (o later : Option SeedsError) → option_or o later ≡ None → (o ≡ None) × (later ≡ None)
none_first o later is = grind arith

pub sound_lines : (earlier lines : List (List ℕ)) (n : ℕ) → n ≡ length earlier + 1 → first_error n lines ≡ None → SoundAfter error_after earlier lines
sound_lines earlier [] n numbered is = tt
sound_lines earlier (line ∷ more) n numbered is =
    let both = none_first (line_error n line) (first_error (n + 1) more) is in
    (ap (λ k. line_error k line) (sym numbered) ∙ both.0, sound_lines (earlier ++ line ∷ []) more (n + 1) (omega (arith, length-append earlier (line ∷ []))) both.1)

-- the error of the first of these lines that has one, if they come after the earlier lines
record IsLeastAfter (earlier lines : List (List ℕ)) (error : SeedsError) : Type 0 where
  front : List (List ℕ)
  line : List ℕ
  rest : List (List ℕ)
  split : lines ≡ front ++ line ∷ rest
  sound : SoundAfter error_after earlier front
  fails : error_after (earlier ++ front) line ≡ Some error

here : (earlier : List (List ℕ)) (line : List ℕ) (more : List (List ℕ)) (error : SeedsError) → error_after earlier line ≡ Some error → IsLeastAfter earlier (line ∷ more) error
here earlier line more error is = record {
  front = [];
  line = line;
  rest = more;
  split = refl;
  sound = tt;
  fails = ap (λ e. error_after e line) (append-nil earlier) ∙ is;
}

later : (earlier : List (List ℕ)) (line : List ℕ) (more : List (List ℕ)) (error : SeedsError) → error_after earlier line ≡ None → IsLeastAfter (earlier ++ line ∷ []) more error → IsLeastAfter earlier (line ∷ more) error
later earlier line more error passes k = record {
  front = line ∷ k.front;
  line = k.line;
  rest = k.rest;
  split = ap (λ ls. line ∷ ls) k.split;
  sound = (passes, k.sound);
  fails = ap (λ e. error_after e k.line) (sym (append_assoc earlier (line ∷ []) k.front)) ∙ k.fails;
}

either : (o : Option SeedsError) (earlier : List (List ℕ)) (line : List ℕ) (more : List (List ℕ)) (n : ℕ) (error : SeedsError) → error_after earlier line ≡ o → option_or o (first_error (n + 1) more) ≡ Some error → (first_error (n + 1) more ≡ Some error → IsLeastAfter (earlier ++ line ∷ []) more error) → IsLeastAfter earlier (line ∷ more) error
either o earlier line more n error at is rest = grind (arith, later, here)

later_error : (earlier lines : List (List ℕ)) (n : ℕ) (error : SeedsError) → n ≡ length earlier + 1 → first_error n lines ≡ Some error → IsLeastAfter earlier lines error
later_error earlier [] n error numbered is = absurd (cc)
later_error earlier (line ∷ more) n error numbered is =
    either (line_error n line) earlier line more n error (ap (λ k. line_error k line) (sym numbered)) is
    (later_error (earlier ++ line ∷ []) more (n + 1) error (omega (arith, length-append earlier (line ∷ []))))

pub least_error : (lines : List (List ℕ)) (error : SeedsError) → first_error 1 lines ≡ Some error → IsLeastError error_after lines error
least_error lines error is =
    let k = later_error [] lines 1 error refl is in
    record { front = k.front; line = k.line; rest = k.rest; split = k.split; sound = k.sound; fails = k.fails }
