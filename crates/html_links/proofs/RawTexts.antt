-- The machine of raw text over runs.
use Rattle.html_links.proofs.Prelude.{common_steps, ◌≡◌, ℕ, ◌<◌, ◌≤◌, ◌==◌, ◌&&◌, Bool, false, not, cond, List, [], ◌∷◌, ◌++◌, length, map, Option, None, Some, refl, ap, sym, ◌∙◌, arith, append-nil, cond-false, not-true, to_ascii_lowercase, bytes_eq, is_letter, front, following, Stopped}
use Rattle.html_links.specs.RawText.{Text, LessThan, EndTagOpen, EndTagName, Next, Ends, text_step, follow, run, ends_at}
use Rattle.html_links.proofs.Jumps.{stopped, shorter}

to_less : (name bytes : List ℕ) → run name Text bytes ≡ run name Text (following (λ c. not (c == 60)) bytes)
to_less name [] = refl
to_less name (c ∷ rest) = grind (arith, cond-false, not-true, to_less name rest)

pub read_less : (name bytes opened : List ℕ) → 60 ∷ opened ≡ following (λ c. not (c == 60)) bytes → run name Text bytes ≡ run name LessThan opened
read_less name bytes opened cut = to_less name bytes ∙ ap (run name Text) (sym cut)

pub read_no_less : (name bytes : List ℕ) → following (λ c. not (c == 60)) bytes ≡ [] → run name Text bytes ≡ None
read_no_less name bytes none = to_less name bytes ∙ ap (run name Text) none

pub no_slash : (name bytes : List ℕ) → Stopped (λ c. c == 47) bytes → run name LessThan bytes ≡ run name Text bytes
no_slash name bytes slash = grind (arith, cond-false)

-- the letters of an end tag's name

letters_at : (name so_far : List ℕ) (b : Bool) (c : ℕ) (rest some more : List ℕ) → is_letter c ≡ b →
    run name (EndTagName (so_far ++ to_ascii_lowercase c ∷ [])) rest ≡ run name (EndTagName ((so_far ++ to_ascii_lowercase c ∷ []) ++ map to_ascii_lowercase some)) more →
    run name (EndTagName so_far) (c ∷ rest) ≡ run name (EndTagName (so_far ++ map to_ascii_lowercase (cond b (c ∷ some) []))) (cond b more (c ∷ rest))
letters_at name so_far b c rest some more letter later = grind (arith, common_steps, append-nil)

letters : (name so_far bytes : List ℕ) → run name (EndTagName so_far) bytes ≡ run name (EndTagName (so_far ++ map to_ascii_lowercase (front is_letter bytes))) (following is_letter bytes)
letters name so_far [] = refl
letters name so_far (c ∷ rest) = letters_at name so_far (is_letter c) c rest (front is_letter rest) (following is_letter rest) refl (letters name (so_far ++ to_ascii_lowercase c ∷ []) rest)

-- after the letters

ended_by : (name so_far rest : List ℕ) (c : ℕ) (go : Next) (b ends same : Bool) → b ≡ false →
    follow (cond b go (cond ends (cond same Ends (text_step c)) (text_step c))) (λ state. run name state rest) (c ∷ rest) ≡ cond (ends && same) (Some (c ∷ rest)) (run name Text (c ∷ rest))
ended_by name so_far rest c go b ends same e = grind arith

ended : (name so_far bytes : List ℕ) → Stopped is_letter bytes → run name (EndTagName so_far) bytes ≡ cond (ends_at bytes && bytes_eq so_far name) (Some bytes) (run name Text bytes)
ended name so_far bytes stops = grind (arith, ended_by)

abbrev decided : List ℕ → List ℕ → List ℕ → Option (List ℕ)
decided name found more = cond (ends_at more && bytes_eq (map to_ascii_lowercase found) name) (Some more) (run name Text more)

and_false : (b : Bool) (x y : Option (List ℕ)) → y ≡ cond (b && false) x y
and_false b x y = grind arith

none_found : (name : List ℕ) (c : ℕ) (rest : List ℕ) → 0 < length name → run name Text (c ∷ rest) ≡ decided name [] (c ∷ rest)
none_found name c rest some = grind (arith, and_false)

opened_end : (name bytes : List ℕ) → 0 < length name → run name EndTagOpen bytes ≡ decided name (front is_letter bytes) (following is_letter bytes)
opened_end name [] some = refl
opened_end name (c ∷ rest) some = grind (arith, letters, ended, stopped, none_found)

pub read_end : (name opened slashed found more : List ℕ) (b : Bool) → 0 < length name → opened ≡ 47 ∷ slashed → found ≡ front is_letter slashed → more ≡ following is_letter slashed →
    (ends_at more && bytes_eq (map to_ascii_lowercase found) name) ≡ b → run name LessThan opened ≡ cond b (Some more) (run name Text more)
read_end name opened slashed found more b some is letters_are rest_is test = grind (arith, opened_end)

pub raw_less : (bytes opened slashed more : List ℕ) → 60 ∷ opened ≡ following (λ c. not (c == 60)) bytes → opened ≡ 47 ∷ slashed → more ≡ following is_letter slashed → length more < length bytes
raw_less bytes opened slashed more cut is rest_is =
    let a : length (60 ∷ opened) ≡ length (following (λ c. not (c == 60)) bytes) = ap length cut in
    let le : length (following (λ c. not (c == 60)) bytes) ≤ length bytes = shorter (λ c. not (c == 60)) bytes in
    let b : length opened ≡ length (47 ∷ slashed) = ap length is in
    let c : length more ≡ length (following is_letter slashed) = ap length rest_is in
    let ge : length (following is_letter slashed) ≤ length slashed = shorter is_letter slashed in
    omega arith

pub opened_less : (bytes opened : List ℕ) → 60 ∷ opened ≡ following (λ c. not (c == 60)) bytes → length opened < length bytes
opened_less bytes opened cut =
    let a : length (60 ∷ opened) ≡ length (following (λ c. not (c == 60)) bytes) = ap length cut in
    let le : length (following (λ c. not (c == 60)) bytes) ≤ length bytes = shorter (λ c. not (c == 60)) bytes in
    omega arith
