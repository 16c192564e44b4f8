-- What comes before the settings in the first line of a log is read as it was written.
use Rattle.crawl_session.proofs.Prelude.{◌≡◌, ℕ, ◌<◌, ◌^◌, true, false, not, List, [], ◌∷◌, ◌++◌, codes, Option, Some, None, option_and_then, IfSome, refl, ap, ◌∙◌, arith, append_assoc, nat_tests, decimal, list_all, option_map, bytes_eq, IsNumber, at_space-joined, at_space-number, number_of_is, is_space, settings_line}
use Rattle.crawl_replay.specs.Numbers.{number_of}
use Rattle.crawl_session.specs.LogStarts.{identity_read, identity_text, part_in, part_text, read_part, read_start, start_text, value_in, value_of}
use Rattle.crawl_session.proofs.Logs.{front_of, number_printed}

-- ---- what other words begin

settings_other : (word : List ℕ) (workers max : ℕ) (suffixes : List (List ℕ)) → bytes_eq (codes "workers") word ≡ false → bytes_eq (codes "within") word ≡ false → value_of word (settings_line workers max suffixes) ≡ None
settings_other word workers max [] first second = grind (arith, at_space-joined, front_of)
settings_other word workers max (suffix ∷ more) first second = grind (arith, at_space-joined, front_of)

-- ---- the identity

identity_form : (text more : List ℕ) → identity_text (Some text) ++ more ≡ codes "identity" ++ 32 ∷ (text ++ 32 ∷ more)
identity_form text more = append_assoc (codes "identity " ++ text) (codes " ") more ∙ append_assoc (codes "identity ") text (32 ∷ more)

identity_back : (identity : Option (List ℕ)) (workers max : ℕ) (suffixes : List (List ℕ)) → IfSome identity (λ text. list_all (λ b. not (is_space b)) text ≡ true)
    → identity_read (identity_text identity ++ settings_line workers max suffixes) (value_of (codes "identity") (identity_text identity ++ settings_line workers max suffixes)) ≡ (identity, settings_line workers max suffixes)
identity_back identity workers max suffixes good = grind (arith, settings_other, identity_form, option_and_then, at_space-joined)

-- ---- the part

part_form : (i k : ℕ) (more : List ℕ) → part_text (Some (i, k)) ++ more ≡ codes "part" ++ 32 ∷ (decimal i ++ 32 ∷ (codes "of" ++ 32 ∷ (decimal k ++ 32 ∷ more)))
part_form i k more = grind (arith, append_assoc)

small : (n : ℕ) → n < 2 ^ 32 → IsNumber 32 n (decimal n)
small n fits = number_printed 32 n (omega (arith, fits)) fits

part_some : (i k : ℕ) (more : List ℕ) → i < 2 ^ 32 → k < 2 ^ 32 → part_in (part_text (Some (i, k)) ++ more) ≡ Some (i, (k, more))
part_some i k more first second =
    let following = codes "of" ++ 32 ∷ (decimal k ++ 32 ∷ more) in
    let one : value_of (codes "part") (codes "part" ++ 32 ∷ (decimal i ++ 32 ∷ following)) ≡ Some (decimal i, following) =
    ap (option_and_then (value_in (codes "part"))) (at_space-joined (codes "part" ++ 32 ∷ (decimal i ++ 32 ∷ following)) (codes "part") (decimal i ++ 32 ∷ following) refl refl)
    ∙ at_space-number (decimal i ++ 32 ∷ following) (decimal i) following (small i first).digits refl in
    let two : value_of (codes "of") following ≡ Some (decimal k, more) =
    ap (option_and_then (value_in (codes "of"))) (at_space-joined following (codes "of") (decimal k ++ 32 ∷ more) refl refl)
    ∙ at_space-number (decimal k ++ 32 ∷ more) (decimal k) more (small k second).digits refl in
    ap part_in (part_form i k more)
    ∙ ap (option_and_then (λ (a : List ℕ × List ℕ). option_and_then (λ (b : List ℕ × List ℕ). option_and_then (λ number. option_map (λ parts. (number, (parts, b.1))) (number_of 32 b.0)) (number_of 32 a.0)) (value_of (codes "of") a.1))) one
    ∙ ap (option_and_then (λ (b : List ℕ × List ℕ). option_and_then (λ number. option_map (λ parts. (number, (parts, b.1))) (number_of 32 b.0)) (number_of 32 (decimal i)))) two
    ∙ ap (option_and_then (λ number. option_map (λ parts. (number, (parts, more))) (number_of 32 (decimal k)))) (number_of_is 32 (decimal i) i (small i first))
    ∙ ap (option_map (λ parts. (i, (parts, more)))) (number_of_is 32 (decimal k) k (small k second))

no_part : (identity : Option (List ℕ)) (workers max : ℕ) (suffixes : List (List ℕ)) → value_of (codes "part") (identity_text identity ++ settings_line workers max suffixes) ≡ None
no_part identity workers max suffixes = grind (arith, settings_other, identity_form, option_and_then, at_space-joined)

part_back : (part : Option (ℕ × ℕ)) (identity : Option (List ℕ)) (workers max : ℕ) (suffixes : List (List ℕ)) → IfSome part (λ p. (p.0 < 2 ^ 32) × (p.1 < 2 ^ 32))
    → read_part (start_text part identity ++ settings_line workers max suffixes) ≡ (part, identity_text identity ++ settings_line workers max suffixes)
part_back None identity workers max suffixes fits = grind (arith, nat_tests, option_and_then, no_part, append_assoc, part_some)
part_back (Some p) identity workers max suffixes fits = grind (arith, nat_tests, option_and_then, no_part, append_assoc, part_some)

pub starts_back : (part : Option (ℕ × ℕ)) (identity : Option (List ℕ)) (workers max : ℕ) (suffixes : List (List ℕ)) → IfSome part (λ p. (p.0 < 2 ^ 32) × (p.1 < 2 ^ 32)) → IfSome identity (λ text. list_all (λ b. not (is_space b)) text ≡ true)
    → read_start (start_text part identity ++ settings_line workers max suffixes) ≡ (part, (identity, settings_line workers max suffixes))
starts_back part identity workers max suffixes fits good = grind (arith, part_back, identity_back)
