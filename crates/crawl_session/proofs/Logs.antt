-- Logs: what they give back, and their first lines.
use Rattle.crawl_session.proofs.Prelude.{◌≡◌, ℕ, ◌<◌, ◌≤◌, ◌^◌, Bool, true, not, if◌then◌else◌, List, [], ◌∷◌, ◌++◌, length, nat_lt, codes, Option, Some, None, option_and_then, refl, sym, ap, subst, ◌∙◌, arith, append_assoc, append-nil, decimal, All, list_all, bytes_eq, and_parts, flat_map-append, get_or_default_zero, All-head, All-tail, bytes_eq-Decides, AreLimits, header_of, IsNumber, at_space-joined, joined-at_space, at_space, is_space, within_text, numbers_text, settings_line, suffix_from, next_suffix}
use Rattle.std.proofs.lemmas.Fmt.{decimal_is_IsNumeral, length-decimal-le}
use Rattle.std.proofs.lemmas.Str.Parse.{digit_at}
use Rattle.crawl_keys.specs.HostFilter.{is_good, is_suffix_byte}
use Rattle.crawl_replay.specs.declared.script.header.Header.{Header}
use Rattle.crawl_replay.proofs.HeaderFields.{header_said}

-- ---- the first line

all_apart : (text : List ℕ) → list_all is_suffix_byte text ≡ true → list_all (λ b. not (is_space b)) text ≡ true
all_apart [] e = refl
all_apart (x ∷ xs) e = grind (arith, and_parts, all_apart xs)

abbrev IsGood : List ℕ → Type 0
IsGood suffix = is_good suffix ≡ true

next_some : (suffix more : List ℕ) → IsGood suffix → next_suffix (codes "within " ++ (suffix ++ (codes " " ++ more))) ≡ Some (suffix, more)
next_some suffix more good =
    let word = all_apart suffix (and_parts (nat_lt 0 (length suffix)) (list_all is_suffix_byte suffix) good).1 in
    ap (option_and_then suffix_from) (at_space-joined (codes "within " ++ (suffix ++ (codes " " ++ more))) (codes "within") (suffix ++ 32 ∷ more) refl refl)
    ∙ at_space-joined (suffix ++ 32 ∷ more) suffix more word refl

next_none : (workers max : ℕ) → next_suffix (numbers_text workers max) ≡ None
next_none workers max = grind arith

-- the line was read up to `rest`, with the suffixes `so_far`; if it was written with some suffixes, these are the first of them
pub record Reads (line : List ℕ) (so_far : List (List ℕ)) (rest : List ℕ) : Type 0 where
  pub written : line ≡ within_text so_far ++ rest
  pub follows : (workers max : ℕ) (suffixes : List (List ℕ)) → All IsGood suffixes → line ≡ settings_line workers max suffixes
      → (back : List (List ℕ)) × (suffixes ≡ so_far ++ back) × (All IsGood back × (rest ≡ settings_line workers max back))

pub front_of : (suffix : List ℕ) (more : List (List ℕ)) (rest : List ℕ) → within_text (suffix ∷ more) ++ rest ≡ codes "within " ++ (suffix ++ (codes " " ++ (within_text more ++ rest)))
front_of suffix more rest = grind (arith, append_assoc)

from_word : (p : List ℕ × List ℕ) (b : Bool) (found : List ℕ × List ℕ) → bytes_eq p.0 (codes "within") ≡ b → (if b then at_space p.1 else None) ≡ Some found → (bytes_eq p.0 (codes "within") ≡ true) × (at_space p.1 ≡ Some found)
from_word p b found is e = grind arith

-- the text begins with `within`, a space, the suffix that is cut from it, and a space
next_holds : (text suffix more : List ℕ) (p : Option (List ℕ × List ℕ)) → at_space text ≡ p → option_and_then suffix_from p ≡ Some (suffix, more) → text ≡ codes "within " ++ (suffix ++ (codes " " ++ more))
next_holds text suffix more None cut e = absurd (cc)
next_holds text suffix more (Some p) cut e =
    let both = from_word p (bytes_eq p.0 (codes "within")) (suffix, more) refl e in
    let word = (bytes_eq-Decides p.0 (codes "within")).0 both.0 in
    joined-at_space text p cut ∙ ap (λ w. w ++ 32 ∷ p.1) word ∙ ap (λ r. codes "within " ++ r) (joined-at_space p.1 (suffix, more) both.1)

step_back : (workers max : ℕ) (suffixes so_far back : List (List ℕ)) (rest suffix more : List ℕ) → next_suffix rest ≡ Some (suffix, more) → suffixes ≡ so_far ++ back → All IsGood back → rest ≡ settings_line workers max back
    → (others : List (List ℕ)) × (suffixes ≡ (so_far ++ suffix ∷ []) ++ others) × (All IsGood others × (more ≡ settings_line workers max others))
step_back workers max suffixes so_far [] rest suffix more next are good is = absurd (let none : next_suffix rest ≡ None = ap next_suffix is ∙ next_none workers max in cc)
step_back workers max suffixes so_far (b ∷ bs) rest suffix more next are good is =
    let cut : next_suffix rest ≡ Some (b, settings_line workers max bs) =
    ap next_suffix (is ∙ front_of b bs (numbers_text workers max)) ∙ next_some b (settings_line workers max bs) (All-head IsGood b bs good) in
    let same : (suffix, more) ≡ (b, settings_line workers max bs) = cc in
    let first : suffix ≡ b = ap (λ (p : List ℕ × List ℕ). p.0) same in (
      bs,
      are ∙ ap (λ s. so_far ++ s ∷ bs) (sym first) ∙ sym (append_assoc so_far (suffix ∷ []) bs),
      (All-tail IsGood b bs good, ap (λ (p : List ℕ × List ℕ). p.1) same),
    )

pub reads_more : (line : List ℕ) (so_far : List (List ℕ)) (rest suffix more : List ℕ) → Reads line so_far rest → next_suffix rest ≡ Some (suffix, more) → Reads line (so_far ++ suffix ∷ []) more
reads_more line so_far rest suffix more reads next = record {
  written =
      reads.written ∙ ap (λ r. within_text so_far ++ r) (next_holds rest suffix more (at_space rest) refl next ∙ sym (front_of suffix [] more))
      ∙ sym (append_assoc (within_text so_far) (within_text (suffix ∷ [])) more)
      ∙ ap (λ t. t ++ more) (sym (flat_map-append (λ (s : List ℕ). codes "within " ++ s ++ codes " ") so_far (suffix ∷ [])));
  follows = λ workers max suffixes good is.
      let so = reads.follows workers max suffixes good is in
      step_back workers max suffixes so_far so.0 rest suffix more next so.1 so.2.0 so.2.1;
}

-- the numbers that were printed are read
pub number_printed : (bits n : ℕ) → n < 2 ^ 64 → n < 2 ^ bits → IsNumber bits n (decimal n)
number_printed bits n wide fits =
    let numeral = decimal_is_IsNumeral n wide in record {
      digits = λ k d inside. subst (λ b. (48 ≤ b) × (b ≤ 57)) (sym (get_or_default_zero (decimal n) k d inside)) (digit_at (decimal n) k numeral.0.1 inside);
      some = omega (arith, numeral.0.0);
      few = length-decimal-le 20 n (omega arith) (omega (arith, wide)) wide;
      means = numeral.1;
      fits = fits;
    }

numbers_form : (workers max : ℕ) → numbers_text workers max ≡ codes "workers" ++ (codes " " ++ (decimal workers ++ (codes " max" ++ (codes " " ++ decimal max))))
numbers_form workers max = grind (arith, append_assoc)

header_printed : (workers max : ℕ) → AreLimits workers max → header_of (numbers_text workers max) ≡ Some (record { workers = workers; max = max })
header_printed workers max limits =
    header_said workers max (numbers_text workers max) (record {
      first = decimal workers;
      second = decimal max;
      written = numbers_form workers max;
      workers_are = number_printed 32 workers (omega (arith, limits.few_workers)) (omega (arith, limits.few_workers));
      max_is = number_printed 64 max (omega (arith, limits.few_pending)) (omega (arith, limits.few_pending));
      within = limits;
    })

-- at the end of the suffixes
pub reads_all : (line : List ℕ) (so_far : List (List ℕ)) (rest : List ℕ) → Reads line so_far rest → next_suffix rest ≡ None → (workers max : ℕ) (suffixes : List (List ℕ)) → AreLimits workers max → All IsGood suffixes → line ≡ settings_line workers max suffixes
    → (header_of rest ≡ Some (record { workers = workers; max = max })) × (so_far ≡ suffixes)
reads_all line so_far rest reads next workers max suffixes limits good is = let so = reads.follows workers max suffixes good is in by_back so.0 so.1 so.2.1 so.2.0
  where
    by_back : (back : List (List ℕ)) → suffixes ≡ so_far ++ back → rest ≡ settings_line workers max back → All IsGood back → (header_of rest ≡ Some (record { workers = workers; max = max })) × (so_far ≡ suffixes)
    by_back [] are at are_good = (ap header_of at ∙ header_printed workers max limits, sym (are ∙ append-nil so_far))
    by_back (b ∷ bs) are at are_good =
        absurd (let cut : next_suffix rest ≡ Some (b, settings_line workers max bs) =
        ap next_suffix (at ∙ front_of b bs (numbers_text workers max)) ∙ next_some b (settings_line workers max bs) (All-head IsGood b bs are_good) in
        cc)

pub back_some : (line : List ℕ) (so_far : List (List ℕ)) (rest : List ℕ) (header : Header) → Reads line so_far rest → next_suffix rest ≡ None → header_of rest ≡ Some header → (workers max : ℕ) (suffixes : List (List ℕ)) → AreLimits workers max → All IsGood suffixes → line ≡ settings_line workers max suffixes
    → (header.workers ≡ workers) × ((header.max ≡ max) × (so_far ≡ suffixes))
back_some line so_far rest header reads next found workers max suffixes limits good is =
    let all = reads_all line so_far rest reads next workers max suffixes limits good is in
    let made : Header = record { workers = workers; max = max } in
    let both : Some header ≡ Some made = sym found ∙ all.0 in
    let same : header ≡ made = cc in
    (ap (λ (h : Header). h.workers) same, (ap (λ (h : Header). h.max) same, all.1))

pub back_none : (line : List ℕ) (so_far : List (List ℕ)) (rest : List ℕ) → Reads line so_far rest → next_suffix rest ≡ None → header_of rest ≡ None → (workers max : ℕ) (suffixes : List (List ℕ)) → AreLimits workers max → All IsGood suffixes → line ≡ settings_line workers max suffixes → ⊥
back_none line so_far rest reads next found workers max suffixes limits good is =
    let all = reads_all line so_far rest reads next workers max suffixes limits good is in
    let made : Header = record { workers = workers; max = max } in
    let both : None ≡ Some made = sym found ∙ all.0 in
    absurd (cc)
