-- Texts by their runs: the comparison of the program is that of the definition.
use Rattle.check_report.proofs.Prelude.{◌≡◌, ℕ, ◌+◌, ◌-◌, ◌*◌, ◌<◌, ◌≤◌, Bool, true, false, ◌&&◌, List, [], ◌∷◌, drop, length, take, max, slice_index, suc, refl, sym, ap, ◌∙◌, arith, inl, inr, Some, and_parts, cond-false, cond-true, cases_Bool, cases_lt, cases_order, eqb-true, eqb-false, nat_tests, list_all, length-drop, length-prefix_len, prefix_len}
use Rattle.shown_text.proofs.Pieces.{front_passes}
use Rattle.std.specs.List.{take_while}
use Rattle.std.specs.Ordering.{nat_cmp, ordering_then}
use Rattle.std.specs.declared.cmp.Ordering.{Ordering}
use Rattle.std.specs.declared.cmp.Ordering.TheVariants.{Less, Equal, Greater}
use Rattle.std.specs.Cmp.Lexicographic.{slice_cmp}
use Rattle.check_report.specs.Natural.{after_run, is_digit, is_zero, number_from, runs_from, runs_of}

-- ---- the elements at the start that pass a test

len_yes : (p : ℕ → Bool) (x : ℕ) (xs : List ℕ) → p x ≡ true → prefix_len p (x ∷ xs) ≡ suc (prefix_len p xs)
len_yes p x xs is = cond-true (p x) (1 + prefix_len p xs) 0 is ∙ one_more (prefix_len p xs)
  where
    one_more : (n : ℕ) → 1 + n ≡ suc n
    one_more n = omega arith

len_no : (p : ℕ → Bool) (x : ℕ) (xs : List ℕ) → p x ≡ false → prefix_len p (x ∷ xs) ≡ 0
len_no p x xs other = cond-false (p x) (1 + prefix_len p xs) 0 other

pub kept_front : (p : ℕ → Bool) (text : List ℕ) (k : ℕ) → k ≡ length (take_while p text) → take k text ≡ take_while p text
kept_front p text k is = ap (λ n. take n text) (is ∙ length-prefix_len p text)

pub cut_front : (p : ℕ → Bool) (text : List ℕ) (k : ℕ) → k ≡ length (take_while p text) → drop k text ≡ drop (prefix_len p text) text
cut_front p text k is = ap (λ n. drop n text) (is ∙ length-prefix_len p text)

-- ---- numbers

digit_range : (b : ℕ) → is_digit b ≡ true → (48 ≤ b) × (b ≤ 57)
digit_range b is = grind (arith, nat_tests)

other_range : (b : ℕ) → is_digit b ≡ false → (48 ≤ b → 57 < b)
other_range b is = grind (arith, nat_tests)

first_digit : (b : ℕ) (bs : List ℕ) → list_all is_digit (b ∷ bs) ≡ true → is_digit b ≡ true
first_digit b bs all = (and_parts (is_digit b) (list_all is_digit bs) all).0

more_digits : (b : ℕ) (bs : List ℕ) → list_all is_digit (b ∷ bs) ≡ true → list_all is_digit bs ≡ true
more_digits b bs all = (and_parts (is_digit b) (list_all is_digit bs) all).1

-- a greater number so far, and no fewer digits
less_number : (m n : ℕ) (us vs : List ℕ) → list_all is_digit us ≡ true → list_all is_digit vs ≡ true → m < n → length us ≤ length vs → number_from m us < number_from n vs
less_number m n [] [] left right less short = less
less_number m n (u ∷ us) [] left right less short = absurd (omega arith)
less_number m n [] (v ∷ vs) left right less short =
    less_number m (n * 10 + (v - 48)) [] vs left (more_digits v vs right) (omega arith) (omega arith)
less_number m n (u ∷ us) (v ∷ vs) left right less short =
    let range = digit_range u (first_digit u us left) in
    less_number (m * 10 + (u - 48)) (n * 10 + (v - 48)) us vs (more_digits u us left) (more_digits v vs right) (omega arith) (omega arith)

is_less : (m n : ℕ) → m < n → nat_cmp m n ≡ Less
is_less m n less = grind (arith, nat_tests)

is_greater : (m n : ℕ) → n < m → nat_cmp m n ≡ Greater
is_greater m n less = grind (arith, nat_tests)

is_equal : (m n : ℕ) → m ≡ n → nat_cmp m n ≡ Equal
is_equal m n same = grind (arith, nat_tests)

-- the same number so far, and digits of the same count: the first ones that differ decide
long_number : (n : ℕ) (us vs : List ℕ) → list_all is_digit us ≡ true → list_all is_digit vs ≡ true → length us ≡ length vs → nat_cmp (number_from n us) (number_from n vs) ≡ slice_cmp nat_cmp us vs
long_number n [] [] left right long = is_equal n n refl
long_number n (u ∷ us) [] left right long = absurd (omega arith)
long_number n [] (v ∷ vs) left right long = absurd (omega arith)
long_number n (u ∷ us) (v ∷ vs) left right long =
    let one = digit_range u (first_digit u us left) in
    let other = digit_range v (first_digit v vs right) in
    elim (cases_order u v) [
      | inl same ↦
          ap (λ k. nat_cmp (number_from (n * 10 + (u - 48)) us) (number_from (n * 10 + (k - 48)) vs)) (sym same)
          ∙ long_number (n * 10 + (u - 48)) us vs (more_digits u us left) (more_digits v vs right) (omega arith)
          ∙ sym (ap (λ o. ordering_then o (slice_cmp nat_cmp us vs)) (is_equal u v same))
      | inr (inl less) ↦
          is_less _ _ (less_number (n * 10 + (u - 48)) (n * 10 + (v - 48)) us vs (more_digits u us left) (more_digits v vs right) (omega arith) (omega arith))
          ∙ sym (ap (λ o. ordering_then o (slice_cmp nat_cmp us vs)) (is_less u v less))
      | inr (inr greater) ↦
          is_greater _ _ (less_number (n * 10 + (v - 48)) (n * 10 + (u - 48)) vs us (more_digits v vs right) (more_digits u us left) (omega arith) (omega arith))
          ∙ sym (ap (λ o. ordering_then o (slice_cmp nat_cmp us vs)) (is_greater u v greater))
    ]

-- ---- without leading zeros

abbrev pub trimmed : List ℕ → List ℕ
trimmed ds = drop (prefix_len is_zero ds) ds

trimmed_digits : (ds : List ℕ) → list_all is_digit ds ≡ true → list_all is_digit (trimmed ds) ≡ true
trimmed_digits [] all = refl
trimmed_digits (d ∷ ds) all = elim (cases_Bool (is_zero d)) [
  | inl is ↦ ap (λ k. list_all is_digit (drop k (d ∷ ds))) (len_yes is_zero d ds is) ∙ trimmed_digits ds (more_digits d ds all)
  | inr other ↦ ap (λ k. list_all is_digit (drop k (d ∷ ds))) (len_no is_zero d ds other) ∙ all
]

trimmed_number : (ds : List ℕ) → number_from 0 (trimmed ds) ≡ number_from 0 ds
trimmed_number [] = refl
trimmed_number (d ∷ ds) = elim (cases_Bool (is_zero d)) [
  | inl is ↦
      ap (λ k. number_from 0 (drop k (d ∷ ds))) (len_yes is_zero d ds is) ∙ trimmed_number ds
      ∙ ap (λ k. number_from k ds) (nothing d (eqb-true d 48 is))
  | inr other ↦ ap (λ k. number_from 0 (drop k (d ∷ ds))) (len_no is_zero d ds other)
]
  where
    nothing : (d : ℕ) → d ≡ 48 → 0 ≡ 0 * 10 + (d - 48)
    nothing d is = omega arith

-- no zero is first
trimmed_first : (ds : List ℕ) (d : ℕ) (rest : List ℕ) → trimmed ds ≡ d ∷ rest → is_zero d ≡ false
trimmed_first [] d rest is = cc
trimmed_first (x ∷ xs) d rest is = elim (cases_Bool (is_zero x)) [
  | inl zeros ↦ trimmed_first xs d rest (sym (ap (λ k. drop k (x ∷ xs)) (len_yes is_zero x xs zeros)) ∙ is)
  | inr other ↦
      let same : x ∷ xs ≡ d ∷ rest = sym (ap (λ k. drop k (x ∷ xs)) (len_no is_zero x xs other)) ∙ is in
      let head : x ≡ d = cc in ap is_zero (sym head) ∙ other
]

-- more digits, and no zero first
longer_number : (us vs : List ℕ) → list_all is_digit us ≡ true → list_all is_digit vs ≡ true → ((v : ℕ) (rest : List ℕ) → vs ≡ v ∷ rest → is_zero v ≡ false) → length us < length vs → number_from 0 us < number_from 0 vs
longer_number us [] left right first long = absurd (omega arith)
longer_number us (v ∷ vs) left right first long =
    let range = digit_range v (first_digit v vs right) in
    let other = eqb-false v 48 (first v vs refl) in
    less_number 0 (0 * 10 + (v - 48)) us vs left (more_digits v vs right) (omega arith) (omega arith)

pub numbers_compared : (us vs : List ℕ) → list_all is_digit us ≡ true → list_all is_digit vs ≡ true →
    ordering_then (nat_cmp (length (trimmed us)) (length (trimmed vs))) (slice_cmp nat_cmp (trimmed us) (trimmed vs)) ≡ nat_cmp (number_from 0 us) (number_from 0 vs)
numbers_compared us vs left right =
    let one = trimmed_digits us left in
    let other = trimmed_digits vs right in
    let same = sym (λ i. nat_cmp (trimmed_number us i) (trimmed_number vs i)) in
    let after : Ordering → Ordering = λ o. ordering_then o (slice_cmp nat_cmp (trimmed us) (trimmed vs)) in
    elim (cases_order (length (trimmed us)) (length (trimmed vs))) [
      | inl long ↦ ap after (is_equal _ _ long) ∙ sym (long_number 0 (trimmed us) (trimmed vs) one other long) ∙ sym same
      | inr (inl less) ↦ ap after (is_less _ _ less) ∙ sym (is_less _ _ (longer_number (trimmed us) (trimmed vs) one other (trimmed_first vs) less)) ∙ sym same
      | inr (inr greater) ↦ ap after (is_greater _ _ greater) ∙ sym (is_greater _ _ (longer_number (trimmed vs) (trimmed us) other one (trimmed_first us) greater)) ∙ sym same
    ]

-- ---- the first run of a text

run_number : (n : ℕ) (text : List ℕ) → runs_from (Some n) text ≡ number_from n (take (prefix_len is_digit text) text) ∷ runs_of (drop (prefix_len is_digit text) text)
run_number n [] = refl
run_number n (b ∷ bs) = elim (cases_Bool (is_digit b)) [
  | inl digit ↦
      cond-true (is_digit b) _ _ digit ∙ run_number (n * 10 + (b - 48)) bs
      ∙ ap (λ k. number_from n (take k (b ∷ bs)) ∷ runs_of (drop k (b ∷ bs))) (sym (len_yes is_digit b bs digit))
  | inr other ↦
      cond-false (is_digit b) _ _ other ∙ ap (λ rs. n ∷ rs) (sym (cond-false (is_digit b) _ _ other))
      ∙ ap (λ k. number_from n (take k (b ∷ bs)) ∷ runs_of (drop k (b ∷ bs))) (sym (len_no is_digit b bs other))
]

-- a text that begins with a digit
digits_first : (b : ℕ) (bs : List ℕ) → is_digit b ≡ true → runs_of (b ∷ bs) ≡ 48 ∷ number_from 0 (take_while is_digit (b ∷ bs)) ∷ runs_of (after_run (b ∷ bs))
digits_first b bs digit =
    cond-true (is_digit b) _ _ digit ∙ ap (λ rs. 48 ∷ rs) (run_number (b - 48) bs)
    ∙ ap (λ k. 48 ∷ number_from k (take (prefix_len is_digit bs) bs) ∷ runs_of (drop (prefix_len is_digit bs) bs)) (nothing (b - 48))
    ∙ ap (λ k. 48 ∷ number_from 0 (take k (b ∷ bs)) ∷ runs_of (drop (prefix_len is_digit bs) bs)) (sym (len_yes is_digit b bs digit))
    ∙ ap (λ rest. 48 ∷ number_from 0 (take_while is_digit (b ∷ bs)) ∷ runs_of rest) (sym (cond-true (is_digit b) (drop (prefix_len is_digit bs) bs) bs digit))
  where
    nothing : (d : ℕ) → d ≡ 0 * 10 + d
    nothing d = omega arith

-- a text that begins with another byte
other_first : (b : ℕ) (bs : List ℕ) → is_digit b ≡ false → runs_of (b ∷ bs) ≡ b ∷ runs_of (after_run (b ∷ bs))
other_first b bs other = cond-false (is_digit b) _ _ other ∙ ap (λ rest. b ∷ runs_of rest) (sym (cond-false (is_digit b) _ _ other))

begins_digit : (b : ℕ) (bs : List ℕ) → 0 < length (take_while is_digit (b ∷ bs)) → is_digit b ≡ true
begins_digit b bs some = elim (cases_Bool (is_digit b)) [
  | inl digit ↦ digit
  | inr other ↦ absurd (omega (arith, some, ap (λ k. length (take k (b ∷ bs))) (len_no is_digit b bs other)))
]

begins_other : (b : ℕ) (bs : List ℕ) → length (take_while is_digit (b ∷ bs)) ≡ 0 → is_digit b ≡ false
begins_other b bs none = elim (cases_Bool (is_digit b)) [
  | inl digit ↦ absurd (omega (arith, none, ap (λ k. length (take k (b ∷ bs))) (len_yes is_digit b bs digit)))
  | inr other ↦ other
]

-- ---- two texts by their first runs

abbrev Compared : Ordering → List ℕ → List ℕ → Type 0
Compared order left right = slice_cmp nat_cmp (runs_of left) (runs_of right) ≡ ordering_then order (slice_cmp nat_cmp (runs_of (after_run left)) (runs_of (after_run right)))

both_numbers : (left right : List ℕ) → 0 < length (take_while is_digit left) → 0 < length (take_while is_digit right) → Compared (nat_cmp (number_from 0 (take_while is_digit left)) (number_from 0 (take_while is_digit right))) left right
both_numbers [] right one other = absurd (omega arith)
both_numbers (b ∷ bs) [] one other = absurd (omega arith)
both_numbers (b ∷ bs) (c ∷ cs) one other = λ i. slice_cmp nat_cmp (digits_first b bs (begins_digit b bs one) i) (digits_first c cs (begins_digit c cs other) i)

pub numbers_first : (left right one other : List ℕ) (order : Ordering) → one ≡ take_while is_digit left → other ≡ take_while is_digit right → 0 < length one → 0 < length other
    → order ≡ nat_cmp (number_from 0 one) (number_from 0 other) → Compared order left right
numbers_first left right one other order is_one is_other some more is =
    both_numbers left right (omega (arith, ap length is_one)) (omega (arith, ap length is_other))
    ∙ ap (λ o. ordering_then o (slice_cmp nat_cmp (runs_of (after_run left)) (runs_of (after_run right)))) (sym (is ∙ (λ i. nat_cmp (number_from 0 (is_one i)) (number_from 0 (is_other i)))))

-- a run of digits and another byte: their first bytes differ, and any digit decides as 48 does
number_byte : (b c : ℕ) (ms xs ys : List ℕ) → is_digit b ≡ true → is_digit c ≡ false → slice_cmp nat_cmp (48 ∷ ms) (c ∷ ys) ≡ ordering_then (nat_cmp b c) (slice_cmp nat_cmp xs ys)
number_byte b c ms xs ys digit other =
    let range = digit_range b digit in
    let after : Ordering → Ordering = λ o. ordering_then o (slice_cmp nat_cmp ms ys) in
    let same : Ordering → Ordering = λ o. ordering_then o (slice_cmp nat_cmp xs ys) in
    elim (cases_lt c 48) [
      | inl low ↦ ap after (is_greater 48 c low) ∙ sym (ap same (is_greater b c (omega arith)))
      | inr high ↦ let above = other_range c other high in ap after (is_less 48 c (omega arith)) ∙ sym (ap same (is_less b c (omega arith)))
    ]

byte_number : (b c : ℕ) (ns xs ys : List ℕ) → is_digit b ≡ false → is_digit c ≡ true → slice_cmp nat_cmp (b ∷ xs) (48 ∷ ns) ≡ ordering_then (nat_cmp b c) (slice_cmp nat_cmp xs ys)
byte_number b c ns xs ys other digit =
    let range = digit_range c digit in
    let after : Ordering → Ordering = λ o. ordering_then o (slice_cmp nat_cmp xs ns) in
    let same : Ordering → Ordering = λ o. ordering_then o (slice_cmp nat_cmp xs ys) in
    elim (cases_lt b 48) [
      | inl low ↦ ap after (is_less b 48 low) ∙ sym (ap same (is_less b c (omega arith)))
      | inr high ↦ let above = other_range b other high in ap after (is_greater b 48 (omega arith)) ∙ sym (ap same (is_greater b c (omega arith)))
    ]

two_firsts : (b c : ℕ) (bs cs : List ℕ) → is_digit b && is_digit c ≡ false → Compared (nat_cmp b c) (b ∷ bs) (c ∷ cs)
two_firsts b c bs cs one = elim (cases_Bool (is_digit b)) [
  | inl digit ↦
      let other : is_digit c ≡ false = sym (ap (λ t. t && is_digit c) digit) ∙ one in
      (λ i. slice_cmp nat_cmp (digits_first b bs digit i) (other_first c cs other i))
      ∙ number_byte b c (number_from 0 (take_while is_digit (b ∷ bs)) ∷ runs_of (after_run (b ∷ bs))) (runs_of (after_run (b ∷ bs))) (runs_of (after_run (c ∷ cs))) digit other
  | inr other ↦ elim (cases_Bool (is_digit c)) [
    | inl digit ↦
        (λ i. slice_cmp nat_cmp (other_first b bs other i) (digits_first c cs digit i))
        ∙ byte_number b c (number_from 0 (take_while is_digit (c ∷ cs)) ∷ runs_of (after_run (c ∷ cs))) (runs_of (after_run (b ∷ bs))) (runs_of (after_run (c ∷ cs))) other digit
    | inr neither ↦ λ i. slice_cmp nat_cmp (other_first b bs other i) (other_first c cs neither i)
  ]
]

and_left : (s t : Bool) → s ≡ false → s && t ≡ false
and_left s t not = grind arith

and_right : (s t : Bool) → t ≡ false → s && t ≡ false
and_right s t not = grind arith

pub left_byte : (left right : List ℕ) → 0 < length left → 0 < length right → length (take_while is_digit left) ≡ 0 → Compared (nat_cmp (slice_index left 0) (slice_index right 0)) left right
left_byte [] right one other none = absurd (omega arith)
left_byte (b ∷ bs) [] one other none = absurd (omega arith)
left_byte (b ∷ bs) (c ∷ cs) one other none = two_firsts b c bs cs (and_left (is_digit b) (is_digit c) (begins_other b bs none))

pub right_byte : (left right : List ℕ) → 0 < length left → 0 < length right → length (take_while is_digit right) ≡ 0 → Compared (nat_cmp (slice_index left 0) (slice_index right 0)) left right
right_byte [] right one other none = absurd (omega arith)
right_byte (b ∷ bs) [] one other none = absurd (omega arith)
right_byte (b ∷ bs) (c ∷ cs) one other none = two_firsts b c bs cs (and_right (is_digit b) (is_digit c) (begins_other c cs none))

-- ---- the loop

pub are_digits : (text : List ℕ) → list_all is_digit (take_while is_digit text) ≡ true
are_digits text = front_passes is_digit text

-- the program cuts off the first run
pub run_cut : (text : List ℕ) → 0 < length text → drop (max (length (take_while is_digit text)) 1) text ≡ after_run text
run_cut [] some = absurd (omega arith)
run_cut (b ∷ bs) some = elim (cases_Bool (is_digit b)) [
  | inl digit ↦
      let long = length-prefix_len is_digit (b ∷ bs) ∙ len_yes is_digit b bs digit in
      let count : max (length (take_while is_digit (b ∷ bs))) 1 ≡ suc (prefix_len is_digit bs) = omega (arith, long) in
      ap (λ k. drop k (b ∷ bs)) count ∙ sym (cond-true (is_digit b) _ _ digit)
  | inr other ↦
      let long = length-prefix_len is_digit (b ∷ bs) ∙ len_no is_digit b bs other in
      let count : max (length (take_while is_digit (b ∷ bs))) 1 ≡ 1 = omega (arith, long) in
      ap (λ k. drop k (b ∷ bs)) count ∙ sym (cond-false (is_digit b) _ _ other)
]

drop_shorter : (k : ℕ) (xs : List ℕ) → length (drop k xs) ≤ length xs
drop_shorter k xs = omega (arith, length-drop k xs)

pub run_shorter : (text : List ℕ) → 0 < length text → length (after_run text) < length text
run_shorter [] some = absurd (omega arith)
run_shorter (b ∷ bs) some = elim (cases_Bool (is_digit b)) [
  | inl digit ↦ omega (arith, drop_shorter (prefix_len is_digit bs) bs, ap length (cond-true (is_digit b) (drop (prefix_len is_digit bs) bs) bs digit))
  | inr other ↦ omega (arith, ap length (cond-false (is_digit b) (drop (prefix_len is_digit bs) bs) bs other))
]

-- a text with bytes has runs
has_run : (b : ℕ) (bs : List ℕ) → (r : ℕ) × (rs : List ℕ) × (runs_of (b ∷ bs) ≡ r ∷ rs)
has_run b bs = elim (cases_Bool (is_digit b)) [
  | inl digit ↦ (48, runs_from (Some (b - 48)) bs, cond-true (is_digit b) _ _ digit)
  | inr other ↦ (b, runs_of bs, cond-false (is_digit b) _ _ other)
]

-- if one text is at its end, the lengths decide
pub left_end : (left right : List ℕ) → length left ≡ 0 → nat_cmp (length left) (length right) ≡ slice_cmp nat_cmp (runs_of left) (runs_of right)
left_end [] [] none = refl
left_end [] (c ∷ cs) none =
    let run = has_run c cs in
    is_less 0 (length (c ∷ cs)) (omega arith) ∙ sym (ap (slice_cmp nat_cmp []) run.2)
left_end (b ∷ bs) right none = absurd (omega arith)

pub right_end : (left right : List ℕ) → length right ≡ 0 → nat_cmp (length left) (length right) ≡ slice_cmp nat_cmp (runs_of left) (runs_of right)
right_end [] [] none = refl
right_end (b ∷ bs) [] none =
    let run = has_run b bs in
    is_greater (length (b ∷ bs)) 0 (omega arith) ∙ sym (ap (λ rs. slice_cmp nat_cmp rs []) run.2)
right_end left (c ∷ cs) none = absurd (omega arith)
