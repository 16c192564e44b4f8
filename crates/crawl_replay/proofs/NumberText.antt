-- The texts that are numbers, and the position of the first space of a text.
use Rattle.crawl_replay.proofs.Prelude.{◌≡◌, ℕ, suc, ◌+◌, ◌<◌, ◌≤◌, Bool, true, false, not, ◌&&◌, List, [], ◌∷◌, ◌++◌, length, take, drop, get_or, nat_lt, nat_eq, Option, Some, None, refl, sym, ap, ◌∙◌, arith, lt-ltb, ltb-true, append_assoc, Result, rules, if◌then◌else◌, Decides, All, list_all, position_or_len, prefix_len, before_first, after_first, le-leb, leb-true, and_parts, Decides-by_and, nat_tests, is_space, at_space, is_number, number_of, IsNumber, common_steps, OkIff, result_ok}
use Rattle.std.specs.Char.{is_ascii_digit}
use Rattle.std.specs.Str.Parse.{digits_value, ParsesUnsigned}
use Rattle.std.proofs.lemmas.Option.{cond_some}
use Rattle.std.proofs.lemmas.List.{take_at, drop_at, length-append}
use Rattle.std.proofs.lemmas.List.Sums.{split_at_first, prefix_len_stops}
use Rattle.std.proofs.lemmas.Str.Parse.{IsNumeralModel, numerals_by_value, parse_digits}

digit : (b : ℕ) → Decides (is_ascii_digit b) ((48 ≤ b) × (b ≤ 57))
digit b = (λ e. grind (arith, nat_tests, e), λ e. grind (arith, nat_tests, e))

pub digits : (text : List ℕ) → Decides (list_all is_ascii_digit text) (All (λ b. (48 ≤ b) × (b ≤ 57)) text)
digits text = Decides-by_and is_ascii_digit (λ b. (48 ≤ b) × (b ≤ 57)) (list_all is_ascii_digit) digit refl (λ _ _. refl) text

some_length : (n : ℕ) → not (nat_eq n 0) ≡ true → 1 ≤ n
some_length n e = grind arith

pub number_is : (bits : ℕ) (text : List ℕ) (value : ℕ) → number_of bits text ≡ Some value → IsNumber bits value text
number_is bits text value e = grind (arith, cond_some, and_parts, digits, some_length, leb-true, ltb-true)

pub number_of_is : (bits : ℕ) (text : List ℕ) (value : ℕ) → IsNumber bits value text → number_of bits text ≡ Some value
number_of_is bits text value is = grind (arith, le-leb, digits, lt-ltb)

-- ---- the first space

abbrev pub no_space : ℕ → Bool
no_space b = not (is_space b)

space_is : (b : ℕ) → no_space b ≡ false → b ≡ 32
space_is b e = grind (arith, nat_tests, e)

digit_apart : (b : ℕ) → is_ascii_digit b ≡ true → no_space b ≡ true
digit_apart b e = grind (arith, nat_tests, e)

list_all_weaker : (p q : ℕ → Bool) → ((b : ℕ) → p b ≡ true → q b ≡ true) → (xs : List ℕ) → list_all p xs ≡ true → list_all q xs ≡ true
list_all_weaker p q implies [] e = refl
list_all_weaker p q implies (x ∷ xs) e = let both = and_parts (p x) (list_all p xs) e in rw (implies x both.0, list_all_weaker p q implies xs both.1) refl

digits_apart : (text : List ℕ) → All (λ b. (48 ≤ b) × (b ≤ 57)) text → list_all no_space text ≡ true
digits_apart text are = list_all_weaker is_ascii_digit no_space digit_apart text ((digits text).1 are)

first_space : (a b : List ℕ) → list_all no_space a ≡ true → prefix_len no_space (a ++ 32 ∷ b) ≡ length a
first_space [] b e = refl
first_space (x ∷ xs) b e = grind (arith, nat_tests, first_space xs, and_parts)

-- the texts before and after a position, if there is one
abbrev cut_at : ℕ → List ℕ → Option (List ℕ × List ℕ)
cut_at n text = if nat_lt n (length text) then Some (take n text, drop (n + 1) text) else None

by_place : (n : ℕ) (text a b : List ℕ) → n ≡ length a → text ≡ a ++ 32 ∷ b → cut_at n text ≡ Some (a, b)
by_place n text a b place is =
    let long : length text ≡ length a + suc (length b) = ap length is ∙ length-append a (32 ∷ b) in
    let within : n < length text = omega (arith, long, place) in
    let front : take n text ≡ a = ap (take n) is ∙ take_at a (32 ∷ b) n (sym place) in
    let regroup : text ≡ (a ++ 32 ∷ []) ++ b = is ∙ sym (append_assoc a (32 ∷ []) b) in
    let past : length (a ++ 32 ∷ []) ≡ n + 1 = length-append a (32 ∷ []) ∙ omega (arith, place) in
    let back : drop (n + 1) text ≡ b = ap (drop (n + 1)) regroup ∙ drop_at (a ++ 32 ∷ []) b (n + 1) past in
    rw (lt-ltb n (length text) within, front, back) refl

-- a word without a space, a space, and the rest
pub at_space-joined : (text a b : List ℕ) → list_all no_space a ≡ true → text ≡ a ++ 32 ∷ b → at_space text ≡ Some (a, b)
at_space-joined text a b apart is = by_place (prefix_len no_space text) text a b (ap (prefix_len no_space) is ∙ first_space a b apart) is

pub at_space-number : (text number b : List ℕ) → All (λ b. (48 ≤ b) × (b ≤ 57)) number → text ≡ number ++ 32 ∷ b → at_space text ≡ Some (number, b)
at_space-number text number b are is = at_space-joined text number b (digits_apart number are) is

by_test : (test : Bool) (text : List ℕ) (p : List ℕ × List ℕ) → nat_lt (position_or_len is_space text) (length text) ≡ test → (if test then Some (before_first is_space text, after_first is_space text) else None) ≡ Some p → text ≡ p.0 ++ 32 ∷ p.1
by_test false text p within e = absurd (cc)
by_test true text p within e =
    let below = ltb-true (position_or_len is_space text) (length text) within in
    let split = split_at_first is_space text 0 below in
    let space : get_or text (position_or_len is_space text) 0 ≡ 32 = space_is (get_or text (position_or_len is_space text) 0) (prefix_len_stops no_space text 0 below) in
    let same : (before_first is_space text, after_first is_space text) ≡ p = cc in
    split ∙ ap (λ b. before_first is_space text ++ b ∷ after_first is_space text) space ∙ ap (λ (q : List ℕ × List ℕ). q.0 ++ 32 ∷ q.1) same

-- the parts of a text that a space separates
pub joined-at_space : (text : List ℕ) (p : List ℕ × List ℕ) → at_space text ≡ Some p → text ≡ p.0 ++ 32 ∷ p.1
joined-at_space text p e = by_test (nat_lt (position_or_len is_space text) (length text)) text p refl e

-- The result of parsing a text that has only digits

own : IsNumeralModel (λ text. list_all is_ascii_digit text ≡ true) (digits_value 10)
own = numerals_by_value _ (search rules)

last_of : (a b c : Bool) → (a && b && c) ≡ true → c ≡ true
last_of a b c e = grind arith

first_of_all : (n : ℕ) (b c : Bool) → (not (nat_eq n 0) && b && c) ≡ true → 0 < n
first_of_all n b c e = grind arith

-- a test that cannot hold fails
by_size : {E : Type 0} (limit n size : ℕ) (b : Bool) (r : Result ℕ E) → 0 < size → b ≡ true → OkIff r ((0 < size) × (n < limit)) n → result_ok r ≡ (if b && nat_lt n limit then Some n else None)
by_size limit n size b r some e too_large = grind arith

pub parsed : {E : Type 0} (bits : ℕ) (text : List ℕ) (r : Result ℕ E) → ParsesUnsigned bits 10 text r → is_number text ≡ true → result_ok r ≡ number_of bits text
parsed bits text r reads number = grind (arith, common_steps, last_of, first_of_all, by_size, parse_digits, own)
