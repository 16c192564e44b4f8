-- Chunks of lines, and what they are together.
use Rattle.crawl_report.proofs.Prelude.{◌≡◌, ℕ, Bool, Global, List, [], ◌∷◌, ◌++◌, Vec, append-nil, ap, ◌∙◌, arith, suc, ◌+◌, ◌^◌, ◌<◌, ◌≤◌, false, cond, ◌==◌, ◌%◌, length, drop, get_or, Some, option_and_then, decimal, refl, length-append, append_assoc, drop_all, flat_map-append, flat_map, prefix_len, Line, Adds, bytes_of, is_json, joined, result_lines, rows_after, printed, Out, common_steps, ne_eqb, le-leb, and_from}
use Rattle.crawl_report.specs.Json.{printed_line}
use Rattle.crawl_report.specs.declared.report.Report.{Report}
use lib.ListN.{get_or-append}
use Rattle.std.proofs.lemmas.Fmt.{decimal_is_IsNumeral_wide, decimal_by_steps_wide, decimal_digit}
use Rattle.std.proofs.lemmas.Str.Parse.{digit_at}
use Rattle.std.specs.Char.{is_ascii_digit}
use Rattle.json.specs.Word.{head, after_whole, after_fraction, after_exponent, after_number}
use Rattle.json.specs.Print.{IsNumber}

-- what is printed after nothing
pub printed_in_one_chunk : (json : Bool) (lines : List Line) (empty out : Out) → bytes_of empty ≡ [] → is_json empty ≡ json → Adds empty out lines → bytes_of out ≡ flat_map (printed_line json) lines
printed_in_one_chunk json lines empty out none kind adds = adds.added ∙ (λ i. none i ++ flat_map (printed_line (kind i)) lines)

-- the results, and what follows them
pub whole_report : (json : Bool) (report : Report) (front back : List ℕ) → front ≡ flat_map (printed_line json) (result_lines report.pages.now) → back ≡ flat_map (printed_line json) (rows_after report) → front ++ back ≡ printed json report
whole_report json report front back of_results of_rest = grind (arith, flat_map-append, append_assoc)

-- ---- chunks

-- a chunk more
pub joined_push : (chunks : List (Vec ℕ Global)) (chunk : Vec ℕ Global) → joined (chunks ++ chunk ∷ []) ≡ joined chunks ++ chunk.items
joined_push chunks chunk = flat_map-append (λ (c : Vec ℕ Global). c.items) chunks (chunk ∷ []) ∙ ap (λ t. joined chunks ++ t) (append-nil chunk.items)

-- What `decimal` writes is a number of JSON, of up to 128 bits

all_digits : (ds : List ℕ) → ((i : ℕ) → i < length ds → (48 ≤ get_or ds i 0) × (get_or ds i 0 ≤ 57)) → prefix_len is_ascii_digit ds ≡ length ds
all_digits [] h = refl
all_digits (d ∷ ds) h =
    let first = h 0 (omega arith) in
    let rest = all_digits ds (λ i l. h (suc i) (omega arith)) in
    ap (λ b. cond b (1 + prefix_len is_ascii_digit ds) 0) (and_from _ _ (le-leb 48 d first.0) (le-leb d 57 first.1)) ∙ omega arith

whole_digits : (ds : List ℕ) → 48 < get_or ds 0 0 → prefix_len is_ascii_digit ds ≡ length ds → (after_whole ds ≡ Some []) × ((head ds == 45) ≡ false)
whole_digits ds first all = grind (arith, common_steps, ne_eqb, drop_all)

first_decimal : (n : ℕ) → 0 < n → n < 10 ^ 64 → 48 < get_or (decimal n) 0 0
first_decimal n some small = (decimal_by_steps_wide (λ m ds. (0 < length ds) × (0 < m → 48 < get_or ds 0 0)) (λ m l. (omega arith, λ a. omega arith))
    (λ m ds l h. (omega (arith, length-append ds ((48 + m % 10) ∷ [])), λ a. omega (arith, get_or-append ds ((48 + m % 10) ∷ []) 0 0 h.0, h.1 (omega arith)))) n small).1 some

pub whole_decimal : (n : ℕ) → n < 10 ^ 64 → (after_whole (decimal n) ≡ Some []) × ((head (decimal n) == 45) ≡ false)
whole_decimal n h = grind (arith, common_steps, decimal_digit, whole_digits, first_decimal, all_digits, digit_at, decimal_is_IsNumeral_wide)

pub decimal_IsNumber : (n : ℕ) → n < 10 ^ 64 → IsNumber (decimal n)
unfolding after_number
decimal_IsNumber n h =
    let w = whole_decimal n h in
    ap (λ o. option_and_then after_exponent (option_and_then after_fraction o))
    (ap (λ b. after_whole (cond b (drop 1 (decimal n)) (decimal n))) w.1 ∙ w.0)
