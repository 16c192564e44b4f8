-- The lines of a compacted log that keep the numbers of `seen` bring them back.
use Rattle.crawl_session.proofs.Prelude.{◌≡◌, ℕ, suc, ◌+◌, ◌-◌, ◌<◌, ◌≤◌, ◌^◌, ◌==◌, Bool, true, false, not, if◌then◌else◌, nat_lt, List, [], ◌∷◌, ◌++◌, length, get_or, replicate, slice_set, take, Option, Some, None, option_map, option_and_then, Result, Ok, Err, refl, sym, ap, subst, ◌∙◌, arith, and_parts, nat_tests, append_assoc, codes, decimal, length-append, eqb-true, line_limit, at_space, at_space-joined, at_space-number, number_of_is, IsNumber, All, All-append, All-cons, All-nil, list_all, IsUnfinished, Appends, Appends-trans, flat_map-append, length-take-le, log_line, log_text, Part, Request, Seen, RequestError, Frontier, start, answered, request_for, request_in, request_of, own_request, placed_if, state_after, Settings}
use Rattle.std.proofs.Math.Seq.{get_or-append_seam, set-append_seam}
use Rattle.std.proofs.lemmas.List.{take_more}
use Rattle.std.proofs.lemmas.Fmt.{IsAscii-decimal, length-decimal-le}
use Rattle.std.proofs.lemmas.Str.{IsAscii-append, IsUtf8-from_ascii, is_utf8-from_IsUtf8}
use Rattle.std.proofs.lemmas.Str.Ascii.{IsAscii-nil}
use Rattle.std.specs.Option.{ok_or}
use Rattle.std.specs.Str.{IsAscii, is_utf8}
use Rattle.text_lines.specs.declared.lines.LineError.TheVariants.{TooLong, NotText}
use Rattle.crawl_replay.specs.Numbers.{number_of}
use Rattle.crawl_session.specs.Seen.{add_seen, seen_line, seen_lines, sum_of}
use Rattle.crawl_session.specs.Requests.{request_from, seen_request}
use Rattle.crawl_session.specs.declared.request.RequestError.TheVariants as wrong
use Rattle.crawl_session.proofs.Cuts.{IsOther}
use Rattle.crawl_session.proofs.Logs.{number_printed}
use Rattle.crawl_session.proofs.Noted.{with_seen}
use Rattle.crawl_session.proofs.SeenCounts.{Small}

-- ---- the text of a line

abbrev ascii_byte : ℕ → Bool
ascii_byte b = nat_lt b 128

word_ascii : (text : List ℕ) → list_all ascii_byte text ≡ true → IsAscii text
word_ascii [] are = IsAscii-nil
word_ascii (b ∷ rest) are = grind (arith, nat_tests, and_parts, word_ascii rest)

abbrev other_byte : ℕ → Bool
other_byte b = not (b == 10)

word_whole : (text : List ℕ) → list_all other_byte text ≡ true → IsUnfinished text
word_whole [] are = All-nil IsOther
word_whole (b ∷ rest) are = grind (arith, nat_tests, and_parts, All-cons, word_whole rest)

digit_other : (b : ℕ) → (48 ≤ b) × (b ≤ 57) → IsOther b
digit_other b digit = grind (arith, nat_tests)

number_whole : (bits n : ℕ) (text : List ℕ) → IsNumber bits n text → IsUnfinished text
number_whole bits n text is = λ k d inside. digit_other (get_or text k d) (is.digits k d inside)

not_long : (limit n : ℕ) → n ≤ limit → nat_lt limit n ≡ false
not_long limit n short = grind (arith, nat_tests)

-- numbers that a line can have
record Fits (queue count : ℕ) : Type 0 where
  few : queue < 2 ^ 32
  small : Small count

abbrev numbers_text : ℕ → ℕ → List ℕ
numbers_text queue count = decimal queue ++ (codes " " ++ decimal count)

line_parts : (queue count : ℕ) → seen_line queue count ≡ codes "seen " ++ numbers_text queue count
line_parts queue count = grind (arith, append_assoc)

first_is : (queue count : ℕ) → Fits queue count → IsNumber 32 queue (decimal queue)
first_is queue count fits = let few = fits.few in number_printed 32 queue (omega (arith, few)) few

second_is : (queue count : ℕ) → Fits queue count → IsNumber 64 count (decimal count)
second_is queue count fits = let small = fits.small in let below : count < 2 ^ 64 = omega (arith, small) in number_printed 64 count below below

line_short : (queue count : ℕ) → Fits queue count → nat_lt line_limit (length (seen_line queue count)) ≡ false
line_short queue count fits =
    let few = fits.few in
    let small = fits.small in
    let first = length-decimal-le 20 queue (omega arith) (omega (arith, few)) (omega (arith, few)) in
    let second = length-decimal-le 20 count (omega arith) (omega (arith, small)) (omega (arith, small)) in
    let inner : length (codes " " ++ decimal count) ≡ 1 + length (decimal count) = length-append (codes " ") (decimal count) in
    let parts = length-append (decimal queue) (codes " " ++ decimal count) in
    let all : length (codes "seen " ++ numbers_text queue count) ≡ 5 + length (numbers_text queue count) = length-append (codes "seen ") (numbers_text queue count) in
    let whole = ap length (line_parts queue count) in
    let short : length (seen_line queue count) ≤ line_limit = omega (arith, first, second, inner, parts, all, whole) in
    not_long line_limit (length (seen_line queue count)) short

line_utf8 : (queue count : ℕ) → Fits queue count → is_utf8 (seen_line queue count) ≡ true
line_utf8 queue count fits =
    let few = fits.few in
    let small = fits.small in
    let numbers = IsAscii-append (decimal queue) (codes " " ++ decimal count) (IsAscii-decimal queue (omega (arith, few))) (IsAscii-append (codes " ") (decimal count) (word_ascii (codes " ") refl) (IsAscii-decimal count (omega (arith, small)))) in
    let text = IsAscii-append (codes "seen ") (numbers_text queue count) (word_ascii (codes "seen ") refl) numbers in
    is_utf8-from_IsUtf8 (seen_line queue count) (IsUtf8-from_ascii (seen_line queue count) (subst IsAscii (sym (line_parts queue count)) text))

line_whole : (queue count : ℕ) → Fits queue count → IsUnfinished (seen_line queue count)
line_whole queue count fits =
    let numbers = All-append IsOther (decimal queue) (codes " " ++ decimal count) (number_whole 32 queue (decimal queue) (first_is queue count fits))
    (All-append IsOther (codes " ") (decimal count) (word_whole (codes " ") refl) (number_whole 64 count (decimal count) (second_is queue count fits))) in
    subst IsUnfinished (sym (line_parts queue count)) (All-append IsOther (codes "seen ") (numbers_text queue count) (word_whole (codes "seen ") refl) numbers)

-- ---- what it requests

text_asks : (workers : ℕ) (suffixes : List (List ℕ)) (line : List ℕ) (request : Request) → nat_lt line_limit (length line) ≡ false → is_utf8 line ≡ true → request_from workers suffixes line (at_space line) ≡ Ok request → request_of workers suffixes line ≡ Ok request
text_asks workers suffixes line request short utf8 asks =
    ap (λ b. request_in workers suffixes (if b then Err (TooLong 1) else if is_utf8 line then Ok line else Err (NotText 1))) short
    ∙ ap (λ b. request_in workers suffixes (if b then Ok line else Err (NotText 1))) utf8
    ∙ asks

numbers_ask : (queue count : ℕ) → Fits queue count → seen_request (at_space (numbers_text queue count)) ≡ Some (Seen queue count)
numbers_ask queue count fits =
    let first = first_is queue count fits in
    ap seen_request (at_space-number (numbers_text queue count) (decimal queue) (decimal count) first.digits refl)
    ∙ ap (option_and_then (λ q. option_map (Seen q) (number_of 64 (decimal count)))) (number_of_is 32 (decimal queue) queue first)
    ∙ ap (option_map (Seen queue)) (number_of_is 64 (decimal count) count (second_is queue count fits))

line_asks : (settings : Settings) (queue count : ℕ) → Fits queue count → request_of settings.workers settings.suffixes (seen_line queue count) ≡ Ok (Seen queue count)
line_asks settings queue count fits =
    text_asks settings.workers settings.suffixes (seen_line queue count) (Seen queue count) (line_short queue count fits) (line_utf8 queue count fits)
    (ap (request_from settings.workers settings.suffixes (seen_line queue count)) (at_space-joined (seen_line queue count) (codes "seen") (numbers_text queue count) refl (line_parts queue count))
    ∙ ap (λ (o : Option Request). ok_or o wrong.BadLine) (numbers_ask queue count fits))

-- a part reads it as any frontier does
counts_for : (settings : Settings) (queue count : ℕ) → Fits queue count → request_for settings (seen_line queue count) ≡ Ok (Seen queue count)
counts_for settings queue count fits = by_part settings.part (line_asks settings queue count fits)
  where
    by_part : (part : Option Part) → request_of settings.workers settings.suffixes (seen_line queue count) ≡ Ok (Seen queue count) → own_request part (seen_line queue count) (request_of settings.workers settings.suffixes (seen_line queue count)) ≡ Ok (Seen queue count)
    by_part None asks = asks
    by_part (Some part) asks = ap (placed_if part) asks

-- ---- all lines

-- the numbers of queues that lines can have, of which the first is this one
pub record AllFit (queue : ℕ) (seen : List ℕ) : Type 0 where
  pub few : queue + length seen ≤ 2 ^ 32
  pub small : (k : ℕ) → k < length seen → Small (get_or seen k 0)

first_fits : (queue count : ℕ) (more : List ℕ) → AllFit queue (count ∷ more) → Fits queue count
first_fits queue count more fit = let few = fit.few in record { few = omega (arith, few); small = fit.small 0 (omega arith) }

rest_fit : (queue count : ℕ) (more : List ℕ) → AllFit queue (count ∷ more) → AllFit (suc queue) more
rest_fit queue count more fit = let few = fit.few in record { few = omega (arith, few); small = λ k inside. fit.small (suc k) (omega (arith, inside)) }

pub lines_whole : (queue : ℕ) (seen : List ℕ) → AllFit queue seen → All IsUnfinished (seen_lines queue seen)
lines_whole queue [] fit = All-nil IsUnfinished
lines_whole queue (count ∷ more) fit = by_count (count == 0) (line_whole queue count (first_fits queue count more fit)) (lines_whole (suc queue) more (rest_fit queue count more fit))
  where
    by_count : (b : Bool) → IsUnfinished (seen_line queue count) → All IsUnfinished (seen_lines (suc queue) more) → All IsUnfinished (if b then seen_lines (suc queue) more else seen_line queue count ∷ seen_lines (suc queue) more)
    by_count true first rest = rest
    by_count false first rest = All-cons IsUnfinished (seen_line queue count) (seen_lines (suc queue) more) first rest

-- each line requests that its number is counted
pub each_asks : (P : List (List ℕ) → Type 0) (settings : Settings) (queue : ℕ) (seen : List ℕ) → AllFit queue seen → P [] → ((named count : ℕ) (more : List (List ℕ)) → request_for settings (seen_line named count) ≡ Ok (Seen named count) → P more → P (seen_line named count ∷ more)) → P (seen_lines queue seen)
each_asks P settings queue [] fit none one = none
each_asks P settings queue (count ∷ more) fit none one = by_count (count == 0) (each_asks P settings (suc queue) more (rest_fit queue count more fit) none one)
  where
    by_count : (b : Bool) → P (seen_lines (suc queue) more) → P (if b then seen_lines (suc queue) more else seen_line queue count ∷ seen_lines (suc queue) more)
    by_count true rest = rest
    by_count false rest = one queue count (seen_lines (suc queue) more) (counts_for settings queue count (first_fits queue count more fit)) rest

-- the number of a queue that is 0 is then the number of its line
added : (front : List ℕ) (count : ℕ) (zeros : List ℕ) → Small count → add_seen (length front) count (front ++ 0 ∷ zeros) ≡ front ++ count ∷ zeros
added front count zeros small =
    let none : sum_of 0 count ≡ count = omega (arith, small) in
    ap (λ n. slice_set (front ++ 0 ∷ zeros) (length front) (sum_of n count)) (get_or-append_seam front 0 zeros 0)
    ∙ ap (slice_set (front ++ 0 ∷ zeros) (length front)) none
    ∙ set-append_seam front 0 zeros count

one_longer : (front : List ℕ) (n : ℕ) → length (front ++ n ∷ []) ≡ suc (length front)
one_longer front n = let parts = length-append front (n ∷ []) in omega (arith, parts)

abbrev Restored : Settings → Frontier → ℕ → List ℕ → List ℕ → Type 0
Restored settings state queue front rest = state_after settings (with_seen state (front ++ replicate (length rest) 0)) (seen_lines queue rest) ≡ with_seen state (front ++ rest)

pub restored : (settings : Settings) (state : Frontier) (front rest : List ℕ) → AllFit (length front) rest → Restored settings state (length front) front rest
restored settings state front [] fit = refl
restored settings state front (count ∷ more) fit =
    by_count (count == 0) refl (λ n. restored settings state (front ++ n ∷ []) more (subst (λ q. AllFit q more) (sym (one_longer front n)) (rest_fit (length front) count more fit)))
  where
    next : ((n : ℕ) → Restored settings state (length (front ++ n ∷ [])) (front ++ n ∷ []) more) → (n : ℕ) → state_after settings (with_seen state (front ++ n ∷ replicate (length more) 0)) (seen_lines (suc (length front)) more) ≡ with_seen state (front ++ n ∷ more)
    next later n =
        ap (λ l. state_after settings (with_seen state l) (seen_lines (suc (length front)) more)) (sym (append_assoc front (n ∷ []) (replicate (length more) 0)))
        ∙ ap (λ q. state_after settings (with_seen state ((front ++ n ∷ []) ++ replicate (length more) 0)) (seen_lines q more)) (sym (one_longer front n))
        ∙ later n
        ∙ ap (with_seen state) (append_assoc front (n ∷ []) more)

    by_count : (b : Bool) → (count == 0) ≡ b → ((n : ℕ) → Restored settings state (length (front ++ n ∷ [])) (front ++ n ∷ []) more)
        → state_after settings (with_seen state (front ++ 0 ∷ replicate (length more) 0)) (if b then seen_lines (suc (length front)) more else seen_line (length front) count ∷ seen_lines (suc (length front)) more) ≡ with_seen state (front ++ count ∷ more)
    by_count true is later = next later 0 ∙ ap (λ n. with_seen state (front ++ n ∷ more)) (sym (eqb-true count 0 is))
    by_count false is later =
        let fits = first_fits (length front) count more fit in
        let before = with_seen state (front ++ 0 ∷ replicate (length more) 0) in
        ap (λ r. state_after settings (answered before r).state (seen_lines (suc (length front)) more)) (counts_for settings (length front) count fits)
        ∙ ap (λ l. state_after settings (with_seen state l) (seen_lines (suc (length front)) more)) (added front count (replicate (length more) 0) fits.small)
        ∙ next later count

-- ---- the text

abbrev pub line_of : ℕ → ℕ → List (List ℕ)
line_of queue count = if count == 0 then [] else seen_line queue count ∷ []

one_more : (queue : ℕ) (front : List ℕ) (count : ℕ) → seen_lines queue (front ++ count ∷ []) ≡ seen_lines queue front ++ line_of (queue + length front) count
one_more queue [] count = let here : queue ≡ queue + 0 = omega arith in ap (λ q. line_of q count) here
one_more queue (n ∷ more) count = by_first (n == 0) (one_more (suc queue) more count)
  where
    by_first : (b : Bool) → seen_lines (suc queue) (more ++ count ∷ []) ≡ seen_lines (suc queue) more ++ line_of (suc queue + length more) count
        → (if b then seen_lines (suc queue) (more ++ count ∷ []) else seen_line queue n ∷ seen_lines (suc queue) (more ++ count ∷ [])) ≡ (if b then seen_lines (suc queue) more else seen_line queue n ∷ seen_lines (suc queue) more) ++ line_of (queue + suc (length more)) count
    by_first true later = let here : suc queue + length more ≡ queue + suc (length more) = omega arith in later ∙ ap (λ q. seen_lines (suc queue) more ++ line_of q count) here
    by_first false later = let here : suc queue + length more ≡ queue + suc (length more) = omega arith in ap (λ l. seen_line queue n ∷ l) (later ∙ ap (λ q. seen_lines (suc queue) more ++ line_of q count) here)

-- the lines of the first queues were written, and that of the next one
pub written_more : (out_old out_mid out_new : Option (List ℕ)) (seen : List ℕ) (k : ℕ) → k < length seen → Appends out_old out_mid (log_text (seen_lines 0 (take k seen))) → Appends out_mid out_new (log_text (line_of k (get_or seen k 0)))
    → Appends out_old out_new (log_text (seen_lines 0 (take (k + 1) seen)))
written_more out_old out_mid out_new seen k inside front one =
    let count = get_or seen k 0 in
    let before = seen_lines 0 (take k seen) in
    let long = length-take-le k seen (omega (arith, inside)) in
    let place : 0 + length (take k seen) ≡ k = omega (arith, long) in
    let text : log_text (seen_lines 0 (take (k + 1) seen)) ≡ log_text before ++ log_text (line_of k count) =
    ap (λ l. log_text (seen_lines 0 l)) (take_more seen k 0 inside)
    ∙ ap log_text (one_more 0 (take k seen) count)
    ∙ ap (λ q. log_text (before ++ line_of q count)) place
    ∙ flat_map-append log_line before (line_of k count) in
    subst (Appends out_old out_new) (sym text) (Appends-trans out_old out_mid out_new (log_text before) (log_text (line_of k count)) front one)
