-- Texts that fit in a line are UTF-8, without line breaks.
use Rattle.document_links.proofs.Prelude.{◌≡◌, ℕ, true, List, arith, ◌∙◌, ◌+◌, ◌-◌, ◌<◌, ◌≤◌, false, not, [], ◌∷◌, length, take, drop, filter, get_or, refl, ap, list_all, AllPass, prefix_len, suffix_len, and_parts, and_from, cond-true, le-leb, fits, is_inner, is_plain, nat_le, take_all, AllPass-from_list_all, suffix_len_is, is_utf8-from_IsUtf8, IsUtf8-from_ascii, prefix_len_is, clean, shortened, without_fragment, written}
use Rattle.std.specs.Str.{is_utf8, IsAscii}
use Rattle.std.proofs.lemmas.Bool.Decides.{nat_tests}
use Rattle.url.specs.Input.{is_c0_control_or_space, is_tab_or_new_line, trim_end, trim_start, strip_tabs_and_new_lines, trim_c0_control_and_space}
use Rattle.std.proofs.lemmas.Str.Ascii.{IsAscii-nil}
use Rattle.crawl_limits.specs.Limits.{line_limit}
use Rattle.document_links.specs.Written.{has_room}

pub fits_inner : (front : ℕ) (text : List ℕ) → fits front text ≡ true → list_all is_inner text ≡ true
fits_inner front text fit = grind (arith, and_parts)

pub fits_utf8 : (front : ℕ) (text : List ℕ) → fits front text ≡ true → is_utf8 text ≡ true
fits_utf8 front text fit = grind (arith, and_parts)

-- a text that fits has room
pub has_room_whole : (text : List ℕ) → fits 5 text ≡ true → has_room text ≡ true
has_room_whole text fit = grind arith

-- texts of visible ASCII bytes fit in a line, and a URL parser drops nothing of them

below : (b : ℕ) → is_plain b ≡ true → b < 128
below b plain = grind (arith, nat_tests)

ascii : (text : List ℕ) → list_all is_plain text ≡ true → IsAscii text
ascii [] plain = IsAscii-nil
ascii (b ∷ rest) plain = grind (arith, and_parts, ascii rest)

all_inner : (text : List ℕ) → list_all is_plain text ≡ true → list_all is_inner text ≡ true
all_inner [] plain = refl
all_inner (b ∷ rest) plain = grind (arith, and_parts, and_from, all_inner rest)

pub plain_fits : (text : List ℕ) → 5 + length text ≤ line_limit → list_all is_plain text ≡ true → fits 5 text ≡ true
plain_fits text short plain =
    and_from (nat_le (5 + length text) line_limit) _ (le-leb (5 + length text) line_limit short)
    (and_from (is_utf8 text) (list_all is_inner text) (is_utf8-from_IsUtf8 text (IsUtf8-from_ascii text (ascii text plain))) (all_inner text plain))

-- ---- what a URL parser drops

not_trimmed : (b : ℕ) → is_plain b ≡ true → is_c0_control_or_space b ≡ false
not_trimmed b plain = grind (arith, nat_tests)

all_kept : (text : List ℕ) → list_all is_plain text ≡ true → filter (λ b. not (is_tab_or_new_line b)) text ≡ text
all_kept [] plain = refl
all_kept (b ∷ rest) plain = grind (arith, and_parts, cond-true, all_kept rest)

plain_trim : (text : List ℕ) → list_all is_plain text ≡ true → trim_end is_c0_control_or_space (trim_start is_c0_control_or_space text) ≡ text
plain_trim text plain =
    let trims = is_c0_control_or_space in
    let each : AllPass is_plain text = AllPass-from_list_all is_plain text plain in
    let first : prefix_len trims text ≡ 0 =
    prefix_len_is trims text 0 (omega arith) (λ k below. absurd (omega arith)) (λ inside. not_trimmed (get_or text 0 0) (each 0 0 inside)) in
    let last : suffix_len trims text ≡ length text - length text =
    suffix_len_is trims text (length text) 0 (omega arith) (λ k low high. absurd (omega arith))
    (λ some. not_trimmed (get_or text (length text - 1) 0) (each (length text - 1) 0 (omega arith))) in
    let start : trim_start trims text ≡ text = ap (λ n. drop n text) first in
    let end : trim_end trims text ≡ text =
    ap (λ n. take (length text - n) text) last ∙ take_all (length text - (length text - length text)) text (omega arith) in
    ap (trim_end trims) start ∙ end

pub plain_clean : (text : List ℕ) → list_all is_plain text ≡ true → clean text ≡ text
unfolding trim_c0_control_and_space strip_tabs_and_new_lines
plain_clean text plain = ap (filter (λ b. not (is_tab_or_new_line b))) (plain_trim text plain) ∙ all_kept text plain

-- such a text is written unchanged
pub plain_written : (text : List ℕ) → list_all is_plain text ≡ true → fits 5 text ≡ true → written text ≡ text
plain_written text plain fit = ap shortened (plain_clean text plain) ∙ cond-true (fits 5 text) text (without_fragment text) fit
