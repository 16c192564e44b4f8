-- The fragment of a link, and the text before it.
use Rattle.document_links.proofs.Prelude.{◌≡◌, ◌∙◌, ℕ, ◌+◌, ◌-◌, ◌<◌, ◌≤◌, Bool, false, cond, not, List, [], ◌∷◌, ◌++◌, Option, Some, None, length, take, drop, filter, get_or, reverse, reverse-append, refl, sym, ap, subst, arith, prefix_len, suffix_len, cond-false, true≢false, take_all, clean, without_fragment}
use Rattle.std.proofs.Common.{suc, append_assoc, eq-eqb, ⊎_elim, Ok, Err}
use Rattle.std.specs.Prelude.{All}
use Rattle.std.proofs.lemmas.Bool.{cases_lt, eqb-true}
use Rattle.std.proofs.lemmas.List.{drop-append-le, length-append, take_more}
use Rattle.std.proofs.Math.Seq.{take-append-add}
use Rattle.std.proofs.lemmas.List.Elements.{All-drop, All-filter, All-take, filter-append}
use Rattle.std.proofs.lemmas.List.Sums.{fails_before_first, passes_at_first, prefix_len-le-length, split_at_first, suffix_len-le-length}
use Rattle.url.proofs.InputLemmas.{All-take_from_reads, IsNot, split_once_at, split_once_none}
use Rattle.url.specs.Input.{is_c0_control_or_space, is_tab_or_new_line, split_once, strip_tabs_and_new_lines, trim_c0_control_and_space, trim_end, trim_start}
use Rattle.url.specs.Parser.{Parsed, parse_by_scheme, parse_url, parse_without_scheme, split_scheme}
use Rattle.url.specs.Parts.{Parts}
use Rattle.crawl_keys.proofs.FragmentLemmas.{parse_parts-fragment}
use Rattle.crawl_keys.specs.CanonicalText.{resolve, resolve_from, text_of_parse}
use Rattle.crawl_keys.specs.Fragments.{is_number_sign}
use Rattle.document_links.specs.KeptAnchors.{fragment_of, marked}
use Rattle.document_links.specs.Keeping.{parsed, sign_of}

abbrev trims : ℕ → Bool
trims = is_c0_control_or_space

abbrev stays : ℕ → Bool
stays b = not (is_tab_or_new_line b)

-- ---- what a URL parser drops before and after a `#`

prefix_stops : (p : ℕ → Bool) (xs : List ℕ) (b : ℕ) (ys : List ℕ) → p b ≡ false → prefix_len p (xs ++ b ∷ ys) ≡ prefix_len p xs
prefix_stops p [] b ys stops = cond-false (p b) (1 + prefix_len p ys) 0 stops
prefix_stops p (x ∷ xs) b ys stops = ap (λ n. cond (p x) (1 + n) 0) (prefix_stops p xs b ys stops)

start_kept : (front rest : List ℕ) → trim_start trims (front ++ 35 ∷ rest) ≡ trim_start trims front ++ 35 ∷ rest
start_kept front rest =
    ap (λ n. drop n (front ++ 35 ∷ rest)) (prefix_stops trims front 35 rest refl)
    ∙ drop-append-le (prefix_len trims front) front (35 ∷ rest) (prefix_len-le-length trims front)

end_kept : (front rest : List ℕ) → trim_end trims (front ++ 35 ∷ rest) ≡ front ++ 35 ∷ trim_end trims rest
end_kept front rest =
    let back : reverse (front ++ 35 ∷ rest) ≡ reverse rest ++ 35 ∷ reverse front =
    reverse-append front (35 ∷ rest) ∙ ap (λ l. l ++ reverse front) (reverse-append (35 ∷ []) rest) ∙ append_assoc (reverse rest) (35 ∷ []) (reverse front) in
    let same : suffix_len trims (front ++ 35 ∷ rest) ≡ suffix_len trims rest = ap (prefix_len trims) back ∙ prefix_stops trims (reverse rest) 35 (reverse front) refl in
    let count : length (front ++ 35 ∷ rest) - suffix_len trims (front ++ 35 ∷ rest) ≡ length front + suc (length rest - suffix_len trims rest) =
    omega (arith, same, suffix_len-le-length trims rest, length-append front (35 ∷ rest)) in
    ap (λ n. take n (front ++ 35 ∷ rest)) count ∙ take-append-add front (35 ∷ rest) (suc (length rest - suffix_len trims rest))

-- what the parser reads before the `#`
abbrev before : List ℕ → List ℕ
before front = strip_tabs_and_new_lines (trim_start trims front)

clean_cut : (front rest : List ℕ) → clean (front ++ 35 ∷ rest) ≡ before front ++ 35 ∷ parsed rest
unfolding trim_c0_control_and_space strip_tabs_and_new_lines
clean_cut front rest =
    ap (λ l. filter stays (trim_end trims l)) (start_kept front rest)
    ∙ ap (filter stays) (end_kept (trim_start trims front) rest)
    ∙ filter-append stays (trim_start trims front) (35 ∷ trim_end trims rest)

none_before : (front : List ℕ) → All (IsNot 35) front → All (IsNot 35) (before front)
unfolding strip_tabs_and_new_lines
none_before front none = All-filter stays (IsNot 35) (trim_start trims front) (All-drop (IsNot 35) (prefix_len trims front) front none)

split_cut : (front rest : List ℕ) → All (IsNot 35) front → split_once 35 (clean (front ++ 35 ∷ rest)) ≡ (before front, Some (parsed rest))
split_cut front rest none = ap (split_once 35) (clean_cut front rest) ∙ split_once_at 35 (before front) (parsed rest) (none_before front none)

-- ---- a value with a `#`

none_in_front : (value : List ℕ) → All (IsNot 35) (without_fragment value)
none_in_front value =
    All-take_from_reads (IsNot 35) value (sign_of value) (prefix_len-le-length (λ b. not (is_number_sign b)) value)
    (λ n below same. true≢false (sym (eq-eqb (get_or value n 0) 35 same) ∙ fails_before_first is_number_sign value n 0 below))

is_sign : (value : List ℕ) → sign_of value < length value → get_or value (sign_of value) 0 ≡ 35
is_sign value inside = eqb-true (get_or value (sign_of value) 0) 35 (passes_at_first is_number_sign value 0 inside)

whole : (value : List ℕ) → sign_of value < length value → value ≡ without_fragment value ++ 35 ∷ drop (sign_of value + 1) value
whole value inside = split_at_first is_number_sign value 0 inside ∙ ap (λ s. without_fragment value ++ s ∷ drop (sign_of value + 1) value) (is_sign value inside)

pub fragment_is : (value : List ℕ) → sign_of value < length value → fragment_of value ≡ Some (parsed (drop (sign_of value + 1) value))
fragment_is value inside =
    ap fragment_of (whole value inside)
    ∙ ap (λ (parts : List ℕ × Option (List ℕ)). parts.1) (split_cut (without_fragment value) (drop (sign_of value + 1) value) (none_in_front value))

pub marked_is : (value : List ℕ) → sign_of value < length value → take (sign_of value + 1) value ≡ marked value
marked_is value inside = take_more value (sign_of value) 0 inside ∙ ap (λ s. without_fragment value ++ s ∷ []) (is_sign value inside)

no_sign_in : (value : List ℕ) → length value ≤ sign_of value → fragment_of value ≡ None
unfolding trim_c0_control_and_space strip_tabs_and_new_lines
no_sign_in value past =
    let none : All (IsNot 35) value = subst (All (IsNot 35)) (take_all (sign_of value) value past) (none_in_front value) in
    let start : List ℕ = trim_start trims value in
    let clear : All (IsNot 35) (clean value) =
    All-filter stays (IsNot 35) (trim_end trims start) (All-take (IsNot 35) (length start - suffix_len trims start) start (All-drop (IsNot 35) (prefix_len trims value) value none)) in
    ap (λ (parts : List ℕ × Option (List ℕ)). parts.1) (split_once_none 35 (clean value) clear)

none_some : {A : Type 0} (x : A) → Some x ≡ None → ⊥
none_some x e = absurd (cc)

pub signed : (value fragment : List ℕ) → fragment_of value ≡ Some fragment → sign_of value < length value
signed value fragment is =
    ⊎_elim (λ (inside : sign_of value < length value). inside) (λ (past : length value ≤ sign_of value). absurd (none_some fragment (sym is ∙ no_sign_in value past))) (cases_lt (sign_of value) (length value))

-- ---- the URL does not depend on the fragment

without_scheme : (base : Option Parts) (body : List ℕ) (query : Option (List ℕ)) (one other : List ℕ) → text_of_parse (parse_without_scheme base body query (Some one)) ≡ text_of_parse (parse_without_scheme base body query (Some other))
without_scheme base body query one other = grind (arith, parse_parts-fragment)

by_scheme : (split : Option (List ℕ × List ℕ)) (base : Option Parts) (body : List ℕ) (query : Option (List ℕ)) (one other : List ℕ) → text_of_parse (parse_by_scheme split base body query (Some one)) ≡ text_of_parse (parse_by_scheme split base body query (Some other))
by_scheme split base body query one other = grind (arith, without_scheme, parse_parts-fragment)

parse_cut : (base : Option Parts) (front one other : List ℕ) → All (IsNot 35) front → text_of_parse (parse_url base (front ++ 35 ∷ one)) ≡ text_of_parse (parse_url base (front ++ 35 ∷ other))
unfolding parse_url
parse_cut base front one other none =
    let question = split_once 63 (before front) in
    let parse : List ℕ × Option (List ℕ) → Parsed Parts = λ hash. parse_by_scheme (split_scheme (split_once 63 hash.0).0) base (split_once 63 hash.0).0 (split_once 63 hash.0).1 hash.1 in
    ap (λ hash. text_of_parse (parse hash)) (split_cut front one none)
    ∙ by_scheme (split_scheme question.0) base question.0 question.1 (parsed one) (parsed other)
    ∙ sym (ap (λ hash. text_of_parse (parse hash)) (split_cut front other none))

resolve_cut : (base : Parsed Parts) (front one other : List ℕ) → All (IsNot 35) front → resolve_from base (front ++ 35 ∷ one) ≡ resolve_from base (front ++ 35 ∷ other)
resolve_cut (Ok base) front one other none = parse_cut (Some base) front one other none
resolve_cut (Err e) front one other none = refl

pub resolve_marked : (page value : List ℕ) → sign_of value < length value → resolve page (marked value) ≡ resolve page value
resolve_marked page value inside =
    resolve_cut (parse_url None page) (without_fragment value) [] (drop (sign_of value + 1) value) (none_in_front value) ∙ ap (resolve page) (sym (whole value inside))
