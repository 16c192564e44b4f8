-- A URL parser reads a text as it reads the text without what it drops.
use Rattle.document_links.proofs.Prelude.{◌≡◌, ◌∙◌, ◌⊎◌, ℕ, ◌-◌, Bool, true, false, not, List, [], ◌∷◌, ◌++◌, length, take, drop, filter, refl, sym, ap, subst, arith, length-drop, reverse, take-append-drop, Option, prefix_len, cases_Bool, cond-true, cond-false, length-reverse, reverse-append, reverse-reverse, take_all, StopsAt, StopsAt-drop-prefix_len, fits, clean, written}
use Rattle.std.proofs.lemmas.Grind.{common_steps}
use Rattle.url.specs.Input.{is_c0_control_or_space, is_tab_or_new_line, trim_end, trim_start, strip_tabs_and_new_lines, trim_c0_control_and_space}
use Rattle.std.proofs.Math.Seq.{take-append_seam}
use Rattle.std.proofs.lemmas.List.Elements.{filter-append}
use Rattle.url.specs.Parser.{parse_url}
use Rattle.url.specs.Parts.{Parts}
use Rattle.crawl_keys.specs.CanonicalText.{resolve}
use Rattle.crawl_keys.proofs.FolderLemmas.{suffix_len-stops}

abbrev trims : ℕ → Bool
trims = is_c0_control_or_space

abbrev stays : ℕ → Bool
stays b = not (is_tab_or_new_line b)

-- nothing is trimmed at the end: the text is empty, or its last byte is visible
abbrev EndsVisibly : List ℕ → Type 0
EndsVisibly l = (l ≡ []) ⊎ ((front : List ℕ) × (last : ℕ) × ((l ≡ front ++ last ∷ []) × (trims last ≡ false)))

-- ---- a trimmed text begins and ends with a visible byte

stops_take : (xs : List ℕ) (n : ℕ) → StopsAt trims xs → StopsAt trims (take n xs)
stops_take xs n stops = grind arith

ends_reversed : (rest : List ℕ) → StopsAt trims rest → EndsVisibly (reverse rest)
ends_reversed rest stops = grind (arith, common_steps, reverse-append)

ends_trimmed : (xs : List ℕ) → EndsVisibly (trim_end trims xs)
ends_trimmed xs =
    let r = reverse xs in
    let n = prefix_len trims r in
    let rest = drop n r in
    let whole : xs ≡ reverse rest ++ reverse (take n r) =
    sym (reverse-reverse xs) ∙ ap reverse (sym (take-append-drop n r)) ∙ reverse-append (take n r) rest in
    let long : length xs - n ≡ length (reverse rest) = omega (arith, length-reverse rest, length-drop n r, length-reverse xs) in
    let is : trim_end trims xs ≡ reverse rest =
    ap (λ m. take m xs) long ∙ ap (take (length (reverse rest))) whole ∙ take-append_seam (reverse rest) (reverse (take n r)) in
    subst EndsVisibly (sym is) (ends_reversed rest (StopsAt-drop-prefix_len trims r))

-- ---- nothing is trimmed from such a text

start_stays : (xs : List ℕ) → StopsAt trims xs → trim_start trims xs ≡ xs
start_stays xs stops = grind (arith, cond-false)

end_stays : (l : List ℕ) → EndsVisibly l → trim_end trims l ≡ l
end_stays l ends = grind (arith, suffix_len-stops, take_all)

-- ---- nor from such a text without its tabs and line breaks

stops_filter : (xs : List ℕ) → StopsAt trims xs → StopsAt trims (filter stays xs)
stops_filter xs stops = grind (arith, cond-true)

ends_filter : (l : List ℕ) → EndsVisibly l → EndsVisibly (filter stays l)
ends_filter l ends = grind (arith, cond-true, filter-append)

kept_twice : (xs : List ℕ) → filter stays (filter stays xs) ≡ filter stays xs
kept_twice [] = refl
kept_twice (x ∷ xs) = grind (arith, cases_Bool, cond-true, cond-false, kept_twice xs)

pub clean_again : (text : List ℕ) → clean (clean text) ≡ clean text
unfolding trim_c0_control_and_space strip_tabs_and_new_lines
clean_again text =
    let front = trim_start trims text in
    let trimmed = trim_end trims front in
    let kept = filter stays trimmed in
    let begins : StopsAt trims kept = stops_filter trimmed (stops_take front _ (StopsAt-drop-prefix_len trims text)) in
    let ends : EndsVisibly kept = ends_filter trimmed (ends_trimmed front) in
    ap (λ l. filter stays (trim_end trims l)) (start_stays kept begins) ∙ ap (filter stays) (end_stays kept ends) ∙ kept_twice trimmed

-- ---- the parser

parse_clean : (base : Option Parts) (text : List ℕ) → parse_url base (clean text) ≡ parse_url base text
unfolding parse_url
parse_clean base text = rw (clean_again text)

pub resolve_written : (base text : List ℕ) → fits 5 (clean text) ≡ true → resolve base (written text) ≡ resolve base text
resolve_written base text fit = grind (arith, cond-true, parse_clean)
