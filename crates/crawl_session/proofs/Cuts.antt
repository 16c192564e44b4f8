-- Lines of bytes that are cut in two, and of bytes after an unfinished line that was cut short.
use Rattle.crawl_session.proofs.Prelude.{◌≡◌, ◌⊎◌, ℕ, ◌+◌, ◌<◌, ◌==◌, inl, inr, Bool, true, false, List, [], ◌∷◌, ◌++◌, length, take, map, nat_lt, slice_index, Option, Result, Err, refl, sym, ap, subst, ◌∙◌, arith, append-nil, append_assoc, eqb-true, ltb-true, ltb-false, lt-ltb, ne_eqb, common_steps, slice_split, bytes_eq-Decides, lines, lines_of_parts, strip_carriage_return, length-append, length-take-le, take_all, All-nil, All-cons, All-append, All-take, slice_split_none, slice_split_at, length-slice_split, line_limit, Request, RequestError, held_limit, IsUnfinished, AreWhole, own_request, request_for, request_of, Part, Settings}
use Rattle.text_lines.proofs.CutLines.{lines_cut}
use Rattle.crawl_session.specs.declared.request.RequestError.TheVariants.{LineTooLong}

abbrev pub is_lf : ℕ → Bool
is_lf b = b == 10

abbrev pub IsOther : ℕ → Type 0
IsOther b = (b == 10) ≡ false

-- a part that others follow loses its CR
before_others : (part : List ℕ) (parts : List (List ℕ)) → 0 < length parts → lines_of_parts (part ∷ parts) ≡ strip_carriage_return part ∷ lines_of_parts parts
before_others part parts h = grind arith

parts_below : (bytes : List ℕ) → 0 < length (slice_split is_lf bytes)
parts_below bytes = omega (arith, length-slice_split is_lf bytes)

-- ---- whole lines, and bytes after them

-- whole lines, and then those of the bytes after them
pub lines_after : (front rest : List ℕ) → AreWhole front → lines (front ++ rest) ≡ lines front ++ lines rest
lines_after front rest whole = grind (arith, append_assoc, lines_cut)

-- whole lines and whole lines are whole lines
pub whole-append : (front more : List ℕ) → AreWhole front → AreWhole more → AreWhole (front ++ more)
whole-append front more whole (inl none) = let P : List ℕ → Type 0 = λ m. AreWhole (front ++ m) in subst P (sym none) (subst AreWhole (sym (append-nil front)) whole)
whole-append front more whole (inr some) = inr (front ++ some.0, ap (λ l. front ++ l) some.1 ∙ sym (append_assoc front some.0 (10 ∷ [])))

-- ---- a line whose end was not read

-- bytes without LF are one line, or none
pub one_line : (bytes : List ℕ) → IsUnfinished bytes → 0 < length bytes → lines bytes ≡ bytes ∷ []
one_line bytes unfinished some = grind (arith, slice_split_none, ne_eqb)

-- the first line of bytes with an LF
pub line_before : (line more : List ℕ) → IsUnfinished line → lines (line ++ 10 ∷ more) ≡ strip_carriage_return line ∷ lines more
line_before line more unfinished = grind (arith, slice_split_at, before_others, parts_below)

-- the first line of whole lines, and the bytes after its end
record FirstEnd (bytes : List ℕ) : Type 0 where
  line : List ℕ
  more : List ℕ
  split : bytes ≡ line ++ 10 ∷ more
  unfinished : IsUnfinished line

first_end : (front : List ℕ) → FirstEnd (front ++ 10 ∷ [])
first_end [] = record { line = []; more = []; split = refl; unfinished = All-nil IsOther }
first_end (x ∷ xs) = by_byte (x == 10) refl (first_end xs)
  where
    by_byte : (b : Bool) → (x == 10) ≡ b → FirstEnd (xs ++ 10 ∷ []) → FirstEnd (x ∷ xs ++ 10 ∷ [])
    by_byte true is rest = record { line = []; more = xs ++ 10 ∷ []; split = ap (λ y. y ∷ xs ++ 10 ∷ []) (eqb-true x 10 is); unfinished = All-nil IsOther }
    by_byte false is rest = record { line = x ∷ rest.line; more = rest.more; split = ap (λ l. x ∷ l) rest.split; unfinished = All-cons IsOther x rest.line is rest.unfinished }

-- ---- lines that request the same

-- what each line requests
abbrev pub requests : Settings → List (List ℕ) → List (Result Request RequestError)
requests settings ls = map (request_for settings) ls

asks_too_long : (workers : ℕ) (suffixes : List (List ℕ)) (line : List ℕ) → line_limit < length line → request_of workers suffixes line ≡ Err LineTooLong
asks_too_long workers suffixes line long = rw (lt-ltb line_limit (length line) long) refl

refused_so : (part : Option Part) (line : List ℕ) → line_limit < length line → own_request part line (Err LineTooLong) ≡ Err LineTooLong
refused_so part line long = grind (arith, bytes_eq-Decides)

-- two lines that are too long request the same
both_long : (settings : Settings) (line other : List ℕ) → line_limit < length line → line_limit < length other → request_for settings line ≡ request_for settings other
both_long settings line other first second = grind (arith, asks_too_long, refused_so)

stripped_long : (line : List ℕ) → line_limit + 1 < length line → line_limit < length (strip_carriage_return line)
stripped_long line long = grind (arith, slice_index, length-take-le)

-- a line that was cut short, or that is as it was
cut_or_whole : (tail : List ℕ) → (take held_limit tail ≡ tail) ⊎ ((line_limit + 1 < length (take held_limit tail)) × (line_limit + 1 < length tail))
cut_or_whole tail = by_length (nat_lt held_limit (length tail)) refl
  where
    by_length : (b : Bool) → nat_lt held_limit (length tail) ≡ b → (take held_limit tail ≡ tail) ⊎ ((line_limit + 1 < length (take held_limit tail)) × (line_limit + 1 < length tail))
    by_length true long = let above = ltb-true held_limit (length tail) long in let cut = length-take-le held_limit tail (omega (arith, above)) in inr (omega (arith, cut), omega (arith, above))
    by_length false short = inl (take_all held_limit tail (ltb-false held_limit (length tail) short))

-- an unfinished line at the end of the input requests the same if it is cut short
pub tail_asks : (settings : Settings) (tail : List ℕ) → IsUnfinished tail → requests settings (lines (take held_limit tail)) ≡ requests settings (lines tail)
tail_asks settings tail unfinished = by_cut (cut_or_whole tail)
  where
    by_cut : (take held_limit tail ≡ tail) ⊎ ((line_limit + 1 < length (take held_limit tail)) × (line_limit + 1 < length tail)) → requests settings (lines (take held_limit tail)) ≡ requests settings (lines tail)
    by_cut (inl same) = ap (λ l. requests settings (lines l)) same
    by_cut (inr long) =
        ap (requests settings) (one_line (take held_limit tail) (All-take IsOther held_limit tail unfinished) (omega (arith, long.0)))
        ∙ ap (λ r. r ∷ []) (both_long settings (take held_limit tail) tail (omega (arith, long.0)) (omega (arith, long.1)))
        ∙ sym (ap (requests settings) (one_line tail unfinished (omega (arith, long.1))))

-- so does an unfinished line whose end is in the bytes that follow
pub front_asks : (settings : Settings) (tail front : List ℕ) → IsUnfinished tail → requests settings (lines (take held_limit tail ++ (front ++ 10 ∷ []))) ≡ requests settings (lines (tail ++ (front ++ 10 ∷ [])))
front_asks settings tail front unfinished = by_cut (cut_or_whole tail)
  where
    asks : (beginning : List ℕ) → IsUnfinished beginning → (end : FirstEnd (front ++ 10 ∷ [])) → requests settings (lines (beginning ++ (front ++ 10 ∷ [])))
        ≡ request_for settings (strip_carriage_return (beginning ++ end.line)) ∷ requests settings (lines end.more)
    asks beginning is end =
        ap (λ l. requests settings (lines (beginning ++ l))) end.split
        ∙ ap (λ l. requests settings (lines l)) (sym (append_assoc beginning end.line (10 ∷ end.more)))
        ∙ ap (requests settings) (line_before (beginning ++ end.line) end.more (All-append IsOther beginning end.line is end.unfinished))

    longer : (line more : List ℕ) → line_limit + 1 < length line → line_limit < length (strip_carriage_return (line ++ more))
    longer line more long = stripped_long (line ++ more) (omega (arith, length-append line more, long))

    by_cut : (take held_limit tail ≡ tail) ⊎ ((line_limit + 1 < length (take held_limit tail)) × (line_limit + 1 < length tail)) → requests settings (lines (take held_limit tail ++ (front ++ 10 ∷ []))) ≡ requests settings (lines (tail ++ (front ++ 10 ∷ [])))
    by_cut (inl same) = ap (λ l. requests settings (lines (l ++ (front ++ 10 ∷ [])))) same
    by_cut (inr long) =
        let end = first_end front in
        asks (take held_limit tail) (All-take IsOther held_limit tail unfinished) end
        ∙ ap (λ r. r ∷ requests settings (lines end.more)) (both_long settings _ _ (longer (take held_limit tail) end.line long.0) (longer tail end.line long.1))
        ∙ sym (asks tail unfinished end)

-- ---- what is held

-- what was cut short, and cut short again with what follows
pub take_cut : (n : ℕ) (xs ys : List ℕ) → take n (take n xs ++ ys) ≡ take n (xs ++ ys)
take_cut n xs ys = grind (arith, common_steps)

pub unfinished-append : (xs ys : List ℕ) → IsUnfinished xs → IsUnfinished ys → IsUnfinished (xs ++ ys)
unfinished-append xs ys first second = All-append IsOther xs ys first second
