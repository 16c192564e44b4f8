-- The text of the lines that are needed has these lines.
use Rattle.crawl_session.proofs.Prelude.{common_steps, nat_tests, All, All-append, slice_split, onto_first, lines, lines_of_parts, strip_carriage_return, All-nil, All-cons, All-head, All-tail, slice_split-cons_yes, slice_split-cons_no, Had, having, is_needed, needed, log_line, log_text, IsUnfinished, Frontier, request_for, line_exchange, Settings}
use Rattle.std.proofs.Common.{◌≡◌, ℕ, ◌-◌, ◌==◌, Bool, true, false, if◌then◌else◌, List, [], ◌∷◌, ◌++◌, length, take, slice_index, refl, sym, ap, ◌∙◌, arith, append_assoc, length-append}
use Rattle.std.proofs.Math.Seq.{get_or-append_seam, take-append_seam}
use Rattle.crawl_session.proofs.Cuts.{IsOther, is_lf, line_before}

-- ---- a line has no LF

AllWhole : List (List ℕ) → Type 0
AllWhole ls = All IsUnfinished ls

onto_whole : (x : ℕ) (parts : List (List ℕ)) → is_lf x ≡ false → AllWhole parts → AllWhole (onto_first x parts)
unfolding AllWhole
onto_whole x [] is all = All-cons IsUnfinished (x ∷ []) [] (All-cons IsOther x [] is (All-nil IsOther)) all
onto_whole x (part ∷ parts) is all =
    All-cons IsUnfinished (x ∷ part) parts (All-cons IsOther x part is (All-head IsUnfinished part parts all)) (All-tail IsUnfinished part parts all)

parts_whole : (bytes : List ℕ) → AllWhole (slice_split is_lf bytes)
unfolding AllWhole
parts_whole [] = All-cons IsUnfinished [] [] (All-nil IsOther) (All-nil IsUnfinished)
parts_whole (x ∷ xs) = grind (arith, nat_tests, parts_whole xs, AllWhole, All-cons, All-nil, is_lf, slice_split-cons_yes, slice_split-cons_no, onto_whole)

stripped_whole : (line : List ℕ) → IsUnfinished line → IsUnfinished (strip_carriage_return line)
stripped_whole line whole = grind (arith, common_steps)

of_parts : (parts : List (List ℕ)) → AllWhole parts → AllWhole (lines_of_parts parts)
unfolding AllWhole
of_parts [] all = All-nil IsUnfinished
of_parts (part ∷ []) all = by_length (length part == 0)
  where
    by_length : (b : Bool) → AllWhole (if b then [] else part ∷ [])
    by_length true = All-nil IsUnfinished
    by_length false = all
of_parts (part ∷ next ∷ more) all =
    All-cons IsUnfinished (strip_carriage_return part) (lines_of_parts (next ∷ more)) (stripped_whole part (All-head IsUnfinished part (next ∷ more) all))
    (of_parts (next ∷ more) (All-tail IsUnfinished part (next ∷ more) all))

needed_whole : (settings : Settings) (had : Had) (state : Frontier) (ls : List (List ℕ)) → AllWhole ls → AllWhole (needed settings had state ls)
unfolding AllWhole
needed_whole settings had state [] all = all
needed_whole settings had state (line ∷ more) all =
    let done = line_exchange settings state line in
    by_need (is_needed had (request_for settings line) done.answer) _ (needed_whole settings (having had done.answer) done.state more (All-tail IsUnfinished line more all))
  where
    by_need : (b : Bool) (rest : List (List ℕ)) → AllWhole rest → AllWhole (if b then line ∷ rest else rest)
    by_need true rest whole = All-cons IsUnfinished line rest (All-head IsUnfinished line more all) whole
    by_need false rest whole = whole

-- ---- lines as they are in a log are those lines

strip_return : (line : List ℕ) → strip_carriage_return (line ++ 13 ∷ []) ≡ line
strip_return line = grind (arith, common_steps, length-append, slice_index, get_or-append_seam, take-append_seam)

line_holds : (line more : List ℕ) → IsUnfinished line → lines (log_line line ++ more) ≡ line ∷ lines more
line_holds line more whole = by_end (slice_index line (length line - 1) == 13) refl
  where
    by_end : (b : Bool) → (slice_index line (length line - 1) == 13) ≡ b → lines ((line ++ (if b then 13 ∷ 10 ∷ [] else 10 ∷ [])) ++ more) ≡ line ∷ lines more
    by_end true is =
        ap lines (append_assoc line (13 ∷ 10 ∷ []) more ∙ sym (append_assoc line (13 ∷ []) (10 ∷ more)))
        ∙ line_before (line ++ 13 ∷ []) more (return_whole line whole)
        ∙ ap (λ l. l ∷ lines more) (strip_return line)
      where
        return_whole : (l : List ℕ) → IsUnfinished l → IsUnfinished (l ++ 13 ∷ [])
        return_whole [] all = All-cons IsOther 13 [] refl (All-nil IsOther)
        return_whole (x ∷ xs) all = All-cons IsOther x (xs ++ 13 ∷ []) (All-head IsOther x xs all) (return_whole xs (All-tail IsOther x xs all))
    by_end false is =
        ap lines (append_assoc line (10 ∷ []) more)
        ∙ line_before line more whole
        ∙ ap (λ b. (if b then take (length line - 1) line else line) ∷ lines more) is

text_holds : (ls : List (List ℕ)) → AllWhole ls → lines (log_text ls) ≡ ls
unfolding AllWhole
text_holds [] all = refl
text_holds (line ∷ more) all =
    line_holds line (log_text more) (All-head IsUnfinished line more all) ∙ ap (λ l. line ∷ l) (text_holds more (All-tail IsUnfinished line more all))

-- the lines that are needed, and others after them
pub needed_holds : (settings : Settings) (had : Had) (state : Frontier) (bytes : List ℕ) (more : List (List ℕ)) → All IsUnfinished more → lines (log_text (needed settings had state (lines bytes) ++ more)) ≡ needed settings had state (lines bytes) ++ more
unfolding AllWhole
needed_holds settings had state bytes more whole =
    let front = needed settings had state (lines bytes) in
    text_holds (front ++ more) (All-append IsUnfinished front more (needed_whole settings had state (lines bytes) (of_parts (slice_split is_lf bytes) (parts_whole bytes))) whole)
