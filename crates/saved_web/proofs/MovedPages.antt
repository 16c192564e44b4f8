-- The laws about moved pages: in version 1 no page has moved, and under a page there are only links, or only one moved line.
use Rattle.saved_web.proofs.Prelude.{◌≡◌, ℕ, ◌==◌, Bool, false, List, length, nat_lt, None, Ok, Err, ◌+◌, [], ◌∷◌, ◌++◌, Option, Some, refl, ap, arith, ne_eqb, inl, inr, ◌<◌, true, not, cond, sym, subst, ◌∙◌, length-append, append_assoc, append-nil, if◌then◌else◌, is_utf8, bytes_eq, Before, content_error, text_error, line_error, under_error, line_of_text, line_of, says_moved, is_moved_line, says_page, url_said, is_page, is_link, is_page_at, TooLong, NotText, or_parts, cases_Bool, cond-true, cond-false, list_any, count_by, SoundAfter, is_second, before, error_after, IsSound, under_last_page, Line, nat_tests, common_steps, sum_by-append, take_while-cons, under_more, option_map_or}
use Rattle.crawl_limits.specs.Limits.{line_limit}
use Rattle.saved_pages.specs.declared.line.Line.TheVariants as says
use Rattle.crawl_pages.specs.Pages.{is_moved}
use Rattle.saved_pages.specs.SavedWeb.{lines_after, put_moved, moved_text, link_texts, page_with, page_after, page_of, up_to_page, IsUnmixed}
use Rattle.saved_pages.specs.declared.error.WebError.TheVariants as wrong

-- ---- the content of a line that passes its checks, after the first line

text_passes : (b : Before) (long utf8 : Bool) (line : List ℕ) → (b.number == 1) ≡ false → text_error b (if long then Err (TooLong b.number) else if utf8 then Ok line else Err (NotText b.number)) ≡ None → content_error b (if utf8 then line_of_text line else says.Other) ≡ None
text_passes b long utf8 line later passes = grind arith

pub said_passes : (b : Before) (line : List ℕ) → (b.number == 1) ≡ false → line_error b line ≡ None → content_error b (line_of line) ≡ None
said_passes b line later passes = text_passes b (nat_lt line_limit (length line)) (is_utf8 line) line later passes

-- ---- in version 1, a line that passes its checks is not a moved line

said_none : (b : Before) (said : Line (List ℕ)) → b.second ≡ false → content_error b said ≡ None → says_moved said ≡ false
said_none b said first passes = grind arith

-- ---- nor is any line after the header

lines_none : (header : List ℕ) (earlier all : List (List ℕ)) → is_second (header ∷ earlier) ≡ false → SoundAfter error_after (header ∷ earlier) all → list_any is_moved_line all ≡ false
lines_none header earlier [] first sound = refl
lines_none header earlier (line ∷ more) first sound =
    let here = said_none (before (header ∷ earlier)) (line_of line) first
    (said_passes (before (header ∷ earlier)) line (ne_eqb (length (header ∷ earlier) + 1) 1 (λ one. omega (arith, one))) sound.0) in
    rw here (lines_none header (earlier ++ line ∷ []) more first sound.1)

-- ---- so no page after it has moved

put_none : (said : Line (List ℕ)) (later : Option (List ℕ)) → says_moved said ≡ false → later ≡ None → put_moved said later ≡ None
put_none said later not none = grind arith

pub text_nowhere : (all : List (List ℕ)) → list_any is_moved_line all ≡ false → moved_text all ≡ None
text_nowhere [] none = refl
text_nowhere (line ∷ more) none = grind (arith, or_parts, put_none, text_nowhere more)

found_after : (url : List ℕ) (all : List (List ℕ)) → list_any is_moved_line all ≡ false → is_moved (page_after url (Some all)) ≡ false
found_after url all none = ap (λ t. is_moved (page_with url t (link_texts all))) (text_nowhere all none)

page_none : (url : List ℕ) (at : Bool) (more : List (List ℕ)) → list_any is_moved_line more ≡ false → is_moved (page_after url (lines_after more url)) ≡ false → is_moved (page_after url (if at then Some more else lines_after more url)) ≡ false
page_none url at more none later = grind (arith, found_after)

pages_none : (url : List ℕ) (all : List (List ℕ)) → list_any is_moved_line all ≡ false → is_moved (page_of all url) ≡ false
pages_none url [] none = refl
pages_none url (line ∷ more) none = grind (arith, or_parts, page_none, pages_none url more)

pub none_moved : (all : List (List ℕ)) (url : List ℕ) → IsSound all → is_second all ≡ false → is_moved (page_of all url) ≡ false
none_moved all url sound first = grind (arith, lines_none, page_none, pages_none)

-- ---- counts

count_none : (p : List ℕ → Bool) (lines : List (List ℕ)) → list_any p lines ≡ false → count_by p lines ≡ 0
count_none p [] none = refl
count_none p (line ∷ more) none = grind (arith, or_parts, count_none p more)

grows : (p : Line (List ℕ) → Bool) (lines : List (List ℕ)) (line : List ℕ) (said : Line (List ℕ)) → line_of line ≡ said → count_by (λ l. p (line_of l)) (lines ++ line ∷ []) ≡ count_by (λ l. p (line_of l)) lines + cond (p said) 1 0
grows p lines line said is = grind (arith, sum_by-append)

-- ---- with one more line

passes_under : (number : ℕ) (some mixed : Bool) → under_error number some mixed ≡ None → mixed ≡ false
passes_under number some mixed passes = grind arith

passes_moved : (number : ℕ) (second some mixed : Bool) → (if second then under_error number some mixed else Some (wrong.BadLine number)) ≡ None → mixed ≡ false
passes_moved number second some mixed passes = grind (arith, passes_under)

stays : (under more : List (List ℕ)) → count_by is_moved_line more ≡ count_by is_moved_line under → count_by is_link more ≡ count_by is_link under → IsUnmixed under → IsUnmixed more
stays under more moved link h4 = grind arith

line_more : (b : Before) (under : List (List ℕ)) (line : List ℕ) (said : Line (List ℕ)) → line_of line ≡ said → b.link ≡ list_any is_link under → b.moved ≡ list_any is_moved_line under → content_error b said ≡ None → says_page said ≡ false → IsUnmixed under → IsUnmixed (under ++ line ∷ [])
line_more b under line said is link moved passes here unmixed = grind (arith, nat_tests, common_steps, count_none, passes_under, grows, or_parts, passes_moved, stays)

-- ---- all lines up to the next page

pub up_to_page-page : (line : List ℕ) (more : List (List ℕ)) → is_page line ≡ true → up_to_page (line ∷ more) ≡ []
up_to_page-page line more page = grind (arith, take_while-cons, cond-false)

pub up_to_page-other : (line : List ℕ) (more : List (List ℕ)) → is_page line ≡ false → up_to_page (line ∷ more) ≡ line ∷ up_to_page more
up_to_page-other line more page =
    take_while-cons (λ l. not (is_page l)) line more ∙ cond-true _ _ _ (ap not page)

ends : (under : List (List ℕ)) → IsUnmixed under → IsUnmixed (under ++ [])
ends under unmixed = let P : List (List ℕ) → Type 0 = IsUnmixed in subst P (sym (append-nil under)) unmixed

unmixed_on : (earlier more : List (List ℕ)) → 0 < length earlier → SoundAfter error_after earlier more → IsUnmixed (under_last_page earlier) → IsUnmixed (under_last_page earlier ++ up_to_page more)
unmixed_on earlier [] some sound unmixed = ends (under_last_page earlier) unmixed
unmixed_on earlier (line ∷ more) some sound unmixed =
    let P : List (List ℕ) → Type 0 = λ ls. IsUnmixed (under_last_page earlier ++ ls) in
    elim (cases_Bool (is_page line)) [
      | inl page ↦
          subst P (sym (up_to_page-page line more page)) (ends (under_last_page earlier) unmixed)
      | inr other ↦
          let Q : List (List ℕ) → Type 0 = λ ls. IsUnmixed (ls ++ up_to_page more) in
          let U : List (List ℕ) → Type 0 = IsUnmixed in
          let under = under_more earlier line ∙ cond-false _ _ _ other in
          let passes = said_passes (before earlier) line (ne_eqb (length earlier + 1) 1 (λ one. omega (arith, one, some))) sound.0 in
          let one_more = line_more (before earlier) (under_last_page earlier) line (line_of line) refl refl refl passes other unmixed in
          let later : IsUnmixed (under_last_page (earlier ++ line ∷ []) ++ up_to_page more) =
          unmixed_on (earlier ++ line ∷ []) more (omega (arith, length-append earlier (line ∷ []))) sound.1 (subst U (sym under) one_more) in
          subst P (sym (up_to_page-other line more other))
          (subst U (append_assoc (under_last_page earlier) (line ∷ []) (up_to_page more)) (subst Q under later))
    ]

-- ---- from the page's own line on

page_here : (url line : List ℕ) (said : Line (List ℕ)) → option_map_or (λ own. bytes_eq own url) (url_said said) false ≡ true → says_page said ≡ true
page_here url line said at = grind arith

unmixed_from : (url : List ℕ) (earlier all following : List (List ℕ)) → SoundAfter error_after earlier all → lines_after all url ≡ Some following → IsUnmixed (up_to_page following)
unmixed_from url earlier [] following sound found = absurd (cc)
unmixed_from url earlier (line ∷ more) following sound found =
    elim (cases_Bool (is_page_at url line)) [
      | inl at ↦
          let page = page_here url line (line_of line) at in
          let here : Some more ≡ Some following = sym (cond-true _ _ _ at) ∙ found in
          let same : more ≡ following = cc in
          let under = under_more earlier line ∙ cond-true _ _ _ page in
          let P : List (List ℕ) → Type 0 = λ ls. IsUnmixed (up_to_page ls) in
          let Q : List (List ℕ) → Type 0 = λ ls. IsUnmixed (ls ++ up_to_page more) in
          let U : List (List ℕ) → Type 0 = IsUnmixed in
          subst P same
          (subst Q under
          (unmixed_on (earlier ++ line ∷ []) more (omega (arith, length-append earlier (line ∷ []))) sound.1 (subst U (sym under) (inl refl))))
      | inr other ↦
          unmixed_from url (earlier ++ line ∷ []) more following sound.1 (sym (cond-false _ _ _ other) ∙ found)
    ]

pub unmixed : (all : List (List ℕ)) (url : List ℕ) (following : List (List ℕ)) → IsSound all → lines_after all url ≡ Some following → IsUnmixed (up_to_page following)
unmixed all url following sound found = unmixed_from url [] all following sound.sound found
