-- Links of feeds and lists of URLs, over runs of bytes.
use Rattle.document_links.proofs.Prelude.{◌≡◌, ◌∙◌, ℕ, ◌==◌, true, false, not, List, [], ◌∷◌, ◌++◌, take, drop, Option, refl, sym, ap, arith, cond-true, cond-false, cases_Bool}
use Rattle.std.proofs.Common.{◌+◌, length, zero, suc, append-nil, append_assoc, subst}
use Rattle.html_links.specs.Shown.{following, front}
use Rattle.html_links.proofs.Sources.{front_all, front_shorter}
use Rattle.url.specs.Input.{trim_c0_control_and_space}
use Rattle.document_links.specs.declared.feed.FeedKind.{FeedKind}
use Rattle.document_links.specs.declared.markup.Markup.{Markup}
use Rattle.document_links.specs.Feeds.{OfElement, all_from, kind_after, text_from, text_links, text_of}
use Rattle.document_links.specs.Markup.{is_tag, markup_len, markup_of, section_of}
use Rattle.document_links.specs.Unescaped.{unescaped}
use Rattle.document_links.specs.UrlLists.{line_positions, line_positions_from, lines_from, url_lines_of}
use Rattle.document_links.proofs.Runs.{collects_run, fails}

-- ---- what elements have: links, or their positions

-- the bytes up to the next `<`
to_markup : {X : Type 0} (own : OfElement X) (kind : Option FeedKind) (bytes : List ℕ) → all_from own kind 0 bytes ≡ all_from own kind 0 (following (λ b. not (b == 60)) bytes)
to_markup own kind [] = refl
to_markup own kind (b ∷ bytes) = grind (arith, cases_Bool, cond-true, cond-false, to_markup own kind bytes)

-- bytes that are skipped
past : {X : Type 0} (own : OfElement X) (kind : Option FeedKind) (n : ℕ) (bytes : List ℕ) → all_from own kind n bytes ≡ all_from own kind 0 (drop n bytes)
past own kind zero bytes = refl
past own kind (suc n) [] = refl
past own kind (suc n) (b ∷ bytes) = past own kind n bytes

pub no_markup : {X : Type 0} (own : OfElement X) (kind : Option FeedKind) (bytes : List ℕ) → following (λ b. not (b == 60)) bytes ≡ [] → all_from own kind 0 bytes ≡ []
no_markup own kind bytes none = to_markup own kind bytes ∙ ap (all_from own kind 0) none

next_markup : {X : Type 0} (own : OfElement X) (kind : Option FeedKind) (bytes opened : List ℕ) → 60 ∷ opened ≡ following (λ b. not (b == 60)) bytes →
    all_from own kind 0 bytes ≡ own (markup_of opened) (kind_after (markup_of opened) kind (take (markup_len opened) opened)) (take (markup_len opened) opened) (drop (markup_len opened) opened)
    ++ all_from own (kind_after (markup_of opened) kind (take (markup_len opened) opened)) 0 (drop (markup_len opened) opened)
next_markup own kind bytes opened here =
    let next = kind_after (markup_of opened) kind (take (markup_len opened) opened) in
    to_markup own kind bytes ∙ ap (all_from own kind 0) (sym here)
    ∙ ap (λ more. own (markup_of opened) next (take (markup_len opened) opened) (drop (markup_len opened) opened) ++ more) (past own next (markup_len opened) opened)

-- likewise, with other names for what is read
pub next_element : {X : Type 0} (own : OfElement X) (kind next : Option FeedKind) (bytes opened tag more : List ℕ) (markup : Markup) (len : ℕ) → 60 ∷ opened ≡ following (λ b. not (b == 60)) bytes →
    markup ≡ markup_of opened → len ≡ markup_len opened → tag ≡ take len opened → more ≡ drop len opened → next ≡ kind_after markup kind tag →
    all_from own kind 0 bytes ≡ own markup next tag more ++ all_from own next 0 more
next_element own kind next bytes opened tag more markup len here is size front_is back_is after_is =
    let tag_is : tag ≡ take (markup_len opened) opened = front_is ∙ ap (λ n. take n opened) size in
    let more_is : more ≡ drop (markup_len opened) opened = back_is ∙ ap (λ n. drop n opened) size in
    let next_is : next ≡ kind_after (markup_of opened) kind (take (markup_len opened) opened) = after_is ∙ (λ i. kind_after (is i) kind (tag_is i)) in
    next_markup own kind bytes opened here ∙ sym (λ i. own (is i) (next_is i) (tag_is i) (more_is i) ++ all_from own (next_is i) 0 (more_is i))

-- ---- the text of an element

run_text : (run bytes : List ℕ) → text_from 0 run bytes ≡ text_from 0 (run ++ front (λ b. not (b == 60)) bytes) (following (λ b. not (b == 60)) bytes)
run_text = collects_run (text_from 0) (λ b. not (b == 60)) (λ run b bytes inside. fails (b == 60) _ _ inside)

text_past : (n : ℕ) (bytes : List ℕ) → text_from n [] bytes ≡ text_of (drop n bytes)
text_past zero bytes = refl
text_past (suc n) [] = refl
text_past (suc n) (b ∷ bytes) = text_past n bytes

pub last_text : (bytes : List ℕ) → following (λ b. not (b == 60)) bytes ≡ [] → text_of bytes ≡ unescaped bytes
last_text bytes none = run_text [] bytes ∙ ap (λ more. text_from 0 (front (λ b. not (b == 60)) bytes) more) none ∙ ap unescaped (front_all (λ b. not (b == 60)) bytes none)

pub text_at_tag : (bytes run opened : List ℕ) → run ≡ front (λ b. not (b == 60)) bytes → 60 ∷ opened ≡ following (λ b. not (b == 60)) bytes → is_tag (markup_of opened) ≡ true →
    text_of bytes ≡ unescaped run
text_at_tag bytes run opened before here tag =
    run_text [] bytes ∙ ap (λ r. text_from 0 r (following (λ b. not (b == 60)) bytes)) (sym before) ∙ ap (text_from 0 run) (sym here)
    ∙ ap (λ l. unescaped run ++ l) (cond-true (is_tag (markup_of opened)) [] _ tag) ∙ append-nil (unescaped run)

pub text_at_other : (bytes run opened : List ℕ) → run ≡ front (λ b. not (b == 60)) bytes → 60 ∷ opened ≡ following (λ b. not (b == 60)) bytes → is_tag (markup_of opened) ≡ false →
    text_of bytes ≡ unescaped run ++ (section_of (markup_of opened) opened ++ text_of (drop (markup_len opened) opened))
text_at_other bytes run opened before here other =
    run_text [] bytes ∙ ap (λ r. text_from 0 r (following (λ b. not (b == 60)) bytes)) (sym before) ∙ ap (text_from 0 run) (sym here)
    ∙ ap (λ l. unescaped run ++ l) (cond-false (is_tag (markup_of opened)) [] _ other ∙ ap (λ l. section_of (markup_of opened) opened ++ l) (text_past (markup_len opened) opened))

-- likewise, with other names for what is read
pub more_text : (bytes run opened section more : List ℕ) (markup : Markup) (len : ℕ) → run ≡ front (λ b. not (b == 60)) bytes → 60 ∷ opened ≡ following (λ b. not (b == 60)) bytes →
    markup ≡ markup_of opened → is_tag markup ≡ false → section ≡ section_of markup opened → len ≡ markup_len opened → more ≡ drop len opened →
    text_of bytes ≡ (unescaped run ++ section) ++ text_of more
more_text bytes run opened section more markup len before here is other section_at size back_is =
    let section_is : section ≡ section_of (markup_of opened) opened = section_at ∙ ap (λ m. section_of m opened) is in
    let more_is : more ≡ drop (markup_len opened) opened = back_is ∙ ap (λ n. drop n opened) size in
    text_at_other bytes run opened before here (subst (λ m. is_tag m ≡ false) is other) ∙ sym (λ i. unescaped run ++ (section_is i ++ text_of (more_is i))) ∙ sym (append_assoc (unescaped run) section (text_of more))

-- ---- lines

run_line : (line bytes : List ℕ) → lines_from line bytes ≡ lines_from (line ++ front (λ b. not (b == 10)) bytes) (following (λ b. not (b == 10)) bytes)
run_line = collects_run lines_from (λ b. not (b == 10)) (λ line b bytes inside. fails (b == 10) _ _ inside)

pub last_line : (bytes : List ℕ) → following (λ b. not (b == 10)) bytes ≡ [] → url_lines_of bytes ≡ text_links (trim_c0_control_and_space bytes)
last_line bytes none = run_line [] bytes ∙ ap (λ more. lines_from (front (λ b. not (b == 10)) bytes) more) none ∙ ap (λ l. text_links (trim_c0_control_and_space l)) (front_all (λ b. not (b == 10)) bytes none)

pub next_line : (bytes line more : List ℕ) → line ≡ front (λ b. not (b == 10)) bytes → 10 ∷ more ≡ following (λ b. not (b == 10)) bytes →
    url_lines_of bytes ≡ text_links (trim_c0_control_and_space line) ++ url_lines_of more
next_line bytes line more before here =
    run_line [] bytes ∙ ap (λ l. lines_from l (following (λ b. not (b == 10)) bytes)) (sym before) ∙ ap (lines_from line) (sym here)

-- and their positions

run_position : (end : ℕ) (line bytes : List ℕ) → line_positions_from end line bytes ≡ line_positions_from end (line ++ front (λ b. not (b == 10)) bytes) (following (λ b. not (b == 10)) bytes)
run_position end = collects_run (line_positions_from end) (λ b. not (b == 10)) (λ line b bytes inside. fails (b == 10) _ _ inside)

pub last_position : (end : ℕ) (bytes : List ℕ) → following (λ b. not (b == 10)) bytes ≡ [] → line_positions_from end [] bytes ≡ line_positions end (length bytes) bytes
last_position end bytes none =
    run_position end [] bytes ∙ ap (λ more. line_positions_from end (front (λ b. not (b == 10)) bytes) more) none
    ∙ ap (λ (l : List ℕ). line_positions end (length l) l) (front_all (λ b. not (b == 10)) bytes none)

line_length : (bytes line more : List ℕ) → line ≡ front (λ b. not (b == 10)) bytes → 10 ∷ more ≡ following (λ b. not (b == 10)) bytes → length line + length (10 ∷ more) ≡ length bytes
line_length bytes line more before here =
    ap (λ (l : List ℕ). length l + length (10 ∷ more)) before ∙ ap (λ (l : List ℕ). length (front (λ b. not (b == 10)) bytes) + length l) here ∙ front_shorter (λ b. not (b == 10)) bytes

pub next_position : (end : ℕ) (bytes line more : List ℕ) → line ≡ front (λ b. not (b == 10)) bytes → 10 ∷ more ≡ following (λ b. not (b == 10)) bytes →
    line_positions_from end [] bytes ≡ line_positions end (length bytes) line ++ line_positions_from end [] more
next_position end bytes line more before here =
    run_position end [] bytes ∙ ap (λ l. line_positions_from end l (following (λ b. not (b == 10)) bytes)) (sym before) ∙ ap (line_positions_from end line) (sym here)
    ∙ ap (λ n. line_positions end n line ++ line_positions_from end [] more) (line_length bytes line more before here)
