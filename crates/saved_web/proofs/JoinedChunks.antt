-- Two chunks of a saved web, each read after the header, and joined.
use Rattle.saved_web.proofs.Prelude.{◌≡◌, ℕ, ◌+◌, ◌<◌, ◌==◌, Bool, true, false, ◌||◌, List, [], ◌∷◌, ◌++◌, length, Option, Some, None, IfSome, is_some, Result, Ok, Err, refl, sym, ap, subst, ◌∙◌, arith, append_assoc, append-nil, length-append, ne_eqb, if◌then◌else◌, list_any, cons_option, option_or, option_map_or, bytes_eq, lines, cond-true, cond-false, or_parts, or_right, map-append, filter_map-append, list_any-append, bytes_eq-Decides, KnownPages, known_page, SoundAfter, PageRead, urls, has, AreRead, AreReadAfter, IsHeader, Before, page_error, under_error, content_error, text_error, line_error, under_last_page, before, error_after, line_of_text, line_of, says_page, url_said, is_page, is_page_at, page_url, TooLong, NotText, Line}
use Rattle.crawl_keys.specs.declared.error.KeyError.{KeyError}
use Rattle.saved_web.proofs.MovedPages.{said_passes}
use Rattle.saved_web.proofs.ReadWeb.{known_urls, with_url-append}
use Rattle.saved_pages.specs.PageLists as list
use Rattle.saved_pages.specs.SavedWeb.{lines_after, put_link, link_texts, put_moved, moved_text, page_with, page_after, page_of, page_urls}
use Rattle.saved_pages.specs.declared.error.WebError.TheVariants as wrong
use Rattle.saved_pages.specs.declared.line.Line.TheVariants as says

-- ---- a line that passes its checks after some lines also passes them after others

-- what is known before a line in two positions: each check that it passes in the first, it passes in the second
record Passes (b d : Before) (said : Line (List ℕ)) : Type 0 where
  second : d.second ≡ b.second
  some_page : b.some_page ≡ true → d.some_page ≡ true
  link : b.some_page ≡ true → d.link ≡ b.link
  moved : b.some_page ≡ true → d.moved ≡ b.moved
  known : (url : List ℕ) → url_said said ≡ Some url → b.known url ≡ false → d.known url ≡ false

unknown : (n : ℕ) (b : Bool) → (if b then Some (wrong.PageTwice n) else None) ≡ None → b ≡ false
unknown n b e = grind arith

page_again : (n m : ℕ) (known other : List ℕ → Bool) (url : Result (List ℕ) KeyError) → ((u : List ℕ) → url ≡ Ok u → known u ≡ false → other u ≡ false) → page_error n known url ≡ None → page_error m other url ≡ None
page_again n m known other url stays passes = grind (arith, unknown)

under_parts : (n : ℕ) (some mixed : Bool) → under_error n some mixed ≡ None → (some ≡ true) × (mixed ≡ false)
under_parts n some mixed passes = grind arith

under_again : (n m : ℕ) (some mixed more other : Bool) → under_error n some mixed ≡ None → (some ≡ true → more ≡ true) → (some ≡ true → other ≡ mixed) → under_error m more other ≡ None
under_again n m some mixed more other passes page same = grind (arith, under_parts)

moved_again : (b d : Before) (s t : Bool) → t ≡ s → (b.some_page ≡ true → d.some_page ≡ true) → (b.some_page ≡ true → (d.link || d.moved) ≡ (b.link || b.moved))
    → (if s then under_error b.number b.some_page (b.link || b.moved) else Some (wrong.BadLine b.number)) ≡ None → (if t then under_error d.number d.some_page (d.link || d.moved) else Some (wrong.BadLine d.number)) ≡ None
moved_again b d s t e page same passes = grind (arith, under_again)

said_again : (b d : Before) (said : Line (List ℕ)) → Passes b d said → content_error b said ≡ None → content_error d said ≡ None
said_again b d said k passes = grind (arith, page_again, under_again, moved_again)

text_again : (b d : Before) (long utf8 : Bool) (line : List ℕ) → (b.number == 1) ≡ false → (d.number == 1) ≡ false → (content_error b (if utf8 then line_of_text line else says.Other) ≡ None → content_error d (if utf8 then line_of_text line else says.Other) ≡ None)
    → text_error b (if long then Err (TooLong b.number) else if utf8 then Ok line else Err (NotText b.number)) ≡ None → text_error d (if long then Err (TooLong d.number) else if utf8 then Ok line else Err (NotText d.number)) ≡ None
text_again b d long utf8 line first later said passes = grind arith

line_again : (b d : Before) (line : List ℕ) → (b.number == 1) ≡ false → (d.number == 1) ≡ false → Passes b d (line_of line) → line_error b line ≡ None → line_error d line ≡ None
line_again b d line first later k passes = grind (arith, text_again, said_again)

-- ---- the lines of a chunk, after only the header and after the chunk before

no_page_at : (header url : List ℕ) → line_of header ≡ says.Other → is_page_at url header ≡ false
no_page_at header url other = ap (λ said. option_map_or (λ own. bytes_eq own url) (url_said said) false) other

under_after : (xs ys : List (List ℕ)) → list_any is_page ys ≡ true → under_last_page (xs ++ ys) ≡ under_last_page ys
under_after [] ys page = refl
under_after (x ∷ xs) ys page = grind (arith, list_any-append, or_right, cond-true, under_after xs ys page)

page_later : (header : List ℕ) (earlier : List (List ℕ)) → line_of header ≡ says.Other → list_any is_page (header ∷ earlier) ≡ true → list_any is_page earlier ≡ true
page_later header earlier other some = grind arith

passes_after : (header : List ℕ) (front earlier : List (List ℕ)) (line : List ℕ) → line_of header ≡ says.Other → ((url : List ℕ) → page_url line ≡ Some url → list_any (is_page_at url) front ≡ false)
    → Passes (before (header ∷ earlier)) (before (header ∷ front ++ earlier)) (line_of line)
passes_after header front earlier line other apart = grind (arith, under_after, page_later, list_any-append, or_right, or_parts, no_page_at)

page_here : (line url : List ℕ) → page_url line ≡ Some url → is_page_at url line ≡ true
page_here line url is = ap (λ own. option_map_or (λ u. bytes_eq u url) own false) is ∙ (bytes_eq-Decides url url).1 refl

sound_after : (header : List ℕ) (front earlier more : List (List ℕ)) → line_of header ≡ says.Other → ((url : List ℕ) → list_any (is_page_at url) more ≡ true → list_any (is_page_at url) front ≡ false)
    → SoundAfter error_after (header ∷ earlier) more → SoundAfter error_after (header ∷ front ++ earlier) more
sound_after header front earlier [] other apart sound = tt
sound_after header front earlier (line ∷ more) other apart sound =
    let here = passes_after header front earlier line other (λ url is. apart url (ap (λ b. b || list_any (is_page_at url) more) (page_here line url is))) in
    let passes = line_again (before (header ∷ earlier)) (before (header ∷ front ++ earlier)) line (ne_eqb (length (header ∷ earlier) + 1) 1 (λ one. omega (arith, one))) (ne_eqb (length (header ∷ front ++ earlier) + 1) 1 (λ one. omega (arith, one))) here sound.0 in
    let later = sound_after header front (earlier ++ line ∷ []) more other (λ url there. apart url (or_right (is_page_at url line) (list_any (is_page_at url) more) there)) sound.1 in
    (passes, subst (λ ls. SoundAfter error_after (header ∷ ls) more) (sym (append_assoc front earlier (line ∷ []))) later)

sound_append : (earlier xs ys : List (List ℕ)) → SoundAfter error_after earlier xs → SoundAfter error_after (earlier ++ xs) ys → SoundAfter error_after earlier (xs ++ ys)
sound_append earlier [] ys first later = subst (λ e. SoundAfter error_after e ys) (append-nil earlier) later
sound_append earlier (x ∷ xs) ys first later =
    (first.0, sound_append (earlier ++ x ∷ []) xs ys first.1 (subst (λ e. SoundAfter error_after e ys) (sym (append_assoc earlier (x ∷ []) xs)) later))

-- ---- a chunk does not begin with a link of the page before

abbrev Begins : List (List ℕ) → Type 0
Begins lines = (link_texts lines ≡ []) × (moved_text lines ≡ None)

at_begin : (b : Before) (said : Line (List ℕ)) (more : List (List ℕ)) → b.some_page ≡ false → content_error b said ≡ None → (says_page said ≡ false → Begins more) → (put_link said (link_texts more) ≡ []) × (put_moved said (moved_text more) ≡ None)
at_begin b said more none passes later = grind (arith, under_parts)

unlinked : (earlier more : List (List ℕ)) → 0 < length earlier → list_any is_page earlier ≡ false → SoundAfter error_after earlier more → Begins more
unlinked earlier [] some none sound = (refl, refl)
unlinked earlier (line ∷ more) some none sound =
    let passes = said_passes (before earlier) line (ne_eqb (length earlier + 1) 1 (λ one. omega (arith, one, some))) sound.0 in
    at_begin (before earlier) (line_of line) more none passes
    (λ other. unlinked (earlier ++ line ∷ []) more (omega (arith, length-append earlier (line ∷ []))) (list_any-append is_page earlier (line ∷ []) ∙ (λ i. none i || (other i || false))) sound.1)

pub links_end : (xs ys : List (List ℕ)) → link_texts ys ≡ [] → link_texts (xs ++ ys) ≡ link_texts xs
links_end [] ys none = none
links_end (x ∷ xs) ys none = ap (put_link (line_of x)) (links_end xs ys none)

moved_ends : (xs ys : List (List ℕ)) → moved_text ys ≡ None → moved_text (xs ++ ys) ≡ moved_text xs
moved_ends [] ys none = none
moved_ends (x ∷ xs) ys none = ap (put_moved (line_of x)) (moved_ends xs ys none)

-- ---- the pages of both

some_or : (a b : Option PageRead) → is_some (option_or a b) ≡ (is_some a || is_some b)
some_or a b = grind arith

pub has-append : (ps qs : KnownPages) (url : List ℕ) → has (ps ++ qs) url ≡ (has ps url || has qs url)
has-append ps qs url = ap is_some (with_url-append ps qs url) ∙ some_or (list.page_with ps url) (list.page_with qs url)

known_first : (ps qs : KnownPages) (url : List ℕ) → has ps url ≡ true → known_page (ps ++ qs) url ≡ known_page ps url
known_first ps qs url some = grind (arith, with_url-append)

known_later : (ps qs : KnownPages) (url : List ℕ) → has ps url ≡ false → known_page (ps ++ qs) url ≡ known_page qs url
known_later ps qs url none = grind (arith, with_url-append)

-- ---- the page of a URL in both

after_some : (url : List ℕ) (xs : List (List ℕ)) → is_some (lines_after xs url) ≡ list_any (is_page_at url) xs
after_some url [] = refl
after_some url (x ∷ xs) = grind (arith, after_some url xs)

after_first : (url : List ℕ) (xs ys following : List (List ℕ)) → lines_after xs url ≡ Some following → lines_after (xs ++ ys) url ≡ Some (following ++ ys)
after_first url [] ys following is = absurd (cc)
after_first url (x ∷ xs) ys following is = grind (arith, after_first url xs ys following)

after_later : (url : List ℕ) (xs ys : List (List ℕ)) → lines_after xs url ≡ None → lines_after (xs ++ ys) url ≡ lines_after ys url
after_later url [] ys is = refl
after_later url (x ∷ xs) ys is = grind (arith, after_later url xs ys)

found_in_both : (header : List ℕ) (front back : List (List ℕ)) (ps qs : KnownPages) (url : List ℕ) → line_of header ≡ says.Other → AreRead (header ∷ front) ps → AreRead (header ∷ back) qs → Begins back → (first : Option (List (List ℕ))) → lines_after (header ∷ front) url ≡ first → known_page (ps ++ qs) url ≡ page_of (header ∷ front ++ back) url
found_in_both header front back ps qs url other p q begins (Some following) is =
    let some : has ps url ≡ true = known_urls ps (header ∷ front) url p.urls ∙ sym (after_some url (header ∷ front)) ∙ ap is_some is in
    let both : page_of (header ∷ front ++ back) url ≡ page_after url (Some (following ++ back)) = ap (page_after url) (after_first url (header ∷ front) back following is) in
    let ends : page_after url (Some (following ++ back)) ≡ page_after url (Some following) = λ i. page_with url (moved_ends following back begins.1 i) (links_end following back begins.0 i) in
    known_first ps qs url some ∙ p.found url ∙ ap (page_after url) is ∙ sym (both ∙ ends)
found_in_both header front back ps qs url other p q begins None is =
    let none : has ps url ≡ false = known_urls ps (header ∷ front) url p.urls ∙ sym (after_some url (header ∷ front)) ∙ ap is_some is in
    let both : page_of (header ∷ front ++ back) url ≡ page_of back url = ap (page_after url) (after_later url (header ∷ front) back is) in
    let alone : page_of (header ∷ back) url ≡ page_of back url = ap (page_after url) (cond-false _ _ _ (no_page_at header url other)) in
    known_later ps qs url none ∙ q.found url ∙ alone ∙ sym both

-- ---- two chunks

pub joined : (second : Bool) (header : List ℕ) (front back : List (List ℕ)) (ps qs : KnownPages) → IsHeader second header → AreRead (header ∷ front) ps → AreRead (header ∷ back) qs → ((url : List ℕ) → has qs url ≡ true → has ps url ≡ false) → AreRead (header ∷ front ++ back) (ps ++ qs)
joined second header front back ps qs h p q apart =
    let other = h.other in
    let back_urls : urls qs ≡ page_urls back = q.urls ∙ ap (λ said. cons_option (url_said said) (page_urls back)) other in
    let apart_lines : (url : List ℕ) → list_any (is_page_at url) back ≡ true → list_any (is_page_at url) front ≡ false =
    λ url there. (or_parts (is_page_at url header) (list_any (is_page_at url) front) (sym (known_urls ps (header ∷ front) url p.urls) ∙ apart url (known_urls qs back url back_urls ∙ there))).1 in
    let none : list_any is_page (header ∷ []) ≡ false = ap (λ said. says_page said || false) other in
    let following : SoundAfter error_after (header ∷ front ++ []) back = sound_after header front [] back other apart_lines q.sound.1 in
    record {
      sound = (h.sound, sound_append (header ∷ []) front back p.sound.1 (subst (λ ls. SoundAfter error_after (header ∷ ls) back) (append-nil front) following));
      urls = map-append (λ (page : PageRead). page.url) ps qs ∙ (λ i. p.urls i ++ back_urls i) ∙ sym (filter_map-append page_url (header ∷ front) back);
      found = λ url. found_in_both header front back ps qs url other p q (unlinked (header ∷ []) back (omega arith) none q.sound.1) (lines_after (header ∷ front) url) refl;
    }

-- the pages of two chunks are those of both together
pub both_read : (second : Bool) (all front back : List (List ℕ)) (ps qs : KnownPages) (both : Option KnownPages) → all ≡ front ++ back → AreReadAfter second front ps → AreReadAfter second back qs → IfSome both (λ web. web ≡ ps ++ qs) → IfSome both (λ _. (url : List ℕ) → has qs url ≡ true → has ps url ≡ false) → IfSome both (AreReadAfter second all)
both_read second all front back ps qs None split first later whole apart = tt
both_read second all front back ps qs (Some web) split first later whole apart = λ header h.
    let read = joined second header front back ps qs h (first header h) (later header h) apart in
    let P : List (List ℕ) → Type 0 = λ ls. AreRead (header ∷ ls) web in
    subst P (sym split) (subst (AreRead (header ∷ front ++ back)) (sym whole) read)

pub at_some : {X : Type 0} (P : X → Type 0) {r : Option X} {x : X} → r ≡ Some x → IfSome r P → P x
at_some P is some = subst (λ o. IfSome o P) is some
