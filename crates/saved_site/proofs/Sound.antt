-- The lines of pages in order are a saved web.
use Rattle.saved_site.proofs.Prelude.{◌≡◌, ℕ, ◌+◌, ◌<◌, Bool, true, false, ◌||◌, List, [], ◌∷◌, ◌++◌, length, Some, None, codes, refl, sym, ap, subst, ◌∙◌, arith, append_assoc, append-nil, length-append, Result, if◌then◌else◌, slice_cmp, list_any, flat_map, option_map_or, is_lt, is_eq, nat_cmp, Ordering, bytes_eq, lines, Less, and_parts, or_from, cond-true, cond-false, nat_list_cmp_total, is_eq-slice_cmp, says_page, says_moved, url_said, is_page, is_moved_line, is_link, is_page_at, Line, fits_inner, under_text, page_text, web_text, is_after, AscendsAfter, fits_under, IsPage, page_line, link_line, link_lines, fits, all_fit, SitePage, Under, Links, Moved}
use Rattle.std.specs.Result.{result_ok}
use Rattle.std.proofs.lemmas.List.Folds.{list_any-append}
use Rattle.crawl_keys.specs.declared.error.KeyError.{KeyError}
use Rattle.saved_pages.proofs.WebLines.{under_more}
use Rattle.text_lines.specs.LeastError.{SoundAfter}
use Rattle.saved_pages.specs.WebErrors.{is_second, under_last_page, before, error_after, IsSound}
use Rattle.saved_pages.specs.WebChecks.{page_error, under_error, content_error, text_error}
use Rattle.saved_pages.specs.declared.error.WebError.{WebError}
use Rattle.saved_pages.specs.declared.error.WebError.TheVariants as wrong
use Rattle.saved_pages.specs.declared.line.Line.TheVariants as line_says
use Rattle.saved_site.proofs.Lines.{first_line, line_on}
use Rattle.saved_site.proofs.Says as lemma
use Rattle.saved_site.proofs.Says.{Says}

-- ---- the lines

abbrev pub links : List (List ℕ) → List (List ℕ)
links [] = []
links (text ∷ more) = (codes "link " ++ text) ∷ links more

abbrev pub under_lines : Under → List (List ℕ)
under_lines (Links texts) = links texts
under_lines (Moved text) = (codes "moved " ++ text) ∷ []

abbrev pub page_lines : SitePage → List (List ℕ)
page_lines page = (codes "page " ++ page.url) ∷ under_lines page.under

abbrev pub AllPages : List SitePage → Type 0
AllPages [] = Unit {0}
AllPages (page ∷ more) = IsPage page × AllPages more

links_cut : (texts : List (List ℕ)) (rest : List ℕ) → all_fit texts ≡ true → lines (link_lines texts ++ rest) ≡ links texts ++ lines rest
links_cut [] rest fit = refl
links_cut (text ∷ more) rest fit =
    let both = and_parts (fits 5 text) (all_fit more) fit in
    ap lines (append_assoc (link_line text) (link_lines more) rest ∙ line_on (codes "link ") text (link_lines more ++ rest))
    ∙ first_line (codes "link " ++ text) (link_lines more ++ rest) (fits_inner 5 text both.0)
    ∙ ap (λ (ls : List (List ℕ)). (codes "link " ++ text) ∷ ls) (links_cut more rest both.1)

under_cut : (under : Under) (rest : List ℕ) → fits_under under ≡ true → lines (under_text under ++ rest) ≡ under_lines under ++ lines rest
under_cut (Links texts) rest fit = links_cut texts rest fit
under_cut (Moved text) rest fit =
    ap lines (line_on (codes "moved ") text rest) ∙ first_line (codes "moved " ++ text) rest (fits_inner 6 text fit)

pages_cut : (pages : List SitePage) → AllPages pages → lines (flat_map page_text pages) ≡ flat_map page_lines pages
pages_cut [] all = refl
pages_cut (page ∷ more) all =
    let rest : List ℕ = flat_map page_text more in
    ap lines (append_assoc (page_line page.url) (under_text page.under) rest ∙ line_on (codes "page ") page.url (under_text page.under ++ rest))
    ∙ first_line (codes "page " ++ page.url) (under_text page.under ++ rest) (fits_inner 5 page.url all.0.fit)
    ∙ ap (λ (ls : List (List ℕ)). (codes "page " ++ page.url) ∷ ls) (under_cut page.under rest all.0.under_fit ∙ ap (λ (ls : List (List ℕ)). under_lines page.under ++ ls) (pages_cut more all.1))

pub web_cut : (pages : List SitePage) → AllPages pages → lines (web_text pages) ≡ codes "savedweb 2" ∷ flat_map page_lines pages
web_cut pages all = grind (arith, first_line, pages_cut)

-- ---- one line

-- a line after others fails what it says
said_of : (earlier : List (List ℕ)) (line : List ℕ) (said : Line (List ℕ)) → 0 < length earlier → Says line said → error_after earlier line ≡ content_error (before earlier) said
said_of earlier line said some is = grind (arith, cond-false)

passes : (number : ℕ) (some mixed : Bool) → some ≡ true → mixed ≡ false → under_error number some mixed ≡ None
passes number some mixed page free = grind arith

page_passes : (b : Bool) (error : WebError) → b ≡ false → (if b then Some error else None) ≡ None
page_passes b error new = cond-false b (Some error) None new

-- ---- the lines under a page

-- after these lines comes a page, and no redirect belongs to it
record OnPage (earlier : List (List ℕ)) : Type 0 where
  some : 0 < length earlier
  page : list_any is_page earlier ≡ true
  free : list_any is_moved_line (under_last_page earlier) ≡ false

on_page_link : (earlier : List (List ℕ)) (text : List ℕ) → fits 5 text ≡ true → OnPage earlier → OnPage (earlier ++ (codes "link " ++ text) ∷ [])
on_page_link earlier text fit on = grind (arith, length-append, under_more, cond-false, list_any-append)

links_sound : (earlier : List (List ℕ)) (texts : List (List ℕ)) → all_fit texts ≡ true → OnPage earlier → SoundAfter error_after earlier (links texts)
links_sound earlier [] fit on = tt
links_sound earlier (text ∷ more) fit on =
    let both = and_parts (fits 5 text) (all_fit more) fit in
    let line : List ℕ = codes "link " ++ text in (
      said_of earlier line (line_says.Link text) on.some (lemma.says_link text both.0)
          ∙ passes (length earlier + 1) (list_any is_page earlier) (list_any is_moved_line (under_last_page earlier)) on.page on.free,
      links_sound (earlier ++ line ∷ []) more both.1 (on_page_link earlier text both.0 on),
    )

-- ---- a page with its lines

-- the lines are a saved web of version 2, and no page in them is after this URL
record UpTo (earlier : List (List ℕ)) (last : List ℕ) : Type 0 where
  some : 0 < length earlier
  second : is_second earlier ≡ true
  known : (url : List ℕ) → is_after last url ≡ true → list_any (is_page_at url) earlier ≡ false

second_push : (earlier more : List (List ℕ)) → 0 < length earlier → is_second earlier ≡ true → is_second (earlier ++ more) ≡ true
second_push earlier more some second = grind arith

moved_passes : (number : ℕ) (second some link moved : Bool) (error : WebError) → second ≡ true → some ≡ true → link ≡ false → moved ≡ false → (if second then under_error number some (link || moved) else Some error) ≡ None
moved_passes number second some link moved error is page no_link no_move = grind (arith, cond-true, or_from)

page_there : (earlier : List (List ℕ)) (page : List ℕ) → is_page page ≡ true → list_any is_page (earlier ++ page ∷ []) ≡ true
page_there earlier page is = grind (arith, list_any-append)

under_none : (earlier : List (List ℕ)) (page : List ℕ) → is_page page ≡ true → under_last_page (earlier ++ page ∷ []) ≡ []
under_none earlier page is = grind (arith, under_more, cond-true)

under_sound : (earlier : List (List ℕ)) (page : List ℕ) (under : Under) → is_second (earlier ++ page ∷ []) ≡ true → is_page page ≡ true → fits_under under ≡ true → SoundAfter error_after (earlier ++ page ∷ []) (under_lines under)
under_sound earlier page (Links texts) second is fit =
    links_sound (earlier ++ page ∷ []) texts fit (record {
      some = omega (arith, length-append earlier (page ∷ []));
      page = page_there earlier page is;
      free = ap (list_any is_moved_line) (under_none earlier page is);
    })
under_sound earlier page (Moved text) second is fit = (
  said_of (earlier ++ page ∷ []) (codes "moved " ++ text) (line_says.Moved text) (omega (arith, length-append earlier (page ∷ []))) (lemma.says_moved text fit)
      ∙ moved_passes (length (earlier ++ page ∷ []) + 1) (is_second (earlier ++ page ∷ [])) (list_any is_page (earlier ++ page ∷ [])) (list_any is_link (under_last_page (earlier ++ page ∷ []))) (list_any is_moved_line (under_last_page (earlier ++ page ∷ []))) (wrong.BadLine (length (earlier ++ page ∷ []) + 1)) second (page_there earlier page is) (ap (list_any is_link) (under_none earlier page is)) (ap (list_any is_moved_line) (under_none earlier page is)),
  tt,
)

-- ---- URLs in order

lt_less : (o : Ordering) → is_lt o ≡ true → o ≡ Less
lt_less o e = grind arith

after_both : (a b c : List ℕ) → is_after a b ≡ true → is_after b c ≡ true → is_after a c ≡ true
after_both a b c e f =
    ap is_lt (nat_list_cmp_total.trans a b c (lt_less (slice_cmp nat_cmp a b) e) (lt_less (slice_cmp nat_cmp b c) f))

-- a URL that is after another is not that one
after_other : (a b : List ℕ) → is_after a b ≡ true → bytes_eq a b ≡ false
after_other a b e = sym (is_eq-slice_cmp a b) ∙ ap is_eq (lt_less (slice_cmp nat_cmp a b) e)

-- ---- which pages the lines are

pub at_page : (page : SitePage) (url : List ℕ) → IsPage page → is_page_at url (codes "page " ++ page.url) ≡ bytes_eq page.url url
at_page page url is =
    ap (λ (said : Line (List ℕ)). option_map_or (λ (own : List ℕ). bytes_eq own url) (url_said said) false) (lemma.says_page page.url is.fit).of_line
    ∙ ap (λ (text : Result (List ℕ) KeyError). option_map_or (λ (own : List ℕ). bytes_eq own url) (result_ok text) false) is.own

none_links : (texts : List (List ℕ)) (url : List ℕ) → all_fit texts ≡ true → list_any (is_page_at url) (links texts) ≡ false
none_links [] url fit = refl
none_links (text ∷ more) url fit = grind (arith, and_parts, or_from, none_links more url)

none_under : (under : Under) (url : List ℕ) → fits_under under ≡ true → list_any (is_page_at url) (under_lines under) ≡ false
none_under under url fit = grind (arith, none_links, or_from)

none_page : (page : SitePage) (url : List ℕ) → IsPage page → is_after page.url url ≡ true → list_any (is_page_at url) (page_lines page) ≡ false
none_page page url is after = grind (arith, or_from, at_page, after_other, none_under)

up_to_page : (earlier : List (List ℕ)) (last : List ℕ) (page : SitePage) → IsPage page → is_after last page.url ≡ true → UpTo earlier last → UpTo (earlier ++ page_lines page) page.url
up_to_page earlier last page is after to = grind (arith, length-append, second_push, list_any-append, or_from, after_both, none_page)

-- ---- all pages

is_page_line : (page : SitePage) → IsPage page → is_page (codes "page " ++ page.url) ≡ true
is_page_line page is = ap says_page (lemma.says_page page.url is.fit).of_line

-- the page's own line passes
own_passes : (earlier : List (List ℕ)) (last : List ℕ) (page : SitePage) → IsPage page → is_after last page.url ≡ true → UpTo earlier last → error_after earlier (codes "page " ++ page.url) ≡ None
own_passes earlier last page is after to =
    said_of earlier (codes "page " ++ page.url) (line_says.Page page.url) to.some (lemma.says_page page.url is.fit)
    ∙ ap (page_error (length earlier + 1) (λ (url : List ℕ). list_any (is_page_at url) earlier)) is.own
    ∙ page_passes (list_any (is_page_at page.url) earlier) (wrong.PageTwice (length earlier + 1)) (to.known page.url after)

sound_join : (earlier xs ys : List (List ℕ)) → SoundAfter error_after earlier xs → SoundAfter error_after (earlier ++ xs) ys → SoundAfter error_after earlier (xs ++ ys)
sound_join earlier [] ys front back =
    let P : List (List ℕ) → Type 0 = λ e. SoundAfter error_after e ys in subst P (append-nil earlier) back
sound_join earlier (x ∷ xs) ys front back =
    let P : List (List ℕ) → Type 0 = λ e. SoundAfter error_after e ys in
    (front.0, sound_join (earlier ++ x ∷ []) xs ys front.1 (subst P (sym (append_assoc earlier (x ∷ []) xs)) back))

page_sound : (earlier : List (List ℕ)) (last : List ℕ) (page : SitePage) → IsPage page → is_after last page.url ≡ true → UpTo earlier last → SoundAfter error_after earlier (page_lines page)
page_sound earlier last page is after to = grind (arith, own_passes, under_sound, second_push, is_page_line)

pages_sound : (earlier : List (List ℕ)) (last : List ℕ) (pages : List SitePage) → AllPages pages → AscendsAfter last pages → UpTo earlier last → SoundAfter error_after earlier (flat_map page_lines pages)
pages_sound earlier last [] all up to = tt
pages_sound earlier last (page ∷ more) all up to =
    sound_join earlier (page_lines page) (flat_map page_lines more) (page_sound earlier last page all.0 up.0 to)
    (pages_sound (earlier ++ page_lines page) page.url more all.1 up.1 (up_to_page earlier last page all.0 up.0 to))

header_sound : error_after [] (codes "savedweb 2") ≡ None
header_sound = ap (text_error (before [])) (lemma.says_header.reads 1)

-- the first line is no page
pub at_header : (url : List ℕ) → is_page_at url (codes "savedweb 2") ≡ false
at_header url = grind arith

header_first : UpTo (codes "savedweb 2" ∷ []) []
header_first = grind arith

pub web_sound : (pages : List SitePage) → AllPages pages → AscendsAfter [] pages → IsSound (lines (web_text pages))
web_sound pages all up = grind (arith, web_cut, header_sound, pages_sound, header_first)
