-- The saved web of pages has at each URL the page that these have.
use Rattle.saved_site.proofs.Prelude.{◌≡◌, ℕ, true, List, [], ◌∷◌, ◌++◌, Option, Some, None, codes, refl, ap, ◌∙◌, arith, false, flat_map, lines, and_parts, cases_Bool, cond-true, cond-false, Line, under_page, page_in, web_text, fits_under, fits, all_fit, SitePage, Under, Links, Moved, bytes_eq-Decides, is_below}
use Rattle.saved_pages.specs.SavedWeb.{lines_after, put_link, link_texts, put_moved, moved_text, page_with, page_after, page_of}
use Rattle.saved_site.proofs.Says as lemma
use Rattle.saved_site.proofs.Sound.{AllPages, links, under_lines, page_lines, at_page, at_header, web_cut}
use Rattle.crawl_pages.specs.declared.page.Page.TheVariants as page

-- ---- what belongs to a page, with the next pages after it

no_move : (pages : List SitePage) → AllPages pages → moved_text (flat_map page_lines pages) ≡ None
no_move [] all = refl
no_move (page ∷ more) all =
    ap (λ (said : Line (List ℕ)). put_moved said (moved_text (under_lines page.under ++ flat_map page_lines more))) (lemma.says_page page.url all.0.fit).of_line

no_link : (pages : List SitePage) → AllPages pages → link_texts (flat_map page_lines pages) ≡ []
no_link [] all = refl
no_link (page ∷ more) all =
    ap (λ (said : Line (List ℕ)). put_link said (link_texts (under_lines page.under ++ flat_map page_lines more))) (lemma.says_page page.url all.0.fit).of_line

links_no_move : (texts : List (List ℕ)) (pages : List SitePage) → all_fit texts ≡ true → AllPages pages → moved_text (links texts ++ flat_map page_lines pages) ≡ None
links_no_move [] pages fit all = no_move pages all
links_no_move (text ∷ more) pages fit all =
    let both = and_parts (fits 5 text) (all_fit more) fit in
    ap (λ (said : Line (List ℕ)). put_moved said (moved_text (links more ++ flat_map page_lines pages))) (lemma.says_link text both.0).of_line

links_texts : (texts : List (List ℕ)) (pages : List SitePage) → all_fit texts ≡ true → AllPages pages → link_texts (links texts ++ flat_map page_lines pages) ≡ texts
links_texts [] pages fit all = no_link pages all
links_texts (text ∷ more) pages fit all =
    let both = and_parts (fits 5 text) (all_fit more) fit in
    ap (λ (said : Line (List ℕ)). put_link said (link_texts (links more ++ flat_map page_lines pages))) (lemma.says_link text both.0).of_line
    ∙ ap (λ (ts : List (List ℕ)). text ∷ ts) (links_texts more pages both.1 all)

under_is : (under : Under) (pages : List SitePage) (url : List ℕ) → fits_under under ≡ true → AllPages pages → page_after url (Some (under_lines under ++ flat_map page_lines pages)) ≡ under_page url under
under_is (Links texts) pages url fit all =
    ap (λ (o : Option (List ℕ)). page_with url o (link_texts (links texts ++ flat_map page_lines pages))) (links_no_move texts pages fit all)
    ∙ ap (λ (ts : List (List ℕ)). page_with url None ts) (links_texts texts pages fit all)
under_is (Moved text) pages url fit all =
    let after : List (List ℕ) = flat_map page_lines pages in
    ap (λ (said : Line (List ℕ)). page_with url (put_moved said (moved_text after)) (link_texts ((codes "moved " ++ text) ∷ after))) (lemma.says_moved text fit).of_line

-- ---- no page begins under another

links_skipped : (texts : List (List ℕ)) (rest : List (List ℕ)) (url : List ℕ) → all_fit texts ≡ true → lines_after (links texts ++ rest) url ≡ lines_after rest url
links_skipped [] rest url fit = refl
links_skipped (text ∷ more) rest url fit = grind (arith, and_parts, cond-false, links, links_skipped more rest url)

under_skipped : (under : Under) (rest : List (List ℕ)) (url : List ℕ) → fits_under under ≡ true → lines_after (under_lines under ++ rest) url ≡ lines_after rest url
under_skipped under rest url fit = grind (arith, links_skipped, cond-false)

-- ---- all pages

pages_at : (pages : List SitePage) (url : List ℕ) → AllPages pages → page_after url (lines_after (flat_map page_lines pages) url) ≡ page_in pages url
pages_at [] url all = refl
pages_at (page ∷ more) url all = grind (arith, under_lines, page_lines, cases_Bool, cond-true, at_page, under_is, cond-false, under_skipped, pages_at more url all.1)

pub web_at : (pages : List SitePage) (url : List ℕ) → AllPages pages → page_of (lines (web_text pages)) url ≡ page_in pages url
web_at pages url all = grind (arith, page_lines, web_cut, cond-false, at_header, pages_at)

-- Pages below a top

-- all pages are below the top
abbrev pub AreBelow : List ℕ → List SitePage → Type 0
AreBelow top [] = Unit {0}
AreBelow top (page ∷ more) = (is_below top page.url ≡ true) × AreBelow top more

pub none_outside : (top : List ℕ) (pages : List SitePage) (url : List ℕ) → AreBelow top pages → is_below top url ≡ false → page_in pages url ≡ page.Missing
none_outside top [] url all out = refl
none_outside top (first ∷ more) url all out = grind (arith, cond-false, none_outside top more url all.1 out, cases_Bool, bytes_eq-Decides)
