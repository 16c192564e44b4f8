-- The text of a saved web, page by page.
use Rattle.saved_site.proofs.Prelude.{common_steps, ◌≡◌, ℕ, ◌+◌, ◌<◌, true, List, [], ◌∷◌, ◌++◌, Option, codes, get_or, length, take, refl, sym, ap, subst, ◌∙◌, arith, Appends, append_known, flat_map, and_parts, cond-true, flat_map_more, take_more, IsWebBelow, is_next, IsSiteWeb, page_in, page_text, web_text, is_after, ascending_after, AscendsAfter, IsPage, AreInOrder, IsPageText, TextAt, last_url, web_bytes, SitePage, is_below}
use Rattle.saved_site.proofs.Found.{AreBelow, none_outside, web_at}
use Rattle.saved_site.proofs.Sound.{AllPages, web_sound}

-- ---- pages that ascend

all_taken : (last : List ℕ) (pages : List SitePage) → AscendsAfter last pages → ascending_after last pages ≡ pages
all_taken last [] up = refl
all_taken last (page ∷ pages) up = grind (arith, cond-true, all_taken page.url pages up.1)

-- they are read as a saved web
pub site_web : (pages : List SitePage) → AllPages pages → AscendsAfter [] pages → IsSiteWeb (web_text pages)
site_web pages all up =
    let taken = all_taken [] pages up in
    record {
      pages = pages;
      written = ap web_text (sym taken);
      sound = web_sound pages all up;
      read = λ url. web_at pages url all ∙ ap (λ (ps : List SitePage). page_in ps url) (sym taken);
    }

pub site_below : (top : List ℕ) (pages : List SitePage) → AllPages pages → AreBelow top pages → IsWebBelow top (web_text pages)
site_below top pages all below = record { none = λ url out. web_at pages url all ∙ none_outside top pages url below out }

-- ---- their texts

pub text_of : (page : SitePage) (url text : List ℕ) → url ≡ page.url → text ≡ page_text page → IsPage page → IsPageText url text
text_of page url text there is fit = record { page = page; there = sym there; printed = sym is; fit = fit }

pub last_is : (last : List ℕ) (texts : List TextAt) (text : TextAt) → last_url last (texts ++ text ∷ []) ≡ text.0
last_is last [] text = refl
last_is last (first ∷ more) text = last_is first.0 more text

-- one text more
pub texts_push : (top last : List ℕ) (texts : List TextAt) (text : TextAt) → AreInOrder top last texts → IsPageText text.0 text.1 → is_next top (last_url last texts) text.0 ≡ true → AreInOrder top last (texts ++ text ∷ [])
texts_push top last [] text all is next = (is, (next, tt))
texts_push top last (first ∷ more) text all is next = (all.0, (all.1.0, texts_push top first.0 more text all.1.1 is next))

-- the pages whose texts they are
record TextPages (top last : List ℕ) (texts : List TextAt) : Type 0 where
  pages : List SitePage
  text : flat_map (λ (t : TextAt). t.1) texts ≡ flat_map page_text pages
  all : AllPages pages
  up : AscendsAfter last pages
  below : AreBelow top pages

text_pages : (top last : List ℕ) (texts : List TextAt) → AreInOrder top last texts → TextPages top last texts
text_pages top last [] all = record { pages = []; text = refl; all = tt; up = tt; below = tt }
text_pages top last (first ∷ more) all =
    let is = all.0 in
    let rest = text_pages top first.0 more all.1.1 in
    let next = and_parts (is_after last first.0) (is_below top first.0) all.1.0 in
    record {
      pages = is.page ∷ rest.pages;
      text =
          ap (λ (b : List ℕ). b ++ flat_map (λ (t : TextAt). t.1) more) (sym is.printed)
          ∙ ap (λ (b : List ℕ). page_text is.page ++ b) rest.text;
      all = (is.fit, rest.all);
      up = subst (λ (u : List ℕ). (is_after last u ≡ true) × AscendsAfter u rest.pages) (sym is.there) (next.0, rest.up);
      below = (subst (λ (u : List ℕ). is_below top u ≡ true) (sym is.there) next.1, rest.below);
    }

bytes_of : (top : List ℕ) (texts : List TextAt) (all : AreInOrder top [] texts) → web_text (text_pages top [] texts all).pages ≡ web_bytes texts
bytes_of top texts all = ap (λ (b : List ℕ). codes "savedweb 2" ++ 10 ∷ b) (sym (text_pages top [] texts all).text)

pub text_web : (top : List ℕ) (texts : List TextAt) → AreInOrder top [] texts → IsSiteWeb (web_bytes texts)
text_web top texts all = grind (arith, text_pages, all_taken, web_sound, web_at)

pub text_below : (top : List ℕ) (texts : List TextAt) → AreInOrder top [] texts → IsWebBelow top (web_bytes texts)
text_below top texts all =
    let p = text_pages top [] texts all in subst (IsWebBelow top) (bytes_of top texts all) (site_below top p.pages p.all p.below)

-- ---- they are written

-- one text more
pub bytes_more : (texts : List TextAt) (i : ℕ) (text : TextAt) → i < length texts → text ≡ get_or texts i text → web_bytes (take i texts) ++ text.1 ≡ web_bytes (take (i + 1) texts)
bytes_more texts i text below is = grind (arith, common_steps, flat_map_more, take_more)

-- the last room is written
pub room_ended : (a b c : Option (List ℕ)) (room text : List ℕ) → Appends a (append_known b room) text → Appends b c room → Appends a c text
room_ended a b c room text p q = grind arith
