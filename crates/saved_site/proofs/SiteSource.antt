-- The pages of a site are those of its saved web, whatever order they come in.
use Rattle.saved_site.proofs.Prelude.{◌≡◌, ℕ, Bool, true, List, [], ◌∷◌, refl, sym, ap, ◌∙◌, arith, if◌then◌else◌, slice_cmp, is_lt, is_eq, nat_cmp, ordering_reverse, Ordering, Less, Equal, Greater, bytes_eq, and_parts, nat_list_cmp_total, tied_itself, All-head, All-tail, is_eq-slice_cmp, bytes_eq-Decides, Page, PageFound, page_at, IsKept, AreKept, IsSiteSource, page_in, under_page, web_text, is_after, AscendsAfter, IsPage, SitePage, is_below}
use Rattle.saved_site.proofs.Found.{AreBelow, web_at}
use Rattle.saved_site.proofs.Sound.{AllPages}
use Rattle.saved_site.proofs.WebTexts.{site_below, site_web}

-- ---- a page among those that ascend

abbrev put_by : Ordering → SitePage → SitePage → List SitePage → List SitePage → List SitePage
put_by Less page first more later = page ∷ first ∷ more
put_by Equal page first more later = page ∷ more
put_by Greater page first more later = first ∷ later

-- the page in order, in place of one at its URL
abbrev put : SitePage → List SitePage → List SitePage
put page [] = page ∷ []
put page (first ∷ more) = put_by (slice_cmp nat_cmp page.url first.url) page first more (put page more)

after_back : (page first : SitePage) → slice_cmp nat_cmp page.url first.url ≡ Greater → is_after first.url page.url ≡ true
after_back page first is = ap is_lt (nat_list_cmp_total.antisymm first.url page.url ∙ ap ordering_reverse is)

one_url : (page first : SitePage) → slice_cmp nat_cmp page.url first.url ≡ Equal → page.url ≡ first.url
one_url page first is = (bytes_eq-Decides page.url first.url).0 (sym (is_eq-slice_cmp page.url first.url) ∙ ap is_eq is)

other_url : (page first : SitePage) (url : List ℕ) → slice_cmp nat_cmp page.url first.url ≡ Greater → bytes_eq page.url url ≡ true → bytes_eq first.url url ≡ true → ⊥
other_url page first url is own its = grind (arith, bytes_eq-Decides, tied_itself, nat_list_cmp_total)

-- ---- what holds of all

all_put : (page : SitePage) (pages : List SitePage) → IsPage page → AllPages pages → AllPages (put page pages)
all_put page [] is all = (is, tt)
all_put page (first ∷ more) is all = grind (arith, all_put page more is all.1)

below_put : (top : List ℕ) (page : SitePage) (pages : List SitePage) → is_below top page.url ≡ true → AreBelow top pages → AreBelow top (put page pages)
below_put top page [] is all = (is, tt)
below_put top page (first ∷ more) is all = grind (arith, below_put top page more is all.1)

-- ---- they ascend

up_put : (last : List ℕ) (page : SitePage) (pages : List SitePage) → is_after last page.url ≡ true → AscendsAfter last pages → AscendsAfter last (put page pages)
up_put last page [] after up = (after, tt)
up_put last page (first ∷ more) after up = grind (arith, up_put first.url page more, one_url, after_back)

-- ---- the page at a URL

first_of_two : {X : Type 0} (b f : Bool) (p q r : X) → (b ≡ true → f ≡ true → ⊥) → (if f then q else (if b then p else r)) ≡ (if b then p else (if f then q else r))
first_of_two b f p q r never = grind arith

one_of_two : {X : Type 0} (b f : Bool) (p q r : X) → f ≡ b → (if b then p else r) ≡ (if b then p else (if f then q else r))
one_of_two b f p q r is = grind arith

in_put : (page : SitePage) (pages : List SitePage) (url : List ℕ) → page_in (put page pages) url ≡ (if bytes_eq page.url url then under_page url page.under else page_in pages url)
in_put page [] url = refl
in_put page (first ∷ more) url = grind (arith, in_put page more url, one_of_two, one_url, first_of_two, other_url)

-- ---- all pages in order

record Ordered (top : List ℕ) (pages : List PageFound) : Type 0 where
  list : List SitePage
  all : AllPages list
  up : AscendsAfter [] list
  below : AreBelow top list
  same : (url : List ℕ) → page_in list url ≡ page_at pages url

same_under : (page : SitePage) (url : List ℕ) (b : Bool) (rest : Page) → bytes_eq page.url url ≡ b → (if b then under_page url page.under else rest) ≡ (if b then under_page page.url page.under else rest)
same_under page url b rest is = grind (arith, bytes_eq-Decides)

ordered : (serves : SitePage → Type 0) (top : List ℕ) (pages : List PageFound) → AreKept serves top pages → Ordered top pages
ordered serves top [] kept = record { list = []; all = tt; up = tt; below = tt; same = λ url. refl }
ordered serves top (found ∷ more) kept =
    let own : IsKept serves top found = All-head (IsKept serves top) found more kept in
    let rest : Ordered top more = ordered serves top more (All-tail (IsKept serves top) found more kept) in
    let page : SitePage = own.page in
    let keeps = and_parts (is_after [] page.url) (is_below top page.url) own.kept in
    record {
      list = put page rest.list;
      all = all_put page rest.list own.fit rest.all;
      up = up_put [] page rest.list keeps.0 rest.up;
      below = below_put top page rest.list keeps.1 rest.below;
      same = λ url.
          in_put page rest.list url
          ∙ ap (λ (r : Page). if bytes_eq page.url url then under_page url page.under else r) (rest.same url)
          ∙ same_under page url (bytes_eq page.url url) (page_at more url) refl
          ∙ ap (λ (f : PageFound). page_at (f ∷ more) url) (sym own.is);
    }

pub site_source : (serves : SitePage → Type 0) (top : List ℕ) (pages : List PageFound) → AreKept serves top pages → IsSiteSource top pages
site_source serves top pages kept =
    let o = ordered serves top pages kept in
    record {
      bytes = web_text o.list;
      web = site_web o.list o.all o.up;
      below = site_below top o.list o.all o.below;
      same = λ url. sym (o.same url) ∙ sym (web_at o.list url o.all);
    }
