-- The pages of threads, one after another.
use Rattle.saved_site.proofs.Prelude.{◌≡◌, ℕ, ◌+◌, ◌<◌, Bool, true, false, List, [], ◌∷◌, ◌++◌, length, drop, get_or, Some, None, is_some, refl, sym, ap, subst, ◌∙◌, append-nil, arith, if◌then◌else◌, bytes_eq, flat_map, option_or, unwrap_or, drop_more, flat_map-append, bytes_eq-Decides, All-append, All-head, All-tail, Page, PageFound, page_with, page_at, under_page, IsKept, AreKept, SitePage}
use Rattle.std.specs.Option.{IfSome}
use Rattle.crawl_pages.specs.declared.page.Page.TheVariants as page
use Rattle.saved_site.specs.Served.{AreServed, IsServedAt}

pub with-append : (front back : List PageFound) (url : List ℕ) → page_with (front ++ back) url ≡ option_or (page_with front url) (page_with back url)
with-append [] back url = refl
with-append (first ∷ more) back url = grind (arith, with-append more back url)

-- a thread without the URL is passed over
pub passed_thread : (threads : List (List PageFound)) (i : ℕ) (made : List PageFound) (url : List ℕ) → i < length threads → made ≡ get_or threads i made → None ≡ page_with made url → page_with (flat_map (λ p. p) (drop (i + 1) threads)) url ≡ page_with (flat_map (λ p. p) (drop i threads)) url
passed_thread threads i made url below is none = grind (arith, drop_more, with-append)

-- a thread with the URL has the page
pub found_thread : (threads : List (List PageFound)) (i : ℕ) (made : List PageFound) (url : List ℕ) (x : Page) → i < length threads → made ≡ get_or threads i made → Some x ≡ page_with made url → page_with (flat_map (λ p. p) (drop i threads)) url ≡ Some x
found_thread threads i made url x below is some = grind (arith, drop_more, with-append)

pub has_passed : (threads : List (List PageFound)) (i : ℕ) (made : List PageFound) (url : List ℕ) → i < length threads → made ≡ get_or threads i made → false ≡ is_some (page_with made url) → is_some (page_with (flat_map (λ p. p) (drop (i + 1) threads)) url) ≡ is_some (page_with (flat_map (λ p. p) (drop i threads)) url)
has_passed threads i made url below is none = grind (arith, drop_more, with-append)

pub has_there : (threads : List (List PageFound)) (i : ℕ) (made : List PageFound) (url : List ℕ) → i < length threads → made ≡ get_or threads i made → true ≡ is_some (page_with made url) → is_some (page_with (flat_map (λ p. p) (drop i threads)) url) ≡ true
has_there threads i made url below is some = grind (arith, drop_more, with-append)

-- ---- one thread more

pub threads_push : (serves : SitePage → Type 0) (top : List ℕ) (threads longer : List (List PageFound)) (made : List PageFound) → longer ≡ threads ++ made ∷ [] → AreKept serves top (flat_map (λ p. p) threads) → AreKept serves top made → AreKept serves top (flat_map (λ p. p) longer)
threads_push serves top threads longer made is all own =
    let same : flat_map (λ p. p) longer ≡ flat_map (λ p. p) threads ++ made =
    ap (flat_map (λ p. p)) is ∙ flat_map-append (λ p. p) threads (made ∷ []) ∙ ap (λ (l : List PageFound). flat_map (λ p. p) threads ++ l) (append-nil made) in
    subst (AreKept serves top) (sym same) (All-append (IsKept serves top) (flat_map (λ p. p) threads) made all own)

-- what is found at a URL is a page that is served
pub kept_served : (serves : SitePage → Type 0) (top : List ℕ) (pages : List PageFound) → AreKept serves top pages → AreServed serves pages
kept_served serves top [] kept url = tt
kept_served serves top (found ∷ more) kept url =
    by_test (bytes_eq found.0 url) refl (All-head (IsKept serves top) found more kept) (kept_served serves top more (All-tail (IsKept serves top) found more kept) url)
  where
    by_test : (b : Bool) → bytes_eq found.0 url ≡ b → IsKept serves top found → IfSome (page_with more url) (IsServedAt serves url) → IfSome (if b then Some found.1 else page_with more url) (IsServedAt serves url)
    by_test true same own rest =
        let at : own.page.url ≡ url = sym (ap (λ (f : PageFound). f.0) own.is) ∙ (bytes_eq-Decides found.0 url).0 same in
        record {
          page = own.page;
          own = at;
          is = ap (λ (f : PageFound). f.1) own.is ∙ ap (λ (u : List ℕ). under_page u own.page.under) at;
          served = own.served;
        }
    by_test false same own rest = rest

-- ---- the page at a URL

pub at_with : (pages : List PageFound) (url : List ℕ) → page_at pages url ≡ unwrap_or (page_with pages url) page.Missing
at_with [] url = refl
at_with (first ∷ more) url = grind (arith, at_with more url)
