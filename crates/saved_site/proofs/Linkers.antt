-- One page more of those whose links are the indices of URLs.
use Rattle.saved_site.proofs.Prelude.{◌≡◌, ℕ, Bool, true, false, List, [], ◌∷◌, ◌++◌, length, length-append, append-nil, not, Option, is_some, refl, sym, ap, subst, ◌∙◌, arith, if◌then◌else◌, cond-true, map_push, All-push, KeepIndices, Page, index_of, is_next, PageFound, page_with, found_of, IsKept, AreKept, with_found, page_led, found_in, found_all, IsLed, AreLed, urls_of, under_page, IsPage, LinkedPage, SitePage}
use Rattle.std.proofs.lemmas.Bool.Decides.{nat_tests}
use Rattle.std.specs.Option.{option_to_list}
use Rattle.std.specs.Prelude.{nat_lt}
use Rattle.document_links.specs.declared.anchors.PageAnchors.{PageAnchors}
use Rattle.saved_site.proofs.LedPages.{all_led_still, has_found, same_found}
use Rattle.saved_site.specs.Served.{entry_of}

abbrev pub with_one : List LinkedPage → LinkedPage → List LinkedPage
with_one list one = if is_some (index_of (urls_of list) one.url) then list else list ++ one ∷ []

pub led_one : (old new : List (List ℕ)) (list longer : List LinkedPage) (one : LinkedPage) → longer ≡ with_one list one → KeepIndices old new → AreLed old list → IsLed new one.leads → AreLed new longer
led_one old new list longer one is keep led own =
    subst (AreLed new) (sym is) (by_has (is_some (index_of (urls_of list) one.url)) (all_led_still old new list keep led))
  where
    by_has : (b : Bool) → AreLed new list → AreLed new (if b then list else list ++ one ∷ [])
    by_has true all = all
    by_has false all = All-push (λ (p : LinkedPage). IsLed new p.leads) list one all own

-- what is found of them with one more
pub found_with : (top : List ℕ) (old new : List (List ℕ)) (list longer : List LinkedPage) (one : LinkedPage) (page : SitePage) → longer ≡ with_one list one → KeepIndices old new → AreLed old list → found_in new one ≡ found_of page → is_next top [] page.url ≡ true → found_all new longer ≡ with_found top (found_all old list) (found_of page)
found_with top old new list longer one page is keep led own kept = grind (arith, has_found, same_found, cond-true, map_push)

pub kept_with : (serves : SitePage → Type 0) (top : List ℕ) (pages longer : List PageFound) (page : SitePage) → longer ≡ with_found top pages (found_of page) → AreKept serves top pages → IsPage page → is_next top [] page.url ≡ true → ∥ serves page ∥₁ → AreKept serves top longer
kept_with serves top pages longer page is all fit kept served =
    let own : IsKept serves top (found_of page) = record { page = page; is = refl; fit = fit; kept = kept; served = served } in
    subst (AreKept serves top) (sym (is ∙ cond-true (is_next top [] page.url) _ _ kept)) (by_has (is_some (page_with pages page.url)) own)
  where
    by_has : (b : Bool) → IsKept serves top (found_of page) → AreKept serves top (if b then pages else pages ++ found_of page ∷ [])
    by_has true own = all
    by_has false own = All-push (IsKept serves top) pages (found_of page) all own

-- what is known of them with one more
pub record LinkedOne (serves : SitePage → Type 0) (top : List ℕ) (old new : List (List ℕ)) (list longer : List LinkedPage) (page : SitePage) : Type 0 where
  pub led : AreLed new longer
  pub kept : AreKept serves top (found_all new longer)
  pub view : found_all new longer ≡ with_found top (found_all old list) (found_of page)

pub linked_one : (serves : SitePage → Type 0) (top : List ℕ) (old turned new : List (List ℕ)) (list longer : List LinkedPage) (one : LinkedPage) (page : SitePage) (base : List ℕ) → longer ≡ with_one list one → turned ≡ old → KeepIndices turned new → AreLed old list → AreKept serves top (found_all old list)
    → one.url ≡ page.url → base ≡ page.url → page_led new one.leads ≡ under_page base page.under → IsLed new one.leads → IsPage page → is_next top [] page.url ≡ true → ∥ serves page ∥₁ → LinkedOne serves top old new list longer page
linked_one serves top old turned new list longer one page base is same keep_turned led all url base_is page_is own fit kept served =
    let keep : KeepIndices old new = subst (λ (u : List (List ℕ)). KeepIndices u new) same keep_turned in
    let found : found_in new one ≡ found_of page =
    ap (λ (p : Page). (one.url, p)) (page_is ∙ ap (λ (b : List ℕ). under_page b page.under) base_is)
    ∙ ap (λ (u : List ℕ). (u, under_page page.url page.under)) url in
    let view = found_with top old new list longer one page is keep led found kept in
    record {
      led = led_one old new list longer one is keep led own;
      kept = kept_with serves top (found_all old list) (found_all new longer) page view all fit kept served;
      view = view;
    }

-- ---- anchors

-- the list is longer if no page has the URL
is_longer : (list longer : List LinkedPage) (one : LinkedPage) (b : Bool) → is_some (index_of (urls_of list) one.url) ≡ b → longer ≡ (if b then list else list ++ one ∷ []) → nat_lt (length list) (length longer) ≡ not b
is_longer list longer one true has is = ap (λ (l : List LinkedPage). nat_lt (length list) (length l)) is ∙ grind (arith, nat_tests)
is_longer list longer one false has is = ap (λ (l : List LinkedPage). nat_lt (length list) (length l)) is ∙ grind (arith, nat_tests, length-append)

-- the anchors of a page are added if no page has its URL
pub own_added : (urls : List (List ℕ)) (list longer : List LinkedPage) (one : LinkedPage) (page : SitePage) (entries more : List PageAnchors) (own : Option PageAnchors) → longer ≡ with_one list one → one.url ≡ page.url → own ≡ entry_of page
    → more ≡ entries ++ (if nat_lt (length list) (length longer) then option_to_list own else []) → more ≡ (if is_some (page_with (found_all urls list) page.url) then entries else entries ++ option_to_list (entry_of page))
own_added urls list longer one page entries more own is url own_is more_is =
    let new : nat_lt (length list) (length longer) ≡ not (is_some (index_of (urls_of list) one.url)) = is_longer list longer one (is_some (index_of (urls_of list) one.url)) refl is in
    let has : is_some (index_of (urls_of list) one.url) ≡ is_some (page_with (found_all urls list) page.url) =
    sym (has_found urls list one.url) ∙ ap (λ (u : List ℕ). is_some (page_with (found_all urls list) u)) url in
    more_is ∙ ap (λ b. entries ++ (if b then option_to_list own else [])) (new ∙ ap not has)
    ∙ turned (is_some (page_with (found_all urls list) page.url)) ∙ ap (λ (o : Option PageAnchors). if is_some (page_with (found_all urls list) page.url) then entries else entries ++ option_to_list o) own_is
  where
    turned : (b : Bool) → entries ++ (if not b then option_to_list own else []) ≡ (if b then entries else entries ++ option_to_list own)
    turned true = append-nil entries
    turned false = refl
