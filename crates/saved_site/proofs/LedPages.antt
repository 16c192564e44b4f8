-- Pages whose links are the indices of URLs, while more URLs come.
use Rattle.saved_site.proofs.Prelude.{common_steps, ◌≡◌, ℕ, ◌+◌, ◌<◌, List, [], ◌∷◌, ◌++◌, length, take, get_or, slice_get, Some, None, is_some, refl, sym, ap, ◌∙◌, arith, filter_map, option_map, option_and_then, All-head, All-tail, filter_map-append, index_of, lead_still, KeepIndices, LeadTo, Page, PageFound, page_with, page_led, found_in, found_all, IsLed, AreLed, urls_of, LinkedPage}
use Rattle.std.proofs.lemmas.List.{append-nil, take_more}
use Rattle.crawl_pages.specs.declared.page.Page.TheVariants as page
use Rattle.saved_site.specs.declared.linked.linked_page.Leads.{Leads}
use Rattle.saved_site.specs.declared.linked.linked_page.Leads.TheVariants.{Links, Moved}

-- ---- links by the indices of their URLs

-- the links at the indices are those that were there
pub led_links : (urls : List (List ℕ)) (indices : List ℕ) (links : List (List ℕ)) → LeadTo urls indices links → filter_map (slice_get urls) indices ≡ links
led_links urls [] [] lead = refl
led_links urls [] (link ∷ links) lead = absurd (cc)
led_links urls (index ∷ indices) [] lead = absurd (cc)
led_links urls (index ∷ indices) (link ∷ links) lead = grind (arith, led_links urls indices links)

same_led : (old new : List (List ℕ)) (leads : Leads) → KeepIndices old new → IsLed old leads → page_led new leads ≡ page_led old leads
same_led old new (Links indices skipped) keep led =
    ap (λ links. page.Found links skipped)
    (led_links new indices.items led.0 (lead_still old new indices.items led.0 keep led.1) ∙ sym (led_links old indices.items led.0 led.1))
same_led old new (Moved to) keep led = refl

-- ---- lists of pages

pub all_led_still : (old new : List (List ℕ)) (pages : List LinkedPage) → KeepIndices old new → AreLed old pages → AreLed new pages
all_led_still old new pages keep led = grind (arith, lead_still)

pub same_found : (old new : List (List ℕ)) (pages : List LinkedPage) → KeepIndices old new → AreLed old pages → found_all new pages ≡ found_all old pages
same_found old new [] keep led = refl
same_found old new (page ∷ more) keep led =
    let own : IsLed old page.leads = All-head (λ (p : LinkedPage). IsLed old p.leads) page more led in
    let rest : AreLed old more = All-tail (λ (p : LinkedPage). IsLed old p.leads) page more led in
    ap (λ (p : Page). (page.url, p) ∷ found_all new more) (same_led old new page.leads keep own)
    ∙ ap (λ (fs : List PageFound). found_in old page ∷ fs) (same_found old new more keep rest)

-- ---- the page at a URL

pub found_at_index : (urls : List (List ℕ)) (pages : List LinkedPage) (url : List ℕ) → page_with (found_all urls pages) url ≡ option_map (λ (p : LinkedPage). page_led urls p.leads) (option_and_then (λ k. slice_get pages k) (index_of (urls_of pages) url))
found_at_index urls [] url = refl
found_at_index urls (page ∷ more) url = grind (arith, found_at_index urls more url)

pub has_found : (urls : List (List ℕ)) (pages : List LinkedPage) (url : List ℕ) → is_some (page_with (found_all urls pages) url) ≡ is_some (index_of (urls_of pages) url)
has_found urls [] url = refl
has_found urls (page ∷ more) url = grind (arith, has_found urls more url)

pub none_there : (urls : List (List ℕ)) (pages : List LinkedPage) (url : List ℕ) → None ≡ index_of (urls_of pages) url → None ≡ page_with (found_all urls pages) url
none_there urls pages url is = grind (arith, found_at_index)

-- ---- URLs at indices

pub urls_more : (urls : List (List ℕ)) (indices : List ℕ) (i index : ℕ) (links longer : List (List ℕ)) → i < length indices → index ≡ get_or indices i 0 → links ≡ filter_map (slice_get urls) (take i indices) → longer ≡ links ++ filter_map (slice_get urls) (index ∷ []) → longer ≡ filter_map (slice_get urls) (take (i + 1) indices)
urls_more urls indices i index links longer below item is more = grind (arith, common_steps, take_more, filter_map-append)

pub url_there : (urls : List (List ℕ)) (index : ℕ) (links longer : List (List ℕ)) (url : List ℕ) → slice_get urls index ≡ Some url → longer ≡ links ++ url ∷ [] → longer ≡ links ++ filter_map (slice_get urls) (index ∷ [])
url_there urls index links longer url at is = grind arith

pub no_url_there : (urls : List (List ℕ)) (index : ℕ) (links : List (List ℕ)) → slice_get urls index ≡ None → links ≡ links ++ filter_map (slice_get urls) (index ∷ [])
no_url_there urls index links at = grind (arith, append-nil)
