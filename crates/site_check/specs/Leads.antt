-- Which links lead to pages that are not there.
use Rattle.std.specs.Prelude.{ℕ, ◌+◌, ◌&&◌, Bool, not, List, [], ◌∷◌, ◌++◌, fold, if◌then◌else◌, Option, Some, None, flat_map, bytes_eq}
use Rattle.std.specs.Borrow.{Bor}
use Rattle.std.specs.BTreeMap.{BTreeMap, get_by}
use Rattle.std.specs.Option.{option_map_or}
use Rattle.crawl_pages.specs.Pages.{is_missing}
use Rattle.crawl_pages.specs.declared.page.Page.{Page}
use Rattle.crawl_pages.specs.declared.page.Page.TheVariants.{Found, Moved, Missing}
use Rattle.crawl_pages.specs.declared.page.PageResult.{PageResult}
use Rattle.hash_order.specs.HashOrder.{by_hash}
use Rattle.document_links.specs.declared.positions.LinkPlaces.{LinkPlaces}
use Rattle.site_check.specs.Broken.{is_ignored, shown}
use Rattle.site_check.specs.declared.leads.Lead.{Lead}
use Rattle.site_check.specs.declared.leads.Target as code

-- ---- which URLs lead there

-- a URL, and the number of the page that is not there
pub record Target : Type 0 where
  pub url : List ℕ
  pub number : ℕ

abbrev pub target_at : code.Target → Target
target_at t = record { url = t.url.now; number = t.number }

abbrev pub to_number : List ℕ → Option ℕ → List Target
to_number url None = []
to_number url (Some number) = record { url = url; number = number } ∷ []

-- the page is not there, and that is not known
abbrev pub is_reported : List ℕ → List (List ℕ) → PageResult → Bool
is_reported front entries r = is_missing r.page && not (is_ignored entries (shown front r.url))

abbrev pub own_number : List ℕ → List (List ℕ) → ℕ → PageResult → Option ℕ
own_number front entries number r = if is_reported front entries r then Some number else None

-- the pages that are reported, numbered among all of these
abbrev pub missing_from : List ℕ → List (List ℕ) → ℕ → List PageResult → List Target
missing_from front entries number [] = []
missing_from front entries number (r ∷ more) = to_number r.url (own_number front entries number r) ++ missing_from front entries (number + 1) more

-- the number of the last target with the URL; before all targets it was this
abbrev pub number_with : List ℕ → Option ℕ → Target → Option ℕ
number_with url before t = if bytes_eq t.url url then Some t.number else before

abbrev pub number_in : List Target → List ℕ → Option ℕ
number_in targets url = fold (number_with url) None targets

-- the number of the page that one moved to, by the numbers of URLs
abbrev pub moved_number : (List ℕ → Option ℕ) → Page → Option ℕ
moved_number number_of (Moved (Some url)) = number_of url
moved_number number_of (Moved None) = None
moved_number number_of (Found links skipped) = None
moved_number number_of Missing = None

abbrev pub moved_target : (List ℕ → Option ℕ) → PageResult → List Target
moved_target number_of r = to_number r.url (moved_number number_of r.page)

-- the URLs of pages that are reported, and of those that moved to one of them
abbrev pub targets_of : List ℕ → List (List ℕ) → List PageResult → List Target
targets_of front entries results =
    let missing = missing_from front entries 0 results in missing ++ flat_map (moved_target (number_in missing)) results

-- ---- the links to them

-- a link of the result with this number that has the index among the links of its file
abbrev pub lead_to : ℕ → ℕ → Option ℕ → List Lead
lead_to source index None = []
lead_to source index (Some number) = record { source = source; index = index; number = number } ∷ []

abbrev pub leads_at : (List ℕ → Option ℕ) → ℕ → List (List ℕ) → List ℕ → List Lead
leads_at number_of source [] indices = []
leads_at number_of source (url ∷ urls) [] = []
leads_at number_of source (url ∷ urls) (index ∷ indices) = lead_to source index (number_of url) ++ leads_at number_of source urls indices

-- there is no link that has an index
abbrev pub HasNoLink : List (List ℕ) → List ℕ → Type 0
HasNoLink [] indices = Unit {0}
HasNoLink (url ∷ urls) [] = Unit {0}
HasNoLink (url ∷ urls) (index ∷ indices) = ⊥

-- those of a page that was found, whose links have these indices by its URL
abbrev pub leads_of : (List ℕ → Option ℕ) → (List ℕ → List ℕ) → ℕ → List ℕ → Page → List Lead
leads_of number_of indices_of source url (Found links skipped) = leads_at number_of source links (indices_of url)
leads_of number_of indices_of source url (Moved to) = []
leads_of number_of indices_of source url Missing = []

-- those of results, the first of which has this number
abbrev pub leads_from : (List ℕ → Option ℕ) → (List ℕ → List ℕ) → ℕ → List PageResult → List Lead
leads_from number_of indices_of source [] = []
leads_from number_of indices_of source (r ∷ more) = leads_of number_of indices_of source r.url r.page ++ leads_from number_of indices_of (source + 1) more

-- the indices of the links in the document at a URL, of the last of these with the URL
abbrev pub indices_with : List ℕ → List ℕ → LinkPlaces → List ℕ
indices_with url before p = if bytes_eq p.url url then p.indices.items else before

abbrev pub indices_in : List LinkPlaces → List ℕ → List ℕ
indices_in places url = fold (indices_with url) [] places

-- ---- the maps that are searched

abbrev pub Numbers : Type 0
Numbers = BTreeMap (List ℕ) ℕ

abbrev pub number_at : Numbers → List ℕ → Option ℕ
number_at numbers url = get_by (λ k. by_hash url k) numbers

abbrev pub Indices : Type 0
Indices = BTreeMap (List ℕ) (Bor (List ℕ))

abbrev pub indices_at : Indices → List ℕ → List ℕ
indices_at indices url = option_map_or (λ i. i.now) (get_by (λ k. by_hash url k) indices) []
