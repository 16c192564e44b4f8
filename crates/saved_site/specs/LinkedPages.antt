-- Pages whose links are the indices of URLs.
use Rattle.std.specs.Prelude.{◌≡◌, ℕ, List, [], ◌∷◌, ◌++◌, All, if◌then◌else◌, map, slice_get, filter_map, is_some}
use Rattle.hash_index.specs.Index.{IsIndexOf}
use Rattle.hash_index.specs.Lists.{index_of}
use Rattle.hash_order.specs.HashOrder.{hash_of}
use Rattle.saved_pages.specs.UrlIndices.{KeepIndices, LeadTo}
use Rattle.crawl_pages.specs.declared.page.Page.{Page}
use Rattle.crawl_pages.specs.declared.page.Page.TheVariants as page
use Rattle.saved_site.specs.LinkTables.{IsTableOf}
use Rattle.saved_site.specs.Linked.{PageFound}
use Rattle.saved_site.specs.Meaning.{under_page}
use Rattle.saved_site.specs.declared.linked.link_table.LinkTable.{LinkTable}
use Rattle.saved_site.specs.declared.linked.linked_page.LinkedPage.{LinkedPage}
use Rattle.saved_site.specs.declared.linked.linked_page.Leads.{Leads}
use Rattle.saved_site.specs.declared.linked.linked_page.Leads.TheVariants.{Links, Moved}
use Rattle.saved_site.specs.declared.linked.page_list.PageList.{PageList}
use Rattle.saved_site.specs.declared.page.SitePage.{SitePage}

-- the page, whose links are the URLs at the indices
abbrev pub page_led : List (List ℕ) → Leads → Page
page_led urls (Links indices skipped) = page.Found (filter_map (slice_get urls) indices.items) skipped
page_led urls (Moved to) = page.Moved to

abbrev pub found_in : List (List ℕ) → LinkedPage → PageFound
found_in urls page = (page.url, page_led urls page.leads)

-- what is found of each
abbrev pub found_all : List (List ℕ) → List LinkedPage → List PageFound
found_all urls pages = map (found_in urls) pages

-- there is a URL at each index
abbrev pub IsLed : List (List ℕ) → Leads → Type 0
IsLed urls (Links indices skipped) = (links : List (List ℕ)) × LeadTo urls indices.items links
IsLed urls (Moved to) = Unit {0}

abbrev pub AreLed : List (List ℕ) → List LinkedPage → Type 0
AreLed urls pages = All (λ page. IsLed urls page.leads) pages

abbrev pub urls_of : List LinkedPage → List (List ℕ)
urls_of pages = map (λ page. page.url) pages

-- the index is that of the pages' URLs
abbrev pub IsPageList : PageList → Type 0
IsPageList pages = IsIndexOf hash_of (urls_of pages.list.items) pages.index

-- the pages are those of the list with one more, unless its URL has one. That is this page, whose URL is `base`, and leads as it
-- does by the table
pub record IsLonger (base : List ℕ) (page : SitePage) (urls : List (List ℕ)) (list : List LinkedPage) (table : LinkTable) (pages : PageList) : Type 0 where
  pub one : LinkedPage
  pub url : one.url ≡ page.url
  pub is : page_led table.urls one.leads ≡ under_page base page.under
  pub led : IsLed table.urls one.leads
  pub keep : KeepIndices urls table.urls
  pub longer : pages.list.items ≡ (if is_some (index_of (urls_of list) one.url) then list else list ++ one ∷ [])
  pub known : IsTableOf base table
  pub index : IsPageList pages
