-- What follows if the pages of a saved web are those of some files.
use Rattle.saved_site.proofs.Prelude.{◌≡◌, ℕ, ◌<◌, ◌||◌, true, false, Bool, not, List, Option, Some, None, is_some, refl, sym, ap, subst, ◌∙◌, length, length-map, slice_get, option_map, unwrap_or, Page, PageFound, page_with, under_page, SitePage, Under, Links, Moved}
use Rattle.std.proofs.Math.Logic.{∥∥₁_elim}
use Rattle.std.proofs.lemmas.Option.{slice_get_within}
use Rattle.std.specs.Option.{IfSome}
use Rattle.std.specs.Str.Lines.{lines}
use Rattle.crawl_pages.specs.Pages.{is_missing}
use Rattle.crawl_pages.specs.declared.page.Page.TheVariants as page
use Rattle.document_links.specs.Texts.{fits}
use Rattle.saved_pages.specs.SavedWeb.{page_of}
use Rattle.saved_site.proofs.Threads.{at_with}
use Rattle.saved_site.specs.AllPages.{IsWebOf, has_at}
use Rattle.saved_site.specs.Served.{IsServedAt, IsServedPage}
use Rattle.saved_site.specs.TaskPages.{PageKind, Own, Alias, Redirect, IsPageOfKind, IsReadPage, kind_at}
use Rattle.site_files.specs.Files.{page_of as file_page, pages_of, url_of}
use Rattle.site_files.specs.Entries.{response_of}
use Rattle.site_files.specs.Pages.{Missing}
use Rattle.site_files.specs.Serving.{served_at}
use Rattle.site_files.specs.declared.files.SiteFiles.{SiteFiles}
use Rattle.site_files.specs.declared.kinds.FileKind.{FileKind}
use Rattle.site_files.specs.declared.page_table.Entry.{Entry}
use Rattle.site_files.specs.declared.page_table.Source.{Source}
use Rattle.site_files.specs.declared.page_table.Source.TheVariants as source

-- ---- no page is invented

read_url : (files : SiteFiles) (url : List ℕ) (kind : FileKind) (found : Option (List ℕ)) (page : SitePage) → IsReadPage files url kind found page → page.url ≡ url
read_url files url kind None page is = is.0
read_url files url kind (Some body) page is = is.own

answered_url : (files : SiteFiles) (reads : ℕ → Option (List ℕ) → Type 0) (number : ℕ) (url : List ℕ) (page_kind : PageKind) (page : SitePage) → IsPageOfKind files reads number url page_kind page → page.url ≡ url
answered_url files reads number url (Own None) page is = is.0
answered_url files reads number url (Own (Some file)) page is = read_url files url file.kind is.found page is.is
answered_url files reads number url (Alias own) page is = is.0
answered_url files reads number url (Redirect target) page is = is.0

some_response : (from : Source) → response_of from ≡ Missing → ⊥
some_response (source.File index) is = cc
some_response (source.Index index) is = cc
some_response (source.Moved url) is = cc

-- something is returned for the URL of a page that is served
returned : (files : SiteFiles) (reads : ℕ → Option (List ℕ) → Type 0) (url : List ℕ) (found : Page) → IsServedAt (IsServedPage files reads) url found → served_at files url ≡ Missing → ⊥
returned files reads url found at missing =
    ∥∥₁_elim at.served (λ no _. absurd no) (λ (own : IsServedPage files reads at.page).
    let same : own.url ≡ url = sym (answered_url files reads own.number own.url (kind_at files own.number own.url) at.page own.is) ∙ at.own in
    some_response own.served.entry.source (own.served.returns ∙ ap (served_at files) same ∙ missing))

nothing_found : (files : SiteFiles) (reads : ℕ → Option (List ℕ) → Type 0) (url : List ℕ) (found : Option Page) → IfSome found (IsServedAt (IsServedPage files reads) url) → served_at files url ≡ Missing → unwrap_or found page.Missing ≡ page.Missing
nothing_found files reads url None at missing = refl
nothing_found files reads url (Some found) at missing = absurd (returned files reads url found at missing)

pub not_invented : (files : SiteFiles) (reads : ℕ → Option (List ℕ) → Type 0) (web url : List ℕ) → IsWebOf files reads web → served_at files url ≡ Missing → page_of (lines web) url ≡ page.Missing
not_invented files reads web url of_files missing =
    of_files.same url ∙ at_with of_files.pages url ∙ nothing_found files reads url (page_with of_files.pages url) (of_files.served url) missing

-- ---- no page is left out

listed_number : (files : SiteFiles) (number : ℕ) (url : List ℕ) (at : Option Entry) → slice_get files.pages number ≡ at → option_map (λ (entry : Entry). entry.url) at ≡ Some url → number < length (pages_of files)
listed_number files number url None same is = absurd (cc)
listed_number files number url (Some entry) same is = subst (λ (n : ℕ). number < n) (sym (length-map files.pages file_page)) (slice_get_within files.pages number entry same)

under_found : (url : List ℕ) (under : Under) → is_missing (under_page url under) ≡ false
under_found url (Links texts) = refl
under_found url (Moved text) = refl

something_found : (serves : SitePage → Type 0) (url : List ℕ) (found : Option Page) → IfSome found (IsServedAt serves url) → is_some found ≡ true → is_missing (unwrap_or found page.Missing) ≡ false
something_found serves url None at is = absurd (cc)
something_found serves url (Some found) at is = ap is_missing at.is ∙ under_found url at.page.under

-- a page that is found at a URL that fits in a line
found_at : (pages : List PageFound) (url : List ℕ) (at : Option (List ℕ)) → at ≡ Some url → fits 5 url ≡ true → has_at pages at ≡ true → is_some (page_with pages url) ≡ true
found_at pages url at is fit has =
    sym (ap (λ (b : Bool). not b || is_some (page_with pages url)) fit) ∙ sym (ap (has_at pages) is) ∙ has

pub not_left_out : (files : SiteFiles) (reads : ℕ → Option (List ℕ) → Type 0) (web url : List ℕ) (number : ℕ) → IsWebOf files reads web → url_of files number ≡ Some url → fits 5 url ≡ true → is_missing (page_of (lines web) url) ≡ false
not_left_out files reads web url number of_files is fit =
    let there =
    found_at of_files.pages url (url_of files number) is fit
    (of_files.all number (listed_number files number url (slice_get files.pages number) refl is)) in
    ap is_missing (of_files.same url ∙ at_with of_files.pages url)
    ∙ something_found (IsServedPage files reads) url (page_with of_files.pages url) (of_files.served url) there
