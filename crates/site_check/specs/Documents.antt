-- Which document a URL leads to: by its own URL, by an alias, or by one redirect.
use Rattle.std.specs.Prelude.{◌≡◌, ◌∷◌, ◌++◌, ℕ, Bool, List, [], Option, Some, None, if◌then◌else◌, option_and_then, option_map, slice_get}
use Rattle.std.specs.List.Sorted.{IsStrictlySortedBy}
use Rattle.std.specs.Option.{option_or}
use Rattle.crawl_pages.specs.Pages.{is_found}
use Rattle.crawl_pages.specs.declared.page.Page.{Page}
use Rattle.crawl_pages.specs.declared.page.Page.TheVariants.{Found, Moved, Missing}
use Rattle.crawl_pages.specs.declared.page.PageResult.{PageResult}
use Rattle.document_links.specs.declared.anchors.PageAnchors.{PageAnchors}
use Rattle.document_links.specs.declared.anchors.Target.{Target}
use Rattle.document_links.specs.declared.anchors.Target.TheVariants as to
use Rattle.site_check.specs.declared.site_pages.DocumentUrl.{DocumentUrl}
use Rattle.site_check.specs.declared.site_pages.Pages.{Pages}
use Rattle.site_files.specs.Files.{url_of}
use Rattle.site_files.specs.Firsts.{cmp_keys, first_with}
use Rattle.site_files.specs.declared.alias.Alias.{Alias}
use Rattle.site_files.specs.declared.files.SiteFiles.{SiteFiles}

-- ---- documents by their URLs

-- the document with this own URL
abbrev pub own_at : List PageAnchors → List ℕ → Option PageAnchors
own_at documents url = first_with (λ d. d.url) (λ d. Some d) None documents url

abbrev pub alias_at : List Alias → List ℕ → Option Alias
alias_at aliases url = first_with (λ a. a.url) (λ a. Some a) None aliases url

-- the own URL of the file with this alias
abbrev pub own_url : List Alias → List ℕ → Option (List ℕ)
own_url aliases url = option_map (λ a. a.own) (alias_at aliases url)

-- the document with this URL: its own, or an alias
abbrev pub document_at : List PageAnchors → List Alias → List ℕ → Option PageAnchors
document_at documents aliases url = option_or (own_at documents url) (option_and_then (own_at documents) (own_url aliases url))

-- the anchors that are kept of the page of a result, if it was found
abbrev pub kept_of : List PageAnchors → PageResult → Option PageAnchors
kept_of documents r = if is_found r.page then own_at documents r.url else None

-- the same, if the result is taken
abbrev pub kept_if : List PageAnchors → Bool → PageResult → Option PageAnchors
kept_if documents is_taken r = if is_taken then kept_of documents r else None

-- of results whose numbers pass a test
abbrev pub kept_by : List PageAnchors → (ℕ → Bool) → ℕ → PageResult → Option PageAnchors
kept_by documents taken source r = kept_if documents (taken source) r

-- ---- the targets of links

-- a document, and the URL by which a link leads to it
pub record DocumentAt : Type 0 where
  pub url : List ℕ
  pub document : PageAnchors

abbrev pub at_url : List ℕ → PageAnchors → DocumentAt
at_url url document = record { url = url; document = document }

abbrev pub found_at : List PageAnchors → List Alias → List ℕ → Option DocumentAt
found_at documents aliases url = option_map (at_url url) (document_at documents aliases url)

abbrev pub moved_to : Page → Option (List ℕ)
moved_to (Moved to) = to
moved_to (Found links skipped) = None
moved_to Missing = None

abbrev pub result_with : List PageResult → List ℕ → Option PageResult
result_with results url = first_with (λ r. r.url) (λ r. Some r) None results url

-- the URL to which the page at a URL moved
abbrev pub redirect_at : List PageResult → List ℕ → Option (List ℕ)
redirect_at results url = option_and_then (λ r. moved_to r.page) (result_with results url)

-- a link to the URL leads to the document at it, or else to the one at the URL to which its page moved
abbrev pub led_to : List PageAnchors → List Alias → List PageResult → List ℕ → Option DocumentAt
led_to documents aliases results url = option_or (found_at documents aliases url) (option_and_then (found_at documents aliases) (redirect_at results url))

-- the URL of a target: that of the page with a number, or another one
abbrev pub target_url : SiteFiles → Target → Option (List ℕ)
target_url files (to.Page number) = url_of files number
target_url files (to.Other url) = Some url

-- the document to which links to a target lead
abbrev pub document_of : List PageAnchors → List Alias → SiteFiles → List PageResult → Target → Option DocumentAt
document_of documents aliases files results target = option_and_then (led_to documents aliases results) (target_url files target)

-- ---- how they are found

-- documents, aliases and results are in the order of their URLs, each URL once
pub record AreInOrder (documents : List PageAnchors) (aliases : List Alias) (results : List PageResult) : Type 0 where
  pub own : IsStrictlySortedBy (cmp_keys (λ (d : PageAnchors). d.url)) documents
  pub others : IsStrictlySortedBy (cmp_keys (λ (a : Alias). a.url)) aliases
  pub found : IsStrictlySortedBy (cmp_keys (λ (r : PageResult). r.url)) results

-- the document with this number has the URL of the page with that number
pub record HasPageUrl (files : SiteFiles) (documents : List PageAnchors) (page number : ℕ) : Type 0 where
  pub document : PageAnchors
  pub there : slice_get documents number ≡ Some document
  pub same : url_of files page ≡ Some document.url

-- a document with this number has the URL
pub record IsDocumentAt (documents : List PageAnchors) (url : List ℕ) (number : ℕ) : Type 0 where
  pub document : PageAnchors
  pub there : slice_get documents number ≡ Some document
  pub same : document.url ≡ url

-- what is pushed for a page: the number of the document with its URL, or none
pub record PushesNumber (files : SiteFiles) (documents : List PageAnchors) (page : ℕ) (old new : List (Option ℕ)) : Type 0 where
  pub found : Option ℕ
  pub is : new ≡ old ++ found ∷ []
  pub own : (number : ℕ) → found ≡ Some number → HasPageUrl files documents page number

-- each page has the number of the document with its URL, or none
pub record AreNumbers (files : SiteFiles) (documents : List PageAnchors) (numbers : List (Option ℕ)) : Type 0 where
  pub each : (page number : ℕ) → slice_get numbers page ≡ Some (Some number) → HasPageUrl files documents page number

-- both
pub record AreSearchable (files : SiteFiles) (pages : Pages) : Type 0 where
  pub order : AreInOrder pages.anchors.now pages.aliases.now pages.results.now
  pub numbers : AreNumbers files pages.anchors.now pages.documents.now

abbrev pub found_of : DocumentUrl → DocumentAt
found_of d = record { url = d.url.now; document = d.document.now }
