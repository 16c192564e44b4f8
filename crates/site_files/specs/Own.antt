-- The own URLs of files, as the code holds them.
use Rattle.std.specs.Prelude.{◌≡◌, ℕ, ◌&&◌, Bool, false, List, bytes_eq, if◌then◌else◌, find, MatchOption, Option, Some, None, option_and_then, option_map, Result, Ok, Err, slice_get}
use Rattle.std.specs.Option.{option_map_or}
use Rattle.crawl_keys.specs.CanonicalText.{canonical}
use Rattle.crawl_keys.specs.declared.error.KeyError.{KeyError}
use Rattle.site_files.specs.Entries.{entry_at, file_in, response_of}
use Rattle.site_files.specs.Files.{Document, document_at, document_of, url_of}
use Rattle.site_files.specs.Kinds.{is_named_sitemap, is_unnamed, starts_at}
use Rattle.site_files.specs.Pages.{folder_texts, found_file, is_found, own_text}
use Rattle.site_files.specs.Server.{Server}
use Rattle.site_files.specs.declared.files.SiteFiles.{SiteFiles}
use Rattle.site_files.specs.declared.page_table.Entry.{Entry}

abbrev pub is_some_file : Option Entry → ℕ → Bool
is_some_file None file = false
is_some_file (Some entry) file = is_found file (response_of entry.source)

-- the page with this number is the file with this index
abbrev pub is_file_at : List Entry → ℕ → ℕ → Bool
is_file_at entries number file = is_some_file (slice_get entries number) file

-- the page at a URL is the file
abbrev pub is_page_in : List Entry → ℕ → Result (List ℕ) KeyError → Bool
is_page_in entries file (Ok url) = is_found file (entry_at entries url)
is_page_in entries file (Err _) = false

-- the first of some texts at whose URL the page is the file
abbrev pub own_among : List Entry → ℕ → List (List ℕ) → Option (List ℕ)
own_among entries file texts = find (λ text. is_page_in entries file (canonical text)) texts

-- the page with this number is at the URL of this text
pub record IsPageAt (entries : List Entry) (number : ℕ) (text : List ℕ) : Type 0 where
  pub entry : Entry
  pub there : slice_get entries number ≡ Some entry
  pub url : canonical text ≡ Ok entry.url

-- the same, for the first of these texts
pub record IsOwnAt (entries : List Entry) (file : ℕ) (texts : List (List ℕ)) (number : ℕ) : Type 0 where
  pub text : List ℕ
  pub first : own_among entries file texts ≡ Some text
  pub at_text : IsPageAt entries number text

-- the number of the page at the first of some texts at whose URL the page is the file
abbrev pub FindsOwn : List Entry → ℕ → List (List ℕ) → Option ℕ → Type 0
FindsOwn entries file texts found = MatchOption found (own_among entries file texts ≡ None) (IsOwnAt entries file texts)

-- what is found for the file with this index and name
pub record IsOwnNumber (server : Server) (entries : List Entry) (own : List (Option ℕ)) (index : ℕ) (name : List ℕ) : Type 0 where
  pub found : Option ℕ
  pub there : slice_get own index ≡ Some found
  pub finds : FindsOwn entries index (folder_texts server index name) found

-- for each file the number of its folder's page
abbrev pub AreOwnNumbers : Server → List Entry → List (List ℕ) → List (Option ℕ) → Type 0
AreOwnNumbers server entries names own = (index : ℕ) (name : List ℕ) → slice_get names index ≡ Some name → IsOwnNumber server entries own index name

-- ---- the own URL of a page

-- the number of the page at the URL of a file's folder
abbrev pub number_in : List (Option ℕ) → ℕ → Option ℕ
number_in own file = option_and_then (λ number. number) (slice_get own file)

-- the URL of the page with this number or, without a number, of this page
abbrev pub page_url : List Entry → Entry → Option ℕ → Option (List ℕ)
page_url entries entry None = Some entry.url
page_url entries entry (Some number) = option_map (λ own. own.url) (slice_get entries number)

-- the own URL of the file of a page
abbrev pub own_of : List Entry → List (Option ℕ) → Entry → Option (List ℕ)
own_of entries own entry = option_and_then (λ file. page_url entries entry (number_in own file)) (file_in entry.source)

-- the own URL of the file of the page with this number; a redirect has none
abbrev pub own_at : List Entry → List (Option ℕ) → ℕ → Option (List ℕ)
own_at entries own number = option_and_then (own_of entries own) (slice_get entries number)

abbrev pub own_url_at : SiteFiles → ℕ → Option (List ℕ)
own_url_at files number = own_at files.pages files.own.items number

-- the own URL of the file of each page is that of the text that is defined
pub record HasOwn (server : Server) (names : List (List ℕ)) (entries : List Entry) (own : List (Option ℕ)) (entry : Entry) (file : ℕ) : Type 0 where
  pub text : List ℕ
  pub is_own : own_text server names file ≡ Some text
  pub url : List ℕ
  pub canon : canonical text ≡ Ok url
  pub has : own_of entries own entry ≡ Some url

abbrev pub HaveOwn : Server → List (List ℕ) → List Entry → List (Option ℕ) → Type 0
HaveOwn server names entries own = (number : ℕ) (entry : Entry) (file : ℕ) → slice_get entries number ≡ Some entry → file_in entry.source ≡ Some file → HasOwn server names entries own entry file

-- ---- the starts of a check

abbrev pub is_own_url : SiteFiles → ℕ → List ℕ → Bool
is_own_url files number url = option_map_or (λ own. bytes_eq own url) (own_url_at files number) false

-- the URL of a page, if a check starts at its file and the URL is the file's own
abbrev pub start_of : SiteFiles → ℕ → List ℕ → Document → Option (List ℕ)
start_of files number url file = if starts_at file.kind url && is_own_url files number url then Some url else None

-- the URL of the page with this number, if a check starts there
abbrev pub start_at : SiteFiles → ℕ → Option (List ℕ)
start_at files number = option_and_then (λ url. option_and_then (start_of files number url) (document_at files number)) (url_of files number)

-- ---- sitemaps

-- the URL of a page at which a check starts, if its file is a sitemap by its name
abbrev pub sitemap_of : List ℕ → Document → Option (List ℕ)
sitemap_of url file = if is_named_sitemap file.kind url then Some url else None

-- the URL of the page with this number, if that is the own URL of a sitemap that is known by its name
abbrev pub sitemap_at : SiteFiles → ℕ → Option (List ℕ)
sitemap_at files number = option_and_then (λ url. option_and_then (sitemap_of url) (document_at files number)) (start_at files number)

-- the file of the page at this URL, if its links are read
abbrev pub document_with : SiteFiles → List ℕ → Option Document
document_with files url = option_and_then (document_of files) (found_file (entry_at files.pages url))

-- the page at this URL is a sitemap if another sitemap names it: XML or a list of URLs whose name is neither that of a sitemap nor
-- that of a feed
abbrev pub may_be_sitemap : SiteFiles → List ℕ → Bool
may_be_sitemap files url = option_map_or (λ file. is_unnamed file.kind url) (document_with files url) false
