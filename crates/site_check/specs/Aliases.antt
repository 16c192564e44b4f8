-- Aliases of a site: other URLs of its files, whose links are followed at the file's own URL. And which files are documents.
use Rattle.std.specs.Prelude.{ℕ, Bool, ◌&&◌, not, List, bytes_eq}
use Rattle.std.specs.BTreeSet.{BTreeSet, contains}
use Rattle.std.specs.List.{list_any}
use Rattle.crawl_pages.specs.Pages.{is_found}
use Rattle.crawl_pages.specs.declared.page.PageResult.{PageResult}
use Rattle.hash_order.specs.HashOrder.{by_hash}
use Rattle.site_files.specs.declared.alias.Alias.{Alias}

-- the URL is that of an alias
abbrev pub is_alias : List Alias → List ℕ → Bool
is_alias aliases url = list_any (λ a. bytes_eq a.url url) aliases

-- a page was found at a URL that is no alias, by this test: at the own URL of a file
abbrev pub is_own_page : (List ℕ → Bool) → PageResult → Bool
is_own_page is_other r = is_found r.page && not (is_other r.url)

-- a page was found at an alias
abbrev pub is_alias_page : (List ℕ → Bool) → PageResult → Bool
is_alias_page is_other r = is_found r.page && is_other r.url

-- ---- documents and files

-- the URL is the own one of a document
abbrev pub is_document : List (List ℕ) → List ℕ → Bool
is_document documents url = list_any (λ own. bytes_eq own url) documents

-- a page was found at the own URL of a document, by these tests
abbrev pub is_document_page : (List ℕ → Bool) → (List ℕ → Bool) → PageResult → Bool
is_document_page is_other is_text r = is_own_page is_other r && is_text r.url

-- a page was found at the own URL of a file that is no document
abbrev pub is_file_page : (List ℕ → Bool) → (List ℕ → Bool) → PageResult → Bool
is_file_page is_other is_text r = is_own_page is_other r && not (is_text r.url)

-- ---- the sets that are searched

-- the URL is in the set
abbrev pub is_in : BTreeSet (List ℕ) → List ℕ → Bool
is_in urls url = contains by_hash urls url
