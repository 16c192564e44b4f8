-- The pages of a site, and the files that they are made of.
use Rattle.std.specs.Prelude.{◌≡◌, ℕ, Bool, true, false, not, List, String, map, Option, Some, None, option_and_then, slice_get, string_bytes, option_map}
use Rattle.std.specs.Borrow.{Bor}
use Rattle.std.specs.List.{list_any}
use Rattle.std.specs.declared.alloc.Global.{Global}
use Rattle.site_files.specs.declared.error.SiteError.{SiteError}
use Rattle.site_files.specs.declared.error.SiteError.TheVariants as wrong
use Rattle.site_files.specs.declared.files.SiteFiles.{SiteFiles}
use Rattle.site_files.specs.declared.kinds.FileKind.{FileKind}
use Rattle.site_files.specs.declared.page_table.Entry.{Entry}
use Rattle.site_files.specs.declared.rules.Rules.{Rules}
use Rattle.site_files.specs.declared.page_table.Source.{Source}
use Rattle.site_files.specs.declared.page_table.Source.TheVariants.{File, Index, Moved}
use Rattle.site_files.specs.declared.site_list.ListedUrl.{ListedUrl}
use Rattle.site_files.specs.declared.site_list.SiteList.{SiteList}
use Rattle.site_files.specs.Entries.{file_in, server_at}
use Rattle.site_files.specs.Kinds.{if_read, kind_of}
use Rattle.site_files.specs.Below.{IsTop, begins}
use Rattle.site_files.specs.Pages.{ends_in_slash, path_in}
use Rattle.site_files.specs.Server.{Server}
use Rattle.site_files.specs.SiteList.{kind_in}

-- a page's URL, and the index of its file among the names; a redirect has no file
pub record PageFile : Type 0 where
  pub url : List ℕ
  pub file : Option ℕ

abbrev pub page_file : List ℕ → Option ℕ → PageFile
page_file url file = record { url = url; file = file }

abbrev pub page_of : Entry → PageFile
page_of entry = page_file entry.url (file_in entry.source)

-- in the order of their URLs
abbrev pub pages_of : SiteFiles → List PageFile
pages_of files = map page_of files.pages

-- the URL of the page with this number
abbrev pub url_of : SiteFiles → ℕ → Option (List ℕ)
url_of files number = option_map (λ entry. entry.url) (slice_get files.pages number)

abbrev pub target_in : Source → Option (List ℕ)
target_in (File index) = None
target_in (Index index) = None
target_in (Moved url) = Some (string_bytes url)

-- the target of the page with this number, if that is a redirect
abbrev pub moved_to : SiteFiles → ℕ → Option (List ℕ)
moved_to files number = option_and_then (λ entry. target_in entry.source) (slice_get files.pages number)

-- the file with this index
abbrev pub name_at : SiteFiles → ℕ → Option (List ℕ)
name_at files index = option_map string_bytes (slice_get files.names.now index)

-- a file whose links are read, with its index among the names
pub record Document : Type 0 where
  pub index : ℕ
  pub name : List ℕ
  pub kind : FileKind

abbrev pub site_file : ℕ → FileKind → List ℕ → Document
site_file index kind name = record { index = index; name = name; kind = kind }

-- the kind of a file with this name, by the rules
abbrev pub named_kind : Rules → List ℕ → Option FileKind
named_kind rules name = kind_of (path_in rules.queries name)

-- the kind of the file in the line with this index
abbrev pub line_kind : List ListedUrl → ℕ → Option FileKind
line_kind urls index = option_and_then (λ one. kind_in one.content) (slice_get urls index)

-- the kind of the file with this index and name: by the list, if there is one
abbrev pub file_kind : Rules → Option (Bor (List ListedUrl)) → ℕ → List ℕ → Option FileKind
file_kind rules None index name = named_kind rules name
file_kind rules (Some urls) index name = line_kind urls.now index

-- the kind, if links of such a file are read
abbrev pub kind_at : SiteFiles → ℕ → List ℕ → Option FileKind
kind_at files index name = option_and_then (if_read files.rules.now) (file_kind files.rules.now files.listed index name)

-- the file with this index and name
abbrev pub document_in : SiteFiles → ℕ → List ℕ → Option Document
document_in files index name = option_map (λ kind. site_file index kind name) (kind_at files index name)

-- the file with this index, if its links are read
abbrev pub document_of : SiteFiles → ℕ → Option Document
document_of files index = option_and_then (document_in files index) (name_at files index)

-- the file of the page with this number, if its links are read
abbrev pub document_at : SiteFiles → ℕ → Option Document
document_at files number = option_and_then (λ page. option_and_then (document_of files) page.file) (slice_get (pages_of files) number)

-- ---- errors

-- the error of a text that is not a URL of a page
abbrev pub IsOfUrl : SiteError → Type 0
IsOfUrl wrong.BadBase = Unit {0}
IsOfUrl wrong.NoFiles = ⊥
IsOfUrl wrong.NoneListed = ⊥
IsOfUrl wrong.TooLarge = ⊥
IsOfUrl wrong.NoMemory = Unit {0}
IsOfUrl (wrong.Io error) = ⊥

-- some name is that of a file
abbrev pub has_file : List (String Global) → Bool
has_file names = list_any (λ name. not (ends_in_slash (string_bytes name))) names

-- the error of names that make no site: `NoFiles` exactly if none of them is that of a file
abbrev pub IsOfFiles : List (String Global) → SiteError → Type 0
IsOfFiles names wrong.BadBase = has_file names ≡ true
IsOfFiles names wrong.NoFiles = has_file names ≡ false
IsOfFiles names wrong.NoneListed = ⊥
IsOfFiles names wrong.TooLarge = ⊥
IsOfFiles names wrong.NoMemory = has_file names ≡ true
IsOfFiles names (wrong.Io error) = ⊥

-- some URL of a list is below the top
abbrev pub has_own : List ℕ → List ListedUrl → Bool
has_own top urls = list_any (λ one. begins top one.url) urls

-- no URL of a list is below the top of BASE
pub record HasNone (base : List ℕ) (urls : List ListedUrl) : Type 0 where
  pub top : List ℕ
  pub is_top : IsTop base top
  pub none : has_own top urls ≡ false

-- the error of a list that makes no site
abbrev pub IsOfListed : List ℕ → List ListedUrl → SiteError → Type 0
IsOfListed base urls wrong.BadBase = Unit {0}
IsOfListed base urls wrong.NoFiles = ⊥
IsOfListed base urls wrong.NoneListed = HasNone base urls
IsOfListed base urls wrong.TooLarge = ⊥
IsOfListed base urls wrong.NoMemory = Unit {0}
IsOfListed base urls (wrong.Io error) = ⊥

-- the host and the place of the folder
abbrev pub server_of : SiteFiles → Server
server_of files = server_at files.rules.now files.site

-- the files are those with these names, by these rules
pub record IsOfNames (names : List (String Global)) (rules : Rules) (files : SiteFiles) : Type 0 where
  pub has_names : files.names.now ≡ names
  pub has_no_list : files.listed ≡ None
  pub has_rules : files.rules.now ≡ rules

-- the files are those of this list, by these rules
pub record IsOfList (list : SiteList) (rules : Rules) (files : SiteFiles) : Type 0 where
  pub has_names : files.names.now ≡ list.names.items
  pub has_list : option_map (λ urls. urls.now) files.listed ≡ Some list.urls.items
  pub has_rules : files.rules.now ≡ rules
