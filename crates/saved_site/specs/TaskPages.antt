-- The page that a server returns for the URL of a task.
use Rattle.std.specs.Prelude.{ℕ, Bool, true, false, List, [], Option, Some, None, if◌then◌else◌, option_map, bytes_eq}
use Rattle.site_files.specs.Files.{Document, document_at, moved_to, site_file}
use Rattle.site_files.specs.Own.{own_url_at}
use Rattle.site_files.specs.declared.files.SiteFile.{SiteFile}
use Rattle.site_files.specs.declared.files.SiteFiles.{SiteFiles}
use Rattle.site_files.specs.declared.kinds.FileKind.{FileKind}
use Rattle.saved_site.specs.FileLinks.{IsFilePage, IsPageOf}
use Rattle.saved_site.specs.SiteTexts.{link_to, redirect_to, target_at, text_to}
use Rattle.saved_site.specs.declared.page.SitePage.{SitePage}
use Rattle.saved_site.specs.declared.page.Under.TheVariants.{Links}
use Rattle.saved_site.specs.declared.task.Response.{Response}
use Rattle.saved_site.specs.declared.task.Response.TheVariants as response

-- ---- what is returned

pub data PageKind : Type 0 where
  Own : Option Document → PageKind  -- a file at its own URL, if its links are read
  Alias : List ℕ → PageKind  -- a file whose own URL is this one
  Redirect : List ℕ → PageKind  -- a redirect to this URL

-- a file with this own URL, at a URL
abbrev pub file_kind : List ℕ → Option Document → Option (List ℕ) → PageKind
file_kind url document None = Own document
file_kind url document (Some own) = if bytes_eq own url then Own document else Alias own

abbrev pub kind_with : PageKind → Option (List ℕ) → PageKind
kind_with file None = file
kind_with file (Some target) = Redirect target

-- the page with this number, at a URL
abbrev pub kind_at : SiteFiles → ℕ → List ℕ → PageKind
kind_at files number url = kind_with (file_kind url (document_at files number) (own_url_at files number)) (moved_to files number)

abbrev pub file_of : SiteFile → Document
file_of file = site_file file.index file.kind file.name.now

abbrev pub kind_of : Response → PageKind
kind_of (response.Own file) = Own (option_map file_of file)
kind_of (response.Alias own) = Alias own.now
kind_of (response.Moved target) = Redirect target.now

-- ---- pages

-- what was read of a file, if it was
abbrev pub read_if : Bool → List ℕ → Option (List ℕ)
read_if true body = Some body
read_if false body = None

-- the page at the own URL of a file of this kind, of which this was read; if nothing was, it has no links and no anchors
abbrev pub IsReadPage : SiteFiles → List ℕ → FileKind → Option (List ℕ) → SitePage → Type 0
IsReadPage files url kind None page = IsPageOf url (Links []) page
IsReadPage files url kind (Some body) page = IsFilePage files url kind body page

-- the same with what the file can contain
pub record IsOwnPage (files : SiteFiles) (reads : ℕ → Option (List ℕ) → Type 0) (url : List ℕ) (file : Document) (page : SitePage) : Type 0 where
  pub found : Option (List ℕ)
  pub reads_found : reads file.index found
  pub is : IsReadPage files url file.kind found page

-- the page at a URL for which the server returns this
abbrev pub IsPageOfKind : SiteFiles → (ℕ → Option (List ℕ) → Type 0) → ℕ → List ℕ → PageKind → SitePage → Type 0
IsPageOfKind files reads number url (Own None) page = IsPageOf url (Links []) page
IsPageOfKind files reads number url (Own (Some file)) page = IsOwnPage files reads url file page
IsPageOfKind files reads number url (Alias own) page = IsPageOf url (Links (link_to (text_to files own))) page
IsPageOfKind files reads number url (Redirect target) page = IsPageOf url (redirect_to (text_to files (target_at files number url target))) page

-- the page at a URL for which the server returns the page with this number
abbrev pub IsTaskPage : SiteFiles → (ℕ → Option (List ℕ) → Type 0) → ℕ → List ℕ → SitePage → Type 0
IsTaskPage files reads number url page = IsPageOfKind files reads number url (kind_at files number url) page
