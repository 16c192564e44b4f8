-- What a server returns for a URL, by the tables that the code holds.
use Rattle.std.specs.Prelude.{◌≡◌, ℕ, List, String}
use Rattle.std.specs.declared.alloc.Global.{Global}
use Rattle.site_files.specs.Entries.{entry_at, texts}
use Rattle.site_files.specs.Files.{server_of}
use Rattle.site_files.specs.Links.{names_in, own_in}
use Rattle.site_files.specs.Pages.{Folder, Response, or_else, response_at, spelled_at, with_query_of}
use Rattle.site_files.specs.Server.{Server}
use Rattle.site_files.specs.declared.alias.FolderLink.{FolderLink}
use Rattle.site_files.specs.declared.files.SiteFiles.{SiteFiles}
use Rattle.site_files.specs.declared.page_table.Entry.{Entry}

-- the folder with these names, in which these folders have other names
abbrev pub folder_with : List (String Global) → List FolderLink → Folder
folder_with names links = record { names = texts names; links = names_in links }

-- what is found for a URL: the page with this URL, or else the one that is looked up
abbrev pub found_by : Server → List Entry → List FolderLink → List ℕ → Response
found_by server pages linked url = or_else (entry_at pages url) (spelled_at (entry_at pages) (own_in linked) server url)

-- the same, of a site
abbrev pub served_at : SiteFiles → List ℕ → Response
served_at files url = found_by (server_of files) files.pages files.linked url

-- a redirect keeps the query
abbrev pub found_for : Server → List Entry → List FolderLink → List ℕ → Response
found_for server pages linked url = with_query_of url (found_by server pages linked url)

-- by these tables, a plain static server returns the pages of this folder
pub record Serves (server : Server) (folder : Folder) (pages : List Entry) (linked : List FolderLink) : Type 0 where
  pub returns : (url : List ℕ) → found_for server pages linked url ≡ response_at server folder url
