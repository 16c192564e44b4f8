-- The tables that the code holds are those of the folder.
use Rattle.std.proofs.Common.{◌≡◌, ℕ, List, map, ap, ◌∙◌}
use Rattle.site_files.specs.Entries.{IsTable, entry_at}
use Rattle.site_files.specs.Links.{IsLinked, names_in, own_in}
use Rattle.site_files.specs.Pages.{link_urls, or_else, own_folder, page_at, spelled_at, with_query_of}
use Rattle.site_files.specs.Server.{Server}
use Rattle.site_files.specs.Serving.{Serves}
use Rattle.site_files.specs.declared.alias.FolderLink.{FolderLink}
use Rattle.site_files.specs.declared.page_table.Entry.{Entry}

pub serves_folder : (server : Server) (names : List (List ℕ)) (links linked : List FolderLink) (pages : List Entry) → IsTable server names pages → IsLinked server.top links linked → Serves server (record { names = names; links = names_in links }) pages linked
serves_folder server names links linked pages table is =
    let at : entry_at pages ≡ page_at server names = λ i url. table.pages url i in
    let own : own_in linked ≡ own_folder (map (link_urls server.top) (names_in links)) = λ i url. is.own url i in
    record {
      returns = λ url.
          ap (λ f. with_query_of url (or_else (f url) (spelled_at f (own_in linked) server url))) at
          ∙ ap (λ g. with_query_of url (or_else (page_at server names url) (spelled_at (page_at server names) g server url))) own;
    }
