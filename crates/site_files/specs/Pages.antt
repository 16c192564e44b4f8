-- The pages that the names in a folder make, and what a plain static server returns for a URL.
use Rattle.std.specs.Prelude.{ℕ, ◌-◌, Bool, false, not, ◌&&◌, ◌||◌, ◌==◌, List, [], ◌∷◌, ◌++◌, length, take, drop, find, filter_map, map, slice_get, slice_index, bytes_eq, Option, Some, None, option_and_then, Result, Ok, Err, if◌then◌else◌, option_map}
use Rattle.std.specs.List.{enumerate_from, flat_map}
use Rattle.crawl_keys.specs.CanonicalText.{canonical}
use Rattle.crawl_keys.specs.declared.error.KeyError.{KeyError}
use Rattle.site_files.specs.Firsts.{first_with}
use Rattle.site_files.specs.Server.{Host, Server, before_query, key_with, names_of, accepted_key, query_of, url_of}
use Rattle.site_files.specs.Urls.{with_html}

-- a folder that is listed by another name. Both names end in a slash, and the top has none
pub record LinkedFolder : Type 0 where
  pub name : List ℕ
  pub own : List ℕ

-- the names in a folder. Those that end in a slash are folders, and the others are files
pub record Folder : Type 0 where
  pub names : List (List ℕ)
  pub links : List LinkedFolder

pub data Response : Type 0 where
  Missing : Response
  Moved : List ℕ → Response  -- a redirect to this URL
  Found : ℕ → Response  -- the file with this index among the names

-- the file that is returned, if it is a file
abbrev pub found_file : Response → Option ℕ
found_file Missing = None
found_file (Moved url) = None
found_file (Found file) = Some file

-- what is returned for the URL of a text
pub record Page : Type 0 where
  pub text : List ℕ
  pub response : Response

abbrev pub page : List ℕ → Response → Page
page text response = record { text = text; response = response }

-- ---- the pages of a name

abbrev pub ends_in_slash : List ℕ → Bool
ends_in_slash name = slice_index name (length name - 1) == 47

-- the path of a file's name, and its query if there are queries in names
abbrev pub path_in : Bool → List ℕ → List ℕ
path_in queries name = if queries then before_query name else name

abbrev pub query_in : Bool → List ℕ → Option (List ℕ)
query_in queries name = if queries then query_of name else None

-- a file at the URL of its name
abbrev pub file_page : Server → ℕ → List ℕ → Page
file_page server number name =
    page
    (url_of server.top (key_with (query_in server.host.queries name) (path_in server.host.queries name)))
    (Found number)

abbrev pub named_page : Server → ℕ → List ℕ → Option Page
named_page server number name = if ends_in_slash name then None else Some (file_page server number name)

-- the folder of the file with this path, if that is the index file of this name
abbrev pub folder_of : List ℕ → List ℕ → Option (List ℕ)
folder_of index path =
    let folder = take (length path - length index) path in
    if bytes_eq (drop (length path - length index) path) index && (length folder == 0 || ends_in_slash folder)
    then Some folder else None

-- a file at the URL of its folder
abbrev pub folder_page : Server → ℕ → Option (List ℕ) → List ℕ → Page
folder_page server number query folder = page (url_of server.top (key_with query folder)) (Found number)

abbrev pub index_page : Server → List ℕ → ℕ → List ℕ → Option Page
index_page server index number name =
    if ends_in_slash name then None
    else option_map (folder_page server number (query_in server.host.queries name)) (folder_of index (path_in server.host.queries name))

-- a folder without its slash, which is moved to the folder
abbrev pub moved_page : List ℕ → List ℕ → Option Page
moved_page top name =
    if ends_in_slash name
    then Some (page (url_of top (key_with None (take (length name - 1) name))) (Moved (url_of top (key_with None name))))
    else None

-- ---- the pages of a folder

-- files at their names
abbrev pub named_pages : Server → List (List ℕ) → List Page
named_pages server names = filter_map (λ file. named_page server file.0 file.1) (enumerate_from 0 names)

-- folders at the index file of this name
abbrev pub index_pages : Server → List (List ℕ) → List ℕ → List Page
index_pages server names index = filter_map (λ file. index_page server index file.0 file.1) (enumerate_from 0 names)

-- all pages. Of those at one URL the first counts
abbrev pub pages : Server → List (List ℕ) → List Page
pages server names =
    named_pages server names ++ flat_map (index_pages server names) server.host.indices
    ++ filter_map (moved_page server.top) names

-- the text is that of the URL
abbrev pub is_result : List ℕ → Result (List ℕ) KeyError → Bool
is_result url (Ok own) = bytes_eq own url
is_result url (Err _) = false

abbrev pub is_text_of : List ℕ → List ℕ → Bool
is_text_of url text = is_result url (canonical text)

abbrev pub response_in : Option Page → Response
response_in None = Missing
response_in (Some one) = one.response

-- the page at a URL
abbrev pub page_at : Server → List (List ℕ) → List ℕ → Response
page_at server names url = response_in (find (λ one. is_text_of url one.text) (pages server names))

-- ---- what a server returns for a URL

-- the first response that is not missing
abbrev pub or_else : Response → Response → Response
or_else Missing other = other
or_else response other = response

-- the URLs of the two names of a folder
pub record LinkUrls : Type 0 where
  pub name : List ℕ
  pub own : List ℕ

abbrev pub link_urls : List ℕ → LinkedFolder → LinkUrls
link_urls top link = record {
  name = url_of top (key_with None link.name);
  own = url_of top (key_with None link.own);
}

-- the URL of a folder by the name by which it is listed
abbrev pub own_folder : List LinkUrls → List ℕ → List ℕ
own_folder links url = first_with (λ link. link.name) (λ link. link.own) url links url

-- a URL with the own URL of each of its folders, the first of them first
abbrev pub own_spelling : (List ℕ → List ℕ) → List ℕ → List (List ℕ) → List ℕ
own_spelling own front [] = front
own_spelling own front (name ∷ []) = front ++ name
own_spelling own front (name ∷ other ∷ names) = own_spelling own (own (front ++ name ++ 47 ∷ [])) (other ∷ names)

-- the page `x.html` in place of `x`, which is not a folder. `at` has the page at each URL
abbrev pub fallback_at : (List ℕ → Response) → Host → List ℕ → Response
fallback_at at host url = if host.fallback && not (ends_in_slash (before_query url)) then at (with_html url) else Missing

-- the page at a URL whose path and query are looked up
abbrev pub plain_at : (List ℕ → Response) → Host → List ℕ → Response
plain_at at host url = or_else (at url) (fallback_at at host url)

-- the page that is looked up for the URL of a key, if there is a key
abbrev pub found_at : (List ℕ → Response) → (List ℕ → List ℕ) → Host → Option (List ℕ) → Response
found_at at own host None = Missing
found_at at own host (Some plain) = plain_at at host (own_spelling own [] (names_of plain))

-- the page that is looked up for a URL
abbrev pub spelled_at : (List ℕ → Response) → (List ℕ → List ℕ) → Server → List ℕ → Response
spelled_at at own server url = found_at at own server.host (accepted_key server url)

-- the URL with the query of a request
abbrev pub with_query : Option (List ℕ) → List ℕ → List ℕ
with_query None url = url
with_query (Some query) url = url ++ 63 ∷ query

abbrev pub with_query_of : List ℕ → Response → Response
with_query_of url (Moved target) = Moved (with_query (query_of url) target)
with_query_of url response = response

-- the page with this URL, or else the one that is looked up for it. A redirect keeps the query
abbrev pub response_at : Server → Folder → List ℕ → Response
response_at server folder url =
    with_query_of url
    (or_else (page_at server folder.names url)
    (spelled_at (page_at server folder.names) (own_folder (map (link_urls server.top) folder.links)) server url))

-- ---- the own URL of a file

-- the text of the URL of a file's folder, if the file has the name of this index file
abbrev pub index_text : Server → ℕ → List ℕ → List ℕ → Option (List ℕ)
index_text server number name index = option_map (λ one. one.text) (index_page server index number name)

abbrev pub folder_texts : Server → ℕ → List ℕ → List (List ℕ)
folder_texts server number name = filter_map (index_text server number name) server.host.indices

-- the texts of a file's URLs: those of its folder, then that of its name
abbrev pub texts_of : Server → ℕ → List ℕ → List (List ℕ)
texts_of server number name = folder_texts server number name ++ (file_page server number name).text ∷ []

abbrev pub is_found : ℕ → Response → Bool
is_found number (Found file) = file == number
is_found number response = false

abbrev pub is_page_of : Server → List (List ℕ) → ℕ → Result (List ℕ) KeyError → Bool
is_page_of server names number (Ok url) = is_found number (page_at server names url)
is_page_of server names number (Err _) = false

-- the text of the first of them at which the page is the file
abbrev pub own_text : Server → List (List ℕ) → ℕ → Option (List ℕ)
own_text server names number =
    option_and_then (λ name. find (λ text. is_page_of server names number (canonical text)) (texts_of server number name))
    (slice_get names number)
