-- Why a URL has no page: a symbolic link that is not followed, a rule that another server has, or a folder without an index file.
use Rattle.std.specs.Prelude.{◌≡◌, ℕ, ◌-◌, ◌&&◌, ◌||◌, Bool, is_some, false, not, true, List, [], length, take, bytes_eq, filter_map, find, if◌then◌else◌, Option, Some, None, option_and_then, option_map, String, string_bytes}
use Rattle.std.specs.List.{enumerate_from, list_any}
use Rattle.std.specs.Option.{option_or}
use Rattle.std.specs.declared.alloc.Global.{Global}
use Rattle.site_files.specs.Entries.{entry_at}
use Rattle.site_files.specs.Files.{server_of}
use Rattle.site_files.specs.Kinds.{is_home, last_name}
use Rattle.site_files.specs.Links.{own_in}
use Rattle.site_files.specs.Pages.{Page, Response, Missing, Moved, Found, ends_in_slash, fallback_at, folder_of, folder_page, found_file, is_text_of, own_spelling, path_in, query_in, response_in}
use Rattle.site_files.specs.Server.{Host, Server, names_of, accepted_key}
use Rattle.site_files.specs.Skipped.{outside_in, outside_on}
use Rattle.site_files.specs.declared.files.SiteFiles.{SiteFiles}
use Rattle.site_files.specs.declared.hint.Hint.{Hint}
use Rattle.site_files.specs.declared.hint.Hint.TheVariants.{HtmlFallback, IndexFile, LeadsNowhere, LeadsOut, NoIndexFile}
use Rattle.site_files.specs.declared.page_table.Entry.{Entry}
use Rattle.site_files.specs.declared.skipped.SkippedLink.{SkippedLink}

-- ---- the pages of folders under other rules

-- one of some texts is this name
abbrev pub has_name : List ℕ → List (String Global) → Bool
has_name name texts = list_any (λ text. bytes_eq name (string_bytes text)) texts

-- the file with this path may be the page of its folder, and the rules do not have its name
abbrev pub is_unlisted_home : List (List ℕ) → List ℕ → Bool
is_unlisted_home indices path = is_home path && not (list_any (bytes_eq (last_name path)) indices)

-- the file with this path, at the URL of its folder
abbrev pub home_at : Server → ℕ → Option (List ℕ) → List ℕ → Option Page
home_at server number query path =
    if is_unlisted_home server.host.indices path then option_map (folder_page server number query) (folder_of (last_name path) path)
    else None

abbrev pub home_page : Server → ℕ → List ℕ → Option Page
home_page server number name = home_at server number (query_in server.host.queries name) (path_in server.host.queries name)

abbrev pub home_pages : Server → List (List ℕ) → List Page
home_pages server names = filter_map (λ file. home_page server file.0 file.1) (enumerate_from 0 names)

-- the first of them at each URL
pub record HasHomes (server : Server) (names : List (List ℕ)) (entries : List Entry) : Type 0 where
  pub homes : (url : List ℕ) → entry_at entries url ≡ response_in (find (λ one. is_text_of url one.text) (home_pages server names))

-- ---- hints

-- the host with the fallback
abbrev pub with_fallback : Host → Host
with_fallback host = record host { fallback = true }

-- the file that the fallback finds for this URL. A host that accepts exact spellings only can have no fallback
abbrev pub html_hint : (List ℕ → Response) → Host → List ℕ → Option Hint
html_hint at host url =
    if host.fallback || host.exact then None else option_map HtmlFallback (found_file (fallback_at at (with_fallback host) url))

-- what is returned is a redirect
abbrev pub is_moved : Response → Bool
is_moved Missing = false
is_moved (Moved url) = true
is_moved (Found file) = false

-- this is the URL of a folder below the top: there is a redirect at the URL without its slash
abbrev pub is_subfolder : (List ℕ → Response) → List ℕ → Bool
is_subfolder at url = ends_in_slash url && is_moved (at (take (length url - 1) url))

-- this is the URL of a folder: of the top, or of one below it
abbrev pub is_folder : (List ℕ → Response) → List ℕ → List ℕ → Bool
is_folder at top url = bytes_eq url top || is_subfolder at url

-- the file that is the page of the folder at this URL, if the rules have its name, or else that the folder has no index file. `homes` has the
-- pages of folders under other rules
abbrev pub folder_hint : (at homes : List ℕ → Response) → List ℕ → List ℕ → Option Hint
folder_hint at homes top url =
    option_or (option_map IndexFile (found_file (homes url))) (if is_folder at top url then Some NoIndexFile else None)

-- what is found for this URL by other rules, or else that it is the URL of a folder
abbrev pub other_hint : (at homes : List ℕ → Response) → Server → List ℕ → Option Hint
other_hint at homes server url = option_or (html_hint at server.host url) (folder_hint at homes server.top url)

abbrev pub is_missing : Response → Bool
is_missing Missing = true
is_missing (Moved url) = false
is_missing (Found file) = false

-- a symbolic link that leads out of the folder, or else to nothing
abbrev pub hint_of_link : Bool → Hint
hint_of_link true = LeadsOut
hint_of_link false = LeadsNowhere

-- the first symbolic link on the path of this URL that is not followed
abbrev pub link_hint : List SkippedLink → List ℕ → Option Hint
link_hint skipped url = option_map hint_of_link (outside_on (outside_in skipped) [] (names_of url))

-- the hint for this URL, which has no page: such a link, or else what is found by other rules, or else a folder
abbrev pub missing_hint : (at homes : List ℕ → Response) → List SkippedLink → Server → List ℕ → Option Hint
missing_hint at homes skipped server url = option_or (link_hint skipped url) (other_hint at homes server url)

-- the hint for the URL of a path and a query, which are looked up, if there is no page
abbrev pub hint_with : SiteFiles → List ℕ → Option Hint
hint_with files url =
    if is_missing (entry_at files.pages url) then missing_hint (entry_at files.pages) (entry_at files.homes) files.skipped (server_of files) url
    else None

abbrev pub hint_for : SiteFiles → List ℕ → Option Hint
hint_for files plain = hint_with files (own_spelling (own_in files.linked) [] (names_of plain))

-- the hint for a URL. A site list has none
abbrev pub hint_at : SiteFiles → List ℕ → Option Hint
hint_at files url = if is_some files.listed then None else option_and_then (hint_for files) (accepted_key (server_of files) url)
