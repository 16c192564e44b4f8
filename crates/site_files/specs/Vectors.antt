-- Requests, and what a server returns by the definitions. Most of those in `Requests` and `Responses` were made to nginx and to Python's
-- `http.server`, which looked up and returned the same.
use Rattle.std.specs.Prelude.{◌≡◌, ℕ, Bool, false, true, List, [], ◌∷◌, codes, Option, Some, None}
use Rattle.percent_encoding.specs.Percent.{percent_decode}
use Rattle.site_files.specs.Hints.{home_page, is_folder}
use Rattle.site_files.specs.Kinds.{kind_of, starts_at}
use Rattle.site_files.specs.Pages.{Folder, Response, Missing, Moved, Found, own_text, page, page_at, response_at}
use Rattle.site_files.specs.Server.{Host, Server, looked_up, names_of}
use Rattle.site_files.specs.Skipped.{LinkAt, outside_at, outside_on}
use Rattle.site_files.specs.declared.kinds.FileKind.TheVariants.{Html, Xml, Svg, Style, Feed, UrlList, Unknown}

-- the path that is looked up for the path of a request, which comes without its first slash
abbrev pub requested : List ℕ → Option (List ℕ)
requested path = looked_up (percent_decode path)

-- what is looked up. nginx refuses those that lead above the top
pub record Requests : Type 0 where
  pub top : requested [] ≡ Some []
  pub slashes : requested (codes "/") ≡ Some []
  pub file : requested (codes "about.html") ≡ Some (codes "about.html")
  pub empty_first : requested (codes "/about.html") ≡ Some (codes "about.html")
  pub file_and_slash : requested (codes "about.html/") ≡ Some (codes "about.html/")
  pub folder_only : requested (codes "dir") ≡ Some (codes "dir")
  pub folder : requested (codes "dir/") ≡ Some (codes "dir/")
  pub folder_twice : requested (codes "dir//") ≡ Some (codes "dir/")
  pub empty_names : requested (codes "dir///sub//index.html") ≡ Some (codes "dir/sub/index.html")
  pub dot : requested (codes "dir/./page.html") ≡ Some (codes "dir/page.html")
  pub dot_last : requested (codes "dir/.") ≡ Some (codes "dir/")
  pub dots : requested (codes "dir//../about.html") ≡ Some (codes "about.html")
  pub dots_twice : requested (codes "dir/sub//../../about.html") ≡ Some (codes "about.html")
  pub dots_last : requested (codes "dir/sub/..") ≡ Some (codes "dir/")
  pub slash_escaped : requested (codes "dir%2Findex.html") ≡ Some (codes "dir/index.html")
  pub slash_last : requested (codes "dir%2f") ≡ Some (codes "dir/")
  pub slash_first : requested (codes "%2Fabout.html") ≡ Some (codes "about.html")
  pub slashes_escaped : requested (codes "dir%2F%2Fpage.html") ≡ Some (codes "dir/page.html")
  pub dots_escaped : requested (codes "dir%2F..%2Fabout.html") ≡ Some (codes "about.html")
  pub above : requested (codes "..%2Fnginx.conf") ≡ None
  pub above_escaped : requested (codes "%2e%2e/about.html") ≡ None
  pub space : requested (codes "a%20b.html") ≡ Some (codes "a b.html")
  pub percent : requested (codes "%2541.html") ≡ Some (codes "%41.html")
  pub letter : requested (codes "%41.html") ≡ Some (codes "A.html")
  pub no_escape : requested (codes "100%.html") ≡ Some (codes "100%.html")
  pub number_sign : requested (codes "about.html%23x") ≡ Some (codes "about.html#x")
  pub mark : requested (codes "about.html%3Fx") ≡ Some (codes "about.html?x")

abbrev pub host : Host
host = record { indices = codes "index.html" ∷ codes "index.htm" ∷ []; queries = false; exact = false; fallback = false }

-- a host with a folder at its top
abbrev pub server : Host → Server
server host = record { host = host; origin = codes "http://h"; top = codes "http://h/" }

abbrev pub names : List (List ℕ)
names = codes "%41.html" ∷ codes "a b.html" ∷ codes "about.html" ∷ codes "d2/" ∷ codes "d2/index.htm" ∷ codes "d4/" ∷ codes "d4/index.htm" ∷ codes "d4/index.html" ∷ codes "d5/" ∷ codes "d5/file.html" ∷ codes "dir/" ∷ codes "dir/index.html" ∷ codes "dir/page.html" ∷ codes "dir/sub/" ∷ codes "dir/sub/index.html" ∷ codes "index.html" ∷ []

abbrev pub folder : Folder
folder = record { names = names; links = [] }

abbrev pub response : List ℕ → Response
response url = response_at (server host) folder url

-- what is returned, with the index files `index.html` and `index.htm`
pub record Responses : Type 0 where
  pub top : response (codes "http://h/") ≡ Found 15
  pub file : response (codes "http://h/about.html") ≡ Found 2
  pub empty_first : response (codes "http://h//about.html") ≡ Found 2
  pub file_and_slash : response (codes "http://h/about.html/") ≡ Missing
  pub no_suffix : response (codes "http://h/about") ≡ Missing
  pub folder_only : response (codes "http://h/dir") ≡ Moved (codes "http://h/dir/")
  pub folder : response (codes "http://h/dir/") ≡ Found 11
  pub folder_twice : response (codes "http://h/dir//") ≡ Found 11
  pub empty_and_folder : response (codes "http://h//dir") ≡ Moved (codes "http://h/dir/")
  pub empty_names : response (codes "http://h/dir///sub//index.html") ≡ Found 14
  pub slash_escaped : response (codes "http://h/dir%2Findex.html") ≡ Found 11
  pub folder_escaped : response (codes "http://h/dir%2Fsub") ≡ Moved (codes "http://h/dir/sub/")
  pub dots_escaped : response (codes "http://h/dir%2F..%2Fabout.html") ≡ Found 2
  pub above : response (codes "http://h/..%2Fnginx.conf") ≡ Missing
  pub second_index : response (codes "http://h/d2/") ≡ Found 4
  pub first_index : response (codes "http://h/d4/") ≡ Found 7
  pub no_index : response (codes "http://h/d5/") ≡ Missing
  pub space : response (codes "http://h/a%20b.html") ≡ Found 1
  pub percent : response (codes "http://h/%2541.html") ≡ Found 0
  pub letter : response (codes "http://h/%41.html") ≡ Missing
  pub case : response (codes "http://h/ABOUT.html") ≡ Missing
  pub query : response (codes "http://h/about.html?x") ≡ Found 2
  pub folder_and_query : response (codes "http://h/dir?x") ≡ Moved (codes "http://h/dir/?x")
  pub query_of_folder : response (codes "http://h/dir/?x") ≡ Found 11
  pub mark : response (codes "http://h/about.html%3Fx") ≡ Missing
  pub index_name : response (codes "http://h/index.html") ≡ Found 15
  pub index_name_below : response (codes "http://h/dir/index.html") ≡ Found 11
  pub other : response (codes "http://h/nothing") ≡ Missing

-- ---- the rules of a host

abbrev pub exact : Server
exact = server (record host { exact = true })

abbrev pub fallback : Server
fallback = server (record host { fallback = true })

abbrev pub queries : Server
queries = server (record host { queries = true })

-- files whose names have queries, as `wget` writes them
abbrev pub saved : Folder
saved = record { names = codes "a?x=1" ∷ codes "index.html?q" ∷ codes "index.html" ∷ []; links = [] }

-- a folder with another name
abbrev pub linked : Folder
linked = record {
  names = codes "all/" ∷ codes "all/a.html" ∷ codes "latest/" ∷ [];
  links = record { name = codes "latest/"; own = codes "all/" } ∷ [];
}

-- what is returned by the rules, and the texts of files' own URLs
pub record Rules : Type 0 where
  pub exact_own : response_at exact folder (codes "http://h/a%20b.html") ≡ Found 1
  pub exact_query : response_at exact folder (codes "http://h/about.html?x") ≡ Missing
  pub exact_spelling : response_at exact folder (codes "http://h/%61bout.html") ≡ Missing
  pub fallback_name : response_at fallback folder (codes "http://h/about") ≡ Found 2
  pub fallback_folder : response_at fallback folder (codes "http://h/about/") ≡ Missing
  pub fallback_query : response_at fallback folder (codes "http://h/about?x") ≡ Found 2
  pub fallback_moved : response_at fallback folder (codes "http://h/dir") ≡ Moved (codes "http://h/dir/")
  pub query : response_at queries saved (codes "http://h/a?x=1") ≡ Found 0
  pub query_spelling : response_at queries saved (codes "http://h/%61?x%3D1") ≡ Found 0
  pub query_other : response_at queries saved (codes "http://h/a?x=2") ≡ Missing
  pub query_of_index : response_at queries saved (codes "http://h/?q") ≡ Found 1
  pub query_in_path : response_at (server host) saved (codes "http://h/a%3Fx=1") ≡ Found 0
  pub link : response_at (server host) linked (codes "http://h/latest/a.html") ≡ Found 1
  pub link_only : response_at (server host) linked (codes "http://h/latest") ≡ Moved (codes "http://h/latest/")
  pub own_top : own_text (server host) names 15 ≡ Some (codes "http://h/")
  pub own_folder : own_text (server host) names 11 ≡ Some (codes "http://h/dir/")
  pub own_name : own_text (server host) names 6 ≡ Some (codes "http://h/d4/index.htm")
  pub own_none : own_text (server host) names 3 ≡ None

-- ---- kinds of files

-- the kinds of files by their names
pub record Kinds : Type 0 where
  pub html : kind_of (codes "dir/page.html") ≡ Some Html
  pub upper_case : kind_of (codes "PAGE.HTM") ≡ Some Html
  pub dots_in_name : kind_of (codes "v1.2.html") ≡ Some Html
  pub xhtml : kind_of (codes "page.xhtml") ≡ Some Xml
  pub svg : kind_of (codes "img/Logo.SVG") ≡ Some Svg
  pub style : kind_of (codes "style.css") ≡ Some Style
  pub sitemap : kind_of (codes "Sitemap.xml") ≡ Some Feed
  pub feed : kind_of (codes "blog/feed.RSS") ≡ Some Feed
  pub atom : kind_of (codes "news.atom") ≡ Some Feed
  pub sitemap_text : kind_of (codes "a/SiteMap-2.TXT") ≡ Some UrlList
  pub text_sitemap : kind_of (codes "sitemap.d/a.txt") ≡ None
  pub sitemap_packed : kind_of (codes "sitemap.xml.gz") ≡ None
  pub text : kind_of (codes "notes.TXT") ≡ None
  pub packed : kind_of (codes "page.html.gz") ≡ None
  pub packed_upper_case : kind_of (codes "page.html.GZ") ≡ Some Unknown
  pub no_suffix : kind_of (codes "about") ≡ Some Unknown
  pub empty_suffix : kind_of (codes "about.") ≡ Some Unknown
  pub hidden : kind_of (codes "dir/.html") ≡ Some Unknown
  pub only_dots_before : kind_of (codes "..html") ≡ Some Unknown
  pub suffix_of_folder : kind_of (codes "dir.html/about") ≡ Some Unknown

-- whether a check starts at the own URLs of files
pub record Starts : Type 0 where
  pub page : starts_at Html (codes "http://h/a/") ≡ true
  pub style : starts_at Style (codes "http://h/feed.xml") ≡ false
  pub unknown : starts_at Unknown (codes "http://h/rss.xml") ≡ false
  pub sitemap : starts_at Feed (codes "http://h/sitemap-1.xml") ≡ true
  pub sitemap_text : starts_at UrlList (codes "http://h/a/SITEMAP.txt") ≡ true
  pub feed : starts_at Feed (codes "http://h/blog/index.xml") ≡ true
  pub feed_with_query : starts_at Feed (codes "http://h/Atom.XML?page=1") ≡ true
  pub rss : starts_at Feed (codes "http://h/all.rss") ≡ true
  pub other : starts_at Feed (codes "http://h/data.xml") ≡ false
  pub name_of_folder : starts_at Feed (codes "http://h/feed.xml/data.xml") ≡ false
  pub name_in_query : starts_at Feed (codes "http://h/data.xml?feed.xml") ≡ false

-- the pages of folders by index files that the rules do not have
pub record Homes : Type 0 where
  pub default : home_page (server host) 3 (codes "a/Default.htm") ≡ Some (page (codes "http://h/a/") (Found 3))
  pub home : home_page (server host) 0 (codes "home.php") ≡ Some (page (codes "http://h/") (Found 0))
  pub in_rules : home_page (server host) 0 (codes "a/index.html") ≡ None
  pub style : home_page (server host) 0 (codes "a/index.css") ≡ None
  pub feed : home_page (server host) 0 (codes "a/index.xml") ≡ None
  pub folder : home_page (server host) 0 (codes "index.d/") ≡ None
  pub other : home_page (server host) 0 (codes "a/page.html") ≡ None
  pub query : home_page queries 2 (codes "index.php?a=1") ≡ Some (page (codes "http://h/?a=1") (Found 2))

-- ---- folders without an index file

abbrev pub is_folder_in : List (List ℕ) → List ℕ → Bool
is_folder_in names url = is_folder (page_at (server host) names) (server host).top url

-- whether URLs are those of folders
pub record Folders : Type 0 where
  pub top : is_folder_in [] (codes "http://h/") ≡ true
  pub folder : is_folder_in (codes "d/" ∷ []) (codes "http://h/d/") ≡ true
  pub folder_below : is_folder_in (codes "d/" ∷ codes "d/e f/" ∷ []) (codes "http://h/d/e%20f/") ≡ true
  pub without_slash : is_folder_in (codes "d/" ∷ []) (codes "http://h/d") ≡ false
  pub file : is_folder_in (codes "a" ∷ []) (codes "http://h/a/") ≡ false
  pub case : is_folder_in (codes "d/" ∷ []) (codes "http://h/D/") ≡ false
  pub other : is_folder_in (codes "d/" ∷ []) (codes "http://h/d/e/") ≡ false

-- ---- symbolic links that are not followed

-- a folder that leads out, and a link to nothing
abbrev pub skipped : List LinkAt
skipped = record { url = codes "http://h/d/ext"; is_outside = true } ∷ record { url = codes "http://h/gone.js"; is_outside = false } ∷ []

abbrev pub outside : List ℕ → Option Bool
outside url = outside_on (outside_at skipped) [] (names_of url)

-- the first link on the path of a URL
pub record Links : Type 0 where
  pub link : outside (codes "http://h/gone.js") ≡ Some false
  pub folder : outside (codes "http://h/d/ext/") ≡ Some true
  pub folder_only : outside (codes "http://h/d/ext") ≡ Some true
  pub inside : outside (codes "http://h/d/ext/sub/a.html") ≡ Some true
  pub longer_name : outside (codes "http://h/d/extra/a.html") ≡ None
  pub folder_above : outside (codes "http://h/d/") ≡ None
  pub other_folder : outside (codes "http://h/e/ext/a.html") ≡ None
