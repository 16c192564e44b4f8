-- The texts of links and redirects to URLs of a site.
use Rattle.std.specs.Prelude.{ℕ, ◌==◌, Bool, false, not, ◌&&◌, List, [], ◌∷◌, ◌++◌, Option, Some, None, if◌then◌else◌, bytes_eq, string_bytes}
use Rattle.document_links.specs.Texts.{fits}
use Rattle.site_files.specs.Files.{url_of}
use Rattle.site_files.specs.Server.{after_front, query_of}
use Rattle.site_files.specs.declared.files.SiteFiles.{SiteFiles}
use Rattle.saved_site.specs.declared.page.Under.{Under}
use Rattle.saved_site.specs.declared.page.Under.TheVariants.{Links, Moved}

abbrev pub begins_slash : List ℕ → Bool
begins_slash [] = false
begins_slash (b ∷ bytes) = b == 47

-- the text is a path that begins with one slash. Two slashes begin a host
abbrev pub is_path : List ℕ → Bool
is_path [] = false
is_path (b ∷ bytes) = b == 47 && not (begins_slash bytes)

abbrev pub path_or : List ℕ → Option (List ℕ) → List ℕ
path_or url None = url
path_or url (Some path) = if is_path path then path else url

-- the URL without its scheme and authority, if they are those of the site and a path follows
abbrev pub without_origin : List ℕ → List ℕ → List ℕ
without_origin origin url = path_or url (after_front origin url)

-- the text that leads to a URL of the site
abbrev pub text_to : SiteFiles → List ℕ → List ℕ
text_to files url = without_origin (string_bytes files.site.origin) url

-- ---- redirects

abbrev pub marked : Option (List ℕ) → List ℕ
marked None = []
marked (Some query) = 63 ∷ query

-- the target with the query of a URL
abbrev pub with_query : List ℕ → List ℕ → List ℕ
with_query target url = target ++ marked (query_of url)

abbrev pub is_url : List ℕ → Option (List ℕ) → Bool
is_url url None = false
is_url url (Some own) = bytes_eq own url

-- the target of a redirect. Another spelling of its URL, or the URL with a query, keeps its query
abbrev pub target_at : SiteFiles → ℕ → List ℕ → List ℕ → List ℕ
target_at files number url target = if is_url url (url_of files number) then target else with_query target url

-- ---- lines

-- a link with this text, if it fits in a line
abbrev pub link_to : List ℕ → List (List ℕ)
link_to text = if fits 5 text then text ∷ [] else []

-- a redirect with this text, if it fits in a line
abbrev pub redirect_to : List ℕ → Under
redirect_to text = if fits 6 text then Moved text else Links []
