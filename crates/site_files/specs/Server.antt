-- What a plain static server looks up for a URL.
use Rattle.std.specs.Prelude.{ℕ, Bool, false, not, ◌||◌, nat_lt, List, [], ◌∷◌, ◌++◌, length, drop, map, codes, bytes_eq, Option, Some, None, option_and_then, if◌then◌else◌, option_map}
use Rattle.std.specs.List.{after_first, before_first, join_with_byte, position_or_len, slice_split}
use Rattle.percent_encoding.specs.Percent.{percent_decode, percent_encode}
use Rattle.site_files.specs.Below.{begins, is_mark, is_slash}
use Rattle.site_files.specs.declared.escapes.TheConstants.{IN_NAME, IN_PATH, IN_QUERY}

-- the rules of a host
pub record Host : Type 0 where
  pub indices : List (List ℕ)  -- the names of index files; the page of a folder is the file with the first of them that it has
  pub queries : Bool  -- a `?` in the name of a file begins a query
  pub exact : Bool  -- a file has no other spelling of its URL
  pub fallback : Bool  -- the file `x.html` is also the page `x`, if there is no other

-- a host, and the place of a folder on it
pub record Server : Type 0 where
  pub host : Host
  pub origin : List ℕ  -- the scheme and the authority of its URLs
  pub top : List ℕ  -- the URL of the folder, with a slash at its end

-- what is looked up: a path below the top and a query, both without escapes
pub record Key : Type 0 where
  pub path : List ℕ
  pub query : Option (List ℕ)

-- ---- the path of a URL

-- the folder itself
abbrev pub is_same_folder : List ℕ → Bool
is_same_folder name = bytes_eq name [] || bytes_eq name (codes ".")

-- the folder above
abbrev pub is_parent : List ℕ → Bool
is_parent name = bytes_eq name (codes "..")

-- the list without its last element, if it has one
abbrev pub without_last : List (List ℕ) → Option (List (List ℕ))
without_last [] = None
without_last (name ∷ []) = Some []
without_last (name ∷ other ∷ names) = option_map (λ front. name ∷ front) (without_last (other ∷ names))

-- the way to a folder, after one more name. There is none to the folder above the top
abbrev pub stepped : List (List ℕ) → List ℕ → Option (List (List ℕ))
stepped way name =
    if is_same_folder name then Some way
    else if is_parent name then without_last way
    else Some (way ++ name ∷ [])

-- the way that the names of a path lead
abbrev pub walked : List (List ℕ) → List (List ℕ) → Option (List (List ℕ))
walked way [] = Some way
walked way (name ∷ names) = option_and_then (λ next. walked next names) (stepped way name)

-- the names between the slashes of a path
abbrev pub names_of : List ℕ → List (List ℕ)
names_of path = slice_split is_slash path

-- the last name is not that of a file
abbrev pub ends_in_folder : List (List ℕ) → Bool
ends_in_folder [] = false
ends_in_folder (name ∷ []) = is_same_folder name || is_parent name
ends_in_folder (name ∷ other ∷ names) = ends_in_folder (other ∷ names)

-- the path of a way, with a slash at its end if it is that of a folder
abbrev pub path_of : Bool → List (List ℕ) → List ℕ
path_of is_folder way = join_with_byte 47 (if is_folder then way ++ [] ∷ [] else way)

-- the path without empty names and dots; there is none above the top
abbrev pub looked_up : List ℕ → Option (List ℕ)
looked_up path = option_map (path_of (ends_in_folder (names_of path))) (walked [] (names_of path))

-- ---- from a URL to what is looked up, and back

-- the text after its front, if it begins with that
abbrev pub after_front : List ℕ → List ℕ → Option (List ℕ)
after_front front text = if begins front text then Some (drop (length front) text) else None

-- what is before the first `?`, or all
abbrev pub before_query : List ℕ → List ℕ
before_query text = before_first is_mark text

-- what is after the first `?`, if there is one
abbrev pub query_of : List ℕ → Option (List ℕ)
query_of text = if nat_lt (position_or_len is_mark text) (length text) then Some (after_first is_mark text) else None

-- the escapes of a name as `url_of` writes them
abbrev pub respelled_name : List ℕ → List ℕ
respelled_name name = percent_encode IN_NAME (percent_decode name)

-- the escapes of each name of a path
abbrev pub respelled : List ℕ → List ℕ
respelled path = join_with_byte 47 (map respelled_name (names_of path))

-- what is looked up for the path of a URL, if that is below the top
abbrev pub path_at : Server → List ℕ → Option (List ℕ)
path_at server path =
    option_and_then (λ below. looked_up (percent_decode below))
    (option_and_then (λ rest. after_front server.top (server.origin ++ respelled rest)) (after_front server.origin path))

-- the query of a URL, if it counts
abbrev pub known_query : Host → Option (List ℕ) → Option (List ℕ)
known_query host query = if host.queries then query else None

-- the key of a path without escapes and of a query with its escapes
abbrev pub key_with : Option (List ℕ) → List ℕ → Key
key_with query path = record { path = path; query = option_map percent_decode query }

-- the key of a URL, if that is below the top
abbrev pub key_of : Server → List ℕ → Option Key
key_of server url = option_map (key_with (known_query server.host (query_of url))) (path_at server (before_query url))

-- a question mark and a query with its escapes
abbrev pub with_mark : Option (List ℕ) → List ℕ
with_mark None = []
with_mark (Some query) = 63 ∷ percent_encode IN_QUERY query

-- the URL of a key below the top, as a server writes it
abbrev pub url_of : List ℕ → Key → List ℕ
url_of top key = top ++ percent_encode IN_PATH key.path ++ with_mark key.query

-- the URL is spelled as a server accepts it, if this is the URL of its key
abbrev pub is_accepted : Host → List ℕ → List ℕ → Bool
is_accepted host plain url = not host.exact || bytes_eq plain url

-- the URL of the key of a URL that a server accepts
abbrev pub accepted_url : Server → List ℕ → Key → Option (List ℕ)
accepted_url server url key =
    if is_accepted server.host (url_of server.top key) url then Some (url_of server.top key) else None

abbrev pub accepted_key : Server → List ℕ → Option (List ℕ)
accepted_key server url = option_and_then (accepted_url server url) (key_of server url)
