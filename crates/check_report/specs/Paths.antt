-- The paths of files in annotations, JUnit XML and SARIF, and links to their sources.
use Rattle.std.specs.Prelude.{ℕ, ◌-◌, ◌==◌, Bool, ◌||◌, List, [], ◌∷◌, ◌++◌, bytes_eq, codes, drop, flat_map, length, nat_eq, slice_get, if◌then◌else◌, Option, None, Some}
use Rattle.std.specs.Char.{is_ascii_alphanumeric}
use Rattle.std.specs.List.{starts_with}
use Rattle.percent_encoding.specs.Percent.{percent_encode_byte}

-- a folder without a leading `./`
abbrev pub without_here : List ℕ → List ℕ
without_here folder = if starts_with nat_eq folder (codes "./") then drop 2 folder else folder

-- the slash to put after a folder with this last byte
abbrev pub slash_after : Option ℕ → List ℕ
slash_after None = []
slash_after (Some last) = if last == 47 then [] else codes "/"

-- a folder and a slash, or nothing for an empty name and for the current folder
abbrev pub front_path : List ℕ → List ℕ
front_path folder = if bytes_eq folder (codes ".") then [] else folder ++ slash_after (slice_get folder (length folder - 1))

-- the path of a file in a folder
abbrev pub path_in : List ℕ → List ℕ → List ℕ
path_in folder file = front_path (without_here folder) ++ file

-- a byte that stays as it is in a URL's path: a letter, a digit, `-`, `.`, `_`, `~` or `/`
abbrev pub stays_in_path : ℕ → Bool
stays_in_path b = is_ascii_alphanumeric b || (b == 45) || (b == 46) || (b == 95) || (b == 126) || (b == 47)

-- any other byte is escaped
abbrev pub path_byte : ℕ → List ℕ
path_byte b = if stays_in_path b then b ∷ [] else percent_encode_byte b

-- a path in a URL
abbrev pub path_uri : List ℕ → List ℕ
path_uri path = flat_map path_byte path

-- the URL of the sources, which ends with a slash
abbrev pub base_url : List ℕ → List ℕ
base_url url = url ++ slash_after (slice_get url (length url - 1))
