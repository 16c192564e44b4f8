-- Web URLs that the parser spells differently: with upper-case letters, with the scheme's default port, or without a path.
use Rattle.std.specs.Prelude.{◌≡◌, ◌⊎◌, ◌++◌, ℕ, true, List, [], ◌∷◌, length, codes, Option, None, Ok}
use Rattle.std.specs.Char.{is_ascii_digit}
use Rattle.std.specs.List.{list_all}
use Rattle.url.specs.Ascii.{colon, slash}
use Rattle.url.specs.Input.{lowercase}
use Rattle.url.specs.Parser.{parse_port, parse_url}
use Rattle.url.specs.Parts.{Parts}
use Rattle.crawl_keys.specs.CanonicalText.{text_of_parse}
use Rattle.crawl_keys.specs.Plain.{host_len, is_plain_host}

-- the text leads to this URL from every page, and without a page
abbrev pub LeadsAnywhere : List ℕ → List ℕ → Type 0
LeadsAnywhere text url = (base : Option Parts) → text_of_parse (parse_url base text) ≡ Ok url

-- a web scheme in lower case, and its slashes
abbrev pub IsFront : List ℕ → Type 0
IsFront front = (front ≡ codes "http://") ⊎ (front ≡ codes "https://")

-- the front is the scheme in lower case with its slashes, and the port is a colon and the digits of the scheme's default port,
-- which the parser omits
pub record IsFrontOf (scheme front port : List ℕ) : Type 0 where
  pub digits : List ℕ
  pub web : (lowercase scheme ≡ codes "http") ⊎ (lowercase scheme ≡ codes "https")
  pub is : front ≡ lowercase scheme ++ codes "://"
  pub is_port : port ≡ colon ∷ digits
  pub whole : list_all is_ascii_digit digits ≡ true
  pub own : parse_port (lowercase scheme) digits ≡ Ok None

-- the text is this front, a slash and the rest; or only the front, and the rest is empty
abbrev pub IsCut : List ℕ → List ℕ → List ℕ → Type 0
IsCut text front back = (text ≡ front ++ slash ∷ back) ⊎ ((text ≡ front) × (back ≡ []))

-- the text is this host and the port, or only the host
abbrev pub IsWithPort : List ℕ → List ℕ → List ℕ → Type 0
IsWithPort text host port = (text ≡ host ++ port) ⊎ (text ≡ host)

-- the URL is the front, the host in lower case, a slash and the path, and everything after the front is in its common form
pub record IsLowered (front host path url : List ℕ) : Type 0 where
  pub is : url ≡ front ++ (lowercase host ++ slash ∷ path)
  pub plain : is_plain_host (lowercase host ++ slash ∷ path) ≡ true
  pub len : host_len (lowercase host ++ slash ∷ path) ≡ length host
