-- The text that identifies an http or https URL. The parser and the serializer are those of the URL Standard, as the crate `url`
-- defines them.
use Rattle.std.specs.Prelude.{◌≡◌, ℕ, Bool, true, ◌||◌, List, bytes_eq, codes, Some, None, Result, Ok, Err, if◌then◌else◌}
use Rattle.url.specs.declared.error.ParseError.{ParseError}
use Rattle.url.specs.declared.error.ParseError.TheVariants.{OutOfMemory, Overflow}
use Rattle.url.specs.Parts.{Parts, serialize, IsValid}
use Rattle.url.specs.Parser.{Parsed, parse_url}
use Rattle.crawl_keys.specs.declared.error.KeyError.{KeyError}
use Rattle.crawl_keys.specs.declared.error.KeyError.TheVariants.{NotUrl, NotHttp, NoMemory}

-- the scheme is `http` or `https`
abbrev pub is_web : Parts → Bool
is_web url = bytes_eq url.scheme (codes "http") || bytes_eq url.scheme (codes "https")

-- the same URL with no fragment
abbrev pub without_fragment : Parts → Parts
without_fragment url = record url { fragment = None }

-- the text of a web URL without its fragment; an error for any other scheme
unfoldable pub text_of : Parts → Result (List ℕ) KeyError
text_of url = if is_web url then Ok (serialize (without_fragment url)) else Err NotHttp

-- the text of a parsed URL; an error if the parser failed
abbrev pub text_of_parse : Parsed Parts → Result (List ℕ) KeyError
text_of_parse (Ok url) = text_of url
text_of_parse (Err _) = Err NotUrl

-- the canonical text of a text that is parsed without a base
abbrev pub canonical : List ℕ → Result (List ℕ) KeyError
canonical text = text_of_parse (parse_url None text)

-- the canonical text of a text that is parsed against a base
abbrev pub resolve_from : Parsed Parts → List ℕ → Result (List ℕ) KeyError
resolve_from (Ok base) text = text_of_parse (parse_url (Some base) text)
resolve_from (Err _) text = Err NotUrl

-- the canonical text of a link on the page at `base`
abbrev pub resolve : List ℕ → List ℕ → Result (List ℕ) KeyError
resolve base text = resolve_from (parse_url None base) text

-- the text is that of a valid web URL without a fragment, and parsing it returns this URL
pub record IsCanonical (text : List ℕ) : Type 0 where
  pub url : Parts
  pub valid : IsValid url
  pub web : is_web url ≡ true
  pub bare : url.fragment ≡ None
  pub spelled : serialize url ≡ text
  pub parses : parse_url None text ≡ Ok url

-- a web URL without a fragment, to which its own text parses
pub record IsPage (url : Parts) : Type 0 where
  pub web : is_web url ≡ true
  pub bare : url.fragment ≡ None
  pub parses : parse_url None (serialize url) ≡ Ok url

-- the error for an error of the parser: a URL that `url` cannot store counts as out of memory
abbrev pub key_error : ParseError → KeyError
key_error OutOfMemory = NoMemory
key_error Overflow = NoMemory
key_error _ = NotUrl

-- what an error prints
abbrev pub message : KeyError → List ℕ
message NotUrl = codes "not a URL"
message NotHttp = codes "not http or https"
message NoMemory = codes "out of memory"
