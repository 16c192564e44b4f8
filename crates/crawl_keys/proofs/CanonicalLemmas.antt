-- Parsing a canonical text returns the URL of which it is the text.
use Rattle.crawl_keys.proofs.Prelude.{◌≡◌, List, ℕ, None, Ok, Err, true, false, arith, or_cases, cond-true, cond-false, bytes_eq-Decides, SpecialNotFile, Parts, IsValid, kind_of, serialize, parse_url-serialize_special, NotHttp}
use Rattle.url.specs.Scheme.{scheme_type, default_port}
use Rattle.url.specs.Parser.{parse_url}
use Rattle.crawl_keys.specs.CanonicalText.{IsCanonical, canonical, is_web, text_of, without_fragment}

-- the scheme of a web URL is special, and not `file`
pub web_kind : (url : Parts) → is_web url ≡ true → kind_of url ≡ SpecialNotFile
unfolding scheme_type default_port
web_kind url web = grind (arith, bytes_eq-Decides, or_cases)

-- a valid URL stays valid without its fragment
pub without_fragment_valid : (url : Parts) → IsValid url → IsValid (without_fragment url)
without_fragment_valid url valid = grind arith

-- the text of a web URL without its fragment parses to that URL
pub parse_url-without_fragment : (url : Parts) → IsValid url → is_web url ≡ true → parse_url None (serialize (without_fragment url)) ≡ Ok (without_fragment url)
parse_url-without_fragment url valid web =
    parse_url-serialize_special (without_fragment url) None (without_fragment_valid url valid)
    (web_kind (without_fragment url) web)

-- that text is canonical
pub canonical_text : (url : Parts) → IsValid url → is_web url ≡ true → IsCanonical (serialize (without_fragment url))
canonical_text url valid web = grind (arith, without_fragment_valid, parse_url-without_fragment)

-- and it is the text of the URL
pub text_of-web : (url : Parts) → is_web url ≡ true → text_of url ≡ Ok (serialize (without_fragment url))
unfolding text_of
text_of-web url web = cond-true _ _ _ web

-- a URL of another scheme has no canonical text
pub text_of-other : (url : Parts) → is_web url ≡ false → text_of url ≡ Err NotHttp
unfolding text_of
text_of-other url other = cond-false _ _ _ other

-- the canonical text of a canonical text is itself
pub canonical-canonical : (text : List ℕ) → IsCanonical text → canonical text ≡ Ok text
canonical-canonical text key = grind (arith, text_of-web)
