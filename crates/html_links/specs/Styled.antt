-- What contracts state of the code that reads style sheets.
use Rattle.std.specs.Prelude.{◌<◌, ℕ, List, length, Option, None, Some}
use Rattle.html_links.specs.declared.style.UrlAt.{UrlAt}
use Rattle.html_links.specs.Styles.{Found, found_with}

abbrev pub url_found : UrlAt → Found
url_found x = found_with x.text.now x.left x.rest.now

abbrev pub found_bytes : Option UrlAt → Option Found
found_bytes None = None
found_bytes (Some x) = Some (url_found x)

abbrev pub FoundLeaves : Option UrlAt → List ℕ → Type 0
FoundLeaves None bytes = Unit {0}
FoundLeaves (Some x) bytes = length x.rest.now < length bytes
