-- What a page is, and its links.
use Rattle.std.specs.Prelude.{ℕ, Bool, true, false, List, [], option_to_list}
use Rattle.crawl_pages.specs.declared.page.Page.{Page}
use Rattle.crawl_pages.specs.declared.page.Page.TheVariants.{Found, Moved, Missing}

-- the links that a crawl follows from a page. If the page has moved, they are the URL to which it moved, if that is known
abbrev pub links_of : Page → List (List ℕ)
links_of (Found links skipped) = links
links_of (Moved to) = option_to_list to
links_of Missing = []

abbrev pub is_found : Page → Bool
is_found (Found links skipped) = true
is_found _ = false

abbrev pub is_missing : Page → Bool
is_missing Missing = true
is_missing _ = false

abbrev pub is_moved : Page → Bool
is_moved (Moved to) = true
is_moved _ = false
