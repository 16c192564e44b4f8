-- The pages that were read, and the page that a saved web has at each URL.
use Rattle.std.specs.Prelude.{ℕ, List, Option, option_map}
use Rattle.std.specs.Str.Lines.{lines}
use Rattle.saved_pages.specs.PageLists.{PageRead, urls, page_with}
use Rattle.saved_pages.specs.SavedWeb.{page_after}
use Rattle.crawl_pages.specs.declared.page.Page.{Page}
use Rattle.saved_web.specs.declared.web.SavedWeb.{SavedWeb}

-- the pages that are known, in the order of their lines
abbrev pub KnownPages : Type 0
KnownPages = List PageRead

-- the lines after the line of the page with this URL
abbrev pub known_after : KnownPages → List ℕ → Option (List (List ℕ))
known_after pages url = option_map (λ page. lines page.following) (page_with pages url)

-- the page that is known at a URL
abbrev pub known_page : KnownPages → List ℕ → Page
known_page pages url = page_after url (known_after pages url)

-- the page that a saved web has at a URL
abbrev pub page_at : SavedWeb → List ℕ → Page
page_at web url = known_page web.pages url

-- the URLs of a saved web's pages
abbrev pub urls_of : SavedWeb → List (List ℕ)
urls_of web = urls web.pages
