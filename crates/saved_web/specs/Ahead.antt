-- The links of a saved web's pages, resolved before the pages are fetched: for each link the index of its URL.
use Rattle.std.specs.Prelude.{◌≡◌, ℕ, List, slice_get, Option, Some, None}
use Rattle.std.specs.Str.Lines.{lines}
use Rattle.saved_pages.specs.PageLists.{PageRead}
use Rattle.saved_pages.specs.UrlIndices.{LeadTo}
use Rattle.saved_pages.specs.SavedWeb.{page_after}
use Rattle.crawl_pages.specs.declared.page.Page.{Page}
use Rattle.crawl_pages.specs.declared.page.Page.TheVariants.{Found, Missing}
use Rattle.saved_web.specs.declared.ahead.chunk.Chunk.{Chunk}
use Rattle.saved_web.specs.declared.ahead.chunk.LinksAhead.{LinksAhead}
use Rattle.saved_web.specs.declared.ahead.chunk.PageAhead.{PageAhead}

-- the page that was read; a missing page if there is none
abbrev pub shown_page : Option PageRead → Page
shown_page None = Missing
shown_page (Some page) = page_after page.url (Some (lines page.following))

-- the page has these links, which are given by the indices of their URLs
pub record IsAhead (page : Page) (urls : List (List ℕ)) (ahead : LinksAhead) : Type 0 where
  pub links : List (List ℕ)
  pub lead : LeadTo urls ahead.indices.items links
  pub page_is : page ≡ Found links ahead.skipped

-- each of these pages with its links is the page that the saved web has at that index
abbrev pub AreAhead : List PageRead → List PageAhead → List (List ℕ) → Type 0
AreAhead web pages urls =
    (k : ℕ) (page : PageAhead) → slice_get pages k ≡ Some page → IsAhead (shown_page (slice_get web page.index)) urls page.links

abbrev pub IsChunk : List PageRead → Chunk → Type 0
IsChunk web chunk = AreAhead web chunk.pages.items chunk.urls
