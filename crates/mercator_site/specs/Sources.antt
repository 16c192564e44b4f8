-- Sources with the pages of a saved web.
use Rattle.std.specs.Prelude.{◌≡◌, ℕ, List}
use Rattle.std.specs.Str.Lines.{lines}
use Rattle.saved_pages.specs.SavedWeb.{page_of}
use Rattle.saved_pages.specs.WebErrors.{IsSound}
use Rattle.crawl_pages.specs.declared.page.Page.{Page}

-- the bytes are a saved web, which has this page at each URL
pub record IsSourceOf (meaning : List ℕ → Page) (bytes : List ℕ) : Type 0 where
  pub sound : IsSound (lines bytes)
  pub same : (url : List ℕ) → meaning url ≡ page_of (lines bytes) url
