-- The pages of results.
use Rattle.std.specs.Prelude.{ℕ, List, [], ◌∷◌, if◌then◌else◌, bytes_eq}
use Rattle.crawl_pages.specs.declared.page.Page.{Page}
use Rattle.crawl_pages.specs.declared.page.Page.TheVariants.{Missing}
use Rattle.crawl_pages.specs.declared.page.PageResult.{PageResult}

-- the page that the results have at a URL, or `Missing` if there is none
abbrev pub page_in : List PageResult → List ℕ → Page
page_in [] url = Missing
page_in (r ∷ rest) url = if bytes_eq r.url url then r.page else page_in rest url
