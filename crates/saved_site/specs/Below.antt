-- The pages of a site are below its top, and in order.
use Rattle.std.specs.Prelude.{◌≡◌, ℕ, Bool, false, ◌&&◌, List}
use Rattle.std.specs.Str.Lines.{lines}
use Rattle.saved_pages.specs.SavedWeb.{page_of}
use Rattle.crawl_pages.specs.declared.page.Page.TheVariants as page
use Rattle.site_files.specs.Below.{IsTop, is_below}
use Rattle.saved_site.specs.Pages.{is_after}

-- the URL is below the top, and after the last one
abbrev pub is_next : List ℕ → List ℕ → List ℕ → Bool
is_next top last url = is_after last url && is_below top url

-- a saved web has no page but below the top
pub record IsWebBelow (top bytes : List ℕ) : Type 0 where
  pub none : (url : List ℕ) → is_below top url ≡ false → page_of (lines bytes) url ≡ page.Missing

-- likewise, if the top is that of BASE
pub record IsWebAt (base bytes : List ℕ) : Type 0 where
  pub top : List ℕ
  pub is_top : IsTop base top
  pub below : IsWebBelow top bytes
