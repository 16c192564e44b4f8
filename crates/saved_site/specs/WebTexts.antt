-- The text of a saved web, page by page.
use Rattle.std.specs.Prelude.{◌≡◌, ℕ, true, List, [], ◌∷◌, ◌++◌, codes, flat_map}
use Rattle.saved_site.specs.Below.{is_next}
use Rattle.saved_site.specs.Pages.{page_text, IsPage}
use Rattle.saved_site.specs.declared.page.SitePage.{SitePage}

-- the text is that of a page at the URL
pub record IsPageText (url text : List ℕ) : Type 0 where
  pub page : SitePage
  pub there : page.url ≡ url
  pub printed : page_text page ≡ text
  pub fit : IsPage page

-- the URL of a page, and its text
abbrev pub TextAt : Type 0
TextAt = List ℕ × List ℕ

-- a header, and the texts of pages
abbrev pub web_bytes : List TextAt → List ℕ
web_bytes texts = codes "savedweb 2" ++ 10 ∷ flat_map (λ text. text.1) texts

-- the URL of the last page, or this if there is none
abbrev pub last_url : List ℕ → List TextAt → List ℕ
last_url last [] = last
last_url last (text ∷ more) = last_url text.0 more

-- the texts of pages below the top, each after the one before it, the first after this URL
abbrev pub AreInOrder : List ℕ → List ℕ → List TextAt → Type 0
AreInOrder top last [] = Unit {0}
AreInOrder top last (text ∷ more) = IsPageText text.0 text.1 × ((is_next top last text.0 ≡ true) × AreInOrder top text.0 more)
