-- The pages of a site, and the saved web that they are.
use Rattle.std.specs.Prelude.{◌≡◌, ℕ, true, Bool, List, [], ◌∷◌, ◌++◌, Ok, codes, if◌then◌else◌, flat_map}
use Rattle.std.specs.Cmp.Lexicographic.{slice_cmp}
use Rattle.std.specs.Ordering.{is_lt, nat_cmp}
use Rattle.crawl_keys.specs.CanonicalText.{canonical}
use Rattle.document_links.specs.Texts.{fits, all_fit}
use Rattle.saved_site.specs.declared.page.Under.{Under}
use Rattle.saved_site.specs.declared.page.Under.TheVariants.{Links, Moved}
use Rattle.saved_site.specs.declared.page.SitePage.{SitePage}

-- each line with its line break
abbrev pub page_line : List ℕ → List ℕ
page_line url = codes "page " ++ url ++ 10 ∷ []

abbrev pub link_line : List ℕ → List ℕ
link_line text = codes "link " ++ text ++ 10 ∷ []

abbrev pub moved_line : List ℕ → List ℕ
moved_line text = codes "moved " ++ text ++ 10 ∷ []

-- the lines of links
abbrev pub link_lines : List (List ℕ) → List ℕ
link_lines texts = flat_map link_line texts

-- the lines under a page's own
abbrev pub under_text : Under → List ℕ
under_text (Links texts) = link_lines texts
under_text (Moved text) = moved_line text

abbrev pub page_text : SitePage → List ℕ
page_text page = page_line page.url ++ under_text page.under

abbrev pub web_text : List SitePage → List ℕ
web_text pages = codes "savedweb 2" ++ 10 ∷ flat_map page_text pages

-- ---- their order

-- the URL is after the other, byte by byte
abbrev pub is_after : List ℕ → List ℕ → Bool
is_after last url = is_lt (slice_cmp nat_cmp last url)

-- the pages whose URL is after this one and after those of all pages that were taken before
abbrev pub ascending_after : List ℕ → List SitePage → List SitePage
ascending_after last [] = []
ascending_after last (page ∷ more) =
    if is_after last page.url then page ∷ ascending_after page.url more else ascending_after last more

-- the pages in order, each URL once; no URL is empty
abbrev pub ascending : List SitePage → List SitePage
ascending pages = ascending_after [] pages

-- each URL is after the one before it
abbrev pub AscendsAfter : List ℕ → List SitePage → Type 0
AscendsAfter last [] = Unit {0}
AscendsAfter last (page ∷ more) = (is_after last page.url ≡ true) × AscendsAfter page.url more

-- ---- what holds of each page

abbrev pub fits_under : Under → Bool
fits_under (Links texts) = all_fit texts
fits_under (Moved text) = fits 6 text

-- the URL is canonical and fits a line, and so does all that belongs to it
pub record IsPage (page : SitePage) : Type 0 where
  pub fit : fits 5 page.url ≡ true
  pub own : canonical page.url ≡ Ok page.url
  pub under_fit : fits_under page.under ≡ true
