-- The links of a page, found in chunks of its lines.
use Rattle.std.specs.Prelude.{◌≡◌, ℕ, List, count_by, is_none, filter_map}
use Rattle.saved_pages.specs.SavedWeb.{link_texts, link_url}
use Rattle.saved_web.specs.declared.long.LinksFound.{LinksFound}

-- these are the links among the lines up to the next page, and this number of other links lead to no URL
pub record AreFound (url : List ℕ) (lines : List (List ℕ)) (found : LinksFound) : Type 0 where
  pub links : found.links.items ≡ filter_map (link_url url) (link_texts lines)
  pub skipped : found.skipped ≡ count_by (λ text. is_none (link_url url text)) (link_texts lines)
