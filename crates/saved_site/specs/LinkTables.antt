-- The URLs to which links lead, by their indices in a list, and what is known of the links of a folder's pages.
use Rattle.std.specs.Prelude.{◌≡◌, ℕ, true, List, [], All, slice_get, Option, Some, None, option_map}
use Rattle.crawl_keys.specs.Folders.{is_of_folder}
use Rattle.saved_pages.specs.SavedWeb.{link_url}
use Rattle.saved_site.specs.declared.linked.link_table.LinkTable.{LinkTable}

-- the index is that of the URL that a link leads to; if it leads to none, there is no index
abbrev pub LeadsTo : List (List ℕ) → Option ℕ → Option (List ℕ) → Type 0
LeadsTo urls index link = option_map (slice_get urls) index ≡ option_map (λ url. Some url) link

-- the text of a link, and the index
abbrev pub TextIndex : Type 0
TextIndex = List ℕ × Option ℕ

-- links with these texts lead to the URLs at their indices from the page at `base`
abbrev pub AreKnown : List ℕ → List (List ℕ) → List TextIndex → Type 0
AreKnown base urls known = All (λ k. LeadsTo urls k.1 (link_url base k.0)) known

-- and to the same from all pages of a folder
abbrev pub AreOfFolder : List TextIndex → Type 0
AreOfFolder known = All (λ k. is_of_folder k.0 ≡ true) known

-- ---- tables

-- what is known is right on the page at `base` and on all pages of its folder
pub record IsTableOf (base : List ℕ) (table : LinkTable) : Type 0 where
  pub known : AreKnown base table.urls table.known
  pub of_folder : AreOfFolder table.known

-- likewise for the last page; before the first nothing is known
abbrev pub IsTable : Option (List ℕ) → LinkTable → Type 0
IsTable None table = table.known ≡ []
IsTable (Some base) table = IsTableOf base table
