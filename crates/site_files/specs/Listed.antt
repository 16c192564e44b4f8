-- The pages of a site that a list has.
use Rattle.std.specs.Prelude.{◌≡◌, ℕ, List, [], if◌then◌else◌, slice_get, unwrap_or}
use Rattle.std.specs.List.{enumerate_from}
use Rattle.std.specs.List.Sorted.{IsStrictlySortedBy}
use Rattle.site_files.specs.Below.{begins}
use Rattle.site_files.specs.Entries.{cmp_urls, entry_at}
use Rattle.site_files.specs.Firsts.{first_with}
use Rattle.site_files.specs.Pages.{Response, Missing, Moved, Found}
use Rattle.site_files.specs.declared.page_table.Entry.{Entry}
use Rattle.site_files.specs.declared.site_list.Content.{Content}
use Rattle.site_files.specs.declared.site_list.Content.TheVariants.{File, Redirect}
use Rattle.site_files.specs.declared.site_list.ListedUrl.{ListedUrl}

-- the name in the line with this index
abbrev pub name_of : List (List ℕ) → ℕ → List ℕ
name_of names index = unwrap_or (slice_get names index) []

-- what is returned for the URL of a line: its file, or a redirect to exactly its target
abbrev pub content_response : List (List ℕ) → ℕ → Content → Response
content_response names index (File kind) = Found index
content_response names index Redirect = Moved (name_of names index)

abbrev pub line_url : ℕ × ListedUrl → List ℕ
line_url line = line.1.url

abbrev pub line_response : List (List ℕ) → ℕ × ListedUrl → Response
line_response names line = content_response names line.0 line.1.content

-- what the first of some lines with a URL has for it, if the URL is below the top
abbrev pub first_listed : List ℕ → List (List ℕ) → List (ℕ × ListedUrl) → List ℕ → Response
first_listed top names lines url = if begins top url then first_with line_url (line_response names) Missing lines url else Missing

-- what is returned for a URL, by the URLs and the names of a list
abbrev pub listed_at : List ℕ → List ListedUrl → List (List ℕ) → List ℕ → Response
listed_at top urls names url = first_listed top names (enumerate_from 0 urls) url

-- the pages at each URL of a list, in any order
abbrev pub HasListed : List ℕ → List ListedUrl → List (List ℕ) → List Entry → Type 0
HasListed top urls names entries = (url : List ℕ) → entry_at entries url ≡ listed_at top urls names url

-- the pages of a list: at each URL below the top the first, in the order of the URLs
pub record IsListed (top : List ℕ) (urls : List ListedUrl) (names : List (List ℕ)) (entries : List Entry) : Type 0 where
  pub ascends : IsStrictlySortedBy cmp_urls entries
  pub pages : HasListed top urls names entries
