-- The folders that are listed by another name, as the code holds them.
use Rattle.std.specs.Prelude.{◌≡◌, ℕ, List, MatchOption, Option, map, Some, slice_get, string_bytes}
use Rattle.std.specs.List.Sorted.{IsStrictlySortedBy}
use Rattle.std.specs.declared.cmp.Ordering.{Ordering}
use Rattle.site_files.specs.Firsts.{cmp_keys, first_with}
use Rattle.site_files.specs.Pages.{LinkUrls, LinkedFolder, link_urls, own_folder}
use Rattle.site_files.specs.declared.alias.FolderLink.{FolderLink}

abbrev pub name_in : FolderLink → List ℕ
name_in link = string_bytes link.name

-- by the bytes of the other names
abbrev pub cmp_names : FolderLink → FolderLink → Ordering
cmp_names = cmp_keys name_in

-- the own URL of a folder with this URL
abbrev pub own_in : List FolderLink → List ℕ → List ℕ
own_in links url = first_with name_in (λ link. string_bytes link.own) url links url

-- each name once, and the first with a name stays the first
pub record IsLinkTable (given kept : List FolderLink) : Type 0 where
  pub ascends : IsStrictlySortedBy cmp_names kept
  pub keeps : (url : List ℕ) → own_in kept url ≡ own_in given url

-- the link with this number is the one with the URL
pub record IsLinkAt (links : List FolderLink) (url : List ℕ) (number : ℕ) : Type 0 where
  pub link : FolderLink
  pub there : slice_get links number ≡ Some link
  pub own : own_in links url ≡ string_bytes link.own

-- the number of the link with a URL, or that there is none
abbrev pub FindsLink : List FolderLink → List ℕ → Option ℕ → Type 0
FindsLink links url found = MatchOption found (own_in links url ≡ url) (IsLinkAt links url)

-- the names of folders, and the URLs that are held in their place
abbrev pub names_in : List FolderLink → List LinkedFolder
names_in links = map (λ link. record { name = string_bytes link.name; own = string_bytes link.own }) links

abbrev pub urls_in : List FolderLink → List LinkUrls
urls_in links = map (λ link. record { name = string_bytes link.name; own = string_bytes link.own }) links

-- the table has the URLs of these folders
pub record IsLinked (top : List ℕ) (links : List FolderLink) (table : List FolderLink) : Type 0 where
  pub ascends : IsStrictlySortedBy cmp_names table
  pub own : (url : List ℕ) → own_in table url ≡ own_folder (map (link_urls top) (names_in links)) url
