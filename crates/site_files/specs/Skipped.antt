-- The symbolic links that are not followed, and the first of them on the path of a URL.
use Rattle.std.specs.Prelude.{◌≡◌, ℕ, Bool, List, [], ◌∷◌, ◌++◌, MatchOption, Option, Some, None, map, slice_get, string_bytes}
use Rattle.std.specs.List.Sorted.{IsStrictlySortedBy}
use Rattle.std.specs.Option.{option_or}
use Rattle.std.specs.declared.cmp.Ordering.{Ordering}
use Rattle.site_files.specs.Firsts.{cmp_keys, first_with}
use Rattle.site_files.specs.Server.{key_with, url_of}
use Rattle.site_files.specs.declared.skipped.SkippedLink.{SkippedLink}

-- ---- links at their URLs

-- the URL of a link, and whether it leads out of the folder
pub record LinkAt : Type 0 where
  pub url : List ℕ
  pub is_outside : Bool

-- a link below the top. Its URL is that of a folder with its name, without the slash
abbrev pub link_below : List ℕ → SkippedLink → LinkAt
link_below top link = record { url = url_of top (key_with None (string_bytes link.name)); is_outside = link.is_outside }

-- whether the first link with a URL leads out of the folder, if there is one
abbrev pub outside_at : List LinkAt → List ℕ → Option Bool
outside_at links url = first_with (λ link. link.url) (λ link. Some link.is_outside) None links url

-- likewise for the first link on the path of a URL: at a front of it that ends before a slash, or at the URL itself. `names` follow the front
-- so far
abbrev pub outside_on : (List ℕ → Option Bool) → List ℕ → List (List ℕ) → Option Bool
outside_on at front [] = None
outside_on at front (name ∷ []) = at (front ++ name)
outside_on at front (name ∷ other ∷ names) = option_or (at (front ++ name)) (outside_on at (front ++ name ++ 47 ∷ []) (other ∷ names))

-- ---- as the code holds them, with URLs in place of names

abbrev pub link_held : SkippedLink → LinkAt
link_held link = record { url = string_bytes link.name; is_outside = link.is_outside }

abbrev pub name_in : SkippedLink → List ℕ
name_in link = string_bytes link.name

-- by the bytes of the URLs
abbrev pub cmp_names : SkippedLink → SkippedLink → Ordering
cmp_names = cmp_keys name_in

abbrev pub outside_of : SkippedLink → Option Bool
outside_of link = Some link.is_outside

abbrev pub outside_in : List SkippedLink → List ℕ → Option Bool
outside_in links url = first_with name_in outside_of None links url

-- each URL once, and the first with a URL stays the first
pub record IsSkipTable (given kept : List SkippedLink) : Type 0 where
  pub ascends : IsStrictlySortedBy cmp_names kept
  pub keeps : (url : List ℕ) → outside_in kept url ≡ outside_in given url

-- the link with this number is the one with the URL
pub record IsSkippedAt (links : List SkippedLink) (url : List ℕ) (number : ℕ) : Type 0 where
  pub link : SkippedLink
  pub there : slice_get links number ≡ Some link
  pub own : outside_in links url ≡ Some link.is_outside

-- the number of the link with a URL, or that there is none
abbrev pub FindsSkipped : List SkippedLink → List ℕ → Option ℕ → Type 0
FindsSkipped links url found = MatchOption found (outside_in links url ≡ None) (IsSkippedAt links url)

-- the table has the URLs of these links
pub record AreSkipped (top : List ℕ) (links : List SkippedLink) (table : List SkippedLink) : Type 0 where
  pub ascends : IsStrictlySortedBy cmp_names table
  pub outside : (url : List ℕ) → outside_in table url ≡ outside_at (map (link_below top) links) url
