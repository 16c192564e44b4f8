-- The hint at a missing BASE: what it names, paths from the root that lead to missing pages, and which text most of some are.
use Rattle.std.specs.Prelude.{◌-◌, ℕ, Bool, false, not, ◌&&◌, if◌then◌else◌, List, [], ◌∷◌, filter, codes, count_by, nat_le, Option, None, Some, option_map, unwrap_or, string_bytes, bytes_eq}
use Rattle.std.specs.BTreeMap.{BTreeMap, get_by}
use Rattle.std.specs.List.{flat_map, list_any}
use Rattle.check_report.specs.declared.value.BaseHint.{BaseHint}
use Rattle.check_report.specs.declared.value.Broken.{Broken}
use Rattle.check_report.specs.declared.value.Place.{Place}
use Rattle.site_check.specs.Broken.{begins, shown}
use Rattle.site_check.specs.Totals.{is_page}
use Rattle.hash_order.specs.HashOrder.{by_hash}
use Rattle.site_files.specs.Files.{PageFile, pages_of}
use Rattle.site_files.specs.Server.{before_query}
use Rattle.site_files.specs.declared.files.SiteFiles.{SiteFiles}

pub record Hint : Type 0 where
  pub folder : List ℕ
  pub paths : ℕ
  pub of : ℕ

abbrev pub hint_at : BaseHint → Hint
hint_at hint = record { folder = string_bytes hint.folder; paths = hint.paths; of = hint.of }

-- ---- paths from the root

-- a link is written as a path from the root if it begins with one slash
abbrev pub is_rooted : Option (List ℕ) → Bool
is_rooted None = false
is_rooted (Some written) = begins (codes "/") written && not (begins (codes "//") written)

-- a path, if the link at the location is written so
abbrev pub place_path : List ℕ → Place → List (List ℕ)
place_path path place = if is_rooted (option_map string_bytes place.written) then path ∷ [] else []

-- the path of a target below the top, without its query
abbrev pub target_path : List ℕ → Broken → List ℕ
target_path top row = before_query (shown top (string_bytes row.target))

-- that of a missing page, for each such location. The top itself has none
abbrev pub row_paths : List ℕ → Broken → List (List ℕ)
row_paths top row =
    if is_page row.kind && not (bytes_eq (target_path top row) (codes "./")) then flat_map (place_path (target_path top row)) row.places.items else []

abbrev pub root_paths : List ℕ → List Broken → List (List ℕ)
root_paths top rows = flat_map (row_paths top) rows

-- ---- folders of the site

-- the page is in the folder, which ends with a slash
abbrev pub is_in_folder : SiteFiles → List ℕ → PageFile → Bool
is_in_folder files folder page = begins folder (shown (string_bytes files.site.top) page.url)

abbrev pub has_folder : SiteFiles → List ℕ → Bool
has_folder files folder = list_any (is_in_folder files folder) (pages_of files)

-- ---- what most of some texts are

-- the number of those that are this one
abbrev pub path_count : List (List ℕ) → List ℕ → ℕ
path_count folders folder = count_by (λ other. bytes_eq other folder) folders

-- these are at least two, and no more are others
abbrev pub is_often : ℕ → ℕ → Bool
is_often of count = nat_le 2 count && nat_le (of - count) count

abbrev pub first_in : List (List ℕ) → Option (List ℕ)
first_in [] = None
first_in (folder ∷ more) = Some folder

-- the first that is often there, by these counts of all
abbrev pub often_first : ℕ → (List ℕ → ℕ) → List (List ℕ) → Option (List ℕ)
often_first of count_of folders = first_in (filter (λ folder. is_often of (count_of folder)) folders)

-- ---- the counts

abbrev pub Counts : Type 0
Counts = BTreeMap (List ℕ) ℕ

-- 0 for a folder that was not counted
abbrev pub count_at : Counts → List ℕ → ℕ
count_at counts folder = unwrap_or (get_by (λ k. by_hash folder k) counts) 0

abbrev pub one_if : Bool → ℕ
one_if is = if is then 1 else 0
