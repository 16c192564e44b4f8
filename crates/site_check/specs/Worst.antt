-- The files with the most broken links: the first ten of all files in the order of their numbers of locations.
use Rattle.std.specs.Prelude.{◌==◌, ℕ, Bool, not, ◌&&◌, ◌||◌, if◌then◌else◌, List, [], ◌∷◌, filter, fold, map, nat_lt, string_bytes, take, bytes_eq}
use Rattle.std.specs.Cmp.Lexicographic.{slice_cmp}
use Rattle.std.specs.List.{flat_map}
use Rattle.std.specs.Ordering.{is_lt, nat_cmp}
use Rattle.check_report.specs.declared.value.Broken.{Broken}
use Rattle.check_report.specs.declared.value.FileCount.{FileCount}
use Rattle.site_check.specs.Base.{Counts, count_at, path_count}
use Rattle.site_check.specs.declared.worst.Count as code

-- ---- the files and their locations

-- the files of a row's locations, one for each location
abbrev pub row_files : Broken → List (List ℕ)
row_files b = map (λ place. string_bytes place.file) b.places.items

abbrev pub files_in : List Broken → List (List ℕ)
files_in rows = flat_map row_files rows

-- each text once, at its first place
abbrev pub each_once : List (List ℕ) → List (List ℕ)
each_once [] = []
each_once (text ∷ more) = text ∷ filter (λ other. not (bytes_eq text other)) (each_once more)

-- a file, and how many locations are in it
pub record FileLinks : Type 0 where
  pub file : List ℕ
  pub links : ℕ

abbrev pub counted : List (List ℕ) → List ℕ → FileLinks
counted files file = record { file = file; links = path_count files file }

-- ---- the order

-- one file comes before another: it has more locations, or equally many and a lesser name
abbrev pub is_before : FileLinks → FileLinks → Bool
is_before a b = nat_lt b.links a.links || (a.links == b.links && is_lt (slice_cmp nat_cmp a.file b.file))

-- with one file more, before the first that comes after it
abbrev pub put : List FileLinks → FileLinks → List FileLinks
put [] one = one ∷ []
put (first ∷ more) one = if is_before one first then one ∷ first ∷ more else first ∷ put more one

abbrev pub worst_of : List Broken → List FileLinks
worst_of rows = take 10 (fold put [] (map (counted (files_in rows)) (each_once (files_in rows))))

-- ---- how they are found

abbrev pub put_ten : List FileLinks → FileLinks → List FileLinks
put_ten first one = take 10 (put first one)

abbrev pub links_of : code.Count → FileLinks
links_of c = record { file = c.file.now; links = c.links }

abbrev pub file_links : FileCount → FileLinks
file_links c = record { file = string_bytes c.file; links = c.links }

-- the files that are counted in the list
abbrev pub is_done : Counts → List ℕ → Bool
is_done done file = not (count_at done file == 0)

-- the files that are not done, each once
abbrev pub undone : (List ℕ → Bool) → List (List ℕ) → List (List ℕ)
undone is_done files = filter (λ file. not (is_done file)) (each_once files)

abbrev pub put_undone : Bool → List FileLinks → FileLinks → List FileLinks
put_undone done first one = if done then first else put_ten first one
