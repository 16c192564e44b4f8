-- The files that a search does not reach, as they are reported: by the first URL of each.
use Rattle.std.specs.Prelude.{◌==◌, ℕ, Bool, true, false, not, ◌&&◌, ◌||◌, List, [], ◌∷◌, length, filter, get_or, map, nat_lt, if◌then◌else◌, Option, None, Some}
use Rattle.std.specs.Borrow.{Bor}
use Rattle.std.specs.List.{list_any}
use Rattle.crawl_pages.specs.Pages.{is_missing}
use Rattle.crawl_pages.specs.declared.page.PageResult.{PageResult}
use Rattle.site_check.specs.Broken.{shown}
use Rattle.site_files.specs.Entries.{entry_at}
use Rattle.site_files.specs.Files.{PageFile, pages_of}
use Rattle.site_files.specs.Pages.{found_file}
use Rattle.site_files.specs.declared.files.SiteFiles.{SiteFiles}

-- ---- the files that are reached

-- a page's file is the one with this index
abbrev pub is_file : ℕ → Option ℕ → Bool
is_file index None = false
is_file index (Some own) = own == index

-- the result's page is there, and this is its file
abbrev pub is_page_of : SiteFiles → ℕ → PageResult → Bool
is_page_of files index r = not (is_missing r.page) && is_file index (found_file (entry_at files.pages r.url))

-- one of the results is a page of the file. An index that no file has counts as reached
abbrev pub is_reached : SiteFiles → List PageResult → ℕ → Bool
is_reached files results index = not (nat_lt index (length files.names.now)) || list_any (is_page_of files index) results

-- ---- one page for each file

-- both pages have the same file
abbrev pub is_same_file : Option ℕ → Option ℕ → Bool
is_same_file file None = false
is_same_file file (Some index) = is_file index file

-- the pages without those of a file that an earlier page has
abbrev pub first_pages : List PageFile → List PageFile
first_pages [] = []
first_pages (page ∷ more) = page ∷ filter (λ other. not (is_same_file page.file other.file)) (first_pages more)

-- the page has a file, and the test fails for that
abbrev pub is_left : (ℕ → Bool) → Option ℕ → Bool
is_left is_done None = false
is_left is_done (Some index) = not (is_done index)

-- the first pages of the files for which the test fails, as they are reported
abbrev pub left_among : (ℕ → Bool) → List ℕ → List PageFile → List (List ℕ)
left_among is_done front pages = map (λ page. shown front page.url) (filter (λ page. is_left is_done page.file) (first_pages pages))

-- ---- the files that are not reached

-- in the order of their URLs
abbrev pub unreached_of : List ℕ → SiteFiles → List PageResult → List (List ℕ)
unreached_of front files results = left_among (is_reached files results) front (pages_of files)

-- if they are reported
abbrev pub unreached_in : List ℕ → SiteFiles → Option (Bor (List PageResult)) → List (List ℕ)
unreached_in front files None = []
unreached_in front files (Some results) = unreached_of front files results.now

-- ---- how they are found

-- the file with this index is marked. An index without a mark counts as marked
abbrev pub is_marked : List Bool → ℕ → Bool
is_marked marks index = get_or marks index true

-- the file of a page, if there is a page
abbrev pub page_file : Option PageFile → Option ℕ
page_file None = None
page_file (Some page) = page.file

-- what is reported of a page, if there is one and the test fails for its file
abbrev pub left_at : (ℕ → Bool) → List ℕ → Option PageFile → List (List ℕ)
left_at is_done front None = []
left_at is_done front (Some page) = if is_left is_done page.file then shown front page.url ∷ [] else []
