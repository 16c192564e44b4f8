-- The hint at another URL of the folder, or at a missing BASE: most links, or most paths from the root that lead to missing pages, begin
-- with it, and the folder has the files to which they would lead.
use Rattle.std.specs.Prelude.{◌≡◌, ◌==◌, ◌-◌, ◌++◌, ◌∷◌, ℕ, zero, suc, Bool, false, ◌&&◌, ◌||◌, if◌then◌else◌, List, [], length, drop, count_by, nat_le, nat_lt, Option, None, Some, is_some, option_and_then, option_map, string_bytes}
use Rattle.std.specs.List.{flat_map}
use Rattle.std.specs.Option.{option_or, option_to_list}
use Rattle.check_report.specs.declared.value.Broken.{Broken}
use Rattle.crawl_pages.specs.declared.page.PageResult.{PageResult}
use Rattle.site_check.specs.Base.{Hint, has_folder, often_first, path_count, root_paths}
use Rattle.site_check.specs.Broken.{begins}
use Rattle.site_check.specs.Names.{is_slash}
use Rattle.site_check.specs.OwnFronts.{front_hint, own_hint}
use Rattle.site_check.specs.PageLinks.{are_few_below, foreign_urls, link_urls}
use Rattle.site_files.specs.Entries.{entry_at}
use Rattle.site_files.specs.Pages.{found_file}
use Rattle.site_files.specs.declared.files.SiteFiles.{SiteFiles}

-- ---- folders

-- the text to the end of its slash with this number. There is none if it has fewer slashes
abbrev pub folder_to : ℕ → List ℕ → Option (List ℕ)
folder_to zero url = Some []
folder_to (suc n) [] = None
folder_to (suc n) (b ∷ url) = option_map (λ folder. b ∷ folder) (if is_slash b then folder_to n url else folder_to (suc n) url)

-- what is left of a text after its front, if it has one
abbrev pub Cuts : Option (List ℕ) → List ℕ → Option (List ℕ) → Type 0
Cuts None text None = Unit {0}
Cuts None text (Some rest) = ⊥
Cuts (Some front) text None = ⊥
Cuts (Some front) text (Some rest) = text ≡ front ++ rest

abbrev pub folders_to : ℕ → List (List ℕ) → List (List ℕ)
folders_to n urls = flat_map (λ url. option_to_list (folder_to n url)) urls

-- ---- files at other URLs

-- a file has the URL of this path from the top. The path is not empty
abbrev pub has_file_at : SiteFiles → List ℕ → Bool
has_file_at files path = if length path == 0 then false else is_some (found_file (entry_at files.pages (string_bytes files.site.top ++ path)))

-- the URL begins with the folder, and does not end there
abbrev pub goes_below : List ℕ → List ℕ → Bool
goes_below folder url = nat_lt (length folder) (length url) && begins folder url

-- such a URL is that of a file if the folder is the top
abbrev pub leads_to_file : SiteFiles → List ℕ → List ℕ → Bool
leads_to_file files folder url = begins folder url && has_file_at files (drop (length folder) url)

-- ---- the hint

-- at least half of them, which are at least two
abbrev pub are_enough : ℕ → ℕ → Bool
are_enough part of = nat_le 2 of && nat_le (of - part) part

abbrev pub hint_with_counts : ℕ → List ℕ → ℕ → ℕ → ℕ → Option Hint
hint_with_counts of folder paths longer found = if are_enough found longer then Some (record { folder = folder; paths = paths; of = of }) else None

-- the site has the folder: the top begins with it, or a page after the top
abbrev pub is_known : SiteFiles → List ℕ → Bool
is_known files folder = begins folder (string_bytes files.site.top) || has_folder files folder

-- the site does not have the folder, and at least half of the links that go below it lead to files. Links to the folder itself say
-- nothing: many pages link to the first page of another site
abbrev pub hint_in : SiteFiles → List (List ℕ) → ℕ → List ℕ → Option Hint
hint_in files urls of folder =
    if is_known files folder
    then None
    else hint_with_counts of folder (count_by (begins folder) urls) (count_by (goes_below folder) urls) (count_by (leads_to_file files folder) urls)

-- the first folder with this number of slashes with which at least two and at least half of the links begin
abbrev pub folder_with : List (List ℕ) → ℕ → ℕ → Option (List ℕ)
folder_with urls of n = often_first of (path_count (folders_to n urls)) (folders_to n urls)

-- the first hint at such a folder with one of these numbers of slashes, up to a number with which there is none: then there is none with
-- more slashes
abbrev pub first_hint : SiteFiles → List (List ℕ) → ℕ → List ℕ → Option Hint
first_hint files urls of [] = None
first_hint files urls of (n ∷ more) = option_and_then (λ folder. option_or (hint_in files urls of folder) (first_hint files urls of more)) (folder_with urls of n)

-- ---- by links

-- the third slash of a URL ends the host
unfoldable pub hint_of_urls : SiteFiles → List (List ℕ) → Option Hint
hint_of_urls files urls = first_hint files urls (length urls) (3 ∷ 4 ∷ 5 ∷ 6 ∷ 7 ∷ 8 ∷ [])

abbrev pub link_hint : SiteFiles → List PageResult → List Broken → Option Hint
link_hint files results rows = if are_few_below (string_bytes files.site.top) results rows then hint_of_urls files (link_urls results) else None

-- by the links in pages without a link that begins with the top, with the numbers of all links
abbrev pub foreign_hint : SiteFiles → List PageResult → Option Hint
foreign_hint files results = option_map (λ (hint : Hint). front_hint results hint.folder) (hint_of_urls files (foreign_urls (string_bytes files.site.top) results))

abbrev pub elsewhere_hint : SiteFiles → List PageResult → Option Hint
elsewhere_hint files results = option_or (own_hint files results) (foreign_hint files results)

abbrev pub url_hint_of : SiteFiles → List PageResult → List Broken → Option Hint
url_hint_of files results rows = option_or (link_hint files results rows) (elsewhere_hint files results)

-- ---- by paths from the root

-- with the files of the folder
unfoldable pub hint_of_paths : SiteFiles → List (List ℕ) → Option Hint
hint_of_paths files paths = first_hint files paths (length paths) (1 ∷ 2 ∷ 3 ∷ 4 ∷ 5 ∷ 6 ∷ [])

-- without them, unless the site has the folder
abbrev pub hint_without_files : SiteFiles → List (List ℕ) → List ℕ → Option Hint
hint_without_files files paths folder = if is_known files folder then None else Some (record { folder = folder; paths = count_by (begins folder) paths; of = length paths })

-- in the first folder of most paths
abbrev pub hint_at_folder : SiteFiles → List (List ℕ) → Option Hint
hint_at_folder files paths = option_and_then (hint_without_files files paths) (folder_with paths (length paths) 1)

abbrev pub root_hint : SiteFiles → List (List ℕ) → Option Hint
root_hint files paths = option_or (hint_of_paths files paths) (hint_at_folder files paths)

-- written as a path from the root
abbrev pub after_slash : Hint → Hint
after_slash hint = record { folder = 47 ∷ hint.folder; paths = hint.paths; of = hint.of }

-- the URL of this folder below the top, if enough links begin with it and lead to files
abbrev pub hint_below : SiteFiles → List PageResult → List ℕ → Option Hint
hint_below files results folder = hint_in files (link_urls results) (length (link_urls results)) (string_bytes files.site.top ++ folder)

-- the folder, if its URL is not known, or its URL
abbrev pub path_hint_of : Bool → SiteFiles → List PageResult → List Broken → Option Hint
path_hint_of rooted files results rows =
    let found = root_hint files (root_paths (string_bytes files.site.top) rows) in
    if rooted then option_map after_slash found else option_and_then (λ (hint : Hint). hint_below files results hint.folder) found

-- by links, or else by paths from the root
abbrev pub base_hint_of : Bool → SiteFiles → List PageResult → List Broken → Option Hint
base_hint_of rooted files results rows = option_or (url_hint_of files results rows) (path_hint_of rooted files results rows)
