-- Folders in which links that lead out of the site are looked up.
use Rattle.std.specs.Prelude.{◌≡◌, ◌==◌, ◌-◌, ℕ, Bool, true, false, not, ◌&&◌, if◌then◌else◌, List, [], ◌∷◌, ◌++◌, length, drop, nat_lt, codes, map, flat_map, string_bytes, bytes_eq, All, Ok}
use Rattle.std.specs.List.{AllZip, after_first, before_first, list_any}
use Rattle.crawl_keys.specs.CanonicalText.{canonical, resolve}
use Rattle.crawl_pages.specs.declared.page.Page.{Page}
use Rattle.crawl_pages.specs.declared.page.Page.TheVariants as page
use Rattle.crawl_pages.specs.declared.page.PageResult.{PageResult}
use Rattle.mercator_site.specs.Seeds.{seed_link}
use Rattle.mercator_site.specs.declared.mapped.MappedFolder.{MappedFolder}
use Rattle.mercator_site.specs.declared.maps.FolderMap.{FolderMap}
use Rattle.site_check.specs.Maps.{is_under}
use Rattle.site_check.specs.declared.input.MapName.{MapName}
use Rattle.site_files.specs.Below.{IsTop, begins, is_below}
use Rattle.site_files.specs.Files.{server_of}
use Rattle.site_files.specs.Pages.{Response, Missing, Moved, Found}
use Rattle.site_files.specs.Serving.{found_for}
use Rattle.site_files.specs.declared.files.SiteFiles.{SiteFiles}
use Rattle.site_files.specs.declared.rules.Rules.{Rules}

-- ---- the text of a map, PREFIX=FOLDER

abbrev pub is_equals : ℕ → Bool
is_equals byte = byte == 61

abbrev pub ends : List ℕ → List ℕ → Bool
ends back text = bytes_eq (drop (length text - length back) text) back

abbrev pub with_slash : List ℕ → List ℕ
with_slash link = if ends (codes "/") link then link else link ++ codes "/"

-- the link to the folder. If the URL of the site is not known (`rooted`), a path from the root is one from the top
abbrev pub link_in : Bool → List ℕ → List ℕ
link_in rooted text = seed_link rooted (with_slash (before_first is_equals text))

-- the name of the folder
abbrev pub folder_in : List ℕ → List ℕ
folder_in text = after_first is_equals text

-- the maps of these texts, on a site with this top. None of their prefixes is below the top
pub record AreMapsAt (top : List ℕ) (rooted : Bool) (texts : List (List ℕ)) (maps : List FolderMap) : Type 0 where
  pub prefixes : map (λ text. resolve top (link_in rooted text)) texts ≡ map (λ m. Ok m.prefix) maps
  pub folders : map folder_in texts ≡ map (λ m. string_bytes m.folder) maps
  pub outside : All (λ m. is_below top m.prefix ≡ false) maps

-- the same, if the top is that of BASE, with a slash at its end
pub record AreMapsOf (base : List ℕ) (rooted : Bool) (texts : List (List ℕ)) (maps : List FolderMap) : Type 0 where
  pub url : List ℕ
  pub canon : canonical base ≡ Ok url
  pub top : List ℕ
  pub is_top : canonical (with_slash url) ≡ Ok top
  pub maps_are : AreMapsAt top rooted texts maps

-- ---- the folders

-- the files of the folder of a map, by these rules: the URL of the folder is the prefix
pub record IsMapped (rules : Rules) (m : FolderMap) (folder : MappedFolder) : Type 0 where
  pub prefix : folder.name.prefix.now ≡ m.prefix
  pub named : folder.name.folder.now ≡ string_bytes m.folder
  pub is_top : IsTop m.prefix (string_bytes folder.files.site.top)
  pub by_rules : folder.files.rules.now ≡ rules

abbrev pub AreMapped : Rules → List FolderMap → List MappedFolder → Type 0
AreMapped rules maps folders = AllZip (IsMapped rules) maps folders

-- the prefixes and the names of the folders
abbrev pub names_of : List MappedFolder → List MapName
names_of folders = map (λ folder. folder.name) folders

-- the URL is that of this folder or below it, and its prefix is longer than that of the other
abbrev pub is_nearer : List ℕ → MappedFolder → MappedFolder → Bool
is_nearer url other folder = is_under url folder.name && nat_lt (length other.name.prefix.now) (length folder.name.prefix.now)

abbrev pub has_nearer : List MappedFolder → List ℕ → MappedFolder → Bool
has_nearer folders url folder = list_any (λ other. is_nearer url folder other) folders

-- the URL is that of the folder or below it, and of no folder with a longer prefix
abbrev pub is_nearest : List MappedFolder → List ℕ → MappedFolder → Bool
is_nearest folders url folder = is_under url folder.name && not (has_nearer folders url folder)

-- what is looked up for a URL: for the folder without its slash the folder
abbrev pub looked_up : MappedFolder → List ℕ → List ℕ
looked_up folder url = if begins folder.name.prefix.now url then url else folder.files.site.top_url

abbrev pub is_there : Response → Bool
is_there Missing = false
is_there (Moved url) = true
is_there (Found file) = true

-- a server returns a page of these files, or a redirect
abbrev pub has_page : SiteFiles → List ℕ → Bool
has_page files url = is_there (found_for (server_of files) files.pages files.linked url)

-- the folder with the longest prefix has a page there
abbrev pub is_found_in : List MappedFolder → List ℕ → MappedFolder → Bool
is_found_in folders url folder = is_nearest folders url folder && has_page folder.files (looked_up folder url)

abbrev pub is_mapped : List MappedFolder → List ℕ → Bool
is_mapped folders url = list_any (is_found_in folders url) folders

-- ---- what is left

abbrev pub missing_at : List ℕ → PageResult
missing_at url = record { url = url; page = page.Missing }

abbrev pub left_for : List MappedFolder → List ℕ → List PageResult
left_for folders url = if is_mapped folders url then [] else missing_at url ∷ []

-- a missing result is left if these folders have no page at its URL either
abbrev pub left_of : List MappedFolder → List ℕ → Page → List PageResult
left_of folders url page.Missing = left_for folders url
left_of folders url _ = []

abbrev pub left_at : List MappedFolder → PageResult → List PageResult
left_at folders r = left_of folders r.url r.page

abbrev pub unmapped : List MappedFolder → List PageResult → List PageResult
unmapped folders results = flat_map (left_at folders) results
