-- Hints: why a page is missing, as it is reported with the page. A symbolic link is not followed, a server with other rules finds a file, or a
-- folder has no index file.
use Rattle.std.specs.Prelude.{ℕ, ◌-◌, if◌then◌else◌, List, [], ◌∷◌, ◌++◌, codes, length, take, Option, Some, None, unwrap_or, string_bytes, option_map}
use Rattle.std.specs.List.{flat_map, list_any}
use Rattle.check_report.specs.declared.value.Broken.{Broken}
use Rattle.check_report.specs.declared.value.Kind.{Kind}
use Rattle.check_report.specs.declared.value.Kind.TheVariants.{NoPage, Leaves, OutsideBase, NotInMap}
use Rattle.crawl_pages.specs.declared.page.Page.{Page}
use Rattle.crawl_pages.specs.declared.page.Page.TheVariants.{Missing}
use Rattle.crawl_pages.specs.declared.page.PageResult.{PageResult}
use Rattle.site_check.specs.Broken.{is_ignored, shown}
use Rattle.site_check.specs.Names.{after_slashes, is_slash}
use Rattle.site_files.specs.Files.{name_at}
use Rattle.site_files.specs.Hints.{hint_at}
use Rattle.site_files.specs.Pages.{path_in, query_in}
use Rattle.site_files.specs.declared.files.SiteFiles.{SiteFiles}
use Rattle.site_files.specs.declared.hint.Hint.{Hint}
use Rattle.site_files.specs.declared.hint.Hint.TheVariants.{HtmlFallback, IndexFile, LeadsNowhere, LeadsOut, NoIndexFile}

-- ---- the texts

-- the folder of a file's path, without the slash
abbrev pub folder_in : List ℕ → List ℕ
folder_in path = if list_any is_slash path then take (length path - length (after_slashes path) - 1) path else codes "."

abbrev pub fallback_text : List ℕ → List ℕ
fallback_text name = name ++ codes " exists: --fallback html"

-- a query after its question mark
abbrev pub marked : Option (List ℕ) → List ℕ
marked None = []
marked (Some query) = 63 ∷ query

-- the file has its query, and the option only the last name of the path
abbrev pub index_text : List ℕ → Option (List ℕ) → List ℕ
index_text path query = folder_in path ++ codes "/ has " ++ after_slashes path ++ marked query ++ codes ": --index-file " ++ after_slashes path

-- the name of the file with this index
abbrev pub name_in : SiteFiles → ℕ → List ℕ
name_in files index = unwrap_or (name_at files index) []

abbrev pub hint_text : SiteFiles → Hint → List ℕ
hint_text files (HtmlFallback index) = fallback_text (name_in files index)
hint_text files (IndexFile index) =
    index_text (path_in files.rules.now.queries (name_in files index)) (query_in files.rules.now.queries (name_in files index))
hint_text files LeadsOut = codes "a symbolic link out of the folder: --follow"
hint_text files LeadsNowhere = codes "a symbolic link to nothing"
hint_text files NoIndexFile = codes "the folder has no index file"

-- what is reported with the missing page at a URL
abbrev pub hint_of : SiteFiles → List ℕ → Option (List ℕ)
hint_of files url = option_map (hint_text files) (hint_at files url)

-- ---- the hints of all rows

-- that of a missing page with this URL and text, which has a row unless an entry matches it
abbrev pub hint_for : List (List ℕ) → SiteFiles → List ℕ → List ℕ → List (Option (List ℕ))
hint_for entries files url text = if is_ignored entries text then [] else hint_of files url ∷ []

abbrev pub hints_of_page : List ℕ → List (List ℕ) → SiteFiles → List ℕ → Page → List (Option (List ℕ))
hints_of_page front entries files url Missing = hint_for entries files url (shown front url)
hints_of_page front entries files url _ = []

abbrev pub hints_at : List ℕ → List (List ℕ) → SiteFiles → PageResult → List (Option (List ℕ))
hints_at front entries files r = hints_of_page front entries files r.url r.page

abbrev pub hints_of : List ℕ → List (List ℕ) → SiteFiles → List PageResult → List (Option (List ℕ))
hints_of front entries files results = flat_map (hints_at front entries files) results

-- the hint of a row of a missing page, and any hint of another row. What is a hint of a link that leads out of the site is in its row
abbrev pub hints_with : Kind → Option (List ℕ) → List (Option (List ℕ))
hints_with NoPage hint = hint ∷ []
hints_with Leaves hint = []
hints_with OutsideBase hint = []
hints_with NotInMap hint = []
hints_with _ None = []
hints_with _ (Some text) = Some text ∷ []

abbrev pub hints_in_row : Broken → List (Option (List ℕ))
hints_in_row b = hints_with b.kind (option_map string_bytes b.hint)

abbrev pub hints_in : List Broken → List (Option (List ℕ))
hints_in all = flat_map hints_in_row all
