-- The page of a site that has the name of one that is not there.
use Rattle.std.specs.Prelude.{◌≡◌, ◌==◌, ◌-◌, ◌++◌, ℕ, Bool, true, false, ◌&&◌, if◌then◌else◌, List, [], ◌∷◌, codes, drop, take, length, map, filter, Option, Some, None, is_some, slice_get, unwrap_or, string_bytes, option_map, bytes_eq, Vec}
use Rattle.std.specs.Borrow.{Bor}
use Rattle.std.specs.BTreeMap.{BTreeMap, get_by}
use Rattle.std.specs.Cmp.Lexicographic.{slice_cmp}
use Rattle.std.specs.List.{list_any}
use Rattle.std.specs.Option.{option_or}
use Rattle.std.specs.Str.{str_to_ascii_lowercase}
use Rattle.std.specs.Ordering.{nat_cmp}
use Rattle.std.specs.declared.alloc.Global.{Global}
use Rattle.check_report.specs.declared.value.Broken.{Broken}
use Rattle.check_report.specs.declared.value.Kind.{Kind}
use Rattle.check_report.specs.declared.value.Kind.TheVariants.{NoPage}
use Rattle.check_report.specs.declared.value.Place.{Place}
use Rattle.site_files.specs.Entries.{entry_at}
use Rattle.site_files.specs.Files.{PageFile, name_at, pages_of}
use Rattle.site_files.specs.Pages.{found_file}
use Rattle.site_files.specs.Server.{before_query}
use Rattle.site_files.specs.declared.files.SiteFiles.{SiteFiles}
use Rattle.site_check.specs.Broken.{shown}
use Rattle.site_check.specs.Totals.{is_leaving}
use Rattle.site_check.specs.declared.names.Key.{Key}
use Rattle.site_check.specs.declared.names.Key.TheVariants.{Name, Path}
use Rattle.site_check.specs.declared.names.LowerNames.{LowerNames}
use Rattle.site_check.specs.declared.names.Namesakes.{Namesakes}
use Rattle.site_check.specs.declared.names.Namesakes.TheVariants.{One, Several}

abbrev pub is_slash : ℕ → Bool
is_slash b = b == 47

-- what follows the last slash, or all
abbrev pub after_slashes : List ℕ → List ℕ
after_slashes [] = []
after_slashes (b ∷ bs) = if list_any is_slash (b ∷ bs) then after_slashes bs else b ∷ bs

-- the file name that a URL ends with
abbrev pub last_part : List ℕ → List ℕ
last_part url = after_slashes (before_query url)

-- the text ends with the suffix
abbrev pub ends : List ℕ → List ℕ → Bool
ends suffix text = bytes_eq (drop (length text - length suffix) text) suffix

-- the text without the bytes of a suffix at its end
abbrev pub without_end : List ℕ → List ℕ → List ℕ
without_end suffix text = take (length text - length suffix) text

-- the path without a slash at its end
abbrev pub without_slash : List ℕ → List ℕ
without_slash path = if ends (codes "/") path then without_end (codes "/") path else path

-- the name that a URL ends with: that of a file, or that of a folder, after which there may be a slash
abbrev pub last_name : List ℕ → List ℕ
last_name url = after_slashes (without_slash (before_query url))

-- the page is made of a file, and its URL ends with this name
abbrev pub has_name : List ℕ → PageFile → Bool
has_name name page = is_some page.file && bytes_eq (last_name page.url) name

-- what pages are found by: the names that their URLs end with, or the whole URLs without a query
abbrev pub key_of : Key → List ℕ → List ℕ
key_of Name url = last_name url
key_of Path url = before_query url

-- the key of a page, in lower case
abbrev pub lower_key : Key → PageFile → List ℕ
lower_key key page = str_to_ascii_lowercase (key_of key page.url)

-- the page is made of a file, and this is its key in lower case
abbrev pub has_key : Key → List ℕ → PageFile → Bool
has_key key text page = is_some page.file && bytes_eq (lower_key key page) text

-- one of the places is in the file
abbrev pub has_place_in : List ℕ → List Place → Bool
has_place_in file places = list_any (λ (place : Place). bytes_eq (string_bytes place.file) file) places

-- the page at a URL that is made of a file, unless one of the places is in that
abbrev pub name_of_page : List ℕ → SiteFiles → List Place → List ℕ → Option ℕ → Option (List ℕ)
name_of_page front files places url None = None
name_of_page front files places url (Some index) = if has_place_in (unwrap_or (name_at files index) []) places then None else Some (shown front url)

-- that of just one page
abbrev pub only_name : List ℕ → SiteFiles → List Place → List PageFile → Option (List ℕ)
only_name front files places [] = None
only_name front files places (page ∷ []) = name_of_page front files places page.url page.file
only_name front files places (page ∷ other ∷ more) = None

-- the path of a target in lower case
abbrev pub lower_path : List ℕ → List ℕ → List ℕ
lower_path front target = str_to_ascii_lowercase (front ++ before_query target)

-- the only page whose path differs from that of a target in nothing but case
abbrev pub only_path : List ℕ → SiteFiles → List Place → List ℕ → Option (List ℕ)
only_path front files places target = only_name front files places (filter (has_key Path (lower_path front target)) (pages_of files))

-- that of just one page or, if there are several, the one with the path of the target in another case
abbrev pub one_or_path : List ℕ → SiteFiles → List Place → List ℕ → List PageFile → Option (List ℕ)
one_or_path front files places target [] = None
one_or_path front files places target (page ∷ []) = only_name front files places (page ∷ [])
one_or_path front files places target (page ∷ other ∷ more) = only_path front files places target

-- the page that is meant by a name or, if no page has that, by the name in another case
abbrev pub name_among : List ℕ → SiteFiles → List Place → List ℕ → List PageFile → List PageFile → Option (List ℕ)
name_among front files places target [] others = one_or_path front files places target others
name_among front files places target (page ∷ more) others = one_or_path front files places target (page ∷ more)

abbrev pub name_for_part : List ℕ → SiteFiles → List Place → List ℕ → List ℕ → Option (List ℕ)
name_for_part front files places target name =
    name_among front files places target (filter (has_name name) (pages_of files)) (filter (has_key Name (str_to_ascii_lowercase name)) (pages_of files))

-- that for the name that a target ends with, if there is one
abbrev pub named_page : List ℕ → SiteFiles → List Place → List ℕ → Option (List ℕ)
named_page front files places target = if length (last_name target) == 0 then None else name_for_part front files places target (last_name target)

-- ---- a page in another form

-- the page at this URL, if a file has it, unless one of the places is in that
abbrev pub page_at : List ℕ → SiteFiles → List Place → List ℕ → Option (List ℕ)
page_at front files places url = name_of_page front files places url (found_file (entry_at files.pages url))

-- the page `use.html` for the path `use/`
abbrev pub folder_form : List ℕ → SiteFiles → List Place → List ℕ → Option (List ℕ)
folder_form front files places path = if ends (codes "/") path then page_at front files places (front ++ without_end (codes "/") path ++ codes ".html") else None

-- the page `use/` for the path `use.html`, and the other way round
abbrev pub other_form : List ℕ → SiteFiles → List Place → List ℕ → Option (List ℕ)
other_form front files places path =
    if ends (codes ".html") path
    then page_at front files places (front ++ without_end (codes ".html") path ++ codes "/")
    else folder_form front files places path

-- what is reported with a target whose links are at these positions: the page by its name, or else in another form
abbrev pub same_name : List ℕ → SiteFiles → List ℕ → List Place → Option (List ℕ)
same_name front files target places = option_or (named_page front files places target) (other_form front files places (before_query target))

abbrev pub reported_name : Broken → Option (List ℕ)
reported_name b = option_map string_bytes b.same_name

-- this is reported only of pages. What is reported of a link that leads out of the site is said elsewhere
abbrev pub name_for : Bool → Kind → Option (List ℕ) → Option (List ℕ) → Option (List ℕ)
name_for true kind name reported = reported
name_for false NoPage name reported = name
name_for false _ name reported = None

abbrev pub own_name : List ℕ → SiteFiles → Broken → Option (List ℕ)
own_name front files b = name_for (is_leaving b.kind) b.kind (same_name front files (string_bytes b.target) b.places.items) (reported_name b)

-- each row has that name
abbrev pub AreNamed : List ℕ → SiteFiles → List Broken → Type 0
AreNamed front files all = map reported_name all ≡ map (own_name front files) all

-- ---- pages by their names

abbrev pub Names : Type 0
Names = BTreeMap (Bor (List ℕ)) Namesakes

abbrev pub named_at : Names → List ℕ → Option Namesakes
named_at names name = get_by (λ k. slice_cmp nat_cmp name k.now) names

-- the same by keys in lower case, which are no parts of URLs
abbrev pub LowerKeys : Type 0
LowerKeys = BTreeMap (Vec ℕ Global) Namesakes

abbrev pub lower_at : LowerKeys → List ℕ → Option Namesakes
lower_at keys text = get_by (λ k. slice_cmp nat_cmp text k.items) keys

-- what is known of a name that these of all pages have
abbrev pub IsKnown : List PageFile → List PageFile → Option Namesakes → Type 0
IsKnown pages [] None = Unit {0}
IsKnown pages [] (Some known) = ⊥
IsKnown pages (page ∷ []) None = ⊥
IsKnown pages (page ∷ []) (Some (One number)) = slice_get pages number ≡ Some page
IsKnown pages (page ∷ []) (Some Several) = ⊥
IsKnown pages (page ∷ other ∷ more) None = ⊥
IsKnown pages (page ∷ other ∷ more) (Some (One number)) = ⊥
IsKnown pages (page ∷ other ∷ more) (Some Several) = Unit {0}

-- what is known of each name, of pages that pass this test with it
abbrev pub AreKnown : (List ℕ → PageFile → Bool) → SiteFiles → (List ℕ → Option Namesakes) → Type 0
AreKnown has files known = (name : List ℕ) → IsKnown (pages_of files) (filter (has name) (pages_of files)) (known name)

-- of the names and of the paths in lower case
pub record AreLower (files : SiteFiles) (lower : LowerNames) : Type 0 where
  pub is_name : AreKnown (has_key Name) files (lower_at lower.names)
  pub is_path : AreKnown (has_key Path) files (lower_at lower.paths)

-- of the names as they are, and of what is in lower case
pub record AreNames (files : SiteFiles) (exact : Names) (lower : LowerNames) : Type 0 where
  pub is_exact : AreKnown has_name files (named_at exact)
  pub is_lower : AreLower files lower

-- what is known of a name that one page more has
abbrev pub known_with : Option Namesakes → ℕ → Namesakes
known_with None number = One number
known_with (Some known) number = Several

-- the same, if the page passes the test
abbrev pub known_at : (PageFile → Bool) → Option PageFile → ℕ → Option Namesakes → Option Namesakes
known_at has None number known = known
known_at has (Some page) number known = if has page then Some (known_with known number) else known
