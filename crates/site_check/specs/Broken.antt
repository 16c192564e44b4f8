-- What a check reports of the results of a crawl: the pages that are missing, and those that moved, with how many pages link to them.
use Rattle.std.specs.Prelude.{◌==◌, ◌-◌, ℕ, Bool, true, false, not, ◌||◌, ◌&&◌, if◌then◌else◌, List, [], ◌∷◌, length, take, drop, codes, Option, option_map, bytes_eq}
use Rattle.std.specs.List.{list_any, flat_map}
use Rattle.crawl_sources.specs.Sources.{sources_of}
use Rattle.crawl_pages.specs.Pages.{is_found}
use Rattle.crawl_pages.specs.declared.page.Page.{Page}
use Rattle.crawl_pages.specs.declared.page.Page.TheVariants.{Moved, Missing}
use Rattle.crawl_pages.specs.declared.page.PageResult.{PageResult}
use Rattle.site_check.specs.declared.linked.Linked as code

-- ---- results that found no page

abbrev pub is_unfound : PageResult → Bool
is_unfound r = not (is_found r.page)

-- a result, and how many pages link to its URL
pub record Linked : Type 0 where
  pub result : PageResult
  pub pages : ℕ

abbrev pub linked : List PageResult → PageResult → Linked
linked results r = record { result = r; pages = length (sources_of results r.url) }

abbrev pub linked_at : code.Linked → Linked
linked_at l = record { result = l.result.now; pages = l.pages }

abbrev pub result_at : code.Linked → PageResult
result_at l = l.result.now

-- ---- how a URL is reported

abbrev pub begins : List ℕ → List ℕ → Bool
begins front text = bytes_eq (take (length front) text) front

-- the top itself
abbrev pub or_top : List ℕ → List ℕ
or_top [] = codes "./"
or_top text = text

-- without the front, if it begins with it
abbrev pub shown : List ℕ → List ℕ → List ℕ
shown front url = or_top (if begins front url then drop (length front) url else url)

-- ---- what is known to be broken

abbrev pub is_star : ℕ → Bool
is_star byte = byte == 42

-- the text, or what is left of it after some of its first bytes, passes the test
abbrev pub any_end : (List ℕ → Bool) → List ℕ → Bool
any_end test [] = test []
any_end test (byte ∷ text) = test (byte ∷ text) || any_end test text

-- the text begins with the byte, and what is after it passes the test
abbrev pub after_byte : ℕ → (List ℕ → Bool) → List ℕ → Bool
after_byte byte test [] = false
after_byte byte test (first ∷ text) = first == byte && test text

-- the pattern is the whole text if each `*` in it is replaced by some text or none
abbrev pub fits : List ℕ → List ℕ → Bool
fits [] [] = true
fits [] (first ∷ text) = false
fits (byte ∷ pattern) text = if is_star byte then any_end (fits pattern) text else after_byte byte (fits pattern) text

-- without a `*`, a pattern fits what is left if it is at the end
abbrev pub is_last : List ℕ → List ℕ → Bool
is_last pattern text = not (list_any is_star pattern) && bytes_eq pattern (drop (length text - length pattern) text)

-- an entry with a `*` is a pattern; any other matches the texts that begin with it
abbrev pub matches : List ℕ → List ℕ → Bool
matches entry text = if list_any is_star entry then fits entry text else begins entry text

-- ---- entries that name a file

-- what is between the file and the target of such an entry
abbrev pub file_mark : List ℕ
file_mark = codes ": "

-- the entry has a file and a target
abbrev pub names_file : List ℕ → Bool
names_file entry = any_end (begins file_mark) entry

-- the file: all before the first mark
abbrev pub file_in : List ℕ → List ℕ
file_in [] = []
file_in (byte ∷ entry) = if begins file_mark (byte ∷ entry) then [] else byte ∷ file_in entry

-- the target: all after it
abbrev pub target_in : List ℕ → List ℕ
target_in [] = []
target_in (byte ∷ entry) = if begins file_mark (byte ∷ entry) then drop 2 (byte ∷ entry) else target_in entry

-- an entry that names a file matches no target as a whole
abbrev pub matches_target : List ℕ → List ℕ → Bool
matches_target entry target = not (names_file entry) && matches entry target

-- it matches the locations in the files that its file fits of the targets that its target matches
abbrev pub matches_place : List ℕ → List ℕ → List ℕ → Bool
matches_place entry target file = names_file entry && (matches (target_in entry) target && fits (file_in entry) file)

-- ---- what is left out

abbrev pub is_ignored : List (List ℕ) → List ℕ → Bool
is_ignored entries text = list_any (λ entry. matches_target entry text) entries

-- a location in the file of a target
abbrev pub is_place_ignored : List (List ℕ) → List ℕ → List ℕ → Bool
is_place_ignored entries target file = list_any (λ entry. matches_place entry target file) entries

-- ---- the rows

pub record Row : Type 0 where
  pub text : List ℕ
  pub pages : ℕ

pub record Way : Type 0 where
  pub page : List ℕ
  pub target : Option (List ℕ)
  pub pages : ℕ

abbrev pub row_for : List (List ℕ) → List ℕ → ℕ → List Row
row_for entries text pages = if is_ignored entries text then [] else record { text = text; pages = pages } ∷ []

-- a page that is not there has a row, unless it is known
abbrev pub rows_at : List ℕ → List (List ℕ) → List ℕ → ℕ → Page → List Row
rows_at front entries url pages Missing = row_for entries (shown front url) pages
rows_at front entries url pages _ = []

abbrev pub rows_with : List ℕ → List (List ℕ) → Linked → List Row
rows_with front entries l = rows_at front entries l.result.url l.pages l.result.page

-- the rows of the pages that are not there
abbrev pub broken_of : List ℕ → List (List ℕ) → List PageResult → List Row
broken_of front entries results = flat_map (λ r. rows_with front entries (linked results r)) results

-- a page that moved and is linked to has a row
abbrev pub ways_at : List ℕ → List ℕ → ℕ → Page → List Way
ways_at front url pages (Moved to) =
    if pages == 0 then [] else record { page = shown front url; target = option_map (shown front) to; pages = pages } ∷ []
ways_at front url pages _ = []

abbrev pub ways_with : List ℕ → Linked → List Way
ways_with front l = ways_at front l.result.url l.pages l.result.page

abbrev pub redirects_of : List ℕ → List PageResult → List Way
redirects_of front results = flat_map (λ r. ways_with front (linked results r)) results
