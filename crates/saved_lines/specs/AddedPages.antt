-- What a line of a saved web adds to the pages, and to what the checks remember.
use Rattle.std.specs.Prelude.{◌≡◌, ℕ, ◌==◌, Bool, false, ◌||◌, not, List, [], ◌∷◌, ◌++◌, length, codes, if◌then◌else◌, Option, Some, None, bytes_eq}
use Rattle.saved_pages.specs.PageLists.{PageRead, has}
use Rattle.saved_pages.specs.WebChecks.{Before}
use Rattle.saved_pages.specs.WebLines.{is_page, is_link, is_moved_line}
use Rattle.saved_lines.specs.declared.line_check.Above.{Above}

-- there is a page
abbrev pub has_some : List PageRead → Bool
has_some pages = not (length pages == 0)

-- the line added a page whose URL was new, with these bytes after its line; if it has no URL, the pages are the old ones
abbrev pub Adds : List PageRead → List PageRead → Option (List ℕ) → List ℕ → Type 0
Adds old new None bytes = new ≡ old
Adds old new (Some url) bytes = (has old url ≡ false) × (new ≡ old ++ record { url = url; following = bytes } ∷ [])

-- what the checks of the line with this number need, from the pages and from what is remembered
abbrev pub kept_before : ℕ → List PageRead → Above → Before
kept_before number pages above = record {
  number = number;
  second = above.second;
  some_page = has_some pages;
  link = above.link;
  moved = above.moved;
  known = has pages;
}

-- what is remembered after the line with this number
pub record Follows (number : ℕ) (line : List ℕ) (old new : Above) : Type 0 where
  pub second : new.second ≡ (if number == 1 then bytes_eq line (codes "savedweb 2") else old.second)
  pub link : new.link ≡ (if is_page line then false else old.link || is_link line)
  pub moved : new.moved ≡ (if is_page line then false else old.moved || is_moved_line line)
