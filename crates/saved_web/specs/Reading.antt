-- What is known of the lines of a saved web while they are read one by one, and when all were read.
use Rattle.std.specs.Prelude.{◌≡◌, ℕ, Bool, List, [], ◌∷◌, ◌++◌, length, codes, None, bytes_eq}
use Rattle.std.specs.List.{list_any}
use Rattle.std.specs.Option.{option_or}
use Rattle.saved_web.specs.KnownPages.{KnownPages, known_after, known_page}
use Rattle.saved_lines.specs.AddedPages.{has_some}
use Rattle.text_lines.specs.LeastError.{SoundAfter}
use Rattle.saved_pages.specs.PageLists.{urls}
use Rattle.saved_pages.specs.SavedWeb.{lines_after, page_of, page_urls}
use Rattle.saved_pages.specs.WebErrors.{is_second, under_last_page, error_after}
use Rattle.saved_pages.specs.WebLines.{line_of, is_page, is_link, is_moved_line}
use Rattle.saved_lines.specs.declared.line_check.Above.{Above}
use Rattle.saved_pages.specs.declared.line.Line.TheVariants as says

-- the lines before the rest pass all checks, and what the next checks need to know about them is known
pub record ReadTo (all rest : List (List ℕ)) (number : ℕ) (above : Above) (pages : KnownPages) : Type 0 where
  pub earlier : List (List ℕ)
  pub cut : all ≡ earlier ++ rest
  pub numbered : number ≡ length earlier
  pub sound : SoundAfter error_after [] earlier
  pub second : above.second ≡ is_second earlier
  pub link : above.link ≡ list_any is_link (under_last_page earlier)
  pub moved : above.moved ≡ list_any is_moved_line (under_last_page earlier)
  pub some_page : has_some pages ≡ list_any is_page earlier
  pub urls : urls pages ≡ page_urls earlier

-- each page of all these lines is known with the lines after it, or is in the rest
abbrev pub AllFound : List (List ℕ) → List (List ℕ) → KnownPages → Type 0
AllFound all rest pages =
    (url : List ℕ) → lines_after all url ≡ option_or (known_after pages url) (lines_after rest url)

-- both: the lines before the rest pass all checks, and their pages are known
pub record FoundTo (all rest : List (List ℕ)) (number : ℕ) (above : Above) (pages : KnownPages) : Type 0 where
  pub read : ReadTo all rest number above pages
  pub found : AllFound all rest pages

-- all these lines pass their checks, and these are their pages
pub record AreRead (all : List (List ℕ)) (pages : KnownPages) : Type 0 where
  pub sound : SoundAfter error_after [] all
  pub urls : urls pages ≡ page_urls all
  pub found : (url : List ℕ) → known_page pages url ≡ page_of all url

-- the line is a header, of version 2 if `second`, and otherwise of version 1
pub record IsHeader (second : Bool) (line : List ℕ) : Type 0 where
  pub sound : error_after [] line ≡ None
  pub version : bytes_eq line (codes "savedweb 2") ≡ second
  pub other : line_of line ≡ says.Other

-- after any header of this version these lines pass their checks, and these are their pages
abbrev pub AreReadAfter : Bool → List (List ℕ) → KnownPages → Type 0
AreReadAfter second lines pages = (header : List ℕ) → IsHeader second header → AreRead (header ∷ lines) pages
