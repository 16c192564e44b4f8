-- The end of a page's folder, and the links that lead to the same URL from all pages of a folder.
use Rattle.std.specs.Prelude.{ℕ, Bool, not, ◌&&◌, ◌||◌, ◌==◌, nat_lt, List, slice_index}
use Rattle.std.specs.List.{list_any}
use Rattle.url.specs.declared.slicing.Position.TheVariants.{BeforeScheme, AfterPath, AfterPort}
use Rattle.url.specs.Ascii.{colon, number_sign, question_mark, slash, space}
use Rattle.url.specs.Parts.{Parts, text_between}
use Rattle.url.specs.Path.{without_last_segment}

-- a colon
abbrev pub is_colon : ℕ → Bool
is_colon b = b == colon

-- Only the folder of the page determines the URL to which such a text leads: the text has no scheme, since it begins with a slash
-- or has no colon; it is more than a query or a fragment; and nothing is trimmed at its start.
abbrev pub is_of_folder : List ℕ → Bool
is_of_folder text =
    nat_lt space (slice_index text 0)
    && not (slice_index text 0 == question_mark) && not (slice_index text 0 == number_sign)
    && (slice_index text 0 == slash || not (list_any is_colon text))

-- the URL's text before the last slash of its path
unfoldable pub folder_text : Parts → List ℕ
folder_text url = without_last_segment (text_between url BeforeScheme AfterPath)

-- the URL's text before its path
abbrev pub root_text : Parts → List ℕ
root_text url = text_between url BeforeScheme AfterPort
