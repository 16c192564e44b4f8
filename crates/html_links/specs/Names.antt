-- The HTML Standard's named character references, by the table of their names and characters.
use Rattle.std.specs.Prelude.{ℕ, ◌+◌, ◌*◌, ◌%◌, ◌==◌, ◌||◌, ◌&&◌, nat_lt, nat_le, if◌then◌else◌, Bool, List, [], ◌∷◌, length, take, drop, Option, None, Some, slice_get, slice_index, slice_range, bytes_eq, option_map}
use Rattle.std.specs.List.{find, slice_split}
use Rattle.std.specs.Borrow.{Bor}
use Rattle.html_links.specs.declared.names.table.TheConstants.{STARTS, ROWS}

-- the number of the list with the row of a name
abbrev pub list_of : List ℕ → ℕ
list_of [] = 0
list_of (first ∷ []) = 0
list_of (first ∷ second ∷ rest) = (first * 23 + second * 29 + length rest % 256 * 47) % 256

abbrev pub or_zero : Option ℕ → ℕ
or_zero None = 0
or_zero (Some n) = n

abbrev pub number_in : List ℕ → ℕ → ℕ
number_in numbers index = or_zero (slice_get numbers index)

abbrev pub part_of : List ℕ → ℕ → ℕ → List ℕ
part_of bytes start end = if nat_le start end && nat_le end (length bytes) then slice_range bytes start end else []

unfoldable pub start_at : ℕ → ℕ
start_at index = number_in STARTS index

unfoldable pub list_at : ℕ → List ℕ
list_at index = part_of ROWS.now (start_at index) (start_at (index + 1))

-- the byte after a name in its row: `=`, or `;` if the name only counts with a `;` after it
abbrev pub is_mark : Bool → ℕ → Bool
is_mark closed c = c == 61 || closed && c == 59

-- the row is that of the name, and the name counts
abbrev pub counts : Bool → List ℕ → List ℕ → Bool
counts closed name row = nat_lt (length name) (length row) && (bytes_eq (take (length name) row) name && is_mark closed (slice_index row (length name)))

abbrev pub bytes_at : Option (Bor (List ℕ)) → Option (List ℕ)
bytes_at None = None
bytes_at (Some text) = Some text.now

-- the text of a name, with or without a `;` after it
abbrev pub named : Bool → List ℕ → Option (List ℕ)
named closed name = option_map (λ row. drop (length name + 1) row) (find (counts closed name) (slice_split (λ c. c == 32) (list_at (list_of name))))
