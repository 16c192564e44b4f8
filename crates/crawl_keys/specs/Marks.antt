-- Which texts are marked in a table of marks.
use Rattle.std.specs.Prelude.{◌≡◌, ℕ, Bool, true, false, ◌%◌, List, length, get_or, bytes_eq}
use Rattle.std.specs.List.{list_any}
use Rattle.crawl_keys.specs.Assignment.{hash}

-- the table has a mark at the remainder of the text's hash
abbrev pub is_marked : List Bool → List ℕ → Bool
is_marked marks text = get_or marks (hash text % length marks) false

-- each of these texts is marked
abbrev pub AreMarked : List Bool → List (List ℕ) → Type 0
AreMarked marks texts = (text : List ℕ) → list_any (bytes_eq text) texts ≡ true → is_marked marks text ≡ true
