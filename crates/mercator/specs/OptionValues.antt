-- The options of a command line and of a configuration file together. The command line replaces an option of the file if it has this
-- option, or one that cannot be used together with it.
use Rattle.std.specs.Prelude.{ℕ, Bool, true, false, not, ◌&&◌, ◌||◌, List, Option, Some, None}

-- an option without a value is given, if these say whether it is on the command line and in the file
abbrev pub flag_of : Bool → Bool → Bool → Bool
flag_of on_line in_file is_replaced = on_line || (not is_replaced && in_file)

-- the value of an option, for its values on the command line and in the file
abbrev pub text_of : Option (List ℕ) → Option (List ℕ) → Bool → Option (List ℕ)
text_of (Some text) in_file is_replaced = Some text
text_of None in_file true = None
text_of None in_file false = in_file
