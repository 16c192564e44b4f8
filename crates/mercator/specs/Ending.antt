-- How a command ends.
use Rattle.std.specs.Prelude.{◌≡◌, ℕ, List, ◌++◌, Option, Result, Ok, Err}
use Rattle.std.specs.Io.KnownBytes.{Appends}
use Rattle.mercator.specs.declared.commands.error.CommandError.{CommandError}
use Rattle.mercator.specs.declared.commands.error.CommandError.TheVariants as wrong

-- a writer gained a beginning of the bytes: all of them, unless it refused one
abbrev pub Begins : Option (List ℕ) → Option (List ℕ) → List ℕ → Type 0
Begins old new bytes = (front : List ℕ) × (rest : List ℕ) × (bytes ≡ front ++ rest) × Appends old new front

-- how a command ends that has this text to write: the writer gained the text, or failed
abbrev pub EndsByText : List ℕ → Option (List ℕ) → Option (List ℕ) → Result (Unit {0}) CommandError → Type 0
EndsByText text old new (Ok _) = Appends old new text
EndsByText text old new (Err error) = error ≡ wrong.CannotWrite
