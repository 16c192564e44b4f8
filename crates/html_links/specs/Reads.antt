-- The text of the code's base.
use Rattle.std.specs.Prelude.{ℕ, List, Option, None, Some, Vec}
use Rattle.std.specs.declared.alloc.Global.{Global}

abbrev pub base_at : Option (Vec ℕ Global) → Option (List ℕ)
base_at None = None
base_at (Some text) = Some text.items
