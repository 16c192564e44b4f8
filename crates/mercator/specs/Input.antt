-- The limits of an input.
use Rattle.std.specs.Prelude.{◌⊎◌, ℕ, ◌<◌, ◌≤◌, List, length}
use Rattle.mercator.specs.Limits.{most_input_bytes, most_input_reads}
use Rattle.mercator.specs.declared.commands.input.InputLimits.{InputLimits}

-- those of the program
abbrev pub input_limits : InputLimits
input_limits = record { bytes = most_input_bytes; reads = most_input_reads }

-- more bytes than the limit, or at least one byte for each allowed read, so that the reads may be used up before the end is found
abbrev pub IsBeyond : InputLimits → List ℕ → Type 0
IsBeyond limits bytes = (limits.bytes < length bytes) ⊎ (limits.reads ≤ length bytes)
