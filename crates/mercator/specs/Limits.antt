-- Limits of inputs. Each is a number here, and nowhere else in the definitions.
use Rattle.std.specs.Prelude.{ℕ, ◌^◌}

-- the bytes of an input
abbrev pub most_input_bytes : ℕ
most_input_bytes = 2 ^ 30

-- the reads of an input, with the one that finds its end
abbrev pub most_input_reads : ℕ
most_input_reads = 2 ^ 30
