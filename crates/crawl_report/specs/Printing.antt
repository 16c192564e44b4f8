-- What is printed so far, and lines that are printed after it.
use Rattle.std.specs.Prelude.{◌≡◌, ℕ, Bool, true, false, List, ◌++◌, Vec, string_bytes, flat_map}
use Rattle.std.specs.declared.alloc.Global.{Global}
use Rattle.crawl_report.specs.Json.{printed_line}
use Rattle.crawl_report.specs.Lines.{Line}
use Rattle.crawl_report.specs.declared.out.Out.{Out}
use Rattle.crawl_report.specs.declared.out.Out.TheVariants.{Text, Json}

abbrev pub bytes_of : Out → List ℕ
bytes_of (Text text) = string_bytes text
bytes_of (Json text) = text.items

abbrev pub is_json : Out → Bool
is_json (Text text) = false
is_json (Json text) = true

-- more is printed: these lines
pub record Adds (out more : Out) (lines : List Line) : Type 0 where
  pub same : is_json more ≡ is_json out
  pub added : bytes_of more ≡ bytes_of out ++ flat_map (printed_line (is_json out)) lines

-- chunks, one after the other
abbrev pub joined : List (Vec ℕ Global) → List ℕ
joined chunks = flat_map (λ chunk. chunk.items) chunks
