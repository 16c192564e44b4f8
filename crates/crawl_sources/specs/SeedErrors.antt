-- The error of a seeds file as a relation: the first check that the first line with an error fails.
use Rattle.std.specs.Prelude.{ℕ, ◌+◌, List, length, Option}
use Rattle.crawl_sources.specs.Seeds.{line_error}
use Rattle.crawl_sources.specs.declared.seeds.SeedsError.{SeedsError}

-- the first check that a line fails after these earlier lines
abbrev pub error_after : List (List ℕ) → List ℕ → Option SeedsError
error_after earlier line = line_error (length earlier + 1) line
