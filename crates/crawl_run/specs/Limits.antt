-- The number of fetches per report of a crawl with an observer.
use Rattle.std.specs.Prelude.{ℕ}

-- a worker reports its fetches when there are this many, so the number that is not reported is always less
abbrev pub fetches_per_report : ℕ
fetches_per_report = 64
