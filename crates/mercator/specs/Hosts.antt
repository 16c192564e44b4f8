-- The rules of hosts. Each has `index.html` as the name of its index files.
use Rattle.std.specs.Prelude.{ℕ, Bool, false, ◌||◌, List, codes, bytes_eq, Option, Some, None}

-- the host adds `.html` to a path without a page
abbrev pub adds_html : List ℕ → Bool
adds_html host = bytes_eq host (codes "github") || bytes_eq host (codes "netlify")

-- the host accepts only the exact spelling of a page's URL
abbrev pub is_exact : List ℕ → Bool
is_exact host = bytes_eq host (codes "plain")
