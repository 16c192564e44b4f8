-- URLs with another path.
use Rattle.std.specs.Prelude.{ℕ, ◌==◌, List, ◌++◌, codes, take, drop}
use Rattle.std.specs.List.{position_or_len}

-- the number of bytes of a URL before its query
abbrev pub path_length : List ℕ → ℕ
path_length url = position_or_len (λ b. b == 63) url

-- the URL with `.html` after its path
abbrev pub with_html : List ℕ → List ℕ
with_html url = take (path_length url) url ++ codes ".html" ++ drop (path_length url) url
