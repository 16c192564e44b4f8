-- Moves of links from one URL to another.
use Rattle.std.specs.Prelude.{ℕ, ◌&&◌, Bool, List, bytes_eq}
use Rattle.std.specs.List.{list_any}
use Rattle.link_fixes.specs.declared.moves.Move.{Move}

-- one of the moves is from this URL to that
abbrev pub moves_to : List Move → List ℕ → List ℕ → Bool
moves_to moves from to = list_any (λ (one : Move). bytes_eq one.from from && bytes_eq one.to to) moves
