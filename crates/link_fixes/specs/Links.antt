-- The links of a document before and after a change.
use Rattle.std.specs.Prelude.{ℕ, ◌&&◌, ◌||◌, Bool, true, false, List, [], ◌∷◌, Option, None, Some, bytes_eq}
use Rattle.std.specs.Result.{result_ok}
use Rattle.crawl_keys.specs.CanonicalText.{resolve}
use Rattle.link_fixes.specs.declared.moves.Move.{Move}
use Rattle.link_fixes.specs.Moves.{moves_to}

-- a link leads to the same URL as before, or to that of a move
abbrev pub is_moved : List Move → Option (List ℕ) → Option (List ℕ) → Bool
is_moved moves (Some from) (Some to) = bytes_eq from to || moves_to moves from to
is_moved moves (Some from) None = false
is_moved moves None to = false

-- the new text of a link on a page is the old one, or has its URL or that of a move of it
abbrev pub leads_on : List ℕ → List Move → List ℕ → List ℕ → Bool
leads_on page moves old new = bytes_eq old new || is_moved moves (result_ok (resolve page old)) (result_ok (resolve page new))

-- so do all links of a page, in their order
abbrev pub all_lead_on : List ℕ → List Move → List (List ℕ) → List (List ℕ) → Bool
all_lead_on page moves [] [] = true
all_lead_on page moves (old ∷ olds) (new ∷ news) = leads_on page moves old new && all_lead_on page moves olds news
all_lead_on page moves [] (new ∷ news) = false
all_lead_on page moves (old ∷ olds) [] = false
