use Rattle.crawl_session.proofs.Prelude.{◌≡◌, ℕ, List, ◌++◌, length, string_bytes, lines, ServesAll}
use Rattle.crawl_session.proofs.serving.answers_to.Given as goal

abbrev pub invariant-loop-line : goal.invariant-loop-line
invariant-loop-line l = (front : List (List ℕ)) × (lines l.bytes ≡ front ++ lines l.rest) × ServesAll l.initial.session front (string_bytes l.answers) l.session

abbrev pub decreases-loop-line : goal.decreases-loop-line
decreases-loop-line l = length l.rest
