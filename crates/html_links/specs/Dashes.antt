-- What contracts state of the code after a dash in a comment.
use Rattle.std.specs.Prelude.{◌≡◌, ◌≤◌, ℕ, List, length, Result, Ok, Err, Some}
use Rattle.std.specs.Borrow.{Bor}
use Rattle.html_links.specs.Comments.{run, Comment, EndDash}

-- the comment ends here, or continues
abbrev pub Dashed : Result (Bor (List ℕ)) (Bor (List ℕ)) → List ℕ → Type 0
Dashed (Ok last) bytes = run EndDash bytes ≡ Some last.now
Dashed (Err more) bytes = run EndDash bytes ≡ run Comment more.now

abbrev pub LeavesRest : Result (Bor (List ℕ)) (Bor (List ℕ)) → List ℕ → Type 0
LeavesRest (Ok last) bytes = Unit {0}
LeavesRest (Err more) bytes = length more.now ≤ length bytes
