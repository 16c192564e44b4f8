use Rattle.std.proofs.Common.{◌≡◌, length}
use Rattle.html_links.specs.Comments.{run, Comment}
use Rattle.html_links.proofs.comments.in_comment.Given as goal

-- the rest ends where the whole does
abbrev pub invariant-dashes : goal.invariant-dashes
invariant-dashes l = run Comment l.rest ≡ run Comment l.fn.bytes

abbrev pub decreases-dashes : goal.decreases-dashes
decreases-dashes l = length l.rest
