use Rattle.html_links.proofs.Prelude.{◌≡◌, false, length, past_comment}
use Rattle.html_links.proofs.style.past_comment.Given as goal

-- what is left of the comment ends where the whole does
abbrev pub invariant-stars : goal.invariant-stars
invariant-stars l = past_comment false l.rest ≡ past_comment false l.fn.text

abbrev pub decreases-stars : goal.decreases-stars
decreases-stars l = length l.rest
