use Rattle.std.proofs.Common.{◌==◌, not, ◌∙◌, sym}
use Rattle.html_links.proofs.Documents.{cut_shorter}
use Rattle.html_links.proofs.Styling.{star_slash, star_other}
use Rattle.html_links.proofs.style.past_comment.Goals as goal

pub returns-in-Some-after_byte : goal.returns-in-Some-after_byte
returns-in-Some-after_byte c = sym (star_slash c.stars.rest.now c.in-Some.starred.now c.in-Some-after_byte.more.now c.in-Some.ensures.1 c.in-Some-after_byte.ensures) ∙ c.stars.invariant

pub stars-preserved : goal.stars-preserved
stars-preserved c = sym (star_other c.stars.rest.now c.in-Some.starred.now c.in-Some.ensures.1 c.in-None.ensures) ∙ c.stars.invariant

pub stars-smaller : goal.stars-smaller
stars-smaller c = cut_shorter (λ x. not (x == 42)) c.stars.rest.now c.in-Some.starred.now 42 c.in-Some.ensures.1
