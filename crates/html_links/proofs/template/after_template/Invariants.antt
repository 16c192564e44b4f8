use Rattle.html_links.proofs.Prelude.{◌≡◌, ◌≤◌, ◌+◌, length, suc, read, Data, seen_within}
use Rattle.html_links.proofs.template.after_template.Given as goal

-- what is left, with the templates that are open, is read as the whole is
abbrev pub invariant-markup : goal.invariant-markup
invariant-markup l = (seen_within (suc l.inner) (read l.at Data l.rest) ≡ seen_within 1 (read l.fn.context Data l.fn.bytes)) × (l.inner + length l.rest ≤ length l.fn.bytes)

abbrev pub decreases-markup : goal.decreases-markup
decreases-markup l = length l.rest
