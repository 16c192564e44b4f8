use Rattle.html_links.proofs.Prelude.{◌≡◌, ◌++◌, length}
use Rattle.html_links.specs.Escapes.{read, unescaped}
use Rattle.html_links.proofs.escapes.push_unescaped.Given as goal

-- what is written and the text of what is left are the whole
abbrev pub invariant-bytes : goal.invariant-bytes
invariant-bytes l = l.out.items ++ read l.state l.rest ≡ l.initial.out.items ++ unescaped l.fn.text

abbrev pub decreases-bytes : goal.decreases-bytes
decreases-bytes l = length l.rest
