use Rattle.document_links.proofs.Prelude.{◌≡◌, ◌++◌, length}
use Rattle.document_links.specs.Unescaped.{unescaped}
use Rattle.document_links.proofs.unescaped.push_unescaped.Given as goal

-- what is written and the text of what is left are the whole
abbrev pub invariant-references : goal.invariant-references
invariant-references l = l.out.items ++ unescaped l.rest ≡ l.initial.out.items ++ unescaped l.fn.text

abbrev pub decreases-references : goal.decreases-references
decreases-references l = length l.rest
