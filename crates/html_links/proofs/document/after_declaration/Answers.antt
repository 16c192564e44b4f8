use native.Mathlib.Omega.{arith}
use Rattle.html_links.proofs.Documents.{in_comment}
use Rattle.html_links.proofs.document.after_declaration.Goals as goal
use Rattle.html_links.proofs.Dashing.{comment_less}

pub returns-in-Some-after_byte-clause-reads : goal.returns-in-Some-after_byte-clause-reads
returns-in-Some-after_byte-clause-reads c = grind (arith, in_comment)

pub returns-in-Some-after_byte-clause-leaves : goal.returns-in-Some-after_byte-clause-leaves
returns-in-Some-after_byte-clause-leaves c = grind (arith, comment_less)
