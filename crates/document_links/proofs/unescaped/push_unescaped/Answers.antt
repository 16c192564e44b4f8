use Rattle.document_links.proofs.Prelude.{◌∙◌, ◌==◌, not, arith}
use Rattle.html_links.proofs.Documents.{cut_shorter}
use Rattle.document_links.proofs.Runs.{appended}
use Rattle.document_links.proofs.Unescaping.{to_reference}
use Rattle.document_links.proofs.unescaped.push_unescaped.Goals as goal

pub references-smaller : goal.references-smaller
references-smaller c = omega (arith, c.in_ok-rest.ensures.leaves, cut_shorter (λ b. not (b == 38)) c.references.rest.now c.in-Some.opened.now 38 c.in-Some.ensures.1)

pub references-preserved : goal.references-preserved
references-preserved c =
    c.in_ok-rest.ensures.reads
    ∙ appended c.references.out.items c.extend_from_slice-in-references.new.self.items _ _ _ _ c.in_ok-extend_from_slice.ensures.items
    (to_reference c.references.rest.now c.in-Some.plain.now c.in-Some.opened.now c.in-Some.ensures.0 c.in-Some.ensures.1) c.references.invariant
