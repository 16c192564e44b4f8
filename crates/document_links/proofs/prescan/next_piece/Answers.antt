use Rattle.document_links.proofs.Prelude.{◌∙◌, ap, arith, length, sym}
use Rattle.html_links.proofs.Jumps.{shorter}
use Rattle.document_links.specs.Prescan.{BeforeName, is_gap, prescan}
use Rattle.document_links.proofs.Prescanning.{before_gap, begins_name, leaves_more, no_piece, tag_end}
use Rattle.document_links.proofs.prescan.next_piece.Goals as goal

pub returns-in_default-clause-reads : goal.returns-in_default-clause-reads
returns-in_default-clause-reads c = λ tag. no_piece tag c.args.text.now c.skip_gap-rest.result.now c.skip_gap-rest.ensures c.in_default.ensures

pub returns-then-first-eq62-clause-reads : goal.returns-then-first-eq62-clause-reads
returns-then-first-eq62-clause-reads c = λ tag.
    tag_end tag c.args.text.now c.skip_gap-rest.result.now c.in-Some.more.now c.in-Some.first c.skip_gap-rest.ensures c.in-Some.ensures c.if-first-eq62.true

pub returns-then-first-eq62-clause-leaves : goal.returns-then-first-eq62-clause-leaves
returns-then-first-eq62-clause-leaves c = omega (arith, ap length c.in-Some.ensures, ap length c.skip_gap-rest.ensures, shorter is_gap c.args.text.now)

pub read_attribute-requires : goal.read_attribute-requires
read_attribute-requires c = begins_name c.args.text.now c.skip_gap-rest.result.now c.in-Some.more.now c.in-Some.first c.skip_gap-rest.ensures c.in-Some.ensures c.if-first-eq62.false

pub returns-clause-reads : goal.returns-clause-reads
returns-clause-reads c = λ tag.
    before_gap tag c.args.text.now ∙ ap (prescan (BeforeName tag)) (sym c.skip_gap-rest.ensures) ∙ c.read_attribute.ensures.reads tag

pub returns-clause-leaves : goal.returns-clause-leaves
returns-clause-leaves c =
    leaves_more c.read_attribute.result (length c.skip_gap-rest.result.now) (length c.args.text.now)
    (omega (arith, ap length c.skip_gap-rest.ensures, shorter is_gap c.args.text.now)) c.read_attribute.ensures.leaves
