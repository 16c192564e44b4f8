use Rattle.document_links.proofs.Prelude.{◌∙◌, ap, arith, length, sym}
use Rattle.html_links.proofs.Jumps.{shorter}
use Rattle.document_links.specs.Prescan.{BeforeName, prescan, state_in}
use Rattle.document_links.specs.Scans.{is_unquoted}
use Rattle.document_links.proofs.Prescanning.{leaves_text, tag_name}
use Rattle.document_links.proofs.prescan.read_markup.Goals as goal

pub returns-in-Tag-clause-reads : goal.returns-in-Tag-clause-reads
returns-in-Tag-clause-reads c =
    let opened = c.args.opened.now in
    c.read_tag-in-Tag.ensures.reads
    ∙ (λ i. prescan (BeforeName (c.new-in-Tag.ensures i)) (c.after_tag_name.ensures i))
    ∙ sym (tag_name opened)
    ∙ (λ i. prescan (state_in (c.in-Tag.ensures.value i)) opened)

pub returns-in-Tag-clause-leaves : goal.returns-in-Tag-clause-leaves
returns-in-Tag-clause-leaves c =
    leaves_text c.read_tag-in-Tag.result (length c.after_tag_name.result.now) (length c.args.opened.now)
    (omega (arith, ap length c.after_tag_name.ensures, shorter is_unquoted c.args.opened.now)) c.read_tag-in-Tag.ensures.leaves
