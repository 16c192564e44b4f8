use Rattle.document_links.proofs.Prelude.{length}
use Rattle.document_links.proofs.Numbering.{marked_sorted}
use Rattle.document_links.proofs.marked_links.marked_links.Goals as goal

pub returns-clause-links : goal.returns-clause-links
returns-clause-links c =
    let values = c.args.raw.now.texts in
    marked_sorted c.find_marked.new.targets values (length values) c.in_ok-all.all.items c.sort_by.new.self.items c.in_ok-all.ensures.links c.sort_by.ensures.permutation
