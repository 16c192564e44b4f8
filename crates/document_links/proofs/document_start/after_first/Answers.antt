use Rattle.document_links.proofs.Prelude.{take_rest}
use Rattle.document_links.proofs.Occurrences.{first_word, nowhere}
use Rattle.document_links.proofs.document_start.after_first.Goals as goal

pub returns-in-Some-clause-value : goal.returns-in-Some-clause-value
returns-in-Some-clause-value c =
    rw take_rest (first_word c.args.needle.now c.args.text.now c.in-Some.index c.requires c.in-Some.ensures)

pub returns-in-None-clause-value : goal.returns-in-None-clause-value
returns-in-None-clause-value c = nowhere c.args.needle.now c.args.text.now c.in-None.ensures
