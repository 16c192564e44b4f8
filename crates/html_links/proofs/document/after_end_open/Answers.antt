use Rattle.html_links.proofs.Prelude.{EndTagOpen, length, true}
use Rattle.html_links.proofs.Documents.{read_tag_name, letter_opens_end, bogus_end, bogus_leaves}
use Rattle.html_links.proofs.document.after_end_open.Goals as goal

pub returns-in-Letter-clause-reads : goal.returns-in-Letter-clause-reads
returns-in-Letter-clause-reads c = λ at.
    read_tag_name at EndTagOpen true c.args.bytes.now c.in-Some.first c.in-Some.field-0-1.now c.split_tag_name.result.0.now c.split_tag_name.result.1.now
    c.in-Some.ensures (letter_opens_end at c.in-Some.first (length c.in-Some.field-0-1.now) c.in-Letter.ensures) c.split_tag_name.ensures.name c.split_tag_name.ensures.rest

pub returns-in_default-opening_of : goal.returns-in_default-opening_of
returns-in_default-opening_of c = rw c.other.ensures (record {
  reads = bogus_end c.after_bogus.result c.args.bytes.now c.in-Some.field-0-1.now c.in-Some.first c.opening_of.result c.in-Some.ensures c.opening_of.ensures c.in_default-opening_of.not-Letter c.after_bogus.ensures.reads;
  leaves = bogus_leaves c.after_bogus.result c.args.bytes.now c.after_bogus.ensures.leaves;
})
