use Rattle.std.proofs.Common.{◌∙◌, arith, length, suc}
use Rattle.html_links.proofs.Jumps.{read_class, read_href, leaves_less}
use Rattle.html_links.proofs.tag.next_piece.Goals as goal

pub returns-in-Some-clause-reads : goal.returns-in-Some-clause-reads
returns-in-Some-clause-reads c = λ all. read_class c.args.bytes.now c.in-Some.more.now c.in-Some.ensures all ∙ c.quoted.ensures.reads (suc (suc (length c.in-Some.more.now))) all

pub returns-in-Some-clause-leaves : goal.returns-in-Some-clause-leaves
returns-in-Some-clause-leaves c = grind (arith, leaves_less)

pub returns-in-Some-after_href-clause-reads : goal.returns-in-Some-after_href-clause-reads
returns-in-Some-after_href-clause-reads c = λ all. read_href c.args.bytes.now c.in-Some-after_href.more.now c.in-Some-after_href.ensures all ∙ c.quoted-in-Some-after_href.ensures.reads (suc (suc (length c.in-Some-after_href.more.now))) all

pub returns-in-Some-after_href-clause-leaves : goal.returns-in-Some-after_href-clause-leaves
returns-in-Some-after_href-clause-leaves c = grind (arith, leaves_less)
