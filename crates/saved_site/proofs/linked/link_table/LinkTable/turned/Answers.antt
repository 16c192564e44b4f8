use Rattle.saved_site.proofs.linked.link_table.LinkTable.turned.Goals as goal

pub returns-clause-known : goal.returns-clause-known
returns-clause-known c = c.forgotten.ensures.none c.args.next.now
