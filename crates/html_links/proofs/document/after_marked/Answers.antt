use Rattle.html_links.proofs.Prelude.{◌∙◌, arith, sym}
use Rattle.html_links.proofs.Documents.{in_marked, cdata_less}
use Rattle.html_links.proofs.document.after_marked.Goals as goal

pub returns-in-Some-clause-reads : goal.returns-in-Some-clause-reads
returns-in-Some-clause-reads c =
    in_marked c.args.context c.args.bytes.now c.in-Some.more.now c.after_cdata.result (sym c.is_foreign.ensures ∙ c.if-not-is_foreign.false) c.in-Some.ensures c.after_cdata.ensures

pub returns-in-Some-clause-leaves : goal.returns-in-Some-clause-leaves
returns-in-Some-clause-leaves c = grind (arith, cdata_less)
