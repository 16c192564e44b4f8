use Rattle.crawl_certificate.proofs.Prelude.{◌+◌, ◌==◌, Bool, true, set, sym, ap, ◌∙◌, Entry, cases_Bool, same_at}
use native.Mathlib.Omega.{arith}
use Rattle.crawl_certificate.proofs.Places.{maps_agree, marked}
use Rattle.crawl_certificate.proofs.marks.mark.Goals as goal

pub returns-then-is_next-clause-linked : goal.returns-then-is_next-clause-linked
returns-then-is_next-clause-linked c = λ known is.
    let test : Entry → Bool = λ e. e.hops == c.args.hops + 1 in
    ap (λ ms. set ms c.in-Some.index true) is
    ∙ marked c.args.accepted.now c.args.link.now c.in-Some.index c.in-Some.ensures.found known test c.entry-entry.result.now c.entry-entry.ensures (sym c.if-is_next.ensures)

pub returns-else-is_next-clause-linked : goal.returns-else-is_next-clause-linked
returns-else-is_next-clause-linked c = grind (arith, maps_agree, cases_Bool, same_at)

pub returns-in-None-clause-linked : goal.returns-in-None-clause-linked
returns-in-None-clause-linked c = grind (arith, maps_agree)
