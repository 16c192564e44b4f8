use Rattle.site_check.proofs.Prelude.{◌∙◌, length, refl, ap, sym, arith, ltb-false, slice_get_read, option_map, option_map_or, Linked, linked_at}
use Rattle.site_check.proofs.Counting.{pages_there, within_counts}
use Rattle.site_check.proofs.linked.pages_at.Goals as goal

pub returns-in-Some : goal.returns-in-Some
returns-in-Some c = λ results those same one there.
    let counts = c.args.counts.now in
    let got = slice_get_read counts (length counts) c.args.index c.in-Some.one.now refl (within_counts counts results those same c.args.index one there) c.in-Some.ensures.lookup.1 in
    let is = ap (option_map linked_at) (sym got) ∙ pages_there counts results those same c.args.index one there in
    ap (λ o. option_map_or (λ (l : Linked). l.pages) o 0) is

pub returns-in-None : goal.returns-in-None
returns-in-None c = λ results those same one there.
    let below = within_counts c.args.counts.now results those same c.args.index one there in
    let past = ltb-false _ _ (sym c.in-None.ensures.lookup.0) in
    absurd (omega (arith, below, past))
