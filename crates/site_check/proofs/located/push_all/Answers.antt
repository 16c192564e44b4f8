use Rattle.site_check.proofs.Prelude.{get_or, map, option_map}
use Rattle.std.proofs.lemmas.List.{get_or_default}
use Rattle.std.specs.Borrow.{Bor}
use Rattle.document_links.specs.declared.places.TextPlace.{TextPlace}
use Rattle.site_check.proofs.Placed.{item_at, push_more}
use Rattle.site_check.specs.Located.{placed_at}
use Rattle.site_check.proofs.located.push_all.Goals as goal

pub loop-number-preserved : goal.loop-number-preserved
loop-number-preserved c =
    let leads = c.args.leads.now in
    let k = c.loop-number.number in
    push_more c.args.name.now c.args.places.now leads k (get_or leads k _) (option_map (λ (place : Bor TextPlace). place.now) c.get.result) (map placed_at c.args.all.now.items) (map placed_at c.loop-number.all.items)
    (map placed_at c.push_link.new.all.items) c.loop-number-test.true (get_or_default leads k _ _ c.loop-number-test.true) (item_at c.args.places.now k c.get.result c.get.ensures.lookup) c.loop-number.invariant c.in_ok-push_link.ensures
