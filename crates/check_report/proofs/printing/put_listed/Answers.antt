use Rattle.check_report.proofs.Prelude.{ap, ◌∙◌}
use Rattle.check_report.specs.Order.{ordered_places, shown_places}
use Rattle.check_report.proofs.Adding.{adds_listed}
use Rattle.check_report.proofs.printing.put_listed.Goals as goal

pub returns : goal.returns
returns c =
    adds_listed c.args.form c.put_places.result c.args.out.now.items c.put_places.new.out.items c.args.target.now c.args.view.all (ordered_places c.args.view.order c.args.target.now.places.items) c.in_ok-places.places.items c.shown_places.result.now
    (c.in_ok-places.ensures ∙ ap (ordered_places c.args.view.order) c.as_slice.ensures.value)
    (c.shown_places.ensures ∙ ap (shown_places c.args.view.all) c.as_slice-2.ensures.value) c.put_places.ensures
