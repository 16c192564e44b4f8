use Rattle.check_report.specs.Text.{link_end, place_head, target_start}
use Rattle.check_report.specs.declared.escape.Escape.TheVariants as escape
use Rattle.check_report.proofs.Prelude.{◌++◌}
use Rattle.check_report.proofs.Adding.{joined, last_joined}
use Rattle.check_report.proofs.as_text.put_place.Goals as goal

pub returns : goal.returns
returns c =
    let broken = c.args.broken.now in
    let place = c.args.place.now in
    let old = c.args.out.now.items in
    let begun = c.put_target_start.new.out.items in
    let head = place_head c.args.colour place in
    let start = target_start c.args.colour broken in
    last_joined c.put_link_end.result old begun c.put_link_end.new.out.items (head ++ start) (link_end escape.Shown broken place)
    (joined old c.put_place_head.new.out.items begun head start c.in_ok-put_place_head.ensures c.in_ok-put_target_start.ensures) c.put_link_end.ensures
