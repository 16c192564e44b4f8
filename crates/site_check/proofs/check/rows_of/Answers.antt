use Rattle.site_check.proofs.Prelude.{List, map, string_bytes, subst}
use Rattle.std.specs.List.{All}
use Rattle.check_report.specs.declared.value.Broken.{Broken}
use Rattle.site_check.proofs.LocatedRows.{left_located}
use Rattle.site_check.specs.Complete.{IsKeptPlace}
use Rattle.site_check.specs.Located.{placed_at, target_texts}
use Rattle.site_check.proofs.check.rows_of.Goals as goal

pub returns-clause-located : goal.returns-clause-located
returns-clause-located c =
    let input = c.args.input in
    let others = c.args.others in
    left_located (map placed_at c.args.places.now) (target_texts input.front.now c.args.linked.now others.anchors.now others.invalid.now others.outside.now) (map string_bytes input.ignores.now)
    c.in_ok-broken.broken.items c.leave_out.new.rows.items c.leave_out.ensures c.in_ok-broken.ensures.located

pub returns-clause-whole : goal.returns-clause-whole
returns-clause-whole c =
    let input = c.args.input in
    subst (λ (rows : List Broken). All (IsKeptPlace input.front.now (map string_bytes input.ignores.now) c.args.linked.now c.args.others.anchors.now rows) (map placed_at c.args.places.now)) c.as_slice-2.ensures.value
    (c.has_all_places-is_whole.ensures c.if-not-is_whole.false)
