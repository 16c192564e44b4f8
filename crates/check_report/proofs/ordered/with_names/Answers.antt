use Rattle.check_report.proofs.Prelude.{ap, arith, map, refl, subst, sym, ◌∙◌}
use Rattle.std.specs.List.{All}
use Rattle.check_report.specs.declared.ordered.Named.{Named}
use Rattle.check_report.proofs.Sorting.{IsNamed, named_more, targets_more}
use Rattle.check_report.proofs.ordered.with_names.Goals as goal

pub loop-broken-preserved : goal.loop-broken-preserved
loop-broken-preserved c =
    let done = c.loop-broken.all.items in
    record {
      targets =
          ap (map (λ (n : Named). n.broken.now)) c.in_ok-push.ensures.items
          ∙ targets_more done c.args.targets.now c.loop-broken.broken-index c.broken-item.result _ (omega arith) c.broken-item.is refl c.loop-broken.invariant.targets;
      names = subst (All IsNamed) (sym c.in_ok-push.ensures.items) (named_more done _ c.loop-broken.invariant.names c.in_ok-name.ensures);
    }
