use Rattle.mercator_site.proofs.Prelude.{arith, subst, sym, common_steps, AreOwn}
use Rattle.mercator_site.proofs.OwnPages.{own_with}
use Rattle.mercator_site.proofs.start.seeds_of.Goals as goal

pub loop-link-preserved : goal.loop-link-preserved
loop-link-preserved c = record {
  resolved = grind (arith, common_steps);
  own = subst (AreOwn c.args.top.now) (sym c.in_ok-push.ensures.items) (own_with _ _ _ c.loop-link.invariant.own c.in_ok-seed_of.ensures.own);
}
