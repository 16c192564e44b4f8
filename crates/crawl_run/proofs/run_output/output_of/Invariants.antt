use Rattle.crawl_run.proofs.Prelude.{◌≡◌, ◌++◌, losses_with, all_closed, all_found}
use Rattle.std.specs.Vec.Iter.{into_iter_items}
use Rattle.crawl_run.proofs.run_output.output_of.Given as goal

abbrev pub invariant-loop-end : goal.invariant-loop-end
invariant-loop-end g l = record {
  closed : l.closed.items ++ all_closed (into_iter_items l.end-iterator) ≡ all_closed l.fn.ends.items;
  found : l.results.items ++ all_found (into_iter_items l.end-iterator) ≡ all_found l.fn.ends.items;
  losses : losses_with l.losses (into_iter_items l.end-iterator) ≡ losses_with l.fn.refused l.fn.ends.items;
}
