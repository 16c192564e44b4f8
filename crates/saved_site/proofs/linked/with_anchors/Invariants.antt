use Rattle.saved_site.proofs.Prelude.{◌≡◌, ◌++◌, flat_map}
use Rattle.saved_site.proofs.Anchors.{without}
use Rattle.saved_site.proofs.linked.with_anchors.Given as goal

abbrev pub invariant-entries : goal.invariant-entries
invariant-entries l = l.all.items ≡ l.fn.anchors.items ++ without (flat_map (λ made. made) l.threads) l.yielded
