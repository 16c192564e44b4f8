use Rattle.saved_site.proofs.Prelude.{flat_map, AreKept}
use Rattle.saved_site.specs.Served.{HaveAnchors}
use Rattle.saved_site.proofs.linked.kept_pages.Given as goal

abbrev pub invariant-linkers : goal.invariant-linkers
invariant-linkers g l = record {
  kept : AreKept g.K.SiteName.serves l.top (flat_map (λ made. made) l.threads.items);
  anchors : HaveAnchors g.K.SiteName.serves (flat_map (λ made. made) l.threads.items) l.anchors.items;
}
