use Rattle.document_links.proofs.Prelude.{◌≡◌, ◌++◌, length}
use Rattle.std.specs.Prelude.{flat_map}
use Rattle.document_links.specs.Keeping.{IsBuilt, kept_link, kept_of}
use Rattle.document_links.proofs.anchor_targets.AnchorTargets.push_all.Given as goal

abbrev pub invariant-targets : goal.invariant-targets
invariant-targets l =
    let keeps = kept_link l.raw.texts l.initial.self.anchors.ids l.targets.urls.items l.url in
    record {
      built : IsBuilt l.self;
      ids : l.self.anchors.ids ≡ l.initial.self.anchors.ids;
      kept : kept_of l.self ++ flat_map keeps l.rest ≡ kept_of l.initial.self ++ flat_map keeps l.initial.rest;
    }

abbrev pub decreases-targets : goal.decreases-targets
decreases-targets l = length l.rest
