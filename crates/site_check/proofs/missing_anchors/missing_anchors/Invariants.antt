use Rattle.std.proofs.Common.{◌-◌}
use Rattle.site_check.proofs.Prelude.{length, map, string_bytes}
use Rattle.site_check.proofs.AnchorGroups.{HasGrouped}
use Rattle.site_check.specs.AnchorGroups.{anchor_row}
use Rattle.site_check.proofs.missing_anchors.missing_anchors.Given as goal

abbrev pub invariant-anchors : goal.invariant-anchors
invariant-anchors l = HasGrouped l.input.front.now (map string_bytes l.input.ignores.now) l.links l.begin (map anchor_row l.anchors.items) l.initial.leads.items l.leads.items

abbrev pub decreases-anchors : goal.decreases-anchors
decreases-anchors l = length l.links - l.begin
