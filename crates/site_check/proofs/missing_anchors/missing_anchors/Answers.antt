use Rattle.site_check.proofs.Prelude.{◌≡◌, ◌∙◌, ◌+◌, [], ◌∷◌, List, ap, arith, common_steps, length, length-map, map, refl, string_bytes, subst, sym}
use Rattle.std.proofs.lemmas.List.{map-append}
use Rattle.site_check.proofs.AnchorGroups.{HasGrouped, grouped_more, grouped_none}
use Rattle.site_check.specs.AnchorGroups.{anchor_row}
use Rattle.site_check.specs.Broken.{Row}
use Rattle.site_check.specs.declared.missing_anchors.MissingAnchor.{MissingAnchor}
use Rattle.site_check.proofs.missing_anchors.missing_anchors.Goals as goal

pub anchors-init : goal.anchors-init
anchors-init c =
    let front = c.args.input.front.now in
    let entries = map string_bytes c.args.input.ignores.now in
    subst (λ (l : List MissingAnchor). HasGrouped front entries c.args.links.now 0 (map anchor_row l) c.args.leads.now.items c.args.leads.now.items) (sym c.new-anchors.ensures.items)
    (grouped_none front entries c.args.links.now c.args.leads.now.items)

pub anchors-preserved : goal.anchors-preserved
anchors-preserved c =
    let front = c.args.input.front.now in
    let entries = map string_bytes c.args.input.ignores.now in
    let links = c.args.links.now in
    let first = c.in-Some.first in
    let before = c.anchors.anchors.items in
    let anchor = c.in_ok-anchor-in-Some.anchor in
    let next = c.anchors.begin + length first.own.now in
    let counted : c.len.result ≡ length (map anchor_row before) = grind (arith, common_steps, length-map before anchor_row) in
    subst (λ (rows : List Row). HasGrouped front entries links next rows c.args.leads.now.items c.missing_anchor.new.leads.items)
    (sym (ap (map anchor_row) c.in_ok-push-in-Some.ensures.items ∙ map-append anchor_row before (anchor ∷ [])))
    (grouped_more front entries links c.split_at.result.1.now c.anchors.begin next (map anchor_row before) c.args.leads.now.items c.anchors.leads.items c.missing_anchor.new.leads.items first (anchor_row anchor) c.len.result
    c.anchors.invariant c.split_at.ensures.back c.in-Some.ensures refl c.in_ok-anchor-in-Some.ensures.row counted c.in_ok-anchor-in-Some.ensures.leads)
