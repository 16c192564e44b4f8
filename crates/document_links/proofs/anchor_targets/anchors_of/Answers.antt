use Rattle.document_links.proofs.Prelude.{◌≡◌, ◌∙◌, ◌++◌, [], ap, refl, sym, subst}
use Rattle.std.specs.Prelude.{IsPermutation, flat_map}
use Rattle.document_links.specs.declared.anchor_targets.AnchorTargets.{AnchorTargets}
use Rattle.document_links.specs.Anchors.{links_with}
use Rattle.document_links.specs.Keeping.{kept_link, kept_of, led_from}
use Rattle.document_links.proofs.Keeping.{anchors_are}
use Rattle.document_links.proofs.Rows.{shrunk}
use Rattle.document_links.proofs.anchor_targets.anchors_of.Goals as goal

pub returns : goal.returns
returns c =
    let targets = c.marked_links.new.targets in
    let values = c.args.raw.now.texts in
    let page = c.args.url.now in
    let urls = targets.urls.items in
    let links = c.in_ok-links.links.items in
    let more = c.in_ok-links.ensures.more in
    let first = c.in_ok-targets.ensures in
    let own = c.with.result.ids in
    let order : IsPermutation c.args.ids.now own = subst (IsPermutation c.args.ids.now) (sym c.with.ensures.ids) c.in_ok-ascending.ensures.same in
    let made = c.push_all.new.self in
    let kept : AnchorTargets = record { anchors = c.shrink_to_fit.new.self; urls = made.urls } in
    let small = c.shrink_to_fit.ensures in
    let same = shrunk made kept small.fragments small.indices small.ends refl c.in_ok-push_all.ensures.built in
    let empty : led_from 0 c.with.result.ends.items c.new-2.result.items (links_with c.with.result.fragments c.with.result.indices.items) ≡ [] =
    λ i. led_from 0 (c.with.ensures.ends i) (c.new-2.ensures.items i) (links_with (c.with.ensures.fragments i) (c.with.ensures.indices i)) in
    let all : kept_of kept ≡ flat_map (kept_link values own urls page) links =
    same.1 ∙ c.in_ok-push_all.ensures.kept ∙ ap (λ l. l ++ flat_map (kept_link values own urls page) c.as_slice.result.now) empty ∙ ap (flat_map (kept_link values own urls page)) c.as_slice.ensures.value in
    anchors_are targets c.args.writer.base c.args.writer.charset page c.args.ids.now own values links kept (more.base ∙ first.base) (more.charset ∙ first.charset) (more.page ∙ first.page)
    order (small.ids ∙ c.in_ok-push_all.ensures.ids) c.in_ok-links.ensures.links same.0 all
