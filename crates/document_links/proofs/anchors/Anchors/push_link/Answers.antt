use Rattle.document_links.proofs.Prelude.{◌∙◌, refl, sym}
use Rattle.std.proofs.Common.{◌&&◌}
use Rattle.page_anchors.specs.Indicated.{is_indicated}
use Rattle.document_links.proofs.Rows.{link_pushed}
use Rattle.document_links.proofs.anchors.Anchors.push_link.Goals as goal

pub returns : goal.returns
returns c =
    let old = c.args.self.now in
    let fragment = c.args.fragment.now in
    link_pushed old _ (c.args.is_own && is_indicated old.ids fragment) fragment c.args.index c.stored_index.result (sym c.in_ok-exists.ensures ∙ c.if-exists.false) c.requires refl refl
    c.in_ok-push.ensures.pushed c.in_ok-push-2.ensures.items c.stored_index.ensures
