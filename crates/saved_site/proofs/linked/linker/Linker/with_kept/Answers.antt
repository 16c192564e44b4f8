use Rattle.saved_site.proofs.Prelude.{rules, ◌≡◌, ◌++◌, ℕ, List, [], length, if◌then◌else◌, true, string_bytes, ap, ◌∙◌, is_next, PageFound, found_all, found_of, with_found}
use Rattle.std.specs.Option.{option_to_list}
use Rattle.std.specs.Prelude.{nat_lt}
use Rattle.saved_site.proofs.Anchors.{anchors_with}
use Rattle.saved_site.proofs.Linkers.{linked_one, own_added}
use Rattle.saved_site.proofs.linked.linker.Linker.with_kept.Goals as goal

pub invariant_of-result : goal.invariant_of-result
invariant_of-result g c =
    let page = c.args.page in
    let inside = c.self.inside in
    let serves = g.K.SiteName.serves in
    let top : string_bytes inside.top ≡ c.args.self.0 = ap (λ (v : List ℕ × List PageFound). v.0) c.self.view_is in
    let base : c.in_ok-base.base ≡ page.url = search rules in
    let kept : is_next (string_bytes inside.top) [] page.url ≡ true = ap (λ (t : List ℕ). is_next t [] page.url) top ∙ c.requires.kept in
    let both = c.in_ok-both.ensures in
    let list = inside.pages.list.items in
    let longer = c.in_ok-both.both.1.list.items in
    let l = linked_one serves (string_bytes inside.top) inside.table.urls c.turned-table.result.urls c.in_ok-both.both.0.urls list longer both.one page c.in_ok-base.base
    both.longer c.turned-table.ensures.urls both.keep c.self.invariant.1.1.0 c.self.invariant.1.1.1.0 both.url base both.is both.led c.fits_lines.ensures kept c.requires.served in
    let more : c.in_ok-anchors.anchors.items ≡ inside.anchors.items ++ (if nat_lt (length list) (length longer) then option_to_list c.into_anchors.result else []) = search rules in
    let added = own_added inside.table.urls list longer both.one page inside.anchors.items c.in_ok-anchors.anchors.items c.into_anchors.result both.longer both.url c.into_anchors.ensures more in (
      both.known,
      (
        both.index,
        (
          l.led,
          (
            l.kept,
            anchors_with serves (string_bytes inside.top) (found_all inside.table.urls list) (found_all c.in_ok-both.both.0.urls longer) page inside.anchors.items c.in_ok-anchors.anchors.items l.view kept added c.self.invariant.1.1.1.1 c.requires.served,
          ),
        ),
      ),
    )

pub returns : goal.returns
returns g c =
    let page = c.args.page in
    let inside = c.self.inside in
    let top : string_bytes inside.top ≡ c.args.self.0 = ap (λ (v : List ℕ × List PageFound). v.0) c.self.view_is in
    let base : c.in_ok-base.base ≡ page.url = search rules in
    let kept : is_next (string_bytes inside.top) [] page.url ≡ true = ap (λ (t : List ℕ). is_next t [] page.url) top ∙ c.requires.kept in
    let both = c.in_ok-both.ensures in
    let l = linked_one g.K.SiteName.serves (string_bytes inside.top) inside.table.urls c.turned-table.result.urls c.in_ok-both.both.0.urls inside.pages.list.items c.in_ok-both.both.1.list.items both.one page c.in_ok-base.base
    both.longer c.turned-table.ensures.urls both.keep c.self.invariant.1.1.0 c.self.invariant.1.1.1.0 both.url base both.is both.led c.fits_lines.ensures kept c.requires.served in
    ap (λ (fs : List PageFound). (string_bytes inside.top, fs)) l.view
    ∙ ap (λ (v : List ℕ × List PageFound). (v.0, with_found v.0 v.1 (found_of page))) c.self.view_is
