use Rattle.saved_site.proofs.Prelude.{◌≡◌, ℕ, List, string_bytes, sym, ap, subst, ◌∙◌, PageFound, AreKept, found_all}
use Rattle.saved_site.specs.Served.{HaveAnchors}
use Rattle.saved_site.proofs.linked.linker.Linker.into_pages.Goals as goal

pub returns-clause-kept : goal.returns-clause-kept
returns-clause-kept g c =
    let list = c.self.inside.pages.list.items in
    let same : c.new.result ≡ found_all c.self.inside.table.urls list = c.new.ensures ∙ ap (λ (us : List (List ℕ)). found_all us list) c.into_urls.ensures in
    let top : string_bytes c.self.inside.top ≡ c.args.self.0 = ap (λ (v : List ℕ × List PageFound). v.0) c.self.view_is in
    subst (λ (t : List ℕ). AreKept g.K.SiteName.serves t c.new.result) top (subst (AreKept g.K.SiteName.serves (string_bytes c.self.inside.top)) (sym same) c.self.invariant.1.1.1.0)

pub returns-clause-anchors : goal.returns-clause-anchors
returns-clause-anchors g c =
    let inside = c.self.inside in
    let list = inside.pages.list.items in
    let same : c.new.result ≡ found_all inside.table.urls list = c.new.ensures ∙ ap (λ (us : List (List ℕ)). found_all us list) c.into_urls.ensures in
    subst (λ (found : List PageFound). HaveAnchors g.K.SiteName.serves found inside.anchors.items) (sym same) c.self.invariant.1.1.1.1
