use Rattle.crawl_keys.proofs.Prelude.{ap, sym, ◌∙◌, bytes_eq-Decides, resolve}
use Rattle.crawl_keys.proofs.BaseLemmas.{front_slice, leads_within}
use Rattle.crawl_keys.proofs.base.Base.shares_folder.Goals as goal

pub returns : goal.returns
returns c same text plain =
    let own = c.range-own.ensures.value ∙ front_slice c.self.inside.url _ c.self.inside.folder c.ascii.ensures.value in
    let its = c.range-its.ensures.value ∙ front_slice c.other.inside.url _ c.other.inside.folder c.ascii-2.ensures.value in
    let equal = sym own ∙ (bytes_eq-Decides _ _).0 (sym c.eq.ensures ∙ same) ∙ its in
    ap (λ t. resolve t text) (sym c.self.view_is)
    ∙ leads_within c.self.inside.url c.other.inside.url c.self.inside.root c.self.inside.folder c.other.inside.root c.other.inside.folder c.ascii.ensures.canonical c.ascii-2.ensures.canonical c.self.invariant c.other.invariant equal text plain
    ∙ ap (λ t. resolve t text) c.other.view_is
