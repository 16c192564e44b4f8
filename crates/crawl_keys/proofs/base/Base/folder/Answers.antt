use Rattle.crawl_keys.proofs.Prelude.{subst, ◌∙◌, IsFolderOf}
use Rattle.crawl_keys.proofs.BaseLemmas.{front_slice, own_folder}
use Rattle.crawl_keys.proofs.base.Base.folder.Goals as goal

pub returns : goal.returns
returns c =
    let page = c.self.inside.url in
    let text = c.range.ensures.value ∙ front_slice page _ c.self.inside.folder c.ascii.ensures.value in
    subst (λ p. IsFolderOf p c.range.result.now) c.self.view_is
    (λ url parses. text ∙ own_folder page c.self.inside.root c.self.inside.folder c.ascii.ensures.canonical c.self.invariant url parses)
