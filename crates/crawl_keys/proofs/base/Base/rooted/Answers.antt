use Rattle.crawl_keys.proofs.Prelude.{◌++◌, Ok, ap, subst, sym, ◌∙◌, resolve, Gives, IsSpelled, NoMemory}
use Rattle.crawl_keys.proofs.BaseLemmas.{front_slice, leads_rooted, spelled_root}
use Rattle.crawl_keys.proofs.base.Base.rooted.Goals as goal

pub join-requires : goal.join-requires
join-requires c =
    let page = c.self.inside.url in
    let root = c.range-root.ensures.value ∙ front_slice page _ c.self.inside.root c.ascii.ensures.value in
    subst (λ r. IsSpelled (r ++ c.args.text.now) c.host.result.start c.host.result.end) (sym root)
    (spelled_root page c.args.text.now c.self.inside.root c.self.inside.folder _ _ c.ascii.ensures.canonical c.self.invariant c.host.ensures.spelled c.requires)

pub returns : goal.returns
returns c =
    let text = c.args.text.now in
    let page = c.self.inside.url in
    let root = c.range-root.ensures.value ∙ front_slice page _ c.self.inside.root c.ascii.ensures.value in
    let leads = ap (λ r. Ok (r ++ text)) root ∙ sym (leads_rooted page text c.self.inside.root c.self.inside.folder c.ascii.ensures.canonical c.self.invariant c.requires) ∙ ap (λ p. resolve p text) c.self.view_is in
    subst (Gives NoMemory (λ url. url) c.join.result) leads c.join.ensures
