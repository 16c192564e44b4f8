use Rattle.crawl_keys.proofs.Prelude.{◌+◌, ◌++◌, Ok, ap, subst, sym, ◌∙◌, resolve, Gives, IsSpelled, NoMemory}
use Rattle.crawl_keys.proofs.BaseLemmas.{front_slice}
use Rattle.crawl_keys.proofs.RootLinks.{leads_at_root, spelled_at_root}
use Rattle.crawl_keys.proofs.base.Base.at_root.Goals as goal

pub join-requires : goal.join-requires
join-requires c =
    let page = c.self.inside.url in
    let rest = c.args.rest.now in
    let root = c.range-root.ensures.value ∙ front_slice page _ (c.self.inside.root + 1) c.ascii.ensures.value in
    subst (λ r. IsSpelled (r ++ rest) c.host.result.start c.host.result.end) (sym root)
    (spelled_at_root page c.args.text.now c.self.inside.root c.self.inside.folder rest _ _ c.ascii.ensures.canonical c.self.invariant c.host.ensures.spelled c.requires)

pub returns : goal.returns
returns c =
    let text = c.args.text.now in
    let page = c.self.inside.url in
    let rest = c.args.rest.now in
    let root = c.range-root.ensures.value ∙ front_slice page _ (c.self.inside.root + 1) c.ascii.ensures.value in
    let leads = ap (λ r. Ok (r ++ rest)) root ∙ sym (leads_at_root page text c.self.inside.root c.self.inside.folder rest c.ascii.ensures.canonical c.self.invariant c.requires) ∙ ap (λ p. resolve p text) c.self.view_is in
    subst (Gives NoMemory (λ url. url) c.join.result) leads c.join.ensures
