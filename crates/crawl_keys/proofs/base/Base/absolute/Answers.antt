use Rattle.crawl_keys.proofs.Prelude.{Ok, ap, append-nil, subst, sym, ◌∙◌, resolve, Gives, NoMemory}
use Rattle.crawl_keys.proofs.BaseLemmas.{leads_absolute}
use Rattle.crawl_keys.proofs.base.Base.absolute.Goals as goal

pub returns : goal.returns
returns c =
    let text = c.args.text.now in
    let page = c.self.inside.url in
    let leads = ap Ok (append-nil text) ∙ sym (leads_absolute page text _ _ c.as_str.ensures.canonical c.requires) ∙ ap (λ p. resolve p text) c.self.view_is in
    subst (Gives NoMemory (λ url. url) c.join.result) leads c.join.ensures
