use Rattle.crawl_keys.proofs.Prelude.{subst, sym, Gives, NoMemory}
use Rattle.crawl_keys.proofs.HostLinks.{leads_by_host, spelled_by_host}
use Rattle.crawl_keys.proofs.base.Base.by_host.Goals as goal

pub join-requires : goal.join-requires
join-requires c =
    spelled_by_host c.args.self.now c.args.text.now c.scheme-scheme.result.now c.args.len c.scheme-scheme.ensures.canonical c.scheme-scheme.ensures.value c.requires

pub returns : goal.returns
returns c =
    let leads = leads_by_host c.args.self.now c.args.text.now c.scheme-scheme.result.now c.args.len c.scheme-scheme.ensures.canonical c.scheme-scheme.ensures.value c.requires in
    subst (Gives NoMemory (λ url. url) c.join.result) (sym leads) c.join.ensures
