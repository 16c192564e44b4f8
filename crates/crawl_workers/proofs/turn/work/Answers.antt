use Rattle.crawl_workers.proofs.Prelude.{◌≡◌, refl, sym, ap, subst, ◌∙◌, allows, links_of, LinkResults, answers_same, append-nil}
use native.Mathlib.Omega.{arith}
use Rattle.crawl_workers.proofs.Outcomes.{page_fetched}
use Rattle.crawl_workers.proofs.turn.work.Goals as goal

pub returns-clause-outcome : goal.returns-clause-outcome
returns-clause-outcome g c = λ known.
    let offered = c.offer_page-page in
    let links = offered.ensures.offered known in
    let same = answers_same g.K.Name.workers (allows g.K.Name.filter) _ _ _ links.link_results links.each in
    let url : c.url-2.result.now ≡ c.args.busy.now.message.entry.url = c.url-2.ensures ∙ ap (λ e. e.url) same.entry in
    page_fetched g.K.Name.workers (allows g.K.Name.filter) (g.F.SessionFetch.meaning c.args.fetcher.now) c.args.busy.now offered.new.busy offered.result
    c.args.output.now (record c.args.output.now { offers = offered.new.self }) c.keep.new.self
    (offered.ensures.page ∙ c.in-Ok.ensures.meaning ∙ ap (g.F.SessionFetch.meaning c.args.fetcher.now) c.url.ensures) refl
    (subst (λ p. LinkResults g.K.Name.workers (allows g.K.Name.filter) (links_of p) c.args.busy.now offered.new.busy c.args.output.now.offers offered.new.self) (sym offered.ensures.page) links)
    (rw url at c.keep.ensures)

pub returns-in_default-clause-outcome : goal.returns-in_default-clause-outcome
returns-in_default-clause-outcome g c = grind (arith, append-nil)
