use Rattle.saved_site.proofs.Prelude.{◌≡◌, ℕ, ◌+◌, ◌<◌, [], ◌∷◌, drop, length, Option, None, ap, sym, subst, ◌∙◌, arith, drop_more, link_url, LeadsTo}
use Rattle.saved_site.proofs.LinkIndices.{none_count, looked_some, looked_none, count_some, count_none}
use Rattle.saved_site.proofs.linked.link_table.LinkTable.find_indices.Goals as goal

pub texts-preserved-in-Continue-branch-3 : goal.texts-preserved-in-Continue-branch-3
texts-preserved-in-Continue-branch-3 c = grind (arith, drop_more, none_count, count_some, looked_some)

pub texts-preserved : goal.texts-preserved
texts-preserved c =
    let base = c.args.base.now in
    let links = c.args.links.now in
    let number = c.texts.number in
    let text = c.text-text.result.now in
    let rest = drop number links in
    let more = drop (number + 1) links in
    let old = c.texts.self.urls in
    let new = c.index.new.self.urls in
    let l = c.texts.invariant in
    let within : number < length links = omega (arith, c.len-count.ensures.count, c.texts-test.true) in
    let next : rest ≡ text ∷ more = drop_more links number [] within ∙ ap (λ t. t ∷ more) (sym c.text-text.ensures.text) in
    let leads : LeadsTo new None (link_url base text) =
    subst (λ (o : Option ℕ). LeadsTo new o (link_url base text)) c.in-None.is c.in_ok-index.ensures.leads in
    let one : none_count base rest ≡ 1 + none_count base more = count_none base new text rest more next leads in
    record {
      table = c.in_ok-index.ensures.known;
      keep = λ k url at. c.index.ensures.keep k url (l.keep k url at);
      within = omega (arith, within);
      few = omega (arith, l.few);
      looked = looked_none base links old new c.texts.indices.items text rest more l.looked c.index.ensures.keep next leads;
      counted = omega (arith, l.counted, one);
    }
