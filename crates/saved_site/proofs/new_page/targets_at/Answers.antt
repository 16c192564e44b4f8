use Rattle.saved_site.proofs.Prelude.{◌≡◌, ◌∙◌, sym, subst}
use Rattle.std.proofs.lemmas.Iterator.Adapters.{YieldsList-from_vec}
use Rattle.std.proofs.lemmas.Iterator.Consumers.{YieldsList-end}
use Rattle.std.proofs.lemmas.List.{map-id}
use Rattle.saved_site.specs.SiteAnchors.{HaveUrls}
use Rattle.saved_site.proofs.new_page.targets_at.Goals as goal

pub returns : goal.returns
returns c =
    let gives = c.into_iter-url-iterator.ensures.into_iter_gives in
    let steps = YieldsList-from_vec {s = c.into_iter-url-iterator.result} c.args.urls.items gives.0 (gives.1 ∙ c.args.urls.ok.0) in
    let all = YieldsList-end steps c.links.yielded c.links.url-iterator c.links.yielded_by c.next.result c.next.new.self c.in-None.is c.next.ensures.steps in
    subst (λ urls. HaveUrls c.args.files.now urls c.links.targets.items) (sym (map-id c.links.yielded) ∙ all.0) c.links.invariant
