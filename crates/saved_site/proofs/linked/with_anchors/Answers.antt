use Rattle.saved_site.proofs.Prelude.{◌≡◌, ◌∙◌, ◌++◌, ap, sym, flat_map}
use Rattle.std.proofs.lemmas.Iterator.Adapters.{YieldsList-from_vec}
use Rattle.std.proofs.lemmas.Iterator.Consumers.{YieldsList-end}
use Rattle.std.proofs.lemmas.List.{map-id}
use Rattle.saved_site.proofs.Anchors.{without}
use Rattle.saved_site.proofs.linked.with_anchors.Goals as goal

pub returns : goal.returns
returns c =
    let gives = c.into_iter-one-iterator.ensures.into_iter_gives in
    let steps = YieldsList-from_vec {s = c.into_iter-one-iterator.result} c.args.own.items gives.0 (gives.1 ∙ c.args.own.ok.0) in
    let all = YieldsList-end steps c.entries.yielded c.entries.one-iterator c.entries.yielded_by c.next.result c.next.new.self c.in-None.is c.next.ensures.steps in
    c.entries.invariant ∙ ap (λ found. c.args.anchors.items ++ without (flat_map (λ made. made) c.args.threads.now) found) (sym (map-id c.entries.yielded) ∙ all.0)
