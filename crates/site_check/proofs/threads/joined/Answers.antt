use Rattle.std.proofs.Common.{ap, subst, sym, ◌∙◌}
use Rattle.std.specs.List.{All, flat_map}
use Rattle.std.specs.Prelude.{IsOk}
use Rattle.std.proofs.lemmas.Iterator.Adapters.{YieldsList-from_vec}
use Rattle.std.proofs.lemmas.Iterator.Consumers.{YieldsList-end}
use Rattle.std.proofs.lemmas.List.{map-id}
use Rattle.site_check.specs.Located.{items_of}
use Rattle.site_check.proofs.threads.joined.Goals as goal

pub returns-clause-items : goal.returns-clause-items
returns-clause-items g c =
    let gives = c.into_iter-chunk-iterator.ensures.into_iter_gives in
    let steps = YieldsList-from_vec {s = c.into_iter-chunk-iterator.result} c.args.chunks.items gives.0 (gives.1 ∙ c.args.chunks.ok.0) in
    let all = YieldsList-end steps c.chunks.yielded c.chunks.chunk-iterator c.chunks.yielded_by c.next.result c.next.new.self c.in-None.is c.next.ensures.steps in
    c.chunks.invariant.items ∙ ap (flat_map items_of) (sym (map-id c.chunks.yielded) ∙ all.0)

pub returns-clause-succeed : goal.returns-clause-succeed
returns-clause-succeed g c =
    let gives = c.into_iter-chunk-iterator.ensures.into_iter_gives in
    let steps = YieldsList-from_vec {s = c.into_iter-chunk-iterator.result} c.args.chunks.items gives.0 (gives.1 ∙ c.args.chunks.ok.0) in
    let all = YieldsList-end steps c.chunks.yielded c.chunks.chunk-iterator c.chunks.yielded_by c.next.result c.next.new.self c.in-None.is c.next.ensures.steps in
    subst (All (λ chunk. IsOk chunk)) (sym (map-id c.chunks.yielded) ∙ all.0) c.chunks.invariant.succeed
