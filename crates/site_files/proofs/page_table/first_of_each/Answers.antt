use Rattle.std.proofs.Common.{ap, sym, ◌∙◌}
use Rattle.std.specs.List.{dedup}
use Rattle.std.proofs.lemmas.Iterator.Adapters.{YieldsList-from_vec}
use Rattle.std.proofs.lemmas.Iterator.Consumers.{YieldsList-end}
use Rattle.std.proofs.lemmas.List.{map-id}
use Rattle.site_files.proofs.Table.{once_from_dedup, same_url}
use Rattle.site_files.proofs.page_table.first_of_each.Goals as goal

pub returns : goal.returns
returns c =
    let gives = c.into_iter-entry-iterator.ensures.into_iter_gives in
    let steps = YieldsList-from_vec {s = c.into_iter-entry-iterator.result} c.args.entries.items gives.0 (gives.1 ∙ c.args.entries.ok.0) in
    let all = YieldsList-end steps c.entries.yielded c.entries.entry-iterator c.entries.yielded_by c.next.result c.next.new.self c.in-None.is c.next.ensures.steps in
    once_from_dedup _ _ c.requires (c.entries.invariant ∙ ap (dedup same_url) (sym (map-id c.entries.yielded) ∙ all.0))
