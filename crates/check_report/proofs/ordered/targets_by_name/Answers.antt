use Rattle.check_report.proofs.Prelude.{Bor, IfOk, List, ap, map, subst, ◌≡◌, ◌∙◌}
use Rattle.std.proofs.Common.{rules}
use Rattle.std.proofs.lemmas.List.Sorted.{answers_always}
use Rattle.std.specs.Ordering.{is_lt}
use Rattle.check_report.specs.Order.{named_cmp}
use Rattle.check_report.specs.declared.ordered.Named.{Named}
use Rattle.check_report.specs.declared.value.Broken.{Broken}
use Rattle.check_report.proofs.Sorting.{named_rank, targets_from_sort}
use Rattle.check_report.proofs.ordered.targets_by_name.Goals as goal

pub returns : goal.returns
returns c =
    let sorted =
    targets_from_sort c.in_ok-named.named.items c.sort_by.new.self.items c.args.targets.now c.in_ok-named.ensures.targets c.in_ok-named.ensures.names
    (c.in_ok-sort_by.ensures.sorted (λ (a : Named) (b : Named). is_lt (named_cmp a b)) named_rank (answers_always _ _ _ (λ f a r g h. search rules)))
    (c.sort_by.ensures.stable (λ (a : Named) (b : Named). is_lt (named_cmp a b)) named_rank (answers_always _ _ _ (λ f a r g h. search rules))) in
    subst (λ (ts : List Broken). IfOk c.targets_of.result (λ all. map (λ (t : Bor Broken). t.now) all.items ≡ ts))
    (ap (map (λ (n : Named). n.broken.now)) c.as_slice.ensures.value ∙ sorted) c.targets_of.ensures
