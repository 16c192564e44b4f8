use Rattle.result_order.proofs.Prelude.{rules, IsNonDecreasingBy-from_sort_by_key, Numbered}
use Rattle.result_order.proofs.sorting.sort_by_number.Goals as goal

pub returns-then-parts-lt2-clause-rising : goal.returns-then-parts-lt2-clause-rising
returns-then-parts-lt2-clause-rising g c = IsNonDecreasingBy-from_sort_by_key (λ (p : Numbered). p.number) c.sort_unstable_by_key.new.self c.sort_unstable_by_key.ensures.sorted (λ a r q k. search rules)

pub returns-else-parts-lt2-clause-rising : goal.returns-else-parts-lt2-clause-rising
returns-else-parts-lt2-clause-rising g c = IsNonDecreasingBy-from_sort_by_key (λ (p : Numbered). p.number) c.par_sort_unstable_by_key.new.s c.par_sort_unstable_by_key.ensures.sorted (λ a r q k. search rules)
