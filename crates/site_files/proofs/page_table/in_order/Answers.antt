use Rattle.std.proofs.Common.{rules}
use Rattle.std.specs.Ordering.{is_lt}
use Rattle.std.proofs.lemmas.List.Sorted.{answers_always}
use Rattle.site_files.specs.Entries.{cmp_urls}
use Rattle.site_files.proofs.Table.{in_order_from_sort, urls_rank}
use Rattle.site_files.proofs.page_table.in_order.Goals as goal

pub returns : goal.returns
returns c =
    in_order_from_sort _ _
    (c.in_ok-sort_by.ensures.sorted (λ a b. is_lt (cmp_urls a b)) urls_rank (answers_always _ _ _ (λ f a r f' k. search rules)))
    (c.in_ok-sort_by.ensures.stable (λ a b. is_lt (cmp_urls a b)) urls_rank (answers_always _ _ _ (λ f a r f' k. search rules)))
