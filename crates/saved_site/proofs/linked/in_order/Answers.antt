use Rattle.std.proofs.Common.{rules}
use Rattle.std.specs.Ordering.{is_lt}
use Rattle.std.specs.Str.{bytes_eq}
use Rattle.std.proofs.lemmas.Fn.{dedup_same}
use Rattle.std.proofs.lemmas.List.Sorted.{answers_always}
use Rattle.site_files.proofs.FirstOnes.{keys_rank}
use Rattle.saved_site.proofs.Ascending.{ascending_of, url_in}
use Rattle.site_files.specs.Firsts.{cmp_keys}
use Rattle.saved_site.proofs.linked.in_order.Goals as goal

pub returns : goal.returns
returns c =
    let both = ascending_of _ _ _
    (c.in_ok-sort_by.ensures.sorted (λ a b. is_lt (cmp_keys url_in a b)) (keys_rank url_in) (answers_always _ _ _ (λ f a r f' k. search rules)))
    (c.in_ok-sort_by.ensures.stable (λ a b. is_lt (cmp_keys url_in a b)) (keys_rank url_in) (answers_always _ _ _ (λ f a r f' k. search rules)))
    (dedup_same _ (λ a b. bytes_eq a.url b.url) _ (λ x y b f' x' y' k. search rules) _ _ c.dedup_by.ensures.filtered) in
    record { order = both.order; same = both.same }
