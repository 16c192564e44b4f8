use Rattle.std.proofs.Common.{rules}
use Rattle.std.specs.Ordering.{is_lt}
use Rattle.std.specs.Str.{bytes_eq}
use Rattle.std.proofs.lemmas.Fn.{dedup_same}
use Rattle.std.proofs.lemmas.List.Sorted.{answers_always}
use Rattle.site_files.proofs.FirstOnes.{keys_rank}
use Rattle.site_files.specs.Firsts.{cmp_keys}
use Rattle.saved_site.proofs.Ascending.{aliases_of, alias_url}
use Rattle.saved_site.proofs.aliases.in_order.Goals as goal

pub returns : goal.returns
returns c =
    let both = aliases_of _ _ _
    (c.in_ok-sort_by.ensures.sorted (λ a b. is_lt (cmp_keys alias_url a b)) (keys_rank alias_url) (answers_always _ _ _ (λ f a r f' k. search rules)))
    c.in_ok-sort_by.ensures.permutation
    (dedup_same _ (λ a b. bytes_eq a.url b.url) _ (λ x y b f' x' y' k. search rules) _ _ c.dedup_by.ensures.filtered) in
    record { order = both.order; pages = both.pages }
