use Rattle.std.proofs.Common.{rules, string_bytes}
use Rattle.std.specs.Ordering.{is_lt}
use Rattle.std.specs.Str.{bytes_eq}
use Rattle.std.proofs.lemmas.Fn.{dedup_same}
use Rattle.std.proofs.lemmas.List.Sorted.{answers_always}
use Rattle.site_files.specs.Skipped.{cmp_names}
use Rattle.site_files.proofs.SkippedLinks.{names_rank, skip_table}
use Rattle.site_files.proofs.skipped.SkippedLinks.new.Goals as goal

pub invariant_of-result : goal.invariant_of-result
invariant_of-result c =
    (skip_table _ _ _
    (c.in_ok-sort_by.ensures.sorted (λ a b. is_lt (cmp_names a b)) names_rank (answers_always _ _ _ (λ f a r f' k. search rules)))
    (c.in_ok-sort_by.ensures.stable (λ a b. is_lt (cmp_names a b)) names_rank (answers_always _ _ _ (λ f a r f' k. search rules)))
    (dedup_same _ (λ a b. bytes_eq (string_bytes a.name) (string_bytes b.name)) _ (λ x y b f' x' y' k. search rules) _ _ c.dedup_by.ensures.filtered)).ascends

pub returns : goal.returns
returns c =
    skip_table _ _ _
    (c.in_ok-sort_by.ensures.sorted (λ a b. is_lt (cmp_names a b)) names_rank (answers_always _ _ _ (λ f a r f' k. search rules)))
    (c.in_ok-sort_by.ensures.stable (λ a b. is_lt (cmp_names a b)) names_rank (answers_always _ _ _ (λ f a r f' k. search rules)))
    (dedup_same _ (λ a b. bytes_eq (string_bytes a.name) (string_bytes b.name)) _ (λ x y b f' x' y' k. search rules) _ _ c.dedup_by.ensures.filtered)
