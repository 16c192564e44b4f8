-- The names that most proofs cite, passed on from one place. Declares nothing.
pub use Rattle.crawl_pages.specs.declared.page.PageResult.{PageResult}
pub use Rattle.result_order.specs.Sixteens.{AreAlikeWithin, BeginAlike, IsSixteen, bytes_from}
pub use Rattle.result_order.specs.Sorting.{AllBeginAlike, AllEqual, AreInOrder, ArePartedAt, ArePrepared, IsNumbered, pages_of}
pub use Rattle.result_order.specs.declared.numbered.Numbered.{Numbered}
pub use Rattle.std.proofs.Common.{Bool, Global, List, Vec, [], ap, arith, drop, false, get_or, inl, inr, leb, length, ltb, refl, reverse, rules, slice_index, subst, suc, sym, take, true, vec_len, zero, zero-le, ℕ, ◌*◌, ◌++◌, ◌+◌, ◌-◌, ◌<◌, ◌∙◌, ◌∷◌, ◌≡◌, ◌≤◌}
pub use Rattle.std.proofs.lemmas.Bool.{cases_eq, cases_lt, cases_order, leb-false, leb-true, ltb-false, ltb-true}
pub use Rattle.std.proofs.lemmas.List.{get_or-append_right, get_or-drop, get_or-map, get_or-take, get_or_append_left, length-append, length-drop, length-map, length-take-le, map-append, take-append-drop}
pub use Rattle.std.proofs.lemmas.List.Sorted.{All-permutation, Contains-permutation, IsNonDecreasingBy-drop, IsNonDecreasingBy-from_sort_by_key, IsNonDecreasingBy-take, IsPartitionPoint-from_clause, IsPartitionedBy-leb, IsPartitionedBy-ltb, IsPermutation-append, IsPermutation-map, IsPermutation-reverse, IsPermutation-sym, IsPermutation-trans, answers_always, ranks_by}
pub use Rattle.std.specs.Cmp.Lexicographic.{nat_list_cmp_total, slice_cmp}
pub use Rattle.std.specs.List.{All, AllWithin, Contains}
pub use Rattle.std.specs.List.Sorted.{IsNonDecreasingBy, IsPartitionPoint, IsPermutation, IsSortedBy, IsSortedByKey}
pub use Rattle.std.specs.Ordering.{is_lt, nat_cmp, ordering_reverse, ordering_then}
