-- The names that most proofs cite, passed on from one place. Declares nothing.
pub use Rattle.page_anchors.specs.Escapes.{is_escaped, is_odd}
pub use Rattle.page_anchors.specs.Ids.{DoBound, pointed, texts_from}
pub use Rattle.page_anchors.specs.Indicated.{DoAscend, before_directive, begins_directive, decoded_of, has_id}
pub use Rattle.page_anchors.specs.declared.indicated.TheConstants.{IN_FRAGMENT}
pub use Rattle.std.proofs.Common.{All, Bool, List, [], ap, arith, drop, false, get_or, if◌then◌else◌, inl, inr, length, length-append, length-drop, refl, subst, suc, sym, take, true, zero, ℕ, ◌++◌, ◌+◌, ◌-◌, ◌<◌, ◌==◌, ◌∙◌, ◌∷◌, ◌≡◌, ◌≢◌, ◌≤◌}
pub use Rattle.std.proofs.lemmas.Bool.{agree_below_at, cases_lt, eq-eqb, ltb-false, or_parts}
pub use Rattle.std.proofs.lemmas.List.{append_assoc, drop_more, get_or_default, take_all, take_more}
pub use Rattle.std.proofs.lemmas.List.Sorted.{IsPermutation-map, searchable_from_sorted}
pub use Rattle.std.specs.Borrow.{Bor}
pub use Rattle.std.specs.Cmp.Lexicographic.{nat_list_cmp_total, slice_cmp}
pub use Rattle.std.specs.List.{flat_map, list_any, slice_range}
pub use Rattle.std.specs.List.Sorted.{IsPermutation, IsSorted}
pub use Rattle.std.specs.Ordering.{is_eq, is_lt, nat_cmp, ordering_index}
