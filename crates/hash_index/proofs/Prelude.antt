-- The names that most proofs cite, passed on from one place. Declares nothing.
pub use Rattle.hash_index.specs.Index.{AreKept, IsIndexOf, IsKept, with_slots}
pub use Rattle.hash_index.specs.Lists.{AreApart, index_of, is_this, has_text_at}
pub use Rattle.hash_index.specs.Overflow.{IsInOverflow}
pub use Rattle.hash_index.specs.Slots.{AreTaken, IsFirstVacant, IsInSlots, Misses, mark_of, no_slot, slot_of, word_at, word_of}
pub use Rattle.hash_index.specs.declared.index.HashIndex.{HashIndex}
pub use Rattle.std.proofs.Common.{Bool, Err, IfOk, IfSome, List, None, Ok, Option, Result, Some, [], ap, arith, bit_and, bit_xor, false, get_or, inl, inr, is_some, length, map, refl, rules, set, slice_get, string_bytes, subst, suc, suc-le-suc, sym, take, true, zero, zero-le, ℕ, ◌++◌, ◌+◌, ◌-◌, ◌<◌, ◌∙◌, ◌∷◌, ◌≡◌, ◌≢◌, ◌≤◌, ◌⊎◌}
pub use Rattle.std.proofs.lemmas.Bool.{both_ways, cases_eq, cases_lt, cond-false, false_from_ne_true}
pub use Rattle.std.proofs.lemmas.List.{get_or-set_other, length-set, length-take-le, map-append, take_all, take_more}
pub use Rattle.std.specs.Option.{option_map, unwrap_or}
pub use Rattle.std.specs.Str.{bytes_eq}
