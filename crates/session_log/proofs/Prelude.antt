-- The names that most proofs cite, passed on from one place. Declares nothing.
pub use Rattle.session_log.specs.LogFile.{IsBreak, has_sync, items}
pub use Rattle.std.proofs.Common.{Bool, List, None, Option, Some, [], ap, append-nil, append_assoc, arith, drop, true, length, refl, rules, slice_range, subst, sym, take, ℕ, ◌++◌, ◌+◌, ◌-◌, ◌∙◌, ◌∷◌, ◌≡◌, ◌≤◌}
pub use Rattle.std.proofs.KnownBytes.{Appends-nil, Appends-trans, prepend_known-nil, prepend_known-read}
pub use Rattle.std.proofs.lemmas.List.{drop-drop, drop-take, length-drop, length-take, take-append-drop, take_at}
