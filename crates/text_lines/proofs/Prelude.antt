-- The names that most proofs cite, passed on from one place. Declares nothing.
pub use Rattle.std.proofs.Common.{Bool, Err, List, None, Ok, Option, Some, [], ap, arith, codes, cond, drop, false, get_or, le-ltb, length, length-append, lt-ltb, ltb-false, ltb-true, position, refl, rules, subst, sym, take, true, ℕ, ◌++◌, ◌+◌, ◌-◌, ◌<◌, ◌==◌, ◌∙◌, ◌∷◌, ◌≡◌, ◌≤◌}
pub use Rattle.std.proofs.lemmas.List.{drop_all, drop_more, get_or-drop, length-drop, take-append-drop, take_all, take_more, take_rest}
pub use Rattle.std.proofs.lemmas.Str.{IsCharBoundary-after_ascii, IsUtf8-append, IsUtf8-from_ascii, IsUtf8-from_is_utf8, is_utf8-from_IsUtf8}
