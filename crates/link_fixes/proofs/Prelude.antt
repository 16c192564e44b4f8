-- The names that most proofs cite, passed on from one place. Declares nothing.
pub use Rattle.link_fixes.specs.Edits.{fixed_from, fixed_text}
pub use Rattle.link_fixes.specs.Links.{all_lead_on}
pub use Rattle.link_fixes.specs.Moves.{moves_to}
pub use Rattle.link_fixes.specs.NewLinks.{is_path, is_plain}
pub use Rattle.std.proofs.Common.{Bool, List, [], drop, false, length, arith, refl, rules, sym, take, tests, true, ℕ, ◌++◌, ◌∙◌, ◌∷◌, ◌≡◌, ◌≤◌}
pub use Rattle.std.specs.List.{list_all}
