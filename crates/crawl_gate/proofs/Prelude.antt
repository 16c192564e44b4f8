-- The names that most proofs cite, passed on from one place. Declares nothing.
pub use Rattle.atomic_table.proofs.Lists.{at_longer, at_set, at_snoc, set_again, set_else}
pub use Rattle.atomic_table.specs.Table.{Act, Allows, Splits, Step, Valid, carried_after, chain, gives, homes_after, keeps, step, stepped, takes}
pub use Rattle.crawl_gate.specs.GateInvariant.{GateInvariant, HasCloser, MayMeet, Moment}
pub use Rattle.crawl_gate.specs.History.{GainsMet, GateGoes, GateStep, IsHistory, SeatSteps, first_moment}
pub use Rattle.crawl_gate.specs.History.GateStep.{closes, enters, leaves, looks, loses, not_closes, splits}
pub use Rattle.crawl_gate.specs.Steps.{Closes, Enters, Leaves, Looks, Sitting}
pub use Rattle.crawl_gate.specs.View.{Met, any_closed, fresh_view, knows_closed, units_held, units_of, view_closing, view_entering, view_leaving, view_looking, view_losing, view_meeting, view_not_closing}
pub use Rattle.crawl_gate.specs.Word.{Word, bits, closed_at, closed_bit, open_at, top_bit}
pub use Rattle.crawl_gate.specs.declared.rule.View.{View}
pub use Rattle.crawl_gate.specs.declared.step_kind.StepKind.{StepKind}
pub use Rattle.crawl_gate.specs.declared.step_kind.StepKind.TheVariants.{CloseLost, CloseWon, EnterLost, EnterWon, Leave, Load}
pub use Rattle.std.proofs.Common.{Bool, List, [], ap, arith, eq-eqb, eqb, false, inl, inr, ne_eqb, refl, rules, set, subst, suc, sym, true, true≢false, zero, ℕ, ⊎_elim, ◌%◌, ◌++◌, ◌+◌, ◌-◌, ◌<◌, ◌^◌, ◌∙◌, ◌∷◌, ◌≡◌, ◌≢◌, ◌≤◌, ◌⊎◌}
pub use Rattle.std.specs.Prelude.{All, slice_index, ◌||◌}
pub use lib.ListN.{get_elem?}
pub use mathlib.Core.Logic.{dite}
pub use mathlib.Core.Option.{Option, none, some, some-injective, some-ne-none}
pub use native.Mathlib.Decide.{ℕ_discrete}
