-- The names that most proofs cite, passed on from one place. Declares nothing.
pub use Rattle.crawl_gate.specs.Seat.{GateId, IsSeatOf}
pub use Rattle.crawl_queues.specs.Entries.{KeepsRule, MayFollow, count_of, entries_of, has_url}
pub use Rattle.crawl_queues.specs.Growing.{Adding, Compares, Fits, Grows, Stays, beginning, holding, no_entry, owning}
pub use Rattle.crawl_queues.specs.Logs.{AllStay, AreThere, Has, entry_at, line_of, lists_of, log_of, says}
pub use Rattle.crawl_queues.specs.PassId.{PassId}
pub use Rattle.crawl_queues.specs.QueueId.{QueueId}
pub use Rattle.crawl_queues.specs.Rule.{AllOfGate, PassFits, SubqueueInvariant, no_home, plain, popping, pushing, reunited, spent, undivided}
pub use Rattle.crawl_queues.specs.declared.entry.Entry.{Entry}
pub use Rattle.crawl_queues.specs.declared.entry.Message.{Message}
pub use Rattle.crawl_queues.specs.declared.growing.rule.ListView.{ListView}
pub use Rattle.crawl_queues.specs.declared.log.LogLine.{LogLine}
pub use Rattle.crawl_queues.specs.declared.rule.PassView.{PassView}
pub use Rattle.std.proofs.Common.{Bool, List, Some, [], ap, append_assoc, arith, cond, eqb, false, inl, inr, length, map, refl, rules, set, slice_get, subst, suc, sym, take, true, true≢false, vec_len, zero, ℕ, ⊎_elim, ◌++◌, ◌+◌, ◌<◌, ◌∙◌, ◌∷◌, ◌≡◌, ◌≢◌, ◌≤◌, ◌⊎◌}
pub use Rattle.std.proofs.lemmas.Grind.{common_steps}
pub use Rattle.std.proofs.lemmas.List.{append-nil, take_all, take_more}
pub use Rattle.std.proofs.lemmas.Option.{get_or_from_slice_get, slice_get_read}
pub use Rattle.std.specs.Prelude.{slice_index_or, vec_capacity}
pub use lib.ListN.{get_elem?}
pub use mathlib.Core.Option.{some, some-injective, some-ne-none}
