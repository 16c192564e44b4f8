-- The names that most proofs cite, passed on from one place. Declares nothing.
pub use Rattle.crawl_core.specs.declared.event.Event.{Event}
pub use Rattle.crawl_core.specs.declared.event.Event.TheVariants.{Admit, Back, Close, Done, EndSeeds, Enter, Look, Take}
pub use Rattle.crawl_limits.specs.Limits.{AreLimits, line_limit, pending_limit, worker_limit}
pub use Rattle.crawl_replay.specs.Assignment.{AreAddressed, IsAddressed, IsAssigned, IsPlaced}
pub use Rattle.crawl_replay.specs.Numbers.{is_number, number_of}
pub use Rattle.crawl_replay.specs.Script.{Said, address_from, admit_at, admit_parts, admit_with, event_from, event_of, events_in, events_of, header_in, header_of, is_within, least_error, numbered_event, plain_event, said_by, said_from, script_in, some_event, unless_error, with_events, with_header, with_text}
pub use Rattle.crawl_replay.specs.ScriptLines.{HeaderSays, IsAdmit, IsBadAdmission, IsEventLine, IsHeaderLine, IsLineText, IsNumber, IsNumbered, IsScript, LineSays, LinesSay}
pub use Rattle.crawl_replay.specs.declared.script.error.ScriptError.{ScriptError}
pub use Rattle.crawl_replay.specs.declared.script.header.Header.{Header}
pub use Rattle.std.proofs.Common.{Bool, Err, List, None, Ok, Option, Result, Some, [], ap, append-nil, append_assoc, arith, codes, drop, false, get_or, inl, inr, length, length-append, lt-ltb, ltb-true, nat_eq, nat_lt, not, ok_or, option_and_then, refl, rules, slice_get, subst, suc, sym, take, true, zero, ℕ, ◌&&◌, ◌++◌, ◌+◌, ◌<◌, ◌∙◌, ◌∷◌, ◌≡◌, ◌≢◌, ◌≤◌, ◌⊎◌}
pub use Rattle.std.proofs.lemmas.Bool.{and_parts, le-leb, leb-true}
pub use Rattle.std.proofs.lemmas.Bool.Decides.{Decides-by_and, nat_tests}
pub use Rattle.std.proofs.lemmas.Grind.{common_steps}
pub use Rattle.std.proofs.lemmas.List.Elements.{All-push, recursion_from_All}
pub use Rattle.std.proofs.lemmas.Slice.Eq.{bytes_eq-Decides}
pub use Rattle.std.specs.Bool.{Decides, if◌then◌else◌}
pub use Rattle.std.specs.List.{All, AllByRecursion, after_first, before_first, list_all, position_or_len, prefix_len}
pub use Rattle.std.specs.Result.{OkIff, result_err, result_ok}
pub use Rattle.std.specs.Str.{IsUtf8, bytes_eq, is_utf8}
pub use Rattle.std.specs.Str.Lines.{lines}
pub use Rattle.text_lines.specs.Fields.{at_space, is_space}
pub use Rattle.text_lines.specs.Lines.{text_of}
pub use Rattle.text_lines.specs.declared.lines.LineError.{LineError}
