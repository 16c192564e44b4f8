use Rattle.mercator.proofs.Prelude.{◌≤◌, vec_len, Consumes}
use Rattle.mercator.proofs.commands.input.read_by.Given as goal

abbrev pub invariant-loop-turn : goal.invariant-loop-turn
invariant-loop-turn g l = record {
  within : vec_len l.bytes ≤ l.limits.bytes;
  many : l._turn ≤ vec_len l.bytes;
  taken : Consumes (g.I.Read.remaining l.initial.input) (g.I.Read.remaining l.input) l.bytes.items;
}
