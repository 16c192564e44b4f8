use Rattle.mercator.proofs.Prelude.{List, ℕ, string_bytes, subst, sym}
use Rattle.mercator.specs.KeyLine.{IsKeyLine}
use Rattle.mercator.specs.declared.commands.planned.Plan.TheVariants as asks
use Rattle.mercator.proofs.Endings.{text_done, text_ends}
use Rattle.mercator.proofs.commands.print_key.Goals as goal

pub returns-clause-done : goal.returns-clause-done
returns-clause-done g c = λ input.
    let url = c.args.url.now in
    let is = subst (λ (text : List ℕ). IsKeyLine (string_bytes url) c.args.workers text) (sym c.deref-2.ensures.value) (rw c.deref.ensures at c.in_ok-line.ensures.line) in
    text_done (asks.Key url c.args.workers) c.deref-2.result.now input _ _ c.end.result is c.end.ensures

pub returns-clause-error : goal.returns-clause-error
returns-clause-error g c = λ input.
    let url = c.args.url.now in
    let is = subst (λ (text : List ℕ). IsKeyLine (string_bytes url) c.args.workers text) (sym c.deref-2.ensures.value) (rw c.deref.ensures at c.in_ok-line.ensures.line) in
    text_ends (asks.Key url c.args.workers) c.deref-2.result.now input _ _ c.end.result _ is c.end.ensures
