use Rattle.mercator.proofs.Prelude.{List, ℕ, inl, refl, string_bytes, subst, sym, err_from_is_err_and, known_bytes, OfFile}
use Rattle.crawl_replay.specs.Replay.{IsReplay}
use Rattle.mercator.specs.declared.commands.planned.Plan.TheVariants as asks
use Rattle.mercator.proofs.Endings.{text_done, text_ends}
use Rattle.mercator.proofs.commands.print_replies.Goals as goal

pub returns-in_err-text-clause-error : goal.returns-in_err-text-clause-error
returns-in_err-text-clause-error g c =
    let r = c.from_residual in
    let same = err_from_is_err_and r.result r.ensures.1 in
    rw (same.1, same.2) (inl (rw c.deref.ensures at c.in_err-text.ensures.error, refl))

pub returns-clause-done : goal.returns-clause-done
returns-clause-done g c =
    let file = c.args.file.now in
    let input = g.I.Read.remaining c.args.input.now in
    let is = subst (λ (text : List ℕ). OfFile (known_bytes (string_bytes file) input) (λ bytes. IsReplay bytes text)) (sym c.deref-2.ensures.value) (rw c.deref.ensures at c.in_ok-text.ensures.text) in
    text_done (asks.Replay file) c.deref-2.result.now input _ _ c.end.result is c.end.ensures

pub returns-clause-error : goal.returns-clause-error
returns-clause-error g c =
    let file = c.args.file.now in
    let input = g.I.Read.remaining c.args.input.now in
    let is = subst (λ (text : List ℕ). OfFile (known_bytes (string_bytes file) input) (λ bytes. IsReplay bytes text)) (sym c.deref-2.ensures.value) (rw c.deref.ensures at c.in_ok-text.ensures.text) in
    text_ends (asks.Replay file) c.deref-2.result.now input _ _ c.end.result _ is c.end.ensures
