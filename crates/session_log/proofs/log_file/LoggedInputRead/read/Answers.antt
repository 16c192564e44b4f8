use Rattle.session_log.proofs.Prelude.{◌≡◌, ◌++◌, length, take, drop, sym, ◌∙◌, rules, arith, prepend_known-read, take-append-drop, take_at, length-take, items}
use Rattle.session_log.proofs.log_file.LoggedInputRead.read.Goals as goal

pub returns-clause-bytes : goal.returns-clause-bytes
returns-clause-bytes g c =
    let n = c.min-count.result in
    let ready = items c.fill.new.self in
    let copied = c.copy_from_slice.new.self in
    let len : length copied ≡ n = omega (arith, c.copy_from_slice.ensures.len, length-take n c.args.buf.now, c.min-count.ensures) in
    let front : take n (copied ++ drop n c.args.buf.now) ≡ take n ready = take_at copied _ n len ∙ (rw (← c.as_slice-ready.ensures) (search rules)) in
    let moved = prepend_known-read _ (g.I.Read.remaining c.fill.new.input) ready (drop n ready) (take n ready) ⊥ c.in_ok-fill.ensures.kept (sym (take-append-drop n ready)) (λ none. absurd none) in (
      rw (c.consume.ensures, front) moved.0,
      λ zero some. absurd (omega (arith, zero, c.if-count-eq0.false)),
    )
