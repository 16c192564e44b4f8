use Rattle.mercator.proofs.Prelude.{◌≡◌, inl, IfErr, refl, sym, subst, err_from_is_err_and, EndsBy, CommandError, Plan}
use Rattle.mercator.proofs.commands.run.Goals as goal

pub returns-in_err-print_crawl-in-Crawl-clause-error : goal.returns-in_err-print_crawl-in-Crawl-clause-error
returns-in_err-print_crawl-in-Crawl-clause-error g c =
    let input = g.I.Read.remaining c.args.input.now in
    let r = c.from_residual in
    let same = err_from_is_err_and r.result r.ensures.1 in
    let error = c.in_err-print_crawl-in-Crawl.field-0.0 in
    rw (same.1, same.2) (subst (λ (p : Plan). EndsBy p input error (c.print_crawl.new.out ≡ c.args.out.now)) (sym c.in-Crawl.is) (c.in_err-print_crawl-in-Crawl.ensures.error))

pub returns-in_err-print_key-in-Key-clause-error : goal.returns-in_err-print_key-in-Key-clause-error
returns-in_err-print_key-in-Key-clause-error g c =
    let input = g.I.Read.remaining c.args.input.now in
    let r = c.from_residual-in_err-print_key-in-Key in
    let same = err_from_is_err_and r.result r.ensures.1 in
    let error = c.in_err-print_key-in-Key.field-0.0 in
    rw (same.1, same.2) (subst (λ (p : Plan). EndsBy p input error (c.print_key.new.out ≡ c.args.out.now)) (sym c.in-Key.is) (c.in_err-print_key-in-Key.ensures.error input))

pub returns-in_err-print_replies-in-Replay-clause-error : goal.returns-in_err-print_replies-in-Replay-clause-error
returns-in_err-print_replies-in-Replay-clause-error g c =
    let input = g.I.Read.remaining c.args.input.now in
    let r = c.from_residual-in_err-print_replies-in-Replay in
    let same = err_from_is_err_and r.result r.ensures.1 in
    let error = c.in_err-print_replies-in-Replay.field-0.0 in
    rw (same.1, same.2) (subst (λ (p : Plan). EndsBy p input error (c.print_replies.new.out ≡ c.args.out.now)) (sym c.in-Replay.is) (c.in_err-print_replies-in-Replay.ensures.error))

pub returns-in-Check-clause-error : goal.returns-in-Check-clause-error
returns-in-Check-clause-error g c =
    let input = g.I.Read.remaining c.args.input.now in
    subst (λ (p : Plan). IfErr c.run_check.result (λ (error : CommandError). EndsBy p input error (c.run_check.new.out ≡ c.args.out.now))) (sym c.in-Check.is) (c.run_check.ensures.error input)

pub returns-in_err-run_site-in-Site-clause-error : goal.returns-in_err-run_site-in-Site-clause-error
returns-in_err-run_site-in-Site-clause-error g c =
    let input = g.I.Read.remaining c.args.input.now in
    let r = c.from_residual-in_err-run_site-in-Site in
    let same = err_from_is_err_and r.result r.ensures.1 in
    let error = c.in_err-run_site-in-Site.field-0.0 in
    rw (same.1, same.2) (subst (λ (p : Plan). EndsBy p input error (c.run_site.new.out ≡ c.args.out.now)) (sym c.in-Site.is) (c.in_err-run_site-in-Site.ensures.error input))

pub returns-in_err-serve_plan-in-Serve-clause-error : goal.returns-in_err-serve_plan-in-Serve-clause-error
returns-in_err-serve_plan-in-Serve-clause-error g c =
    let input = g.I.Read.remaining c.args.input.now in
    let r = c.from_residual-in_err-serve_plan-in-Serve in
    let same = err_from_is_err_and r.result r.ensures.1 in
    let error = c.in_err-serve_plan-in-Serve.field-0.0 in
    rw (same.1, same.2) (subst (λ (p : Plan). EndsBy p input error (c.serve_plan.new.out ≡ c.args.out.now)) (sym c.in-Serve.is) (c.in_err-serve_plan-in-Serve.ensures.error))

pub returns-in_err-serve_log-in-ServeLog-clause-error : goal.returns-in_err-serve_log-in-ServeLog-clause-error
returns-in_err-serve_log-in-ServeLog-clause-error g c =
    let input = g.I.Read.remaining c.args.input.now in
    let r = c.from_residual-in_err-serve_log-in-ServeLog in
    let same = err_from_is_err_and r.result r.ensures.1 in
    let error = c.in_err-serve_log-in-ServeLog.field-0.0 in
    rw (same.1, same.2) (subst (λ (p : Plan). EndsBy p input error (c.serve_log.new.out ≡ c.args.out.now)) (sym c.in-ServeLog.is) (c.in_err-serve_log-in-ServeLog.ensures.error))

pub returns-in_err-list_log-in-List-clause-error : goal.returns-in_err-list_log-in-List-clause-error
returns-in_err-list_log-in-List-clause-error g c =
    let input = g.I.Read.remaining c.args.input.now in
    let r = c.from_residual-in_err-list_log-in-List in
    let same = err_from_is_err_and r.result r.ensures.1 in
    let error = c.in_err-list_log-in-List.field-0.0 in
    rw (same.1, same.2) (subst (λ (p : Plan). EndsBy p input error (c.list_log.new.out ≡ c.args.out.now)) (sym c.in-List.is) (c.in_err-list_log-in-List.ensures.error input))

pub returns-in_err-compact_log-in-Compact-clause-error : goal.returns-in_err-compact_log-in-Compact-clause-error
returns-in_err-compact_log-in-Compact-clause-error g c =
    let input = g.I.Read.remaining c.args.input.now in
    let r = c.from_residual-in_err-compact_log-in-Compact in
    let same = err_from_is_err_and r.result r.ensures.1 in
    let error = c.in_err-compact_log-in-Compact.field-0.0 in
    rw (same.1, same.2) (subst (λ (p : Plan). EndsBy p input error (c.args.out.now ≡ c.args.out.now)) (sym c.in-Compact.is) (inl (c.in_err-compact_log-in-Compact.ensures.error input, refl)))
