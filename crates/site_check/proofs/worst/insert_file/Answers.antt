use Rattle.site_check.proofs.Prelude.{◌≡◌, ◌∙◌, ap, arith, bytes_eq, cond-false, cond-true, count_at, map, sym}
use Rattle.std.proofs.Common.{◌==◌, eqb-true}
use Rattle.std.proofs.lemmas.Bool.{not-false}
use Rattle.site_check.proofs.WorstFiles.{done_again, done_more}
use Rattle.site_check.proofs.worst.insert_file.Goals as goal
use Rattle.site_check.specs.Worst.{is_done, links_of, put_ten}

pub returns-then-is_done-clause-done : goal.returns-then-is_done-clause-done
returns-then-is_done-clause-done c = λ other. done_again (is_done c.args.done.now) c.args.file.now other (sym c.is_done.ensures ∙ c.if-is_done.true)

pub returns-then-is_done-clause-first : goal.returns-then-is_done-clause-first
returns-then-is_done-clause-first c = λ all exact. sym (cond-true (is_done c.args.done.now c.args.file.now) _ _ (sym c.is_done.ensures ∙ c.if-is_done.true))

pub returns-clause-done : goal.returns-clause-done
returns-clause-done c = λ other.
    let old = c.args.done.now in
    let file = c.args.file.now in
    let none : count_at old file ≡ 0 = eqb-true (count_at old file) 0 (not-false (count_at old file == 0) (sym c.is_done.ensures ∙ c.if-is_done.false)) in
    done_more (bytes_eq file other) (count_at old other) (count_at c.count_path.new.counts other) (c.in_ok-count_path.ensures (omega (arith, none)) other)

pub returns-clause-first : goal.returns-clause-first
returns-clause-first c = λ all exact.
    c.in_ok-insert.ensures ∙ ap (λ n. put_ten (map links_of c.args.first.now.items) (record { file = c.args.file.now; links = n })) (c.count_at-links.ensures ∙ exact)
    ∙ sym (cond-false (is_done c.args.done.now c.args.file.now) _ _ (sym c.is_done.ensures ∙ c.if-is_done.false))
