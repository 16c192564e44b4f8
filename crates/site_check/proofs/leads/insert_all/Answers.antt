use Rattle.site_check.proofs.Prelude.{◌∙◌, number_at, number_with}
use Rattle.site_check.proofs.LeadsFound.{number_put, target_more}
use Rattle.site_check.proofs.leads.insert_all.Goals as goal

pub loop-target-preserved : goal.loop-target-preserved
loop-target-preserved c = λ url.
    let t = c.target-item.result in
    number_put c.loop-target.numbers c.insert.new.self c.hashed.result t.number c.in_ok-insert.ensures.updates url
    ∙ (λ i. number_with url (c.loop-target.invariant url i) (record { url = c.hashed.ensures i; number = t.number }))
    ∙ target_more c.args.targets.now c.loop-target.target-index t url (number_at c.args.numbers.now url) c.loop-target-test.true c.target-item.is
