use Rattle.site_check.proofs.Prelude.{◌∙◌, cond, bytes_eq}
use Rattle.site_check.proofs.LeadsFound.{list_put, place_more}
use Rattle.site_check.proofs.leads.link_indices.Goals as goal

pub loop-one-preserved : goal.loop-one-preserved
loop-one-preserved c = λ url.
    let p = c.one-item.result in
    list_put c.loop-one.indices c.insert.new.self c.hashed.result c.as_slice.result c.in_ok-insert.ensures.updates url
    ∙ (λ i. cond (bytes_eq (c.hashed.ensures i) url) (c.as_slice.ensures.value i) (c.loop-one.invariant url i))
    ∙ place_more c.args.places.now c.loop-one.one-index p url c.loop-one-test.true c.one-item.is
