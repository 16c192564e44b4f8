use Rattle.site_check.proofs.Prelude.{◌∙◌, Some, None, ap, pointed, sym}
use Rattle.site_check.proofs.OwnFronts.{first_own}
use Rattle.site_check.specs.OwnFronts.{outward_count}
use Rattle.site_check.proofs.own_fronts.own_hint.Goals as goal

pub returns-in-Some : goal.returns-in-Some
returns-in-Some c =
    ap Some c.in_ok-front_hint-in-Some.ensures
    ∙ first_own c.args.files.now c.args.results.now c.top.result.now (pointed c.as_slice-fronts.result.now) c.in_ok-counts.counts c.outward_count.result (Some c.in-Some.front.now)
    c.top.ensures (ap pointed c.as_slice-fronts.ensures.value ∙ c.in_ok-found.ensures) c.in_ok-counts.ensures
    (c.outward_count.ensures ∙ ap (λ t. outward_count t c.args.results.now) (c.top-2.ensures ∙ sym c.top.ensures))
    c.in-Some.ensures

pub returns : goal.returns
returns c =
    first_own c.args.files.now c.args.results.now c.top.result.now (pointed c.as_slice-fronts.result.now) c.in_ok-counts.counts c.outward_count.result None
    c.top.ensures (ap pointed c.as_slice-fronts.ensures.value ∙ c.in_ok-found.ensures) c.in_ok-counts.ensures
    (c.outward_count.ensures ∙ ap (λ t. outward_count t c.args.results.now) (c.top-2.ensures ∙ sym c.top.ensures))
    c.in-None.ensures
