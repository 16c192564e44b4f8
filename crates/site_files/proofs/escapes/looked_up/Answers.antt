use Rattle.std.proofs.Common.{◌≡◌, Some, true, sym, ◌∙◌, arith}
use Rattle.site_files.specs.Names.{shown}
use Rattle.site_files.specs.Server.{stepped}
use Rattle.site_files.proofs.Ways.{ends_cut, walked_cut}
use Rattle.site_files.proofs.escapes.looked_up.Goals as goal

pub names-preserved : goal.names-preserved
names-preserved c =
    let goes : c.in_ok-step.field-0 ≡ true = grind (arith, c.if-not-branch.false) in
    let step : Some (shown c.step.new.way.items) ≡ stepped (shown c.names.way.items) c.in-Some.name.now = rw goes at c.in_ok-step.ensures in
    let cut = c.in-Some.ensures in
    record {
      walks = walked_cut c.names.rest.now c.in-Some.name.now c.in-Some.more.now cut _ _ step ∙ c.names.invariant.walks;
      ends = sym (ends_cut c.names.rest.now c.in-Some.name.now c.in-Some.more.now cut) ∙ c.names.invariant.ends;
    }
