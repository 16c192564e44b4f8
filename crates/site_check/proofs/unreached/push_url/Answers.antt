use Rattle.site_check.proofs.Prelude.{◌∙◌, sym}
use Rattle.site_check.proofs.Marks.{marked_before}
use Rattle.site_check.proofs.unreached.push_url.Goals as goal
use Rattle.site_check.specs.Unreached.{is_marked}

pub returns-then-not-is_left-clause-marks : goal.returns-then-not-is_left-clause-marks
returns-then-not-is_left-clause-marks c = λ index. marked_before (is_marked c.args.marks.now) c.args.file index (sym c.is_left.ensures ∙ c.if-not-is_left.true)
