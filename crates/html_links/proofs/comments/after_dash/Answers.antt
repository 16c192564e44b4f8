use Rattle.std.proofs.Common.{◌∙◌, ap}
use Rattle.html_links.specs.Comments.{End, EndBang, run}
use Rattle.html_links.proofs.Dashing.{to_end, no_end, no_bang_end}
use Rattle.html_links.proofs.comments.after_dash.Goals as goal

pub returns-in-Some-after_byte-clause-ends : goal.returns-in-Some-after_byte-clause-ends
returns-in-Some-after_byte-clause-ends c =
    to_end c.args.bytes.now c.in-Some.dashed.now c.skip_dashes-more.result.now c.in-Some.ensures c.skip_dashes-more.ensures.skipped ∙ ap (run End) c.in-Some-after_byte.ensures

pub returns-in_default-after_byte-2-clause-ends : goal.returns-in_default-after_byte-2-clause-ends
returns-in_default-after_byte-2-clause-ends c =
    to_end c.args.bytes.now c.in-Some.dashed.now c.skip_dashes-more.result.now c.in-Some.ensures c.skip_dashes-more.ensures.skipped
    ∙ no_end c.skip_dashes-more.result.now c.skip_dashes-more.ensures.stopped c.in_default-after_byte.ensures c.in_default-after_byte-2.ensures

pub returns-in-Some-after_byte-3-clause-ends : goal.returns-in-Some-after_byte-3-clause-ends
returns-in-Some-after_byte-3-clause-ends c =
    to_end c.args.bytes.now c.in-Some.dashed.now c.skip_dashes-more.result.now c.in-Some.ensures c.skip_dashes-more.ensures.skipped
    ∙ ap (run End) c.in-Some-after_byte-2.ensures ∙ ap (run EndBang) c.in-Some-after_byte-3.ensures

pub returns-in-None-clause-ends : goal.returns-in-None-clause-ends
returns-in-None-clause-ends c =
    to_end c.args.bytes.now c.in-Some.dashed.now c.skip_dashes-more.result.now c.in-Some.ensures c.skip_dashes-more.ensures.skipped
    ∙ ap (run End) c.in-Some-after_byte-2.ensures ∙ no_bang_end c.in-Some-after_byte-2.banged.now c.in-None.ensures
