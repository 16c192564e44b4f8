use Rattle.check_report.proofs.Prelude.{Global, String, ap, string_bytes, ◌++◌, ◌∙◌}
use Rattle.check_report.specs.Junit.{unlisted_case}
use Rattle.check_report.proofs.Adding.{flat_more}
use Rattle.check_report.proofs.as_junit.put_unlisted_cases.Goals as goal

pub loop-document-preserved : goal.loop-document-preserved
loop-document-preserved c =
    flat_more (λ (t : String Global). unlisted_case (string_bytes t)) c.args.out.now.items c.loop-document.out.items c.put_unlisted_case.new.out.items c.args.unlisted.now c.loop-document.document-index
    c.document-item.result c.loop-document-test.true c.document-item.is c.loop-document.invariant
    (c.in_ok-put_unlisted_case.ensures ∙ ap (λ text. c.loop-document.out.items ++ unlisted_case text) c.as_str.ensures.value)
