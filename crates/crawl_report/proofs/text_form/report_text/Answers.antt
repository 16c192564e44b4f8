use Rattle.crawl_report.proofs.Prelude.{[], ◌∷◌, ◌++◌, ap, ◌∙◌, results_by_url, Line, result_lines, total_of, pointed}
use Rattle.crawl_report.proofs.Adding.{adds_both, adds_same}
use Rattle.crawl_report.proofs.Format.{report_lines}
use Rattle.crawl_report.proofs.Printed.{printed_in_one_chunk}
use Rattle.crawl_report.proofs.text_form.report_text.Goals as goal

pub returns : goal.returns
returns c =
    let results = c.args.results.now in
    let empty = c.new.result in
    let lines = c.in_ok-lines.lines in
    let text = c.in_ok-text.text in
    let each = adds_same empty lines _ _ (ap result_lines (ap pointed c.deref.ensures.value ∙ c.in_ok-ordered.ensures)) c.in_ok-lines.ensures in
    let total = adds_same lines text _ _ (ap (λ (l : Line). l ∷ []) c.total_of.ensures) c.in_ok-text.ensures in
    c.into_bytes.ensures
    ∙ printed_in_one_chunk _ (result_lines (results_by_url results) ++ total_of results ∷ []) empty text c.new.ensures.empty c.new.ensures.json
    (adds_both empty lines text (result_lines (results_by_url results)) (total_of results ∷ []) each total)
    ∙ report_lines results
