use Rattle.check_report.proofs.Prelude.{ap, append_assoc, codes, string_bytes, sym, [], ◌∷◌, ◌++◌, ◌∙◌}
use Rattle.std.specs.Prelude.{decimal}
use Rattle.json.specs.Token.{begin_array, begin_object, end_array, end_object, key, number}
use Rattle.json.specs.Tree.{json_tokens}
use Rattle.check_report.specs.Sarif.{artifact}
use Rattle.check_report.proofs.Adding.{joined, last_joined, then_ok}
use Rattle.check_report.proofs.as_sarif.put_result_end.Goals as goal

pub returns-clause-tokens : goal.returns-clause-tokens
returns-clause-tokens c =
    let old = c.args.out.now.tokens in
    let place = c.args.place.now in
    let begun = c.put_marks.new.out.tokens in
    let named = c.put_artifact.new.out.tokens in
    let start = key (codes "locations") ∷ begin_array ∷ begin_object ∷ key (codes "physicalLocation") ∷ begin_object ∷ key (codes "artifactLocation") ∷ [] in
    let file = json_tokens (artifact c.args.contents (string_bytes place.file)) in
    let region =
    key (codes "region") ∷ begin_object ∷ key (codes "startLine") ∷ number (decimal place.line) ∷ key (codes "startColumn") ∷ number (decimal place.column) ∷ end_object ∷ end_object ∷ [] in
    let last = end_object ∷ [] in
    let array = end_array ∷ [] in
    let first = joined old begun named start file c.in_ok-put_marks.ensures.tokens (c.in_ok-put_artifact.ensures.tokens ∙ ap (λ name. begun ++ json_tokens (artifact c.args.contents name)) c.as_str.ensures.value) in
    let grouped = append_assoc ((file ++ region) ++ last) array last ∙ append_assoc (file ++ region) last (array ++ last) ∙ append_assoc file region (last ++ (array ++ last)) in
    then_ok c.put_marks-2.result (λ is. is ∙ ap (λ ts. old ++ (start ++ ts)) (sym grouped))
    (last_joined c.put_marks-2.result old named c.put_marks-2.new.out.tokens (start ++ file) (region ++ (last ++ (array ++ last))) first c.put_marks-2.ensures.tokens)
