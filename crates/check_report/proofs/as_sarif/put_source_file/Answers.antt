use Rattle.check_report.proofs.Prelude.{ap, codes, [], ◌∷◌, ◌++◌, ◌∙◌}
use Rattle.json.specs.Token.{begin_object, end_object, key, string}
use Rattle.check_report.proofs.Adding.{then_ok}
use Rattle.check_report.proofs.as_sarif.put_source_file.Goals as goal

pub returns-clause-tokens : goal.returns-clause-tokens
returns-clause-tokens c =
    then_ok c.put_marks.result
    (λ is. is ∙ ap (λ t. c.args.out.now.tokens ++ begin_object ∷ key (codes "uri") ∷ string t ∷ key (codes "uriBaseId") ∷ string (codes "SOURCES") ∷ end_object ∷ []) (c.as_str.ensures.value ∙ c.in_ok-uri.ensures))
    c.put_marks.ensures.tokens
