use Rattle.check_report.proofs.Prelude.{List, codes, ℕ, [], ◌∷◌, ◌++◌, ◌∙◌, ◌≡◌}
use Rattle.json.specs.Print.{print}
use Rattle.json.specs.Token.{begin_object, end_object, key, string}
use Rattle.shown_text.specs.Shown.{shown}
use Rattle.check_report.specs.Hints.{base_hint_text}
use Rattle.check_report.proofs.as_sarif.with_notification.Goals as goal

pub returns : goal.returns
returns c =
    let text : c.as_str.result.now ≡ shown (base_hint_text c.args.hint.now) = c.as_str.ensures.value ∙ c.in_ok-text.ensures in
    let marks = λ (t : List ℕ). begin_object ∷ key (codes "level") ∷ string (codes "note") ∷ key (codes "message") ∷ begin_object ∷ key (codes "text") ∷ string t ∷ end_object ∷ end_object ∷ [] in
    let before = c.in_ok-put_marks.ensures.before ∙ c.new-writer.ensures.before in
    let tokens = c.in_ok-put_marks.ensures.tokens ∙ (λ i. c.new-writer.ensures.tokens i ++ marks (text i)) in
    c.into_inner.ensures.items ∙ (λ i. before i ++ print (tokens i))
