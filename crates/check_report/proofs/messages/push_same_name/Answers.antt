use Rattle.check_report.proofs.Prelude.{OnOk, ap, codes, option_map, string_bytes, subst, sym, ◌++◌, ◌≡◌, ◌∙◌}
use Rattle.check_report.specs.Messages.{bracketed, same_name_part}
use Rattle.check_report.specs.Names.{page_name}
use Rattle.check_report.proofs.messages.push_same_name.Goals as goal

pub returns-in_ok-push_str-in-Some : goal.returns-in_ok-push_str-in-Some
returns-in_ok-push_str-in-Some c =
    let old = string_bytes c.args.text.now in
    let name : c.as_str-in-Some.result.now ≡ page_name (string_bytes c.in-Some.page) ++ codes "?" =
    c.as_str-in-Some.ensures.value ∙ c.in_ok-push_str-in-Some.ensures.bytes ∙ ap (λ n. n ++ codes "?") (c.in_ok-name-in-Some.ensures ∙ ap page_name c.as_str.ensures.value) in
    subst (λ p. OnOk c.push_around.result (string_bytes c.push_around.new.text ≡ old ++ same_name_part (option_map string_bytes p))) (sym c.in-Some.is)
    (subst (λ n. OnOk c.push_around.result (string_bytes c.push_around.new.text ≡ old ++ bracketed (codes " (did you mean ") n)) name c.push_around.ensures)
