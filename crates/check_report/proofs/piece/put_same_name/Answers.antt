use Rattle.check_report.proofs.Prelude.{◌≡◌, ◌++◌, OnOk, ap, codes, option_map, string_bytes, subst, sym, ◌∙◌, same_name_text}
use Rattle.check_report.specs.Names.{page_in}
use Rattle.check_report.proofs.Adding.{joined, last_joined}
use Rattle.check_report.proofs.piece.put_same_name.Goals as goal

pub returns-in_ok-put_page_name-in-Some : goal.returns-in_ok-put_page_name-in-Some
returns-in_ok-put_page_name-in-Some c =
    let how = c.args.how in
    let old = c.args.out.now.items in
    let word = codes " (did you mean " in
    let page = string_bytes c.in-Some.page in
    let name = c.in_ok-put_page_name-in-Some.ensures ∙ ap (λ t. c.put.new.out.items ++ page_in how t) c.as_str.ensures.value in
    let start = joined old c.put.new.out.items c.put_page_name.new.out.items word (page_in how page) c.in_ok-put-in-Some.ensures name in
    subst (λ p. OnOk c.put-in-Some.result (c.put-in-Some.new.out.items ≡ old ++ same_name_text how (option_map string_bytes p))) (sym c.in-Some.is)
    (last_joined c.put-in-Some.result old c.put_page_name.new.out.items c.put-in-Some.new.out.items (word ++ page_in how page) (codes "?)") start c.put-in-Some.ensures)
