use Rattle.saved_site.proofs.Prelude.{rules, ◌≡◌, ℕ, List, ◌++◌, ap, ◌∙◌, page_text}
use Rattle.saved_site.proofs.WebTexts.{text_of}
use Rattle.saved_site.proofs.web_text.PageText.new.Goals as goal

pub invariant_of-result : goal.invariant_of-result
invariant_of-result c =
    let page = c.args.page.now in
    let there : c.in_ok-url.url ≡ page.url = search rules in
    let is : c.print.new.web.items ≡ page_text page = c.in_ok-print.ensures.text ∙ ap (λ (b : List ℕ). b ++ page_text page) c.in_ok-text.ensures.items in
    text_of page c.in_ok-url.url c.print.new.web.items there is c.in_ok-print.ensures.page
