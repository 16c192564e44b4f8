use Rattle.std.proofs.Common.{rules, ◌≡◌, ◌∙◌}
use Rattle.std.proofs.lemmas.Option.{IfSome_then}
use Rattle.saved_site.proofs.new_page.NewPage.with_anchors.Goals as goal

pub returns : goal.returns
returns c =
    let same : c.in_ok-own.own ≡ c.args.task.now.url = search rules in
    IfSome_then c.new-page.result c.new-page.ensures.page (λ page is. (is.0 ∙ same, is.1, is.2))
