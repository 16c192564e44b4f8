use Rattle.saved_web.proofs.Prelude.{rules, ◌≡◌, [], ◌++◌, lines, link_texts}
use Rattle.saved_web.proofs.LongPages.{whole_page}
use Rattle.saved_web.proofs.long.long_page.Goals as goal

pub returns-in-None : goal.returns-in-None
returns-in-None g c =
    let all = lines c.args.following.now in
    let own = lines c.cut_before_page.result.0.now in
    let after = lines c.cut_before_page.result.1.now in
    let split : all ≡ own ++ after = search rules in
    let none : link_texts after ≡ [] = search rules in
    whole_page c.args.url.now all own after c.linked_page.result split none c.in-None.ensures c.linked_page.ensures
