use Rattle.saved_site.proofs.Prelude.{rules, ◌≡◌, [], ◌∷◌, ◌++◌, None, hash_of, pushed_item, LinkedPage}
use Rattle.saved_site.proofs.linked.page_list.PageList.with_page.Goals as goal

pub returns-clause-pages : goal.returns-clause-pages
returns-clause-pages c =
    let list = c.args.self.list.items in
    let longer : c.push.new.self.items ≡ list ++ c.args.page ∷ [] = search rules in
    let none : c.in_ok-found.found ≡ None = search rules in
    pushed_item (λ (page : LinkedPage). page.url) hash_of c.find_or_insert.new.self list c.push.new.self.items c.args.page longer (c.in_ok-found.ensures.pushed none)
