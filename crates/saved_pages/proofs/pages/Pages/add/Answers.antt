use Rattle.std.proofs.Common.{rules, ◌≡◌, false, [], ◌∷◌, ◌++◌, is_some}
use Rattle.hash_order.specs.HashOrder.{hash_of}
use Rattle.hash_index.proofs.Listed.{none_there}
use Rattle.hash_index.proofs.Keeping.{pushed_item}
use Rattle.saved_pages.specs.PageLists.{PageRead}
use Rattle.saved_pages.proofs.pages.Pages.add.Goals as goal

pub invariant_of-self-2 : goal.invariant_of-self-2
invariant_of-self-2 c =
    let pages = c.self.inside.list.items in
    let longer : c.push.new.self.items ≡ pages ++ c.args.page ∷ [] = search rules in
    let absent : is_some c.in_ok-found.found ≡ false = search rules in
    pushed_item (λ (one : PageRead). one.url) hash_of c.find_or_insert.new.self pages c.push.new.self.items c.args.page longer (c.in_ok-found.ensures.pushed (none_there c.in_ok-found.found absent))

pub invariant_of-self-in_err-push : goal.invariant_of-self-in_err-push
invariant_of-self-in_err-push c = rw c.in_err-push.ensures.items c.find_or_insert.ensures.before
