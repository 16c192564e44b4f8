use Rattle.std.proofs.Common.{rules, ◌≡◌, ◌*◌, ◌%◌, ℕ, List, [], ◌∷◌, ◌++◌, length, false, is_some}
use Rattle.hash_index.proofs.Listed.{none_there}
use Rattle.hash_index.proofs.Keeping.{pushed_item}
use Rattle.crawl_text_tests.proofs.tests.indices.IndexedTexts.add.Goals as goal

pub invariant_of-self-2 : goal.invariant_of-self-2
invariant_of-self-2 c =
    let items = c.self.inside.list.items in
    let longer : c.push.new.self.items ≡ items ++ c.args.word ∷ [] = search rules in
    let absent : is_some c.in_ok-found.found ≡ false = search rules in
    pushed_item (λ word. word) (λ (text : List ℕ). length text % 3 * 8589934593) c.find_or_insert.new.self items c.push.new.self.items c.args.word longer (c.in_ok-found.ensures.pushed (none_there c.in_ok-found.found absent))
