use Rattle.saved_site.proofs.Prelude.{rules, ◌≡◌, [], ◌∷◌, ◌++◌, None, hash_of, pushed_item, TextIndex}
use Rattle.saved_site.proofs.LinkIndices.{known_push}
use Rattle.saved_site.proofs.linked.known_texts.KnownTexts.add.Goals as goal

pub invariant_of-self-2 : goal.invariant_of-self-2
invariant_of-self-2 c =
    let texts = c.self.inside.texts.items in
    let one : TextIndex = (c.args.key.now, c.args.index) in
    let longer : c.push.new.self.items ≡ texts ++ one ∷ [] = search rules in
    let none : c.in_ok-found.found ≡ None = search rules in
    pushed_item (λ (known : TextIndex). known.0) hash_of c.find_or_insert.new.self texts c.push.new.self.items one longer (c.in_ok-found.ensures.pushed none)

pub returns-clause-known : goal.returns-clause-known
returns-clause-known c =
    let one : TextIndex = (c.args.key.now, c.args.index) in
    let longer : c.push.new.self.items ≡ c.args.self.now ++ one ∷ [] = search rules in
    λ base urls are own. known_push base urls c.args.self.now c.push.new.self.items c.args.key.now c.args.index longer are own
