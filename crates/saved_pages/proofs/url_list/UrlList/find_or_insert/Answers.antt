use Rattle.std.proofs.Common.{rules, ◌≡◌, ℕ, List, [], ◌∷◌, ◌++◌, length, map, Some, None}
use Rattle.hash_order.specs.HashOrder.{hash_of}
use Rattle.hash_index.specs.Lists.{index_of}
use Rattle.hash_index.proofs.Keeping.{pushed_item}
use Rattle.saved_pages.proofs.UrlIndices.{found_there, pushed_there, keep_pushed}
use Rattle.saved_pages.proofs.url_list.UrlList.find_or_insert.Goals as goal

pub returns-in-Some-clause-there : goal.returns-in-Some-clause-there
returns-in-Some-clause-there c =
    let urls = c.self.inside.urls.items in
    let found : Some c.in-Some.index ≡ index_of (map (λ (u : List ℕ). u) urls) c.args.url.now = search rules in
    found_there urls c.args.url.now c.in-Some.index c.short.result found c.short.ensures

pub invariant_of-self-in_err-push : goal.invariant_of-self-in_err-push
invariant_of-self-in_err-push c = rw c.in_err-push.ensures.items c.find_or_insert.ensures.before

pub invariant_of-self-2 : goal.invariant_of-self-2
invariant_of-self-2 c =
    let urls = c.self.inside.urls.items in
    let longer : c.push.new.self.items ≡ urls ++ c.args.url.now ∷ [] = search rules in
    let none : c.in_ok-found.found ≡ None = search rules in
    pushed_item (λ (url : List ℕ). url) hash_of c.find_or_insert.new.self urls c.push.new.self.items c.args.url.now longer (c.in_ok-found.ensures.pushed none)

pub returns-clause-there : goal.returns-clause-there
returns-clause-there c =
    let longer : c.push.new.self.items ≡ c.args.self.now ++ c.args.url.now ∷ [] = search rules in
    let last : c.len-last.result ≡ length c.args.self.now = search rules in
    pushed_there c.args.self.now c.push.new.self.items c.args.url.now c.len-last.result c.short-2.result longer last c.short-2.ensures

pub returns-clause-keep : goal.returns-clause-keep
returns-clause-keep c =
    let longer : c.push.new.self.items ≡ c.args.self.now ++ c.args.url.now ∷ [] = search rules in
    keep_pushed c.args.self.now c.push.new.self.items c.args.url.now longer
