use Rattle.crawl_core.proofs.Prelude.{rules, ◌≡◌, ℕ, ◌+◌, ◌≤◌, List, [], ◌∷◌, ◌++◌, None, length, map, sym, subst, length_push, map-id, has_index, number_at, arith}
use Rattle.hash_order.specs.HashOrder.{hash_of}
use Rattle.hash_index.specs.Index.{IsIndexOf}
use Rattle.hash_index.proofs.Keeping.{pushed_item}
use Rattle.crawl_core.proofs.SenderCounts.{few_after}
use Rattle.crawl_core.proofs.url_queue.UrlQueue.accept.Goals as goal

pub invariant_of-self-2 : goal.invariant_of-self-2
invariant_of-self-2 c =
    let before = c.self.inside.seen.items in
    let seen = c.reserve-2.new.self.items in
    let url = c.args.url.now in
    let number = c.unwrap_or-number.result in
    let same : seen ≡ before = search rules in
    let items : c.push_reserved.new.self.items ≡ before ++ url ∷ [] = search rules in
    let is : number ≡ number_at c.self.inside.numbers.entries c.args.sender = search rules in
    let few : (s : ℕ) → number_at c.insert.new.self.entries s ≤ length before + 1 =
    few_after c.self.inside.numbers c.insert.new.self c.args.sender number (length before) c.in_ok-insert.ensures.updates is c.self.invariant.0 in
    let none : c.in_ok-found.found ≡ None = search rules in
    let known : IsIndexOf hash_of (map (λ (text : List ℕ). text) before ++ url ∷ []) c.find_or_insert.new.self =
    subst (λ xs. IsIndexOf hash_of (map (λ (text : List ℕ). text) xs ++ url ∷ []) c.find_or_insert.new.self) same (c.in_ok-found.ensures.pushed none) in (
      subst (λ xs. (s : ℕ) → number_at c.insert.new.self.entries s ≤ length xs) (sym items) (subst (λ n. (s : ℕ) → number_at c.insert.new.self.entries s ≤ n) (sym (length_push before url)) few),
      pushed_item (λ text. text) hash_of c.find_or_insert.new.self before c.push_reserved.new.self.items url items known,
    )

pub returns-then-is_some-clause-seen : goal.returns-then-is_some-clause-seen
returns-then-is_some-clause-seen c = grind (arith, map-id, has_index)

pub returns-clause-fresh : goal.returns-clause-fresh
returns-clause-fresh c = grind (arith, map-id, has_index)
