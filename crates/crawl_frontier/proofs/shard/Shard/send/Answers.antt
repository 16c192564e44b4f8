use Rattle.crawl_frontier.proofs.Prelude.{rules, ◌≡◌, ℕ, ◌+◌, ◌<◌, ◌∙◌, ◌++◌, ◌∷◌, [], List, length, length-append, map, slice_get, false, Some, None, cond, eqb, ap, refl, sym, subst, arith, is_some, slice_get_read, index_of, Entry, ShardId, shard, MayFollow, KeepsRule, has_url, count_of, entry, rule-snoc, count_of-le}
use Rattle.hash_order.specs.HashOrder.{hash_of}
use Rattle.hash_index.specs.Index.{IsIndexOf}
use Rattle.hash_index.specs.declared.index.HashIndex.{HashIndex}
use Rattle.hash_index.proofs.Keeping.{pushed_item}
use Rattle.crawl_queues.specs.declared.rule.PassView.{PassView}
use Rattle.crawl_frontier.specs.Tables.{count_in}
use Rattle.crawl_frontier.proofs.Urls.{has_index, index_within, url_there}
use Rattle.crawl_frontier.proofs.Undo.{raised}
use Rattle.crawl_frontier.proofs.Admitting.{answered}
use Rattle.crawl_frontier.proofs.shard.Shard.send.Goals as goal

-- what is true of a shard's list is still true after room was made
with_room : (workers queue : ℕ) (index : HashIndex) (old new : List Entry) (counted : ℕ → ℕ)
    → new ≡ old → KeepsRule workers queue [] old → IsIndexOf hash_of (map (λ e. e.url) old) index → ((id : ℕ) → counted id ≡ count_of id old) → length old < 4294967296
    → KeepsRule workers queue [] new × IsIndexOf hash_of (map (λ e. e.url) new) index × ((id : ℕ) → counted id ≡ count_of id new) × (length new < 4294967296)
with_room workers queue index old new counted same rule is counts few =
    subst (λ (es : List Entry). KeepsRule workers queue [] es × IsIndexOf hash_of (map (λ e. e.url) es) index × ((id : ℕ) → counted id ≡ count_of id es) × (length es < 4294967296)) (sym same) (rule, is, counts, few)

pub overflow_add-own : goal.overflow_add-own
overflow_add-own g c = grind (arith, count_of-le)

pub index-requires : goal.index-requires
index-requires g c =
    let es = c.self.inside.sent.items in
    let is : index_of (map (λ e. e.url) es) c.args.offered.now.url.now ≡ Some c.in-Some.index = search rules in
    omega (arith, index_within es c.args.offered.now.url.now c.in-Some.index is, c.self.inside.sent.ok.0)

pub overflow_cast-index : goal.overflow_cast-index
overflow_cast-index g c =
    let es = c.self.inside.sent.items in
    let is : index_of (map (λ e. e.url) es) c.args.offered.now.url.now ≡ Some c.in-Some.index = search rules in
    omega (arith, index_within es c.args.offered.now.url.now c.in-Some.index is, c.self.invariant.5)

pub returns-in-Some : goal.returns-in-Some
returns-in-Some g c =
    let es = c.self.inside.sent.items in
    let url = c.args.offered.now.url.now in
    let k = c.in-Some.index in
    let there = c.index.result.now in
    let is : index_of (map (λ e. e.url) es) url ≡ Some k = search rules in
    let here : slice_get es k ≡ Some there = slice_get_read es (length es) k there refl (index_within es url k is) c.index.ensures in
    let same : there.url ≡ url = url_there es url k there is here in
    answered c.args.self.now (shard c.self.inside.queue es) url c.args.offered.now.id c.args.offered.now.own c.args.offered.now.hops c.args.unit there k c.seen.result c.requires.own c.self.view_is
    (subst (λ (s : ShardId). slice_get s.sent k ≡ Some there) c.self.view_is here) same c.seen.ensures

pub push-requires-clause-follows : goal.push-requires-clause-follows
push-requires-clause-follows g c =
    let before = c.self.inside.sent.items in
    let url = c.args.offered.now.url.now in
    let e : Entry = entry url c.args.offered.now.id c.args.offered.now.own c.args.offered.now.hops in
    let sent : c.in-Ok-copies.sent ≡ e = search rules in
    let own : count_of c.args.offered.now.id before ≡ c.args.offered.now.own = search rules in
    let none : c.in-Ok.found ≡ None = search rules in
    let new : has_url url before ≡ false = sym (has_index before url) ∙ ap is_some (sym c.in-Ok.ensures.found ∙ none) in
    let may : MayFollow g.K.Name.workers c.self.inside.queue before e = record { new = new; here = search rules; number = sym own } in
    subst (λ (v : PassView). MayFollow v.home.workers v.home.queue v.sent c.in-Ok-copies.sent) (sym c.self.invariant.0)
    (subst (MayFollow g.K.Name.workers c.self.inside.queue before) (sym sent) may)

pub invariant_of-self-in_default-make_room : goal.invariant_of-self-in_default-make_room
invariant_of-self-in_default-make_room g c =
    let counted = λ (id : ℕ). c.make_room.ensures.counts id ∙ c.self.invariant.4 id in
    let kept = with_room _ _ c.find_or_insert.new.self _ _ (count_in c.make_room.new.counts) c.make_room.ensures.sent c.self.invariant.2 c.find_or_insert.ensures.before counted c.self.invariant.5 in
    (search (rules, c.self.invariant.0), c.self.invariant.1, kept.0, kept.1, kept.2, kept.3)

pub invariant_of-self-in_default-copies : goal.invariant_of-self-in_default-copies
invariant_of-self-in_default-copies g c =
    let counted = λ (id : ℕ). c.make_room.ensures.counts id ∙ c.self.invariant.4 id in
    let kept = with_room _ _ c.find_or_insert.new.self _ _ (count_in c.make_room.new.counts) c.make_room.ensures.sent c.self.invariant.2 c.find_or_insert.ensures.before counted c.self.invariant.5 in
    (search (rules, c.self.invariant.0), c.self.invariant.1, kept.0, kept.1, kept.2, kept.3)

pub invariant_of-self-in-Err-push : goal.invariant_of-self-in-Err-push
invariant_of-self-in-Err-push g c =
    let counted = λ (id : ℕ). c.make_room.ensures.counts id ∙ c.self.invariant.4 id in
    let kept = with_room _ _ c.find_or_insert.new.self _ _ (count_in c.make_room.new.counts) c.make_room.ensures.sent c.self.invariant.2 c.find_or_insert.ensures.before counted c.self.invariant.5 in
    (search (rules, c.self.invariant.0), search rules, kept.0, kept.1, kept.2, kept.3)

pub invariant_of-self-in-Ok-push : goal.invariant_of-self-in-Ok-push
invariant_of-self-in-Ok-push g c =
    let before = c.self.inside.sent.items in
    let url = c.args.offered.now.url.now in
    let e : Entry = entry url c.args.offered.now.id c.args.offered.now.own c.args.offered.now.hops in
    let items : c.make_room.new.sent.items ≡ before = c.make_room.ensures.sent in
    let listed : c.in-Ok-copies.listed ≡ e = search rules in
    let all : c.push_reserved.new.self.items ≡ before ++ e ∷ [] = c.push_reserved.ensures.items ∙ (λ i. items i ++ listed i ∷ []) in
    let own : count_of c.args.offered.now.id before ≡ c.args.offered.now.own = search rules in
    let none : c.in-Ok.found ≡ None = search rules in
    let new : has_url url before ≡ false = sym (has_index before url) ∙ ap is_some (sym c.in-Ok.ensures.found ∙ none) in
    let known : IsIndexOf hash_of (map (λ e. e.url) before ++ url ∷ []) c.find_or_insert.new.self = c.in-Ok.ensures.pushed none in
    let pushed = c.in-Ok-push.ensures.sent in
    let may : MayFollow g.K.Name.workers c.self.inside.queue before e = record { new = new; here = search rules; number = sym own } in (
      search (rules, c.self.invariant.0),
      search rules,
      subst (KeepsRule g.K.Name.workers c.self.inside.queue []) (sym all) (rule-snoc g.K.Name.workers c.self.inside.queue [] before e c.self.invariant.2 may),
      pushed_item (λ e. e.url) hash_of c.find_or_insert.new.self before c.push_reserved.new.self.items e all known,
      λ id.
          c.raise.ensures id
          ∙ (ap (λ n. cond (eqb c.args.offered.now.id id) (c.args.offered.now.own + 1) n) (c.make_room.ensures.counts id ∙ c.self.invariant.4 id)
          ∙ (raised id before e own ∙ ap (count_of id) (sym all))),
      omega (arith, ap length all, length-append before (e ∷ []), c.in-Some-make_room.ensures.index.0, c.in-Some-make_room.ensures.index.1),
    )

pub returns-in-Ok-push : goal.returns-in-Ok-push
returns-in-Ok-push g c =
    let v = c.self.inside.sent in
    let url = c.args.offered.now.url.now in
    let is : count_of c.args.offered.now.id v.items ≡ c.args.offered.now.own = search rules in
    let small : c.args.offered.now.own < 9223372036854775808 = omega (arith, is, count_of-le c.args.offered.now.id v.items, v.ok.0, v.ok.1, v.small) in
    let none : c.in-Ok.found ≡ None = search rules in
    let new : has_url url v.items ≡ false = sym (has_index v.items url) ∙ ap is_some (sym c.in-Ok.ensures.found ∙ none) in (
      search rules,
      small,
      search rules,
      subst (λ (es : List Entry). has_url url es ≡ false) (ap (λ (s : ShardId). s.sent) c.self.view_is) new,
      search rules,
      search rules,
      c.in-Some-make_room.ensures.index.0 ∙ ap (λ (s : ShardId). length s.sent) c.self.view_is,
    )
