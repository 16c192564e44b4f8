use Rattle.hash_index.proofs.Prelude.{rules, ◌<◌, ◌≤◌, length, subst, take_all, AreKept, with_slots}
use Rattle.hash_index.proofs.Keeping.{keeps_each, keeps_taken}
use Rattle.hash_index.proofs.index.HashIndex.grow.Goals as goal

pub returns-in_err-put_anew : goal.returns-in_err-put_anew
returns-in_err-put_anew g c =
    let texts = g.L.TextList.texts c.args.list.now in
    let below : c.loop-index.index < length texts = search rules in (
      c.requires.index.0,
      keeps_each g.L.TextList.hash texts c.loop-index.index c.text_at.result.now c.hash_at.result below c.text_at.ensures c.hash_at.ensures c.requires.index.0
          c.loop-index.self c.put_anew.new.self c.put_anew.ensures.others_before c.put_anew.ensures.own_before c.loop-index.invariant.0,
    )

pub loop-index-preserved : goal.loop-index-preserved
loop-index-preserved g c =
    let texts = g.L.TextList.texts c.args.list.now in
    let below : c.loop-index.index < length texts = search rules in (
      keeps_each g.L.TextList.hash texts c.loop-index.index c.text_at.result.now c.hash_at.result below c.text_at.ensures c.hash_at.ensures c.requires.index.0
          c.loop-index.self c.put_anew.new.self c.put_anew.ensures.others_before c.put_anew.ensures.own_before c.loop-index.invariant.0,
      keeps_taken g.L.TextList.hash texts c.loop-index.index c.text_at.result.now c.hash_at.result below c.text_at.ensures c.hash_at.ensures c.requires.index.0
          c.loop-index.self (with_slots c.loop-index.self c.loop-index.slots) (with_slots c.put_anew.new.self c.put_anew.new.slots) c.loop-index.invariant.0
          c.put_anew.ensures.others c.in_ok-put_anew.ensures.own c.loop-index.invariant.1,
    )

pub returns : goal.returns
returns g c =
    let texts = g.L.TextList.texts c.args.list.now in
    let past : length texts ≤ c.loop-index.index = search rules in (
      c.requires.index.0,
      subst (λ xs. AreKept g.L.TextList.hash xs (with_slots c.loop-index.self c.loop-index.slots)) (take_all c.loop-index.index texts past) c.loop-index.invariant.1,
    )
