use Rattle.hash_index.proofs.Prelude.{rules, subst, sym, IsFirstVacant, IsInSlots}
use Rattle.hash_index.proofs.Taking.{index_put, index_stays}
use Rattle.hash_index.proofs.slots.Slots.put_at.Goals as goal

pub returns-then-slot-len-clause-own : goal.returns-then-slot-len-clause-own
returns-then-slot-len-clause-own c =
    let first : IsFirstVacant c.self.inside.numbers.items c.args.hash c.args.slot = search rules in
    index_put c.self.inside.numbers.items c.args.slot c.word_of-word.result (search rules) (search rules) c.args.hash c.args.index first (search rules)

pub returns-then-slot-len-clause-others : goal.returns-then-slot-len-clause-others
returns-then-slot-len-clause-others c = λ other k held.
    index_stays c.self.inside.numbers.items c.args.slot c.word_of-word.result (search rules) (search rules) other k
    (subst (λ slots. IsInSlots slots other k) (sym c.self.view_is) held)
