use Rattle.std.proofs.Common.{◌≡◌, ◌-◌, bit_xor, ap, ◌∙◌, arith}
use Rattle.hash_index.specs.Slots as spec
use Rattle.hash_index.proofs.Taking.{mixed_twice}
use Rattle.hash_index.proofs.slots.index_in.Goals as goal

pub returns : goal.returns
returns c = λ index is.
    let mark = spec.mark_of c.args.hash in
    let less : c.args.word - 1 ≡ bit_xor mark index = omega (arith, is) in
    ap (λ m. bit_xor m (c.args.word - 1)) c.mark_of.ensures.value ∙ ap (bit_xor mark) less ∙ mixed_twice mark index
