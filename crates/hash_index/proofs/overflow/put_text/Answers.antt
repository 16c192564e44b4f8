use Rattle.hash_index.proofs.Prelude.{◌≡◌, Some, ◌∙◌, false, string_bytes, cond-false, bytes_eq}
use Rattle.std.proofs.lemmas.Map.Text.{btree_map_updates_text}
use Rattle.hash_index.proofs.overflow.put_text.Goals as goal

pub returns-clause-others : goal.returns-clause-others
returns-clause-others c = λ other k differs at.
    let text = string_bytes c.in_ok-key.key in
    let apart : bytes_eq text other ≡ false = rw c.in_ok-key.ensures.ok differs in
    btree_map_updates_text text c.args.by_text.now c.insert.new.self (Some c.args.index) c.in_ok-insert.ensures.updates other
    ∙ cond-false _ _ _ apart ∙ at
