use Rattle.hash_index.proofs.index.HashIndex.find_or_insert.Goals as goal

pub returns-clause-pushed : goal.returns-clause-pushed
returns-clause-pushed g c = rw c.text.ensures at c.find_text_or_insert.ensures.pushed
