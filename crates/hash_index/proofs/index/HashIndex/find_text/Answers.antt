use Rattle.hash_index.proofs.Prelude.{sym, subst, has_text_at, IsKept}
use Rattle.hash_index.proofs.Listed.{there_first}
use Rattle.hash_index.proofs.Keeping.{misses_vacant, misses_full, none_found, answers}
use Rattle.hash_index.proofs.index.HashIndex.find_text.Goals as goal

pub returns-in-Found : goal.returns-in-Found
returns-in-Found g c = sym (there_first (g.L.TextList.texts c.args.list.now) c.args.text.now c.in-Found.index c.requires.index.0 (c.search.ensures.found c.in-Found.index c.in-Found.is))

pub returns-in-Vacant : goal.returns-in-Vacant
returns-in-Vacant g c =
    let texts = g.L.TextList.texts c.args.list.now in
    let told = c.search.ensures.vacant c.in-Vacant.field-0 c.in-Vacant.is in
    sym (none_found g.L.TextList.hash texts c.args.self.now c.args.text.now c.requires.index
    (λ k kept. misses_vacant (λ i. has_text_at texts i c.args.text.now) c.args.self.now c.args.hash c.args.text.now c.in-Vacant.field-0 told.0 told.1 k
    (subst (λ h. IsKept c.args.self.now h c.args.text.now k) (sym c.requires.hash) kept)))

pub returns-in-Full : goal.returns-in-Full
returns-in-Full g c =
    let texts = g.L.TextList.texts c.args.list.now in
    let told = c.search.ensures.full c.in-Full.is in
    answers g.L.TextList.hash texts c.args.self.now c.args.text.now c.requires.index c.find.result c.find.ensures.found
    (λ none k kept. misses_full (λ i. has_text_at texts i c.args.text.now) c.args.self.now c.args.hash c.args.text.now told.1 (c.find.ensures.missing none) k
    (subst (λ h. IsKept c.args.self.now h c.args.text.now k) (sym c.requires.hash) kept))
