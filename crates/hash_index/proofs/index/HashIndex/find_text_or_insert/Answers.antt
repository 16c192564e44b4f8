use Rattle.hash_index.proofs.Prelude.{◌≡◌, ℕ, false, None, inl, sym, subst, length, IfOk, index_of, has_text_at, AreTaken, IsInSlots, Misses, IsInOverflow, IsKept, IsIndexOf, with_slots, HashIndex}
use Rattle.hash_index.proofs.Listed.{there_first}
use Rattle.hash_index.proofs.Keeping.{stays, misses_vacant, none_found, index_stays, index_pushed, found_beside, pushed_beside}
use Rattle.hash_index.proofs.index.HashIndex.find_text_or_insert.Goals as goal

pub returns-in-Found-clause-found : goal.returns-in-Found-clause-found
returns-in-Found-clause-found g c =
    sym (there_first (g.L.TextList.texts c.args.list.now) c.args.text.now c.in-Found.index c.requires.index.0 (c.search.ensures.found c.in-Found.index c.in-Found.is))

module _ (g : _) (c : goal.After-put_at g) where
  none : index_of (g.L.TextList.texts c.args.list.now) c.args.text.now ≡ None
  none =
      let texts = g.L.TextList.texts c.args.list.now in
      let told = c.search.ensures.vacant c.in-Vacant.slot c.in-Vacant.is in
      none_found g.L.TextList.hash texts c.args.self.now c.args.text.now c.requires.index
      (λ k kept. misses_vacant (λ i. has_text_at texts i c.args.text.now) c.args.self.now c.args.hash c.args.text.now c.in-Vacant.slot told.0 told.1 k
      (subst (λ h. IsKept c.args.self.now h c.args.text.now k) (sym c.requires.hash) kept))

  still : IsIndexOf g.L.TextList.hash (g.L.TextList.texts c.args.list.now) (with_slots c.args.self.now c.put_at.new.self)
  still =
      let hash = g.L.TextList.hash in
      let new = with_slots c.args.self.now c.put_at.new.self in
      index_stays hash (g.L.TextList.texts c.args.list.now) c.args.self.now c.args.text.now c.requires.index new
      (λ text k kept is_there. stays c.args.self.now new (hash text) text k (c.put_at.ensures.others (hash text) k) (c.put_at.ensures.taken (hash text)) (λ at. at) kept)

pub returns-in-Vacant-clause-found : goal.returns-in-Vacant-clause-found
returns-in-Vacant-clause-found g c = sym (none g c)

pub returns-in-Vacant-clause-pushed : goal.returns-in-Vacant-clause-pushed
returns-in-Vacant-clause-pushed g c = λ _.
    let texts = g.L.TextList.texts c.args.list.now in
    let counted : IsInSlots c.put_at.new.self c.args.hash (length texts) = subst (λ n. IsInSlots c.put_at.new.self c.args.hash n) c.text_count.ensures c.put_at.ensures.own in
    index_pushed g.L.TextList.hash texts (with_slots c.args.self.now c.put_at.new.self) c.args.text.now (still g c) (none g c)
    (inl (subst (λ h. IsInSlots c.put_at.new.self h (length texts)) c.requires.hash counted))

module _ (g : _) (c : goal.After-find_or_insert g) where
  misses : Misses (λ i. has_text_at (g.L.TextList.texts c.args.list.now) i c.args.text.now) c.args.self.now.slots (g.L.TextList.hash c.args.text.now)
  misses = subst (λ h. Misses (λ i. has_text_at (g.L.TextList.texts c.args.list.now) i c.args.text.now) c.args.self.now.slots h) c.requires.hash (c.search.ensures.full c.in-Full.is).1

  abbrev full : HashIndex
  full = record { slots = c.args.self.now.slots; overflow = c.find_or_insert.new.self }

  found : IfOk c.find_or_insert.result (λ o. o ≡ index_of (g.L.TextList.texts c.args.list.now) c.args.text.now)
  found =
      let texts = g.L.TextList.texts c.args.list.now in
      found_beside g.L.TextList.hash texts c.args.self.now full c.args.text.now c.requires.index misses c.find_or_insert.result c.find_or_insert.ensures.found
      (subst (λ h. IfOk c.find_or_insert.result (λ o. o ≡ None → (k : ℕ) → IsInOverflow c.args.self.now.overflow h c.args.text.now k → has_text_at texts k c.args.text.now ≡ false)) c.requires.hash c.find_or_insert.ensures.missing)

  still_full : IsIndexOf g.L.TextList.hash (g.L.TextList.texts c.args.list.now) full
  still_full =
      let hash = g.L.TextList.hash in
      index_stays hash (g.L.TextList.texts c.args.list.now) c.args.self.now c.args.text.now c.requires.index full
      (λ text k kept is_there. stays c.args.self.now full (hash text) text k (λ held. held) (λ taken. taken) (λ at. c.find_or_insert.ensures.stay text (hash text) k at is_there) kept)

pub returns-in-Full-clause-found : goal.returns-in-Full-clause-found
returns-in-Full-clause-found g c = found g c

pub returns-in-Full-clause-pushed : goal.returns-in-Full-clause-pushed
returns-in-Full-clause-pushed g c =
    let texts = g.L.TextList.texts c.args.list.now in
    pushed_beside g.L.TextList.hash texts c.args.self.now (full g c) c.args.text.now c.requires.index (misses g c) c.find_or_insert.result (still_full g c)
    (subst (λ h. AreTaken c.args.self.now.slots h 8) c.requires.hash (c.search.ensures.full c.in-Full.is).0) (found g c)
    (subst (λ h. IfOk c.find_or_insert.result (λ o. o ≡ None → IsInOverflow c.find_or_insert.new.self h c.args.text.now (length texts))) c.requires.hash c.find_or_insert.ensures.own)
