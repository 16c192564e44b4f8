-- The workers and senders of a run, taken apart one by one.
use Rattle.crawl_frontier.proofs.Prelude.{◌≡◌, ◌⊎◌, ℕ, ◌<◌, List, [], ◌∷◌, ◌++◌, length, Some, sym, ◌∙◌, subst, inl, inr, ⊎_elim, arith, length-append, cases_lt, BookId, IsBook, WorkerId, SenderId, At, HasBook, Gathered}
use Rattle.crawl_frontier.proofs.Gets.{get_snoc, get_before, get_last, get_within}

pub gather-none : (workers : ℕ) (closed : List WorkerId) (senders : List SenderId) → Gathered workers closed senders closed senders []
gather-none workers closed senders = grind (arith, get_within)

more : (books : List BookId) (b c : BookId) → HasBook books b → HasBook (books ++ c ∷ []) b
more books b c h = (h.0, get_before books c b h.0 h.1)

module _ (workers : ℕ) (closed : List WorkerId) (senders : List SenderId) where
  pub gather-worker : (left : List WorkerId) (w : WorkerId) (lefts : List SenderId) (books : List BookId) → Gathered workers closed senders (left ++ w ∷ []) lefts books → IsBook workers w.book → Gathered workers closed senders left lefts (books ++ w.book ∷ [])
  gather-worker left w lefts books g is = record {
    begin = λ k x at. g.begin k x (get_before left w x k at);
    begins = g.begins;
    closed_in = λ k v at. ⊎_elim (λ lt. next k v at lt) (λ h. inr (more books v.book w.book h)) (g.closed_in k v at);
    senders_in = λ k s at. ⊎_elim inl (λ h. inr (more books s.book w.book h)) (g.senders_in k s at);
    parts = λ j b at. ⊎_elim (g.parts j b) (λ t. inl (length left, w, here, t.1)) (get_snoc books w.book b j at);
    are_books = λ j b at. ⊎_elim (g.are_books j b) (λ t. subst (IsBook workers) t.1 is) (get_snoc books w.book b j at);
  }
    where
      here : At closed (length left) w
      here = g.begin (length left) w (get_last left w)

      next : (k : ℕ) (v : WorkerId) → At closed k v → k < length (left ++ w ∷ []) → (k < length left) ⊎ HasBook (books ++ w.book ∷ []) v.book
      next k v at lt = ⊎_elim inl (λ e. inr (length books, same k v at e)) (cases k lt)
        where
          cases : (k : ℕ) → k < length (left ++ w ∷ []) → (k < length left) ⊎ (k ≡ length left)
          cases k lt = let n = length-append left (w ∷ []) in ⊎_elim inl (λ le. inr (omega (arith, le))) (cases_lt k (length left))

          same : (k : ℕ) (v : WorkerId) → At closed k v → k ≡ length left → At (books ++ w.book ∷ []) (length books) v.book
          same k v at e =
              let both : Some w ≡ Some v = sym (subst (λ m. At closed m w) (sym e) here) ∙ at in
              let equal : w ≡ v = cc in
              subst (λ z. At (books ++ w.book ∷ []) (length books) z.book) equal (get_last books w.book)

  pub gather-sender : (left : List WorkerId) (lefts : List SenderId) (w : SenderId) (books : List BookId) → Gathered workers closed senders left (lefts ++ w ∷ []) books → IsBook workers w.book → Gathered workers closed senders left lefts (books ++ w.book ∷ [])
  gather-sender left lefts w books g is = record {
    begin = g.begin;
    begins = λ k x at. g.begins k x (get_before lefts w x k at);
    closed_in = λ k s at. ⊎_elim inl (λ h. inr (more books s.book w.book h)) (g.closed_in k s at);
    senders_in = λ k v at. ⊎_elim (λ lt. next k v at lt) (λ h. inr (more books v.book w.book h)) (g.senders_in k v at);
    parts = λ j b at. ⊎_elim (g.parts j b) (λ t. inr (length lefts, w, here, t.1)) (get_snoc books w.book b j at);
    are_books = λ j b at. ⊎_elim (g.are_books j b) (λ t. subst (IsBook workers) t.1 is) (get_snoc books w.book b j at);
  }
    where
      here : At senders (length lefts) w
      here = g.begins (length lefts) w (get_last lefts w)

      next : (k : ℕ) (v : SenderId) → At senders k v → k < length (lefts ++ w ∷ []) → (k < length lefts) ⊎ HasBook (books ++ w.book ∷ []) v.book
      next k v at lt = ⊎_elim inl (λ e. inr (length books, same k v at e)) (cases k lt)
        where
          cases : (k : ℕ) → k < length (lefts ++ w ∷ []) → (k < length lefts) ⊎ (k ≡ length lefts)
          cases k lt = let n = length-append lefts (w ∷ []) in ⊎_elim inl (λ le. inr (omega (arith, le))) (cases_lt k (length lefts))

          same : (k : ℕ) (v : SenderId) → At senders k v → k ≡ length lefts → At (books ++ w.book ∷ []) (length books) v.book
          same k v at e =
              let both : Some w ≡ Some v = sym (subst (λ m. At senders m w) (sym e) here) ∙ at in
              let equal : w ≡ v = cc in
              subst (λ z. At (books ++ w.book ∷ []) (length books) z.book) equal (get_last books w.book)
