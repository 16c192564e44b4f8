-- Each move of a pass keeps the rule of a subqueue.
use Rattle.crawl_queues.proofs.Prelude.{common_steps, ◌≡◌, ◌≢◌, ◌⊎◌, ℕ, zero, suc, ◌+◌, true, false, true≢false, List, [], ◌∷◌, ◌++◌, length, map, set, sym, refl, ap, ◌∙◌, subst, inl, inr, ⊎_elim, append_assoc, arith, some, some-injective, some-ne-none, get_elem?, GateId, IsSeatOf, Entry, Message, PassView, MayFollow, KeepsRule, pushing, popping, undivided, reunited, spent, no_home, plain, AllOfGate, PassFits, SubqueueInvariant}
use mathlib.Core.List.{map-append}
use Rattle.crossbeam_queue.specs.Fifo.{Pushes, Pops, Forks, Merges, Learns}
use Rattle.crossbeam_queue.proofs.Lists.{at_set}
use Rattle.crawl_queues.specs.declared.rule.Home.{Home}
use Rattle.crawl_queues.proofs.Entries.{rule-snoc, rule-at}

pub no : {X : Type 0} → false ≡ true → X
no e = absurd (true≢false (sym e))

at_push : (l : List PassView) (a b : PassView) (j : ℕ) → get_elem? (l ++ a ∷ []) j ≡ some b → (get_elem? l j ≡ some b) ⊎ ((j ≡ length l) × (a ≡ b))
at_push [] a b zero e = inr (refl, some-injective a b e)
at_push [] a b (suc j) e = absurd (some-ne-none b (sym e))
at_push (x ∷ xs) a b zero e = inl e
at_push (x ∷ xs) a b (suc j) e = ⊎_elim inl (λ t. inr (ap suc t.0, t.1)) (at_push xs a b j e)

abbrev pub All : (ℕ → PassView → Type 0) → List PassView → Type 0
All F views = (j : ℕ) (u : PassView) → get_elem? views j ≡ some u → F j u

pub all_set : (F : ℕ → PassView → Type 0) (views : List PassView) (id : ℕ) (w : PassView) → F id w → ((j : ℕ) (u : PassView) → j ≢ id → get_elem? views j ≡ some u → F j u) → All F (set views id w)
all_set F views id w mine others j u e = grind (arith, common_steps, at_set)

pub all_push : (F : ℕ → PassView → Type 0) (views : List PassView) (w : PassView) → F (length views) w → All F views → All F (views ++ w ∷ [])
all_push F views w mine old j u e = ⊎_elim (old j u) (λ (t : (j ≡ length views) × (w ≡ u)). subst (λ (y : ℕ × PassView). F y.0 y.1) (λ i. (sym t.0 i, t.1 i)) mine) (at_push views w u j e)

pub quiet : (home : Home) (writer reader : ℕ) (sent taken : List Entry) (j : ℕ) → PassFits home writer reader sent taken j spent
quiet home writer reader sent taken j = record { sends = no; takes = no }

-- other passes, which fit the same list
abbrev with_passes : {items : List Message} {views new : List PassView} (k : SubqueueInvariant items views) (writer reader : ℕ) → All (PassFits k.home writer reader k.sent k.taken) new → SubqueueInvariant items new
with_passes k writer reader passes = record {
  home = k.home;
  writer = writer;
  reader = reader;
  sent = k.sent;
  taken = k.taken;
  split = k.split;
  rule = k.rule;
  units = k.units;
  passes = passes;
}

pub begins : SubqueueInvariant [] (undivided no_home ∷ [])
begins = record {
  home = no_home;
  writer = 0;
  reader = 0;
  sent = [];
  taken = [];
  split = refl;
  rule = tt;
  units = tt;
  passes = all_push (PassFits no_home 0 0 [] []) [] (undivided no_home) (record { sends = λ _. (refl, refl, refl); takes = λ _. (refl, refl, refl) }) (λ j u e. absurd (some-ne-none u (sym e)));
}

pub both_nil : (taken : List Entry) (items : List Message) → taken ++ map plain items ≡ [] → items ≡ []
both_nil [] [] e = refl
both_nil [] (m ∷ ms) e = absurd (cc (e))
both_nil (t ∷ ts) items e = absurd (cc (e))

unfoldable pub settles : (id : ℕ) (v : PassView) (h : Home) → v ≡ undivided v.home → Forks SubqueueInvariant id v (undivided h) spent
settles id v h is items views k at =
    let mine = k.passes id v at in
    let s = mine.sends (ap (λ z. z.sends) is) in
    let t = mine.takes (ap (λ z. z.takes) is) in
    let none : items ≡ [] = both_nil k.taken items (sym k.split ∙ sym s.1 ∙ ap (λ z. z.sent) is) in
    let F = PassFits h id id [] [] in
    record {
      home = h;
      writer = id;
      reader = id;
      sent = [];
      taken = [];
      split = ap (λ (l : List Message). map plain l) (sym none);
      rule = tt;
      units = subst (AllOfGate h.gate) (sym none) tt;
      passes = all_push F (set views id (undivided h)) spent (quiet h id id [] [] _)
          (all_set F views id (undivided h) (record { sends = λ _. (refl, refl, refl); takes = λ _. (refl, refl, refl) })
          (λ j u apart e. let o = k.passes j u e in record { sends = λ p. absurd (apart ((o.sends p).0 ∙ sym s.0)); takes = λ p. absurd (apart ((o.takes p).0 ∙ sym t.0)) }));
    }

unfoldable pub divides : (id : ℕ) (v : PassView) → v ≡ undivided v.home → Forks SubqueueInvariant id v (pushing v.home v.sent) (popping v.home v.taken v.empty_pops)
divides id v is items views k at =
    let mine = k.passes id v at in
    let s = mine.sends (ap (λ z. z.sends) is) in
    let t = mine.takes (ap (λ z. z.takes) is) in
    let l = pushing v.home v.sent in
    let vs = set views id l in
    let F = PassFits k.home id (length vs) k.sent k.taken in
    with_passes k id (length vs) (all_push F vs (popping v.home v.taken v.empty_pops) (record { sends = no; takes = λ _. (refl, t.1, t.2) })
    (all_set F views id l (record { sends = λ _. (refl, s.1, s.2); takes = no })
    (λ j u apart e. let o = k.passes j u e in record { sends = λ p. absurd (apart ((o.sends p).0 ∙ sym s.0)); takes = λ p. absurd (apart ((o.takes p).0 ∙ sym t.0)) })))

-- a `popping` that has counted a pop that found nothing
unfoldable pub counts : (id : ℕ) (v : PassView) → v ≡ popping v.home v.taken v.empty_pops → Forks SubqueueInvariant id v (popping v.home v.taken (v.empty_pops + 1)) spent
counts id v is items views k at =
    let mine = k.passes id v at in
    let t = mine.takes (ap (λ z. z.takes) is) in
    let l = popping v.home v.taken (v.empty_pops + 1) in
    let F = PassFits k.home k.writer k.reader k.sent k.taken in
    with_passes k k.writer k.reader (all_push F (set views id l) spent (quiet k.home k.writer k.reader k.sent k.taken _) (all_set F views id l (record { sends = no; takes = λ _. t }) (λ j u apart e. k.passes j u e)))

pub all_of-snoc : (g : GateId) (items : List Message) (x : Message) → AllOfGate g items → IsSeatOf g x.unit → AllOfGate g (items ++ x ∷ [])
all_of-snoc g [] x a o = (o, tt)
all_of-snoc g (m ∷ ms) x a o = (a.0, all_of-snoc g ms x a.1 o)

unfoldable pub sends : (n id : ℕ) (v : PassView) (x : Message) → v ≡ pushing v.home v.sent → IsSeatOf v.home.gate x.unit → MayFollow v.home.workers v.home.queue v.sent (plain x)
    → Pushes SubqueueInvariant n id v x (λ w. w ≡ pushing v.home (v.sent ++ plain x ∷ []))
sends n id v x is unit may items views _ k at =
    let mine = k.passes id v at in
    let s = mine.sends (ap (λ z. z.sends) is) in
    let w = pushing v.home (v.sent ++ plain x ∷ []) in
    let sent = k.sent ++ plain x ∷ [] in
    let F = PassFits k.home k.writer k.reader sent k.taken in
    let may' : MayFollow k.home.workers k.home.queue k.sent (plain x) = subst (λ (y : Home × List Entry). MayFollow y.0.workers y.0.queue y.1 (plain x)) (λ i. (s.2 i, s.1 i)) may in (
      w,
      record {
        home = k.home;
        writer = k.writer;
        reader = k.reader;
        sent = sent;
        taken = k.taken;
        split = ap (λ l. l ++ plain x ∷ []) k.split ∙ append_assoc k.taken (map plain items) (plain x ∷ []) ∙ ap (λ l. k.taken ++ l) (sym (map-append plain items (x ∷ [])));
        rule = rule-snoc k.home.workers k.home.queue [] k.sent (plain x) k.rule may';
        units = all_of-snoc k.home.gate items x k.units (subst (λ (h : Home). IsSeatOf h.gate x.unit) s.2 unit);
        passes = all_set F views id w (record { sends = λ _. (s.0, ap (λ l. l ++ plain x ∷ []) s.1, s.2); takes = no })
            (λ j u apart e. let o = k.passes j u e in record { sends = λ p. absurd (apart ((o.sends p).0 ∙ sym s.0)); takes = o.takes });
      },
      refl,
    )

unfoldable pub takes : (id : ℕ) (v : PassView) → v ≡ popping v.home v.taken v.empty_pops
    → Pops SubqueueInvariant id v (λ x w. (w ≡ popping v.home (v.taken ++ plain x ∷ []) v.empty_pops) × IsSeatOf v.home.gate x.unit × MayFollow v.home.workers v.home.queue v.taken (plain x))
takes id v is x items views k at =
    let mine = k.passes id v at in
    let t = mine.takes (ap (λ z. z.takes) is) in
    let w = popping v.home (v.taken ++ plain x ∷ []) v.empty_pops in
    let taken = k.taken ++ plain x ∷ [] in
    let F = PassFits k.home k.writer k.reader k.sent taken in
    let may : MayFollow k.home.workers k.home.queue k.taken (plain x) =
    rule-at k.home.workers k.home.queue [] k.taken (plain x) (map plain items) (subst (KeepsRule k.home.workers k.home.queue []) k.split k.rule) in (
      w,
      record {
        home = k.home;
        writer = k.writer;
        reader = k.reader;
        sent = k.sent;
        taken = taken;
        split = k.split ∙ sym (append_assoc k.taken (plain x ∷ []) (map plain items));
        rule = k.rule;
        units = k.units.1;
        passes = all_set F views id w (record { sends = no; takes = λ _. (t.0, ap (λ l. l ++ plain x ∷ []) t.1, t.2) })
            (λ j u apart e. let o = k.passes j u e in record { sends = o.sends; takes = λ p. absurd (apart ((o.takes p).0 ∙ sym t.0)) });
      },
      (
        refl,
        subst (λ (h : Home). IsSeatOf h.gate x.unit) (sym t.2) k.units.0,
        subst (λ (y : Home × List Entry). MayFollow y.0.workers y.0.queue y.1 (plain x)) (λ i. (sym t.2 i, sym t.1 i)) may,
      ),
    )

-- one pass with both rights
unfoldable pub unites : (id : ℕ) (v : PassView) (other : ℕ) (u : PassView) → v ≡ pushing v.home v.sent → u ≡ popping u.home u.taken u.empty_pops → Merges SubqueueInvariant id v other u (reunited v u) spent
unites id v other u is are items views k at two there =
    let mine = (k.passes id v at).sends (ap (λ z. z.sends) is) in
    let w = reunited v u in
    let vs = set views id w in
    let was : get_elem? views other ≡ some u = ⊎_elim (λ (x : (other ≡ id) × (w ≡ u)). absurd (two x.0)) (λ (x : (other ≢ id) × (get_elem? views other ≡ some u)). x.1) (at_set views id other w u there) in
    let theirs = (k.passes other u was).takes (ap (λ z. z.takes) are) in
    let Now : ℕ → PassView → Type 0 = λ j y. j ≢ other → PassFits k.home k.writer id k.sent k.taken j y in
    let now : All Now vs = all_set Now views id w (λ _. record { sends = λ _. (mine.0, mine.1, mine.2); takes = λ _. (refl, theirs.1, mine.2) })
    (λ j y apart e away. record { sends = (k.passes j y e).sends; takes = λ p. absurd (away (((k.passes j y e).takes p).0 ∙ sym theirs.0)) }) in
    with_passes k k.writer id (all_set (PassFits k.home k.writer id k.sent k.taken) vs other spent (quiet k.home k.writer id k.sent k.taken other) (λ j y apart e. now j y e apart))

-- what a pass with both rights knows
pub compares : (id : ℕ) (v : PassView) → v.sends ≡ true → v.takes ≡ true → Learns SubqueueInvariant id v (λ items. v.sent ≡ v.taken ++ map plain items)
compares id v a b items views k at =
    let f = k.passes id v at in
    (f.sends a).1 ∙ k.split ∙ ap (λ l. l ++ map plain items) (sym (f.takes b).1)
