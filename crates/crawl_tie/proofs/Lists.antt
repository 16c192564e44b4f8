-- What a history states about each subqueue: the list that was sent is what was accepted, and the list that was taken what was
-- delivered.
use Rattle.crawl_tie.proofs.Prelude.{◌≡◌, ℕ, zero, suc, ◌+◌, ◌<◌, ◌≤◌, true, false, List, [], ◌∷◌, ◌++◌, length, map, nat_eq, slice_get, slice_set, Option, Some, None, refl, sym, ap, ◌∙◌, subst, arith, eqb-true, append_assoc, filter_map, ne_eqb, option_to_list, append-nil, length_push, filter_map-append, slice_get_within, one_if, set_cases, length-slice_set, some_is, GateId, Entry, KeepsRule, plain, accepted_lists, Lane, Whole, IsFirst, Act, Splits, Looks, LooksAway, Enters, Loses, LeavesOffer, LeavesSeen, LeavesFetch, LeavesSeeds, Closes, NotClosesClosed, NotClosesPending, Pushes, Pops, PopsNone, FindsNothing, TakesIn, Pushing, Popping, Atomic, History, HasLists, pushed_to, popped_from, fetched_at, accepted, delivered, fetches_done, Delivers, eqb_same}
use Rattle.crawl_queues.specs.History.{Moment}
use Rattle.crawl_tie.proofs.Lanes.{pushed_has, popped_has, counted_has, taken_in_has, made_has, lists_split}

-- one subqueue after these steps; `finished` is the number of its fetches that are done
pub record LaneHas (gate : GateId) (workers q : ℕ) (l : Lane) (sent taken : List Entry) (finished : ℕ) : Type 0 where
  pub has : HasLists gate workers q l.moment sent taken
  pub fetches : length taken ≡ finished + one_if l.fetching

abbrev pub AllHave : GateId → ℕ → List Lane → List Act → Type 0
AllHave gate workers lanes acts = (q : ℕ) (l : Lane) → slice_get lanes q ≡ Some l → LaneHas gate workers q l (accepted q acts) (delivered q acts) (fetches_done q acts)

-- one more step may add to each of the three lists, at the end
abbrev Grown : GateId → ℕ → ℕ → Lane → List Act → Act → Type 0
Grown gate workers q l acts act =
    LaneHas gate workers q l (accepted q acts ++ option_to_list (pushed_to q act)) (delivered q acts ++ option_to_list (popped_from q act)) (length (filter_map (fetched_at q) acts ++ option_to_list (fetched_at q act)))

single : {A B : Type 0} (h : A → Option B) (x : A) → filter_map h (x ∷ []) ≡ option_to_list (h x)
single h x = grind arith

pushed_more : {A B : Type 0} (h : A → Option B) (xs : List A) (x : A) → filter_map h xs ++ option_to_list (h x) ≡ filter_map h (xs ++ x ∷ [])
pushed_more h xs x = sym (filter_map-append h xs (x ∷ []) ∙ ap (λ ys. filter_map h xs ++ ys) (single h x))

grown : (gate : GateId) (workers q : ℕ) (l : Lane) (acts : List Act) (act : Act) → Grown gate workers q l acts act → LaneHas gate workers q l (accepted q (acts ++ act ∷ [])) (delivered q (acts ++ act ∷ [])) (fetches_done q (acts ++ act ∷ []))
grown gate workers q l acts act g =
    subst (λ es. LaneHas gate workers q l es (delivered q (acts ++ act ∷ [])) (fetches_done q (acts ++ act ∷ []))) (pushed_more (pushed_to q) acts act)
    (subst (λ es. LaneHas gate workers q l (accepted q acts ++ option_to_list (pushed_to q act)) es (fetches_done q (acts ++ act ∷ []))) (pushed_more (popped_from q) acts act)
    (subst (λ ns. LaneHas gate workers q l (accepted q acts ++ option_to_list (pushed_to q act)) (delivered q acts ++ option_to_list (popped_from q act)) (length ns)) (pushed_more (fetched_at q) acts act) g))

-- the step does nothing to this subqueue
still : (gate : GateId) (workers q : ℕ) (l : Lane) (acts : List Act) → LaneHas gate workers q l (accepted q acts) (delivered q acts) (fetches_done q acts) → LaneHas gate workers q l (accepted q acts ++ []) (delivered q acts ++ []) (length (filter_map (fetched_at q) acts ++ []))
still gate workers q l acts h = rw (append-nil (accepted q acts), append-nil (delivered q acts), append-nil (filter_map (fetched_at q) acts)) h

abbrev AllGrown : GateId → ℕ → List Lane → List Act → Act → Type 0
AllGrown gate workers lanes acts act = (q : ℕ) (l : Lane) → slice_get lanes q ≡ Some l → Grown gate workers q l acts act

-- the subqueue of a step, and another subqueue, after the step
at_queue : (gate : GateId) (workers : ℕ) (lanes : List Lane) (acts : List Act) (act : Act) (q : ℕ) (l l' : Lane) → AllHave gate workers lanes acts → slice_get lanes q ≡ Some l → ((there : ℕ) → nat_eq q there ≡ true → Grown gate workers q l' acts act) → ((there : ℕ) (x : Lane) → nat_eq q there ≡ false → LaneHas gate workers there x (accepted there acts) (delivered there acts) (fetches_done there acts) → Grown gate workers there x acts act) → AllGrown gate workers (slice_set lanes q l') acts act
at_queue gate workers lanes acts act q l l' all at mine others there x =
    set_cases (λ o. o ≡ Some x → Grown gate workers there x acts act) lanes q there l l' at
    (λ here was is. let same : q ≡ there = eqb-true q there here in subst (λ y. Grown gate workers there y acts act) (some_is is) (subst (λ n. Grown gate workers n l' acts act) same (mine there here)))
    (λ apart is. others there x apart (all there x is))

pushes_grown : (gate : GateId) (workers : ℕ) (lanes : List Lane) (acts : List Act) (q : ℕ) (e : Entry) (l : Lane) (m : Moment) → AllHave gate workers lanes acts → slice_get lanes q ≡ Some l → Pushing l.moment m e → AllGrown gate workers (slice_set lanes q (record { moment = m; fetching = l.fetching })) acts (Pushes q e)
pushes_grown gate workers lanes acts q e l m all at p =
    let old = all q l at in
    at_queue gate workers lanes acts (Pushes q e) q l (record { moment = m; fetching = l.fetching }) all at
    (λ there here. rw (eqb_same q, append-nil (delivered q acts), append-nil (filter_map (fetched_at q) acts)) (record { has = pushed_has gate workers q l.moment m (accepted q acts) (delivered q acts) e old.has p; fetches = old.fetches }))
    (λ there x apart h. rw apart (still gate workers there x acts h))

pops_grown : (gate : GateId) (workers : ℕ) (lanes : List Lane) (acts : List Act) (q : ℕ) (e : Entry) (l : Lane) (m : Moment) → AllHave gate workers lanes acts → slice_get lanes q ≡ Some l → Popping l.moment m e → l.fetching ≡ false → AllGrown gate workers (slice_set lanes q (record { moment = m; fetching = true })) acts (Pops q e)
pops_grown gate workers lanes acts q e l m all at p idle =
    let old = all q l at in
    let none : one_if l.fetching ≡ 0 = ap one_if idle in
    let longer = length_push (delivered q acts) e in
    let fetches : length (delivered q acts ++ e ∷ []) ≡ fetches_done q acts + 1 = omega (arith, old.fetches, none, longer) in
    at_queue gate workers lanes acts (Pops q e) q l (record { moment = m; fetching = true }) all at
    (λ there here. rw (eqb_same q, append-nil (accepted q acts), append-nil (filter_map (fetched_at q) acts)) (record { has = popped_has gate workers q l.moment m (accepted q acts) (delivered q acts) e old.has p; fetches = fetches }))
    (λ there x apart h. rw apart (still gate workers there x acts h))

keeps_grown : (gate : GateId) (workers : ℕ) (lanes : List Lane) (acts : List Act) (act : Act) (q : ℕ) (l : Lane) (m : Moment) → AllHave gate workers lanes acts → slice_get lanes q ≡ Some l → ((there : ℕ) → (pushed_to there act ≡ None) × (popped_from there act ≡ None) × (fetched_at there act ≡ None))
    → ((sent taken : List Entry) → HasLists gate workers q l.moment sent taken → HasLists gate workers q m sent taken) → AllGrown gate workers (slice_set lanes q (record { moment = m; fetching = l.fetching })) acts act
keeps_grown gate workers lanes acts act q l m all at quiet same =
    let old = all q l at in
    let l' : Lane = record { moment = m; fetching = l.fetching } in
    at_queue gate workers lanes acts act q l l' all at
    (λ there here. let n = quiet q in rw (n.0, n.1, n.2) (still gate workers q l' acts (record { has = same (accepted q acts) (delivered q acts) old.has; fetches = old.fetches })))
    (λ there x apart h. let n = quiet there in rw (n.0, n.1, n.2) (still gate workers there x acts h))

fetched_grown : (gate : GateId) (workers : ℕ) (lanes : List Lane) (acts : List Act) (q n : ℕ) (l : Lane) → AllHave gate workers lanes acts → slice_get lanes q ≡ Some l → l.fetching ≡ true → AllGrown gate workers (slice_set lanes q (record { moment = l.moment; fetching = false })) acts (LeavesFetch q n)
fetched_grown gate workers lanes acts q n l all at busy =
    let old = all q l at in
    let one : one_if l.fetching ≡ 1 = ap one_if busy in
    let longer = length_push (filter_map (fetched_at q) acts) n in
    let fetches : length (delivered q acts) ≡ length (filter_map (fetched_at q) acts ++ n ∷ []) + 0 = omega (arith, old.fetches, one, longer) in
    at_queue gate workers lanes acts (LeavesFetch q n) q l (record { moment = l.moment; fetching = false }) all at
    (λ there here. rw (eqb_same q, append-nil (accepted q acts), append-nil (delivered q acts)) (record { has = old.has; fetches = fetches }))
    (λ there x apart h. rw apart (still gate workers there x acts h))

-- what a history has stated so far
pub record Reached (gate : GateId) (workers : ℕ) (w : Whole) (acts : List Act) : Type 0 where
  pub len : length w.lanes ≡ workers
  pub all : AllHave gate workers w.lanes acts
  pub outside : (q : ℕ) → workers ≤ q → (accepted q acts ≡ []) × (delivered q acts ≡ [])

reach : (gate : GateId) (workers : ℕ) (w v : Whole) (lanes : List Lane) (acts : List Act) (act : Act) → Reached gate workers w acts → v.lanes ≡ lanes → length lanes ≡ length w.lanes → AllGrown gate workers lanes acts act → ((q : ℕ) → workers ≤ q → (pushed_to q act ≡ None) × (popped_from q act ≡ None)) → Reached gate workers v (acts ++ act ∷ [])
reach gate workers w v lanes acts act r is len more outside = record {
  len = ap (λ (ls : List Lane). length ls) is ∙ (len ∙ r.len);
  all = λ q l at. grown gate workers q l acts act (more q l (ap (λ (ls : List Lane). slice_get ls q) (sym is) ∙ at));
  outside = λ q beyond.
      let o = outside q beyond in
      let before = r.outside q beyond in
      (sym (pushed_more (pushed_to q) acts act) ∙ rw (o.0, before.0) refl, sym (pushed_more (popped_from q) acts act) ∙ rw (o.1, before.1) refl);
}

-- a step that does not change the subqueues
leaves : (gate : GateId) (workers : ℕ) (w v : Whole) (acts : List Act) (act : Act) → Reached gate workers w acts → v.lanes ≡ w.lanes → ((q : ℕ) → (pushed_to q act ≡ None) × (popped_from q act ≡ None) × (fetched_at q act ≡ None)) → Reached gate workers v (acts ++ act ∷ [])
leaves gate workers w v acts act r is quiet =
    reach gate workers w v w.lanes acts act r is refl (λ q l at. let n = quiet q in rw (n.0, n.1, n.2) (still gate workers q l acts (r.all q l at))) (λ q beyond. ((quiet q).0, (quiet q).1))

apart_from : (gate : GateId) (workers : ℕ) (w : Whole) (acts : List Act) → Reached gate workers w acts → (q there : ℕ) (l : Lane) → slice_get w.lanes q ≡ Some l → workers ≤ there → nat_eq q there ≡ false
apart_from gate workers w acts r q there l at beyond = let below = slice_get_within w.lanes q l at in ne_eqb q there (λ same. omega (arith, same, below, r.len, beyond))

pub reached_step : (gate : GateId) (workers : ℕ) (w v : Whole) (acts : List Act) (act : Act) → Reached gate workers w acts → Atomic w act v → Reached gate workers v (acts ++ act ∷ [])
reached_step gate workers w v acts Splits r a = leaves gate workers w v acts Splits r (ap (λ (u : Whole). u.lanes) a.2) (λ q. (refl, refl, refl))
reached_step gate workers w v acts (Looks id x) r a = leaves gate workers w v acts (Looks id x) r (ap (λ (u : Whole). u.lanes) a.2) (λ q. (refl, refl, refl))
reached_step gate workers w v acts (LooksAway id x) r a = leaves gate workers w v acts (LooksAway id x) r (ap (λ (u : Whole). u.lanes) a.4) (λ q. (refl, refl, refl))
reached_step gate workers w v acts (Enters id n) r a = leaves gate workers w v acts (Enters id n) r (ap (λ (u : Whole). u.lanes) a.4) (λ q. (refl, refl, refl))
reached_step gate workers w v acts (Loses id x) r a = leaves gate workers w v acts (Loses id x) r (ap (λ (u : Whole). u.lanes) a.5) (λ q. (refl, refl, refl))
reached_step gate workers w v acts (LeavesOffer id n) r a = leaves gate workers w v acts (LeavesOffer id n) r (ap (λ (u : Whole). u.lanes) a.3) (λ q. (refl, refl, refl))
reached_step gate workers w v acts (LeavesSeen id q url n) r a = leaves gate workers w v acts (LeavesSeen id q url n) r (ap (λ (u : Whole). u.lanes) a.6) (λ q. (refl, refl, refl))
reached_step gate workers w v acts (LeavesSeeds n) r a = leaves gate workers w v acts (LeavesSeeds n) r (ap (λ (u : Whole). u.lanes) a.3) (λ q. (refl, refl, refl))
reached_step gate workers w v acts Closes r a = leaves gate workers w v acts Closes r (ap (λ (u : Whole). u.lanes) a.2) (λ q. (refl, refl, refl))
reached_step gate workers w v acts NotClosesClosed r a = leaves gate workers w v acts NotClosesClosed r (ap (λ (u : Whole). u.lanes) a.2) (λ q. (refl, refl, refl))
reached_step gate workers w v acts (NotClosesPending n) r a = leaves gate workers w v acts (NotClosesPending n) r (ap (λ (u : Whole). u.lanes) a.2) (λ q. (refl, refl, refl))
reached_step gate workers w v acts (PopsNone q) r a = leaves gate workers w v acts (PopsNone q) r (ap (λ (u : Whole). u.lanes) a.4) (λ q. (refl, refl, refl))
reached_step gate workers w v acts (LeavesFetch q n) r a =
    let l' : Lane = record { moment = a.1.moment; fetching = false } in
    reach gate workers w v (slice_set w.lanes q l') acts (LeavesFetch q n) r (ap (λ (u : Whole). u.lanes) a.6) (length-slice_set w.lanes q l') (fetched_grown gate workers w.lanes acts q n a.1 r.all a.4 a.5)
    (λ there beyond. (refl, refl))
reached_step gate workers w v acts (Pushes q e) r a =
    let l' : Lane = record { moment = a.1; fetching = a.0.fetching } in
    reach gate workers w v (slice_set w.lanes q l') acts (Pushes q e) r (ap (λ (u : Whole). u.lanes) a.5) (length-slice_set w.lanes q l') (pushes_grown gate workers w.lanes acts q e a.0 a.1 r.all a.3 a.2)
    (λ there beyond. (rw (apart_from gate workers w acts r q there a.0 a.3 beyond) refl, refl))
reached_step gate workers w v acts (Pops q e) r a =
    let l' : Lane = record { moment = a.1; fetching = true } in
    reach gate workers w v (slice_set w.lanes q l') acts (Pops q e) r (ap (λ (u : Whole). u.lanes) a.5) (length-slice_set w.lanes q l') (pops_grown gate workers w.lanes acts q e a.0 a.1 r.all a.3 a.2 a.4)
    (λ there beyond. (refl, rw (apart_from gate workers w acts r q there a.0 a.3 beyond) refl))
reached_step gate workers w v acts (FindsNothing q) r a =
    let l' : Lane = record { moment = a.1; fetching = a.0.fetching } in
    reach gate workers w v (slice_set w.lanes q l') acts (FindsNothing q) r (ap (λ (u : Whole). u.lanes) a.4) (length-slice_set w.lanes q l')
    (keeps_grown gate workers w.lanes acts (FindsNothing q) q a.0 a.1 r.all a.3 (λ there. (refl, refl, refl)) (λ sent taken has. counted_has gate workers q a.0.moment a.1 sent taken has a.2))
    (λ there beyond. (refl, refl))
reached_step gate workers w v acts (TakesIn q) r a =
    let l' : Lane = record { moment = a.1; fetching = a.0.fetching } in
    reach gate workers w v (slice_set w.lanes q l') acts (TakesIn q) r (ap (λ (u : Whole). u.lanes) a.4) (length-slice_set w.lanes q l')
    (keeps_grown gate workers w.lanes acts (TakesIn q) q a.0 a.1 r.all a.3 (λ there. (refl, refl, refl)) (λ sent taken has. taken_in_has gate workers q a.0.moment a.1 sent taken has a.2))
    (λ there beyond. (refl, refl))

pub reached_all : (gate : GateId) (workers : ℕ) (w v : Whole) (acts more : List Act) → Reached gate workers w acts → History w more v → Reached gate workers v (acts ++ more)
reached_all gate workers w v acts [] r h = subst (λ u. Reached gate workers u (acts ++ [])) (sym h) (rw (append-nil acts) r)
reached_all gate workers w v acts (act ∷ more) r h =
    subst (λ xs. Reached gate workers v xs) (append_assoc acts (act ∷ []) more) (reached_all gate workers h.0 v (acts ++ act ∷ []) more (reached_step gate workers w h.0 acts act r h.1) h.2)

pub reached_first : (gate : GateId) (workers : ℕ) (w : Whole) → IsFirst gate workers w → Reached gate workers w []
reached_first gate workers w first = grind (arith, made_has)

pub some_there : {A : Type 0} (xs : List A) (i : ℕ) → i < length xs → (x : A) × (slice_get xs i ≡ Some x)
some_there [] i lt = absurd (omega arith)
some_there (x ∷ xs) zero lt = (x, refl)
some_there (x ∷ xs) (suc i) lt = some_there xs i (omega arith)

pub delivers : (gate : GateId) (workers : ℕ) (w : Whole) (acts : List Act) → Reached gate workers w acts → Delivers workers acts
delivers gate workers w acts r = record {
  in_order = λ q lt. (map plain (own_lane q lt).moment.items, lists_split gate workers q (own_lane q lt).moment (accepted q acts) (delivered q acts) (lane q lt).has);
  rule = λ q lt.
      let h = (lane q lt).has in
      let rule : KeepsRule workers q [] h.kept.sent = subst (λ o. KeepsRule o.workers o.queue [] h.kept.sent) h.here h.kept.rule in
      accepted_lists workers q (accepted q acts) (subst (λ es. KeepsRule workers q [] es) h.sent_is rule);
  nowhere_else = r.outside;
}
  where
    own_lane : (q : ℕ) → q < workers → Lane
    own_lane q lt = (some_there w.lanes q (rw r.len lt)).0

    lane : (q : ℕ) (lt : q < workers) → LaneHas gate workers q (own_lane q lt) (accepted q acts) (delivered q acts) (fetches_done q acts)
    lane q lt = r.all q (own_lane q lt) (some_there w.lanes q (rw r.len lt)).1
