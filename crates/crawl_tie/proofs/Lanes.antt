-- Subqueues of the machine and of the running frontier, one by one.
use Rattle.crawl_tie.proofs.Prelude.{◌≡◌, ◌≢◌, ℕ, zero, suc, ◌+◌, true, ◌||◌, List, [], ◌∷◌, ◌++◌, length, map, set, slice_get, slice_set, Some, None, refl, sym, ap, ◌∙◌, arith, eqb-true, bytes_eq, length-append, map-append, length_push, length-map, nil_from_length, some, get_elem?, Subqueue, empty_subqueue, after_accepting, after_taking, set_cases, get_set_same, get_set_other, some_is, GateId, Entry, Message, Home, PassView, has_url, home, pushing, popping, undivided, reunited, spent, plain, no_home, step_moves, Lane, made, fresh_lane, Pushing, Popping, Counting, TakingIn, ShowsLane, HasLists, message_of, slice_get_past}
use Rattle.std.proofs.lemmas.Grind.{common_steps}
use Rattle.crawl_queues.specs.Entries.{count_of}
use Rattle.std.proofs.lemmas.List.Sums.{sum_by-cons}
use Rattle.crawl_core.specs.Messages as core
use Rattle.crawl_queues.specs.History.{Moment, SubqueueStep, ViewAt, settles, divides, pushes, pops, finds_nothing, takes_in, first_moment}
use Rattle.crawl_queues.proofs.Passing as pass

-- ## The machine's messages for a list that was sent

pub same_urls : (es : List Entry) (url : List ℕ) → core.has_url (map message_of es) url ≡ has_url url es
same_urls [] url = refl
same_urls (e ∷ es) url = ap (λ b. bytes_eq e.url url || b) (same_urls es url)

pub same_counts : (es : List Entry) (s : ℕ) → core.count_from (map message_of es) s ≡ count_of s es
same_counts [] s = refl
same_counts (e ∷ es) s = grind (arith, common_steps, sum_by-cons, same_counts es s)

get_mid : {A B : Type 0} (f : A → B) (xs : List A) (y : A) (ys : List A) → slice_get (map f (xs ++ y ∷ ys)) (length xs) ≡ Some (f y)
get_mid f [] y ys = refl
get_mid f (x ∷ xs) y ys = get_mid f xs y ys

view_there : (views : List PassView) (i : ℕ) (v w : PassView) → get_elem? views i ≡ some v → get_elem? (set views i w) i ≡ some w
view_there [] i v w at = absurd (cc)
view_there (x ∷ xs) zero v w at = refl
view_there (x ∷ xs) (suc i) v w at = view_there xs i v w at

view_before : (views : List PassView) (i : ℕ) (v w : PassView) → get_elem? views i ≡ some v → get_elem? (views ++ w ∷ []) i ≡ some v
view_before [] i v w at = absurd (cc)
view_before (x ∷ xs) zero v w at = at
view_before (x ∷ xs) (suc i) v w at = view_before xs i v w at

view_apart : (views : List PassView) (i j : ℕ) (w : PassView) → j ≢ i → get_elem? (set views i w) j ≡ get_elem? views j
view_apart [] i j w ne = refl
view_apart (x ∷ xs) zero zero w ne = absurd (ne refl)
view_apart (x ∷ xs) zero (suc j) w ne = refl
view_apart (x ∷ xs) (suc i) zero w ne = refl
view_apart (x ∷ xs) (suc i) (suc j) w ne = view_apart xs i j w (λ e. ne (ap suc e))

-- ## What each step of a subqueue does to the lists

pub pushed : (m m' : Moment) (e : Entry) → Pushing m m' e → SubqueueStep m m'
pushed m m' e p = pushes p.pass p.home p.sent p.message p.view p.unit p.may p.next

pub popped : (m m' : Moment) (e : Entry) → Popping m m' e → SubqueueStep m m'
popped m m' e p = pops p.pass p.home p.taken p.empty_pops p.message p.rest p.view p.items p.next

pub counted : (m m' : Moment) → Counting m m' → SubqueueStep m m'
counted m m' p = finds_nothing p.pass p.home p.taken p.empty_pops p.view p.next

pub taken_in : (m m' : Moment) → TakingIn m m' → SubqueueStep m m'
taken_in m m' p = takes_in p.pass p.home p.sent p.other p.home' p.taken p.empty_pops p.apart p.view p.view' p.next

pub pushed_has : (gate : GateId) (workers q : ℕ) (m m' : Moment) (sent taken : List Entry) (e : Entry) → HasLists gate workers q m sent taken → Pushing m m' e → HasLists gate workers q m' (sent ++ e ∷ []) taken
unfolding pushed
pushed_has gate workers q m m' sent taken e has p =
    let k = has.kept in
    let k' = step_moves m m' k (pushed m m' e p) in
    let old = (k.passes p.pass (pushing p.home p.sent) p.view).sends refl in
    let w : PassView = pushing p.home (p.sent ++ plain p.message ∷ []) in
    let at : get_elem? m'.views p.pass ≡ some w = rw p.next (view_there m.views p.pass (pushing p.home p.sent) w p.view) in
    let new = (k'.0.passes p.pass w at).sends refl in
    record {
      kept = k'.0;
      here = sym new.2 ∙ (old.2 ∙ has.here);
      sent_is = k'.1.0 ∙ rw (has.sent_is, p.entry_is) refl;
      taken_is = k'.1.1 ∙ has.taken_is;
    }

pub popped_has : (gate : GateId) (workers q : ℕ) (m m' : Moment) (sent taken : List Entry) (e : Entry) → HasLists gate workers q m sent taken → Popping m m' e → HasLists gate workers q m' sent (taken ++ e ∷ [])
unfolding popped
popped_has gate workers q m m' sent taken e has p =
    let k = has.kept in
    let k' = step_moves m m' k (popped m m' e p) in
    let old = (k.passes p.pass (popping p.home p.taken p.empty_pops) p.view).takes refl in
    let w : PassView = popping p.home (p.taken ++ plain p.message ∷ []) p.empty_pops in
    let at : get_elem? m'.views p.pass ≡ some w = rw p.next (view_there m.views p.pass (popping p.home p.taken p.empty_pops) w p.view) in
    let new = (k'.0.passes p.pass w at).takes refl in
    record {
      kept = k'.0;
      here = sym new.2 ∙ (old.2 ∙ has.here);
      sent_is = k'.1.0 ∙ has.sent_is;
      taken_is = k'.1.1 ∙ rw (has.taken_is, p.entry_is) refl;
    }

pub counted_has : (gate : GateId) (workers q : ℕ) (m m' : Moment) (sent taken : List Entry) → HasLists gate workers q m sent taken → Counting m m' → HasLists gate workers q m' sent taken
unfolding counted
counted_has gate workers q m m' sent taken has p =
    let k = has.kept in
    let k' = step_moves m m' k (counted m m' p) in
    let old = (k.passes p.pass (popping p.home p.taken p.empty_pops) p.view).takes refl in
    let w : PassView = popping p.home p.taken (p.empty_pops + 1) in
    let at : get_elem? m'.views p.pass ≡ some w = rw p.next (view_before (set m.views p.pass w) p.pass w spent (view_there m.views p.pass (popping p.home p.taken p.empty_pops) w p.view)) in
    let new = (k'.0.passes p.pass w at).takes refl in
    record { kept = k'.0; here = sym new.2 ∙ (old.2 ∙ has.here); sent_is = k'.1.0 ∙ has.sent_is; taken_is = k'.1.1 ∙ has.taken_is }

pub taken_in_has : (gate : GateId) (workers q : ℕ) (m m' : Moment) (sent taken : List Entry) → HasLists gate workers q m sent taken → TakingIn m m' → HasLists gate workers q m' sent taken
unfolding taken_in
taken_in_has gate workers q m m' sent taken has p =
    let k = has.kept in
    let k' = step_moves m m' k (taken_in m m' p) in
    let old = (k.passes p.pass (pushing p.home p.sent) p.view).sends refl in
    let w : PassView = reunited (pushing p.home p.sent) (popping p.home' p.taken p.empty_pops) in
    let at : get_elem? m'.views p.pass ≡ some w = rw p.next (view_apart (set m.views p.pass w) p.other p.pass spent p.apart ∙ view_there m.views p.pass (pushing p.home p.sent) w p.view) in
    let new = (k'.0.passes p.pass w at).sends refl in
    record { kept = k'.0; here = sym new.2 ∙ (old.2 ∙ has.here); sent_is = k'.1.0 ∙ has.sent_is; taken_is = k'.1.1 ∙ has.taken_is }

-- a subqueue is made by two steps
abbrev pub settled : Home → Moment
settled h = record { items = []; views = undivided h ∷ spent ∷ [] }

pub settling : (h : Home) → SubqueueStep first_moment (settled h)
settling h = settles 0 h no_home refl refl

pub dividing : (h : Home) → SubqueueStep (settled h) (made h)
dividing h = divides 0 h refl refl

pub made_has : (gate : GateId) (workers q : ℕ) → HasLists gate workers q (made (home gate workers q)) [] []
made_has gate workers q =
    let h = home gate workers q in
    let first = step_moves first_moment (settled h) pass.begins (settling h) in
    let k = (step_moves (settled h) (made h) first.0 (dividing h)).0 in
    let s = (k.passes 0 (pushing h []) refl).sends refl in
    let t = (k.passes 2 (popping h [] 0) refl).takes refl in
    record { kept = k; here = sym s.2; sent_is = sym s.1; taken_is = sym t.1 }

-- ## What the machine's subqueues represent

-- the list of a pass that pushes is the list sent
pub sent_is : (gate : GateId) (workers q : ℕ) (s : Subqueue) (l : Lane) → (shows : ShowsLane gate workers q s l) → (p : ℕ) (h : Home) (sent : List Entry) → ViewAt l.moment p (pushing h sent) → sent ≡ shows.sent
sent_is gate workers q s l shows p h sent at = ((shows.lists.kept.passes p (pushing h sent) at).sends refl).1 ∙ shows.lists.sent_is

pub pushed_lane : (gate : GateId) (workers q : ℕ) (s : Subqueue) (l : Lane) (m : Moment) (e : Entry) → ShowsLane gate workers q s l → Pushing l.moment m e → ShowsLane gate workers q (after_accepting s (message_of e)) (record { moment = m; fetching = l.fetching })
pushed_lane gate workers q s l m e shows p = record {
  sent = shows.sent ++ e ∷ [];
  taken = shows.taken;
  lists = pushed_has gate workers q l.moment m shows.sent shows.taken e shows.lists p;
  accepts = map-append message_of shows.sent (e ∷ []) ∙ ap (λ (ms : List core.Message). ms ++ message_of e ∷ []) shows.accepts;
  takes = shows.takes;
  busy = shows.busy;
}

-- what was sent is what was taken, followed by what waits
pub lists_split : (gate : GateId) (workers q : ℕ) (m : Moment) (sent taken : List Entry) → HasLists gate workers q m sent taken → sent ≡ taken ++ map plain m.items
lists_split gate workers q m sent taken has = sym has.sent_is ∙ (has.kept.split ∙ ap (λ es. es ++ map plain m.items) has.taken_is)

-- the entry that is popped is the machine's oldest that is waiting
pub oldest_is : (gate : GateId) (workers q : ℕ) (s : Subqueue) (l : Lane) (m : Moment) (e : Entry) → ShowsLane gate workers q s l → Popping l.moment m e → slice_get s.accepted s.taken ≡ Some (message_of e)
oldest_is gate workers q s l m e shows p = grind (arith, lists_split, get_mid)

pub popped_lane : (gate : GateId) (workers q : ℕ) (s : Subqueue) (l : Lane) (m : Moment) (e : Entry) → ShowsLane gate workers q s l → Popping l.moment m e → ShowsLane gate workers q (after_taking s) (record { moment = m; fetching = true })
popped_lane gate workers q s l m e shows p = record {
  sent = shows.sent;
  taken = shows.taken ++ e ∷ [];
  lists = popped_has gate workers q l.moment m shows.sent shows.taken e shows.lists p;
  accepts = shows.accepts;
  takes = length_push shows.taken e ∙ (let t = shows.takes in omega (arith, t));
  busy = refl;
}

-- the lists do not change
pub same_lane : (gate : GateId) (workers q : ℕ) (s : Subqueue) (l : Lane) (m : Moment) → (shows : ShowsLane gate workers q s l) → HasLists gate workers q m shows.sent shows.taken → ShowsLane gate workers q s (record { moment = m; fetching = l.fetching })
same_lane gate workers q s l m shows has = record { sent = shows.sent; taken = shows.taken; lists = has; accepts = shows.accepts; takes = shows.takes; busy = shows.busy }

pub made_lane : (gate : GateId) (workers q : ℕ) → ShowsLane gate workers q empty_subqueue (fresh_lane gate workers q)
made_lane gate workers q = record { sent = []; taken = []; lists = made_has gate workers q; accepts = refl; takes = refl; busy = refl }

-- ## All of them

abbrev pub AllLanes : GateId → ℕ → List Subqueue → List Lane → Type 0
AllLanes gate workers queues lanes = (q : ℕ) (l : Lane) → slice_get lanes q ≡ Some l → (s : Subqueue) × (slice_get queues q ≡ Some s) × ShowsLane gate workers q s l

pub lanes_set : (gate : GateId) (workers : ℕ) (queues : List Subqueue) (lanes : List Lane) → AllLanes gate workers queues lanes → (q : ℕ) (s s' : Subqueue) (l l' : Lane) → slice_get queues q ≡ Some s → slice_get lanes q ≡ Some l → ShowsLane gate workers q s' l' → AllLanes gate workers (slice_set queues q s') (slice_set lanes q l')
lanes_set gate workers queues lanes all q s s' l l' at_s at_l shows there x = grind (arith, set_cases, eqb-true, get_set_same, some_is, get_set_other)

-- the number that the machine accepted is that of those taken and those in the queue
lens_of : (gate : GateId) (workers q : ℕ) (s : Subqueue) (l : Lane) → ShowsLane gate workers q s l → length s.accepted ≡ s.taken + length l.moment.items
lens_of gate workers q s l shows = grind (arith, lists_split, length-append, length-map)

-- if the queue is empty, the machine has taken all
pub none_waits : (gate : GateId) (workers q : ℕ) (s : Subqueue) (l : Lane) → ShowsLane gate workers q s l → l.moment.items ≡ [] → slice_get s.accepted s.taken ≡ None
none_waits gate workers q s l shows none = grind (arith, common_steps, lens_of, slice_get_past)

-- if the machine has taken all, the queue is empty
pub all_taken : (gate : GateId) (workers q : ℕ) (s : Subqueue) (l : Lane) → ShowsLane gate workers q s l → s.taken ≡ length s.accepted → l.moment.items ≡ []
all_taken gate workers q s l shows all_are = let lens = lens_of gate workers q s l shows in nil_from_length l.moment.items (omega (arith, lens, all_are))
