-- The owner of each unit, for each kind of step.
use Rattle.crawl_tie.proofs.Prelude.{◌≡◌, ◌≢◌, ◌⊎◌, inl, inr, ⊎_elim, ℕ, zero, suc, ◌+◌, Bool, true, false, List, [], ◌∷◌, ◌++◌, drop, map, set, slice_get, slice_set, Option, Some, None, refl, sym, ap, ◌∙◌, subst, arith, true≢false, list_any, nat_cmp, is_at, insert_key, remove_key, nat_cmp_total, tied_itself, map-append, map-set, some, some-injective, some-ne-none, get_elem?, list_any-insert_key, some_is, View, Word, open_at, view_entering, view_leaving, Moment, SeatSteps, GateId, Message, Lane, Whole, Owner, Seeds, Offer, Sent, IsFirst, Splitting, Entering, Leaving, IsOwner, IsUnitOf, is_offering, with_gate, after_splitting, after_entering, after_leaving, after_fetching, after_seeding, after_pushing, UnitsAreOwned, is_owned, or_left, or_right, get_or_from_slice_get}
use Rattle.crawl_core.proofs.GateHistory.{others_stay}
use Rattle.crawl_queues.specs.History as subqueues
use Rattle.std.proofs.Math.Seq.{map-set_same}

-- ## Indices of two lists

set_both : {A B : Type 0} (f : A → Bool) (g : B → Bool) (xs : List A) (ys : List B) (i : ℕ) (x : A) (y : B) → map f xs ≡ map g ys → f x ≡ g y → map f (set xs i x) ≡ map g (set ys i y)
set_both f g xs ys i x y e same = map-set f xs i x ∙ (ap (λ bs. set bs i (f x)) e ∙ (ap (λ b. set (map g ys) i b) same ∙ sym (map-set g ys i y)))

view_set : (f : View → Bool) (xs : List View) (i : ℕ) (v w : View) → get_elem? xs i ≡ some v → f w ≡ f v → map f (set xs i w) ≡ map f xs
view_set f [] i v w at same = refl
view_set f (x ∷ xs) zero v w at same = ap (λ b. b ∷ map f xs) (same ∙ ap f (sym (some-injective x v at)))
view_set f (x ∷ xs) (suc i) v w at same = ap (λ bs. f x ∷ bs) (view_set f xs i v w at same)

-- the element at an index after a write
after_set : (xs : List (Option Owner)) (i j : ℕ) (y z : Option Owner) → slice_get (slice_set xs i y) j ≡ Some z → ((i ≡ j) × (y ≡ z)) ⊎ ((i ≢ j) × (slice_get xs j ≡ Some z))
after_set [] i j y z at = absurd (cc (at))
after_set (x ∷ xs) zero zero y z at = let here : Some y ≡ Some z = at in inl (refl, some_is here)
after_set (x ∷ xs) zero (suc j) y z at = inr ((λ e. absurd (omega (arith, e))), at)
after_set (x ∷ xs) (suc i) zero y z at = inr ((λ e. absurd (omega (arith, e))), at)
after_set (x ∷ xs) (suc i) (suc j) y z at = ⊎_elim (λ p. inl (ap suc p.0, p.1)) (λ p. inr ((λ e. p.0 (omega (arith, e))), p.1)) (after_set xs i j y z at)

in_front : (xs : List (Option Owner)) (j : ℕ) (owner : Owner) → slice_get (xs ++ None ∷ []) j ≡ Some (Some owner) → slice_get xs j ≡ Some (Some owner)
in_front [] zero owner at = let here : Some None ≡ Some (Some owner) = at in absurd (cc (here))
in_front [] (suc j) owner at = absurd (cc (at))
in_front (x ∷ xs) zero owner at = at
in_front (x ∷ xs) (suc j) owner at = in_front xs j owner at

-- an owner after a write was one before, at another index; or it was written
abbrev Before : Whole → ℕ → ℕ → Option Owner → Owner → Type 0
Before w seat other written owner = ((seat ≡ other) × (written ≡ Some owner)) ⊎ ((seat ≢ other) × IsOwner w other owner)

-- ## Ids of senders

added : (ids : List ℕ) (s other : ℕ) → list_any (is_at (nat_cmp other)) ids ≡ true → list_any (is_at (nat_cmp other)) (insert_key nat_cmp ids s) ≡ true
added ids s other was = list_any-insert_key nat_cmp_total other s ids ∙ or_right (is_at (nat_cmp other) s) _ was

added_itself : (ids : List ℕ) (s : ℕ) → list_any (is_at (nat_cmp s)) (insert_key nat_cmp ids s) ≡ true
added_itself ids s = list_any-insert_key nat_cmp_total s s ids ∙ or_left (is_at (nat_cmp s) s) _ (rw (tied_itself nat_cmp_total s) refl)

offers_same : (s other : ℕ) → Some (Offer s) ≡ Some (Offer other) → s ≡ other
offers_same s other e = grind arith

-- ## Each kind of step

-- a step that changes no owner
pub still_owned : (w : Whole) (gate : Moment) (v u : View) (x y : Word) → UnitsAreOwned w → SeatSteps w.gate gate v u x y → u.holds_unit ≡ v.holds_unit → UnitsAreOwned (with_gate w gate)
still_owned w gate v u x y o s same = grind (arith, view_set)

pub split_owned : (w : Whole) (gate : Moment) → UnitsAreOwned w → Splitting w.gate gate → UnitsAreOwned (after_splitting w gate)
split_owned w gate o s = grind (arith, map-append, in_front)

-- the views and the owners after a step of a seat, which then holds a unit, or no longer holds one
held_after : (w : Whole) (gate : Moment) (v u : View) (x y : Word) (owner : Option Owner) → UnitsAreOwned w → (s : SeatSteps w.gate gate v u x y) → u.holds_unit ≡ is_owned owner
    → map (λ (z : View). z.holds_unit) gate.views ≡ map is_owned (slice_set w.owners s.seat owner)
held_after w gate v u x y owner o s same = grind (arith, set_both)

pub entered_owned : (w : Whole) (gate : Moment) (n s : ℕ) → UnitsAreOwned w → (e : Entering w.gate gate n) → is_offering w s ≡ false → UnitsAreOwned (after_entering w gate e.steps.seat s)
entered_owned w gate n s o e free = record {
  held = held_after w gate e.view (view_entering e.view (open_at n)) (open_at n) (open_at (n + 1)) (Some (Offer s)) o e.steps refl;
  seeds = λ a at. ⊎_elim (λ p. absurd (cc (p.1))) (λ p. o.seeds a p.1) (was a Seeds at);
  seeds_once = λ a b at bt. ⊎_elim (λ p. absurd (cc (p.1))) (λ p. ⊎_elim (λ r. absurd (cc (r.1))) (λ r. o.seeds_once a b p.1 r.1) (was b Seeds bt)) (was a Seeds at);
  offers = λ a k at. ⊎_elim (λ p. subst (λ i. list_any (is_at (nat_cmp i)) (insert_key nat_cmp w.offering s) ≡ true) (offers_same s k p.1) (added_itself w.offering s)) (λ p. added w.offering s k (o.offers a k p.1)) (was a (Offer k) at);
  offers_once = λ a b k at bt. ⊎_elim
      (λ p. ⊎_elim (λ r. sym p.0 ∙ r.0) (λ r. absurd (new b k (offers_same s k p.1) r.1)) (was b (Offer k) bt))
      (λ p. ⊎_elim (λ r. absurd (new a k (offers_same s k r.1) p.1)) (λ r. o.offers_once a b k p.1 r.1) (was b (Offer k) bt))
      (was a (Offer k) at);
}
  where
    was : (j : ℕ) (owner : Owner) → IsOwner (after_entering w gate e.steps.seat s) j owner → Before w e.steps.seat j (Some (Offer s)) owner
    was j owner at = after_set w.owners e.steps.seat j (Some (Offer s)) (Some owner) at

    new : (j k : ℕ) → s ≡ k → IsOwner w j (Offer k) → ⊥
    new j k same at = true≢false (sym (o.offers j k at) ∙ (ap (λ i. is_offering w i) (sym same) ∙ free))

-- the seat of the sender's offer has another owner, or none; the owner is neither an offer nor the seeds
pub record Given (w : Whole) (seat s : ℕ) (owner : Option Owner) : Type 0 where
  pub was : IsOwner w seat (Offer s)
  pub no_seeds : owner ≡ Some Seeds → ⊥
  pub no_offer : (k : ℕ) → owner ≡ Some (Offer k) → ⊥

abbrev pub given : Whole → ℕ → ℕ → Option Owner → Whole
given w seat s owner = record w { owners = slice_set w.owners seat owner; offering = remove_key (is_at (nat_cmp s)) w.offering }

-- the ids and the seats, after the unit of an offer no longer belongs to it
given_owned : (w : Whole) (seat s : ℕ) (owner : Option Owner) (gate : Moment) → UnitsAreOwned w → Given w seat s owner → map (λ (z : View). z.holds_unit) gate.views ≡ map is_owned (slice_set w.owners seat owner)
    → UnitsAreOwned (record (given w seat s owner) { gate = gate })
given_owned w seat s owner gate o g held = grind (arith, others_stay, after_set)

pub left_owned : (w : Whole) (gate : Moment) (n s : ℕ) → UnitsAreOwned w → (l : Leaving w.gate gate n) → IsOwner w l.steps.seat (Offer s) → UnitsAreOwned (after_leaving w gate l.steps.seat s)
left_owned w gate n s o l was =
    given_owned w l.steps.seat s None gate o (record { was = was; no_seeds = λ e. cc (e); no_offer = λ k e. cc (e) }) (held_after w gate l.view (view_leaving l.view (open_at (n + 1))) (open_at (n + 1)) (open_at n) None o l.steps refl)

pub pushed_owned : (w : Whole) (q : ℕ) (l : Lane) (m : subqueues.Moment) (seat s : ℕ) → UnitsAreOwned w → IsOwner w seat (Offer s) → UnitsAreOwned (after_pushing w q l m seat s)
pushed_owned w q l m seat s o was =
    let n = given_owned w seat s (Some (Sent q)) w.gate o (record { was = was; no_seeds = λ e. cc (e); no_offer = λ k e. cc (e) }) (o.held ∙ sym (map-set_same is_owned w.owners seat (Some (Sent q)) None (ap is_owned (sym (get_or_from_slice_get w.owners seat (Some (Offer s)) None was))))) in
    record { held = n.held; seeds = n.seeds; seeds_once = n.seeds_once; offers = n.offers; offers_once = n.offers_once }

pub fetched_owned : (w : Whole) (gate : Moment) (n q : ℕ) (lane : Lane) → UnitsAreOwned w → (l : Leaving w.gate gate n) → UnitsAreOwned (after_fetching w gate l.steps.seat q lane)
fetched_owned w gate n q lane o l = record {
  held = held_after w gate l.view (view_leaving l.view (open_at (n + 1))) (open_at (n + 1)) (open_at n) None o l.steps refl;
  seeds = λ a at. o.seeds a (still a Seeds at);
  seeds_once = λ a b at bt. o.seeds_once a b (still a Seeds at) (still b Seeds bt);
  offers = λ a k at. o.offers a k (still a (Offer k) at);
  offers_once = λ a b k at bt. o.offers_once a b k (still a (Offer k) at) (still b (Offer k) bt);
}
  where
    still : (j : ℕ) (owner : Owner) → slice_get (slice_set w.owners l.steps.seat None) j ≡ Some (Some owner) → IsOwner w j owner
    still j owner at = ⊎_elim (λ p. absurd (cc (p.1))) (λ p. p.1) (after_set w.owners l.steps.seat j None (Some owner) at)

pub seeds_owned : (w : Whole) (gate : Moment) (n : ℕ) → UnitsAreOwned w → (l : Leaving w.gate gate n) → IsOwner w l.steps.seat Seeds → UnitsAreOwned (after_seeding w gate l.steps.seat)
seeds_owned w gate n o l was = record {
  held = held_after w gate l.view (view_leaving l.view (open_at (n + 1))) (open_at (n + 1)) (open_at n) None o l.steps refl;
  seeds = λ a at. absurd (none a at);
  seeds_once = λ a b at bt. absurd (none a at);
  offers = λ a k at. ⊎_elim (λ p. absurd (cc (p.1))) (λ p. o.offers a k p.1) (before a (Offer k) at);
  offers_once = λ a b k at bt. ⊎_elim (λ p. absurd (cc (p.1))) (λ p. ⊎_elim (λ r. absurd (cc (r.1))) (λ r. o.offers_once a b k p.1 r.1) (before b (Offer k) bt)) (before a (Offer k) at);
}
  where
    before : (j : ℕ) (other : Owner) → slice_get (slice_set w.owners l.steps.seat None) j ≡ Some (Some other) → Before w l.steps.seat j None other
    before j other at = after_set w.owners l.steps.seat j None (Some other) at

    none : (j : ℕ) → slice_get (slice_set w.owners l.steps.seat None) j ≡ Some (Some Seeds) → ⊥
    none j at = ⊎_elim (λ p. cc (p.1)) (λ p. p.0 (o.seeds_once l.steps.seat j was p.1)) (before j Seeds at)

pub first_owned : (gate : GateId) (workers : ℕ) (w : Whole) → IsFirst gate workers w → UnitsAreOwned w
first_owned gate workers w first = grind arith

-- ## The owner of a seat

head_is : Bool → List Bool → Bool
head_is d [] = d
head_is d (b ∷ bs) = b

owner_there : (views : List View) (owners : List (Option Owner)) (i : ℕ) (v : View) → map (λ (z : View). z.holds_unit) views ≡ map is_owned owners → get_elem? views i ≡ some v → v.holds_unit ≡ true
    → (owner : Owner) × (slice_get owners i ≡ Some (Some owner))
unfolding head_is
owner_there [] owners i v e at held = absurd (some-ne-none v (sym at))
owner_there (x ∷ xs) [] i v e at held = absurd (cc (e))
owner_there (x ∷ xs) (None ∷ os) zero v e at held = grind arith
owner_there (x ∷ xs) (Some owner ∷ os) zero v e at held = (owner, refl)
owner_there (x ∷ xs) (o ∷ os) (suc i) v e at held = owner_there xs os i v (ap (λ bs. drop 1 bs) e) at held

pub whose : (w : Whole) (gate : Moment) (n : ℕ) → UnitsAreOwned w → (l : Leaving w.gate gate n) → (owner : Owner) × IsOwner w l.steps.seat owner
whose w gate n o l = owner_there w.gate.views w.owners l.steps.seat l.view o.held l.steps.view l.holds

-- the view of a seat that has an owner
held_there : (views : List View) (owners : List (Option Owner)) (i : ℕ) (v : View) (owner : Owner) → map (λ (z : View). z.holds_unit) views ≡ map is_owned owners → get_elem? views i ≡ some v → slice_get owners i ≡ Some (Some owner) → v.holds_unit ≡ true
unfolding head_is
held_there [] owners i v owner e at has = absurd (some-ne-none v (sym at))
held_there (x ∷ xs) [] i v owner e at has = absurd (cc (has))
held_there (x ∷ xs) (None ∷ os) zero v owner e at has = let here : Some None ≡ Some (Some owner) = has in absurd (cc (here))
held_there (x ∷ xs) (Some o ∷ os) zero v owner e at has = grind arith
held_there (x ∷ xs) (o ∷ os) (suc i) v owner e at has = held_there xs os i v owner (ap (λ bs. drop 1 bs) e) at has

pub pushed_held : (w : Whole) (m : Message) (s : ℕ) → UnitsAreOwned w → IsUnitOf w s m → m.unit.view.holds_unit ≡ true
pushed_held w m s o unit = held_there w.gate.views w.owners m.unit.number m.unit.view (Offer s) o.held unit.view unit.owner
