-- What a seat has read after several tries, and the closed word that a call of `try_close` finds.
use Rattle.crawl_gate.proofs.Prelude.{◌≡◌, ◌≢◌, ℕ, ◌<◌, true, List, [], ◌∷◌, ◌++◌, sym, refl, ap, ◌∙◌, subst, arith, View, Load, EnterLost, open_at, knows_closed, view_looking, view_losing}
use Rattle.crawl_gate.specs.declared.gate.enter.Enter.{Enter}
use Rattle.crawl_gate.specs.declared.gate.enter.Enter.TheVariants.{Lost}
use Rattle.crawl_gate.specs.Seat.{GateId, SeatId, IsSeatOf, with_view}
use Rattle.crawl_gate.specs.Enter.{LostTry, AllLost, TriesToEnter, TriesToEnterHolding, view_trying, view_loading, view_exchanging, after_trying, after_loading, after_exchanging, IsLost, EntersAtLast}
use Rattle.crawl_gate.proofs.Knowing.{knows_closed-still}

pub not_lost : (outcome : Enter) → ((back : SeatId) → outcome ≡ Lost back → ⊥) → ¬ IsLost outcome
not_lost outcome other = grind arith

AllLost-append : (max : ℕ) (ts : List LostTry) (t : LostTry) → AllLost max ts → t.0 < max → t.1 ≢ open_at t.0 → AllLost max (ts ++ t ∷ [])
AllLost-append max [] t all room other = (room, other, tt)
AllLost-append max (u ∷ ts) t all room other = (all.0, all.1, AllLost-append max ts t all.2 room other)

view_trying-max : (v : View) (ts : List LostTry) → (view_trying v ts).max_pending ≡ v.max_pending
view_trying-max v [] = refl
view_trying-max v (t ∷ ts) = view_trying-max (view_losing (view_looking v (open_at t.0)) t.1) ts

view_trying-append : (v : View) (ts : List LostTry) (t : LostTry) → view_trying v (ts ++ t ∷ []) ≡ view_losing (view_looking (view_trying v ts) (open_at t.0)) t.1
view_trying-append v [] t = refl
view_trying-append v (u ∷ ts) t = view_trying-append (view_losing (view_looking v (open_at u.0)) u.1) ts t

view_trying-knows : (v : View) (ts : List LostTry) → knows_closed v ≡ true → knows_closed (view_trying v ts) ≡ true
view_trying-knows v [] e = e
view_trying-knows v (t ∷ ts) e =
    let looked = view_looking v (open_at t.0) in
    view_trying-knows (view_losing looked t.1) ts (knows_closed-still looked EnterLost t.1 (knows_closed-still v Load (open_at t.0) e))

view_loading-max : (v : View) (ts : List LostTry) → (view_loading v ts).max_pending ≡ v.max_pending
view_loading-max v [] = refl
view_loading-max v (t ∷ ts) = view_loading-max (view_looking v (open_at t.0)) ts

view_loading-append : (v : View) (ts : List LostTry) (t : LostTry) → view_loading v (ts ++ t ∷ []) ≡ view_looking (view_loading v ts) (open_at t.0)
view_loading-append v [] t = refl
view_loading-append v (u ∷ ts) t = view_loading-append (view_looking v (open_at u.0)) ts t

view_exchanging-max : (v : View) (ts : List LostTry) → (view_exchanging v ts).max_pending ≡ v.max_pending
view_exchanging-max v [] = refl
view_exchanging-max v (t ∷ ts) = view_exchanging-max (view_losing v t.1) ts

view_exchanging-append : (v : View) (ts : List LostTry) (t : LostTry) → view_exchanging v (ts ++ t ∷ []) ≡ view_losing (view_exchanging v ts) t.1
view_exchanging-append v [] t = refl
view_exchanging-append v (u ∷ ts) t = view_exchanging-append (view_losing v u.1) ts t

-- the tries of a pass so far, which all failed, and the pass as it is now
abbrev pub LostSoFar : SeatId → SeatId → Type 0
LostSoFar pass now = (ts : List LostTry) × AllLost pass.view.max_pending ts × (now ≡ after_trying pass ts)

pub lost_of : (gate : GateId) (pass now : SeatId) → LostSoFar pass now → IsSeatOf gate pass → IsSeatOf gate now
lost_of gate pass now so_far of = grind (arith, view_trying-max)

pub lost_knows : (pass now : SeatId) → LostSoFar pass now → knows_closed pass.view ≡ true → knows_closed now.view ≡ true
lost_knows pass now so_far e = ap (λ (s : SeatId). knows_closed s.view) so_far.2 ∙ view_trying-knows pass.view so_far.0 e

pub one_more_lost : (pass now next : SeatId) → LostSoFar pass now → TriesToEnter now (Lost next) → LostSoFar pass next
one_more_lost pass now next so_far tries =
    let try = subst (λ (s : SeatId). TriesToEnter s (Lost next)) so_far.2 tries in
    let t : LostTry = (try.0, try.1) in (
      so_far.0 ++ t ∷ [],
      AllLost-append pass.view.max_pending so_far.0 t so_far.1 (subst (λ n. try.0 < n) (view_trying-max pass.view so_far.0) try.2) try.4,
      try.5 ∙ ap (with_view pass) (sym (view_trying-append pass.view so_far.0 t)),
    )

pub at_last : (pass now : SeatId) (outcome : Enter) → LostSoFar pass now → TriesToEnter now outcome → ¬ IsLost outcome → EntersAtLast pass outcome
at_last pass now outcome so_far tries not = (so_far.0, so_far.1, subst (λ (s : SeatId). TriesToEnter s outcome) so_far.2 tries, not)

-- the same for a pass that is used next to a unit, with both as they are now
abbrev pub LostSoFarHolding : SeatId → SeatId → SeatId → SeatId → Type 0
LostSoFarHolding held held' pass now =
    (ts : List LostTry) × AllLost pass.view.max_pending ts × (held' ≡ after_loading held ts) × (now ≡ after_exchanging pass ts)

pub lost_of_holding : (gate : GateId) (held held' pass now : SeatId) → LostSoFarHolding held held' pass now
    → IsSeatOf gate held → IsSeatOf gate pass → IsSeatOf gate held' × IsSeatOf gate now
lost_of_holding gate held held' pass now so_far held_of pass_of = grind (arith, view_loading-max, view_exchanging-max)

pub one_more_lost_holding : (held held' held'' pass now next : SeatId) → LostSoFarHolding held held' pass now
    → TriesToEnterHolding held' held'' now (Lost next) → LostSoFarHolding held held'' pass next
one_more_lost_holding held held' held'' pass now next so_far tries =
    let try = subst (λ (s : SeatId × SeatId). TriesToEnterHolding s.0 held'' s.1 (Lost next)) (λ i. (so_far.2 i, so_far.3 i)) tries in
    let t : LostTry = (try.0, try.1) in (
      so_far.0 ++ t ∷ [],
      AllLost-append pass.view.max_pending so_far.0 t so_far.1 (subst (λ n. try.0 < n) (view_exchanging-max pass.view so_far.0) try.2) try.3,
      try.4 ∙ ap (with_view held) (sym (view_loading-append held.view so_far.0 t)),
      try.5 ∙ ap (with_view pass) (sym (view_exchanging-append pass.view so_far.0 t)),
    )
