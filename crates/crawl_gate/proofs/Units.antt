-- How the number of units held changes with one seat.
use Rattle.crawl_gate.proofs.Prelude.{◌≡◌, ℕ, zero, suc, ◌+◌, ◌≤◌, List, [], ◌∷◌, ◌++◌, set, sym, refl, ap, arith, some, some-injective, some-ne-none, get_elem?, View, units_of, units_held, fresh_view}

-- a view that was written is at its seat
pub at_itself : (vs : List View) (seat : ℕ) (v w : View) → get_elem? vs seat ≡ some v → get_elem? (set vs seat w) seat ≡ some w
at_itself [] seat v w at = absurd (some-ne-none v (sym at))
at_itself (x ∷ xs) zero v w at = refl
at_itself (x ∷ xs) (suc seat) v w at = at_itself xs seat v w at

-- one seat's view changes from v to w
pub units_held-set : (vs : List View) (seat : ℕ) (v w : View) → get_elem? vs seat ≡ some v
    → units_held (set vs seat w) + units_of v.holds_unit ≡ units_held vs + units_of w.holds_unit
units_held-set [] seat v w at = absurd (some-ne-none v (sym at))
units_held-set (x ∷ xs) zero v w at = grind (arith, some-injective)
units_held-set (x ∷ xs) (suc seat) v w at = let rest = units_held-set xs seat v w at in omega arith

-- no seat holds more units than all seats together
pub units_held-at : (vs : List View) (seat : ℕ) (v : View) → get_elem? vs seat ≡ some v → units_of v.holds_unit ≤ units_held vs
units_held-at [] seat v at = absurd (some-ne-none v (sym at))
units_held-at (x ∷ xs) zero v at = grind (arith, some-injective)
units_held-at (x ∷ xs) (suc seat) v at = let rest = units_held-at xs seat v at in omega arith

-- a new pass adds no unit
pub units_held-fresh : (vs : List View) (max : ℕ) → units_held (vs ++ fresh_view max ∷ []) ≡ units_held vs
units_held-fresh [] max = refl
units_held-fresh (x ∷ xs) max = ap (λ n. units_of x.holds_unit + n) (units_held-fresh xs max)
