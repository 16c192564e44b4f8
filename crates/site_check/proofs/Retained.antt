-- What `retain_mut` leaves, as far as the elements are seen.
use Rattle.site_check.proofs.Prelude.{◌≡◌, ◌∙◌, Bool, true, false, cond, List, [], ◌∷◌, map, filter, ap, subst}
use Rattle.std.specs.List.Retain.{RetainsInTurn}

-- an element that stays or not
one_more : {X V : Type 0} (view : X → V) (change : V → V) (b : Bool) (x y : X) (zs : List X) (vs : List V) → view y ≡ change (view x) → map view zs ≡ map change vs →
    map view (cond b (y ∷ zs) zs) ≡ map change (cond b (view x ∷ vs) vs)
one_more view change true x y zs vs is rest = λ i. is i ∷ rest i
one_more view change false x y zs vs is rest = rest

-- for a closure that changes no capture
pub retained : {S X V : Type 0} (R : S → X → Bool → S → X → Type 0) (view : X → V) (test : V → Bool) (change : V → V) (s : S) →
    ((x : X) (b : Bool) (t : S) (y : X) → R s x b t y → (b ≡ test (view x)) × (view y ≡ change (view x)) × (t ≡ s)) → (xs ys : List X) → RetainsInTurn R s xs ys →
    map view ys ≡ map change (filter test (map view xs))
retained R view test change s says [] ys h = ap (map view) h
retained R view test change s says (x ∷ xs) ys h =
    let said = says x h.0 h.1 h.2 h.3 in
    let rest = retained R view test change s says xs h.4 (subst (λ t. RetainsInTurn R t xs h.4) said.2 h.5) in
    let more = filter test (map view xs) in
    ap (map view) h.6 ∙ one_more view change h.0 x h.2 h.4 more said.1 rest ∙ ap (λ b. map change (cond b (view x ∷ more) more)) said.0
