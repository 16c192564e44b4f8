-- A seat that begins and ends a step with no slot leaves the slots of a table as they are.
use Rattle.crawl_gate.proofs.Prelude.{◌≡◌, ℕ, zero, suc, List, [], ◌∷◌, set, refl, ap, ◌∙◌, arith, Option, none, some, Act, keeps, takes, gives, chain, Valid, homes_after, carried_after, set_again}

abbrev Homes : Type 0
Homes = List (Option (Unit {0}))

abbrev Carried : Type 0
Carried = List (ℕ × (Unit {0}))

set_twice : (homes : Homes) (i : ℕ) (a b : Option (Unit {0})) → set (set homes i a) i b ≡ set homes i b
set_twice [] i a b = refl
set_twice (x ∷ xs) zero a b = refl
set_twice (x ∷ xs) (suc i) a b = ap (λ l. x ∷ l) (set_twice xs i a b)

-- the homes after the seat has given all its slots back
abbrev restored : Homes → Carried → Homes
restored homes [] = homes
restored homes (c ∷ cs) = restored (set homes c.0 (some c.1)) cs

same_restored : (homes : Homes) (carried : Carried) (act : Act (Unit {0})) → Valid homes carried act
    → restored (homes_after homes carried act) (carried_after carried act) ≡ restored homes carried
same_restored homes carried keeps valid = refl
same_restored homes carried (takes i y) valid = ap (λ l. restored l carried) (set_twice homes i none (some y) ∙ set_again homes i (some y) valid)
same_restored homes [] gives valid = refl
same_restored homes (c ∷ cs) gives valid = refl
same_restored homes carried (chain a b) valid =
    same_restored (homes_after homes carried a) (carried_after carried a) b valid.1 ∙ same_restored homes carried a valid.0

pub homes_stay : (homes : Homes) (act : Act (Unit {0})) → Valid homes [] act → carried_after [] act ≡ [] → homes_after homes [] act ≡ homes
homes_stay homes act valid none_left = grind (arith, same_restored)
