-- Lemmas on sets and maps as lists in the order of their keys.
use Rattle.crawl_core.proofs.Prelude.{◌≡◌, cond, ◌||◌, List, [], ◌∷◌, Some, refl, Ordering, arith, list_any, is_at, insert_entry, insert_key, lookup}
use Rattle.std.specs.Cmp.{IsTotalOrder}

-- a set contains an inserted key and the keys that it had
pub list_any-insert_key : {K : Type 0} {R : K → K → Ordering} → IsTotalOrder R → (q k : K) (keys : List K) → list_any (is_at (R q)) (insert_key R keys k) ≡ (is_at (R q) k || list_any (is_at (R q)) keys)
list_any-insert_key total q k [] = refl
list_any-insert_key {K} {R} total q k (x ∷ xs) = grind (arith, list_any-insert_key total q k xs)

-- a map has the inserted value at its key, and the old values at the other keys
pub lookup-insert_entry : {K X : Type 0} {R : K → K → Ordering} → IsTotalOrder R → (q k : K) (v : X) (entries : List (K × X)) → lookup (is_at (R q)) (insert_entry R entries k v) ≡ cond (is_at (R q) k) (Some v) (lookup (is_at (R q)) entries)
lookup-insert_entry total q k v [] = refl
lookup-insert_entry {K} {X} {R} total q k v (e ∷ es) = grind (arith, lookup-insert_entry total q k v es)
