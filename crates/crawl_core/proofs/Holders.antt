-- Ascending lists of numbers (the senders that hold a unit), and maps by such keys (the words that senders remember).
use Rattle.crawl_core.proofs.Prelude.{◌≡◌, ℕ, zero, suc, ◌≤◌, Bool, List, [], ◌∷◌, slice_get, Some, refl, ap, arith, nat_tests, nat_cmp, insert_entry, insert_key, remove_entry, remove_key, same_Some}

-- each number is above those before it, and none is below the least
abbrev pub Rising : ℕ → List ℕ → Type 0
Rising least [] = Unit {0}
Rising least (x ∷ xs) = (least ≤ x) × Rising (suc x) xs

pub lower : (least less : ℕ) (xs : List ℕ) → less ≤ least → Rising least xs → Rising less xs
lower least less [] below rising = tt
lower least less (x ∷ xs) below rising = (omega (arith, below, rising.0), rising.1)

pub Rising-insert_key : (least : ℕ) (xs : List ℕ) (k : ℕ) → least ≤ k → Rising least xs → Rising least (insert_key nat_cmp xs k)
Rising-insert_key least [] k above rising = (above, tt)
Rising-insert_key least (x ∷ xs) k above rising = grind (arith, nat_tests, Rising-insert_key (suc x) xs)

pub Rising-remove_key : (least : ℕ) (test : ℕ → Bool) (xs : List ℕ) → Rising least xs → Rising least (remove_key test xs)
Rising-remove_key least test [] rising = tt
Rising-remove_key least test (x ∷ xs) rising = grind (arith, nat_tests, Rising-remove_key (suc x) test xs, lower)

not_below : (least : ℕ) (xs : List ℕ) (i s : ℕ) → Rising least xs → slice_get xs i ≡ Some s → least ≤ s
not_below least [] i s rising at = absurd (cc)
not_below least (x ∷ xs) zero s rising at = let same = same_Some _ _ at in omega (arith, same, rising.0)
not_below least (x ∷ xs) (suc i) s rising at = let rest = not_below (suc x) xs i s rising.1 at in omega (arith, rest, rising.0)

-- ascending numbers differ
pub rising_differ : (least : ℕ) (xs : List ℕ) → Rising least xs → (i j s : ℕ) → slice_get xs i ≡ Some s → slice_get xs j ≡ Some s → i ≡ j
rising_differ least [] rising i j s at_i at_j = absurd (cc)
rising_differ least (x ∷ xs) rising zero zero s at_i at_j = refl
rising_differ least (x ∷ xs) rising zero (suc j) s at_i at_j = let same = same_Some _ _ at_i in let above = not_below (suc x) xs j s rising.1 at_j in absurd (omega (arith, same, above))
rising_differ least (x ∷ xs) rising (suc i) zero s at_i at_j = let same = same_Some _ _ at_j in let above = not_below (suc x) xs i s rising.1 at_i in absurd (omega (arith, same, above))
rising_differ least (x ∷ xs) rising (suc i) (suc j) s at_i at_j = ap suc (rising_differ (suc x) xs rising.1 i j s at_i at_j)

-- the keys ascend
abbrev pub RisingKeys : {X : Type 0} → ℕ → List (ℕ × X) → Type 0
RisingKeys least [] = Unit {0}
RisingKeys least (e ∷ es) = (least ≤ e.0) × RisingKeys (suc e.0) es

pub lower_keys : {X : Type 0} (least less : ℕ) (es : List (ℕ × X)) → less ≤ least → RisingKeys least es → RisingKeys less es
lower_keys least less [] below rising = tt
lower_keys least less (e ∷ es) below rising = (omega (arith, below, rising.0), rising.1)

pub RisingKeys-insert_entry : {X : Type 0} (least : ℕ) (es : List (ℕ × X)) (k : ℕ) (v : X) → least ≤ k → RisingKeys least es → RisingKeys least (insert_entry nat_cmp es k v)
RisingKeys-insert_entry least [] k v above rising = (above, tt)
RisingKeys-insert_entry {X} least (e ∷ es) k v above rising = grind (arith, nat_tests, RisingKeys-insert_entry (suc e.0) es k)

pub RisingKeys-remove_entry : {X : Type 0} (least : ℕ) (test : ℕ → Bool) (es : List (ℕ × X)) → RisingKeys least es → RisingKeys least (remove_entry test es)
RisingKeys-remove_entry least test [] rising = tt
RisingKeys-remove_entry {X} least test (e ∷ es) rising = grind (arith, nat_tests, RisingKeys-remove_entry (suc e.0) test es rising.1, lower_keys)
