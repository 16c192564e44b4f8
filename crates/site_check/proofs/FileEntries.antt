-- Entries that name a file: an entry is cut at its first mark.
use Rattle.site_check.proofs.Prelude.{◌≡◌, ◌∙◌, ℕ, zero, suc, ◌<◌, ◌≤◌, true, false, ◌||◌, List, [], ◌∷◌, ◌++◌, length, drop, take, refl, sym, ap, arith, cond-true, cond-false, begins, names_file, file_in, file_mark, target_in}
use Rattle.std.proofs.Common.{◌≢◌}
use Rattle.site_check.proofs.Patterns.{any_none, begins_not, begins_with}

pub names_nowhere : (entry : List ℕ) → ((k : ℕ) → k ≤ length entry → (rest : List ℕ) → drop k entry ≢ file_mark ++ rest) → names_file entry ≡ false
names_nowhere entry lacks = any_none (begins file_mark) entry (λ k within. begins_not file_mark (drop k entry) (lacks k within))

-- the mark is at this index and at none before
pub record IsCut (entry target : List ℕ) (i : ℕ) : Type 0 where
  pub within : i ≤ length entry
  pub first : (k : ℕ) → k < i → (rest : List ℕ) → drop k entry ≢ file_mark ++ rest
  pub here : drop i entry ≡ file_mark ++ target

is_here : (entry target : List ℕ) → entry ≡ file_mark ++ target → begins file_mark entry ≡ true
is_here entry target here = ap (begins file_mark) here ∙ begins_with file_mark target

is_later : (byte : ℕ) (entry target : List ℕ) (i : ℕ) → IsCut (byte ∷ entry) target (suc i) → begins file_mark (byte ∷ entry) ≡ false
is_later byte entry target i cut = begins_not file_mark (byte ∷ entry) (cut.first 0 (omega arith))

less : (byte : ℕ) (entry target : List ℕ) (i : ℕ) → IsCut (byte ∷ entry) target (suc i) → IsCut entry target i
less byte entry target i cut = record { within = omega (arith, cut.within); first = λ k below. cut.first (suc k) (omega (arith, below)); here = cut.here }

pub names_there : (entry target : List ℕ) (i : ℕ) → IsCut entry target i → names_file entry ≡ true
names_there [] target zero cut = is_here [] target cut.here
names_there [] target (suc i) cut = absurd (omega (arith, cut.within))
names_there (byte ∷ entry) target zero cut = λ j. is_here (byte ∷ entry) target cut.here j || names_file entry
names_there (byte ∷ entry) target (suc i) cut = (λ j. is_later byte entry target i cut j || names_file entry) ∙ names_there entry target i (less byte entry target i cut)

pub file_there : (entry target : List ℕ) (i : ℕ) → IsCut entry target i → take i entry ≡ file_in entry
file_there [] target zero cut = refl
file_there [] target (suc i) cut = absurd (omega (arith, cut.within))
file_there (byte ∷ entry) target zero cut = sym (cond-true (begins file_mark (byte ∷ entry)) _ _ (is_here (byte ∷ entry) target cut.here))
file_there (byte ∷ entry) target (suc i) cut =
    ap (λ file. byte ∷ file) (file_there entry target i (less byte entry target i cut)) ∙ sym (cond-false (begins file_mark (byte ∷ entry)) _ _ (is_later byte entry target i cut))

pub target_there : (entry target : List ℕ) (i : ℕ) → IsCut entry target i → target ≡ target_in entry
target_there [] target zero cut = absurd (omega (arith, ap length cut.here))
target_there [] target (suc i) cut = absurd (omega (arith, cut.within))
target_there (byte ∷ entry) target zero cut =
    sym (cond-true (begins file_mark (byte ∷ entry)) _ _ (is_here (byte ∷ entry) target cut.here) ∙ ap (drop 2) cut.here)
target_there (byte ∷ entry) target (suc i) cut =
    target_there entry target i (less byte entry target i cut) ∙ sym (cond-false (begins file_mark (byte ∷ entry)) _ _ (is_later byte entry target i cut))
