-- The first ten files, file by file.
use Rattle.site_check.proofs.Prelude.{common_steps, ◌≡◌, ◌∙◌, ℕ, zero, suc, ◌+◌, ◌<◌, ◌≤◌, Bool, true, false, not, ◌||◌, cond, List, [], ◌∷◌, length, map, fold, drop, take, get_or, refl, sym, ap, inl, inr, arith, cases_Bool, cond-true, cond-false, bytes_eq, bytes_eq-Decides, Bor, pointed, Counts, one_if}
use Rattle.std.proofs.Common.{◌==◌, insert, ne_eqb, take_while}
use Rattle.std.proofs.Math.Bool.{or-false}
use Rattle.std.proofs.lemmas.Bool.{or_right}
use Rattle.std.proofs.lemmas.List.{drop_all, length-take, take-map, take-take}
use Rattle.std.proofs.lemmas.List.Folds.{length-prefix_len}
use Rattle.std.specs.List.{prefix_len}
use Rattle.site_check.proofs.Marks.{filter_twice, neither}
use Rattle.site_check.proofs.RootFolders.{cut_here}
use Rattle.site_check.proofs.RowsLeft.{filter_all}
use Rattle.site_check.specs.Worst.{FileLinks, counted, each_once, is_before, is_done, links_of, put, put_ten, put_undone, undone}
use Rattle.site_check.specs.declared.worst.Count as code

-- ---- a file is inserted

pub within_files : {X : Type 0} (p : X → Bool) (xs : List X) → length (take_while p xs) ≤ length xs
within_files p xs = omega (arith, length-take (prefix_len p xs) xs)

abbrev comes_first : code.Count → code.Count → Bool
comes_first c other = not (is_before (links_of c) (links_of other))

one_plus : (n : ℕ) → 1 + n ≡ suc n
one_plus n = omega arith

put_here : (c : code.Count) (xs : List code.Count) → map links_of (insert xs (prefix_len (comes_first c) xs) c) ≡ put (map links_of xs) (links_of c)
put_here c [] = refl
put_here c (x ∷ xs) =
    let n = prefix_len (comes_first c) xs in
    let is = is_before (links_of c) (links_of x) in
    let here = links_of c ∷ links_of x ∷ map links_of xs in
    let later = links_of x ∷ put (map links_of xs) (links_of c) in
    elim (cases_Bool is) [
      | inl before ↦ ap (λ k. map links_of (insert (x ∷ xs) k c)) (cond-false (comes_first c x) (1 + n) 0 (ap not before)) ∙ sym (cond-true is here later before)
      | inr after ↦
          ap (λ k. map links_of (insert (x ∷ xs) k c)) (cond-true (comes_first c x) (1 + n) 0 (ap not after) ∙ one_plus n) ∙ ap (λ l. links_of x ∷ l) (put_here c xs)
          ∙ sym (cond-false is here later after)
    ]

pub put_there : (xs : List code.Count) (c : code.Count) (place : ℕ) → place ≡ length (take_while (λ other. not (is_before (links_of c) (links_of other))) xs) →
    map links_of (take 10 (insert xs place c)) ≡ put_ten (map links_of xs) (links_of c)
put_there xs c place is =
    let n = prefix_len (comes_first c) xs in
    ap (λ p. map links_of (take 10 (insert xs p c))) (is ∙ length-prefix_len (comes_first c) xs) ∙ sym (take-map links_of 10 (insert xs n c)) ∙ ap (take 10) (put_here c xs)

-- ---- ten of all

same_front : (n : ℕ) (x : FileLinks) (xs : List FileLinks) → take n (x ∷ take n xs) ≡ take n (x ∷ xs)
same_front zero x xs = refl
same_front (suc n) x xs = ap (λ l. x ∷ l) (take-take n (suc n) xs (omega arith))

-- what is beyond the first files does not come before them later
put_taken : (n : ℕ) (xs : List FileLinks) (one : FileLinks) → take n (put (take n xs) one) ≡ take n (put xs one)
put_taken zero xs one = refl
put_taken (suc n) [] one = refl
put_taken (suc n) (x ∷ xs) one =
    let is = is_before one x in
    elim (cases_Bool is) [
      | inl before ↦
          ap (take (suc n)) (cond-true is (one ∷ x ∷ take n xs) (x ∷ put (take n xs) one) before) ∙ ap (λ l. one ∷ l) (same_front n x xs)
          ∙ sym (ap (take (suc n)) (cond-true is (one ∷ x ∷ xs) (x ∷ put xs one) before))
      | inr after ↦
          ap (take (suc n)) (cond-false is (one ∷ x ∷ take n xs) (x ∷ put (take n xs) one) after) ∙ ap (λ l. x ∷ l) (put_taken n xs one)
          ∙ sym (ap (take (suc n)) (cond-false is (one ∷ x ∷ xs) (x ∷ put xs one) after))
    ]

pub ten_of_all : (sorted files : List FileLinks) → fold put_ten (take 10 sorted) files ≡ take 10 (fold put sorted files)
ten_of_all sorted [] = refl
ten_of_all sorted (one ∷ files) = ap (λ s. fold put_ten s files) (put_taken 10 sorted one) ∙ ten_of_all (put sorted one) files

-- ---- file by file

-- none is done at first
pub none_done : (counts : Counts) → length counts.entries ≡ 0 → (file : List ℕ) → is_done counts file ≡ false
none_done counts none file = grind (arith, common_steps)

pub done_again : (done : List ℕ → Bool) (file other : List ℕ) → done file ≡ true → done other ≡ (done other || bytes_eq file other)
done_again done file other is =
    elim (cases_Bool (bytes_eq file other)) [
      | inl same ↦ ap done (sym ((bytes_eq-Decides file other).0 same)) ∙ is ∙ sym (or_right (done other) (bytes_eq file other) same)
      | inr differ ↦ sym (ap (λ b. done other || b) differ ∙ or-false (done other))
    ]

zero_plus : (new old : ℕ) → new ≡ one_if false + old → new ≡ old
zero_plus new old is = omega (arith, is)

pub done_more : (same : Bool) (old new : ℕ) → new ≡ one_if same + old → not (new == 0) ≡ (not (old == 0) || same)
done_more true old new is = ap not (ne_eqb new 0 (λ e. omega (arith, is, e))) ∙ sym (or_right (not (old == 0)) true refl)
done_more false old new is = ap (λ n. not (n == 0)) (zero_plus new old is) ∙ sym (or-false (not (old == 0)))

-- what is left with one file at the front
undone_front : (old new : List ℕ → Bool) (file : List ℕ) (more : List (List ℕ)) → ((other : List ℕ) → new other ≡ (old other || bytes_eq file other)) →
    undone old (file ∷ more) ≡ cond (not (old file)) (file ∷ undone new more) (undone new more)
undone_front old new file more marks =
    ap (λ l. cond (not (old file)) (file ∷ l) l)
    (filter_twice (λ (other : List ℕ). not (old other)) (λ (other : List ℕ). not (bytes_eq file other)) (λ (other : List ℕ). not (new other)) (λ other. ap not (marks other) ∙ neither (old other) (bytes_eq file other)) (each_once more))

fold_front : (done : Bool) (all : List (List ℕ)) (file : List ℕ) (rest : List (List ℕ)) (so_far : List FileLinks) →
    fold put_ten so_far (map (counted all) (cond (not done) (file ∷ rest) rest)) ≡ fold put_ten (put_undone done so_far (counted all file)) (map (counted all) rest)
fold_front true all file rest so_far = refl
fold_front false all file rest so_far = refl

pub file_more : (files : List (Bor (List ℕ))) (i : ℕ) (file : Bor (List ℕ)) (old new : List ℕ → Bool) (all : List (List ℕ)) (so_far next whole : List FileLinks) → i < length files → file ≡ get_or files i file →
    ((other : List ℕ) → new other ≡ (old other || bytes_eq file.now other)) → next ≡ put_undone (old file.now) so_far (counted all file.now) →
    fold put_ten so_far (map (counted all) (undone old (pointed (drop i files)))) ≡ whole → fold put_ten next (map (counted all) (undone new (pointed (drop (i + 1) files)))) ≡ whole
file_more files i file old new all so_far next whole below is marks pushed before =
    let rest : List (List ℕ) = undone new (pointed (drop (i + 1) files)) in
    ap (λ l. fold put_ten l (map (counted all) rest)) pushed
    ∙ sym (fold_front (old file.now) all file.now rest so_far)
    ∙ ap (λ l. fold put_ten so_far (map (counted all) l)) (sym (undone_front old new file.now (pointed (drop (i + 1) files)) marks))
    ∙ ap (λ l. fold put_ten so_far (map (counted all) (undone old (pointed l)))) (sym (cut_here files i file below is)) ∙ before

pub files_end : (files : List (Bor (List ℕ))) (i : ℕ) (done : List ℕ → Bool) (all : List (List ℕ)) (so_far whole : List FileLinks) → length files ≤ i →
    fold put_ten so_far (map (counted all) (undone done (pointed (drop i files)))) ≡ whole → so_far ≡ whole
files_end files i done all so_far whole past before = sym (ap (λ l. fold put_ten so_far (map (counted all) (undone done (pointed l)))) (drop_all i files past)) ∙ before

-- ---- all files

pub all_undone : (files : List (List ℕ)) → undone (λ _. false) files ≡ each_once files
all_undone files = filter_all (λ (_ : List ℕ). true) (λ _. refl) (each_once files)
