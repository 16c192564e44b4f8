-- How often texts are among others, the first that is often there, and the pages in a folder.
use Rattle.site_check.proofs.Prelude.{cond, ◌≡◌, ◌∙◌, ℕ, zero, suc, ◌+◌, ◌<◌, ◌^◌, ◌≤◌, Bool, true, false, ◌||◌, List, [], ◌∷◌, Option, Some, None, length, length-map, filter, drop, get_or, slice_get, refl, subst, sym, ap, inl, inr, arith, common_steps, cases_Bool, cond-true, cond-false, bytes_eq, bytes_eq-Decides, count_by-le-length, list_any, Bor, pointed, Counts, PageFile, count_at, first_in, is_often, often_first, one_if, path_count}
use Rattle.std.proofs.Common.{add-one, drop-cons}
use Rattle.std.proofs.lemmas.List.{drop_all}
use Rattle.std.proofs.lemmas.List.Sums.{sum_by-cons}
use Rattle.std.specs.Option.{unwrap_or}
use Rattle.std.specs.BTreeMap as tree
use Rattle.hash_order.specs.HashOrder.{by_hash}
use Rattle.site_check.proofs.LeadsFound.{put_at}
use Rattle.site_check.proofs.Namesakes.{some_at}

-- ---- the counts

-- a folder that is in a map with one more
pub count_put : (old new : Counts) (folder : List ℕ) (count : ℕ) → tree.Updates by_hash old new folder (Some count) → count ≡ count_at old folder + 1 →
    (other : List ℕ) → count_at new other ≡ one_if (bytes_eq folder other) + count_at old other
count_put old new folder count updates is other =
    let at : Option ℕ → ℕ = λ o. unwrap_or o 0 in
    ap at (put_at old new folder (Some count) updates other)
    ∙ elim (cases_Bool (bytes_eq folder other)) [
      | inl same ↦
          let own : count_at old folder ≡ count_at old other = ap (count_at old) ((bytes_eq-Decides folder other).0 same) in
          let one : count ≡ 1 + count_at old other = omega (arith, is, own) in
          ap at (cond-true (bytes_eq folder other) (Some count) _ same) ∙ one ∙ sym (ap (λ b. one_if b + count_at old other) same)
      | inr differ ↦
          let none : count_at old other ≡ 0 + count_at old other = omega arith in
          ap at (cond-false (bytes_eq folder other) (Some count) _ differ) ∙ none ∙ sym (ap (λ b. one_if b + count_at old other) differ)
    ]

one_for : (is : Bool) → is ≡ true → one_if is ≡ 1
one_for is passed = ap one_if passed

path_more : (folder : Bor (List ℕ)) (more : List (Bor (List ℕ))) (other : List ℕ) → path_count (pointed (folder ∷ more)) other ≡ one_if (bytes_eq folder.now other) + path_count (pointed more) other
path_more folder more other = sum_by-cons (λ x. one_if (bytes_eq x other)) folder.now (pointed more)

-- what is counted so far and what is left are all
pub record AreCounts (counts : Counts) (rest folders : List (Bor (List ℕ))) : Type 0 where
  pub each : (folder : List ℕ) → count_at counts folder + path_count (pointed rest) folder ≡ path_count (pointed folders) folder

-- the count of the next one fits
pub count_fits : (counts : Counts) (folder : Bor (List ℕ)) (more folders : List (Bor (List ℕ))) → length folders < 2 ^ 64 → AreCounts counts (folder ∷ more) folders → count_at counts folder.now + 1 < 2 ^ 64
count_fits counts folder more folders small are =
    let own : bytes_eq folder.now folder.now ≡ true = (bytes_eq-Decides folder.now folder.now).1 refl in
    let all : count_at counts folder.now + path_count (pointed (folder ∷ more)) folder.now ≡ path_count (pointed folders) folder.now = are.each folder.now in
    let one : one_if (bytes_eq folder.now folder.now) ≡ 1 = one_for (bytes_eq folder.now folder.now) own in
    let most : path_count (pointed folders) folder.now ≤ length (pointed folders) = count_by-le-length (λ other. bytes_eq other folder.now) (pointed folders) in
    let same : length (pointed folders) ≡ length folders = length-map folders (λ (x : Bor (List ℕ)). x.now) in
    omega (arith, small, all, one, most, same, path_more folder more folder.now)

-- what is left from an index on
pub cut_here : {X : Type 0} (xs : List X) (i : ℕ) (x : X) → i < length xs → x ≡ get_or xs i x → drop i xs ≡ x ∷ drop (i + 1) xs
cut_here xs i x below is = drop-cons xs i x below ∙ ap (λ y. y ∷ drop (suc i) xs) (sym is) ∙ ap (λ n. x ∷ drop n xs) (sym (add-one i))

pub counts_more : (old new : Counts) (folders : List (Bor (List ℕ))) (i : ℕ) (folder : Bor (List ℕ)) → i < length folders → folder ≡ get_or folders i folder → length folders < 2 ^ 64 →
    AreCounts old (drop i folders) folders → (count_at old folder.now + 1 < 2 ^ 64 → (other : List ℕ) → count_at new other ≡ one_if (bytes_eq folder.now other) + count_at old other) →
    AreCounts new (drop (i + 1) folders) folders
counts_more old new folders i folder below is small are counted =
    let more = drop (i + 1) folders in
    let here = subst (λ l. AreCounts old l folders) (cut_here folders i folder below is) are in
    record {
      each = λ other.
          let all : count_at old other + path_count (pointed (folder ∷ more)) other ≡ path_count (pointed folders) other = here.each other in
          let next : count_at new other ≡ one_if (bytes_eq folder.now other) + count_at old other = counted (count_fits old folder more folders small here) other in
          omega (arith, all, next, path_more folder more other);
    }

pub counts_end : (counts : Counts) (folders : List (Bor (List ℕ))) (i : ℕ) → length folders ≤ i → AreCounts counts (drop i folders) folders → (folder : List ℕ) → count_at counts folder ≡ path_count (pointed folders) folder
counts_end counts folders i past are folder =
    let none : path_count (pointed (drop i folders)) folder ≡ 0 = ap (λ l. path_count (pointed l) folder) (drop_all i folders past) in
    omega (arith, none, are.each folder)

-- ---- the first that is often there

-- the folder at an index, which the test is about
often_at : (of : ℕ) (count_of : List ℕ → ℕ) (folders : List (Bor (List ℕ))) (i : ℕ) (folder : Bor (List ℕ)) → i < length folders → folder ≡ get_or folders i folder →
    often_first of count_of (pointed (drop i folders)) ≡ first_in (cond (is_often of (count_of folder.now)) (folder.now ∷ filter (λ f. is_often of (count_of f)) (pointed (drop (i + 1) folders))) (filter (λ f. is_often of (count_of f)) (pointed (drop (i + 1) folders))))
often_at of count_of folders i folder below is = ap (λ l. often_first of count_of (pointed l)) (cut_here folders i folder below is)

pub often_here : (of : ℕ) (count_of : List ℕ → ℕ) (folders : List (Bor (List ℕ))) (i : ℕ) (folder : Bor (List ℕ)) (test : Bool) (all : Option (List ℕ)) → i < length folders → folder ≡ get_or folders i folder →
    test ≡ is_often of (count_of folder.now) → test ≡ true → often_first of count_of (pointed (drop i folders)) ≡ all → Some folder.now ≡ all
often_here of count_of folders i folder test all below is tested often first =
    let more = filter (λ f. is_often of (count_of f)) (pointed (drop (i + 1) folders)) in
    sym (often_at of count_of folders i folder below is ∙ ap first_in (cond-true (is_often of (count_of folder.now)) (folder.now ∷ more) more (sym tested ∙ often))) ∙ first

pub often_skip : (of : ℕ) (count_of : List ℕ → ℕ) (folders : List (Bor (List ℕ))) (i : ℕ) (folder : Bor (List ℕ)) (test : Bool) (all : Option (List ℕ)) → i < length folders → folder ≡ get_or folders i folder →
    test ≡ is_often of (count_of folder.now) → test ≡ false → often_first of count_of (pointed (drop i folders)) ≡ all → often_first of count_of (pointed (drop (i + 1) folders)) ≡ all
often_skip of count_of folders i folder test all below is tested seldom first =
    let more = filter (λ f. is_often of (count_of f)) (pointed (drop (i + 1) folders)) in
    sym (often_at of count_of folders i folder below is ∙ ap first_in (cond-false (is_often of (count_of folder.now)) (folder.now ∷ more) more (sym tested ∙ seldom))) ∙ first

pub often_none : (of : ℕ) (count_of : List ℕ → ℕ) (folders : List (Bor (List ℕ))) (i : ℕ) (all : Option (List ℕ)) → length folders ≤ i → often_first of count_of (pointed (drop i folders)) ≡ all → None ≡ all
often_none of count_of folders i all past first = sym (ap (λ l. often_first of count_of (pointed l)) (drop_all i folders past)) ∙ first

-- ---- the pages of a site

drop_at : {X : Type 0} (xs : List X) (i : ℕ) (x : X) → slice_get xs i ≡ Some x → drop i xs ≡ x ∷ drop (suc i) xs
drop_at [] i x at = grind (arith, common_steps)
drop_at (y ∷ xs) zero x at = grind (arith, common_steps)
drop_at (y ∷ xs) (suc i) x at = drop_at xs i x at

pub drop_there : {X : Type 0} (xs : List X) (i : ℕ) (x : X) → slice_get xs i ≡ Some x → drop i xs ≡ x ∷ drop (i + 1) xs
drop_there xs i x at = drop_at xs i x at ∙ ap (λ n. x ∷ drop n xs) (sym (add-one i))

-- the page with this number, which the test is about
page_here : (test : PageFile → Bool) (pages : List PageFile) (n : ℕ) (is : Bool) → n < length pages → ((page : PageFile) → slice_get pages n ≡ Some page → is ≡ test page) →
    list_any test (drop n pages) ≡ (is || list_any test (drop (n + 1) pages))
page_here test pages n is within tested =
    let (page, at) = some_at pages n within in
    ap (list_any test) (drop_there pages n page at) ∙ (λ i. sym (tested page at) i || list_any test (drop (n + 1) pages))

pub page_found : (test : PageFile → Bool) (pages : List PageFile) (n : ℕ) (is all : Bool) → n < length pages → ((page : PageFile) → slice_get pages n ≡ Some page → is ≡ test page) → is ≡ true →
    list_any test (drop n pages) ≡ all → true ≡ all
page_found test pages n is all within tested found so_far =
    sym (page_here test pages n is within tested ∙ (λ i. found i || list_any test (drop (n + 1) pages))) ∙ so_far

pub page_passed : (test : PageFile → Bool) (pages : List PageFile) (n : ℕ) (is all : Bool) → n < length pages → ((page : PageFile) → slice_get pages n ≡ Some page → is ≡ test page) → is ≡ false →
    list_any test (drop n pages) ≡ all → list_any test (drop (n + 1) pages) ≡ all
page_passed test pages n is all within tested passed so_far =
    sym (page_here test pages n is within tested ∙ (λ i. passed i || list_any test (drop (n + 1) pages))) ∙ so_far

pub pages_end : (test : PageFile → Bool) (pages : List PageFile) (n : ℕ) (all : Bool) → length pages ≤ n → list_any test (drop n pages) ≡ all → false ≡ all
pages_end test pages n all past so_far = sym (ap (list_any test) (drop_all n pages past)) ∙ so_far
