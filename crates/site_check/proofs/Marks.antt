-- The marks of files, and the first pages of files without one.
use Rattle.site_check.proofs.Prelude.{◌≡◌, ◌∙◌, ℕ, ◌+◌, ◌<◌, ◌≤◌, Bool, true, false, not, ◌||◌, ◌&&◌, cond, List, [], ◌∷◌, ◌++◌, Option, Some, None, length, map, filter, drop, get_or, slice_get, refl, sym, ap, inl, inr, arith, cases_Bool, cond-true, cond-false, append_assoc, PageFile, shown}
use Rattle.std.proofs.Common.{◌==◌, eq-eqb, nat_lt, ne_eqb, replicate, set}
use Rattle.std.proofs.Math.Bool.{or-false}
use Rattle.std.proofs.lemmas.Bool.{cases_eq, cases_lt, le-ltb, lt-ltb, or_right}
use Rattle.std.proofs.lemmas.List.{drop_all, get_or-replicate, get_or-set_other, get_or-set_same, get_or_default, get_or_past, length-replicate}
use Rattle.site_check.proofs.LeadsFound.{no_more}
use Rattle.site_check.proofs.Namesakes.{some_at}
use Rattle.site_check.proofs.RootFolders.{drop_there}
use Rattle.site_check.specs.Unreached.{first_pages, is_file, is_left, is_marked, is_same_file, left_among, left_at, page_file}

-- ---- one mark more

or_yes : (before is : Bool) → is ≡ true → (before || is) ≡ true
or_yes before is passes = or_right before is passes

or_no : (before is : Bool) → is ≡ false → (before || is) ≡ before
or_no before is fails = ap (λ b. before || b) fails ∙ or-false before

pub marked : (marks : List Bool) (own index : ℕ) → own < length marks → is_marked (set marks own true) index ≡ (is_marked marks index || own == index)
marked marks own index within =
    elim (cases_eq own index) [
      | inl same ↦
          ap (λ k. get_or (set marks own true) k true) (sym same) ∙ get_or-set_same marks own true true within
          ∙ sym (or_yes (is_marked marks index) (own == index) (eq-eqb own index same))
      | inr differ ↦
          get_or-set_other marks own index true true (λ e. differ (sym e))
          ∙ sym (or_no (is_marked marks index) (own == index) (ne_eqb own index differ))
    ]

-- an index that no file has is marked
pub marked_past : (marks : List Bool) (own index : ℕ) → length marks ≤ own → (is_marked marks index || own == index) ≡ is_marked marks index
marked_past marks own index past =
    elim (cases_eq own index) [
      | inl same ↦
          or_yes (is_marked marks index) (own == index) (eq-eqb own index same)
          ∙ sym (ap (λ k. get_or marks k true) (sym same) ∙ get_or_past marks own true past)
      | inr differ ↦ or_no (is_marked marks index) (own == index) (ne_eqb own index differ)
    ]

-- a mark that is read
pub mark_past : (marks : List Bool) (own : ℕ) → length marks ≤ own → is_marked marks own ≡ true
mark_past marks own past = get_or_past marks own true past

pub mark_there : (marks : List Bool) (own : ℕ) (d : Bool) → own < length marks → get_or marks own d ≡ is_marked marks own
mark_there marks own d within = get_or_default marks own d true within

-- no mark is set at first
pub none_marked : (n index : ℕ) → is_marked (replicate n false) index ≡ not (nat_lt index n)
none_marked n index =
    elim (cases_lt index n) [
      | inl within ↦ get_or-replicate n index false true within ∙ sym (ap not (lt-ltb index n within))
      | inr past ↦ get_or_past (replicate n false) index true (omega (arith, past, length-replicate n false)) ∙ sym (ap not (le-ltb index n past))
    ]

not_left : (b : Bool) → not b ≡ false → b ≡ true
not_left true h = refl
not_left false h = sym h

-- a file that is not left is marked already
pub marked_before : (is_done : ℕ → Bool) (file : Option ℕ) (index : ℕ) → is_left is_done file ≡ false → is_done index ≡ (is_done index || is_file index file)
marked_before is_done None index off = sym (or-false (is_done index))
marked_before is_done (Some own) index off =
    elim (cases_eq own index) [
      | inl same ↦
          let done : is_done own ≡ true = not_left (is_done own) off in
          ap is_done (sym same) ∙ done ∙ sym (or_yes (is_done index) (own == index) (eq-eqb own index same))
      | inr differ ↦ sym (or_no (is_done index) (own == index) (ne_eqb own index differ))
    ]

-- ---- one result more

pub or_more : (first so_far test : Bool) → ((first || so_far) || test) ≡ (first || (so_far || test))
or_more true so_far test = refl
or_more false so_far test = refl

-- ---- one page more

-- with a filter before it
pub filter_twice : {X : Type 0} (p q both : X → Bool) → ((x : X) → both x ≡ (q x && p x)) → (xs : List X) → filter p (filter q xs) ≡ filter both xs
filter_twice p q both is [] = refl
filter_twice p q both is (x ∷ xs) =
    elim (cases_Bool (q x)) [
      | inl passes ↦
          ap (filter p) (cond-true (q x) (x ∷ filter q xs) (filter q xs) passes)
          ∙ (λ i. cond (p x) (x ∷ filter_twice p q both is xs i) (filter_twice p q both is xs i))
          ∙ ap (λ b. cond b (x ∷ filter both xs) (filter both xs)) (sym (is x ∙ ap (λ b. b && p x) passes))
      | inr fails ↦
          ap (filter p) (cond-false (q x) (x ∷ filter q xs) (filter q xs) fails) ∙ filter_twice p q both is xs
          ∙ ap (λ b. cond b (x ∷ filter both xs) (filter both xs)) (sym (is x ∙ ap (λ b. b && p x) fails))
    ]

pub neither : (a b : Bool) → not (a || b) ≡ (not b && not a)
neither true true = refl
neither true false = refl
neither false true = refl
neither false false = refl

-- what is left after the file of a page was marked
left_after : (old new : ℕ → Bool) (file : Option ℕ) → ((index : ℕ) → new index ≡ (old index || is_file index file)) → (other : Option ℕ) →
    is_left new other ≡ (not (is_same_file file other) && is_left old other)
left_after old new file marks None = refl
left_after old new file marks (Some index) = ap not (marks index) ∙ neither (old index) (is_file index file)

abbrev shown_all : List ℕ → List PageFile → List (List ℕ)
shown_all front pages = map (λ page. shown front page.url) pages

shown_front : (front : List ℕ) (page : PageFile) (b : Bool) (pages : List PageFile) → shown_all front (cond b (page ∷ pages) pages) ≡ cond b (shown front page.url ∷ []) [] ++ shown_all front pages
shown_front front page true pages = refl
shown_front front page false pages = refl

-- the page at the front, if its file is not marked, and what is left then
left_front : (old new : ℕ → Bool) (front : List ℕ) (page : PageFile) (more : List PageFile) → ((index : ℕ) → new index ≡ (old index || is_file index page.file)) →
    left_among old front (page ∷ more) ≡ cond (is_left old page.file) (shown front page.url ∷ []) [] ++ left_among new front more
left_front old new front page more marks =
    let rest : List PageFile = first_pages more in
    let same : filter (λ (p : PageFile). is_left old p.file) (filter (λ (other : PageFile). not (is_same_file page.file other.file)) rest) ≡ filter (λ (p : PageFile). is_left new p.file) rest =
    filter_twice (λ (p : PageFile). is_left old p.file) (λ (other : PageFile). not (is_same_file page.file other.file)) (λ (p : PageFile). is_left new p.file) (λ p. left_after old new page.file marks p.file) rest in
    ap (λ l. shown_all front (cond (is_left old page.file) (page ∷ l) l)) same ∙ shown_front front page (is_left old page.file) (filter (λ (p : PageFile). is_left new p.file) rest)

pub page_more : (old new : ℕ → Bool) (front : List ℕ) (pages : List PageFile) (n : ℕ) (so_far next all : List (List ℕ)) → n < length pages →
    ((index : ℕ) → new index ≡ (old index || is_file index (page_file (slice_get pages n)))) → next ≡ so_far ++ left_at old front (slice_get pages n) →
    so_far ++ left_among old front (drop n pages) ≡ all → next ++ left_among new front (drop (n + 1) pages) ≡ all
page_more old new front pages n so_far next all within marks pushed before =
    let (page, at) = some_at pages n within in
    let own : List (List ℕ) = left_at old front (Some page) in
    let rest : List (List ℕ) = left_among new front (drop (n + 1) pages) in
    let here : left_among old front (drop n pages) ≡ own ++ rest =
    ap (left_among old front) (drop_there pages n page at)
    ∙ left_front old new front page (drop (n + 1) pages) (λ index. marks index ∙ ap (λ o. old index || is_file index (page_file o)) at) in
    ap (λ l. l ++ rest) (pushed ∙ ap (λ o. so_far ++ left_at old front o) at) ∙ append_assoc so_far own rest ∙ ap (λ l. so_far ++ l) (sym here) ∙ before

pub pages_done : (is_done : ℕ → Bool) (front : List ℕ) (pages : List PageFile) (n : ℕ) (so_far all : List (List ℕ)) → length pages ≤ n → so_far ++ left_among is_done front (drop n pages) ≡ all → so_far ≡ all
pages_done is_done front pages n so_far all past before =
    sym (ap (λ l. so_far ++ left_among is_done front l) (drop_all n pages past) ∙ no_more so_far) ∙ before
