-- The order of locations: by file, line and column.
use Rattle.site_check.proofs.Prelude.{◌≡◌, ◌∙◌, ℕ, ◌<◌, Bool, true, false, ◌&&◌, ◌||◌, List, [], ◌∷◌, ◌++◌, filter, map, refl, sym, ap, subst, inl, inr, arith, bytes_eq, bytes_eq-Decides, cases_Bool, cond-true, cond-false}
use Rattle.std.proofs.Common.{◌==◌, ◌⊎◌, eq-eqb, eqb-true}
use Rattle.std.proofs.lemmas.Bool.{and_parts, lt-ltb, ltb-true, or_cases, or_left, or_right}
use Rattle.std.proofs.lemmas.Cmp.{nat_list_cmp_total}
use Rattle.std.specs.Cmp.Lexicographic.{slice_cmp}
use Rattle.std.specs.Ordering.{is_lt, nat_cmp}
use Rattle.std.specs.Prelude.{nat_lt}
use Rattle.std.specs.declared.cmp.Ordering.{Ordering}
use Rattle.std.specs.declared.cmp.Ordering.TheVariants.{Less, Equal, Greater}
use Rattle.site_check.specs.Located.{comes_last, put_last}
use Rattle.site_check.specs.Locations.{Location, ascends, ascends_after, comes_before, in_row, is_earlier}

-- ---- one location more

both : (a b : Bool) → a ≡ true → b ≡ true → (a && b) ≡ true
both a b is_a is_b = (λ i. is_a i && is_b i)

ascends_on : (first : Location) (more : List Location) (at : Location) → ascends_after first more ≡ true → comes_last (first ∷ more) at ≡ true → ascends_after first (more ++ at ∷ []) ≡ true
ascends_on first [] at up last = both (comes_before first at) true last refl
ascends_on first (next ∷ more) at up last =
    let parts = and_parts (comes_before first next) (ascends_after next more) up in
    both (comes_before first next) (ascends_after next (more ++ at ∷ [])) parts.0 (ascends_on next more at parts.1 last)

ascends_more : (all : List Location) (at : Location) → ascends all ≡ true → comes_last all at ≡ true → ascends (all ++ at ∷ []) ≡ true
ascends_more [] at up last = refl
ascends_more (first ∷ more) at up last = ascends_on first more at up last

-- a location in a row is at the same place
last_in_row : (target : List ℕ) (all : List Location) (at : Location) → comes_last all at ≡ true → comes_last all (in_row target at) ≡ true
last_in_row target [] at last = refl
last_in_row target (one ∷ []) at last = last
last_in_row target (first ∷ next ∷ more) at last = last_in_row target (next ∷ more) at last

pub put_ascends : (target : List ℕ) (before new : List Location) (at : Location) → new ≡ put_last target before at → ascends before ≡ true → ascends new ≡ true
put_ascends target before new at put up =
    subst (λ l. ascends l ≡ true) (sym put)
    (elim (cases_Bool (comes_last before at)) [
      | inl last ↦
          subst (λ l. ascends l ≡ true) (sym (cond-true (comes_last before at) (before ++ in_row target at ∷ []) before last)) (ascends_more before (in_row target at) up (last_in_row target before at last))
      | inr other ↦ subst (λ l. ascends l ≡ true) (sym (cond-false (comes_last before at) (before ++ in_row target at ∷ []) before other)) up
    ])

-- ---- some of the locations

no_truth : false ≡ true → ⊥
no_truth is = cc

less_of : (o : Ordering) → is_lt o ≡ true → o ≡ Less
less_of Less is = refl
less_of Equal is = absurd (no_truth is)
less_of Greater is = absurd (no_truth is)

before_parts : (a b : Location) → comes_before a b ≡ true → (slice_cmp nat_cmp a.file b.file ≡ Less) ⊎ ((a.file ≡ b.file) × (is_earlier a b ≡ true))
before_parts a b before =
    elim (or_cases (is_lt (slice_cmp nat_cmp a.file b.file)) (bytes_eq a.file b.file && is_earlier a b) before) [
      | inl less ↦ inl (less_of (slice_cmp nat_cmp a.file b.file) less)
      | inr same ↦ let parts = and_parts (bytes_eq a.file b.file) (is_earlier a b) same in inr ((bytes_eq-Decides a.file b.file).0 parts.0, parts.1)
    ]

numbers_trans : (l m n p q r : ℕ) → (nat_lt l m || (l == m && nat_lt p q)) ≡ true → (nat_lt m n || (m == n && nat_lt q r)) ≡ true → (nat_lt l n || (l == n && nat_lt p r)) ≡ true
numbers_trans l m n p q r first second =
    elim (or_cases (nat_lt l m) (l == m && nat_lt p q) first) [
      | inl less ↦
          let below : l < m = ltb-true l m less in
          elim (or_cases (nat_lt m n) (m == n && nat_lt q r) second) [
            | inl more ↦ let above : m < n = ltb-true m n more in or_left (nat_lt l n) (l == n && nat_lt p r) (lt-ltb l n (omega (arith, below, above)))
            | inr same ↦ let is : m ≡ n = eqb-true m n (and_parts (m == n) (nat_lt q r) same).0 in or_left (nat_lt l n) (l == n && nat_lt p r) (lt-ltb l n (omega (arith, below, is)))
          ]
      | inr same ↦
          let is : l ≡ m = eqb-true l m (and_parts (l == m) (nat_lt p q) same).0 in
          let left : p < q = ltb-true p q (and_parts (l == m) (nat_lt p q) same).1 in
          elim (or_cases (nat_lt m n) (m == n && nat_lt q r) second) [
            | inl more ↦ let above : m < n = ltb-true m n more in or_left (nat_lt l n) (l == n && nat_lt p r) (lt-ltb l n (omega (arith, is, above)))
            | inr again ↦
                let also : m ≡ n = eqb-true m n (and_parts (m == n) (nat_lt q r) again).0 in
                let right : q < r = ltb-true q r (and_parts (m == n) (nat_lt q r) again).1 in
                or_right (nat_lt l n) (l == n && nat_lt p r) (both (l == n) (nat_lt p r) (eq-eqb l n (is ∙ also)) (lt-ltb p r (omega (arith, left, right))))
          ]
    ]

earlier_trans : (a b c : Location) → is_earlier a b ≡ true → is_earlier b c ≡ true → is_earlier a c ≡ true
earlier_trans a b c first second = numbers_trans a.line b.line c.line a.column b.column c.column first second

comes_trans : (a b c : Location) → comes_before a b ≡ true → comes_before b c ≡ true → comes_before a c ≡ true
comes_trans a b c first second =
    let cmp : List ℕ → List ℕ → Ordering = slice_cmp nat_cmp in
    let less : cmp a.file c.file ≡ Less → comes_before a c ≡ true = λ is. or_left (is_lt (cmp a.file c.file)) (bytes_eq a.file c.file && is_earlier a c) (ap is_lt is) in
    elim (before_parts a b first) [
      | inl ab ↦ elim (before_parts b c second) [ inl bc ↦ less (nat_list_cmp_total.trans a.file b.file c.file ab bc) | inr bc ↦ less (ap (cmp a.file) (sym bc.0) ∙ ab) ]
      | inr ab ↦
          elim (before_parts b c second) [
            | inl bc ↦ less (ap (λ f. cmp f c.file) ab.0 ∙ bc)
            | inr bc ↦
                or_right (is_lt (cmp a.file c.file)) (bytes_eq a.file c.file && is_earlier a c)
                (both (bytes_eq a.file c.file) (is_earlier a c) ((bytes_eq-Decides a.file c.file).1 (ab.0 ∙ bc.0)) (earlier_trans a b c ab.1 bc.1))
          ]
    ]

after_less : (first at : Location) (more : List Location) → comes_before first at ≡ true → ascends_after at more ≡ true → ascends_after first more ≡ true
after_less first at [] less up = refl
after_less first at (next ∷ more) less up =
    let parts = and_parts (comes_before at next) (ascends_after next more) up in
    both (comes_before first next) (ascends_after next more) (comes_trans first at next less parts.0) parts.1

after_filter : (p : Location → Bool) (first : Location) (more : List Location) → ascends_after first more ≡ true → ascends_after first (filter p more) ≡ true
after_filter p first [] up = refl
after_filter p first (at ∷ more) up =
    let parts = and_parts (comes_before first at) (ascends_after at more) up in
    elim (cases_Bool (p at)) [
      | inl passes ↦
          subst (λ l. ascends_after first l ≡ true) (sym (cond-true (p at) (at ∷ filter p more) (filter p more) passes)) (both (comes_before first at) (ascends_after at (filter p more)) parts.0 (after_filter p at more parts.1))
      | inr fails ↦
          subst (λ l. ascends_after first l ≡ true) (sym (cond-false (p at) (at ∷ filter p more) (filter p more) fails)) (after_filter p first more (after_less first at more parts.0 parts.1))
    ]

ascends_rest : (first : Location) (more : List Location) → ascends_after first more ≡ true → ascends more ≡ true
ascends_rest first [] up = refl
ascends_rest first (next ∷ more) up = (and_parts (comes_before first next) (ascends_after next more) up).1

pub ascends_filter : (p : Location → Bool) (all : List Location) → ascends all ≡ true → ascends (filter p all) ≡ true
ascends_filter p [] up = refl
ascends_filter p (first ∷ more) up =
    elim (cases_Bool (p first)) [
      | inl passes ↦ subst (λ l. ascends l ≡ true) (sym (cond-true (p first) (first ∷ filter p more) (filter p more) passes)) (after_filter p first more up)
      | inr fails ↦ subst (λ l. ascends l ≡ true) (sym (cond-false (p first) (first ∷ filter p more) (filter p more) fails)) (ascends_filter p more (ascends_rest first more up))
    ]

pub map_filter : {X Y : Type 0} (f : X → Y) (p : Y → Bool) (xs : List X) → map f (filter (λ x. p (f x)) xs) ≡ filter p (map f xs)
map_filter f p [] = refl
map_filter f p (x ∷ xs) =
    let kept = filter (λ x. p (f x)) xs in
    elim (cases_Bool (p (f x))) [
      | inl passes ↦
          ap (map f) (cond-true (p (f x)) (x ∷ kept) kept passes) ∙ ap (λ l. f x ∷ l) (map_filter f p xs) ∙ sym (cond-true (p (f x)) (f x ∷ filter p (map f xs)) (filter p (map f xs)) passes)
      | inr fails ↦ ap (map f) (cond-false (p (f x)) (x ∷ kept) kept fails) ∙ map_filter f p xs ∙ sym (cond-false (p (f x)) (f x ∷ filter p (map f xs)) (filter p (map f xs)) fails)
    ]
