-- Results with their numbers: URLs that begin alike, and two parts that are sorted one by one.
use Rattle.result_order.proofs.Prelude.{◌≡◌, ℕ, zero, suc, ◌+◌, ◌-◌, ◌*◌, ◌<◌, ◌≤◌, Bool, false, List, [], ◌∷◌, ◌++◌, length, take, drop, get_or, slice_index, refl, sym, ap, subst, ◌∙◌, arith, inl, inr, All, Contains, IsPermutation, IsNonDecreasingBy, IsSortedBy, IsSortedByKey, slice_cmp, nat_list_cmp_total, nat_cmp, is_lt, ordering_then, ordering_reverse, cases_lt, cases_order, cases_eq, map-append, length-append, length-map, take-append-drop, get_or_append_left, get_or-append_right, get_or-map, All-permutation, IsPermutation-append, IsPermutation-map, IsPermutation-sym, IsNonDecreasingBy-take, IsNonDecreasingBy-drop, Contains-permutation, PageResult, Numbered, AreAlikeWithin, BeginAlike, bytes_from, IsSixteen, AllBeginAlike, AreInOrder, ArePrepared, AllEqual, ArePartedAt, IsNumbered, pages_of}
use Rattle.std.proofs.Math.Seq.{take-append_seam}
use Rattle.std.proofs.lemmas.List.Elements.{All-contains, All-take, All-drop, Contains-get_or, Contains-append_left, Contains-append_right}
use Rattle.std.specs.Int.Digits.{number_from_digits_after, AllBelowBase}
use Rattle.std.specs.declared.cmp.Ordering.TheVariants.{Less, Equal}
use Rattle.std.proofs.lemmas.Bool.Decides.{nat_tests}

-- ---- sixteen bytes as a number: the numbers of two texts that begin alike are ordered as the texts are

abbrev after : ℕ → List ℕ → ℕ
after n bytes = number_from_digits_after 256 n bytes

abbrev Small : List ℕ → Type 0
Small bytes = AllBelowBase 256 bytes

-- ---- numbers

rises : (count : ℕ) (s t : List ℕ) (i j a b : ℕ) → Small (bytes_from s i count) → a < b → after a (bytes_from s i count) < after b (bytes_from t j count)
rises zero s t i j a b small less = less
rises (suc count) s t i j a b small less = grind (arith, nat_tests, rises count, slice_index)

-- two texts have the same bytes from one index up to another, and there the byte of the first is less
record FirstLess (s t : List ℕ) (from : ℕ) : Type 0 where
  index : ℕ
  alike : (k : ℕ) → from ≤ k → k < index → slice_index s k ≡ slice_index t k
  less : slice_index s index < slice_index t index

less_somewhere : (count : ℕ) (s t : List ℕ) (from n : ℕ) → Small (bytes_from s from count) → Small (bytes_from t from count)
    → after n (bytes_from s from count) < after n (bytes_from t from count) → FirstLess s t from
less_somewhere zero s t from n small_s small_t less = absurd (omega arith)
less_somewhere (suc count) s t from n small_s small_t less = grind (arith, cases_order, cases_eq, rises, less_somewhere count s t (suc from))

-- ---- texts

is_less : (x y : ℕ) → x < y → nat_cmp x y ≡ Less
is_less x y less = grind (arith, nat_tests)

is_equal : (x y : ℕ) → x ≡ y → nat_cmp x y ≡ Equal
is_equal x y same = grind (arith, nat_tests)

less_text : (index : ℕ) (a b : List ℕ) → BeginAlike index a b → slice_index a index < slice_index b index → slice_cmp nat_cmp a b ≡ Less
less_text zero [] [] alike less = absurd (omega arith)
less_text zero [] (y ∷ b) alike less = refl
less_text zero (x ∷ a) [] alike less = absurd (omega arith)
less_text zero (x ∷ a) (y ∷ b) alike less = ap (λ o. ordering_then o (slice_cmp nat_cmp a b)) (is_less x y less)
less_text (suc index) [] [] alike less = absurd (omega arith)
less_text (suc index) [] (y ∷ b) alike less = refl
less_text (suc index) (x ∷ a) [] alike less = absurd (omega arith)
less_text (suc index) (x ∷ a) (y ∷ b) alike less =
    ap (λ o. ordering_then o (slice_cmp nat_cmp a b)) (is_equal x y (alike zero (omega arith)))
    ∙ less_text index a b (λ k below. alike (suc k) (omega arith)) less

less_number : (a b : List ℕ) (from m n : ℕ) → BeginAlike from a b → IsSixteen a from m → IsSixteen b from n → m < n → is_lt (slice_cmp nat_cmp b a) ≡ false
less_number a b from m n alike one other less =
    let first = less_somewhere 16 a b from 0 one.bytes other.bytes (omega (arith, one.value, other.value, less)) in
    let is = less_text first.index a b (λ k below. elim (cases_lt k from) [ inl early ↦ alike k early | inr late ↦ first.alike k late below ]) first.less in
    ap is_lt (nat_list_cmp_total.antisymm b a ∙ ap ordering_reverse is)

equal_number : (a b : List ℕ) (from m n : ℕ) → BeginAlike from a b → IsSixteen a from m → IsSixteen b from n → m ≡ n → BeginAlike (from + 16) a b
equal_number a b from m n alike one other same = grind arith

-- ---- pages and their numbers

record Has (pages : List Numbered) (page : PageResult) : Type 0 where
  numbered : Numbered
  among : Contains pages numbered
  is : numbered.page ≡ page

has_at : (pages : List Numbered) (page : PageResult) (k : ℕ) → k < length (pages_of pages) → get_or (pages_of pages) k page ≡ page → Has pages page
has_at [] page k below is = absurd (omega arith)
has_at (c ∷ pages) page zero below is = record { numbered = c; among = (zero, omega arith, refl); is = is }
has_at (c ∷ pages) page (suc k) below is =
    let rest = has_at pages page k (omega arith) is in
    record { numbered = rest.numbered; among = (suc rest.among.0, omega (arith, rest.among.1), rest.among.2); is = rest.is }

has_page : (pages : List Numbered) (page : PageResult) → Contains (pages_of pages) page → Has pages page
has_page pages page has = has_at pages page has.0 has.1 has.2

parts : (index : ℕ) (pages : List Numbered) → pages_of pages ≡ pages_of (take index pages) ++ pages_of (drop index pages)
parts index pages = ap pages_of (sym (take-append-drop index pages)) ∙ map-append (λ (c : Numbered). c.page) (take index pages) (drop index pages)

in_front : (index : ℕ) (pages : List Numbered) (page : PageResult) → Contains (pages_of (take index pages)) page → Contains (pages_of pages) page
in_front index pages page has = subst (λ ps. Contains ps page) (sym (parts index pages)) (Contains-append_left _ _ page has)

in_back : (index : ℕ) (pages : List Numbered) (page : PageResult) → Contains (pages_of (drop index pages)) page → Contains (pages_of pages) page
in_back index pages page has = subst (λ ps. Contains ps page) (sym (parts index pages)) (Contains-append_right _ _ page has)

-- ---- what begins alike

alike_permuted : (count : ℕ) (xs ys : List PageResult) → IsPermutation xs ys → AllBeginAlike count xs → AllBeginAlike count ys
alike_permuted count xs ys moved alike = λ a b in_a in_b.
    alike a b (Contains-permutation ys xs a (IsPermutation-sym xs ys moved) in_a) (Contains-permutation ys xs b (IsPermutation-sym xs ys moved) in_b)

pub prepared : (from levels : ℕ) (old numbered sorted : List Numbered) → AllBeginAlike from (pages_of old) → from + 16 * levels ≤ 4080 → pages_of numbered ≡ pages_of old
    → All (IsNumbered from) numbered → IsPermutation numbered sorted → IsNonDecreasingBy (λ (p : Numbered). p.number) sorted → ArePrepared from levels sorted
prepared from levels old numbered sorted alike room same all moved rising = record {
  alike = alike_permuted from (pages_of numbered) (pages_of sorted) (IsPermutation-map (λ (p : Numbered). p.page) numbered sorted moved) (subst (AllBeginAlike from) (sym same) alike);
  room = room;
  numbered = All-permutation (IsNumbered from) numbered sorted moved all;
  rising = rising;
}

pub prepared_front : (from levels index : ℕ) (pages front : List Numbered) → ArePrepared from levels pages → front ≡ take index pages → ArePrepared from levels front
prepared_front from levels index pages front whole is = subst (ArePrepared from levels) (sym is) (record {
  alike = λ a b in_a in_b. whole.alike a b (in_front index pages a in_a) (in_front index pages b in_b);
  room = whole.room;
  numbered = All-take (IsNumbered from) index pages whole.numbered;
  rising = IsNonDecreasingBy-take (λ (p : Numbered). p.number) index pages whole.rising;
})

pub prepared_back : (from levels index : ℕ) (pages back : List Numbered) → ArePrepared from levels pages → back ≡ drop index pages → ArePrepared from levels back
prepared_back from levels index pages back whole is = subst (ArePrepared from levels) (sym is) (record {
  alike = λ a b in_a in_b. whole.alike a b (in_back index pages a in_a) (in_back index pages b in_b);
  room = whole.room;
  numbered = All-drop (IsNumbered from) index pages whole.numbered;
  rising = IsNonDecreasingBy-drop (λ (p : Numbered). p.number) index pages whole.rising;
})

pub alike_further : (from : ℕ) (pages : List Numbered) → AllBeginAlike from (pages_of pages) → All (IsNumbered from) pages → AllEqual pages → AllBeginAlike (from + 16) (pages_of pages)
alike_further from pages alike numbered equal = λ a b in_a in_b.
    let one = has_page pages a in_a in
    let other = has_page pages b in_b in
    let further = equal_number one.numbered.page.url other.numbered.page.url from one.numbered.number other.numbered.number
    (subst (λ p. BeginAlike from p.url other.numbered.page.url) (sym one.is) (subst (λ p. BeginAlike from a.url p.url) (sym other.is) (alike a b in_a in_b)))
    (All-contains (IsNumbered from) pages one.numbered numbered one.among) (All-contains (IsNumbered from) pages other.numbered numbered other.among) (equal one.numbered other.numbered one.among other.among) in
    subst (λ p. BeginAlike (from + 16) p.url b.url) one.is (subst (λ p. BeginAlike (from + 16) one.numbered.page.url p.url) other.is further)

pub alike_up_to : (from end : ℕ) (text : List ℕ) (pages : List Numbered) → AllBeginAlike from (pages_of pages) → All (λ (p : Numbered). AreAlikeWithin from end text p.page.url) pages → AllBeginAlike end (pages_of pages)
alike_up_to from end text pages alike all = λ a b in_a in_b k below. elim (cases_lt k from) [
  | inl early ↦ alike a b in_a in_b k early
  | inr late ↦ sym (same a in_a k late below) ∙ same b in_b k late below
]
  where
    same : (a : PageResult) → Contains (pages_of pages) a → (k : ℕ) → from ≤ k → k < end → slice_index text k ≡ slice_index a.url k
    same a in_a k late below =
        let one = has_page pages a in_a in
        subst (λ (p : PageResult). slice_index text k ≡ slice_index p.url k) one.is (All-contains (λ (p : Numbered). AreAlikeWithin from end text p.page.url) pages one.numbered all one.among k late below)

-- ---- two sorted lists, one after the other

sorted_joined : {X : Type 0} (less : X → X → Bool) (xs ys : List X) → IsSortedBy less xs → IsSortedBy less ys
    → ((a b : X) → Contains xs a → Contains ys b → less b a ≡ false) → IsSortedBy less (xs ++ ys)
sorted_joined less xs ys front back across = λ k d least below. elim (cases_order (k + 1) (length xs)) [
  | inl seam ↦
      let left = get_or_append_left xs ys d k (omega arith) in
      let right = get_or-append_right xs ys (length xs) (k + 1) d refl (omega arith) in
      let first = ap (λ n. get_or ys n d) (zero_from (k + 1) (length xs) seam) in
      let long : 0 < length ys = omega (arith, below, length-append xs ys) in
      rw (left, right, first) (across (get_or xs k d) (get_or ys 0 d) (Contains-get_or xs k d (omega arith)) (Contains-get_or ys 0 d long))
  | inr (inl within) ↦
      let left = get_or_append_left xs ys d k (omega arith) in
      let next = get_or_append_left xs ys d (k + 1) within in
      rw (left, next) (front k d least within)
  | inr (inr following) ↦
      let left = get_or-append_right xs ys (length xs) k d refl (omega arith) in
      let next = get_or-append_right xs ys (length xs) (k + 1) d refl (omega arith) in
      let step = ap (λ n. get_or ys n d) (one_more k (length xs) (omega arith)) in
      rw (left, next, step) (back (k - length xs) d (omega arith) (omega (arith, below, length-append xs ys)))
]
  where
    zero_from : (m n : ℕ) → m ≡ n → m - n ≡ 0
    zero_from m n same = omega arith

    one_more : (k n : ℕ) → n ≤ k → k + 1 - n ≡ k - n + 1
    one_more k n le = omega arith

pub parted_in_order : (from levels index : ℕ) (pages low high : List Numbered) → ArePrepared from levels pages → ArePartedAt pages index
    → IsPermutation (pages_of (take index pages)) (pages_of low) → IsPermutation (pages_of (drop index pages)) (pages_of high)
    → AreInOrder low → AreInOrder high → AreInOrder (low ++ high)
parted_in_order from levels index pages low high whole parted front back first second =
    sorted_joined (λ (a b : Numbered). is_lt (slice_cmp nat_cmp a.page.url b.page.url)) low high first second (λ a b in_a in_b. across a b in_a in_b)
  where
    page_among : (pages : List Numbered) (c : Numbered) (k : ℕ) → k < length pages → get_or pages k c ≡ c → Contains (pages_of pages) c.page
    page_among [] c k below is = absurd (omega arith)
    page_among (x ∷ pages) c zero below is = (zero, omega arith, ap (λ (y : Numbered). y.page) is)
    page_among (x ∷ pages) c (suc k) below is = let rest = page_among pages c k (omega arith) is in (suc rest.0, omega (arith, rest.1), rest.2)

    across : (a b : Numbered) → Contains low a → Contains high b → is_lt (slice_cmp nat_cmp b.page.url a.page.url) ≡ false
    across a b in_a in_b =
        let page_a = Contains-permutation (pages_of low) (pages_of (take index pages)) a.page (IsPermutation-sym _ _ front) (page_among low a in_a.0 in_a.1 in_a.2) in
        let page_b = Contains-permutation (pages_of high) (pages_of (drop index pages)) b.page (IsPermutation-sym _ _ back) (page_among high b in_b.0 in_b.1 in_b.2) in
        let one = has_page (take index pages) a.page page_a in
        let other = has_page (drop index pages) b.page page_b in
        let begun = whole.alike a.page b.page (in_front index pages a.page page_a) (in_back index pages b.page page_b) in
        let found = less_number one.numbered.page.url other.numbered.page.url from one.numbered.number other.numbered.number
        (subst (λ p. BeginAlike from p.url other.numbered.page.url) (sym one.is) (subst (λ p. BeginAlike from a.page.url p.url) (sym other.is) begun))
        (All-contains (IsNumbered from) (take index pages) one.numbered (All-take (IsNumbered from) index pages whole.numbered) one.among)
        (All-contains (IsNumbered from) (drop index pages) other.numbered (All-drop (IsNumbered from) index pages whole.numbered) other.among)
        (parted.less one.numbered other.numbered one.among other.among) in
        subst (λ p. is_lt (slice_cmp nat_cmp p.url a.page.url) ≡ false) other.is (subst (λ p. is_lt (slice_cmp nat_cmp other.numbered.page.url p.url) ≡ false) one.is found)

pub parts_permuted : (index : ℕ) (pages low high : List Numbered) → IsPermutation (pages_of (take index pages)) (pages_of low) → IsPermutation (pages_of (drop index pages)) (pages_of high)
    → IsPermutation (pages_of pages) (pages_of (low ++ high))
parts_permuted index pages low high front back =
    subst (λ ps. IsPermutation ps (pages_of (low ++ high))) (sym (parts index pages))
    (subst (λ ps. IsPermutation (pages_of (take index pages) ++ pages_of (drop index pages)) ps) (sym (map-append (λ (c : Numbered). c.page) low high)) (IsPermutation-append _ _ _ _ front back))

pub each_page_same : (old new : List Numbered) → length new ≡ length old → ((i : ℕ) (d : Numbered) → i < length old → (get_or new i d).page ≡ (get_or old i d).page) → pages_of new ≡ pages_of old
each_page_same [] [] long each = refl
each_page_same [] (y ∷ new) long each = absurd (omega arith)
each_page_same (x ∷ old) [] long each = absurd (omega arith)
each_page_same (x ∷ old) (y ∷ new) long each =
    λ i. each zero x (omega arith) i ∷ each_page_same old new (omega arith) (λ k d within. each (suc k) d (omega arith)) i

pub pages_in_order : (pages : List Numbered) → AreInOrder pages → IsSortedByKey (λ (r : PageResult). r.url) (slice_cmp nat_cmp) (pages_of pages)
pages_in_order pages sorted = λ k d least below.
    let some : Numbered = record { number = 0; page = d } in
    let within : k + 1 < length pages = omega (arith, below, length-map pages (λ (c : Numbered). c.page)) in
    let at = get_or-map (λ (c : Numbered). c.page) pages k some d (omega arith) in
    let next = get_or-map (λ (c : Numbered). c.page) pages (k + 1) some d within in
    rw (at, next) (sorted k some least within)

pub take_front : {X : Type 0} (n : ℕ) (xs ys : List X) → n ≡ length xs → take n (xs ++ ys) ≡ xs
take_front n xs ys e = ap (λ k. take k (xs ++ ys)) e ∙ take-append_seam xs ys
