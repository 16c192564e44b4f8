-- The rows of missing anchors are in order, each once, with the numbers of the results that link to them.
use Rattle.site_check.proofs.Prelude.{◌≡◌, ◌∙◌, ℕ, suc, ◌+◌, ◌<◌, Bool, true, false, ◌&&◌, List, [], ◌∷◌, ◌++◌, length, map, refl, sym, ap, subst, inl, inr, arith, cases_Bool, cond-true, cond-false, flat_map, bytes_eq-Decides, Lead, PageResult, SiteFiles}
use Rattle.std.proofs.Common.{◌==◌, ◌⊎◌, Ordering, Less, Equal, Greater, eqb-true}
use Rattle.std.proofs.lemmas.Bool.{and_parts}
use Rattle.std.proofs.lemmas.Cmp.{nat_cmp_total, nat_list_cmp_total, on_total, then_total, tied_itself}
use Rattle.std.proofs.lemmas.List.Elements.{All-contains, All-contains_itself, All-head, All-map, All-tail, All-weaker}
use Rattle.std.proofs.lemmas.Map.Text.{is_eq-slice_cmp}
use Rattle.std.specs.Cmp.{IsTotalOrder}
use Rattle.std.specs.Cmp.Lexicographic.{slice_cmp}
use Rattle.std.specs.List.{All, AllByRecursion, AllZip, Contains}
use Rattle.std.specs.List.Sorted.{IsSortedBy, IsStrictlySortedBy}
use Rattle.std.specs.Ordering.{is_eq, is_lt, nat_cmp, ordering_reverse, ordering_then}
use Rattle.std.proofs.lemmas.Bool.Decides.{nat_tests}
use Rattle.std.specs.Prelude.{if◌then◌else◌}
use native.Mathlib.Numerals.{unary_clauses}
use Rattle.document_links.specs.declared.anchors.PageAnchors.{PageAnchors}
use Rattle.site_check.proofs.AllPlaced.{contains_map, there}
use Rattle.site_check.proofs.LackedFound.{flat_has, has_flat}
use Rattle.site_check.proofs.LeadTargets.{Has, contains_had, has_contained}
use Rattle.site_check.proofs.Placed.{slice_get_contains}
use Rattle.site_check.specs.AnchorGroups.{AreApart, AreGrouped, Group, IsGroup, comes_first, group_row, lack_cmp, source_count, sources_after}
use Rattle.site_check.specs.Broken.{Row}
use Rattle.site_check.specs.LackedLinks.{lack_of}
use Rattle.site_check.specs.Lacks.{Anchor, AreAnchors, AreLacks, HasLinkTo, IsLack, IsLacked, IsRowOf, Lack, anchor_cmp, anchor_of}
use Rattle.site_check.specs.declared.missing_anchors.MissingAnchorLink.{MissingAnchorLink}
use Rattle.site_files.specs.declared.alias.Alias.{Alias}

-- ---- orders

pub anchors_total : IsTotalOrder anchor_cmp
anchors_total = then_total (on_total (λ (a : Anchor). a.url) nat_list_cmp_total) (on_total (λ (a : Anchor). a.fragment) nat_list_cmp_total)

pub lacks_total : IsTotalOrder lack_cmp
lacks_total = then_total (on_total anchor_of anchors_total) (on_total (λ (l : Lack). l.source) nat_cmp_total)

not_less : (o p : Ordering) → is_lt (ordering_then o p) ≡ false → is_lt o ≡ false
not_less Less p up = up
not_less Equal p up = refl
not_less Greater p up = refl

then_not_less : (o p : Ordering) → o ≡ Equal → is_lt (ordering_then o p) ≡ false → is_lt p ≡ false
then_not_less o p same up = ap (λ (q : Ordering). is_lt (ordering_then q p)) (sym same) ∙ up

less_by : (o p : Ordering) → p ≡ ordering_reverse o → is_lt o ≡ false → is_eq o ≡ false → p ≡ Less
less_by Less p back up other = absurd (true_false up)
  where
    true_false : true ≡ false → ⊥
    true_false is = cc
less_by Equal p back up other = absurd (true_false other)
  where
    true_false : true ≡ false → ⊥
    true_false is = cc
less_by Greater p back up other = back

eq_both : (o p : Ordering) → is_eq (ordering_then o p) ≡ (is_eq o && is_eq p)
eq_both Less p = refl
eq_both Equal p = refl
eq_both Greater p = refl

same_anchor : (a b : Anchor) → is_eq (anchor_cmp a b) ≡ true → a ≡ b
same_anchor a b is =
    let parts = and_parts (is_eq (slice_cmp nat_cmp a.url b.url)) (is_eq (slice_cmp nat_cmp a.fragment b.fragment)) (sym (eq_both (slice_cmp nat_cmp a.url b.url) (slice_cmp nat_cmp a.fragment b.fragment)) ∙ is) in
    let url = (bytes_eq-Decides a.url b.url).0 (sym (is_eq-slice_cmp a.url b.url) ∙ parts.0) in
    let fragment = (bytes_eq-Decides a.fragment b.fragment).0 (sym (is_eq-slice_cmp a.fragment b.fragment) ∙ parts.1) in
    λ i. record { url = url i; fragment = fragment i }

-- ---- links in order

abbrev pub Rises : List Lack → Type 0
Rises [] = Unit {0}
Rises (x ∷ []) = Unit {0}
Rises (x ∷ y ∷ more) = (is_lt (lack_cmp y x) ≡ false) × Rises (y ∷ more)

pub rises_links : (links : List MissingAnchorLink) → IsSortedBy comes_first links → Rises (map lack_of links)
rises_links [] up = tt
rises_links (x ∷ []) up = tt
rises_links (x ∷ y ∷ more) up =
    (up 0 x (omega arith) (omega arith), rises_links (y ∷ more) (λ k d low below. simp unary_clauses (simp unary_clauses at (up (suc k) d (omega arith) (omega (arith, below))))))

rises_back : (xs ys : List Lack) → Rises (xs ++ ys) → Rises ys
rises_back [] ys up = up
rises_back (x ∷ []) [] up = tt
rises_back (x ∷ []) (y ∷ ys) up = up.1
rises_back (x ∷ z ∷ xs) ys up = rises_back (z ∷ xs) ys up.1

rises_front : (xs ys : List Lack) → Rises (xs ++ ys) → Rises xs
rises_front [] ys up = tt
rises_front (x ∷ []) ys up = tt
rises_front (x ∷ z ∷ xs) ys up = (up.0, rises_front (z ∷ xs) ys up.1)

-- the last of the links to an anchor and the first of the others
seam : (xs : List Lack) (a : Anchor) (y : Lack) (ys : List Lack) → 0 < length xs → All (λ lack. anchor_of lack ≡ a) xs → Rises (xs ++ y ∷ ys) → is_lt (anchor_cmp (anchor_of y) a) ≡ false
seam [] a y ys some same up = absurd (omega (arith, some))
seam (x ∷ []) a y ys some same up =
    subst (λ (b : Anchor). is_lt (anchor_cmp (anchor_of y) b) ≡ false) (All-head (λ (lack : Lack). anchor_of lack ≡ a) x [] same) (not_less (anchor_cmp (anchor_of y) (anchor_of x)) (nat_cmp y.source x.source) up.0)
seam (x ∷ z ∷ xs) a y ys some same up = seam (z ∷ xs) a y ys (omega arith) (All-tail (λ (lack : Lack). anchor_of lack ≡ a) x (z ∷ xs) same) up.1

-- ---- groups in order

abbrev lacks_in : List Group → List Lack
lacks_in groups = flat_map (λ (g : Group). g.lacks) groups

-- the first link of a group
record Front (g : Group) : Type 0 where
  first : Lack
  others : List Lack
  are : g.lacks ≡ first ∷ others
  leads : anchor_of first ≡ g.anchor

front_in : (a : Anchor) (lacks : List Lack) → 0 < length lacks → All (λ lack. anchor_of lack ≡ a) lacks → Front (record { anchor = a; lacks = lacks })
front_in a [] some all = absurd (omega (arith, some))
front_in a (x ∷ xs) some all = record { first = x; others = xs; are = refl; leads = All-head (λ (lack : Lack). anchor_of lack ≡ a) x xs all }

next_less : (g h : Group) (rest : List Lack) → IsGroup g → IsGroup h → (g.anchor ≡ h.anchor → ⊥) → Rises (g.lacks ++ (h.lacks ++ rest)) → anchor_cmp g.anchor h.anchor ≡ Less
next_less g h rest own next apart up =
    let f = front_in h.anchor h.lacks next.some next.each in
    let there : Rises (g.lacks ++ (f.first ∷ (f.others ++ rest))) = subst (λ (l : List Lack). Rises (g.lacks ++ (l ++ rest))) f.are up in
    let low : is_lt (anchor_cmp h.anchor g.anchor) ≡ false = subst (λ (b : Anchor). is_lt (anchor_cmp b g.anchor) ≡ false) f.leads (seam g.lacks g.anchor f.first (f.others ++ rest) own.some own.each there) in
    elim (cases_Bool (is_eq (anchor_cmp h.anchor g.anchor))) [
      | inl same ↦ absurd (apart (sym (same_anchor h.anchor g.anchor same)))
      | inr other ↦ less_by (anchor_cmp h.anchor g.anchor) (anchor_cmp g.anchor h.anchor) (anchors_total.antisymm g.anchor h.anchor) low other
    ]

weaker : {K : Type 0} (P Q : K → Type 0) → ((x : K) → P x → Q x) → (xs : List K) → AllByRecursion P xs → AllByRecursion Q xs
weaker P Q f [] all = tt
weaker P Q f (x ∷ xs) all = (f x all.0, weaker P Q f xs all.1)

pub keys_ascend : (groups : List Group) → All IsGroup groups → AreApart groups → Rises (lacks_in groups) → IsStrictlySortedBy anchor_cmp (map (λ (g : Group). g.anchor) groups)
unfolding IsStrictlySortedBy
keys_ascend [] are apart up = tt
keys_ascend (g ∷ []) are apart up = (tt, tt)
keys_ascend (g ∷ h ∷ more) are apart up =
    let tail = All-tail IsGroup g (h ∷ more) are in
    let rest = keys_ascend (h ∷ more) tail apart.1 (rises_back g.lacks (lacks_in (h ∷ more)) up) in
    let here = next_less g h (lacks_in more) (All-head IsGroup g (h ∷ more) are) (All-head IsGroup h more tail) apart.0 up in
    ((here, weaker (λ (a : Anchor). anchor_cmp h.anchor a ≡ Less) (λ (a : Anchor). anchor_cmp g.anchor a ≡ Less) (λ a after. anchors_total.trans g.anchor h.anchor a here after) (map (λ (k : Group). k.anchor) more) rest.0), rest)

-- ---- the results of a group

abbrev srcs_after : ℕ → List Lack → List ℕ
srcs_after last [] = []
srcs_after last (lack ∷ more) = if last == lack.source then srcs_after lack.source more else lack.source ∷ srcs_after lack.source more

abbrev pub srcs : List Lack → List ℕ
srcs [] = []
srcs (lack ∷ more) = lack.source ∷ srcs_after lack.source more

count_after : (last : ℕ) (lacks : List Lack) → sources_after last lacks ≡ length (srcs_after last lacks)
count_after last [] = refl
count_after last (lack ∷ more) =
    elim (cases_Bool (last == lack.source)) [
      | inl same ↦
          (λ i. (cond-true (last == lack.source) 0 1 same i) + count_after lack.source more i) ∙ omega arith
          ∙ ap length (sym (cond-true (last == lack.source) (srcs_after lack.source more) (lack.source ∷ srcs_after lack.source more) same))
      | inr other ↦
          (λ i. (cond-false (last == lack.source) 0 1 other i) + count_after lack.source more i) ∙ omega arith
          ∙ ap length (sym (cond-false (last == lack.source) (srcs_after lack.source more) (lack.source ∷ srcs_after lack.source more) other))
    ]

pub source_counted : (lacks : List Lack) → source_count lacks ≡ length (srcs lacks)
source_counted [] = refl
source_counted (lack ∷ more) = ap (λ n. 1 + n) (count_after lack.source more) ∙ omega arith

-- each link has its result among them
has_after : (last : ℕ) (lacks : List Lack) (lack : Lack) → Has lacks lack → (last ≡ lack.source) ⊎ Has (srcs_after last lacks) lack.source
has_after last [] lack has = absurd has
has_after last (first ∷ more) lack has =
    let next : (first.source ≡ lack.source) ⊎ Has (srcs_after first.source more) lack.source =
    elim has [
      | inl same ↦ inl (ap (λ (l : Lack). l.source) same)
      | inr rest ↦ has_after first.source more lack rest
    ] in
    elim (cases_Bool (last == first.source)) [
      | inl same ↦
          let is : last ≡ first.source = eqb-true last first.source same in
          elim next [
            | inl own ↦ inl (is ∙ own)
            | inr rest ↦ inr (subst (λ (l : List ℕ). Has l lack.source) (sym (cond-true (last == first.source) (srcs_after first.source more) (first.source ∷ srcs_after first.source more) same)) rest)
          ]
      | inr other ↦ inr (subst (λ (l : List ℕ). Has l lack.source) (sym (cond-false (last == first.source) (srcs_after first.source more) (first.source ∷ srcs_after first.source more) other)) next)
    ]

pub has_source : (lacks : List Lack) (lack : Lack) → Has lacks lack → Has (srcs lacks) lack.source
has_source [] lack has = absurd has
has_source (first ∷ more) lack has =
    elim has [
      | inl same ↦ inl (ap (λ (l : Lack). l.source) same)
      | inr rest ↦ has_after first.source more lack rest
    ]

-- each of these results has a link
pub record HasSource (lacks : List Lack) (source : ℕ) : Type 0 where
  pub lack : Lack
  pub among : Has lacks lack
  pub own : lack.source ≡ source

later : (first : Lack) (more : List Lack) (source : ℕ) → HasSource more source → HasSource (first ∷ more) source
later first more source has = record { lack = has.lack; among = inr has.among; own = has.own }

from_after : (last : ℕ) (lacks : List Lack) (source : ℕ) → Has (srcs_after last lacks) source → HasSource lacks source
from_after last [] source has = absurd has
from_after last (first ∷ more) source has =
    elim (cases_Bool (last == first.source)) [
      | inl same ↦ later first more source (from_after first.source more source (subst (λ (l : List ℕ). Has l source) (cond-true (last == first.source) (srcs_after first.source more) (first.source ∷ srcs_after first.source more) same) has))
      | inr other ↦
          elim (subst (λ (l : List ℕ). Has l source) (cond-false (last == first.source) (srcs_after first.source more) (first.source ∷ srcs_after first.source more) other) has) [
            | inl own ↦ record { lack = first; among = inl refl; own = own }
            | inr rest ↦ later first more source (from_after first.source more source rest)
          ]
    ]

pub source_has : (lacks : List Lack) (source : ℕ) → Has (srcs lacks) source → HasSource lacks source
source_has [] source has = absurd has
source_has (first ∷ more) source has =
    elim has [
      | inl own ↦ record { lack = first; among = inl refl; own = own }
      | inr rest ↦ later first more source (from_after first.source more source rest)
    ]

tied_anchor : (a : Anchor) → anchor_cmp a a ≡ Equal
tied_anchor a = tied_itself anchors_total a

-- of two links to one anchor the second one is not of an earlier result
next_source : (a : Anchor) (x y : Lack) → anchor_of x ≡ a → anchor_of y ≡ a → is_lt (lack_cmp y x) ≡ false → is_lt (nat_cmp y.source x.source) ≡ false
next_source a x y own next up =
    then_not_less (anchor_cmp (anchor_of y) (anchor_of x)) (nat_cmp y.source x.source) ((λ i. anchor_cmp (next i) (own i)) ∙ tied_anchor a) up

source_less : (m n : ℕ) → is_lt (nat_cmp n m) ≡ false → (m == n) ≡ false → nat_cmp m n ≡ Less
source_less m n up other = grind (arith, nat_tests)

rises_on : (a : Anchor) (x : Lack) (more : List Lack) → All (λ lack. anchor_of lack ≡ a) (x ∷ more) → Rises (x ∷ more) → IsStrictlySortedBy nat_cmp (x.source ∷ srcs_after x.source more)
unfolding IsStrictlySortedBy
rises_on a x [] same up = (tt, tt)
rises_on a x (y ∷ more) same up =
    let tail = All-tail (λ (lack : Lack). anchor_of lack ≡ a) x (y ∷ more) same in
    let rest = rises_on a y more tail up.1 in
    elim (cases_Bool (x.source == y.source)) [
      | inl equal ↦
          let is : x.source ≡ y.source = eqb-true x.source y.source equal in
          subst (λ (l : List ℕ). IsStrictlySortedBy nat_cmp (x.source ∷ l)) (sym (cond-true (x.source == y.source) (srcs_after y.source more) (y.source ∷ srcs_after y.source more) equal))
          (subst (λ n. IsStrictlySortedBy nat_cmp (n ∷ srcs_after y.source more)) (sym is) rest)
      | inr other ↦
          let low = next_source a x y (All-head (λ (lack : Lack). anchor_of lack ≡ a) x (y ∷ more) same) (All-head (λ (lack : Lack). anchor_of lack ≡ a) y more tail) up.0 in
          let less = source_less x.source y.source low other in
          subst (λ (l : List ℕ). IsStrictlySortedBy nat_cmp (x.source ∷ l)) (sym (cond-false (x.source == y.source) (srcs_after y.source more) (y.source ∷ srcs_after y.source more) other))
          ((less, weaker (λ n. nat_cmp y.source n ≡ Less) (λ n. nat_cmp x.source n ≡ Less) (λ n after. nat_cmp_total.trans x.source y.source n less after) (srcs_after y.source more) rest.0), rest)
    ]

pub srcs_ascend : (g : Group) → IsGroup g → Rises g.lacks → IsStrictlySortedBy nat_cmp (srcs g.lacks)
srcs_ascend g is up =
    let f = front_in g.anchor g.lacks is.some is.each in
    subst (λ (l : List Lack). IsStrictlySortedBy nat_cmp (srcs l)) (sym f.are)
    (rises_on g.anchor f.first f.others (subst (All (λ (lack : Lack). anchor_of lack ≡ g.anchor)) f.are is.each) (subst Rises f.are up))

-- the group with an anchor is the only one
all_get : (P : Anchor → Type 0) (gs : List Group) (g : Group) → AllByRecursion P (map (λ (h : Group). h.anchor) gs) → Has gs g → P g.anchor
all_get P [] g all has = absurd has
all_get P (h ∷ gs) g all has = elim has [ inl same ↦ subst (λ (k : Group). P k.anchor) same all.0 | inr rest ↦ all_get P gs g all.1 rest ]

less_equal : (o : Ordering) → o ≡ Less → o ≡ Equal → ⊥
less_equal o less equal = cc

pub only_group : (groups : List Group) (g h : Group) → IsStrictlySortedBy anchor_cmp (map (λ (k : Group). k.anchor) groups) → Has groups g → Has groups h → g.anchor ≡ h.anchor → g ≡ h
unfolding IsStrictlySortedBy
only_group [] g h up has other same = absurd has
only_group (k ∷ more) g h up has other same =
    elim has [
      | inl first ↦
          elim other [
            | inl own ↦ sym first ∙ own
            | inr later_h ↦
                absurd (less_equal (anchor_cmp k.anchor h.anchor) (all_get (λ (a : Anchor). anchor_cmp k.anchor a ≡ Less) more h up.0 later_h)
                ((λ i. anchor_cmp ((ap (λ (x : Group). x.anchor) first ∙ same) i) h.anchor) ∙ tied_anchor h.anchor))
          ]
      | inr later_g ↦
          elim other [
            | inl own ↦
                absurd (less_equal (anchor_cmp k.anchor g.anchor) (all_get (λ (a : Anchor). anchor_cmp k.anchor a ≡ Less) more g up.0 later_g)
                ((λ i. anchor_cmp ((ap (λ (x : Group). x.anchor) own ∙ sym same) i) g.anchor) ∙ tied_anchor g.anchor))
            | inr later_h ↦ only_group more g h up.1 later_g later_h same
          ]
    ]

-- ---- all anchors

rises_in : (groups : List Group) (g : Group) → Has groups g → Rises (lacks_in groups) → Rises g.lacks
rises_in [] g has up = absurd has
rises_in (h ∷ more) g has up =
    elim has [
      | inl same ↦ subst (λ (k : Group). Rises k.lacks) same (rises_front h.lacks (lacks_in more) up)
      | inr rest ↦ rises_in more g rest (rises_back h.lacks (lacks_in more) up)
    ]

zip_rows : (R : Anchor → Row → Type 0) (f : Group → Row) (groups : List Group) → ((g : Group) → Has groups g → R g.anchor (f g)) → AllZip R (map (λ (g : Group). g.anchor) groups) (map f groups)
zip_rows R f [] each = tt
zip_rows R f (g ∷ more) each = (each g (inl refl), zip_rows R f more (λ h has. each h (inr has)))

module _ (documents : List PageAnchors) (aliases : List Alias) (files : SiteFiles) (results : List PageResult) where
  group_lacked : (lacks : List Lack) (group : Group) → All (IsLack documents aliases files results) lacks → IsGroup group → ((lack : Lack) → Contains group.lacks lack → Contains lacks lack) → IsLacked documents aliases files results group.anchor
  group_lacked lacks group all is within =
      let first = there group.lacks 0 is.some in
      let own = slice_get_contains group.lacks 0 first.x first.at in
      record {
        lack = first.x;
        is = All-contains (IsLack documents aliases files results) lacks first.x all (within first.x own);
        leads = All-contains (λ (lack : Lack). anchor_of lack ≡ group.anchor) group.lacks first.x is.each own;
      }

  -- a link in a group is one of all links
  within_all : (lacks : List Lack) (groups : List Group) (g : Group) → lacks ≡ flat_map (λ (h : Group). h.lacks) groups → Has groups g → (lack : Lack) → Contains g.lacks lack → Contains lacks lack
  within_all lacks groups g split has lack own =
      subst (λ (l : List Lack). Contains l lack) (sym split)
      (contains_had (flat_map (λ (h : Group). h.lacks) groups) lack (flat_has (λ (h : Group). h.lacks) groups g lack has (has_contained g.lacks lack own)))

  -- the group of a link
  record IsInGroup (groups : List Group) (lack : Lack) : Type 0 where
    group : Group
    among : Has groups group
    own : Has group.lacks lack
    leads : anchor_of lack ≡ group.anchor

  in_group : (taken : ℕ → Bool) (lacks : List Lack) (groups : List Group) (lack : Lack) → ((n : ℕ) → taken n ≡ true) → AreLacks documents aliases files results taken lacks → lacks ≡ flat_map (λ (h : Group). h.lacks) groups → All IsGroup groups →
      IsLack documents aliases files results lack → IsInGroup groups lack
  in_group taken lacks groups lack all are split each is =
      let part = has_flat (λ (h : Group). h.lacks) groups lack (subst (λ (l : List Lack). Has l lack) split (has_contained lacks lack (are.whole lack is (all lack.source)))) in
      let group : Group = part.0 in
      let own : IsGroup group = All-contains IsGroup groups group each (contains_had groups group part.1) in
      record { group = group; among = part.1; own = part.2; leads = All-contains (λ (l : Lack). anchor_of l ≡ group.anchor) group.lacks lack own.each (contains_had group.lacks lack part.2) }

  group_is_row : (front : List ℕ) (entries : List (List ℕ)) (taken : ℕ → Bool) (lacks : List Lack) (rows : List Row) (old new : List Lead) → ((n : ℕ) → taken n ≡ true) → AreLacks documents aliases files results taken lacks →
      (grouped : AreGrouped front entries lacks rows old new) → Rises lacks → (g : Group) → Has grouped.groups g → IsRowOf front documents aliases files results g.anchor (group_row front g)
  group_is_row front entries taken lacks rows old new all are grouped up g has =
      let groups = grouped.groups in
      let isg : IsGroup g = All-contains IsGroup groups g grouped.are (contains_had groups g has) in
      let rising : Rises (lacks_in groups) = subst Rises grouped.split up in
      record {
        text = refl;
        pages = record {
          sources = srcs g.lacks;
          once = srcs_ascend g isg (rises_in groups g has rising);
          each =
              All-weaker (Contains (srcs g.lacks)) (HasLinkTo documents aliases files results g.anchor)
              (λ source contained.
              let own = source_has g.lacks source (has_contained (srcs g.lacks) source contained) in
              let inside : Contains g.lacks own.lack = contains_had g.lacks own.lack own.among in
              record {
                lack = own.lack;
                is = All-contains (IsLack documents aliases files results) lacks own.lack are.each (within_all lacks groups g grouped.split has own.lack inside);
                leads = All-contains (λ (l : Lack). anchor_of l ≡ g.anchor) g.lacks own.lack isg.each inside;
                own = own.own;
              })
              (srcs g.lacks) (All-contains_itself (srcs g.lacks));
          whole = λ lack is same.
              let found = in_group taken lacks groups lack all are grouped.split grouped.are is in
              let h : Group = found.group in
              let one : h ≡ g = only_group groups h g (keys_ascend groups grouped.are grouped.apart rising) found.among has (sym found.leads ∙ same) in
              contains_had (srcs g.lacks) lack.source (has_source g.lacks lack (subst (λ (k : Group). Has k.lacks lack) one found.own));
          counted = source_counted g.lacks;
        };
      }

  pub are_anchors : (front : List ℕ) (entries : List (List ℕ)) (taken : ℕ → Bool) (lacks : List Lack) (rows : List Row) (old new : List Lead) → ((n : ℕ) → taken n ≡ true) → AreLacks documents aliases files results taken lacks → Rises lacks →
      AreGrouped front entries lacks rows old new → AreAnchors front documents aliases files results rows
  are_anchors front entries taken lacks rows old new all are up grouped =
      let groups = grouped.groups in
      record {
        anchors = map (λ (g : Group). g.anchor) groups;
        in_order = keys_ascend groups grouped.are grouped.apart (subst Rises grouped.split up);
        each =
            All-map (IsLacked documents aliases files results) (λ (g : Group). g.anchor) groups
            (All-weaker (Contains groups) (λ (g : Group). IsLacked documents aliases files results g.anchor)
            (λ g contained.
            group_lacked lacks g are.each (All-contains IsGroup groups g grouped.are contained) (within_all lacks groups g grouped.split (has_contained groups g contained)))
            groups (All-contains_itself groups));
        whole = λ lack is.
            let found = in_group taken lacks groups lack all are grouped.split grouped.are is in
            subst (Contains (map (λ (g : Group). g.anchor) groups)) (sym found.leads) (contains_map (λ (g : Group). g.anchor) groups found.group (contains_had groups found.group found.among));
        rows_are =
            subst (AllZip (IsRowOf front documents aliases files results) (map (λ (g : Group). g.anchor) groups)) (sym grouped.exact)
            (zip_rows (IsRowOf front documents aliases files results) (group_row front) groups (λ g has. group_is_row front entries taken lacks rows old new all are grouped up g has));
      }
