-- Broken links in order: what a sort of the program makes is the definition's list.
use Rattle.check_report.proofs.Prelude.{◌≡◌, ℕ, true, Bool, List, [], ◌∷◌, map, refl, sym, ap, ◌∙◌, string_bytes, take, ◌+◌, ◌++◌, ◌<◌, ◌≤◌, false, get_or, if◌then◌else◌, length, map-map, take-map, take_all, take_more}
use Rattle.std.specs.Borrow.{Bor}
use Rattle.std.specs.Cmp.{IsStrictWeakOrder, IsTotalOrder}
use Rattle.std.specs.Cmp.Lexicographic.{slice_cmp}
use Rattle.std.specs.List.{All}
use Rattle.std.specs.List.Sorted.{IsSortedBy, IsStableBy}
use Rattle.std.specs.Ordering.{is_eq, is_lt, nat_cmp, ordering_then}
use Rattle.std.specs.declared.cmp.Ordering.{Ordering}
use Rattle.std.specs.declared.cmp.Ordering.TheVariants.{Less, Equal, Greater}
use Rattle.std.proofs.lemmas.Cmp.{nat_cmp_total, nat_list_cmp_total, on_total, then_total}
use Rattle.std.proofs.lemmas.List.{map-append}
use Rattle.std.proofs.lemmas.List.Elements.{All-head, All-push, All-tail}
use Rattle.std.proofs.lemmas.List.Sorted.{All-permutation, ranks_by}
use Rattle.std.proofs.lemmas.Map.Text.{is_eq-slice_cmp}
use Rattle.std.proofs.lemmas.Slice.Eq.{bytes_eq-Decides}
use Rattle.crawl_pages.specs.ResultOrder.{insertion, stable_sort}
use Rattle.crawl_pages.proofs.StableSort.{IsPermutation-stable_sort, map-stable_sort, stable_sort-from_sort}
use Rattle.check_report.specs.Names.{target_name}
use Rattle.check_report.specs.Natural.{natural_cmp, runs_of}
use Rattle.check_report.specs.Order.{kind_rank, link_before, link_of, links_to, named_cmp, place_before, place_cmp, places_by_file, shown_places, target_before, target_cmp, targets_by_name}
use Rattle.check_report.specs.declared.ordered.Link.{Link}
use Rattle.check_report.specs.declared.ordered.Named.{Named}
use Rattle.check_report.specs.declared.value.Broken.{Broken}
use Rattle.check_report.specs.declared.value.Place.{Place}

-- ---- the orders are total

pub natural_total : IsTotalOrder natural_cmp
natural_total = then_total (on_total runs_of nat_list_cmp_total) nat_list_cmp_total

place_total : IsTotalOrder place_cmp
place_total =
    then_total (on_total (λ (p : Place). string_bytes p.file) natural_total)
    (then_total (on_total (λ (p : Place). p.line) nat_cmp_total) (on_total (λ (p : Place). p.column) nat_cmp_total))

target_total : IsTotalOrder target_cmp
target_total = then_total (on_total (λ (b : Broken). kind_rank b.kind) nat_cmp_total) (on_total target_name natural_total)

second_equal : (one other : Ordering) → ordering_then one other ≡ Equal → other ≡ Equal
second_equal Less other is = cc
second_equal Equal other is = is
second_equal Greater other is = cc

-- only a text is equal to itself
pub natural_exact : (a b : List ℕ) → natural_cmp a b ≡ Equal → a ≡ b
natural_exact a b is =
    (bytes_eq-Decides a b).0 (sym (is_eq-slice_cmp a b) ∙ ap is_eq (second_equal (slice_cmp nat_cmp (runs_of a) (runs_of b)) (slice_cmp nat_cmp a b) is))

-- ---- locations

pub places_rank : IsStrictWeakOrder (λ (a : Bor Place) (b : Bor Place). place_before a.now b.now)
places_rank = ranks_by place_total (λ (p : Bor Place). p.now)

pub places_from_sort : (given sorted : List (Bor Place)) (places : List Place) → map (λ (p : Bor Place). p.now) given ≡ places
    → IsSortedBy (λ (a : Bor Place) (b : Bor Place). place_before a.now b.now) sorted → IsStableBy (λ (a : Bor Place) (b : Bor Place). place_before a.now b.now) given sorted
    → map (λ (p : Bor Place). p.now) sorted ≡ places_by_file places
places_from_sort given sorted places same ascends stable =
    ap (map (λ (p : Bor Place). p.now)) (stable_sort-from_sort (λ (a : Bor Place) (b : Bor Place). place_before a.now b.now) places_rank given sorted ascends stable)
    ∙ map-stable_sort (λ (p : Bor Place). p.now) place_before given ∙ ap places_by_file same

-- the locations that are listed, seen as others
pub shown-map : {X Y : Type 0} (f : X → Y) (all : Bool) (xs : List X) → shown_places all (map f xs) ≡ map f (shown_places all xs)
shown-map f true xs = refl
shown-map f false xs = take-map f 3 xs

-- ---- links

pub links_rank : IsStrictWeakOrder (λ (a : Link) (b : Link). place_before a.place.now b.place.now)
links_rank = ranks_by place_total (λ (l : Link). l.place.now)

pub links_from_sort : (given sorted : List Link) (links : List (Broken × Place)) → map link_of given ≡ links
    → IsSortedBy (λ (a : Link) (b : Link). place_before a.place.now b.place.now) sorted → IsStableBy (λ (a : Link) (b : Link). place_before a.place.now b.place.now) given sorted
    → map link_of sorted ≡ stable_sort link_before links
links_from_sort given sorted links same ascends stable =
    ap (map link_of) (stable_sort-from_sort (λ (a : Link) (b : Link). place_before a.place.now b.place.now) links_rank given sorted ascends stable)
    ∙ map-stable_sort link_of link_before given ∙ ap (stable_sort link_before) same

-- the links to a target, by reference
pub pushed_links : (old new : List (Broken × Place)) (target : Broken) (all : Bool) (places shown : List (Bor Place)) (k : ℕ) → map (λ (p : Bor Place). p.now) places ≡ places_by_file target.places.items → shown ≡ shown_places all places
    → length shown ≤ k → new ≡ old ++ map (λ (p : Bor Place). (target, p.now)) (take k shown) → new ≡ old ++ links_to all target
pushed_links old new target all places shown k same first past is =
    is ∙ ap (λ ls. old ++ ls)
    (ap (map (λ (p : Bor Place). (target, p.now))) (take_all k shown past)
    ∙ sym (map-map (λ (p : Place). (target, p)) (λ (p : Bor Place). p.now) shown) ∙ ap (λ ps. map (λ (p : Place). (target, p)) (map (λ (p : Bor Place). p.now) ps)) first
    ∙ ap (map (λ (p : Place). (target, p))) (sym (shown-map (λ (p : Bor Place). p.now) all places) ∙ ap (shown_places all) same))

-- ---- targets

abbrev pub IsNamed : Named → Type 0
IsNamed one = string_bytes one.name ≡ target_name one.broken.now

-- a target more, with its name
pub targets_more : (done : List Named) (targets : List Broken) (k : ℕ) (target : Broken) (one : Named) → k < length targets → target ≡ get_or targets k target → one.broken.now ≡ target
    → map (λ (n : Named). n.broken.now) done ≡ take k targets → map (λ (n : Named). n.broken.now) (done ++ one ∷ []) ≡ take (k + 1) targets
targets_more done targets k target one below at is so_far =
    map-append (λ (n : Named). n.broken.now) done (one ∷ []) ∙ (λ i. so_far i ++ (is ∙ at) i ∷ []) ∙ sym (take_more targets k target below)

pub named_more : (done : List Named) (one : Named) → All IsNamed done → string_bytes one.name ≡ target_name one.broken.now → All IsNamed (done ++ one ∷ [])
named_more done one all is = All-push IsNamed done one all is

-- tests that agree on the elements of a list sort it alike
insertion-alike : {X : Type 0} (P : X → Type 0) (lt less : X → X → Bool) → ((a b : X) → P a → P b → lt a b ≡ less a b) → (x : X) (ys : List X) → P x → All P ys → insertion lt x ys ≡ insertion less x ys
insertion-alike P lt less alike x [] first all = refl
insertion-alike P lt less alike x (y ∷ ys) first all =
    let here = alike y x (All-head P y ys all) first in
    (λ i. if here i then y ∷ insertion-alike P lt less alike x ys first (All-tail P y ys all) i else x ∷ y ∷ ys)

stable_sort-alike : {X : Type 0} (P : X → Type 0) (lt less : X → X → Bool) → ((a b : X) → P a → P b → lt a b ≡ less a b) → (xs : List X) → All P xs → stable_sort lt xs ≡ stable_sort less xs
stable_sort-alike P lt less alike [] all = refl
stable_sort-alike P lt less alike (x ∷ xs) all =
    let rest = All-tail P x xs all in
    insertion-alike P lt less alike x (stable_sort lt xs) (All-head P x xs all) (All-permutation P xs (stable_sort lt xs) (IsPermutation-stable_sort lt xs) rest)
    ∙ ap (insertion less x) (stable_sort-alike P lt less alike xs rest)

named_total : IsTotalOrder named_cmp
named_total = then_total (on_total (λ (n : Named). kind_rank n.broken.now.kind) nat_cmp_total) (on_total (λ (n : Named). string_bytes n.name) natural_total)

pub named_rank : IsStrictWeakOrder (λ (a : Named) (b : Named). is_lt (named_cmp a b))
named_rank = ranks_by named_total (λ (n : Named). n)

named_alike : (a b : Named) → IsNamed a → IsNamed b → is_lt (named_cmp a b) ≡ target_before a.broken.now b.broken.now
named_alike a b one other = λ i. is_lt (ordering_then (nat_cmp (kind_rank a.broken.now.kind) (kind_rank b.broken.now.kind)) (natural_cmp (one i) (other i)))

pub targets_from_sort : (given sorted : List Named) (targets : List Broken) → map (λ (n : Named). n.broken.now) given ≡ targets → All IsNamed given
    → IsSortedBy (λ (a : Named) (b : Named). is_lt (named_cmp a b)) sorted → IsStableBy (λ (a : Named) (b : Named). is_lt (named_cmp a b)) given sorted
    → map (λ (n : Named). n.broken.now) sorted ≡ targets_by_name targets
targets_from_sort given sorted targets same named ascends stable =
    ap (map (λ (n : Named). n.broken.now)) (stable_sort-from_sort (λ (a : Named) (b : Named). is_lt (named_cmp a b)) named_rank given sorted ascends stable
    ∙ stable_sort-alike IsNamed (λ (a : Named) (b : Named). is_lt (named_cmp a b)) (λ (a : Named) (b : Named). target_before a.broken.now b.broken.now) named_alike given named)
    ∙ map-stable_sort (λ (n : Named). n.broken.now) target_before given ∙ ap targets_by_name same
