-- The links that are found lead to anchors that documents lack, and no such link is left out.
use Rattle.site_check.proofs.Prelude.{common_steps, ◌≡◌, ◌∙◌, ℕ, zero, suc, ◌+◌, ◌<◌, ◌≤◌, Bool, true, false, List, [], ◌∷◌, ◌++◌, length, map, take, get_or, length-take-le, take_more, Option, Some, None, refl, sym, ap, subst, inl, inr, arith, append_assoc, slice_get, flat_map, PageResult, SiteFiles}
use Rattle.std.proofs.Common.{◌-◌, ◌⊎◌, add-one}
use Rattle.std.proofs.lemmas.List.{take_all}
use Rattle.std.proofs.lemmas.List.Elements.{All-contains_itself, All-weaker}
use Rattle.std.proofs.lemmas.List.Sorted.{Contains-permutation, IsPermutation-map, IsPermutation-sym}
use Rattle.std.proofs.lemmas.Option.{same_Some}
use Rattle.std.specs.List.{Contains}
use Rattle.std.specs.List.Sorted.{IsPermutation}
use Rattle.std.specs.Prelude.{if◌then◌else◌}
use Rattle.document_links.specs.Anchors.{Link}
use Rattle.document_links.specs.declared.anchors.Anchors.{Anchors}
use Rattle.document_links.specs.declared.anchors.PageAnchors.{PageAnchors}
use Rattle.document_links.specs.declared.anchors.Target.{Target}
use Rattle.page_anchors.specs.Indicated.{is_indicated}
use Rattle.site_check.proofs.AllPlaced.{nothing}
use Rattle.site_check.proofs.LeadTargets.{Has, contains_had, has_append, has_contained}
use Rattle.site_check.proofs.LeadsFound.{no_more}
use Rattle.site_check.specs.Documents.{DocumentAt, document_of, kept_by, kept_if, kept_of}
use Rattle.site_check.specs.LackedLinks.{TargetLinks, first_link, lack_if, lack_of, lack_with, lacks_from, lacks_of, last_link, link_in, links_from, links_in, links_of, links_to, links_to_each}
use Rattle.site_check.specs.Lacks.{AreLacks, IsLack, Lack}
use Rattle.site_check.specs.declared.anchors.LinksTo.{LinksTo}
use Rattle.site_check.specs.declared.missing_anchors.MissingAnchorLink.{MissingAnchorLink}
use Rattle.site_files.specs.declared.alias.Alias.{Alias}

-- ---- loops, one more

each_after : (lead : Target → Option DocumentAt) (source : ℕ) (anchors : Anchors) (n : ℕ) (xs ys : List Target) →
    links_to_each lead source anchors n (xs ++ ys) ≡ links_to_each lead source anchors n xs ++ links_to_each lead source anchors (n + length xs) ys
each_after lead source anchors n [] ys = ap (λ k. links_to_each lead source anchors k ys) (omega arith)
each_after lead source anchors n (x ∷ xs) ys =
    let here : List TargetLinks = links_to source anchors n (lead x) in
    let place : (n + 1) + length xs ≡ n + length (x ∷ xs) = omega arith in
    ap (λ l. here ++ l) (each_after lead source anchors (n + 1) xs ys)
    ∙ sym (append_assoc here (links_to_each lead source anchors (n + 1) xs) (links_to_each lead source anchors ((n + 1) + length xs) ys))
    ∙ ap (λ k. (here ++ links_to_each lead source anchors (n + 1) xs) ++ links_to_each lead source anchors k ys) place

pub targets_more : (lead : Target → Option DocumentAt) (source : ℕ) (anchors : Anchors) (n : ℕ) (ts : List Target) (i : ℕ) (t : Target) → i < length ts → t ≡ get_or ts i t →
    links_to_each lead source anchors n (take (i + 1) ts) ≡ links_to_each lead source anchors n (take i ts) ++ links_to source anchors (n + i) (lead t)
targets_more lead source anchors n ts i t below is = grind (arith, common_steps, length-take-le, take_more, each_after, no_more)

pub targets_step : (lead : Target → Option DocumentAt) (source : ℕ) (anchors : Anchors) (ts : List Target) (i : ℕ) (t : Target) (to : Option DocumentAt) (old before after : List TargetLinks) → i < length ts → t ≡ get_or ts i t → to ≡ lead t →
    after ≡ before ++ links_to source anchors i to → before ≡ old ++ links_to_each lead source anchors 0 (take i ts) → after ≡ old ++ links_to_each lead source anchors 0 (take (i + 1) ts)
targets_step lead source anchors ts i t to old before after below is led pushed so_far =
    let none_before : i ≡ 0 + i = omega arith in
    pushed ∙ (λ j. so_far j ++ links_to source anchors (none_before j) (led j))
    ∙ append_assoc old (links_to_each lead source anchors 0 (take i ts)) (links_to source anchors (0 + i) (lead t))
    ∙ ap (λ l. old ++ l) (sym (targets_more lead source anchors 0 ts i t below is))

from_after : (lead : Target → Option DocumentAt) (kept : ℕ → PageResult → Option PageAnchors) (n : ℕ) (xs ys : List PageResult) → links_from lead kept n (xs ++ ys) ≡ links_from lead kept n xs ++ links_from lead kept (n + length xs) ys
from_after lead kept n [] ys = ap (λ k. links_from lead kept k ys) (omega arith)
from_after lead kept n (x ∷ xs) ys =
    let here : List TargetLinks = links_in lead n (kept n x) in
    let place : (n + 1) + length xs ≡ n + length (x ∷ xs) = omega arith in
    ap (λ l. here ++ l) (from_after lead kept (n + 1) xs ys)
    ∙ sym (append_assoc here (links_from lead kept (n + 1) xs) (links_from lead kept ((n + 1) + length xs) ys))
    ∙ ap (λ k. (here ++ links_from lead kept (n + 1) xs) ++ links_from lead kept k ys) place

results_more : (lead : Target → Option DocumentAt) (kept : ℕ → PageResult → Option PageAnchors) (n : ℕ) (rs : List PageResult) (i : ℕ) (r : PageResult) → i < length rs → r ≡ get_or rs i r →
    links_from lead kept n (take (i + 1) rs) ≡ links_from lead kept n (take i rs) ++ links_in lead (n + i) (kept (n + i) r)
results_more lead kept n rs i r below is = grind (arith, common_steps, length-take-le, take_more, from_after, no_more)

pub results_step : (lead : Target → Option DocumentAt) (kept : ℕ → PageResult → Option PageAnchors) (rs : List PageResult) (i : ℕ) (r : PageResult) (page : Option PageAnchors) (before after : List TargetLinks) → i < length rs → r ≡ get_or rs i r → page ≡ kept i r →
    after ≡ before ++ links_in lead i page → before ≡ links_from lead kept 0 (take i rs) → after ≡ links_from lead kept 0 (take (i + 1) rs)
results_step lead kept rs i r page before after below is kept_is pushed so_far =
    let none_before : i ≡ 0 + i = omega arith in
    pushed ∙ (λ j. so_far j ++ links_in lead i (kept_is j)) ∙ ap (λ k. links_from lead kept 0 (take i rs) ++ links_in lead k (kept k r)) none_before
    ∙ sym (results_more lead kept 0 rs i r below is)

numbers_more : (l : TargetLinks) (n k : ℕ) → lacks_from l n (suc k) ≡ lacks_from l n k ++ lack_if l (link_in l (n + k))
numbers_more l n zero = no_more (lack_if l (link_in l n)) ∙ ap (λ m. lack_if l (link_in l m)) (omega arith)
numbers_more l n (suc k) =
    let here : List Lack = lack_if l (link_in l n) in
    let next : (n + 1) + k ≡ n + suc k = omega arith in
    ap (λ m. here ++ m) (numbers_more l (n + 1) k)
    ∙ sym (append_assoc here (lacks_from l (n + 1) k) (lack_if l (link_in l ((n + 1) + k))))
    ∙ ap (λ m. (here ++ lacks_from l (n + 1) k) ++ lack_if l (link_in l m)) next

pub numbers_step : (l : TargetLinks) (n k : ℕ) (old before after : List Lack) → after ≡ before ++ lack_if l (link_in l (n + k)) → before ≡ old ++ lacks_from l n k → after ≡ old ++ lacks_from l n (k + 1)
numbers_step l n k old before after pushed so_far =
    pushed ∙ ap (λ m. m ++ lack_if l (link_in l (n + k))) so_far ∙ append_assoc old (lacks_from l n k) (lack_if l (link_in l (n + k))) ∙ ap (λ m. old ++ m) (sym (numbers_more l n k))
    ∙ ap (λ m. old ++ lacks_from l n m) (sym (add-one k))

-- ---- the elements of what is found

has_appended : {X : Type 0} (xs ys : List X) (x : X) → Has xs x ⊎ Has ys x → Has (xs ++ ys) x
has_appended [] ys x has = elim has [ inl none ↦ absurd none | inr back ↦ back ]
has_appended (y ∷ xs) ys x has =
    elim has [
      | inl front ↦ elim front [ inl same ↦ inl same | inr more ↦ inr (has_appended xs ys x (inl more)) ]
      | inr back ↦ inr (has_appended xs ys x (inr back))
    ]

-- a part of a list
pub has_flat : {X Y : Type 0} (f : X → List Y) (xs : List X) (y : Y) → Has (flat_map f xs) y → (x : X) × Has xs x × Has (f x) y
has_flat f [] y has = absurd has
has_flat f (x ∷ xs) y has =
    elim (has_append (f x) (flat_map f xs) y has) [
      | inl here ↦ (x, inl refl, here)
      | inr more ↦ let rest = has_flat f xs y more in (rest.0, inr rest.1, rest.2)
    ]

pub flat_has : {X Y : Type 0} (f : X → List Y) (xs : List X) (x : X) (y : Y) → Has xs x → Has (f x) y → Has (flat_map f xs) y
flat_has f [] x y in_list has = absurd in_list
flat_has f (z ∷ xs) x y in_list has =
    elim in_list [
      | inl same ↦ has_appended (f z) (flat_map f xs) y (inl (subst (λ w. Has (f w) y) (sym same) has))
      | inr more ↦ has_appended (f z) (flat_map f xs) y (inr (flat_has f xs x y more has))
    ]

abbrev links_at : ℕ → Anchors → ℕ → DocumentAt → TargetLinks
links_at source anchors target to = record { source = source; anchors = anchors; target = target; to = to }

-- the targets of a page
record IsFoundTarget (lead : Target → Option DocumentAt) (source : ℕ) (anchors : Anchors) (n : ℕ) (ts : List Target) (l : TargetLinks) : Type 0 where
  at : ℕ
  target : Target
  is_target : slice_get ts at ≡ Some target
  to : DocumentAt
  leads : lead target ≡ Some to
  is : l ≡ links_at source anchors (n + at) to

here_found : (lead : Target → Option DocumentAt) (source : ℕ) (anchors : Anchors) (n : ℕ) (t : Target) (ts : List Target) (found : Option DocumentAt) (l : TargetLinks) → lead t ≡ found → Has (links_to source anchors n found) l →
    IsFoundTarget lead source anchors n (t ∷ ts) l
here_found lead source anchors n t ts None l is has = absurd has
here_found lead source anchors n t ts (Some to) l is has =
    let none_more : n ≡ n + 0 = omega arith in
    elim has [
      | inl same ↦
          record {
            at = 0;
            target = t;
            is_target = refl;
            to = to;
            leads = is;
            is = sym same ∙ ap (λ k. links_at source anchors k to) none_more;
          }
      | inr none ↦ absurd none
    ]

target_found : (lead : Target → Option DocumentAt) (source : ℕ) (anchors : Anchors) (n : ℕ) (ts : List Target) (l : TargetLinks) → Has (links_to_each lead source anchors n ts) l → IsFoundTarget lead source anchors n ts l
target_found lead source anchors n [] l has = absurd has
target_found lead source anchors n (t ∷ ts) l has =
    elim (has_append (links_to source anchors n (lead t)) (links_to_each lead source anchors (n + 1) ts) l has) [
      | inl here ↦ here_found lead source anchors n t ts (lead t) l refl here
      | inr more ↦
          let rest = target_found lead source anchors (n + 1) ts l more in
          let next : (n + 1) + rest.at ≡ n + suc rest.at = omega arith in
          record { at = suc rest.at; target = rest.target; is_target = rest.is_target; to = rest.to; leads = rest.leads; is = rest.is ∙ ap (λ k. links_at source anchors k rest.to) next }
    ]

one_link : (source : ℕ) (anchors : Anchors) (n : ℕ) (found : Option DocumentAt) (to : DocumentAt) → found ≡ Some to → Has (links_to source anchors n found) (links_at source anchors n to)
one_link source anchors n found to is = subst (λ o. Has (links_to source anchors n o) (links_at source anchors n to)) (sym is) (inl refl)

found_target : (lead : Target → Option DocumentAt) (source : ℕ) (anchors : Anchors) (n : ℕ) (ts : List Target) (at : ℕ) (target : Target) (to : DocumentAt) → slice_get ts at ≡ Some target → lead target ≡ Some to →
    Has (links_to_each lead source anchors n ts) (links_at source anchors (n + at) to)
found_target lead source anchors n [] at target to there leads = absurd (nothing target there)
found_target lead source anchors n (t ∷ ts) zero target to there leads =
    let one : Has (links_to source anchors n (lead t)) (links_at source anchors n to) =
    one_link source anchors n (lead t) to (ap lead (same_Some t target there) ∙ leads) in
    let none_more : n ≡ n + 0 = omega arith in
    subst (λ k. Has (links_to_each lead source anchors n (t ∷ ts)) (links_at source anchors k to)) none_more
    (has_appended (links_to source anchors n (lead t)) (links_to_each lead source anchors (n + 1) ts) _ (inl one))
found_target lead source anchors n (t ∷ ts) (suc at) target to there leads =
    let next : (n + 1) + at ≡ n + suc at = omega arith in
    subst (λ k. Has (links_to_each lead source anchors n (t ∷ ts)) (links_at source anchors k to)) next
    (has_appended (links_to source anchors n (lead t)) (links_to_each lead source anchors (n + 1) ts) _ (inr (found_target lead source anchors (n + 1) ts at target to there leads)))

-- those of a result
record IsFoundPage (lead : Target → Option DocumentAt) (source : ℕ) (kept : Option PageAnchors) (l : TargetLinks) : Type 0 where
  page : PageAnchors
  is_page : kept ≡ Some page
  own : IsFoundTarget lead source page.anchors 0 page.targets.items l

page_found : (lead : Target → Option DocumentAt) (source : ℕ) (kept : Option PageAnchors) (l : TargetLinks) → Has (links_in lead source kept) l → IsFoundPage lead source kept l
page_found lead source None l has = absurd has
page_found lead source (Some page) l has = record { page = page; is_page = refl; own = target_found lead source page.anchors 0 page.targets.items l has }

-- those of results
record IsFoundResult (lead : Target → Option DocumentAt) (kept : ℕ → PageResult → Option PageAnchors) (n : ℕ) (rs : List PageResult) (l : TargetLinks) : Type 0 where
  at : ℕ
  result : PageResult
  is_result : slice_get rs at ≡ Some result
  own : IsFoundPage lead (n + at) (kept (n + at) result) l

result_found : (lead : Target → Option DocumentAt) (kept : ℕ → PageResult → Option PageAnchors) (n : ℕ) (rs : List PageResult) (l : TargetLinks) → Has (links_from lead kept n rs) l → IsFoundResult lead kept n rs l
result_found lead kept n [] l has = absurd has
result_found lead kept n (r ∷ rs) l has =
    let none_more : n ≡ n + 0 = omega arith in
    elim (has_append (links_in lead n (kept n r)) (links_from lead kept (n + 1) rs) l has) [
      | inl here ↦
          record {
            at = 0;
            result = r;
            is_result = refl;
            own = subst (λ k. IsFoundPage lead k (kept k r) l) none_more (page_found lead n (kept n r) l here);
          }
      | inr more ↦
          let rest = result_found lead kept (n + 1) rs l more in
          let next : (n + 1) + rest.at ≡ n + suc rest.at = omega arith in
          record {
            at = suc rest.at;
            result = rest.result;
            is_result = rest.is_result;
            own = subst (λ k. IsFoundPage lead k (kept k rest.result) l) next rest.own;
          }
    ]

found_result : (lead : Target → Option DocumentAt) (kept : ℕ → PageResult → Option PageAnchors) (n : ℕ) (rs : List PageResult) (at : ℕ) (result : PageResult) (l : TargetLinks) → slice_get rs at ≡ Some result →
    Has (links_in lead (n + at) (kept (n + at) result)) l → Has (links_from lead kept n rs) l
found_result lead kept n [] at result l there has = absurd (nothing result there)
found_result lead kept n (r ∷ rs) zero result l there has =
    let none_more : n + 0 ≡ n = omega arith in
    has_appended (links_in lead n (kept n r)) (links_from lead kept (n + 1) rs) l
    (inl (subst (λ (o : PageResult). Has (links_in lead n (kept n o)) l) (sym (same_Some r result there)) (subst (λ k. Has (links_in lead k (kept k result)) l) none_more has)))
found_result lead kept n (r ∷ rs) (suc at) result l there has =
    let next : n + suc at ≡ (n + 1) + at = omega arith in
    has_appended (links_in lead n (kept n r)) (links_from lead kept (n + 1) rs) l (inr (found_result lead kept (n + 1) rs at result l there (subst (λ k. Has (links_in lead k (kept k result)) l) next has)))

-- ---- the links to one target

record IsFoundLack (l : TargetLinks) (n count : ℕ) (lack : Lack) : Type 0 where
  number : ℕ
  from : n ≤ number
  before : number < n + count
  link : Link
  is_link : link_in l number ≡ Some link
  lacks : is_indicated l.to.document.anchors.ids link.fragment ≡ false
  is : lack ≡ lack_with l link

one_found : (l : TargetLinks) (link : Link) (lack : Lack) (b : Bool) → Has (if b then [] else lack_with l link ∷ []) lack → (b ≡ false) × (lack ≡ lack_with l link)
one_found l link lack true has = absurd has
one_found l link lack false has = elim has [ inl same ↦ (refl, sym same) | inr none ↦ absurd none ]

here_lacked : (l : TargetLinks) (n count : ℕ) (found : Option Link) (lack : Lack) → link_in l n ≡ found → Has (lack_if l found) lack → IsFoundLack l n (suc count) lack
here_lacked l n count None lack is has = absurd has
here_lacked l n count (Some link) lack is has =
    let own = one_found l link lack (is_indicated l.to.document.anchors.ids link.fragment) has in
    record { number = n; from = omega arith; before = omega arith; link = link; is_link = is; lacks = own.0; is = own.1 }

lack_found : (l : TargetLinks) (n count : ℕ) (lack : Lack) → Has (lacks_from l n count) lack → IsFoundLack l n count lack
lack_found l n zero lack has = absurd has
lack_found l n (suc count) lack has =
    elim (has_append (lack_if l (link_in l n)) (lacks_from l (n + 1) count) lack has) [
      | inl here ↦ here_lacked l n count (link_in l n) lack refl here
      | inr more ↦
          let rest = lack_found l (n + 1) count lack more in
          let low : n + 1 ≤ rest.number = rest.from in
          let high : rest.number < (n + 1) + count = rest.before in
          record { number = rest.number; from = omega (arith, low); before = omega (arith, high); link = rest.link; is_link = rest.is_link; lacks = rest.lacks; is = rest.is }
    ]

lack_one : (l : TargetLinks) (link : Link) (b : Bool) → b ≡ false → Has (if b then [] else lack_with l link ∷ []) (lack_with l link)
lack_one l link true is = absurd (not_false is)
  where
    not_false : true ≡ false → ⊥
    not_false is = cc
lack_one l link false is = inl refl

found_lack : (l : TargetLinks) (n count k : ℕ) (link : Link) → k < count → link_in l (n + k) ≡ Some link → is_indicated l.to.document.anchors.ids link.fragment ≡ false → Has (lacks_from l n count) (lack_with l link)
found_lack l n zero k link below is lacks = absurd (omega (arith, below))
found_lack l n (suc count) zero link below is lacks =
    let none_more : n ≡ n + 0 = omega arith in
    has_appended (lack_if l (link_in l n)) (lacks_from l (n + 1) count) (lack_with l link)
    (inl (subst (λ (o : Option Link). Has (lack_if l o) (lack_with l link)) (sym (ap (link_in l) none_more ∙ is)) (lack_one l link (is_indicated l.to.document.anchors.ids link.fragment) lacks)))
found_lack l n (suc count) (suc k) link below is lacks =
    let next : (n + 1) + k ≡ n + suc k = omega arith in
    has_appended (lack_if l (link_in l n)) (lacks_from l (n + 1) count) (lack_with l link)
    (inr (found_lack l (n + 1) count k link (omega (arith, below)) (ap (link_in l) next ∙ is) lacks))

-- ---- all of them

kept_taken : (documents : List PageAnchors) (b : Bool) (result : PageResult) (page : PageAnchors) → kept_if documents b result ≡ Some page → (b ≡ true) × (kept_of documents result ≡ Some page)
kept_taken documents true result page is = (refl, is)
kept_taken documents false result page is = absurd (nothing page is)

taken_kept : (documents : List PageAnchors) (b : Bool) (result : PageResult) (page : PageAnchors) → b ≡ true → kept_of documents result ≡ Some page → kept_if documents b result ≡ Some page
taken_kept documents b result page taken is = ap (λ c. kept_if documents c result) taken ∙ is

module _ (documents : List PageAnchors) (aliases : List Alias) (files : SiteFiles) (results : List PageResult) where
  -- a link that is found is such a link
  is_lack : (at : ℕ) (result : PageResult) (page : PageAnchors) (number : ℕ) (target : Target) (to : DocumentAt) (lack : Lack) → slice_get results at ≡ Some result → kept_of documents result ≡ Some page → slice_get page.targets.items number ≡ Some target →
      document_of documents aliases files results target ≡ Some to → IsFoundLack (links_at at page.anchors number to) (first_link (links_at at page.anchors number to)) (last_link (links_at at page.anchors number to) - first_link (links_at at page.anchors number to)) lack →
      IsLack documents aliases files results lack
  is_lack at result page number target to lack there kept_is is_target leads found =
      let l : TargetLinks = links_at at page.anchors number to in
      let low : first_link l ≤ found.number = found.from in
      let high : found.number < first_link l + (last_link l - first_link l) = found.before in
      let within : found.number < last_link l = omega (arith, low, high) in
      subst (IsLack documents aliases files results) (sym found.is)
      (record {
        result = result;
        is_result = there;
        page = page;
        is_page = kept_is;
        number = number;
        target = target;
        is_target = is_target;
        link = record { number = found.number; from = low; before = within; is = found.is_link };
        document = to.document;
        leads = leads;
        lacks = found.lacks;
      })

  lack_of_links : (taken : ℕ → Bool) (l : TargetLinks) (lack : Lack) → Has (links_from (document_of documents aliases files results) (kept_by documents taken) 0 results) l → Has (lacks_of l) lack → IsLack documents aliases files results lack
  lack_of_links taken l lack in_links has =
      let r = result_found (document_of documents aliases files results) (kept_by documents taken) 0 results l in_links in
      let t = r.own.own in
      let number : 0 + t.at ≡ t.at = omega arith in
      let place : 0 + r.at ≡ r.at = omega arith in
      let found : IsFoundLack l (first_link l) (last_link l - first_link l) lack = lack_found l (first_link l) (last_link l - first_link l) lack has in
      let same : l ≡ links_at r.at r.own.page.anchors t.at t.to = t.is ∙ (λ i. links_at (place i) r.own.page.anchors (number i) t.to) in
      is_lack r.at r.result r.own.page t.at t.target t.to lack r.is_result (kept_taken documents (taken (0 + r.at)) r.result r.own.page r.own.is_page).1 t.is_target t.leads
      (subst (λ (x : TargetLinks). IsFoundLack x (first_link x) (last_link x - first_link x) lack) same found)

  record IsFoundIn (taken : ℕ → Bool) (lack : Lack) : Type 0 where
    links : TargetLinks
    among : Has (links_from (document_of documents aliases files results) (kept_by documents taken) 0 results) links
    own : Has (lacks_of links) lack

  -- such a link is found
  links_of_lack : (taken : ℕ → Bool) (lack : Lack) → IsLack documents aliases files results lack → taken lack.source ≡ true → IsFoundIn taken lack
  links_of_lack taken lack is taken_is =
      let to : DocumentAt = record { url = lack.url; document = is.document } in
      let l : TargetLinks = links_at lack.source is.page.anchors is.number to in
      let number : 0 + is.number ≡ is.number = omega arith in
      let place : lack.source ≡ 0 + lack.source = omega arith in
      let targets : Has (links_to_each (document_of documents aliases files results) lack.source is.page.anchors 0 is.page.targets.items) l =
      subst (λ k. Has (links_to_each (document_of documents aliases files results) lack.source is.page.anchors 0 is.page.targets.items) (links_at lack.source is.page.anchors k to)) number
      (found_target (document_of documents aliases files results) lack.source is.page.anchors 0 is.page.targets.items is.number is.target to is.is_target is.leads) in
      let kept_is : kept_by documents taken lack.source is.result ≡ Some is.page = taken_kept documents (taken lack.source) is.result is.page taken_is is.is_page in
      let own : Has (links_in (document_of documents aliases files results) lack.source (kept_by documents taken lack.source is.result)) l =
      subst (λ (o : Option PageAnchors). Has (links_in (document_of documents aliases files results) lack.source o) l) (sym kept_is) targets in
      let low : first_link l ≤ is.link.number = is.link.from in
      let high : is.link.number < last_link l = is.link.before in
      let k : ℕ = is.link.number - first_link l in
      let at_link : is.link.number ≡ first_link l + k = omega (arith, low) in
      let within : k < last_link l - first_link l = omega (arith, low, high) in
      record {
        links = l;
        among =
            found_result (document_of documents aliases files results) (kept_by documents taken) 0 results lack.source is.result l is.is_result
            (subst (λ n. Has (links_in (document_of documents aliases files results) n (kept_by documents taken n is.result)) l) place own);
        own = found_lack l (first_link l) (last_link l - first_link l) k (record { fragment = lack.fragment; index = lack.index }) within (ap (link_in l) (sym at_link) ∙ is.link.is) is.lacks;
      }

  pub lacks_found : (taken : ℕ → Bool) (links sorted : List LinksTo) (lacked all : List MissingAnchorLink) → map links_of links ≡ links_from (document_of documents aliases files results) (kept_by documents taken) 0 results → IsPermutation links sorted →
      map lack_of lacked ≡ flat_map lacks_of (map links_of sorted) → IsPermutation lacked all → AreLacks documents aliases files results taken (map lack_of all)
  lacks_found taken links sorted lacked all found moved each moved_all =
      let there : IsPermutation (map links_of links) (map links_of sorted) = IsPermutation-map links_of links sorted moved in
      let back : IsPermutation (map links_of sorted) (map links_of links) = IsPermutation-sym (map links_of links) (map links_of sorted) there in
      let out : IsPermutation (map lack_of lacked) (map lack_of all) = IsPermutation-map lack_of lacked all moved_all in
      let home : IsPermutation (map lack_of all) (map lack_of lacked) = IsPermutation-sym (map lack_of lacked) (map lack_of all) out in
      record {
        each =
            All-weaker (Contains (map lack_of all)) (IsLack documents aliases files results)
            (λ lack contained.
            let part = has_flat lacks_of (map links_of sorted) lack (subst (λ (ls : List Lack). Has ls lack) each (has_contained (map lack_of lacked) lack (Contains-permutation (map lack_of all) (map lack_of lacked) lack home contained))) in
            let among : Has (links_from (document_of documents aliases files results) (kept_by documents taken) 0 results) part.0 =
            subst (λ (ls : List TargetLinks). Has ls part.0) found
            (has_contained (map links_of links) part.0 (Contains-permutation (map links_of sorted) (map links_of links) part.0 back (contains_had (map links_of sorted) part.0 part.1))) in
            lack_of_links taken part.0 lack among part.2)
            (map lack_of all) (All-contains_itself (map lack_of all));
        whole = λ lack is taken_is.
            let part = links_of_lack taken lack is taken_is in
            let in_sorted : Has (map links_of sorted) part.links =
            has_contained (map links_of sorted) part.links
            (Contains-permutation (map links_of links) (map links_of sorted) part.links there (contains_had (map links_of links) part.links (subst (λ (ls : List TargetLinks). Has ls part.links) (sym found) part.among))) in
            Contains-permutation (map lack_of lacked) (map lack_of all) lack out
            (contains_had (map lack_of lacked) lack (subst (λ (ls : List Lack). Has ls lack) (sym each) (flat_has lacks_of (map links_of sorted) part.links lack in_sorted part.own)));
      }

pub lacked_all : (items sorted : List LinksTo) (i : ℕ) (lacks : List Lack) → length items ≤ i → items ≡ sorted → lacks ≡ flat_map lacks_of (map links_of (take i items)) → lacks ≡ flat_map lacks_of (map links_of sorted)
lacked_all items sorted i lacks whole same so_far = so_far ∙ ap (λ (l : List LinksTo). flat_map lacks_of (map links_of l)) (take_all i items whole ∙ same)
