-- The links that are found lead to the targets with their numbers.
use Rattle.site_check.proofs.Prelude.{◌≡◌, ◌∙◌, ℕ, zero, suc, ◌+◌, ◌<◌, Bool, true, false, List, [], ◌∷◌, ◌++◌, arith, length, map, filter, flat_map, fold, not, Option, Some, None, refl, sym, ap, subst, inl, inr, bytes_eq, bytes_eq-Decides, cases_Bool, cond-true, cond-false, slice_get, slice_get-map, Lead, Page, PageResult, SiteFiles, Linked, is_ignored, is_unfound, lead_to, leads_at, leads_from, leads_of, linked, linked_at, indices_in, missing_from, moved_target, number_in, number_with, own_number, option_map, result_at, shown, string_bytes, Target, targets_of, to_number}
use Rattle.std.proofs.Common.{◌⊎◌}
use Rattle.std.proofs.lemmas.Bool.{and_parts}
use Rattle.std.proofs.lemmas.List.Elements.{All-append, All-cons, All-contains, All-head, All-map, All-nil, All-tail, All-weaker, Contains-get_or}
use Rattle.std.proofs.lemmas.List.Sorted.{All-permutation}
use Rattle.std.specs.List.{All, Contains}
use Rattle.std.specs.List.Sorted.{IsPermutation}
use Rattle.std.specs.Prelude.{if◌then◌else◌}
use Rattle.check_report.specs.declared.value.Broken.{Broken}
use Rattle.check_report.specs.declared.value.Kind.{Kind}
use Rattle.check_report.specs.declared.value.Kind.TheVariants as row
use Rattle.crawl_pages.specs.Pages.{is_missing}
use Rattle.crawl_pages.specs.declared.page.Page.TheVariants.{Found, Moved, Missing}
use Rattle.document_links.specs.declared.positions.LinkPlaces.{LinkPlaces}
use Rattle.site_check.proofs.AllRows.{mapped, results_at, results_back}
use Rattle.site_check.proofs.Placed.{contains_slice_get, slice_get_contains, some_same}
use Rattle.site_check.specs.Leads.{is_reported, moved_number}
use Rattle.site_check.specs.Located.{AddsListed, IsListed, IsLocatedRow, IsRowPlace, IsTargetPlace, LeadsAsSaid, TargetLocation, list_of, listed, located_row, page_text, placed_at, target_texts, texts_at}
use Rattle.site_check.specs.Locations.{IsLocated, IsRowLink, LeadsFromFile, LeadsTo, LeadsToPage, Location, in_row, location_of}
use Rattle.site_check.specs.declared.leads.ListedLead.{ListedLead}
use Rattle.site_check.specs.declared.invalid.InvalidText.{InvalidText}
use Rattle.site_check.specs.declared.linked.Linked as code
use Rattle.site_check.specs.declared.located.TargetPlace.{TargetPlace}
use Rattle.site_check.specs.declared.missing_anchors.MissingAnchor.{MissingAnchor}
use Rattle.site_check.specs.declared.outside.Outside.{Outside}

-- ---- the elements of a list

none_some : {X : Type 0} (x : X) → None ≡ Some x → ⊥
none_some x is = cc

abbrev pub Has : {X : Type 0} → List X → X → Type 0
Has [] x = ⊥
Has (y ∷ ys) x = (y ≡ x) ⊎ Has ys x

pub has_at : {X : Type 0} (xs : List X) (k : ℕ) (x : X) → slice_get xs k ≡ Some x → Has xs x
has_at [] k x at = none_some x at
has_at (y ∷ xs) zero x at = inl (some_same y x at)
has_at (y ∷ xs) (suc k) x at = inr (has_at xs k x at)

pub has_contained : {X : Type 0} (xs : List X) (x : X) → Contains xs x → Has xs x
has_contained xs x at = has_at xs at.0 x (contains_slice_get xs at.0 x at.1 at.2)

pub contains_had : {X : Type 0} (xs : List X) (x : X) → Has xs x → Contains xs x
contains_had [] x has = absurd has
contains_had (y ∷ xs) x has =
    elim has [
      | inl same ↦ (0, omega arith, same)
      | inr more ↦ let at = contains_had xs x more in let below : at.0 < length xs = at.1 in (suc at.0, omega (arith, below), at.2)
    ]

pub has_append : {X : Type 0} (xs ys : List X) (x : X) → Has (xs ++ ys) x → Has xs x ⊎ Has ys x
has_append [] ys x has = inr has
has_append (y ∷ xs) ys x has =
    elim has [
      | inl same ↦ inl (inl same)
      | inr more ↦ elim (has_append xs ys x more) [ inl front ↦ inl (inr front) | inr back ↦ inr back ]
    ]

pub has_filtered : {X : Type 0} (p : X → Bool) (xs : List X) (x : X) → Has (filter p xs) x → Has xs x
has_filtered p [] x has = absurd has
has_filtered p (y ∷ xs) x has =
    elim (cases_Bool (p y)) [
      | inl passes ↦
          elim (subst (λ l. Has l x) (cond-true (p y) (y ∷ filter p xs) (filter p xs) passes) has) [ inl same ↦ inl same | inr more ↦ inr (has_filtered p xs x more) ]
      | inr fails ↦ inr (has_filtered p xs x (subst (λ l. Has l x) (cond-false (p y) (y ∷ filter p xs) (filter p xs) fails) has))
    ]

-- ---- the links that are found

-- a link of a list, with its index and the number of its target
record IsLeadAt (f : List ℕ → Option ℕ) (n : ℕ) (urls : List (List ℕ)) (indices : List ℕ) (lead : Lead) : Type 0 where
  source : lead.source ≡ n
  at : ℕ
  url : List ℕ
  is_link : slice_get urls at ≡ Some url
  is_index : slice_get indices at ≡ Some lead.index
  number : f url ≡ Some lead.number

first_lead : (f : List ℕ → Option ℕ) (n : ℕ) (url : List ℕ) (urls : List (List ℕ)) (index : ℕ) (indices : List ℕ) (lead : Lead) (found : Option ℕ) → f url ≡ found → Has (lead_to n index found) lead → IsLeadAt f n (url ∷ urls) (index ∷ indices) lead
first_lead f n url urls index indices lead None is has = absurd has
first_lead f n url urls index indices lead (Some number) is has =
    elim has [
      | inl same ↦
          record {
            source = sym (ap (λ (l : Lead). l.source) same);
            at = 0;
            url = url;
            is_link = refl;
            is_index = ap (λ (l : Lead). Some l.index) same;
            number = is ∙ ap (λ (l : Lead). Some l.number) same;
          }
      | inr none ↦ absurd none
    ]

lead_at : (f : List ℕ → Option ℕ) (n : ℕ) (urls : List (List ℕ)) (indices : List ℕ) (lead : Lead) → Has (leads_at f n urls indices) lead → IsLeadAt f n urls indices lead
lead_at f n [] indices lead has = absurd has
lead_at f n (url ∷ urls) [] lead has = absurd has
lead_at f n (url ∷ urls) (index ∷ indices) lead has =
    elim (has_append (lead_to n index (f url)) (leads_at f n urls indices) lead has) [
      | inl here ↦ first_lead f n url urls index indices lead (f url) refl here
      | inr more ↦
          let rest = lead_at f n urls indices lead more in
          record { source = rest.source; at = suc rest.at; url = rest.url; is_link = rest.is_link; is_index = rest.is_index; number = rest.number }
    ]

-- the link of a page
record IsPageLead (f : List ℕ → Option ℕ) (g : List ℕ → List ℕ) (n : ℕ) (own : List ℕ) (page : Page) (lead : Lead) : Type 0 where
  links : List (List ℕ)
  skipped : ℕ
  found : page ≡ Found links skipped
  there : IsLeadAt f n links (g own) lead

page_lead : (f : List ℕ → Option ℕ) (g : List ℕ → List ℕ) (n : ℕ) (own : List ℕ) (page : Page) (lead : Lead) → Has (leads_of f g n own page) lead → IsPageLead f g n own page lead
page_lead f g n own (Found links skipped) lead has = record { links = links; skipped = skipped; found = refl; there = lead_at f n links (g own) lead has }
page_lead f g n own (Moved to) lead has = absurd has
page_lead f g n own Missing lead has = absurd has

-- the link of a result
record IsResultLead (f : List ℕ → Option ℕ) (g : List ℕ → List ℕ) (n : ℕ) (results : List PageResult) (lead : Lead) : Type 0 where
  place : ℕ
  result : PageResult
  is_result : slice_get results place ≡ Some result
  own : IsPageLead f g (n + place) result.url result.page lead

result_lead : (f : List ℕ → Option ℕ) (g : List ℕ → List ℕ) (n : ℕ) (results : List PageResult) (lead : Lead) → Has (leads_from f g n results) lead → IsResultLead f g n results lead
result_lead f g n [] lead has = absurd has
result_lead f g n (r ∷ more) lead has =
    let here_is : n ≡ n + 0 = omega arith in
    elim (has_append (leads_of f g n r.url r.page) (leads_from f g (n + 1) more) lead has) [
      | inl here ↦ record { place = 0; result = r; is_result = refl; own = subst (λ k. IsPageLead f g k r.url r.page lead) here_is (page_lead f g n r.url r.page lead here) }
      | inr there ↦
          let rest = result_lead f g (n + 1) more lead there in
          let next : (n + 1) + rest.place ≡ n + suc rest.place = omega arith in
          record { place = suc rest.place; result = rest.result; is_result = rest.is_result; own = subst (λ k. IsPageLead f g k rest.result.url rest.result.page lead) next rest.own }
    ]

-- ---- the numbers of targets

-- a number that is found is that of a target with the URL
numbered : (url : List ℕ) (before : Option ℕ) (ts : List Target) (n : ℕ) → fold (number_with url) before ts ≡ Some n → (before ≡ Some n) ⊎ Has ts (record { url = url; number = n })
numbered url before [] n is = inl is
numbered url before (t ∷ ts) n is =
    elim (numbered url (number_with url before t) ts n is) [
      | inl here ↦ by_test (bytes_eq t.url url) refl here
      | inr there ↦ inr (inr there)
    ]
  where
    by_test : (b : Bool) → bytes_eq t.url url ≡ b → (if b then Some t.number else before) ≡ Some n → (before ≡ Some n) ⊎ Has (t ∷ ts) (record { url = url; number = n })
    by_test true same here = inr (inl (λ i. record { url = (bytes_eq-Decides t.url url).0 same i; number = some_same t.number n here i }))
    by_test false other here = inl here

-- a target that is a missing page
record IsMissingAt (front : List ℕ) (entries : List (List ℕ)) (k : ℕ) (rs : List PageResult) (t : Target) : Type 0 where
  place : ℕ
  one : PageResult
  there : slice_get rs place ≡ Some one
  number : t.number ≡ k + place
  reported : is_reported front entries one ≡ true
  own : t.url ≡ one.url

first_missing : (front : List ℕ) (entries : List (List ℕ)) (k : ℕ) (r : PageResult) (more : List PageResult) (t : Target) (b : Bool) → is_reported front entries r ≡ b → Has (to_number r.url (if b then Some k else None)) t → IsMissingAt front entries k (r ∷ more) t
first_missing front entries k r more t false is has = absurd has
first_missing front entries k r more t true is has =
    elim has [
      | inl same ↦
          let own_number_is : k ≡ t.number = ap (λ (x : Target). x.number) same in
          record { place = 0; one = r; there = refl; number = omega (arith, own_number_is); reported = is; own = sym (ap (λ (x : Target). x.url) same) }
      | inr none ↦ absurd none
    ]

missing_at : (front : List ℕ) (entries : List (List ℕ)) (k : ℕ) (rs : List PageResult) (t : Target) → Has (missing_from front entries k rs) t → IsMissingAt front entries k rs t
missing_at front entries k [] t has = absurd has
missing_at front entries k (r ∷ more) t has =
    elim (has_append (to_number r.url (own_number front entries k r)) (missing_from front entries (k + 1) more) t has) [
      | inl here ↦ first_missing front entries k r more t (is_reported front entries r) refl here
      | inr there ↦
          let rest = missing_at front entries (k + 1) more t there in
          let at : t.number ≡ (k + 1) + rest.place = rest.number in
          record { place = suc rest.place; one = rest.one; there = rest.there; number = omega (arith, at); reported = rest.reported; own = rest.own }
    ]

-- a target that moved
record IsMovedAt (f : List ℕ → Option ℕ) (rs : List PageResult) (t : Target) : Type 0 where
  one : PageResult
  there : Has rs one
  own : t.url ≡ one.url
  number : moved_number f one.page ≡ Some t.number

first_moved : (f : List ℕ → Option ℕ) (r : PageResult) (more : List PageResult) (t : Target) (found : Option ℕ) → moved_number f r.page ≡ found → Has (to_number r.url found) t → IsMovedAt f (r ∷ more) t
first_moved f r more t None is has = absurd has
first_moved f r more t (Some number) is has =
    elim has [
      | inl same ↦ record { one = r; there = inl refl; own = sym (ap (λ (x : Target). x.url) same); number = is ∙ ap (λ (x : Target). Some x.number) same }
      | inr none ↦ absurd none
    ]

moved_at : (f : List ℕ → Option ℕ) (rs : List PageResult) (t : Target) → Has (flat_map (moved_target f) rs) t → IsMovedAt f rs t
moved_at f [] t has = absurd has
moved_at f (r ∷ more) t has =
    elim (has_append (to_number r.url (moved_number f r.page)) (flat_map (moved_target f) more) t has) [
      | inl here ↦ first_moved f r more t (moved_number f r.page) refl here
      | inr there ↦ let rest = moved_at f more t there in record { one = rest.one; there = inr rest.there; own = rest.own; number = rest.number }
    ]

record IsMovedTo (f : List ℕ → Option ℕ) (page : Page) (n : ℕ) : Type 0 where
  to : List ℕ
  moved : page ≡ Moved (Some to)
  number : f to ≡ Some n

moved_to : (f : List ℕ → Option ℕ) (page : Page) (n : ℕ) → moved_number f page ≡ Some n → IsMovedTo f page n
moved_to f (Moved (Some url)) n is = record { to = url; moved = refl; number = is }
moved_to f (Moved None) n is = absurd (none_some n is)
moved_to f (Found links skipped) n is = absurd (none_some n is)
moved_to f Missing n is = absurd (none_some n is)

-- the number is that of a missing page, to which the URL leads
pub record IsNumber (front : List ℕ) (entries : List (List ℕ)) (rs : List PageResult) (url : List ℕ) (n : ℕ) : Type 0 where
  pub one : PageResult
  pub there : slice_get rs n ≡ Some one
  pub reported : is_reported front entries one ≡ true
  pub ends : (url ≡ one.url) ⊎ Has rs (record { url = url; page = Moved (Some one.url) })

from_missing : (front : List ℕ) (entries : List (List ℕ)) (rs : List PageResult) (url : List ℕ) (n : ℕ) → Has (missing_from front entries 0 rs) (record { url = url; number = n }) → IsMissingAt front entries 0 rs (record { url = url; number = n })
from_missing front entries rs url n has = missing_at front entries 0 rs (record { url = url; number = n }) has

number_at_place : (rs : List PageResult) (n place : ℕ) (one : PageResult) → n ≡ 0 + place → slice_get rs place ≡ Some one → slice_get rs n ≡ Some one
number_at_place rs n place one same there = let is : n ≡ place = omega (arith, same) in ap (slice_get rs) is ∙ there

pub number_of_target : (front : List ℕ) (entries : List (List ℕ)) (rs : List PageResult) (url : List ℕ) (n : ℕ) → number_in (targets_of front entries rs) url ≡ Some n → IsNumber front entries rs url n
number_of_target front entries rs url n is =
    let missing = missing_from front entries 0 rs in
    elim (numbered url None (targets_of front entries rs) n is) [
      | inl none ↦ absurd (none_some n none)
      | inr has ↦
          elim (has_append missing (flat_map (moved_target (number_in missing)) rs) (record { url = url; number = n }) has) [
            | inl own ↦
                let at = from_missing front entries rs url n own in
                record { one = at.one; there = number_at_place rs n at.place at.one at.number at.there; reported = at.reported; ends = inl at.own }
            | inr moved ↦ of_moved (moved_at (number_in missing) rs (record { url = url; number = n }) moved)
          ]
    ]
  where
    of_target : (to : List ℕ) → IsMissingAt front entries 0 rs (record { url = to; number = n }) → Has rs (record { url = url; page = Moved (Some to) }) → IsNumber front entries rs url n
    of_target to at there =
        record {
          one = at.one;
          there = number_at_place rs n at.place at.one at.number at.there;
          reported = at.reported;
          ends = inr (subst (λ (u : List ℕ). Has rs (record { url = url; page = Moved (Some u) })) at.own there);
        }

    of_moved : IsMovedAt (number_in (missing_from front entries 0 rs)) rs (record { url = url; number = n }) → IsNumber front entries rs url n
    of_moved at =
        let target = moved_to (number_in (missing_from front entries 0 rs)) at.one.page n at.number in
        let same : at.one ≡ record { url = url; page = Moved (Some target.to) } = (λ i. record { url = sym at.own i; page = target.moved i }) in
        elim (numbered target.to None (missing_from front entries 0 rs) n target.number) [
          | inl none ↦ absurd (none_some n none)
          | inr has ↦ of_target target.to (from_missing front entries rs target.to n has) (subst (Has rs) same at.there)
        ]

-- ---- the rows

-- a link to a missing page leads to what its row reports
page_row : (front : List ℕ) (entries : List (List ℕ)) (places : List LinkPlaces) (results : List PageResult) (linked_ones : List code.Linked) (lead : Lead) (page : PageResult) (number : ℕ) (target : List ℕ) (file_url : Option (List ℕ)) →
    map result_at linked_ones ≡ filter is_unfound results → Contains (leads_from (number_in (targets_of front entries (map result_at linked_ones))) (indices_in places) 0 results) lead → slice_get results lead.source ≡ Some page →
    lead.number ≡ number → slice_get (map (page_text front) linked_ones) number ≡ Some target → ((one : PageResult) → slice_get (map result_at linked_ones) lead.number ≡ Some one → LeadsFromFile results file_url one) →
    LeadsToPage front places results target page lead.index file_url
page_row front entries places results linked_ones lead page number target file_url unfound contained is_page same is_target led =
    let rs = map result_at linked_ones in
    let f = number_in (targets_of front entries rs) in
    let found = result_lead f (indices_in places) 0 results lead (has_contained (leads_from f (indices_in places) 0 results) lead contained) in
    let own = found.own in
    let there = own.there in
    let source : lead.source ≡ found.place = omega (arith, there.source) in
    let page_is : page ≡ found.result = some_same page found.result (sym is_page ∙ ap (slice_get results) source ∙ found.is_result) in
    let of = number_of_target front entries rs there.url lead.number there.number in
    let text : PageResult → List ℕ = λ r. shown front r.url in
    let reported : Some target ≡ Some (shown front of.one.url) =
    sym is_target ∙ ap (slice_get (map (page_text front) linked_ones)) (sym same) ∙ ap (λ l. slice_get l lead.number) (sym (mapped text result_at linked_ones)) ∙ slice_get-map text rs lead.number
    ∙ ap (λ o. option_map text o) of.there in
    let whole : (x : PageResult) → Has rs x → Contains results x = λ x has. contains_had results x (has_filtered is_unfound results x (subst (λ l. Has l x) unfound has)) in
    subst (λ (p : PageResult). LeadsToPage front places results target p lead.index file_url) (sym page_is)
    (record {
      url = there.url;
      link = record { links = own.links; skipped = own.skipped; found = own.found; at = there.at; is_link = there.is_link; is_index = there.is_index };
      one = of.one;
      is_one = whole of.one (has_at rs lead.number of.one of.there);
      missing = (and_parts (is_missing of.one.page) (not (is_ignored entries (shown front of.one.url))) of.reported).0;
      ends = elim of.ends [ inl same_url ↦ inl same_url | inr moved ↦ inr (whole (record { url = there.url; page = Moved (Some of.one.url) }) moved) ];
      from_file = led of.one of.there;
      is_target = some_same target (shown front of.one.url) reported;
    })

-- the link of a location in a row
module _ (front : List ℕ) (entries : List (List ℕ)) (places : List LinkPlaces) (files : SiteFiles) (results : List PageResult) (reads : ℕ → Option (List ℕ) → Type 0) (linked_ones : List code.Linked) (anchors : List MissingAnchor) (invalid : List InvalidText) (outside : List Outside) (leads : List ListedLead) (placed : List TargetLocation)
    (unfound : map result_at linked_ones ≡ filter is_unfound results)
    (listed_ones : All (IsListed (leads_from (number_in (targets_of front entries (map result_at linked_ones))) (indices_in places) 0 results)) leads)
    (all : All (IsTargetPlace (LeadsAsSaid results (map result_at linked_ones)) files results reads leads) placed) where
  leads_to : (kind : Kind) (target : List ℕ) (number : ℕ) (one : ListedLead) (page : PageResult) (file_url : Option (List ℕ)) → slice_get (texts_at (target_texts front linked_ones anchors invalid outside) (list_of kind)) number ≡ Some target →
      Contains leads one → slice_get results one.lead.source ≡ Some page → one.list ≡ list_of kind → one.lead.number ≡ number → LeadsAsSaid results (map result_at linked_ones) file_url one → LeadsTo front places results kind target page one.lead.index file_url
  leads_to row.NoPage target number one page file_url is contained is_page list same has =
      page_row front entries places results linked_ones one.lead page number target file_url unfound
      (All-contains (IsListed (leads_from (number_in (targets_of front entries (map result_at linked_ones))) (indices_in places) 0 results)) leads one listed_ones contained list) is_page same is (has list)
  leads_to row.NoAnchor target number one page file_url is contained is_page list same has = tt
  leads_to row.NotUrl target number one page file_url is contained is_page list same has = tt
  leads_to row.UnknownScheme target number one page file_url is contained is_page list same has = tt
  leads_to row.LocalFile target number one page file_url is contained is_page list same has = tt
  leads_to row.Leaves target number one page file_url is contained is_page list same has = tt
  leads_to row.OutsideBase target number one page file_url is contained is_page list same has = tt
  leads_to row.NotInMap target number one page file_url is contained is_page list same has = tt

  row_link : (kind : Kind) (target : List ℕ) (number : ℕ) → slice_get (texts_at (target_texts front linked_ones anchors invalid outside) (list_of kind)) number ≡ Some target →
      (at : Location) → IsRowPlace placed (list_of kind) number target at → IsRowLink front places files results reads kind target at
  row_link kind target number is at own =
      let place = All-contains (IsTargetPlace (LeadsAsSaid results (map result_at linked_ones)) files results reads leads) placed own.one all own.to.is_one in
      record {
        page = place.page;
        is_page = slice_get_contains results place.one.lead.source place.page place.is_page;
        index = place.one.lead.index;
        own = place.own;
        leads = leads_to kind target number place.one place.page place.own is place.is_one place.is_page (sym (ap (λ (t : TargetLocation). t.list) place.is) ∙ own.to.list) (sym (ap (λ (t : TargetLocation). t.number) place.is) ∙ own.to.is_number) place.led;
        name = place.name;
        place = place.place;
        is_link = place.is_link;
        is = own.is ∙ ap (λ (t : TargetLocation). in_row target t.at) place.is;
      }

  row_located : (b : Broken) → IsLocatedRow placed (target_texts front linked_ones anchors invalid outside) (located_row b) → IsLocated front places files results reads b
  row_located b is =
      record {
        links =
            All-weaker (IsRowPlace placed (list_of b.kind) is.number (string_bytes b.target)) (IsRowLink front places files results reads b.kind (string_bytes b.target))
            (row_link b.kind (string_bytes b.target) is.number is.is_target) (map location_of b.places.items) is.each;
        order = is.order;
      }

  pub rows_located : (rows : List Broken) → All (IsLocatedRow placed (target_texts front linked_ones anchors invalid outside)) (map located_row rows) → All (IsLocated front places files results reads) rows
  rows_located [] are = All-nil (IsLocated front places files results reads)
  rows_located (b ∷ rows) are =
      let P = IsLocatedRow placed (target_texts front linked_ones anchors invalid outside) in
      All-cons (IsLocated front places files results reads) b rows (row_located b (All-head P (located_row b) (map located_row rows) are)) (rows_located rows (All-tail P (located_row b) (map located_row rows) are))

-- the results that found no page
pub unfound_of : (results : List PageResult) (all : List code.Linked) → map linked_at all ≡ map (linked results) (filter is_unfound results) → map result_at all ≡ filter is_unfound results
unfound_of results all is =
    let result : Linked → PageResult = λ l. l.result in
    results_at all ∙ ap (map result) is ∙ results_back results (filter is_unfound results)

-- ---- the links of all lists

listed_own : (pages : List Lead) → All (IsListed pages) (map (listed 0) pages)
listed_own pages = All-map (IsListed pages) (listed 0) pages (λ k d below is. Contains-get_or pages k d below)

listed_other : (pages : List Lead) (list : ℕ) (leads : List Lead) → (list ≡ 0 → ⊥) → All (IsListed pages) (map (listed list) leads)
listed_other pages list leads other = All-map (IsListed pages) (listed list) leads (λ k d below is. absurd (other is))

added_other : (pages : List Lead) (list : ℕ) (old new : List ListedLead) → (list ≡ 0 → ⊥) → AddsListed list old new → All (IsListed pages) old → All (IsListed pages) new
added_other pages list old new other added all = subst (All (IsListed pages)) (sym added.is) (All-append (IsListed pages) old (map (listed list) added.leads) all (listed_other pages list added.leads other))

pub all_listed : (pages leaving : List Lead) (leads_0 leads_1 leads_2 leads_3 leads_4 : List ListedLead) → leads_0 ≡ map (listed 0) pages → AddsListed 1 leads_0 leads_1 → AddsListed 2 leads_1 leads_2 → leads_3 ≡ leads_2 ++ map (listed 3) leaving → IsPermutation leads_3 leads_4 →
    All (IsListed pages) leads_4
all_listed pages leaving leads_0 leads_1 leads_2 leads_3 leads_4 own named texts urls sorted =
    let one : 1 ≡ 0 → ⊥ = λ is. omega (arith, is) in
    let two : 2 ≡ 0 → ⊥ = λ is. omega (arith, is) in
    let three : 3 ≡ 0 → ⊥ = λ is. omega (arith, is) in
    All-permutation (IsListed pages) leads_3 leads_4 sorted
    (added_other pages 3 leads_2 leads_3 three (record { leads = leaving; is = urls })
    (added_other pages 2 leads_1 leads_2 two texts (added_other pages 1 leads_0 leads_1 one named (subst (All (IsListed pages)) (sym own) (listed_own pages)))))

-- ---- the rows of a check

pub located_rows : (front : List ℕ) (entries : List (List ℕ)) (places : List LinkPlaces) (own_files files : SiteFiles) (own_results results : List PageResult) (reads : ℕ → Option (List ℕ) → Type 0) (all : List code.Linked) (anchors : List MissingAnchor) (invalid : List InvalidText) (outside : List Outside)
    (leads own_leads : List ListedLead) (found own_found : List TargetPlace) (rows : List Broken) → own_files ≡ files → own_results ≡ results → own_leads ≡ leads → own_found ≡ found →
    map linked_at all ≡ map (linked results) (filter is_unfound results) → All (IsListed (leads_from (number_in (targets_of front entries (map result_at all))) (indices_in places) 0 own_results)) leads →
    All (IsTargetPlace (LeadsAsSaid own_results (map result_at all)) own_files own_results reads own_leads) (map placed_at found) → All (IsLocatedRow (map placed_at own_found) (target_texts front all anchors invalid outside)) (map located_row rows) →
    All (IsLocated front places files results reads) rows
located_rows front entries places own_files files own_results results reads all anchors invalid outside leads own_leads found own_found rows same_files same_results same_leads same_found is listed_ones placed located =
    let pages : List PageResult → List Lead = λ rs. leads_from (number_in (targets_of front entries (map result_at all))) (indices_in places) 0 rs in
    let placed_1 : All (IsTargetPlace (LeadsAsSaid own_results (map result_at all)) own_files own_results reads leads) (map placed_at found) = subst (λ ls. All (IsTargetPlace (LeadsAsSaid own_results (map result_at all)) own_files own_results reads ls) (map placed_at found)) same_leads placed in
    let placed_2 : All (IsTargetPlace (LeadsAsSaid results (map result_at all)) own_files results reads leads) (map placed_at found) = subst (λ rs. All (IsTargetPlace (LeadsAsSaid rs (map result_at all)) own_files rs reads leads) (map placed_at found)) same_results placed_1 in
    let placed_3 : All (IsTargetPlace (LeadsAsSaid results (map result_at all)) files results reads leads) (map placed_at found) = subst (λ fs. All (IsTargetPlace (LeadsAsSaid results (map result_at all)) fs results reads leads) (map placed_at found)) same_files placed_2 in
    rows_located front entries places files results reads all anchors invalid outside leads (map placed_at found) (unfound_of results all is) (subst (λ rs. All (IsListed (pages rs)) leads) same_results listed_ones) placed_3 rows
    (subst (λ f. All (IsLocatedRow (map placed_at f) (target_texts front all anchors invalid outside)) (map located_row rows)) same_found located)
