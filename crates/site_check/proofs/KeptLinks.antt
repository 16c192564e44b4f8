-- Each link to a missing page has its location in the row of the page.
use Rattle.site_check.proofs.Prelude.{Lead, Page, PageResult, SiteFiles, Target, ◌≡◌, ◌∙◌, ℕ, zero, suc, ◌+◌, ◌<◌, Bool, true, false, List, [], ◌∷◌, ◌++◌, length, map, filter, flat_map, fold, not, Option, Some, None, option_map, inl, inr, refl, sym, ap, subst, arith, bytes_eq, bytes_eq-Decides, cases_Bool, cond-true, cond-false, slice_get, slice_get-map, slice_get_within, is_ignored, is_unfound, indices_in, lead_to, leads_at, leads_from, leads_of, linked, linked_at, missing_from, moved_target, number_in, number_with, own_number, result_at, shown, targets_of, to_number}
use Rattle.std.proofs.lemmas.Bool.{and_parts}
use Rattle.std.proofs.lemmas.List.{length-map}
use Rattle.std.proofs.lemmas.List.Elements.{All-contains, All-contains_itself, All-weaker, Contains-append_left, Contains-append_right}
use Rattle.std.proofs.lemmas.List.Sorted.{Contains-permutation}
use Rattle.std.specs.List.{All, Contains}
use Rattle.std.specs.List.Sorted.{IsPermutation}
use Rattle.check_report.specs.declared.value.Broken.{Broken}
use Rattle.crawl_pages.specs.Pages.{is_found, is_missing}
use Rattle.crawl_pages.specs.declared.page.Page.TheVariants.{Found, Moved, Missing}
use Rattle.document_links.specs.declared.positions.LinkPlaces.{LinkPlaces}
use Rattle.site_files.specs.declared.alias.Alias.{Alias}
use Rattle.site_check.proofs.AllPlaced.{contains_map, nothing, there}
use Rattle.site_check.proofs.LeadTargets.{Has, contains_had, has_at, has_contained, has_filtered, number_of_target, unfound_of}
use Rattle.site_check.proofs.PageIndices.{rising_order}
use Rattle.site_check.proofs.Placed.{contains_slice_get, some_same}
use Rattle.site_check.specs.Complete.{AreOnce, HasAllLinks, HasIndices, HasPlace, IsBrokenLink, IsKept, IsKeptPlace, IsLinkKept}
use Rattle.site_check.specs.Leads.{is_reported}
use Rattle.site_check.specs.Located.{AddsListed, LeadsAsSaid, TargetLocation, link_place, listed, page_text, placed_at}
use Rattle.site_check.specs.Locations.{EndsAt, location_in}
use Rattle.site_check.specs.declared.linked.Linked as code
use Rattle.site_check.specs.declared.leads.ListedLead.{ListedLead}
use Rattle.site_check.specs.declared.located.TargetPlace.{TargetPlace}
use Rattle.site_check.specs.declared.missing_anchors.MissingAnchor.{MissingAnchor}

not_true : false ≡ true → ⊥
not_true is = cc

-- ---- lists

pub has_left : {X : Type 0} (xs ys : List X) (x : X) → Has xs x → Has (xs ++ ys) x
has_left [] ys x has = absurd has
has_left (y ∷ xs) ys x has = elim has [ inl same ↦ inl same | inr more ↦ inr (has_left xs ys x more) ]

pub has_right : {X : Type 0} (xs ys : List X) (x : X) → Has ys x → Has (xs ++ ys) x
has_right [] ys x has = has
has_right (y ∷ xs) ys x has = inr (has_right xs ys x has)

-- an element that passes a test is among those that do
has_filter : {X : Type 0} (p : X → Bool) (xs : List X) (x : X) → p x ≡ true → Has xs x → Has (filter p xs) x
has_filter p [] x passes has = absurd has
has_filter p (y ∷ xs) x passes has =
    elim (cases_Bool (p y)) [
      | inl kept ↦
          subst (λ l. Has l x) (sym (cond-true (p y) (y ∷ filter p xs) (filter p xs) kept)) (elim has [ inl same ↦ inl same | inr more ↦ inr (has_filter p xs x passes more) ])
      | inr dropped ↦
          subst (λ l. Has l x) (sym (cond-false (p y) (y ∷ filter p xs) (filter p xs) dropped))
          (elim has [ inl same ↦ absurd (not_true (sym dropped ∙ ap p same ∙ passes)) | inr more ↦ has_filter p xs x passes more ])
    ]

-- the element of a list whose image has an index
pub record IsImage {X Y : Type 0} (f : X → Y) (xs : List X) (k : ℕ) (y : Y) : Type 0 where
  pub x : X
  pub at : slice_get xs k ≡ Some x
  pub is : f x ≡ y

pub image : {X Y : Type 0} (f : X → Y) (xs : List X) (k : ℕ) (y : Y) → slice_get (map f xs) k ≡ Some y → IsImage f xs k y
image f xs k y at =
    let within : k < length (map f xs) = slice_get_within (map f xs) k y at in
    let found = there xs k (omega (arith, within, length-map xs f)) in
    record { x = found.x; at = found.at; is = some_same (f found.x) y (sym (slice_get-map f xs k ∙ ap (λ o. option_map f o) found.at) ∙ at) }

-- ---- the links that are found

lead_in : (f : List ℕ → Option ℕ) (n : ℕ) (urls : List (List ℕ)) (indices : List ℕ) (at : ℕ) (url : List ℕ) (index number : ℕ) → slice_get urls at ≡ Some url → slice_get indices at ≡ Some index → f url ≡ Some number →
    Contains (leads_at f n urls indices) (record { source = n; index = index; number = number })
lead_in f n [] indices at url index number at_url at_index is = absurd (nothing url at_url)
lead_in f n (u ∷ urls) [] at url index number at_url at_index is = absurd (nothing index at_index)
lead_in f n (u ∷ urls) (i ∷ indices) zero url index number at_url at_index is =
    let lead : Lead = record { source = n; index = index; number = number } in
    let found : f u ≡ Some number = ap f (some_same u url at_url) ∙ is in
    let here : Contains (lead_to n i (Some number)) lead =
    subst (λ (j : ℕ). Contains (lead_to n j (Some number)) lead) (sym (some_same i index at_index)) (0, omega arith, refl) in
    Contains-append_left (lead_to n i (f u)) (leads_at f n urls indices) lead (subst (λ (o : Option ℕ). Contains (lead_to n i o) lead) (sym found) here)
lead_in f n (u ∷ urls) (i ∷ indices) (suc k) url index number at_url at_index is =
    Contains-append_right (lead_to n i (f u)) (leads_at f n urls indices) (record { source = n; index = index; number = number }) (lead_in f n urls indices k url index number at_url at_index is)

result_in : (f : List ℕ → Option ℕ) (g : List ℕ → List ℕ) (n : ℕ) (results : List PageResult) (k : ℕ) (page : PageResult) (lead : Lead) → slice_get results k ≡ Some page → Contains (leads_of f g (n + k) page.url page.page) lead →
    Contains (leads_from f g n results) lead
result_in f g n [] k page lead at has = absurd (nothing page at)
result_in f g n (r ∷ more) zero page lead at has =
    let none_more : n + 0 ≡ n = omega arith in
    let same : page ≡ r = sym (some_same r page at) in
    Contains-append_left (leads_of f g n r.url r.page) (leads_from f g (n + 1) more) lead
    (subst (λ (p : PageResult). Contains (leads_of f g n p.url p.page) lead) same (subst (λ (j : ℕ). Contains (leads_of f g j page.url page.page) lead) none_more has))
result_in f g n (r ∷ more) (suc k) page lead at has =
    let next : n + suc k ≡ (n + 1) + k = omega arith in
    Contains-append_right (leads_of f g n r.url r.page) (leads_from f g (n + 1) more) lead
    (result_in f g (n + 1) more k page lead at (subst (λ (j : ℕ). Contains (leads_of f g j page.url page.page) lead) next has))

-- ---- the numbers of targets

record IsNumbered (o : Option ℕ) : Type 0 where
  number : ℕ
  is : o ≡ Some number

-- after a target was found, one is found
stays_numbered : (url : List ℕ) (m : ℕ) (ts : List Target) → IsNumbered (fold (number_with url) (Some m) ts)
stays_numbered url m [] = record { number = m; is = refl }
stays_numbered url m (t ∷ ts) =
    elim (cases_Bool (bytes_eq t.url url)) [
      | inl own ↦ subst (λ (o : Option ℕ). IsNumbered (fold (number_with url) o ts)) (sym (cond-true (bytes_eq t.url url) (Some t.number) (Some m) own)) (stays_numbered url t.number ts)
      | inr other ↦ subst (λ (o : Option ℕ). IsNumbered (fold (number_with url) o ts)) (sym (cond-false (bytes_eq t.url url) (Some t.number) (Some m) other)) (stays_numbered url m ts)
    ]

numbered_by : (url : List ℕ) (before : Option ℕ) (ts : List Target) (t : Target) → t.url ≡ url → Has ts t → IsNumbered (fold (number_with url) before ts)
numbered_by url before [] t is has = absurd has
numbered_by url before (first ∷ ts) t is has =
    elim has [
      | inl same ↦
          let own : bytes_eq first.url url ≡ true = (bytes_eq-Decides first.url url).1 (ap (λ (x : Target). x.url) same ∙ is) in
          subst (λ (o : Option ℕ). IsNumbered (fold (number_with url) o ts)) (sym (cond-true (bytes_eq first.url url) (Some first.number) before own)) (stays_numbered url first.number ts)
      | inr more ↦ numbered_by url (number_with url before first) ts t is more
    ]

abbrev target_with : ℕ → List ℕ → Target
target_with number url = record { url = url; number = number }

-- a missing page that is reported is a target
record IsTargetIn (front : List ℕ) (entries : List (List ℕ)) (n : ℕ) (rs : List PageResult) (url : List ℕ) : Type 0 where
  number : ℕ
  has : Has (missing_from front entries n rs) (record { url = url; number = number })

target_in : (front : List ℕ) (entries : List (List ℕ)) (n : ℕ) (rs : List PageResult) (one : PageResult) → is_reported front entries one ≡ true → Has rs one → IsTargetIn front entries n rs one.url
target_in front entries n [] one reported has = absurd has
target_in front entries n (r ∷ more) one reported has =
    elim has [
      | inl same ↦
          let own : own_number front entries n r ≡ Some n = ap (own_number front entries n) same ∙ cond-true (is_reported front entries one) (Some n) None reported in
          let target : Target = record { url = one.url; number = n } in
          let here : Has (to_number r.url (Some n)) target = inl (ap (target_with n) (ap (λ (x : PageResult). x.url) same)) in
          record {
            number = n;
            has =
                has_left (to_number r.url (own_number front entries n r)) (missing_from front entries (n + 1) more) target
                (subst (λ (o : Option ℕ). Has (to_number r.url o) target) (sym own) here);
          }
      | inr later ↦
          let rest = target_in front entries (n + 1) more one reported later in
          record { number = rest.number; has = has_right (to_number r.url (own_number front entries n r)) (missing_from front entries (n + 1) more) (record { url = one.url; number = rest.number }) rest.has }
    ]

missing_in : (front : List ℕ) (entries : List (List ℕ)) (rs : List PageResult) (one : PageResult) → is_reported front entries one ≡ true → Has rs one → IsNumbered (number_in (missing_from front entries 0 rs) one.url)
missing_in front entries rs one reported has =
    let found = target_in front entries 0 rs one reported has in
    numbered_by one.url None (missing_from front entries 0 rs) (record { url = one.url; number = found.number }) refl found.has

-- a page that moved to a target is one
moved_in : (f : List ℕ → Option ℕ) (rs : List PageResult) (url to : List ℕ) (number : ℕ) → f to ≡ Some number → Has rs (record { url = url; page = Moved (Some to) }) → Has (flat_map (moved_target f) rs) (record { url = url; number = number })
moved_in f [] url to number is has = absurd has
moved_in f (r ∷ more) url to number is has =
    let target : Target = record { url = url; number = number } in
    elim has [
      | inl same ↦
          has_left (moved_target f r) (flat_map (moved_target f) more) target
          (subst (λ (x : PageResult). Has (moved_target f x) target) (sym same) (subst (λ (o : Option ℕ). Has (to_number url o) target) (sym is) (inl refl)))
      | inr later ↦ has_right (moved_target f r) (flat_map (moved_target f) more) target (moved_in f more url to number is later)
    ]

is_not_found : (page : Page) → is_missing page ≡ true → not (is_found page) ≡ true
is_not_found (Found links skipped) is = absurd (not_true is)
is_not_found (Moved to) is = refl
is_not_found Missing is = refl

moved_same : (a b : List ℕ) → Moved (Some a) ≡ Moved (Some b) → a ≡ b
moved_same a b is = cc

-- the reported page is missing
missing_of : (front : List ℕ) (entries : List (List ℕ)) (one : PageResult) → is_reported front entries one ≡ true → is_missing one.page ≡ true
missing_of front entries one reported = (and_parts (is_missing one.page) (not (is_ignored entries (shown front one.url))) reported).0

-- ---- each link to a missing page

-- the number of a missing page to which a URL leads
record IsItsNumber (front : List ℕ) (entries : List (List ℕ)) (rs : List PageResult) (url : List ℕ) (one : PageResult) : Type 0 where
  number : ℕ
  found : number_in (targets_of front entries rs) url ≡ Some number
  at : slice_get rs number ≡ Some one

module _ (front : List ℕ) (entries : List (List ℕ)) (results rs : List PageResult) (unfound : rs ≡ filter is_unfound results) (once : AreOnce results) where
  whole : (x : PageResult) → Has rs x → Contains results x
  whole x has = contains_had results x (has_filtered is_unfound results x (subst (λ l. Has l x) unfound has))

  among : (x : PageResult) → is_unfound x ≡ true → Contains results x → Has rs x
  among x passes has = subst (λ l. Has l x) (sym unfound) (has_filter is_unfound results x passes (has_contained results x has))

  -- a result that moved is not the missing page
  not_moved : (url to : List ℕ) (one : PageResult) → Contains results (record { url = url; page = Moved (Some to) }) → Contains results one → url ≡ one.url → is_missing one.page ≡ true → ⊥
  not_moved url to one moved is_one same missing =
      let same_one = once.same (record { url = url; page = Moved (Some to) }) one moved is_one same in
      not_true (ap (λ (x : PageResult). is_missing x.page) same_one ∙ missing)

  -- a URL leads to one missing page
  one_end : (url : List ℕ) (a b : PageResult) → Contains results a → Contains results b → is_missing a.page ≡ true → is_missing b.page ≡ true → EndsAt results url a → EndsAt results url b → a ≡ b
  one_end url a b is_a is_b missing_a missing_b end_a end_b =
      elim end_a [
        | inl own_a ↦
            elim end_b [
              | inl own_b ↦ once.same a b is_a is_b (sym own_a ∙ own_b)
              | inr moved_b ↦ absurd (not_moved url b.url a moved_b is_a own_a missing_a)
            ]
        | inr moved_a ↦
            elim end_b [
              | inl own_b ↦ absurd (not_moved url a.url b moved_a is_b own_b missing_b)
              | inr moved_b ↦
                  let same = once.same (record { url = url; page = Moved (Some a.url) }) (record { url = url; page = Moved (Some b.url) }) moved_a moved_b refl in
                  once.same a b is_a is_b (moved_same a.url b.url (ap (λ (x : PageResult). x.page) same))
            ]
      ]

  -- some number is found
  some_number : (url : List ℕ) (one : PageResult) → is_reported front entries one ≡ true → Contains results one → EndsAt results url one → IsNumbered (number_in (targets_of front entries rs) url)
  some_number url one reported is_one ends =
      let missing = missing_from front entries 0 rs in
      let moved = flat_map (moved_target (number_in missing)) rs in
      let there_is : Has rs one = among one (is_not_found one.page (missing_of front entries one reported)) is_one in
      elim ends [
        | inl own ↦
            let found = target_in front entries 0 rs one reported there_is in
            numbered_by url None (missing ++ moved) (record { url = one.url; number = found.number }) (sym own) (has_left missing moved (record { url = one.url; number = found.number }) found.has)
        | inr moves ↦
            let to = missing_in front entries rs one reported there_is in
            let source : Has rs (record { url = url; page = Moved (Some one.url) }) = among (record { url = url; page = Moved (Some one.url) }) refl moves in
            numbered_by url None (missing ++ moved) (record { url = url; number = to.number }) refl
            (has_right missing moved (record { url = url; number = to.number }) (moved_in (number_in missing) rs url one.url to.number to.is source))
      ]

  its_number : (url : List ℕ) (one : PageResult) → is_reported front entries one ≡ true → Contains results one → EndsAt results url one → IsItsNumber front entries rs url one
  its_number url one reported is_one ends =
      let some = some_number url one reported is_one ends in
      let of = number_of_target front entries rs url some.number some.is in
      let is_of : Contains results of.one = whole of.one (has_at rs some.number of.one of.there) in
      let ends_of : EndsAt results url of.one = elim of.ends [ inl own ↦ inl own | inr moved ↦ inr (whole (record { url = url; page = Moved (Some of.one.url) }) moved) ] in
      let same : of.one ≡ one = one_end url of.one one is_of is_one (missing_of front entries of.one of.reported) (missing_of front entries one reported) ends_of ends in
      record { number = some.number; found = some.is; at = of.there ∙ ap (λ (x : PageResult). Some x) same }

module _ (front : List ℕ) (entries : List (List ℕ)) (aliases : List Alias) (places : List LinkPlaces) (files : SiteFiles) (results : List PageResult) (reads : ℕ → Option (List ℕ) → Type 0) (all : List code.Linked) (anchors : List MissingAnchor) (leads : List ListedLead) (placed : List TargetLocation) (rows : List Broken)
    (unfound : map result_at all ≡ filter is_unfound results)
    (indexed : All (HasIndices files.rules.now.places (number_in (targets_of front entries (map result_at all))) (indices_in places) aliases) results)
    (led : All (Contains leads) (map (listed 0) (leads_from (number_in (targets_of front entries (map result_at all))) (indices_in places) 0 results)))
    (has : All (HasPlace (LeadsAsSaid results (map result_at all)) files results reads placed) leads)
    (kept : All (IsKeptPlace front entries all anchors rows) placed)
    (once : AreOnce results) where
  link_kept : (page : PageResult) (at : ℕ) (one : PageResult) → IsBrokenLink front entries aliases files results page at one → IsLinkKept front entries places files results reads rows page at one
  link_kept page at one broken =
      let rs = map result_at all in
      let f = number_in (targets_of front entries rs) in
      let k = broken.is_page.0 in
      let at_page : slice_get results k ≡ Some page = contains_slice_get results k page broken.is_page.1 broken.is_page.2 in
      let its = its_number front entries results rs unfound once broken.url one broken.reported broken.is_one broken.ends in
      let link = broken.link in
      let within : at < length (indices_in places page.url) =
      ((All-contains (HasIndices files.rules.now.places f (indices_in places) aliases) results page indexed broken.is_page).each broken.positions broken.is_own at broken.url link its.number its.found).0 in
      let known = there (indices_in places page.url) at within in
      let index : ℕ = known.x in
      let lead : Lead = record { source = k; index = index; number = its.number } in
      let here : Contains (leads_of f (indices_in places) k page.url (Found link.links link.skipped)) lead =
      lead_in f k link.links (indices_in places page.url) at broken.url index its.number link.is_link known.at its.found in
      let none_before : k ≡ 0 + k = omega arith in
      let own : Contains (leads_of f (indices_in places) (0 + k) page.url page.page) lead =
      subst (λ (j : ℕ). Contains (leads_of f (indices_in places) j page.url page.page) lead) none_before (subst (λ (p : Page). Contains (leads_of f (indices_in places) k page.url p) lead) (sym link.found) here) in
      let pages = leads_from f (indices_in places) 0 results in
      let in_pages : Contains pages lead = result_in f (indices_in places) 0 results k page lead at_page own in
      let one_lead : ListedLead = listed 0 lead in
      let in_leads : Contains leads one_lead = All-contains (Contains leads) (map (listed 0) pages) one_lead led (contains_map (listed 0) pages lead in_pages) in
      let place = (All-contains (HasPlace (LeadsAsSaid results rs) files results reads placed) leads one_lead has in_leads).placed page at_page in
      let target = image result_at all its.number one its.at in
      let of_pages : ◌≡◌ {A = ℕ} 0 0 = refl in
      let row : IsKept entries rows 0 (page_text front target.x) (location_in place.name place.place) =
      (All-contains (IsKeptPlace front entries all anchors rows) placed (link_place place.name one_lead place.place) kept place.is_in).kept of_pages target.x target.at in
      record {
        index = index;
        is_index = known.at;
        name = place.name;
        place = place.place;
        own = place.own;
        is_link = place.is_link;
        from_file = place.led of_pages one its.at;
        kept = subst (λ (text : List ℕ). IsKept entries rows 0 text (location_in place.name place.place)) (ap (λ (x : PageResult). shown front x.url) target.is) row;
      }

  links_in_order : (page : PageResult) (at later : ℕ) (one : PageResult) → IsBrokenLink front entries aliases files results page at one → at < later → (index next : ℕ) → slice_get (indices_in places page.url) at ≡ Some index →
      slice_get (indices_in places page.url) later ≡ Some next → index < next
  links_in_order page at later one broken before index next is_index is_next =
      let rs = map result_at all in
      let f = number_in (targets_of front entries rs) in
      let its = its_number front entries results rs unfound once broken.url one broken.reported broken.is_one broken.ends in
      let rises = ((All-contains (HasIndices files.rules.now.places f (indices_in places) aliases) results page indexed broken.is_page).each broken.positions broken.is_own at broken.url broken.link its.number its.found).1 in
      rising_order 0 (indices_in places page.url) rises at later index next before is_index is_next

-- ---- the rows of a check

pub all_links : (front : List ℕ) (entries : List (List ℕ)) (aliases : List Alias) (places : List LinkPlaces) (own_files files : SiteFiles) (own_results results : List PageResult) (reads : ℕ → Option (List ℕ) → Type 0) (all : List code.Linked) (anchors : List MissingAnchor) (own_leads leads : List ListedLead) (found own_found : List TargetPlace)
    (rows : List Broken) → own_files ≡ files → own_results ≡ results → own_leads ≡ leads → own_found ≡ found → map linked_at all ≡ map (linked results) (filter is_unfound results) →
    All (HasIndices own_files.rules.now.places (number_in (targets_of front entries (map result_at all))) (indices_in places) aliases) own_results →
    All (Contains leads) (map (listed 0) (leads_from (number_in (targets_of front entries (map result_at all))) (indices_in places) 0 own_results)) → All (HasPlace (LeadsAsSaid own_results (map result_at all)) own_files own_results reads (map placed_at found)) own_leads →
    All (IsKeptPlace front entries all anchors rows) (map placed_at own_found) → AreOnce results → HasAllLinks front entries aliases places files results reads rows
all_links front entries aliases places own_files files own_results results reads all anchors own_leads leads found own_found rows same_files same_results same_leads same_found is indexed led has kept once =
    let f = number_in (targets_of front entries (map result_at all)) in
    let pages : List PageResult → List Lead = λ rs. leads_from f (indices_in places) 0 rs in
    let placed = map placed_at found in
    let indexed_1 : All (HasIndices own_files.rules.now.places f (indices_in places) aliases) results = subst (All (HasIndices own_files.rules.now.places f (indices_in places) aliases)) same_results indexed in
    let indexed_2 : All (HasIndices files.rules.now.places f (indices_in places) aliases) results =
    subst (λ (fs : SiteFiles). All (HasIndices fs.rules.now.places f (indices_in places) aliases) results) same_files indexed_1 in
    let has_1 : All (HasPlace (LeadsAsSaid own_results (map result_at all)) own_files own_results reads placed) leads = subst (All (HasPlace (LeadsAsSaid own_results (map result_at all)) own_files own_results reads placed)) same_leads has in
    let has_2 : All (HasPlace (LeadsAsSaid results (map result_at all)) own_files results reads placed) leads = subst (λ rs. All (HasPlace (LeadsAsSaid rs (map result_at all)) own_files rs reads placed) leads) same_results has_1 in
    let has_3 : All (HasPlace (LeadsAsSaid results (map result_at all)) files results reads placed) leads = subst (λ fs. All (HasPlace (LeadsAsSaid results (map result_at all)) fs results reads placed) leads) same_files has_2 in
    let led_1 : All (Contains leads) (map (listed 0) (pages results)) = subst (λ rs. All (Contains leads) (map (listed 0) (pages rs))) same_results led in
    let kept_1 : All (IsKeptPlace front entries all anchors rows) placed = subst (λ f. All (IsKeptPlace front entries all anchors rows) (map placed_at f)) same_found kept in
    record {
      each = link_kept front entries aliases places files results reads all anchors leads placed rows (unfound_of results all is) indexed_2 led_1 has_3 kept_1 once;
      in_order = links_in_order front entries aliases places files results reads all anchors leads placed rows (unfound_of results all is) indexed_2 led_1 has_3 kept_1 once;
    }

-- ---- the links of all lists

pub all_led : (pages leaving : List Lead) (leads_0 leads_1 leads_2 leads_3 leads_4 : List ListedLead) → leads_0 ≡ map (listed 0) pages → AddsListed 1 leads_0 leads_1 → AddsListed 2 leads_1 leads_2 → leads_3 ≡ leads_2 ++ map (listed 3) leaving → IsPermutation leads_3 leads_4 →
    All (Contains leads_4) (map (listed 0) pages)
all_led pages leaving leads_0 leads_1 leads_2 leads_3 leads_4 own named texts urls sorted =
    subst (All (Contains leads_4)) own
    (All-weaker (Contains leads_0) (Contains leads_4)
    (λ one has.
    Contains-permutation leads_3 leads_4 one sorted
    (added 3 leads_2 leads_3 one (record { leads = leaving; is = urls }) (added 2 leads_1 leads_2 one texts (added 1 leads_0 leads_1 one named has)))) leads_0 (All-contains_itself leads_0))
  where
    added : (list : ℕ) (old new : List ListedLead) (one : ListedLead) → AddsListed list old new → Contains old one → Contains new one
    added list old new one adds has = subst (λ l. Contains l one) (sym adds.is) (Contains-append_left old (map (listed list) adds.leads) one has)
