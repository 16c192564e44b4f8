-- Each link to a missing anchor has its location in the row of the anchor.
use Rattle.site_check.proofs.Prelude.{Lead, PageResult, SiteFiles, ◌≡◌, ◌∙◌, ℕ, zero, suc, ◌+◌, false, List, [], ◌∷◌, ◌++◌, map, Option, Some, option_map, inl, refl, sym, ap, subst, arith, anchor_text, cond-false, flat_map, is_ignored, slice_get, slice_get-map}
use Rattle.std.proofs.lemmas.List.Elements.{All-contains, Contains-append_left, Contains-append_right}
use Rattle.std.proofs.lemmas.List.Sorted.{Contains-permutation}
use Rattle.std.specs.List.{All, Contains}
use Rattle.std.specs.List.Sorted.{IsPermutation}
use Rattle.check_report.specs.declared.value.Broken.{Broken}
use Rattle.document_links.specs.declared.anchors.PageAnchors.{PageAnchors}
use Rattle.site_files.specs.declared.alias.Alias.{Alias}
use Rattle.site_check.proofs.AllPlaced.{contains_map, nothing}
use Rattle.site_check.proofs.AllRows.{mapped}
use Rattle.site_check.proofs.KeptLinks.{has_left, has_right, image}
use Rattle.site_check.proofs.LackedFound.{flat_has, has_flat}
use Rattle.site_check.proofs.LeadTargets.{Has, contains_had, has_contained}
use Rattle.site_check.proofs.Placed.{contains_slice_get, some_same}
use Rattle.site_check.specs.AnchorGroups.{AddsGroups, Group, IsGroup, anchor_row, group_leads, group_row, group_shown, lack_lead, lead_at, leads_from}
use Rattle.site_check.specs.Broken.{Row}
use Rattle.site_check.specs.Complete.{HasPlace, IsKept, IsKeptPlace}
use Rattle.site_check.specs.LackedLinks.{lack_of}
use Rattle.site_check.specs.LackedPlaces.{HasAllLacks, HasLackLeads, IsIndexedLack, IsLackLed}
use Rattle.site_check.specs.Lacks.{Anchor, AreLacks, Lack, anchor_of, anchor_shown, is_any, lack_shown}
use Rattle.site_check.specs.Located.{AddsListed, TargetLocation, link_place, listed, placed_at}
use Rattle.site_check.specs.Locations.{location_in}
use Rattle.site_check.specs.declared.linked.Linked as code
use Rattle.site_check.specs.declared.leads.ListedLead.{ListedLead}
use Rattle.site_check.specs.declared.located.TargetPlace.{TargetPlace}
use Rattle.site_check.specs.declared.missing_anchors.MissingAnchor.{MissingAnchor}
use Rattle.site_check.specs.declared.missing_anchors.MissingAnchorLink.{MissingAnchorLink}

-- ---- the links of groups

-- a link of the group with an index is among those of all groups
led_from : (front : List ℕ) (entries : List (List ℕ)) (n : ℕ) (groups : List Group) (k : ℕ) (group : Group) (lead : Lead) → slice_get groups k ≡ Some group → Has (group_leads front entries (n + k) group) lead → Has (leads_from front entries n groups) lead
led_from front entries n [] k group lead at has = absurd (nothing group at)
led_from front entries n (g ∷ more) zero group lead at has =
    let none_more : n + 0 ≡ n = omega arith in
    has_left (group_leads front entries n g) (leads_from front entries (n + 1) more) lead
    (subst (λ (h : Group). Has (group_leads front entries n h) lead) (sym (some_same g group at)) (subst (λ (j : ℕ). Has (group_leads front entries j group) lead) none_more has))
led_from front entries n (g ∷ more) (suc k) group lead at has =
    let next : n + suc k ≡ (n + 1) + k = omega arith in
    has_right (group_leads front entries n g) (leads_from front entries (n + 1) more) lead
    (led_from front entries (n + 1) more k group lead at (subst (λ (j : ℕ). Has (group_leads front entries j group) lead) next has))

-- a link with an index to an anchor that no entry matches is added
led_in : (front : List ℕ) (entries : List (List ℕ)) (number : ℕ) (group : Group) (lack : Lack) (index : ℕ) → Has group.lacks lack → lack.index ≡ Some index → is_ignored entries (group_shown front group) ≡ false →
    Has (group_leads front entries number group) (record { source = lack.source; index = index; number = number })
led_in front entries number group lack index has is reported =
    let lead : Lead = record { source = lack.source; index = index; number = number } in
    let own : Has (lead_at number lack.source (Some index)) lead = inl refl in
    subst (λ (l : List Lead). Has l lead) (sym (cond-false (is_ignored entries (group_shown front group)) [] (flat_map (lack_lead number) group.lacks) reported))
    (flat_has (lack_lead number) group.lacks lack lead has (subst (λ (o : Option ℕ). Has (lead_at number lack.source o) lead) (sym is) own))

-- the text of the row of a group
text_at : (front : List ℕ) (groups : List Group) (rows : List Row) (k : ℕ) (group : Group) → rows ≡ map (group_row front) groups → slice_get groups k ≡ Some group → slice_get (map (λ (row : Row). row.text) rows) k ≡ Some (group_shown front group)
text_at front groups rows k group exact at =
    let text : Row → List ℕ = λ row. row.text in
    ap (λ (rs : List Row). slice_get (map text rs) k) exact ∙ slice_get-map text (map (group_row front) groups) k ∙ ap (option_map text) (slice_get-map (group_row front) groups k) ∙ ap (λ (o : Option Group). option_map text (option_map (group_row front) o)) at

-- ---- the links of a check

module _ (front : List ℕ) (entries : List (List ℕ)) (documents : List PageAnchors) (aliases : List Alias) (files : SiteFiles) (results : List PageResult) where
  lack_led : (lacks : List Lack) (rows : List Row) (old new : List ListedLead) → AreLacks documents aliases files results is_any lacks → AddsGroups front entries lacks rows old new → (lack : Lack) (index : ℕ) → IsIndexedLack front entries documents aliases files results lack index →
      IsLackLed front (map (λ (row : Row). row.text) rows) new lack index
  lack_led lacks rows old new are adds lack index is =
      let grouped = adds.are in
      let groups = grouped.groups in
      let part = has_flat (λ (g : Group). g.lacks) groups lack (subst (λ (l : List Lack). Has l lack) grouped.split (has_contained lacks lack (are.whole lack is.is refl))) in
      let group : Group = part.0 in
      let among : Contains groups group = contains_had groups group part.1 in
      let k : ℕ = among.0 in
      let at : slice_get groups k ≡ Some group = contains_slice_get groups k group among.1 among.2 in
      let own : IsGroup group = All-contains IsGroup groups group grouped.are among in
      let leads : anchor_of lack ≡ group.anchor = All-contains (λ (l : Lack). anchor_of l ≡ group.anchor) group.lacks lack own.each (contains_had group.lacks lack part.2) in
      let text : lack_shown front lack ≡ group_shown front group = ap (λ (a : Anchor). anchor_shown front a.url a.fragment) leads in
      let lead : Lead = record { source = lack.source; index = index; number = k } in
      let in_group : Has (group_leads front entries k group) lead = led_in front entries k group lack index part.2 is.is_index (ap (is_ignored entries) (sym text) ∙ is.reported) in
      let number : k ≡ 0 + k = omega arith in
      let found : Has (leads_from front entries 0 groups) lead = led_from front entries 0 groups k group lead at (subst (λ (j : ℕ). Has (group_leads front entries j group) lead) number in_group) in
      let in_found : Contains adds.found lead = subst (λ (l : List Lead). Contains l lead) (sym grouped.leads) (contains_had (leads_from front entries 0 groups) lead found) in
      record {
        number = k;
        is_text = text_at front groups rows k group grouped.exact at ∙ ap (λ (t : List ℕ). Some t) (sym text);
        has = subst (λ (l : List ListedLead). Contains l (listed 1 lead)) (sym adds.is) (Contains-append_right old (map (listed 1) adds.found) (listed 1 lead) (contains_map (listed 1) adds.found lead in_found));
      }

  -- those of all lists, sorted
  pub lacks_led : (given : List MissingAnchorLink) (anchors : List MissingAnchor) (leaving : List Lead) (leads_0 leads_1 leads_2 leads_3 leads_4 : List ListedLead) → AreLacks documents aliases files results is_any (map lack_of given) →
      AddsGroups front entries (map lack_of given) (map anchor_row anchors) leads_0 leads_1 → AddsListed 2 leads_1 leads_2 → leads_3 ≡ leads_2 ++ map (listed 3) leaving → IsPermutation leads_3 leads_4 →
      HasLackLeads front entries documents aliases files results (map anchor_text anchors) leads_4
  lacks_led given anchors leaving leads_0 leads_1 leads_2 leads_3 leads_4 are adds texts urls sorted =
      record {
        each = λ lack index is.
            let own = lack_led (map lack_of given) (map anchor_row anchors) leads_0 leads_1 are adds lack index is in
            let one : ListedLead = listed 1 (record { source = lack.source; index = index; number = own.number }) in
            let in_2 : Contains leads_2 one = subst (λ (l : List ListedLead). Contains l one) (sym texts.is) (Contains-append_left leads_1 (map (listed 2) texts.leads) one own.has) in
            let in_3 : Contains leads_3 one = subst (λ (l : List ListedLead). Contains l one) (sym urls) (Contains-append_left leads_2 (map (listed 3) leaving) one in_2) in
            record {
              number = own.number;
              is_text = ap (λ (l : List (List ℕ)). slice_get l own.number) (sym (mapped (λ (row : Row). row.text) anchor_row anchors)) ∙ own.is_text;
              has = Contains-permutation leads_3 leads_4 one sorted in_3;
            };
      }

  lacks_kept : (led_there : Option (List ℕ) → ListedLead → Type 0) (reads : ℕ → Option (List ℕ) → Type 0) (all : List code.Linked) (anchors : List MissingAnchor) (leads : List ListedLead) (placed : List TargetLocation) (rows : List Broken) → HasLackLeads front entries documents aliases files results (map anchor_text anchors) leads →
      All (HasPlace led_there files results reads placed) leads → All (IsKeptPlace front entries all anchors rows) placed → HasAllLacks front entries documents aliases files results reads rows
  lacks_kept led_there reads all anchors leads placed rows led has kept =
      record {
        each = λ lack index page is at_page.
            let own = led.each lack index is in
            let one : ListedLead = listed 1 (record { source = lack.source; index = index; number = own.number }) in
            let place = (All-contains (HasPlace led_there files results reads placed) leads one has own.has).placed page at_page in
            let target = image anchor_text anchors own.number (lack_shown front lack) own.is_text in
            let of_anchors : ◌≡◌ {A = ℕ} 1 1 = refl in
            let row : IsKept entries rows 1 (anchor_text target.x) (location_in place.name place.place) =
            (All-contains (IsKeptPlace front entries all anchors rows) placed (link_place place.name one place.place) kept place.is_in).anchor of_anchors target.x target.at in
            record {
              name = place.name;
              place = place.place;
              own = place.own;
              is_link = place.is_link;
              kept = subst (λ (text : List ℕ). IsKept entries rows 1 text (location_in place.name place.place)) target.is row;
            };
      }

-- ---- the rows of a check

pub all_lacks : (led_there : Option (List ℕ) → ListedLead → Type 0) (front : List ℕ) (entries : List (List ℕ)) (documents own_documents : List PageAnchors) (aliases own_aliases : List Alias) (files own_files : SiteFiles) (results own_results : List PageResult) (reads : ℕ → Option (List ℕ) → Type 0) (all : List code.Linked)
    (anchors : List MissingAnchor) (own_leads leads : List ListedLead) (found own_found : List TargetPlace) (rows : List Broken) → own_documents ≡ documents → own_aliases ≡ aliases → own_files ≡ files → own_results ≡ results → own_leads ≡ leads → own_found ≡ found →
    HasLackLeads front entries own_documents own_aliases own_files own_results (map anchor_text anchors) leads → All (HasPlace led_there own_files own_results reads (map placed_at found)) own_leads → All (IsKeptPlace front entries all anchors rows) (map placed_at own_found) →
    HasAllLacks front entries documents aliases files results reads rows
all_lacks led_there front entries documents own_documents aliases own_aliases files own_files results own_results reads all anchors own_leads leads found own_found rows same_documents same_aliases same_files same_results same_leads same_found led has kept =
    let placed = map placed_at found in
    let has_leads : All (HasPlace led_there own_files own_results reads placed) leads = subst (All (HasPlace led_there own_files own_results reads placed)) same_leads has in
    let kept_found : All (IsKeptPlace front entries all anchors rows) placed = subst (λ (f : List TargetPlace). All (IsKeptPlace front entries all anchors rows) (map placed_at f)) same_found kept in
    subst (λ (ds : List PageAnchors). HasAllLacks front entries ds aliases files results reads rows) same_documents
    (subst (λ (al : List Alias). HasAllLacks front entries own_documents al files results reads rows) same_aliases
    (subst (λ (f : SiteFiles). HasAllLacks front entries own_documents own_aliases f results reads rows) same_files
    (subst (λ (rs : List PageResult). HasAllLacks front entries own_documents own_aliases own_files rs reads rows) same_results
    (lacks_kept front entries own_documents own_aliases own_files own_results led_there reads all anchors leads placed rows led has_leads kept_found))))
