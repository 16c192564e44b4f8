use Rattle.site_check.proofs.Prelude.{◌≡◌, Bool, Global, List, PageResult, Target, Vec, map, IfOk, IfOk-at_ok}
use Rattle.std.specs.Prelude.{All, Ok, Result}
use Rattle.document_links.specs.declared.positions.LinkPlaces.{LinkPlaces}
use Rattle.site_files.specs.declared.alias.Alias.{Alias}
use Rattle.site_check.specs.Broken.{result_at}
use Rattle.site_check.specs.Complete.{HasIndices}
use Rattle.site_check.specs.Leads.{indices_in, leads_from, number_in, targets_of}
use Rattle.site_check.specs.Located.{listed}
use Rattle.site_check.specs.declared.check_error.CheckError.{CheckError}
use Rattle.site_check.specs.declared.leads.ListedLead.{ListedLead}
use Rattle.site_check.proofs.KeptLinks.{all_led}
use Rattle.site_check.proofs.LeadTargets.{all_listed}
use Rattle.site_check.proofs.AllLacked.{anchors_found, lacks_given}
use Rattle.site_check.proofs.KeptLacks.{lacks_led}
use Rattle.site_check.specs.AnchorGroups.{anchor_row}
use Rattle.site_check.specs.Documents.{AreSearchable}
use Rattle.std.proofs.Common.{arith, string_bytes, ◌<◌}
use Rattle.site_check.proofs.check.sought_by.Goals as goal

-- what the first closure finds
of_pages : (positions : Bool) (targets : List Target) (places : List LinkPlaces) (aliases : List Alias) (results : List PageResult) (r : Result (Vec ListedLead Global) CheckError) (leads : Vec ListedLead Global) → r ≡ Ok leads →
    IfOk r (λ all. (all.items ≡ map (listed 0) (leads_from (number_in targets) (indices_in places) 0 results)) × All (HasIndices positions (number_in targets) (indices_in places) aliases) results) →
    (leads.items ≡ map (listed 0) (leads_from (number_in targets) (indices_in places) 0 results)) × All (HasIndices positions (number_in targets) (indices_in places) aliases) results
of_pages positions targets places aliases results r leads is all =
    IfOk-at_ok (λ (own : Vec ListedLead Global). (own.items ≡ map (listed 0) (leads_from (number_in targets) (indices_in places) 0 results)) × All (HasIndices positions (number_in targets) (indices_in places) aliases) results) is all

pub returns-clause-leads : goal.returns-clause-leads
returns-clause-leads g c =
    let targets = targets_of c.args.input.front.now (map string_bytes c.args.input.ignores.now) (map result_at c.args.linked.now) in
    let pages = leads_from (number_in targets) (indices_in c.args.input.places.now) 0 c.args.site.pages.results.now in
    all_listed pages _ _ _ _ _ _ (of_pages c.args.site.files.now.rules.now.places targets c.args.input.places.now c.args.input.aliases.now c.args.site.pages.results.now _ _ c.in_ok-leads.was c.join-leads.ensures.first).0 c.in_ok-anchors.ensures.leads c.in_ok-invalid.ensures.leads c.in_ok-push_listed.ensures c.sort_by_page.ensures

pub returns-clause-whole : goal.returns-clause-whole
returns-clause-whole g c =
    let targets = targets_of c.args.input.front.now (map string_bytes c.args.input.ignores.now) (map result_at c.args.linked.now) in
    let pages = leads_from (number_in targets) (indices_in c.args.input.places.now) 0 c.args.site.pages.results.now in
    all_led pages _ _ _ _ _ _ (of_pages c.args.site.files.now.rules.now.places targets c.args.input.places.now c.args.input.aliases.now c.args.site.pages.results.now _ _ c.in_ok-leads.was c.join-leads.ensures.first).0 c.in_ok-anchors.ensures.leads c.in_ok-invalid.ensures.leads c.in_ok-push_listed.ensures c.sort_by_page.ensures

pub returns-clause-indexed : goal.returns-clause-indexed
returns-clause-indexed g c =
    let targets = targets_of c.args.input.front.now (map string_bytes c.args.input.ignores.now) (map result_at c.args.linked.now) in
    (of_pages c.args.site.files.now.rules.now.places targets c.args.input.places.now c.args.input.aliases.now c.args.site.pages.results.now _ _ c.in_ok-leads.was c.join-leads.ensures.first).1

pub returns-clause-anchors : goal.returns-clause-anchors
returns-clause-anchors g c = λ s.
    let site = c.args.site in
    let pages = site.pages in
    let input = c.args.input in
    let count = c.max-threads.result in
    let some : 0 < count = omega (arith, c.max-threads.ensures) in
    anchors_found pages.anchors.now pages.aliases.now site.files.now pages.results.now input.front.now (map string_bytes input.ignores.now) (AreSearchable site.files.now pages) count c.join-leads.result.1 c.in_ok-lacked.lacked c.sort_by_anchor.new.all.items
    c.as_slice.result.now (map anchor_row c.in_ok-anchors.anchors.items) _ _ c.in_ok-lacked.was some c.join-leads.ensures.second c.sort_by_anchor.ensures.permutation c.in_ok-sort_by_anchor.ensures.sorted c.as_slice.ensures.value c.in_ok-anchors.ensures.groups s

pub returns-clause-anchor_leads : goal.returns-clause-anchor_leads
returns-clause-anchor_leads g c = λ s.
    let site = c.args.site in
    let pages = site.pages in
    let input = c.args.input in
    let count = c.max-threads.result in
    let some : 0 < count = omega (arith, c.max-threads.ensures) in
    let given = c.as_slice.result.now in
    lacks_led input.front.now (map string_bytes input.ignores.now) pages.anchors.now pages.aliases.now site.files.now pages.results.now given c.in_ok-anchors.anchors.items _ _ _ _ _ _
    (lacks_given pages.anchors.now pages.aliases.now site.files.now pages.results.now (AreSearchable site.files.now pages) count c.join-leads.result.1 c.in_ok-lacked.lacked c.sort_by_anchor.new.all.items given c.in_ok-lacked.was some c.join-leads.ensures.second
    c.sort_by_anchor.ensures.permutation c.as_slice.ensures.value s)
    c.in_ok-anchors.ensures.groups c.in_ok-invalid.ensures.leads c.in_ok-push_listed.ensures c.sort_by_page.ensures
