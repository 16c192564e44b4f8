use Rattle.site_check.proofs.Prelude.{◌∙◌, IfOk-weaker, ap, linked_at, map, string_bytes}
use Rattle.site_check.proofs.AllReported.{anchors_reported, are_reported}
use Rattle.site_check.proofs.DocumentsFound.{searchable}
use Rattle.site_check.proofs.KeptLacks.{all_lacks}
use Rattle.site_check.proofs.KeptLinks.{all_links}
use Rattle.site_check.proofs.LeadTargets.{located_rows}
use Rattle.site_check.proofs.Verdicts.{verdict_of_rows}
use Rattle.site_check.specs.Broken.{result_at}
use Rattle.site_check.specs.LinkBase.{base_hint_of}
use Rattle.site_check.specs.Located.{LeadsAsSaid}
use Rattle.site_check.specs.declared.check.Checked.{Checked}
use Rattle.site_check.proofs.check.check_site.Goals as goal

-- the rows are those of all results
pub returns-clause-rows : goal.returns-clause-rows
returns-clause-rows g c =
    let input = c.args.input in
    let site = c.site_of-site.result in
    let sought = c.in_ok-sought.sought in
    IfOk-weaker c.results_of.result _ _
    (λ (checked : Checked) own. are_reported input.front.now (map string_bytes input.ignores.now) input.scope input.rooted input.maps.now input.places.now c.args.files.now site.files.now c.args.results.now site.pages.results.now input.found.now
    c.as_slice-all.result.now sought.anchors.items sought.invalid.items sought.outside.items checked.broken.items (map string_bytes checked.unused_ignores.items)
    c.site_of-site.ensures.files c.site_of-site.ensures.results (ap (map linked_at) c.as_slice-all.ensures.value ∙ c.in_ok-linked.ensures) c.in_ok-sought.ensures.invalid c.in_ok-sought.ensures.outside own)
    c.results_of.ensures.rows

-- the rows of anchors are those of links
pub returns-clause-anchors : goal.returns-clause-anchors
returns-clause-anchors g c =
    let input = c.args.input in
    let site = c.site_of-site.result in
    let made = c.site_of-site.ensures in
    let sought = c.in_ok-sought.sought in
    IfOk-weaker c.results_of.result _ _
    (λ (checked : Checked) own order. anchors_reported input.front.now (map string_bytes input.ignores.now) input.anchors.now site.pages.anchors.now input.aliases.now site.pages.aliases.now c.args.files.now site.files.now c.args.results.now site.pages.results.now
    c.as_slice-all.result.now sought.anchors.items sought.invalid.items sought.outside.items checked.broken.items (map string_bytes checked.unused_ignores.items) made.anchors made.aliases made.files made.results
    (c.in_ok-sought.ensures.anchors
    (searchable c.args.files.now site.files.now site.pages input.anchors.now input.aliases.now c.args.results.now c.in_ok-documents.documents.items made.files made.anchors made.aliases made.results (made.documents ∙ c.as_slice.ensures.value) order c.in_ok-documents.ensures))
    own)
    c.results_of.ensures.rows

-- the locations of the rows are those of links
pub returns-clause-places : goal.returns-clause-places
returns-clause-places g c =
    let input = c.args.input in
    let site = c.site_of-site.result in
    let sought = c.in_ok-sought.sought in
    IfOk-weaker c.results_of.result _ _
    (λ (checked : Checked) own. located_rows input.front.now (map string_bytes input.ignores.now) input.places.now site.files.now c.args.files.now site.pages.results.now c.args.results.now (g.B.FileBytes.reads c.args.bytes.now) c.as_slice-all.result.now
    sought.anchors.items sought.invalid.items sought.outside.items sought.leads.items c.as_slice-2.result.now c.in_ok-places.places.items c.as_slice-3.result.now checked.broken.items
    c.site_of-site.ensures.files c.site_of-site.ensures.results c.as_slice-2.ensures.value c.as_slice-3.ensures.value (ap (map linked_at) c.as_slice-all.ensures.value ∙ c.in_ok-linked.ensures) c.in_ok-sought.ensures.leads c.in_ok-places.ensures.links own)
    c.results_of.ensures.located

-- the rows have the locations of all links
pub returns-clause-complete : goal.returns-clause-complete
returns-clause-complete g c =
    let input = c.args.input in
    let site = c.site_of-site.result in
    let sought = c.in_ok-sought.sought in
    IfOk-weaker c.results_of.result _ _
    (λ (checked : Checked) own. all_links input.front.now (map string_bytes input.ignores.now) input.aliases.now input.places.now site.files.now c.args.files.now site.pages.results.now c.args.results.now (g.B.FileBytes.reads c.args.bytes.now) c.as_slice-all.result.now sought.anchors.items
    c.as_slice-2.result.now sought.leads.items c.in_ok-places.places.items c.as_slice-3.result.now checked.broken.items c.site_of-site.ensures.files c.site_of-site.ensures.results c.as_slice-2.ensures.value c.as_slice-3.ensures.value
    (ap (map linked_at) c.as_slice-all.ensures.value ∙ c.in_ok-linked.ensures) c.in_ok-sought.ensures.indexed c.in_ok-sought.ensures.whole c.in_ok-places.ensures.whole own)
    c.results_of.ensures.whole

-- the totals are those of the rows
pub returns-clause-verdict : goal.returns-clause-verdict
returns-clause-verdict g c =
    IfOk-weaker c.results_of.result _ _
    (λ (checked : Checked) own. verdict_of_rows checked.totals c.args.input.aliases.now c.args.input.documents.now c.site_of-site.result.pages.results.now checked.broken.items checked.redirects.items own)
    c.results_of.ensures.totals

-- the hint is that of all results
pub returns-clause-base_hint : goal.returns-clause-base_hint
returns-clause-base_hint g c =
    IfOk-weaker c.results_of.result _ _
    (λ (checked : Checked) own. own ∙ (λ i. base_hint_of c.args.input.rooted (c.site_of-site.ensures.files i) (c.site_of-site.ensures.results i) checked.broken.items))
    c.results_of.ensures.base_hint

-- the rows have the locations of all links to missing anchors
pub returns-clause-anchor_places : goal.returns-clause-anchor_places
returns-clause-anchor_places g c =
    let input = c.args.input in
    let site = c.site_of-site.result in
    let made = c.site_of-site.ensures in
    let sought = c.in_ok-sought.sought in
    IfOk-weaker c.results_of.result _ _
    (λ (checked : Checked) own order. all_lacks (LeadsAsSaid site.pages.results.now (map result_at c.as_slice-all.result.now)) input.front.now (map string_bytes input.ignores.now) input.anchors.now site.pages.anchors.now input.aliases.now site.pages.aliases.now c.args.files.now site.files.now c.args.results.now site.pages.results.now
    (g.B.FileBytes.reads c.args.bytes.now) c.as_slice-all.result.now sought.anchors.items c.as_slice-2.result.now sought.leads.items c.in_ok-places.places.items c.as_slice-3.result.now checked.broken.items
    made.anchors made.aliases made.files made.results c.as_slice-2.ensures.value c.as_slice-3.ensures.value
    (c.in_ok-sought.ensures.anchor_leads
    (searchable c.args.files.now site.files.now site.pages input.anchors.now input.aliases.now c.args.results.now c.in_ok-documents.documents.items made.files made.anchors made.aliases made.results (made.documents ∙ c.as_slice.ensures.value) order c.in_ok-documents.ensures))
    c.in_ok-places.ensures.whole own)
    c.results_of.ensures.whole
