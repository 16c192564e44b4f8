use Rattle.mercator_site.proofs.Prelude.{ℕ, List, ap, ◌∙◌, asks_in, PageResult}
use Rattle.std.specs.Borrow.{Bor}
use Rattle.std.specs.Prelude.{option_map}
use Rattle.mercator_site.specs.Checks.{reached_in}
use Rattle.mercator_site.specs.Inputs.{input_with}
use Rattle.mercator_site.proofs.check.input_of.Goals as goal

pub returns : goal.returns
returns c =
    let asks = asks_in c.args.settings in
    let maps = c.args.lookups.names.now in
    let left = c.args.lookups.left.now in
    let site = c.args.crawled.site.now in
    let aliases = site.aliases.items in
    let documents = site.documents.items in
    let anchors = site.anchors.items in
    let reached = option_map (λ (results : Bor (List PageResult)). results.now) c.reached_in.result in
    let listed = option_map (λ (urls : Bor (List (List ℕ))). urls.now) c.listed_in.result in
    let search = reached_in c.args.crawled.crawls.now c.args.settings.report.lists.unreached in
    ap (λ urls. input_with asks maps left urls c.as_slice-2.result.now c.as_slice-3.result.now reached listed) c.as_slice.ensures.value
    ∙ ap (λ urls. input_with asks maps left aliases urls c.as_slice-3.result.now reached listed) c.as_slice-2.ensures.value
    ∙ ap (λ own. input_with asks maps left aliases documents own reached listed) c.as_slice-3.ensures.value
    ∙ ap (λ found. input_with asks maps left aliases documents anchors found listed) c.reached_in.ensures ∙ ap (λ urls. input_with asks maps left aliases documents anchors search urls) c.listed_in.ensures
