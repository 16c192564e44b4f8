use Rattle.site_check.proofs.Prelude.{◌∙◌, ◌++◌, ap, map, subst}
use Rattle.document_links.specs.LinkUrls.{AreFileLinks}
use Rattle.site_files.specs.declared.rules.Rules.{Rules}
use Rattle.site_check.specs.Located.{index_of, placed_at, places_from}
use Rattle.site_check.specs.Locations.{text_kind}
use Rattle.site_check.proofs.located.push_places.Goals as goal

pub returns : goal.returns
returns c =
    let leads = c.args.leads.now in
    let page = c.args.page in
    let links = c.in_ok-links.links in
    record {
      places = links.places.items;
      urls = links.urls.items;
      path = c.root_of.result;
      is_root = c.root_of.ensures;
      are =
          subst (λ k. AreFileLinks c.root_of.result page.url.now k c.args.body.now (map index_of leads) links.places.items links.urls.items)
          (c.text_kind-kind.ensures ∙ ap (λ (r : Rules). text_kind r.styles page.file.kind) c.rules.ensures)
          (subst (λ root. AreFileLinks root page.url.now c.text_kind-kind.result c.args.body.now (map index_of leads) links.places.items links.urls.items) c.page_of_file-from.ensures.root
          (subst (λ url. AreFileLinks c.page_of_file-from.result.root url c.text_kind-kind.result c.args.body.now (map index_of leads) links.places.items links.urls.items) c.page_of_file-from.ensures.url c.in_ok-links.ensures.are));
      lead = c.in_ok-links.ensures.lead;
      is = c.in_ok-push_all.ensures ∙ ap (λ l. map placed_at c.args.all.now.items ++ places_from page.file.name.now l 0 leads) c.as_slice.ensures.value;
    }
