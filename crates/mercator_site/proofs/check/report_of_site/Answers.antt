use Rattle.mercator_site.proofs.Prelude.{map, string_bytes, subst, sym, err_from_is_err_and, asks_in, IsCheck, IsTopIncomplete}
use Rattle.std.proofs.Common.{true≢false}
use Rattle.mercator_site.proofs.TopCrawls.{aliases_in, source_of}
use Rattle.mercator_site.proofs.check.report_of_site.Goals as goal

pub returns-clause-checked : goal.returns-clause-checked
returns-clause-checked g c =
    let source = c.in_ok-site.ensures.source in
    let site = c.in_ok-site.site in
    let files = c.args.files.now in
    let reads = g.B.FileBytes.reads c.args.bytes.now in
    let report = c.in_ok-report.report in
    let name = c.args.settings.name.now in
    let asks = asks_in c.args.settings in
    record {
      web = source.bytes;
      made = source.web;
      of_files = record {
        pages = site.pages;
        same = λ url. sym (source.same url);
        served = c.in_ok-site.ensures.served;
        all = c.has_all_pages.ensures.all c.if-not-has_all_pages.false;
      };
      below = source.below;
      aliases = site.aliases.items;
      are_aliases = aliases_in site.pages source.bytes site.aliases.items (source_of _ _ source) c.in_ok-site.ensures.aliases;
      anchors = site.anchors.items;
      are_anchors = c.in_ok-site.ensures.anchors;
      checked =
          subst (λ t. IsCheck files reads name t source.bytes site.aliases.items site.anchors.items asks report.is_broken report.text.items) c.requires
          (c.in_ok-report.ensures.checked source.bytes (source_of _ _ source) c.in_ok-site.ensures.order.0 c.in_ok-site.ensures.order.1);
    }

pub returns-in_err-report-clause-incomplete : goal.returns-in_err-report-clause-incomplete
returns-in_err-report-clause-incomplete g c =
    let r = c.from_residual-in_err-report in
    let same = err_from_is_err_and r.result r.ensures.1 in
    let source = c.in_ok-site.ensures.source in
    rw (same.1, same.2) (λ two. record {
      web = source.bytes;
      made = source.web;
      crawl =
          subst (λ t. IsTopIncomplete t source.bytes c.args.settings.reachable (map string_bytes c.args.settings.seeds.now) c.args.settings.workers) c.requires
          (c.in_err-report.ensures.incomplete source.bytes (source_of _ _ source) two);
    })

pub returns-in_err-push_page_notes-clause-incomplete : goal.returns-in_err-push_page_notes-clause-incomplete
returns-in_err-push_page_notes-clause-incomplete g c =
    let r = c.from_residual-in_err-push_page_notes in
    let same = err_from_is_err_and r.result r.ensures.1 in
    rw (same.1, same.2) (λ two. absurd (true≢false (sym two)))
