use Rattle.mercator_site.proofs.Prelude.{◌≡◌, sym, subst, ◌∙◌, err_from_is_err_and, IsCheck, IsFindings, IsTopIncomplete, asks_in, map, own_of, string_bytes}
use Rattle.std.proofs.Common.{true≢false}
use Rattle.mercator_site.proofs.OnceResults.{in_order, once_ascending, once_own}
use Rattle.mercator_site.specs.Checks.{reached_in}
use Rattle.site_check.specs.Complete.{AreOnce}
use Rattle.mercator_site.proofs.check.report_of_pages.Goals as goal

pub returns-clause-checked : goal.returns-clause-checked
returns-clause-checked g c = λ web source anchors_ascend aliases_ascend.
    let site = c.args.files.now in
    let reads = g.B.FileBytes.reads c.args.bytes.now in
    let pages = c.in_ok-crawls.crawls.whole.result in
    let crawl = c.in_ok-crawls.ensures.found web source in
    let crawled = c.crawled_site-crawled.result in
    let known = c.crawled_site-crawled.ensures in
    let report = c.in_ok-report.report in
    let asks = asks_in c.args.settings in
    let name = c.args.settings.name.now in
    let aliases = c.args.site.now.aliases.items in
    let anchors = c.args.site.now.anchors.items in
    let listed = c.args.settings.report.lists.unreached in
    let findings : IsFindings name site reads crawled.own.now pages (reached_in c.in_ok-crawls.crawls listed) aliases anchors asks report.is_broken report.text.items =
    subst (λ cs. IsFindings name site reads crawled.own.now pages (reached_in cs listed) aliases anchors asks report.is_broken report.text.items) known.crawls
    (subst (λ ps. IsFindings name site reads crawled.own.now ps (reached_in crawled.crawls.now listed) aliases anchors asks report.is_broken report.text.items) known.pages
    (subst (λ s. IsFindings name site reads crawled.own.now crawled.pages.now (reached_in crawled.crawls.now listed) s.aliases.items s.anchors.items asks report.is_broken report.text.items) known.site c.in_ok-report.ensures.findings)) in
    let are_own : crawled.own.now ≡ own_of c.top_url-top.result.now pages = known.own crawl.found.ascends in
    let order = in_order anchors aliases pages crawled.own.now c.top_url-top.result.now anchors_ascend aliases_ascend crawl.found.ascends are_own in
    subst (λ t. IsCheck site reads name t web aliases anchors asks report.is_broken report.text.items) c.top_url-top.ensures (record {
      pages = pages;
      crawled = crawl;
      own = crawled.own.now;
      are_own = are_own;
      reached = reached_in c.in_ok-crawls.crawls listed;
      are_reached = c.in_ok-crawls.ensures.reached web source;
      findings = findings;
      complete = findings.results.complete (subst AreOnce (sym are_own) (once_own c.top_url-top.result.now pages (once_ascending pages crawl.found.ascends)));
      lacked = findings.results.lacked order;
      all_lacked = findings.results.all_lacked order;
    })

pub returns-in_err-crawls-clause-incomplete : goal.returns-in_err-crawls-clause-incomplete
returns-in_err-crawls-clause-incomplete g c =
    let r = c.from_residual in
    let same = err_from_is_err_and r.result r.ensures.1 in
    rw (same.1, same.2) (λ web source two.
    subst (λ t. IsTopIncomplete t web c.args.settings.reachable (map string_bytes c.args.settings.seeds.now) c.args.settings.workers) c.top_url-top.ensures (c.in_err-crawls.ensures.incomplete web source two))

pub returns-in_err-report-clause-incomplete : goal.returns-in_err-report-clause-incomplete
returns-in_err-report-clause-incomplete g c =
    let r = c.from_residual-in_err-report in
    let same = err_from_is_err_and r.result r.ensures.1 in
    rw (same.1, same.2) (λ web source two. absurd (true≢false (sym two ∙ c.in_err-report.ensures.plain)))
