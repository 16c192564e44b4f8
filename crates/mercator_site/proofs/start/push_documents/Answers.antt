use Rattle.mercator_site.proofs.Prelude.{◌++◌, ◌∙◌, ap, arith, sym}
use Rattle.std.proofs.Common.{append_assoc}
use Rattle.mercator_site.proofs.Starts.{documents_more}
use Rattle.mercator_site.specs.Starts.{documents_below, if_own}
use Rattle.site_files.specs.Own.{start_at}
use Rattle.mercator_site.proofs.start.push_documents.Goals as goal

pub pages-preserved : goal.pages-preserved
pages-preserved c =
    let site = c.args.files.now in
    let top = c.args.top.now in
    let old = c.args.urls.now.items in
    let one = if_own top (start_at site c.pages.number) in
    record {
      within = omega arith;
      pushed =
          c.in_ok-push_document.ensures ∙ ap (λ urls. urls ++ one) c.pages.invariant.pushed ∙ append_assoc old (documents_below site top c.pages.number) one
          ∙ ap (λ urls. old ++ urls) (sym (documents_more site top c.pages.number));
    }
