use Rattle.site_check.proofs.Prelude.{◌∙◌, Some, bytes_eq-Decides, sym}
use Rattle.site_check.proofs.Placed.{item_at}
use Rattle.site_check.proofs.site_pages.number_at.Goals as goal

pub returns-then-has_url : goal.returns-then-has_url
returns-then-has_url c =
    record {
      document = c.in-Some.page.now;
      there = sym (item_at c.args.anchors.now c.args.number (Some c.in-Some.page) c.in-Some.ensures.lookup);
      same = (bytes_eq-Decides c.in-Some.page.now.url c.args.url.now).0 (sym c.has_url.ensures ∙ c.if-has_url.true);
    }
