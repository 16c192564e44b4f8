use Rattle.site_check.proofs.Prelude.{◌∙◌, ap, option_map, sym}
use Rattle.site_check.proofs.DocumentsFound.{number_found}
use Rattle.site_check.proofs.site_pages.push_number.Goals as goal

pub returns-in_ok-push-in-Some : goal.returns-in_ok-push-in-Some
returns-in_ok-push-in-Some c =
    record {
      found = c.number_at-found.result;
      is = c.in_ok-push-in-Some.ensures.items;
      own =
          number_found c.args.files.now c.args.anchors.now c.args.page c.in-Some.url.now c.as_str-in-Some.result.now c.number_at-found.result (sym c.url.ensures ∙ ap (option_map (λ u. u.now)) c.in-Some.is)
          c.as_str-in-Some.ensures.value c.number_at-found.ensures;
    }
