use Rattle.site_check.proofs.Prelude.{◌∙◌, ap, fold, map, number_at, number_with, outside_targets, string_bytes, target_at}
use Rattle.site_check.proofs.LeadsFound.{none_at}
use Rattle.site_check.proofs.leaving.outside_numbers.Goals as goal

pub returns : goal.returns
returns c = λ url.
    let targets = outside_targets (map string_bytes c.args.ignores.now) 0 c.args.outside.now in
    c.in_ok-insert_all.ensures url
    ∙ ap (λ ts. fold (number_with url) (number_at c.new-numbers.result url) (map target_at ts)) c.as_slice.ensures.value
    ∙ ap (λ ts. fold (number_with url) (number_at c.new-numbers.result url) ts) c.in_ok-targets.ensures
    ∙ ap (λ o. fold (number_with url) o targets) (none_at c.new-numbers.result c.new-numbers.ensures.len url)
