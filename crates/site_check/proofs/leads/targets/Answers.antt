use Rattle.site_check.proofs.Prelude.{◌∙◌, map, string_bytes, fold, ap, result_at, number_at, number_with, target_at}
use Rattle.site_check.proofs.LeadsFound.{none_at, numbers_of_all}
use Rattle.site_check.proofs.leads.targets.Goals as goal

pub returns : goal.returns
returns c = λ url.
    let missing = map target_at c.in_ok-missing.missing.items in
    let moved = map target_at c.in_ok-moved.moved.items in
    let first = number_at c.insert_all.new.numbers in
    c.in_ok-insert_all-2.ensures url ∙ ap (λ ts. fold (number_with url) (first url) (map target_at ts)) c.as_slice-2.ensures.value
    ∙ numbers_of_all c.args.front.now (map string_bytes c.args.ignores.now) (map result_at c.args.linked.now) missing moved first
    c.in_ok-missing.ensures
    (λ u.
    c.in_ok-insert_all.ensures u ∙ ap (λ ts. fold (number_with u) (number_at c.new-numbers.result u) (map target_at ts)) c.as_slice.ensures.value
    ∙ ap (λ o. fold (number_with u) o missing) (none_at c.new-numbers.result c.new-numbers.ensures.len u))
    c.in_ok-moved.ensures url
