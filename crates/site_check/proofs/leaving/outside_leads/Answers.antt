use Rattle.site_check.proofs.Prelude.{Vec, Global, ◌≡◌, ◌∙◌, IfOk-weaker, arith, common_steps, indices_in, leads_from, length, map, number_in, outside_targets, string_bytes, sym, Lead}
use Rattle.site_check.proofs.LeadsFound.{no_leads, none_at}
use Rattle.site_check.proofs.leaving.outside_leads.Goals as goal

-- the maps have what the lists have
pub returns : goal.returns
returns g c =
    IfOk-weaker c.leads_by.result _ _ (λ (all : Vec Lead Global) own.
    own ∙ (λ i. leads_from (λ url. c.in_ok-numbers.ensures url i) (λ url. c.in_ok-indices.ensures url i) 0 c.args.site.pages.results.now)) c.leads_by.ensures

-- there is no such URL
pub returns-then-is_empty : goal.returns-then-is_empty
returns-then-is_empty g c =
    let none : length c.in_ok-numbers.numbers.entries ≡ 0 = grind (arith, common_steps) in
    let targets = outside_targets (map string_bytes c.args.input.ignores.now) 0 c.args.outside.now in
    c.new.ensures.items
    ∙ sym (no_leads (number_in targets) (indices_in c.args.input.places.now) (λ url. sym (c.in_ok-numbers.ensures url) ∙ none_at c.in_ok-numbers.numbers none url) 0 c.args.site.pages.results.now)
