use Rattle.site_check.proofs.Prelude.{◌≡◌, ◌∙◌, ap, arith, common_steps, indices_at, indices_in, leads_from, length, map, number_in, result_at, string_bytes, sym, targets_of}
use Rattle.site_files.specs.declared.rules.Rules.{Rules}
use Rattle.site_check.proofs.LeadsFound.{no_leads, none_at}
use Rattle.site_check.proofs.PageIndices.{known_indices, no_targets}
use Rattle.site_check.proofs.check.page_leads.Goals as goal

-- the maps have what the lists have
pub returns-clause-leads : goal.returns-clause-leads
returns-clause-leads g c =
    c.in_ok-leads.ensures ∙ (λ i. leads_from (λ url. c.in_ok-numbers.ensures url i) (λ url. c.in_ok-indices.ensures url i) 0 c.args.site.pages.results.now)

pub returns-clause-indexed : goal.returns-clause-indexed
returns-clause-indexed g c =
    let input = c.args.input in
    let site = c.args.site in
    let targets = targets_of input.front.now (map string_bytes input.ignores.now) (map result_at c.args.linked.now) in
    known_indices site.files.now.rules.now.places (number_in targets) (indices_at c.in_ok-indices.indices) (indices_in input.places.now) input.aliases.now site.pages.results.now c.in_ok-indices.ensures
    (λ asked. c.has_indices-is_known.ensures c.if-not-is_known.false (ap (λ (r : Rules). r.places) c.rules.ensures ∙ asked))

-- no page is missing
pub returns-then-is_empty-clause-leads : goal.returns-then-is_empty-clause-leads
returns-then-is_empty-clause-leads g c =
    let none : length c.in_ok-numbers.numbers.entries ≡ 0 = grind (arith, common_steps) in
    let targets = targets_of c.args.input.front.now (map string_bytes c.args.input.ignores.now) (map result_at c.args.linked.now) in
    c.new.ensures.items
    ∙ sym (no_leads (number_in targets) (indices_in c.args.input.places.now) (λ url. sym (c.in_ok-numbers.ensures url) ∙ none_at c.in_ok-numbers.numbers none url) 0 c.args.site.pages.results.now)

pub returns-then-is_empty-clause-indexed : goal.returns-then-is_empty-clause-indexed
returns-then-is_empty-clause-indexed g c =
    let input = c.args.input in
    let site = c.args.site in
    let none : length c.in_ok-numbers.numbers.entries ≡ 0 = grind (arith, common_steps) in
    let targets = targets_of input.front.now (map string_bytes input.ignores.now) (map result_at c.args.linked.now) in
    no_targets site.files.now.rules.now.places (number_in targets) (indices_in input.places.now) input.aliases.now site.pages.results.now (λ url. sym (c.in_ok-numbers.ensures url) ∙ none_at c.in_ok-numbers.numbers none url)
