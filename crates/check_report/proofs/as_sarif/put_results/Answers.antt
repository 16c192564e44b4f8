use Rattle.check_report.proofs.Prelude.{Bor, Global, String, ap, flat_map, map, string_bytes, true, [], ◌∷◌, ◌++◌, ◌∙◌}
use Rattle.json.specs.Token.{begin_array, end_array}
use Rattle.json.specs.Tree.{json_tokens}
use Rattle.check_report.specs.Order.{bare_targets, links_by_file}
use Rattle.check_report.specs.Sarif.{bare_result, link_result, unlisted_result}
use Rattle.check_report.specs.declared.value.Broken.{Broken}
use Rattle.check_report.proofs.Results.{results_written}
use Rattle.check_report.proofs.Adding.{joined, last_joined, then_ok}
use Rattle.check_report.proofs.as_sarif.put_results.Goals as goal

pub returns-clause-tokens : goal.returns-clause-tokens
returns-clause-tokens c =
    let old = c.args.out.now.tokens in
    let targets = map (λ (t : Bor Broken). t.now) c.args.targets.now in
    let links = map (link_result c.args.contents) (links_by_file true targets) in
    let bare = map bare_result (bare_targets targets) in
    let documents = flat_map (λ (t : String Global). json_tokens (unlisted_result (string_bytes t))) c.args.unlisted.now in
    let begun = c.begin_array.new.self.tokens in
    let linked = c.put_links.new.out.tokens in
    let bared = c.put_bare.new.out.tokens in
    let all = c.put_unlisted.new.out.tokens in
    let first = joined old begun linked (begin_array ∷ []) (flat_map json_tokens links) c.in_ok-begin_array.ensures.ok c.in_ok-put_links.ensures.tokens in
    let second = joined old linked bared (begin_array ∷ [] ++ flat_map json_tokens links) (flat_map json_tokens bare) first c.in_ok-put_bare.ensures.tokens in
    let third = joined old bared all (begin_array ∷ [] ++ flat_map json_tokens links ++ flat_map json_tokens bare) documents second c.in_ok-put_unlisted.ensures.tokens in
    then_ok c.end_array.result (λ is. is ∙ ap (λ ts. old ++ ts) (results_written links bare c.args.unlisted.now))
    (last_joined c.end_array.result old all c.end_array.new.self.tokens (begin_array ∷ [] ++ flat_map json_tokens links ++ flat_map json_tokens bare ++ documents) (end_array ∷ []) third c.end_array.ensures.ok)
