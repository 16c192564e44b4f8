use Rattle.crawl_keys.proofs.Prelude.{◌≡◌, ◌<◌, ◌==◌, ◌∷◌, ◌++◌, codes, length, sym, ◌∙◌, rules, after_first, before_first, position_or_len}
use Rattle.std.proofs.lemmas.Option.{IfSome_then}
use Rattle.std.proofs.lemmas.Result.{IfOk-weaker}
use Rattle.crawl_keys.proofs.CasedLinks.{leads-cased}
use Rattle.crawl_keys.proofs.PlainLemmas.{cut_at}
use Rattle.crawl_keys.proofs.cased.respelled.Goals as goal

pub returns-clause-url : goal.returns-clause-url
returns-clause-url c =
    let text = c.args.text.now in
    let own = c.in-Some.scheme.now in
    let rest = c.in-Some-strip_prefix.rest.now in
    let front : own ≡ before_first (λ b. b == 58) text = search rules in
    let back : c.in-Some.following.now ≡ after_first (λ b. b == 58) text = search rules in
    let inside : position_or_len (λ b. b == 58) text < length text = search rules in
    let slashes : c.in-Some.following.now ≡ codes "//" ++ rest = search rules in
    let whole : text ≡ own ++ 58 ∷ 47 ∷ 47 ∷ rest = cut_at 58 text inside ∙ (λ i. sym front i ++ 58 ∷ (sym back ∙ slashes) i) in
    let authority = c.before_path.result.0.now in
    let path = c.before_path.result.1.now in
    let host = c.without_port-host.result.now in
    let its = c.in-Some-front_of.front.now in
    IfOk-weaker _ _ _
    (λ found lowered.
    IfSome_then found lowered
    (λ url l. leads-cased text own rest its c.in-Some-front_of.port.now authority path host url whole c.in-Some-front_of.ensures.front c.before_path.ensures c.without_port-host.ensures l))
    c.in_lower_case.ensures.url
