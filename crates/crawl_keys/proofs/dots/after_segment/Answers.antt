use Rattle.crawl_keys.proofs.Prelude.{◌≡◌, ◌<◌, ◌==◌, ◌∷◌, ◌++◌, All, true, length, subst, sym, ◌∙◌, rules, after_first, before_first, position_or_len, IsNot, IsAhead, is_plain}
use Rattle.crawl_keys.proofs.DotLinks.{no_query_in, no_slash_before, segment_ahead}
use Rattle.crawl_keys.proofs.PlainLemmas.{cut_at}
use Rattle.crawl_keys.proofs.dots.after_segment.Goals as goal

pub returns-then-is_segment-clause-ahead : goal.returns-then-is_segment-clause-ahead
returns-then-is_segment-clause-ahead c =
    let text = c.args.text.now in
    let segment = c.in-Some.segment.now in
    let rest = c.in-Some.rest.now in
    let front : segment ≡ before_first (λ b. b == 47) text = search rules in
    let back : rest ≡ after_first (λ b. b == 47) text = search rules in
    let inside : position_or_len (λ b. b == 47) text < length text = search rules in
    let bytes = c.as_bytes.ensures.value in
    let whole : text ≡ segment ++ 47 ∷ rest = cut_at 47 text inside ∙ (λ i. sym front i ++ 47 ∷ sym back i) in
    let plain = subst (λ t. is_plain 47 t ≡ true) bytes (c.is_segment.ensures.plain c.if-is_segment.true) in
    let no_query = subst (All (IsNot 63)) bytes (no_query_in _ (c.is_segment.ensures.path c.if-is_segment.true)) in
    let no_slash = subst (All (IsNot 47)) (sym front) (no_slash_before text inside) in
    subst (λ t. IsAhead t rest) (sym whole) (segment_ahead segment rest plain no_query no_slash)
