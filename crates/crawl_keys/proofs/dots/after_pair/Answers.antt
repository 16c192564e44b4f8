use Rattle.crawl_keys.proofs.Prelude.{◌≡◌, ◌<◌, ◌==◌, ◌∷◌, ◌++◌, All, true, codes, length, subst, sym, ◌∙◌, rules, after_first, before_first, position_or_len, IsNot, IsAfterDots, is_plain}
use Rattle.crawl_keys.proofs.DotLinks.{no_query_in, no_slash_before, pair_after}
use Rattle.crawl_keys.proofs.PlainLemmas.{cut_at}
use Rattle.crawl_keys.proofs.dots.after_pair.Goals as goal

pub returns-then-is_segment-clause-following : goal.returns-then-is_segment-clause-following
returns-then-is_segment-clause-following c =
    let text = c.args.text.now in
    let segment = c.in-Some.segment.now in
    let more = c.in-Some.more.now in
    let rest = c.in-Some-strip_prefix.rest.now in
    let front : segment ≡ before_first (λ b. b == 47) text = search rules in
    let back : more ≡ after_first (λ b. b == 47) text = search rules in
    let inside : position_or_len (λ b. b == 47) text < length text = search rules in
    let dots : more ≡ codes "../" ++ rest = search rules in
    let bytes = c.as_bytes.ensures.value in
    let whole : text ≡ segment ++ 47 ∷ 46 ∷ 46 ∷ 47 ∷ rest = cut_at 47 text inside ∙ (λ i. sym front i ++ 47 ∷ (sym back ∙ dots) i) in
    let plain = subst (λ t. is_plain 47 t ≡ true) bytes (c.is_segment.ensures.plain c.if-is_segment.true) in
    let no_query = subst (All (IsNot 63)) bytes (no_query_in _ (c.is_segment.ensures.path c.if-is_segment.true)) in
    let no_slash = subst (All (IsNot 47)) (sym front) (no_slash_before text inside) in
    let some = subst (λ t. 0 < length t) bytes (c.is_segment.ensures.some c.if-is_segment.true) in
    subst (λ t. IsAfterDots t 0 rest) (sym whole) (pair_after segment rest plain no_query no_slash some)
