use Rattle.crawl_keys.proofs.Prelude.{◌≡◌, ◌+◌, ◌++◌, ap, refl, subst, sym, ◌∙◌, codes, true, rules, host_len, is_plain_host, IsSpelled}
use Rattle.crawl_keys.proofs.SpelledLemmas.{http, https, spelled_at, spelled_host}
use Rattle.crawl_keys.proofs.plain.host_place.Goals as goal

pub returns-in-Some : goal.returns-in-Some
returns-in-Some c =
    let rest = c.in-Some.rest.now in
    let text : c.args.text.now ≡ codes "http://" ++ rest = search rules in
    let bytes = c.as_bytes.ensures.value in
    let plain = subst (λ t. is_plain_host t ≡ true) bytes c.in_ok-len.ensures.plain in
    spelled_at _ _ _ _ _ (subst (λ t. IsSpelled t 7 (7 + host_len rest)) (sym text) (spelled_host (codes "http") rest http plain)) refl
    (ap (λ n. 7 + n) (c.in_ok-len.ensures.len ∙ ap host_len bytes))

pub returns-in-Some-strip_prefix : goal.returns-in-Some-strip_prefix
returns-in-Some-strip_prefix c =
    let rest = c.in-Some-strip_prefix.rest.now in
    let text : c.args.text.now ≡ codes "https://" ++ rest = search rules in
    let bytes = c.as_bytes-in-Some-strip_prefix.ensures.value in
    let plain = subst (λ t. is_plain_host t ≡ true) bytes c.in_ok-len-2.ensures.plain in
    spelled_at _ _ _ _ _ (subst (λ t. IsSpelled t 8 (8 + host_len rest)) (sym text) (spelled_host (codes "https") rest https plain)) refl
    (ap (λ n. 8 + n) (c.in_ok-len-2.ensures.len ∙ ap host_len bytes))
