use Rattle.crawl_keys.proofs.Prelude.{Ok, ap, subst, sym, ◌∙◌, hash_of, IsLaidOut, IsSpelled, Laid}
use Rattle.crawl_keys.proofs.SpelledLemmas.{laid_spelled, spelled_at}
use Rattle.crawl_keys.proofs.canon_url.CanonUrl.join.Goals as goal

pub invariant_of-result : goal.invariant_of-result
invariant_of-result c =
    let spelled = subst (λ t. IsSpelled t c.args.host.start c.args.host.end) (sym c.in_ok-write.ensures) c.requires in
    subst IsLaidOut (sym c.in-Ok-new.ensures.ok) (laid_spelled _ (spelled_at _ _ _ _ _ spelled c.in-Ok.ensures.1 c.in-Ok-try_from.ensures.1) (c.hash_of.ensures ∙ ap hash_of c.as_str.ensures))

pub returns-in-Ok-new : goal.returns-in-Ok-new
returns-in-Ok-new c = ap Ok (sym (ap (λ (laid : Laid). laid.text) c.in-Ok-new.ensures.ok ∙ c.in_ok-write.ensures))
