use Rattle.std.proofs.Common.{append-nil, inl, sym, ◌∙◌, arith}
use Rattle.crawl_keys.proofs.CanonicalLemmas.{without_fragment_valid, text_of-web, text_of-other}
use Rattle.crawl_keys.proofs.canon_url.CanonUrl.keep.Goals as goal

pub returns-then-not-is_web : goal.returns-then-not-is_web
returns-then-not-is_web c = inl (text_of-other _ (sym c.is_web.ensures.value ∙ c.if-not-is_web.true))

pub join-requires : goal.join-requires
join-requires c = grind (arith, append-nil, without_fragment_valid)

pub returns : goal.returns
returns c = grind (arith, text_of-web, append-nil)
