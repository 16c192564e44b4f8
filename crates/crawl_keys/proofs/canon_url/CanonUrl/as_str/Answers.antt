use Rattle.crawl_keys.proofs.Prelude.{ap, subst, ◌∙◌, IsCanonical, Laid}
use Rattle.crawl_keys.proofs.CanonicalLemmas.{canonical-canonical}
use Rattle.crawl_keys.proofs.canon_url.CanonUrl.as_str.Goals as goal

pub returns-clause-value : goal.returns-clause-value
returns-clause-value c = c.as_str.ensures ∙ ap (λ (laid : Laid). laid.text) c.as_ref.ensures ∙ c.self.view_is

pub returns-clause-stable : goal.returns-clause-stable
returns-clause-stable c = canonical-canonical _ (subst IsCanonical c.self.view_is c.self.invariant.canonical)

pub returns-clause-canonical : goal.returns-clause-canonical
returns-clause-canonical c = subst IsCanonical c.self.view_is c.self.invariant.canonical
