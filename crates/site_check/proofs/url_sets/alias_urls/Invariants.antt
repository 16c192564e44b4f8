use Rattle.site_check.proofs.Prelude.{◌≡◌, ℕ, List, take, is_alias, is_in}
use Rattle.site_check.proofs.url_sets.alias_urls.Given as goal

abbrev pub invariant-loop-alias : goal.invariant-loop-alias
invariant-loop-alias l = (url : List ℕ) → is_in l.set url ≡ is_alias (take l.alias-index l.aliases) url
