use Rattle.site_check.proofs.Prelude.{◌≡◌, ℕ, List, list_any, take, is_in, is_other_of}
use Rattle.site_check.proofs.unlisted.own_urls.Given as goal

abbrev pub invariant-loop-alias : goal.invariant-loop-alias
invariant-loop-alias l = (own : List ℕ) → is_in l.owns own ≡ list_any (is_other_of (is_in l.listed) own) (take l.alias-index l.aliases)
