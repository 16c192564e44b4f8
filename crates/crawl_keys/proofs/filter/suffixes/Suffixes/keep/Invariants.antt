use Rattle.crawl_keys.proofs.Prelude.{◌≡◌, map, take, in_order}
use Rattle.crawl_keys.proofs.filter.suffixes.Suffixes.keep.Given as goal

-- those before this place are kept
abbrev pub invariant-loop-suffix : goal.invariant-loop-suffix
invariant-loop-suffix l = l.kept ≡ in_order (map (λ suffix. suffix.now) (take l.suffix-index l.suffixes))
