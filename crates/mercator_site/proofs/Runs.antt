-- The rows of URLs in order.
use Rattle.mercator_site.proofs.Prelude.{common_steps, ◌≡◌, ℕ, List, map, Result, IfOk, Vec, Global, arith, slice_cmp, IsPermutation, IsSortedByKey, nat_cmp, PageResult, External, AreExternal, outside_links, row_of, runs}

-- the rows of URLs that are those of the links, in order
pub rows_of_links : {E : Type 0} (answer : Result (Vec External Global) E) (root : List ℕ) (pages : List PageResult) (urls : List (List ℕ)) → IsPermutation (outside_links root pages) urls → IsSortedByKey (λ url. url) (slice_cmp nat_cmp) urls → IfOk answer (λ all. map row_of all.items ≡ runs urls) → IfOk answer (λ all. AreExternal root pages (map row_of all.items))
rows_of_links answer root pages urls same ascends counted = grind (arith, common_steps)
