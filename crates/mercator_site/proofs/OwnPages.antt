-- Results that ascend, those below a top together.
use Rattle.mercator_site.proofs.Prelude.{common_steps, ◌≡◌, ℕ, suc, List, [], ◌∷◌, ◌++◌, refl, true, false, arith, All-append, All-cons, All-nil, recursion_from_All, nat_cmp, slice_cmp, IsAscending, result_urls, AreOwn, from_own, own_of, while_own, begins, PageResult}
use Rattle.std.proofs.lemmas.Bool.Decides.{nat_tests}
use Rattle.std.specs.List.{AllByRecursion}
use Rattle.std.specs.declared.cmp.Ordering.TheVariants.{Less}

-- a text between two that begin so does
between : (p a b c : List ℕ) → slice_cmp nat_cmp a b ≡ Less → slice_cmp nat_cmp b c ≡ Less → begins p a ≡ true → begins p c ≡ true → begins p b ≡ true
between [] a b c up more first last = refl
between (x ∷ p) [] b c up more first last = grind (arith, nat_tests)
between (x ∷ p) (y ∷ a) [] c up more first last = grind (arith, nat_tests)
between (x ∷ p) (y ∷ a) (z ∷ b) [] up more first last = grind (arith, nat_tests)
between (x ∷ p) (y ∷ a) (z ∷ b) (w ∷ c) up more first last = grind (arith, nat_tests, between p a b c)

-- after one that begins so, and one that does not, none does
none_after : (p o h : List ℕ) (rs : List PageResult) → begins p o ≡ true → begins p h ≡ false → slice_cmp nat_cmp o h ≡ Less → AllByRecursion (λ url. slice_cmp nat_cmp h url ≡ Less) (result_urls rs) → own_of p rs ≡ []
none_after p o h [] own other up all = refl
none_after p o h (r ∷ rs) own other up all = grind (arith, between p o h r.url up all.0 own, none_after p o h rs own other up all.1, other)

-- each is less than all after it
Rises : List (List ℕ) → Type 0
Rises [] = Unit {0}
Rises (url ∷ urls) = AllByRecursion (λ next. slice_cmp nat_cmp url next ≡ Less) urls × Rises urls

rises_of : (urls : List (List ℕ)) → IsAscending urls → Rises urls
unfolding Rises
rises_of [] pairs = tt
rises_of (url ∷ urls) pairs = (
  recursion_from_All (λ next. slice_cmp nat_cmp url next ≡ Less) urls (λ k d below. pairs 0 (suc k) d (omega arith) (omega (arith, below))),
  rises_of urls (λ i j d before below. pairs (suc i) (suc j) d (omega (arith, before)) (omega (arith, below))),
)

-- after one below the top the others follow each other
together : (p o : List ℕ) (rs : List PageResult) → begins p o ≡ true → AllByRecursion (λ url. slice_cmp nat_cmp o url ≡ Less) (result_urls rs) → Rises (result_urls rs) → while_own p rs ≡ own_of p rs
unfolding Rises
together p o [] own all rises = refl
together p o (r ∷ rs) own all rises = grind (arith, common_steps, none_after, together p r.url rs)

holds : (p : List ℕ) (rs : List PageResult) → Rises (result_urls rs) → while_own p (from_own p rs) ≡ own_of p rs
unfolding Rises
holds p [] rises = refl
holds p (r ∷ rs) rises = grind (arith, common_steps, together, holds p rs rises.1)

-- if results ascend, those below a top are those from the first to the first that is none
pub own_are_together : (p : List ℕ) (rs : List PageResult) → IsAscending (result_urls rs) → while_own p (from_own p rs) ≡ own_of p rs
own_are_together p rs pairs = holds p rs (rises_of (result_urls rs) pairs)

-- a URL below a top may be added to such URLs
pub own_with : (top : List ℕ) (urls : List (List ℕ)) (url : List ℕ) → AreOwn top urls → begins top url ≡ true → AreOwn top (urls ++ url ∷ [])
own_with top urls url own is =
    let IsOwn : List ℕ → Type 0 = λ u. begins top u ≡ true in
    All-append IsOwn urls (url ∷ []) own (All-cons IsOwn url [] is (All-nil IsOwn))
