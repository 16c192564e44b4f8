-- What two passes over results find, combined.
use Rattle.crawl_certificate.proofs.Prelude.{◌≡◌, ℕ, zero, suc, ◌<◌, ◌≤◌, Bool, ◌||◌, ◌&&◌, not, List, [], ◌∷◌, ◌++◌, length, map, set, get_or, refl, sym, ap, subst, ◌∙◌, arith, list_any, bytes_eq, length-map, list_any-append, Entry, PageResult, links_of, is_accepted, has_result, contains_url, is_one_hop_after, is_lost, is_a_link, is_a_stray, is_twice, IsLeast, url_of, AreMarks, AreTogether, in_one, Marks}
use Rattle.crawl_certificate.proofs.LeastUrls.{least_append, lesser_none}
use Rattle.crawl_certificate.proofs.Twice.{least_twice_of_both}

-- ---- marks, entry by entry

-- one more entry
pub in_one_push : (marks more : List Bool) (b d : Bool) → length more < length marks → in_one marks (more ++ b ∷ []) ≡ set (in_one marks more) (length more) (get_or (in_one marks more) (length more) d || b)
in_one_push [] more b d below = absurd (omega (arith, below))
in_one_push (x ∷ xs) [] b d below = refl
in_one_push (x ∷ xs) (y ∷ ys) b d below = ap (λ ms. (x || y) ∷ ms) (in_one_push xs ys b d (omega (arith, below)))

-- the part of the list that the second list does not reach
pub in_one_beyond : (marks more : List Bool) (k : ℕ) (d : Bool) → length more ≤ k → get_or (in_one marks more) k d ≡ get_or marks k d
in_one_beyond marks [] k d past = refl
in_one_beyond [] (y ∷ ys) k d past = refl
in_one_beyond (x ∷ xs) (y ∷ ys) zero d past = absurd (omega (arith, past))
in_one_beyond (x ∷ xs) (y ∷ ys) (suc k) d past = in_one_beyond xs ys k d (omega (arith, past))

in_one_map : {X : Type 0} (f g : X → Bool) (xs : List X) → in_one (map f xs) (map g xs) ≡ map (λ x. f x || g x) xs
in_one_map f g [] = refl
in_one_map f g (x ∷ xs) = ap (λ ms. (f x || g x) ∷ ms) (in_one_map f g xs)

-- ---- whole passes

marks_together : (allowed : List ℕ → Bool) (entries : List Entry) (xs ys : List PageResult) (first second found : Marks) → AreMarks allowed entries xs first → AreMarks allowed entries ys second → AreTogether entries first second found → AreMarks allowed entries (xs ++ ys) found
marks_together allowed entries xs ys first second found p q both =
    let has_link : Entry → PageResult → Bool = λ e r. contains_url (links_of r.page) e.url && is_one_hop_after entries r.url e in
    record {
      fetched =
          both.fetched ∙ (λ i. in_one (p.fetched i) (q.fetched i))
          ∙ in_one_map (λ (e : Entry). has_result xs e.url) (λ (e : Entry). has_result ys e.url) entries
          ∙ (λ i. map (λ (e : Entry). sym (list_any-append (λ (r : PageResult). bytes_eq r.url e.url) xs ys) i) entries);
      linked =
          both.linked ∙ (λ i. in_one (p.linked i) (q.linked i))
          ∙ in_one_map (λ (e : Entry). list_any (has_link e) xs) (λ (e : Entry). list_any (has_link e) ys) entries
          ∙ (λ i. map (λ (e : Entry). sym (list_any-append (has_link e) xs ys) i) entries);
      missing =
          subst (IsLeast (λ url. is_a_link (xs ++ ys) url && is_lost allowed entries url)) (sym both.missing)
          (least_append (λ (r : PageResult) url. contains_url (links_of r.page) url) (is_lost allowed entries) xs ys (url_of first.least.missing) (url_of second.least.missing) p.missing q.missing);
      stray =
          subst (IsLeast (is_a_stray entries (xs ++ ys))) (sym both.stray)
          (least_append (λ (r : PageResult) url. bytes_eq r.url url) (λ url. not (is_accepted entries url)) xs ys (url_of first.least.stray) (url_of second.least.stray) p.stray q.stray);
      twice = λ none.
          let parts = lesser_none (url_of first.least.stray) (url_of second.least.stray) (sym both.stray ∙ none) in
          let shared = both.shared (λ e. has_result xs e.url) (λ e. has_result ys e.url) p.fetched q.fetched in
          subst (IsLeast (is_twice (xs ++ ys))) (sym both.twice)
          (least_twice_of_both entries xs ys (url_of first.least.twice) (url_of second.least.twice) both.both
          (subst (IsLeast (is_a_stray entries xs)) parts.0 p.stray) (p.twice parts.0) (q.twice parts.1) shared);
    }

-- there is a mark for each entry
pub marks_long : (allowed : List ℕ → Bool) (entries : List Entry) (results : List PageResult) (marks : Marks) → AreMarks allowed entries results marks → (length marks.fetched.items ≡ length entries) × (length marks.linked.items ≡ length entries)
marks_long allowed entries results marks are = (ap length are.fetched ∙ length-map entries _, ap length are.linked ∙ length-map entries _)

-- the halves of a list, each with the entries of its results
pub halves_together : (allowed : List ℕ → Bool) (entries here' there' listed : List Entry) → here' ≡ entries → there' ≡ entries → listed ≡ entries → (xs ys whole : List PageResult) → xs ++ ys ≡ whole → (first second found : Marks) → AreMarks allowed here' xs first → AreMarks allowed there' ys second → AreTogether listed first second found → AreMarks allowed entries whole found
halves_together allowed entries here' there' listed e f g xs ys whole joined first second found p q both =
    subst (λ rs. AreMarks allowed entries rs found) joined
    (marks_together allowed entries xs ys first second found
    (subst (λ es. AreMarks allowed es xs first) e p) (subst (λ es. AreMarks allowed es ys second) f q)
    (subst (λ es. AreTogether es first second found) g both))
