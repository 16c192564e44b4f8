-- Lists of entries, with one more entry or cut in two.
use Rattle.crawl_queues.proofs.Prelude.{common_steps, ◌≡◌, ℕ, ◌+◌, cond, eqb, ◌≤◌, length, List, [], ◌∷◌, ◌++◌, sym, subst, append_assoc, arith, Bool, true, false, refl, ap, ◌∙◌, append-nil, Entry, MayFollow, KeepsRule, count_of, entries_of}
use Rattle.crawl_queues.specs.Books.{Numbered}
use Rattle.std.proofs.lemmas.Bool.Decides.{nat_tests}

module _ (n q : ℕ) where
  pub rule-snoc : (before xs : List Entry) (e : Entry) → KeepsRule n q before xs → MayFollow n q (before ++ xs) e → KeepsRule n q before (xs ++ e ∷ [])
  rule-snoc before [] e l m = (subst (λ b. MayFollow n q b e) (append-nil before) m, tt)
  rule-snoc before (x ∷ xs) e l m = (l.0, rule-snoc (before ++ x ∷ []) xs e l.1 (subst (λ b. MayFollow n q b e) (sym (append_assoc before (x ∷ []) xs)) m))

  -- an entry in the middle may come after those before it
  pub rule-at : (before xs : List Entry) (e : Entry) (ys : List Entry) → KeepsRule n q before (xs ++ e ∷ ys) → MayFollow n q (before ++ xs) e
  rule-at before [] e ys l = subst (λ b. MayFollow n q b e) (sym (append-nil before)) l.0
  rule-at before (x ∷ xs) e ys l = subst (λ b. MayFollow n q b e) (append_assoc before (x ∷ []) xs) (rule-at (before ++ x ∷ []) xs e ys l.1)

pub count_of-snoc : (s : ℕ) (xs : List Entry) (e : Entry) → count_of s (xs ++ e ∷ []) ≡ count_of s xs + cond (eqb e.sender s) 1 0
count_of-snoc s [] e = omega arith
count_of-snoc s (x ∷ xs) e = let r = count_of-snoc s xs e in omega arith

pub count_of-le : (s : ℕ) (xs : List Entry) → count_of s xs ≤ length xs
count_of-le s [] = omega arith
count_of-le s (x ∷ xs) = grind (arith, common_steps, count_of-le s xs)

-- the entries of a sender in a list that keeps its rule
pub rule-numbered : (n q id : ℕ) (before es : List Entry) → KeepsRule n q before es → Numbered id (count_of id before) (entries_of id es)
rule-numbered n q id before [] rule = tt
rule-numbered n q id before (e ∷ es) rule = by_case (eqb e.sender id) refl (rule-numbered n q id (before ++ e ∷ []) es rule.1)
  where
    more : (t : Bool) → eqb e.sender id ≡ t → count_of id (before ++ e ∷ []) ≡ count_of id before + cond t 1 0
    more t is = count_of-snoc id before e ∙ (λ i. count_of id before + cond (is i) 1 0)

    by_case : (t : Bool) → eqb e.sender id ≡ t → Numbered id (count_of id (before ++ e ∷ [])) (entries_of id es) → Numbered id (count_of id before) (cond t (e ∷ entries_of id es) (entries_of id es))
    by_case true is rest =
        let same : e.sender ≡ id = grind (arith, nat_tests) in
        (same, rule.0.number ∙ ap (λ s. count_of s before) same, subst (λ m. Numbered id m (entries_of id es)) (more true is) rest)
    by_case false is rest = subst (λ m. Numbered id m (entries_of id es)) (more false is ∙ omega arith) rest
