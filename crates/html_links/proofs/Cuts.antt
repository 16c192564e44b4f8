-- The runs that the code cuts by their length are `front` and `following`.
use Rattle.html_links.proofs.Prelude.{common_steps, ◌≡◌, ℕ, zero, suc, ◌+◌, ◌-◌, ◌==◌, ⊎_elim, slice_index, subst, Option, Bool, true, false, not, cond, List, [], ◌∷◌, length, take, drop, get_or, Some, None, refl, ap, sym, ◌∙◌, arith, MatchOption, IfSome, prefix_len, position_or_len, take_while, position_or_len_is, take_rest, drop_all, eqb-true, cases_eq, false_from_ne_true, front, following, in_name, BeginsName, name_front, following_name}
use Rattle.std.proofs.lemmas.List.Folds.{length-prefix_len}
use Rattle.std.proofs.Math.Seq.{drop-cons}
use Rattle.memchr.specs.Find.{IsFirstByte, is_byte, Nowhere, NoneBefore, Passes, places_from, places, TakesFirst}

pub if_some : {T : Type 0} (o : Option T) (P : Type 0) (Q : T → Type 0) → MatchOption o P Q → IfSome o Q
if_some o P Q is = grind arith

front_at : (b : Bool) (c : ℕ) (rest tail : List ℕ) (n : ℕ) → tail ≡ take n rest → cond b (c ∷ tail) [] ≡ take (cond b (1 + n) 0) (c ∷ rest)
front_at b c rest tail n e = grind arith

front_prefix : (test : ℕ → Bool) (bytes : List ℕ) → front test bytes ≡ take (prefix_len test bytes) bytes
front_prefix test [] = refl
front_prefix test (c ∷ rest) = front_at (test c) c rest (front test rest) (prefix_len test rest) (front_prefix test rest)

after_at : (b : Bool) (c : ℕ) (rest tail : List ℕ) (n : ℕ) → tail ≡ drop n rest → cond b tail (c ∷ rest) ≡ drop (cond b (1 + n) 0) (c ∷ rest)
after_at b c rest tail n e = grind arith

after_prefix : (test : ℕ → Bool) (bytes : List ℕ) → following test bytes ≡ drop (prefix_len test bytes) bytes
after_prefix test [] = refl
after_prefix test (c ∷ rest) = after_at (test c) c rest (following test rest) (prefix_len test rest) (after_prefix test rest)

pub front_cut : (test : ℕ → Bool) (bytes : List ℕ) → take (length (take_while test bytes)) bytes ≡ front test bytes
front_cut test bytes = rw (length-prefix_len test bytes) (sym (front_prefix test bytes))

pub after_cut : (test : ℕ → Bool) (bytes : List ℕ) → drop (length (take_while test bytes)) bytes ≡ following test bytes
after_cut test bytes = rw (length-prefix_len test bytes) (sym (after_prefix test bytes))

pub tail_front : (c : ℕ) (rest : List ℕ) (n : ℕ) → take (1 + n) (c ∷ rest) ≡ c ∷ take n rest
tail_front c rest n = let more : 1 + n ≡ suc n = omega arith in rw more refl

pub tail_after : (c : ℕ) (rest : List ℕ) (n : ℕ) → drop (1 + n) (c ∷ rest) ≡ drop n rest
tail_after c rest n = let more : 1 + n ≡ suc n = omega arith in rw more refl

-- a name, by the length of the part after its first byte
pub name_cut : (bytes : List ℕ) (n : ℕ) → BeginsName bytes → n ≡ length (take_while in_name (take (length bytes - 1) (drop 1 bytes))) →
    (take (1 + n) bytes ≡ name_front bytes) × (drop (1 + n) bytes ≡ following_name bytes)
name_cut bytes n begins len = grind (arith, common_steps, take_rest, tail_front, front_cut, tail_after, after_cut)

-- the first byte that passes a test, by its position
pub first_cut : (test : ℕ → Bool) (bytes : List ℕ) (end : ℕ) → IsFirstByte test bytes (Some end) →
    (take end bytes ≡ front (λ c. not (test c)) bytes) × (drop end bytes ≡ following (λ c. not (test c)) bytes)
first_cut test bytes end first = grind (arith, position_or_len_is, false_from_ne_true, front_prefix, after_prefix)

pub no_first : (test : ℕ → Bool) (bytes : List ℕ) → IsFirstByte test bytes None → following (λ c. not (test c)) bytes ≡ []
no_first test bytes nowhere =
    let none : position_or_len test bytes ≡ length bytes =
    position_or_len_is test bytes (length bytes) 0 (omega arith) (λ k below. false_from_ne_true (test (get_or bytes k 0)) (nowhere k (omega arith) below)) (λ inside. absurd (omega (arith, inside))) in
    after_prefix (λ c. not (test c)) bytes ∙ ap (λ n. drop n bytes) none ∙ drop_all (length bytes) bytes (omega arith)

-- the first quote, by its position
pub quote_cut : (quote : ℕ) (bytes : List ℕ) (end : ℕ) → IsFirstByte (is_byte quote) bytes (Some end) →
    (take end bytes ≡ front (λ c. not (c == quote)) bytes) × (quote ∷ drop (end + 1) bytes ≡ following (λ c. not (c == quote)) bytes)
quote_cut quote bytes end first =
    let high = first.0.high in
    let there : position_or_len (is_byte quote) bytes ≡ end =
    position_or_len_is (is_byte quote) bytes end 0 (omega (arith, high)) (λ k below. false_from_ne_true (is_byte quote (get_or bytes k 0)) (first.0.before k (omega arith) below)) (λ inside. first.1) in
    let here : get_or bytes end 0 ≡ quote = eqb-true _ _ first.1 in
    let cut : drop end bytes ≡ get_or bytes end 0 ∷ drop (suc end) bytes = drop-cons bytes end 0 high in
    let after : end + 1 ≡ suc end = omega arith in (
      sym (front_prefix (λ c. not (c == quote)) bytes ∙ ap (λ n. take n bytes) there),
      ap (λ n. quote ∷ drop n bytes) after ∙ ap (λ q. q ∷ drop (suc end) bytes) (sym here) ∙ sym cut ∙ sym (after_prefix (λ c. not (c == quote)) bytes ∙ ap (λ n. drop n bytes) there),
    )

pub no_quote : (quote : ℕ) (bytes : List ℕ) → IsFirstByte (is_byte quote) bytes None → following (λ c. not (c == quote)) bytes ≡ []
no_quote quote bytes nowhere =
    let none : position_or_len (is_byte quote) bytes ≡ length bytes =
    position_or_len_is (is_byte quote) bytes (length bytes) 0 (omega arith) (λ k below. false_from_ne_true (is_byte quote (get_or bytes k 0)) (nowhere k (omega arith) below)) (λ inside. absurd (omega (arith, inside))) in
    after_prefix (λ c. not (c == quote)) bytes ∙ ap (λ n. drop n bytes) none ∙ drop_all (length bytes) bytes (omega arith)

-- the first of the positions at which a test is true, from the list of all of them
module _ (test : ℕ → Bool) (hay : List ℕ) where
  none_at : (b : Bool) (i n : ℕ) (later : List ℕ) → test (slice_index hay i) ≡ b → cond b (i ∷ later) later ≡ [] →
      (later ≡ [] → Nowhere (Passes test hay) (i + 1) (i + 1 + n)) → Nowhere (Passes test hay) i (i + suc n)
  none_at true i n later is e rest = absurd (cc)
  none_at false i n later is e rest =
      λ k low high. ⊎_elim (λ (same : k ≡ i). λ (p : Passes test hay k). cc) (λ other. rest e k (omega arith) (omega arith)) (cases_eq k i)

  none_from : (i n : ℕ) → places_from test hay i n ≡ [] → Nowhere (Passes test hay) i (i + n)
  unfolding places_from
  none_from i zero e = λ k low high. absurd (omega arith)
  none_from i (suc n) e = none_at (test (slice_index hay i)) i n (places_from test hay (i + 1) n) refl e (none_from (i + 1) n)

  some_at : (b : Bool) (i n x : ℕ) (later t : List ℕ) → test (slice_index hay i) ≡ b → cond b (i ∷ later) later ≡ x ∷ t →
      (later ≡ x ∷ t → NoneBefore (Passes test hay) (i + 1) (i + 1 + n) x × Passes test hay x) → NoneBefore (Passes test hay) i (i + suc n) x × Passes test hay x
  some_at true i n x later t is e rest =
      let same : i ≡ x = cc in
      (record { low = omega arith; high = omega arith; before = λ k low high. absurd (omega arith) }, subst (λ (k : ℕ). test (slice_index hay k) ≡ true) same is)
  some_at false i n x later t is e rest =
      let found : NoneBefore (Passes test hay) (i + 1) (i + 1 + n) x × Passes test hay x = rest e in (
        record {
          low = omega (arith, found.0.low);
          high = omega (arith, found.0.high);
          before = λ k low high. ⊎_elim (λ (same : k ≡ i). λ (p : Passes test hay k). cc) (λ other. found.0.before k (omega arith) high) (cases_eq k i);
        },
        found.1,
      )

  some_from : (i n x : ℕ) (t : List ℕ) → places_from test hay i n ≡ x ∷ t → NoneBefore (Passes test hay) i (i + n) x × Passes test hay x
  unfolding places_from
  some_from i zero x t e = absurd (cc)
  some_from i (suc n) x t e = some_at (test (slice_index hay i)) i n x (places_from test hay (i + 1) n) t refl e (some_from (i + 1) n x t)

  pub first_byte : (r : Option ℕ) (all rest : List ℕ) → all ≡ places test hay → TakesFirst all r rest → IsFirstByte test hay r
  first_byte None all rest is takes = λ k low high. none_from 0 (length hay - 0) (sym is ∙ takes.0) k low (omega arith)
  first_byte (Some x) all rest is takes =
      let found = some_from 0 (length hay - 0) x rest (sym is ∙ takes) in
      (record { low = omega arith; high = omega (arith, found.0.high); before = found.0.before }, found.1)
