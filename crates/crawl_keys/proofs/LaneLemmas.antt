-- From the mask of 16 lanes to the bytes of a text.
use Rattle.crawl_keys.proofs.Prelude.{◌≡◌, ◌≢◌, ℕ, ◌+◌, ◌-◌, ◌%◌, ◌^◌, ◌<◌, ◌≤◌, ◌==◌, Bool, true, false, not, ◌||◌, cond, refl, List, map, length, get_or, bit_and, bit_or, Fits, w8, replicate, sym, ap, ◌∙◌, subst, arith, inl, inr, agree_below, agree_below_at, cases_eq, cond-false, cond-true, eq-eqb, ne_eqb, not-false, not-true, first_set_mask_l, get_or-chunk, get_or-zip2, leading_from_mask_l, length-chunk, length-zip2, map-map, mask_l-mod, run_in_chunk_fails, run_in_chunk_le, run_in_chunk_stops, splat_is_map, zip2_of_maps, get_or-map, length-map, prefix_len_passes, prefix_len, chunk, mask_l, top, zip2, Follow, IsRun, first_set, is_host_byte, is_kept, is_other, may_begin, may_follow}

-- a vector with the same byte in each lane, computed lane by lane from v
pub splat : (v : List ℕ) (y : ℕ) → length v ≡ 16 → replicate 16 y ≡ map (λ _. y) v
splat v y long = splat_is_map v 16 y long

-- an operation on two vectors that were computed lane by lane from v
pub joined : (h : ℕ → ℕ → ℕ) (f g : ℕ → ℕ) (v : List ℕ) {a b : List ℕ} → a ≡ map f v → b ≡ map g v → zip2 h a b ≡ map (λ x. h (f x) (g x)) v
joined h f g v p q = zip2_of_maps h f g v p q

-- if no bit of the mask is set, no lane has its top bit set
none_set : (z : List ℕ) → length z ≤ 64 → mask_l (map (top 7) z) % 2 ^ 64 ≡ 0 → (k : ℕ) → k < length z → top 7 (get_or z k 0) ≡ false
none_set z few none k inside =
    let mask : mask_l (map (top 7) z) ≡ 0 = sym (mask_l-mod (map (top 7) z) 64 (omega (arith, length-map z (top 7)))) ∙ none in
    let all = leading_from_mask_l (top 7) z mask in
    not-true _ (prefix_len_passes (λ x. not (top 7 x)) z k 0 (omega (arith, all)))

-- For 16 bytes and the byte before each: a test of each byte, the slashes among the bytes before, and a test of each byte that
-- follows a slash.
module _ (own slashes begins : ℕ → ℕ) (other : (a : ℕ) → a ≢ 47 → slashes a ≡ 0)
    (first : agree_below (λ b. top 7 (bit_or (own b) (bit_and (slashes 47) (begins b))) || may_begin b) (λ _. true) 256 ≡ true)
    (later : agree_below (λ b. top 7 (bit_or (own b) (bit_and 0 (begins b))) || is_kept b) (λ _. true) 256 ≡ true) where
  known : (test : ℕ → Bool) (shows : ℕ → ℕ) (b : ℕ) → agree_below (λ x. top 7 (shows x) || test x) (λ _. true) 256 ≡ true → b < 256 → top 7 (shows b) ≡ false → test b ≡ true
  known test shows b all below none = sym (ap (λ v. v || test b) none) ∙ agree_below_at (λ x. top 7 (shows x) || test x) (λ _. true) 256 b all below

  follows : (a b : ℕ) → b < 256 → top 7 (bit_or (own b) (bit_and (slashes a) (begins b))) ≡ false → may_follow a b ≡ true
  follows a b below none =
      elim (cases_eq a 47) [
        | inl slash ↦
            cond-true _ _ _ (eq-eqb a 47 slash)
            ∙ known may_begin (λ x. bit_or (own x) (bit_and (slashes 47) (begins x))) b first below (subst (λ x. top 7 (bit_or (own b) (bit_and (slashes x) (begins b))) ≡ false) slash none)
        | inr no_slash ↦
            cond-false _ _ _ (ne_eqb a 47 no_slash)
            ∙ known is_kept (λ x. bit_or (own x) (bit_and 0 (begins x))) b later below (subst (λ x. top 7 (bit_or (own b) (bit_and x (begins b))) ≡ false) (other a no_slash) none)
      ]

-- the lanes of 16 bytes and of those before them
abbrev Lanes : List ℕ → ℕ → (ℕ → ℕ) → (ℕ → ℕ) → (ℕ → ℕ) → List ℕ
Lanes text at own slashes begins =
    zip2 bit_or (map own (chunk (at + 1) 16 text)) (zip2 bit_and (map slashes (chunk at 16 text)) (map begins (chunk (at + 1) 16 text)))

-- the test at one index
record Lane (text : List ℕ) (at : ℕ) (own slashes begins : ℕ → ℕ) : Type 0 where
  long : length (Lanes text at own slashes begins) ≡ 16
  shows : (i : ℕ) → i < 16 → get_or (Lanes text at own slashes begins) i 0 ≡ bit_or (own (get_or text (at + 1 + i) 0)) (bit_and (slashes (get_or text (at + i) 0)) (begins (get_or text (at + 1 + i) 0)))

lanes : (text : List ℕ) (at : ℕ) (own slashes begins : ℕ → ℕ) → at + 17 ≤ length text → Lane text at own slashes begins
lanes text at own slashes begins room =
    let p = chunk at 16 text in
    let v = chunk (at + 1) 16 text in
    let p_long = length-chunk at 16 text (omega arith) in
    let v_long = length-chunk (at + 1) 16 text (omega arith) in
    let own_long = length-map v own ∙ v_long in
    let slashes_long = length-map p slashes ∙ p_long in
    let begins_long = length-map v begins ∙ v_long in
    let both = zip2 bit_and (map slashes p) (map begins v) in
    let both_long = length-zip2 bit_and (map slashes p) (map begins v) (slashes_long ∙ sym begins_long) ∙ slashes_long in
    record {
      long = length-zip2 bit_or (map own v) both (own_long ∙ sym both_long) ∙ own_long;
      shows = λ i inside.
          let before : get_or (map slashes p) i 0 ≡ slashes (get_or text (at + i) 0) = get_or-map slashes p i 0 0 (omega (arith, p_long)) ∙ ap slashes (get_or-chunk at 16 text i 0 inside) in
          let byte = get_or-chunk (at + 1) 16 text i 0 inside in
          let alone : get_or (map own v) i 0 ≡ own (get_or text (at + 1 + i) 0) = get_or-map own v i 0 0 (omega (arith, v_long)) ∙ ap own byte in
          let following : get_or (map begins v) i 0 ≡ begins (get_or text (at + 1 + i) 0) = get_or-map begins v i 0 0 (omega (arith, v_long)) ∙ ap begins byte in
          get_or-zip2 bit_or (map own v) both i 0 0 0 (omega (arith, own_long)) (omega (arith, both_long))
          ∙ (λ j. bit_or (alone j) ((get_or-zip2 bit_and (map slashes p) (map begins v) i 0 0 0 (omega (arith, slashes_long)) (omega (arith, begins_long)) ∙ (λ m. bit_and (before m) (following m))) j));
    }

-- if no lane has its top bit set, each byte may follow the one before it
pub all_follow : (text : List ℕ) (at : ℕ) (z : List ℕ) (own slashes begins : ℕ → ℕ) → at + 17 ≤ length text → ((k : ℕ) → Fits w8 (get_or text k 0))
    → z ≡ Lanes text at own slashes begins → ((a : ℕ) → a ≢ 47 → slashes a ≡ 0)
    → agree_below (λ b. top 7 (bit_or (own b) (bit_and (slashes 47) (begins b))) || may_begin b) (λ _. true) 256 ≡ true
    → agree_below (λ b. top 7 (bit_or (own b) (bit_and 0 (begins b))) || is_kept b) (λ _. true) 256 ≡ true
    → mask_l (map (top 7) z) % 2 ^ 64 ≡ 0 → Follow text at (at + 16)
all_follow text at z own slashes begins room fits is other first later none k from to =
    let l = lanes text at own slashes begins room in
    let i = k - at in
    let long = ap length is ∙ l.long in
    let shows = ap (λ t. get_or t i 0) is ∙ l.shows i (omega arith) in
    let test = sym (ap (top 7) shows) ∙ none_set z (omega (arith, long)) none i (omega (arith, long)) in
    let here : at + i ≡ k = omega arith in
    let next : at + 1 + i ≡ k + 1 = omega arith in
    subst (λ j. may_follow (get_or text j 0) (get_or text (k + 1) 0) ≡ true) here
    (subst (λ j. may_follow (get_or text (at + i) 0) (get_or text j 0) ≡ true) next
    (follows own slashes begins other first later (get_or text (at + i) 0) (get_or text (at + 1 + i) 0) (fits (at + 1 + i)).fits test))

-- the run ends at the first byte that fails the test
run_of : (test : ℕ → Bool) (text : List ℕ) (at r : ℕ) (z : List ℕ) (f : ℕ → ℕ) → at + 16 ≤ length text → ((k : ℕ) → Fits w8 (get_or text k 0))
    → r ≡ first_set (mask_l (map (top 7) z) % 2 ^ 64) → z ≡ map f (chunk at 16 text)
    → ((x : ℕ) → x < 256 → top 7 (f x) ≡ not (test x)) → IsRun test text at r
run_of test text at r z f room fits found lanes known =
    let v = chunk at 16 text in
    let long = length-chunk at 16 text room in
    let stops = λ (x : ℕ). top 7 (f x) in
    let mask = ap (λ l. mask_l l % 2 ^ 64) (ap (map (top 7)) lanes ∙ map-map (top 7) f v) ∙ mask_l-mod (map stops v) 64 (omega (arith, length-map v stops, long)) in
    let counted : r ≡ prefix_len (λ x. not (stops x)) v = found ∙ ap first_set mask ∙ first_set_mask_l stops v 16 long (omega arith) in
    let at_byte = λ (k : ℕ). known (get_or text k 0) (fits k).fits in
    record {
      few = run_in_chunk_le stops text at 16 r 0 room counted;
      pass = λ k from to. not-false _ (sym (at_byte k) ∙ run_in_chunk_fails stops text at 16 r 0 room counted k from to);
      stops = λ short. not-true _ (sym (at_byte (at + r)) ∙ run_in_chunk_stops stops text at 16 r 0 room counted short);
    }

-- likewise for bytes that a host may have
pub host_run : (text : List ℕ) (at r : ℕ) (z : List ℕ) (f : ℕ → ℕ) → at + 16 ≤ length text → ((k : ℕ) → Fits w8 (get_or text k 0))
    → r ≡ first_set (mask_l (map (top 7) z) % 2 ^ 64) → z ≡ map f (chunk at 16 text)
    → agree_below (λ x. top 7 (f x)) (λ x. not (is_host_byte x)) 256 ≡ true → IsRun is_host_byte text at r
host_run text at r z f room fits found lanes all =
    run_of is_host_byte text at r z f room fits found lanes (λ x below. agree_below_at (λ y. top 7 (f y)) (λ y. not (is_host_byte y)) 256 x all below)

-- likewise for bytes other than the mark
pub other_run : (text : List ℕ) (at mark r : ℕ) (z : List ℕ) → at + 16 ≤ length text → ((k : ℕ) → Fits w8 (get_or text k 0))
    → r ≡ first_set (mask_l (map (top 7) z) % 2 ^ 64) → z ≡ map (λ x. cond (x == mark) 255 0) (chunk at 16 text) → IsRun (is_other mark) text at r
other_run text at mark r z room fits found lanes =
    run_of (is_other mark) text at r z (λ x. cond (x == mark) 255 0) room fits found lanes (λ x _. by_flag (x == mark))
  where
    by_flag : (same : Bool) → top 7 (cond same 255 0) ≡ not (not same)
    by_flag true = refl
    by_flag false = refl
