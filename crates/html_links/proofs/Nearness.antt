-- Finding a byte among the first bytes, by the mask of one load, or after them.
use Rattle.html_links.proofs.Prelude.{◌≡◌, ℕ, ◌+◌, ◌-◌, ◌%◌, ◌^◌, ◌<◌, ◌≤◌, eqb, Bool, true, false, not, cond, List, [], ◌∷◌, map, length, get_or, take, drop, None, Some, refl, sym, ap, ◌∙◌, subst, arith, inl, inr, bit_or, ◌||◌, ap₂, prefix_len, position_or_len, false≢true, not-true, not-false, cases_eq, cases_lt, eq-eqb, ne_eqb, cond-true, cond-false, eqb-true, map-map, mask_l-mod, leading_from_mask_l, trailing_mask_l, length-map, length-take-le, length-drop, get_or-take, get_or-drop, prefix_len_passes, prefix_len_stops, IsFirstByte, Passes, is_byte, is_mark}
use Rattle.std.specs.Simd.Lanes.{mask_l, top, zip2}
use Rattle.html_links.specs.Near.{first_set}
use Rattle.html_links.specs.References.{text_of}
use Rattle.html_links.proofs.Cuts.{no_first}
use Rattle.html_links.proofs.Decoding.{unescaped_text}

first_is : (p : ℕ → Bool) (v : List ℕ) (n : ℕ) → length v ≡ n → n ≤ 64 → first_set (mask_l (map p v)) n ≡ prefix_len (λ x. not (p x)) v
first_is p v n long few = grind (arith, cases_eq, cond-true, eq-eqb, leading_from_mask_l, cond-false, ne_eqb, trailing_mask_l)

pub prefix_same : (p q : ℕ → Bool) → ((x : ℕ) → p x ≡ q x) → (xs : List ℕ) → prefix_len p xs ≡ prefix_len q xs
prefix_same p q same [] = refl
prefix_same p q same (x ∷ xs) = ap (λ (b : Bool). cond b (1 + prefix_len p xs) 0) (same x) ∙ ap (λ (n : ℕ). cond (q x) (1 + n) 0) (prefix_same p q same xs)

-- all bits of a lane are 1 if it is equal to the byte
abbrev pub lane : ℕ → ℕ → ℕ
lane byte x = cond (eqb x byte) 255 0

top_lane : (b : Bool) → top 7 (cond b 255 0) ≡ b
top_lane b = grind arith

pub near_place : (byte : ℕ) (bytes z : List ℕ) (r : ℕ) → 32 ≤ length bytes → r ≡ first_set (mask_l (map (top 7) z) % 2 ^ 64) 32 → z ≡ map (lane byte) (take 32 bytes) →
    r ≡ position_or_len (is_byte byte) (take 32 bytes)
near_place byte bytes z r room found lanes =
    let long : length (take 32 bytes) ≡ 32 = length-take-le 32 bytes room in
    let few : length (map (λ (x : ℕ). top 7 (lane byte x)) (take 32 bytes)) ≤ 64 = omega (arith, length-map (take 32 bytes) (λ (x : ℕ). top 7 (lane byte x)), long) in
    let mask : mask_l (map (top 7) z) % 2 ^ 64 ≡ mask_l (map (λ (x : ℕ). top 7 (lane byte x)) (take 32 bytes)) =
    ap (λ (l : List ℕ). mask_l (map (top 7) l) % 2 ^ 64) lanes ∙ ap (λ (ms : List Bool). mask_l ms % 2 ^ 64) (map-map (top 7) (lane byte) (take 32 bytes))
    ∙ mask_l-mod (map (λ (x : ℕ). top 7 (lane byte x)) (take 32 bytes)) 64 few in
    found ∙ ap (λ (m : ℕ). first_set m 32) mask ∙ first_is (λ (x : ℕ). top 7 (lane byte x)) (take 32 bytes) 32 long (omega arith)
    ∙ prefix_same (λ (x : ℕ). not (top 7 (lane byte x))) (λ (x : ℕ). not (is_byte byte x)) (λ (x : ℕ). ap not (top_lane (eqb x byte))) (take 32 bytes)

-- no byte before the first one that passes does
pub passes_none : (test : ℕ → Bool) (bytes : List ℕ) (n k : ℕ) → k < position_or_len test (take n bytes) → k < n → test (get_or bytes k 0) ≡ false
passes_none test bytes n k before inside = grind (arith, get_or-take, not-true, prefix_len_passes)

pub near_first : (test : ℕ → Bool) (bytes : List ℕ) (n r : ℕ) → n ≤ length bytes → r ≡ position_or_len test (take n bytes) → r < n → IsFirstByte test bytes (Some r)
near_first test bytes n r room is inside = grind (arith, length-take-le, get_or-take, not-false, prefix_len_stops, false≢true, not-true, prefix_len_passes)

-- the byte is neither among the first nor among those after them
module _ (test : ℕ → Bool) (bytes : List ℕ) (n r : ℕ) (is : r ≡ position_or_len test (take n bytes)) (all : n ≤ r) where
  fails_at : (k : ℕ) → (n ≤ k → Passes test (drop n bytes) (k - n) → ⊥) → Passes test bytes k → ⊥
  fails_at k later p =
      elim (cases_lt k n) [
        | inl early ↦ false≢true (sym (passes_none test bytes n k (omega arith) early) ∙ p)
        | inr late ↦
            let back : n + (k - n) ≡ k = omega arith in
            later late (subst (λ (x : ℕ). test x ≡ true) (sym (get_or-drop n bytes (k - n) 0 ∙ ap (λ (i : ℕ). get_or bytes i 0) back)) p)
      ]

  pub far_first : (k : ℕ) → IsFirstByte test (drop n bytes) (Some k) → IsFirstByte test bytes (Some (n + k))
  far_first k first =
      let high = first.0.high in
      let long = length-drop n bytes in (
        record {
          low = omega arith;
          high = omega arith;
          before = λ j low below. λ (p : Passes test bytes j). fails_at j (λ late. first.0.before (j - n) (omega arith) (omega arith)) p;
        },
        subst (λ (x : ℕ). test x ≡ true) (get_or-drop n bytes k 0) first.1,
      )

  pub far_none : IsFirstByte test (drop n bytes) None → IsFirstByte test bytes None
  far_none nowhere =
      let long = length-drop n bytes in
      λ j low below. λ (p : Passes test bytes j). fails_at j (λ late. nowhere (j - n) (omega arith) (omega arith)) p

-- Marks among the bytes of a value, by lanes

zip2-map : (h : ℕ → ℕ → ℕ) (f g : ℕ → ℕ) (xs : List ℕ) → zip2 h (map f xs) (map g xs) ≡ map (λ x. h (f x) (g x)) xs
zip2-map h f g [] = refl
zip2-map h f g (x ∷ xs) = ap (λ r. h (f x) (g x) ∷ r) (zip2-map h f g xs)

-- a byte's lane after both tests are combined
abbrev joint : ℕ → ℕ
joint x = bit_or (lane 38 x) (lane 0 x)

top_joint : (a b : Bool) → top 7 (bit_or (cond a 255 0) (cond b 255 0)) ≡ (a || b)
top_joint a b = grind arith

pub none_marked : (bytes a b : List ℕ) → 16 ≤ length bytes → a ≡ map (lane 38) (take 16 bytes) → b ≡ map (lane 0) (take 16 bytes) →
    not (eqb (mask_l (map (top 7) (zip2 bit_or a b)) % 2 ^ 64) 0) ≡ false → position_or_len is_mark (take 16 bytes) ≡ 16
none_marked bytes a b room ands nuls none =
    let long : length (take 16 bytes) ≡ 16 = length-take-le 16 bytes room in
    let few : length (map (λ (x : ℕ). top 7 (joint x)) (take 16 bytes)) ≤ 64 = omega (arith, length-map (take 16 bytes) (λ (x : ℕ). top 7 (joint x)), long) in
    let lanes : zip2 bit_or a b ≡ map joint (take 16 bytes) = ap₂ (zip2 bit_or) ands nuls ∙ zip2-map bit_or (lane 38) (lane 0) (take 16 bytes) in
    let mask : mask_l (map (top 7) (zip2 bit_or a b)) % 2 ^ 64 ≡ mask_l (map (λ (x : ℕ). top 7 (joint x)) (take 16 bytes)) =
    ap (λ (l : List ℕ). mask_l (map (top 7) l) % 2 ^ 64) lanes ∙ ap (λ (ms : List Bool). mask_l ms % 2 ^ 64) (map-map (top 7) joint (take 16 bytes))
    ∙ mask_l-mod (map (λ (x : ℕ). top 7 (joint x)) (take 16 bytes)) 64 few in
    let zero : mask_l (map (λ (x : ℕ). top 7 (joint x)) (take 16 bytes)) ≡ 0 = sym mask ∙ eqb-true _ _ (not-false _ none) in
    sym (prefix_same (λ (x : ℕ). not (top 7 (joint x))) (λ (x : ℕ). not (is_mark x)) (λ (x : ℕ). ap not (top_joint (eqb x 38) (eqb x 0))) (take 16 bytes))
    ∙ leading_from_mask_l (λ (x : ℕ). top 7 (joint x)) (take 16 bytes) zero ∙ long

pub marks_more : (value : List ℕ) (at : ℕ) → ((k : ℕ) → k < at → is_mark (get_or value k 0) ≡ false) → position_or_len is_mark (take 16 (drop at value)) ≡ 16 →
    (k : ℕ) → k < at + 16 → is_mark (get_or value k 0) ≡ false
marks_more value at before none k below =
    elim (cases_lt k at) [
      | inl early ↦ before k early
      | inr late ↦
          let back : at + (k - at) ≡ k = omega arith in
          subst (λ (x : ℕ). is_mark x ≡ false) (get_or-drop at value (k - at) 0 ∙ ap (λ (i : ℕ). get_or value i 0) back)
          (passes_none is_mark (drop at value) 16 (k - at) (omega (arith, none)) (omega arith))
    ]

pub itself : (value : List ℕ) → ((k : ℕ) → k < length value → is_mark (get_or value k 0) ≡ false) → text_of value ≡ value
itself value none =
    let nowhere : IsFirstByte is_mark value None = λ k low high. λ (p : Passes is_mark value k). false≢true (sym (none k high) ∙ p) in
    unescaped_text value (no_first is_mark value nowhere)
