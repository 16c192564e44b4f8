-- Slots after one of them was taken.
use Rattle.hash_index.proofs.Prelude.{◌≡◌, ◌≢◌, inl, inr, ◌<◌, ◌+◌, ℕ, ◌-◌, zero, suc, Bool, false, List, [], ◌∷◌, get_or, set, bit_and, bit_xor, refl, sym, ap, ◌∙◌, arith, cases_lt, cases_eq, length-set, get_or-set_other, no_slot, mark_of, word_of, slot_of, word_at, AreTaken, IsFirstVacant, IsInSlots, Misses}
use Rattle.std.specs.Int.Bits.{xor_assoc, xor_self, xor_zero_l}

-- combining an index with the mark twice returns the index
pub mixed_twice : (mark index : ℕ) → bit_xor mark (bit_xor mark index) ≡ index
mixed_twice mark index =
    sym (xor_assoc mark mark index) ∙ ap (λ none. bit_xor none index) (xor_self mark) ∙ xor_zero_l index

at_same : (slots : List ℕ) (i word : ℕ) → get_or slots i no_slot ≡ 0 → get_or (set slots i word) i no_slot ≡ word
at_same [] i word e = absurd (cc (e))
at_same (s ∷ slots) zero word e = refl
at_same (s ∷ slots) (suc i) word e = at_same slots i word e

module _ (slots : List ℕ) (i word : ℕ) (free : get_or slots i no_slot ≡ 0) (full : word ≢ 0) where
  slot_stays : (hash number : ℕ) → slot_of (set slots i word) hash number ≡ slot_of slots hash number
  slot_stays hash number = ap (λ n. bit_xor (bit_and hash (n - 1)) number) (length-set slots i word)

  word_there : (hash number : ℕ) → slot_of slots hash number ≡ i → word_at (set slots i word) hash number ≡ word
  word_there hash number at = ap (λ k. get_or (set slots i word) k no_slot) (slot_stays hash number ∙ at) ∙ at_same slots i word free

  word_elsewhere : (hash number : ℕ) → slot_of slots hash number ≢ i → word_at (set slots i word) hash number ≡ word_at slots hash number
  word_elsewhere hash number apart =
      ap (λ k. get_or (set slots i word) k no_slot) (slot_stays hash number) ∙ get_or-set_other slots i (slot_of slots hash number) word no_slot apart

  pub taken_stays : (hash count : ℕ) → AreTaken slots hash count → AreTaken (set slots i word) hash count
  taken_stays hash count taken number less vacant = elim (cases_eq (slot_of slots hash number) i) [
    | inl same ↦ full (sym (word_there hash number same) ∙ vacant)
    | inr apart ↦ taken number less (sym (word_elsewhere hash number apart) ∙ vacant)
  ]

  pub index_stays : (hash index : ℕ) → IsInSlots slots hash index → IsInSlots (set slots i word) hash index
  index_stays hash index held =
      let apart : slot_of slots hash held.0 ≢ i = λ same.
      let none : word_at slots hash held.0 ≡ 0 = ap (λ k. get_or slots k no_slot) same ∙ free in
      let word_is : bit_xor (mark_of hash) index + 1 ≡ 0 = sym held.3 ∙ none in
      omega (arith, word_is) in
      (held.0, held.1, taken_stays hash held.0 held.2, word_elsewhere hash held.0 apart ∙ held.3)

  pub index_put : (hash index : ℕ) → IsFirstVacant slots hash i → word ≡ word_of hash index → IsInSlots (set slots i word) hash index
  index_put hash index first is =
      (first.0, first.1, taken_stays hash first.0 first.2, word_there hash first.0 (sym first.3) ∙ is)

-- no index passes if none does in the slots before this one, and this one is vacant
pub misses_to : (passes : ℕ → Bool) (slots : List ℕ) (hash number : ℕ) → word_at slots hash number ≡ 0
    → ((i k : ℕ) → i < number → word_at slots hash i ≡ word_of hash k → passes k ≡ false) → Misses passes slots hash
misses_to passes slots hash number vacant never index held = elim (cases_lt held.0 number) [
  | inl before ↦ never held.0 index before held.3
  | inr after ↦ elim (cases_lt number held.0) [
    | inl past ↦ absurd (held.2 number past vacant)
    | inr at ↦
        let same : held.0 ≡ number = omega (arith, after, at) in
        let word_is : bit_xor (mark_of hash) index + 1 ≡ 0 = sym held.3 ∙ ap (word_at slots hash) same ∙ vacant in
        absurd (omega (arith, word_is))
  ]
]
