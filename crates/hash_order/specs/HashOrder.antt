-- Texts in the order of their hashes. Texts with the same hash are in the order of their bytes.
use Rattle.std.proofs.Common.{◌≡◌, ◌∙◌, ℕ, Bool, true, false, List, Some, refl, sym, ap, subst}
use Rattle.std.specs.Str.{bytes_eq}
use Rattle.std.specs.declared.cmp.Ordering.{Ordering}
use Rattle.std.specs.declared.cmp.Ordering.TheVariants.{Less, Equal, Greater}
use Rattle.std.specs.Ordering.{nat_cmp, on, then_cmp, eq_by_cmp, ordering_then, is_eq}
use Rattle.std.specs.Cmp.{IsTotalOrder, IsPartialOrder, po, nat_cmp_total, on_total, then_total, tied_itself}
use Rattle.std.specs.Cmp.Lexicographic.{slice_cmp, nat_list_cmp_total, texts_ties}
use Rattle.std.proofs.lemmas.Slice.Eq.{bytes_eq-Decides}
use Rattle.std.specs.Hash.FoldHasher.{initial, write, finish}

-- the hash of a text: the one that std's fast hasher computes from its bytes
unfoldable pub hash_of : List ℕ → ℕ
hash_of text = finish (write initial text)

-- first by the hashes, then by the bytes
abbrev pub by_hash : List ℕ → List ℕ → Ordering
by_hash = then_cmp (on hash_of nat_cmp) (slice_cmp nat_cmp)

pub by_hash_total : IsTotalOrder by_hash
by_hash_total = then_total (on_total hash_of nat_cmp_total) nat_list_cmp_total

-- two texts that differ by bytes do not tie
apart : (o s : Ordering) → is_eq s ≡ false → is_eq (ordering_then o s) ≡ false
apart Less s h = refl
apart Equal s h = h
apart Greater s h = refl

ties_by : (b : Bool) (u v : List ℕ) → bytes_eq u v ≡ b → bytes_eq u v ≡ eq_by_cmp by_hash u v
ties_by true u v e = e ∙ sym (ap is_eq (subst (λ w. by_hash u w ≡ Equal) ((bytes_eq-Decides u v).0 e) (tied_itself by_hash_total u)))
ties_by false u v e = e ∙ sym (apart (nat_cmp (hash_of u) (hash_of v)) (slice_cmp nat_cmp u v) (sym (texts_ties u v) ∙ e))

-- two texts tie if and only if they have the same bytes
pub by_hash_ties : (u v : List ℕ) → bytes_eq u v ≡ eq_by_cmp by_hash u v
by_hash_ties u v = ties_by (bytes_eq u v) u v refl

pub by_hash_po : IsPartialOrder bytes_eq (λ u v. Some (by_hash u v))
by_hash_po = po by_hash_total by_hash_ties
