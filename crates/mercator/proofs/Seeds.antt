-- The first seed that has no canonical URL.
use Rattle.mercator.proofs.Prelude.{◌≡◌, ◌⊎◌, ℕ, ◌+◌, ◌<◌, List, ◌∷◌, ◌++◌, length, map, take, drop, get_or, Err, refl, ap, ◌∙◌, arith, drop-cons, add-one, KeyError, of_seed, AreSeeds, IsFirstBadSeed, IsSeedError}
use Rattle.std.proofs.lemmas.List.{map-append, length-map, length-take-le, take-append-drop}
use Rattle.crawl_keys.specs.CanonicalText.{canonical}
use Rattle.crawl_keys.specs.declared.error.KeyError.TheVariants as key

split_at : {S : Type 0} (xs : List S) (index : ℕ) (one : S) → index < length xs → one ≡ get_or xs index one → xs ≡ take index xs ++ one ∷ drop (index + 1) xs
split_at xs index one within is = grind (arith, take-append-drop, add-one, drop-cons)

bad_at : {S : Type 0} (text : S → List ℕ) (texts : List S) (index : ℕ) (one : S) (seeds : List (List ℕ)) (refusal : KeyError) → index < length texts → one ≡ get_or texts index one → AreSeeds (map text (take index texts)) seeds → canonical (text one) ≡ Err refusal → IsFirstBadSeed (map text texts) (index + 1) refusal
bad_at text texts index one seeds refusal within is named refused = record {
  front = map text (take index texts);
  text = text one;
  rest = map text (drop (index + 1) texts);
  split = ap (map text) (split_at texts index one within is) ∙ map-append text (take index texts) (one ∷ drop (index + 1) texts);
  counted = rw (length-map (take index texts) text, length-take-le index texts (omega arith)) refl;
  seeds = seeds;
  named = named;
  refused = refused;
}

-- its error, unless memory ran out
pub seed_error : {S : Type 0} (text : S → List ℕ) (texts : List S) (index : ℕ) (one : S) (seeds : List (List ℕ)) (refusal : KeyError) → index < length texts → one ≡ get_or texts index one → AreSeeds (map text (take index texts)) seeds → (canonical (text one) ≡ Err refusal) ⊎ (refusal ≡ key.NoMemory) → IsSeedError (map text texts) (of_seed (index + 1) refusal)
seed_error text texts index one seeds refusal within is named why = grind (arith, bad_at)
