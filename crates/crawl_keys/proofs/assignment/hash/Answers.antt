use Rattle.crawl_keys.proofs.Prelude.{common_steps, arith, add-one, ◌≡◌, ℕ, ◌+◌, ◌*◌, ◌%◌, ◌^◌, List, [], ◌∷◌, ◌++◌, length, ap, ◌∙◌, length-append, take-suc}
use Rattle.std.proofs.lemmas.List.{take_all}
use Rattle.crawl_keys.specs.Assignment.{hash, weighted_sum}
use Rattle.std.proofs.Math.Nat.{pow-succ'}
use Rattle.crawl_keys.proofs.assignment.hash.Goals as goal

-- the sum of weighted bytes, byte by byte from the front
weighted_sum-append_byte : (xs : List ℕ) (b : ℕ) → weighted_sum (xs ++ b ∷ []) ≡ 31 * weighted_sum xs + b
weighted_sum-append_byte [] b = omega arith
weighted_sum-append_byte (x ∷ xs) b =
    let longer : length (xs ++ b ∷ []) ≡ length xs + 1 = length-append xs (b ∷ []) in
    let power : 31 ^ length (xs ++ b ∷ []) ≡ 31 * 31 ^ length xs = ap (λ n. 31 ^ n) (longer ∙ add-one (length xs)) ∙ pow-succ' 31 (length xs) in
    rw (power, weighted_sum-append_byte xs b) (omega arith)

-- one step of the hash, modulo 2^32 at each operation, is one step of the sum
hash_step : (sum b : ℕ) → (sum % 2 ^ 32 * 31 % 2 ^ 32 + b) % 2 ^ 32 ≡ (31 * sum + b) % 2 ^ 32
hash_step sum b = omega arith

pub loop-byte-preserved : goal.loop-byte-preserved
loop-byte-preserved c = grind (arith, common_steps, add-one, take-suc, weighted_sum-append_byte, hash_step)

pub returns : goal.returns
unfolding hash
returns c = grind (arith, take_all)
