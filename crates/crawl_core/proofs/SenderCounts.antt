-- How many URLs each sender has.
use Rattle.crawl_core.proofs.Prelude.{◌≡◌, ℕ, ◌+◌, ◌≤◌, Some, arith, nat_cmp, BTreeMap, Updates, number_at}

-- after one more URL of a sender, no sender has more URLs than there are URLs
pub few_after : (m n : BTreeMap ℕ ℕ) (sender number count : ℕ) → Updates nat_cmp m n sender (Some (number + 1)) → number ≡ number_at m.entries sender
    → ((s : ℕ) → number_at m.entries s ≤ count) → (s : ℕ) → number_at n.entries s ≤ count + 1
few_after m n sender number count updates is few s = grind arith
