-- A shard's table of counts.
use Rattle.std.specs.Prelude.{ℕ, unwrap_or}
use Rattle.std.specs.Ordering.{nat_cmp}
use Rattle.std.specs.BTreeMap.{BTreeMap, get}

-- the number of a sender's entries; 0 if the table does not have the sender
abbrev pub count_in : BTreeMap ℕ ℕ → ℕ → ℕ
count_in counts s = unwrap_or (get nat_cmp counts s) 0
