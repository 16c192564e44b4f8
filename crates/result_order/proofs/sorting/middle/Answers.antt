use Rattle.result_order.proofs.Prelude.{ltb, leb, arith, rules, ◌≡◌, ℕ, ◌<◌, ◌≤◌, true, false, List, length, get_or, zero-le, IsPartitionPoint-from_clause, IsPartitionedBy-leb, IsPartitionedBy-ltb, Numbered, IsPartitionPoint, leb-true, leb-false, ltb-true, ltb-false, cases_lt, length-take-le, length-drop, get_or-take, get_or-drop, AllEqual, ArePartedAt}
use Rattle.result_order.proofs.sorting.middle.Goals as goal

-- the numbers before the index are less than the number at one of the indices
parted_before : (pages : List Numbered) (at index : ℕ) (here : Numbered) → at < length pages → here ≡ get_or pages at here → 0 < index → index ≤ length pages
    → IsPartitionPoint (λ c. ltb c.number here.number ≡ true) (λ c. ltb c.number here.number ≡ false) pages index → ArePartedAt pages index
parted_before pages at index here there is_here some bound point = grind (arith, cases_lt, ltb-true, zero-le, length-take-le, get_or-take, get_or-drop, ltb-false, length-drop)

-- the numbers after the index are greater than the number at one of the indices
parted_after : (pages : List Numbered) (at index : ℕ) (here : Numbered) → at < length pages → here ≡ get_or pages at here → index < length pages
    → IsPartitionPoint (λ c. leb c.number here.number ≡ true) (λ c. leb c.number here.number ≡ false) pages index → ArePartedAt pages index
parted_after pages at index here there is_here more point = grind (arith, cases_lt, leb-false, length-take-le, get_or-take, get_or-drop, leb-true, zero-le, length-drop)

-- if no number is less than this one, and none is greater, all are equal
equal_to_one : (pages : List Numbered) (first following number : ℕ) → first ≡ 0 → length pages ≤ following
    → IsPartitionPoint (λ c. ltb c.number number ≡ true) (λ c. ltb c.number number ≡ false) pages first
    → IsPartitionPoint (λ c. leb c.number number ≡ true) (λ c. leb c.number number ≡ false) pages following → AllEqual pages
equal_to_one pages first following number none all low high = grind arith

pub returns-then-first-gt0-clause-some : goal.returns-then-first-gt0-clause-some
returns-then-first-gt0-clause-some c =
    let pages = c.args.pages.now in
    let here = c.in_ok-number.field-0.now in
    let parted = IsPartitionedBy-ltb (λ (c : Numbered). c.number) pages here.number c.requires in
    let point = IsPartitionPoint-from_clause (λ (c : Numbered). ltb c.number here.number) pages c.partition_point-first.result c.partition_point-first.ensures.partitioned parted (λ a r q k. search rules) in
    parted_before pages _ c.partition_point-first.result here c.in_ok-number.ensures.lookup.3.0 c.in_ok-number.ensures.lookup.1 c.if-first-gt0.true c.partition_point-first.ensures.bound point

pub returns-then-above-pages-clause-some : goal.returns-then-above-pages-clause-some
returns-then-above-pages-clause-some c =
    let pages = c.args.pages.now in
    let here = c.in_ok-number.field-0.now in
    let parted = IsPartitionedBy-leb (λ (c : Numbered). c.number) pages here.number c.requires in
    let point = IsPartitionPoint-from_clause (λ (c : Numbered). leb c.number here.number) pages c.partition_point-above.result c.partition_point-above.ensures.partitioned parted (λ a r q k. search rules) in
    parted_after pages _ c.partition_point-above.result here c.in_ok-number.ensures.lookup.3.0 c.in_ok-number.ensures.lookup.1 c.if-above-pages.true point

pub returns-else-above-pages-clause-none : goal.returns-else-above-pages-clause-none
returns-else-above-pages-clause-none c = λ _.
    let pages = c.args.pages.now in
    let number = c.in_ok-number.field-0.now.number in
    let low = IsPartitionedBy-ltb (λ (c : Numbered). c.number) pages number c.requires in
    let high = IsPartitionedBy-leb (λ (c : Numbered). c.number) pages number c.requires in
    let first = IsPartitionPoint-from_clause (λ (c : Numbered). ltb c.number number) pages c.partition_point-first.result c.partition_point-first.ensures.partitioned low (λ a r q k. search rules) in
    let following = IsPartitionPoint-from_clause (λ (c : Numbered). leb c.number number) pages c.partition_point-above.result c.partition_point-above.ensures.partitioned high (λ a r q k. search rules) in
    equal_to_one pages c.partition_point-first.result c.partition_point-above.result number (omega arith) (omega arith) first following
