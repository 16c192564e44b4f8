use Rattle.document_links.proofs.Prelude.{ℕ, ◌+◌, ◌<◌, ◌≤◌, List, Option, None, Some, arith, get_or, length, subst, sym, take, take_all}
use Rattle.std.specs.List.{All}
use Rattle.std.specs.Prelude.{◌^◌, SomeIff, max}
use Rattle.std.proofs.lemmas.List.Elements.{All-more, All-nil, All-weaker}
use Rattle.document_links.specs.Places.{IsAmong}
use Rattle.document_links.proofs.places.needed_count.Goals as goal

more_below : (indices : List ℕ) (i last : ℕ) → i < length indices → All (λ index. index ≤ last) (take i indices) → All (λ index. index ≤ max last (get_or indices i 0)) (take (i + 1) indices)
more_below indices i last within below =
    let P = λ (index : ℕ). index ≤ max last (get_or indices i 0) in
    All-more P indices i 0 within (All-weaker (λ index. index ≤ last) P (λ index h. omega (arith, h)) (take i indices) below) (omega arith)

all_among : (count : Option ℕ) (last : ℕ) (indices : List ℕ) → SomeIff count (last + 1 < 2 ^ 64) (last + 1) → All (λ index. index ≤ last) indices → All (IsAmong count) indices
all_among None last indices counted below = λ k d within. tt
all_among (Some n) last indices counted below = All-weaker (λ index. index ≤ last) (λ index. index < n) (λ index h. omega (arith, h, counted.1)) indices below

pub loop-index-init : goal.loop-index-init
loop-index-init c = All-nil (λ index. index ≤ 0)

pub loop-index-preserved : goal.loop-index-preserved
loop-index-preserved c =
    let i = c.loop-index.index-index in
    let indices = c.args.indices.now in
    subst (λ last. All (λ index. index ≤ last) (take (i + 1) indices)) (sym c.max-last.ensures) (more_below indices i c.loop-index.last c.loop-index-test.true c.loop-index.invariant)

pub returns : goal.returns
returns c =
    let last = c.loop-index.last in
    let indices = c.args.indices.now in
    all_among c.checked_add.result last indices c.checked_add.ensures (subst (All (λ index. index ≤ last)) (take_all c.loop-index.index-index indices (omega arith)) c.loop-index.invariant)
