use Rattle.mercator.proofs.Prelude.{common_steps, ◌≡◌, ℕ, ◌+◌, ◌<◌, Option, Result, List, [], ◌++◌, length, take, get_or, Vec, Global, append-nil, arith, Appends-nil, take_all, take_more, Appends, joined, EndsByText, CommandError}
use Rattle.crawl_report.proofs.Printed.{joined_push}
use Rattle.mercator.proofs.commands.writing.end_by_chunks.Goals as goal

-- the chunks before this one, and this one
joined_more : (chunks : List (Vec ℕ Global)) (k : ℕ) (d chunk : Vec ℕ Global) (text : List ℕ) → k < length chunks → chunk ≡ get_or chunks k d → text ≡ joined (take k chunks) → text ++ chunk.items ≡ joined (take (k + 1) chunks)
joined_more chunks k d chunk text below at so_far = grind (arith, common_steps, joined_push, take_more)

-- what was written, and then nothing more
ended : (front all : List ℕ) (old mid new : Option (List ℕ)) (result : Result (Unit {0}) CommandError) → front ≡ all → Appends old mid front → EndsByText [] mid new result → EndsByText all old new result
ended front all old mid new result same gained is = grind (arith, append-nil)

pub loop-chunk-init : goal.loop-chunk-init
loop-chunk-init g c = Appends-nil (g.O.Write.contents c.args.out.now)

pub loop-chunk-preserved : goal.loop-chunk-preserved
loop-chunk-preserved g c = grind (arith, common_steps, joined_more)

pub returns : goal.returns
returns g c = grind (arith, ended, take_all)
