use Rattle.site_check.proofs.Prelude.{Vec, Global, ◌∙◌, IfOk-weaker, pages_of}
use Rattle.std.specs.Prelude.{String}
use Rattle.site_check.proofs.unreached.unmarked.Goals as goal
use Rattle.site_check.specs.Unreached.{left_among}

-- what is marked after the results is what they reach
pub returns : goal.returns
returns c =
    IfOk-weaker c.left_pages.result _ _
    (λ (all : Vec (String Global) Global) own. own ∙ (λ i. left_among (λ index. c.mark_results.ensures index i) c.args.front.now (pages_of c.args.files.now))) c.left_pages.ensures
