use Rattle.site_check.proofs.Prelude.{Vec, Global, ◌∙◌, ◌||◌, IfOk-weaker, list_any, pages_of}
use Rattle.std.specs.Prelude.{String}
use Rattle.site_check.proofs.unreached.unreached_of.Goals as goal
use Rattle.site_check.specs.Unreached.{is_marked, is_page_of, left_among}

-- no file is marked at first
pub returns : goal.returns
returns c =
    let files = c.args.files.now in
    let results = c.args.results.now in
    IfOk-weaker c.unmarked.result _ _
    (λ (all : Vec (String Global) Global) own.
    own
    ∙ (λ i. left_among (λ index. is_marked (c.deref_mut.ensures.value i) index || list_any (is_page_of files index) results) c.args.front.now (pages_of files))
    ∙ (λ i. left_among (λ index. c.in_ok-marks.ensures index i || list_any (is_page_of files index) results) c.args.front.now (pages_of files)))
    c.unmarked.ensures
