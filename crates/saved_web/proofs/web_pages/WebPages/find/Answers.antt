use Rattle.saved_web.proofs.Prelude.{rules, ◌≡◌, None, sym, ◌∙◌, index_of, urls, no_page}
use Rattle.saved_web.proofs.ChunkPages.{passed_chunk}
use Rattle.saved_web.proofs.ChunkPlaces.{passed_index}
use Rattle.saved_web.proofs.web_pages.WebPages.find.Goals as goal

pub loop-chunk-preserved : goal.loop-chunk-preserved
loop-chunk-preserved c =
    let chunk = c.chunk-item.result in
    let url = c.args.url.now in
    let none : None ≡ index_of (urls chunk) url = search rules in
    record {
      same = passed_chunk _ c.loop-chunk.chunk-index chunk url c.loop-chunk-test.true c.chunk-item.is (sym (no_page chunk url none)) ∙ c.loop-chunk.invariant.same;
      at = passed_index _ _ c.loop-chunk.chunk-index c.loop-chunk.before _ chunk c.loop-chunk-test.true c.chunk-item.is (search rules) c.loop-chunk.invariant.at;
    }
