use Rattle.document_links.proofs.Prelude.{◌≡◌, ◌∙◌, ◌++◌, [], ap, arith, rules, subst, sym, below_after, kept, path_below}
use Rattle.std.specs.Prelude.{OnOk}
use Rattle.document_links.proofs.Rooting.{deeper, ended, fewer, stepped}
use Rattle.document_links.proofs.root.push_below.Goals as goal

pub returns-then-not-begins_path : goal.returns-then-not-begins_path
returns-then-not-begins_path c =
    let segment = c.split_segment.result.0.now in
    let following = c.split_segment.result.1.now in
    let pushed : c.push_kept.new.out.items ≡ c.segments.out.items ++ kept c.segments.depth segment [] = c.in_ok-push_kept.ensures in
    let all : c.push_kept.new.out.items ++ following ≡ c.args.out.now.items ++ path_below c.args.path.now =
    ap (λ l. l ++ following) pushed
    ∙ ended c.segments.depth c.segments.rest.now segment following c.segments.out.items c.split_segment.ensures.segment c.split_segment.ensures.following (sym c.if-not-begins_path.ensures)
    ∙ c.segments.invariant.below in
    subst (λ l. OnOk c.extend_from_slice.result (c.extend_from_slice.new.self.items ≡ l)) all (search rules)

pub segments-preserved : goal.segments-preserved
segments-preserved c =
    let segment = c.split_segment.result.0.now in
    let following = c.split_segment.result.1.now in
    let slash = c.split_at.result.0.now in
    let more = c.split_at.result.1.now in
    let pushed : c.push_kept-in-segments.new.out.items ≡ c.segments.out.items ++ kept c.segments.depth segment slash = c.in_ok-push_kept-2.ensures in
    record {
      depth = omega (arith, deeper c.segments.depth segment, fewer c.segments.rest.now following more c.split_segment.ensures.following (sym c.if-not-begins_path.ensures) c.split_at.ensures.back);
      below =
          (λ i. pushed i ++ below_after (c.depth_after-depth.ensures i) [] more)
          ∙ stepped c.segments.depth c.segments.rest.now segment following slash more c.segments.out.items c.split_segment.ensures.segment c.split_segment.ensures.following (sym c.if-not-begins_path.ensures) c.split_at.ensures.front c.split_at.ensures.back
          ∙ c.segments.invariant.below;
    }
