use Rattle.crawl_certificate.proofs.Prelude.{◌≡◌, ◌+◌, ◌<◌, Bool, false, ◌||◌, ◌&&◌, [], ◌∷◌, ◌++◌, length, take, set, get_or, sym, ap, ◌∙◌, arith, take_more, take_all, length-take-le, url_of, in_one}
use Rattle.crawl_certificate.proofs.LeastUrls.{entry_more, entries_all}
use Rattle.crawl_certificate.proofs.Places.{mark_of}
use Rattle.crawl_certificate.proofs.Together.{in_one_push, in_one_beyond}
use Rattle.crawl_certificate.proofs.threads.add_marks.Goals as goal

pub loop-index-preserved : goal.loop-index-preserved
loop-index-preserved c =
    let old = c.args.marks.now in
    let more = c.args.more.now in
    let all = c.args.entries.now in
    let i = c.loop-index.index in
    let x = c.index-entries-index.result in
    let so_far = take i more in
    let within : i < length more = omega (arith, c.loop-index-test.true, c.requires.more) in
    let long : length so_far ≡ i = length-take-le i more (omega (arith, within)) in
    let below : length so_far < length old = omega (arith, long, c.loop-index-test.true, c.requires.marks) in
    let one : Bool = get_or more i false in
    let next : so_far ++ one ∷ [] ≡ take (i + 1) more = sym (take_more more i false within) in
    let kept = c.loop-index.invariant in
    record {
      marks =
          (λ k. set (kept.marks k) (sym long k) (get_or (kept.marks k) (sym long k) false || one))
          ∙ sym (in_one_push old so_far one false below) ∙ ap (in_one old) next;
      both = λ own its is more_is.
          let mark : get_or c.loop-index.marks i false ≡ own x.now =
          ap (λ ms. get_or ms i false) kept.marks ∙ in_one_beyond old so_far i false (omega (arith, long))
          ∙ mark_of own all old i x false is c.loop-index-test.true c.index-entries-index.is in
          let more_mark = mark_of its all more i x false more_is c.loop-index-test.true c.index-entries-index.is in
          entry_more (λ e. own e && its e) all i x (get_or c.loop-index.marks i false && one) (url_of c.loop-index.both) (url_of c.culprit_if-one.result) (url_of c.lesser-both.result)
          c.loop-index-test.true c.index-entries-index.is (λ k. mark k && more_mark k) c.culprit_if-one.ensures c.lesser-both.ensures (kept.both own its is more_is);
    }

pub returns : goal.returns
returns c =
    let whole = take_all c.loop-index.index c.args.more.now (omega (arith, c.loop-index-test.false, c.requires.more)) in
    record {
      marks = c.loop-index.invariant.marks ∙ ap (in_one c.args.marks.now) whole;
      both = λ own its is more_is. entries_all (λ e. own e && its e) c.args.entries.now c.loop-index.index (url_of c.loop-index.both) c.loop-index-test.false (c.loop-index.invariant.both own its is more_is);
    }
