use Rattle.crawl_session.proofs.Prelude.{◌≡◌, Some, None, map, sym, rules, map-append, header_of, next_suffix}
use Rattle.crawl_session.proofs.Logs.{reads_more, back_some, back_none}
use Rattle.crawl_session.proofs.log.read_settings.Goals as goal

pub loop-suffix-preserved : goal.loop-suffix-preserved
loop-suffix-preserved c =
    let items = c.loop-suffix.suffixes.items in
    let more = reads_more c.args.line.now (map (λ s. s.now) items) c.loop-suffix.rest.now c.in-Some.suffix.now c.in-Some.more.now c.loop-suffix.invariant.1 (sym c.in-Some.ensures.cut) in
    (search rules, rw (c.in_ok-push.ensures.items, map-append) more)

pub returns-in-Some-header_of-clause-back : goal.returns-in-Some-header_of-clause-back
returns-in-Some-header_of-clause-back c workers max suffixes limits good is =
    let next : next_suffix c.loop-suffix.rest.now ≡ None = search rules in
    let found : header_of c.loop-suffix.rest.now ≡ Some c.in-Some-header_of.header = search rules in
    back_some c.args.line.now (map (λ s. s.now) c.loop-suffix.suffixes.items) c.loop-suffix.rest.now c.in-Some-header_of.header c.loop-suffix.invariant.1 next found workers max suffixes limits good is

pub returns-clause-back : goal.returns-clause-back
returns-clause-back c workers max suffixes limits good is =
    let next : next_suffix c.loop-suffix.rest.now ≡ None = search rules in
    let found : header_of c.loop-suffix.rest.now ≡ None = search rules in
    back_none c.args.line.now (map (λ s. s.now) c.loop-suffix.suffixes.items) c.loop-suffix.rest.now c.loop-suffix.invariant.1 next found workers max suffixes limits good is
