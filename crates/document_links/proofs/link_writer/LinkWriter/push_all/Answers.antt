use Rattle.document_links.proofs.Prelude.{◌≡◌, ◌∙◌, ap, arith, clean, rules, subst, sym, take}
use Rattle.document_links.proofs.Pushing.{more_written}
use Rattle.document_links.specs.Written.{AreTexts, has_no_base, keeps_query}
use Rattle.document_links.proofs.link_writer.LinkWriter.push_all.Goals as goal

pub loop-index-preserved : goal.loop-index-preserved
loop-index-preserved c =
    let before = c.loop-index.invariant in
    let own = c.match-self.self in
    let links : own.links ≡ c.loop-index.self.links = search rules in
    let base : own.base ≡ c.loop-index.self.base = search rules in
    let charset : own.charset ≡ c.loop-index.self.charset = search rules in
    let all = c.args.raw.now.texts in
    let text = c.text.result.now in
    record {
      base = c.push.ensures.base ∙ base ∙ before.base;
      charset = c.push.ensures.charset ∙ charset ∙ before.charset;
      written = λ no_base.
          more_written c.args.self.now.charset c.args.self.now.links own.links c.push.new.self.links all c.loop-index.index text (omega arith) c.text.ensures
          (subst (AreTexts c.args.self.now.charset c.args.self.now.links (take c.loop-index.index all)) (sym links) (before.written no_base)) c.in_ok-push.ensures.one
          (λ room query. c.in_ok-push.ensures.written (ap has_no_base (base ∙ before.base) ∙ no_base) room (ap (λ x. keeps_query x (clean text)) (charset ∙ before.charset) ∙ query));
    }
