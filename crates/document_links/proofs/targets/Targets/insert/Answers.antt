use Rattle.document_links.proofs.Prelude.{arith, refl}
use Rattle.document_links.proofs.Numbering.{number_inserted}
use Rattle.document_links.proofs.targets.Targets.insert.Goals as goal

pub returns : goal.returns
returns c =
    let old = c.args.self.now in
    number_inserted old _ c.args.text c.in_ok-url.url c.len-number.result (omega (arith, c.len-number.ensures, old.urls.ok.0)) c.requires c.url_of.ensures.base c.url_of.ensures.charset refl c.in_ok-url.ensures.links
    c.in_ok-push.ensures.items c.in_ok-insert.ensures.entries refl c.in_ok-url.ensures.url
