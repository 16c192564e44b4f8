use Rattle.document_links.proofs.Prelude.{◌≡◌, ◌<◌, [], true, length, get_or, sym, ap, subst, arith, IsUtf8, AllPass-from_list_all, IsUtf8-from_is_utf8, fits}
use Rattle.document_links.proofs.Fitting.{fits_utf8}
use Rattle.document_links.proofs.link_texts.LinkTexts.text.Goals as goal

pub unreachable-requires : goal.unreachable-requires
unreachable-requires c =
    let texts = c.self.inside.texts in
    let text = get_or texts c.args.index [] in
    let within : c.args.index < length texts = omega (arith, ap length c.self.view_is, c.requires) in
    let fit : fits 5 text ≡ true = AllPass-from_list_all (fits 5) texts c.self.invariant c.args.index [] within in
    c.in-Err.ensures (subst IsUtf8 (sym c.id.ensures) (IsUtf8-from_is_utf8 text (fits_utf8 5 text fit)))
