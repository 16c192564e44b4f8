use Rattle.saved_site.proofs.Prelude.{rules, ◌≡◌, [], get_or, Some, None, sym, subst, Contains, index_of}
use Rattle.saved_site.proofs.LinkIndices.{texts, contains_at}
use Rattle.saved_site.proofs.linked.known_texts.KnownTexts.find.Goals as goal

pub returns-in-Some : goal.returns-in-Some
returns-in-Some c =
    let known = c.args.self.now in
    let found : Some c.in-Some.at ≡ index_of (texts known) c.args.key.now = search rules in
    let index : c.index_at.result ≡ (get_or known c.in-Some.at ([], None)).1 = rw (c.deref.ensures.value, c.self.view_is) at c.index_at.ensures in
    subst (λ one. Contains known (c.args.key.now, one)) (sym index) (contains_at known c.args.key.now c.in-Some.at ([], None) found)
