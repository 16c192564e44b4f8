use Rattle.html_links.proofs.Prelude.{◌∙◌, ap, map, sym, arith}
use Rattle.html_links.specs.Styled.{url_found}
use Rattle.html_links.specs.Styles.{founds_of, left_of, url_of}
use Rattle.html_links.proofs.Styling.{next_found, none_found, found_less, pass_less}
use Rattle.html_links.proofs.style.next_url.Goals as goal

pub returns-in_default-clause-texts : goal.returns-in_default-clause-texts
returns-in_default-clause-texts c = ap (map url_of) (c.places.invariant.0 ∙ ap (founds_of c.places.imports) c.in_default.ensures)

pub returns-in_default-clause-lefts : goal.returns-in_default-clause-lefts
returns-in_default-clause-lefts c = ap (map left_of) (c.places.invariant.0 ∙ ap (founds_of c.places.imports) c.in_default.ensures)

pub returns-in-Some-found_at-clause-texts : goal.returns-in-Some-found_at-clause-texts
returns-in-Some-found_at-clause-texts c =
    ap (map url_of) (c.places.invariant.0 ∙ next_found c.places.imports c.places.rest.now _ _ (url_found c.in-Some-found_at.url) c.in-Some.ensures c.in-Some-found_at.ensures)

pub returns-in-Some-found_at-clause-lefts : goal.returns-in-Some-found_at-clause-lefts
returns-in-Some-found_at-clause-lefts c =
    ap (map left_of) (c.places.invariant.0 ∙ next_found c.places.imports c.places.rest.now _ _ (url_found c.in-Some-found_at.url) c.in-Some.ensures c.in-Some-found_at.ensures)

pub returns-in-Some-found_at-clause-leaves : goal.returns-in-Some-found_at-clause-leaves
returns-in-Some-found_at-clause-leaves c =
    omega (arith, found_less c.places.imports c.places.rest.now (url_found c.in-Some-found_at.url) (sym c.in-Some-found_at.ensures), c.places.invariant.1)

pub places-preserved : goal.places-preserved
places-preserved c = (
  c.places.invariant.0 ∙ none_found c.places.imports _ c.places.rest.now _ _ _ c.in-Some.ensures c.in-None.ensures c.pass-more.ensures,
  omega (arith, pass_less c.places.imports _ c.places.rest.now _ _ _ c.in-Some.ensures c.pass-more.ensures, c.places.invariant.1),
)

pub places-smaller : goal.places-smaller
places-smaller c = pass_less c.places.imports _ c.places.rest.now _ _ _ c.in-Some.ensures c.pass-more.ensures
