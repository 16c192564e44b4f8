-- What a row of a link that leads out of the site is not.
use Rattle.site_check.proofs.Prelude.{◌≡◌, ℕ, true, List, [], Option, ap, refl, sym, is_leaving}
use Rattle.std.proofs.Common.{true≢false}
use Rattle.check_report.specs.declared.value.Kind.{Kind}
use Rattle.check_report.specs.declared.value.Kind.TheVariants.{NoPage, NoAnchor, NotUrl, UnknownScheme, LocalFile, Leaves, OutsideBase, NotInMap}
use Rattle.site_check.specs.Broken.{Row}
use Rattle.site_check.specs.Hints.{hints_with}
use Rattle.site_check.specs.Ignored.{if_anchor}
use Rattle.site_check.specs.Invalid.{if_invalid}
use Rattle.site_check.specs.Names.{name_for}
use Rattle.site_check.specs.RowMeanings.{if_page}

pub no_page : (kind : Kind) (row : Row) → is_leaving kind ≡ true → if_page kind row ≡ []
no_page NoPage row is = absurd (true≢false (sym is))
no_page NoAnchor row is = refl
no_page NotUrl row is = refl
no_page UnknownScheme row is = refl
no_page LocalFile row is = refl
no_page Leaves row is = refl
no_page OutsideBase row is = refl
no_page NotInMap row is = refl

pub no_anchor : (kind : Kind) (row : Row) → is_leaving kind ≡ true → if_anchor kind row ≡ []
no_anchor NoPage row is = refl
no_anchor NoAnchor row is = absurd (true≢false (sym is))
no_anchor NotUrl row is = refl
no_anchor UnknownScheme row is = refl
no_anchor LocalFile row is = refl
no_anchor Leaves row is = refl
no_anchor OutsideBase row is = refl
no_anchor NotInMap row is = refl

pub no_text : (kind : Kind) (text : List ℕ) → is_leaving kind ≡ true → if_invalid kind text ≡ []
no_text NoPage text is = refl
no_text NoAnchor text is = refl
no_text NotUrl text is = absurd (true≢false (sym is))
no_text UnknownScheme text is = absurd (true≢false (sym is))
no_text LocalFile text is = absurd (true≢false (sym is))
no_text Leaves text is = refl
no_text OutsideBase text is = refl
no_text NotInMap text is = refl

pub no_hint : (kind : Kind) (hint : Option (List ℕ)) → is_leaving kind ≡ true → hints_with kind hint ≡ []
no_hint NoPage hint is = absurd (true≢false (sym is))
no_hint NoAnchor hint is = absurd (true≢false (sym is))
no_hint NotUrl hint is = absurd (true≢false (sym is))
no_hint UnknownScheme hint is = absurd (true≢false (sym is))
no_hint LocalFile hint is = absurd (true≢false (sym is))
no_hint Leaves hint is = refl
no_hint OutsideBase hint is = refl
no_hint NotInMap hint is = refl

-- the name of such a row is not that of a missing page
pub own_name : (kind : Kind) (name reported : Option (List ℕ)) → is_leaving kind ≡ true → name_for (is_leaving kind) kind name reported ≡ reported
own_name kind name reported is = ap (λ leaves. name_for leaves kind name reported) is
