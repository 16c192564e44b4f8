use Rattle.crawl_keys.proofs.Prelude.{◌≡◌, ◌∷◌, subst, sym, true, rules, IsAfterDots, is_plain}
use Rattle.crawl_keys.proofs.DotLinks.{after_both}
use Rattle.crawl_keys.proofs.base.Base.from_root.Goals as goal

pub at_root-requires-then-is_plain-2 : goal.at_root-requires-then-is_plain-2
at_root-requires-then-is_plain-2 c =
    let path = c.in-Some.path.now in
    let rest = c.after_dots.result.1.now in
    let more = c.as_str-more.result.now in
    let whole : c.args.text.now ≡ 47 ∷ path = search rules in
    let found : IsAfterDots rest 0 more = subst (IsAfterDots rest 0) (sym c.as_str-more.ensures.value) (rw c.in-Some-found.is at c.in_ok-found.ensures) in
    record {
      path = path;
      ups = c.after_dots.result.0;
      is = whole;
      following = after_both path rest more c.after_dots.result.0 c.after_dots.ensures found;
      plain = subst (λ t. is_plain 47 t ≡ true) c.as_bytes-2.ensures.value (c.is_plain-2.ensures c.if-is_plain-2.true);
    }
