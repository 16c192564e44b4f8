use Rattle.crawl_keys.proofs.Prelude.{◌≡◌, true, subst, sym, ◌∙◌, is_plain}
use Rattle.crawl_keys.proofs.DotLinks.{in_folder_ups}
use Rattle.crawl_keys.proofs.base.Base.of_folder.Goals as goal

pub in_folder-requires : goal.in_folder-requires
in_folder-requires c =
    let plain = subst (λ t. is_plain 47 t ≡ true) c.as_bytes.ensures.value (c.is_plain.ensures c.if-is_plain.true) in
    in_folder_ups c.args.text.now _ _ c.after_ups-ups.ensures plain (sym c.has_no_scheme.ensures ∙ c.if-has_no_scheme.true)
