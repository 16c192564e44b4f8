use Rattle.document_links.proofs.Prelude.{◌∙◌, ◌-◌, ℕ, List, ap, length, suffix_len, take}
use Rattle.std.specs.Char.{is_ascii_whitespace}
use Rattle.std.proofs.lemmas.Str.Ascii.{trim_ascii_end_is, trim_ascii_start_is}
use Rattle.document_links.proofs.prescan.bare_label.Goals as goal

pub returns : goal.returns
returns c =
    let start = c.trim_ascii_start.result.now in
    trim_ascii_end_is start c.trim_ascii_end.result.now c.trim_ascii_end.ensures.value
    ∙ ap (λ (text : List ℕ). take (length text - suffix_len is_ascii_whitespace text) text) (trim_ascii_start_is c.args.label.now start c.trim_ascii_start.ensures.value)
