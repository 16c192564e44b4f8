-- The anchors that documents lack, as they are printed.
use Rattle.std.specs.Prelude.{ℕ, List, string_bytes}
use Rattle.site_check.specs.declared.missing_anchors.MissingAnchor.{MissingAnchor}

abbrev pub anchor_text : MissingAnchor → List ℕ
anchor_text part = string_bytes part.text
