-- Edits of a text.
use Rattle.std.specs.Prelude.{ℕ, ◌-◌, ◌&&◌, Bool, nat_le, List, [], ◌∷◌, ◌++◌, drop, take, length, if◌then◌else◌}
use Rattle.link_fixes.specs.declared.edits.Edit.{Edit}

-- the edit is within a text of this length, and begins at or after a position
abbrev pub is_within : ℕ → ℕ → Edit → Bool
is_within size from edit = nat_le from edit.start && nat_le edit.start edit.end && nat_le edit.end size

-- the text from a position on, after the edits that are made there
abbrev pub fixed_from : List ℕ → ℕ → List Edit → List ℕ
fixed_from text from [] = drop from text
fixed_from text from (edit ∷ edits) =
    if is_within (length text) from edit
    then take (edit.start - from) (drop from text) ++ edit.text.items ++ fixed_from text edit.end edits
    else fixed_from text from edits

-- the text after these edits
abbrev pub fixed_text : List ℕ → List Edit → List ℕ
fixed_text text edits = fixed_from text 0 edits
