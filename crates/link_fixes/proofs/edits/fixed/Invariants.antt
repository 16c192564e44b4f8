use Rattle.link_fixes.proofs.Prelude.{◌≡◌, ◌≤◌, ◌++◌, drop, length, fixed_from, fixed_text}
use Rattle.link_fixes.proofs.edits.fixed.Given as goal

-- the text so far and what is left of it are the whole
abbrev pub invariant-loop-edit : goal.invariant-loop-edit
invariant-loop-edit l = record {
  within : l.from ≤ length l.text;
  whole : l.new.items ++ fixed_from l.text l.from (drop l.edit-index l.edits) ≡ fixed_text l.text l.edits;
}
