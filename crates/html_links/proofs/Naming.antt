-- Names in any case, by their first letter and length.
use Rattle.html_links.proofs.Prelude.{◌≡◌, ℕ, Bool, true, false, cond, List, map, arith, Option, None, bytes_eq, false_from_ne_true, false≢true, length-map, bytes_eq-Decides, lower, may_be, Element, has_rare_names, names_of_attributes, Values, with_attribute, option_or}
use Rattle.std.proofs.Math.Nat.{add-mod_right}
use Rattle.html_links.specs.declared.found.TheConstants.{LENGTHS}

pub lower_may : (lengths name : List ℕ) → may_be lengths (map lower name) ≡ may_be lengths name
lower_may lengths name = grind (arith, length-map, add-mod_right)

pub other_name : (lengths name text : List ℕ) → may_be lengths name ≡ false → may_be lengths text ≡ true → bytes_eq (map lower name) text ≡ false
other_name lengths name text other among = grind (arith, false_from_ne_true, bytes_eq-Decides, false≢true, lower_may)

-- tests that fail

pub otherwise : {A : Type 0} (b : Bool) (x y z : A) → b ≡ false → y ≡ z → cond b x y ≡ z
otherwise b x y z isnt later = grind arith

-- attributes whose names are not among those that are read

pub or_none : (value : Option (List ℕ)) → option_or value None ≡ value
or_none value = grind arith

pub not_read : (v : Values) (e : Element) (name found : List ℕ) (left : ℕ) → has_rare_names e ≡ false → may_be LENGTHS name ≡ false → with_attribute v (names_of_attributes e) (record { name = map lower name; value = found; left = left }) ≡ v
not_read v e name found left common other = grind (arith, other_name, lower_may, or_none)
