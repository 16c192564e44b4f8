-- The values of those attributes of a tag that are read, one attribute after another.
use Rattle.html_links.proofs.Prelude.{◌≡◌, ◌∙◌, ◌==◌, sym, ap, refl, ℕ, suc, length, false, List, [], ◌∷◌, ◌++◌, reverse, Option, None, Some, MatchOption, IfSome, arith, codes, reverse_onto, Bor, Other, Attribute, run, BeforeName, tag_of, front, following, Stopped, AttributeNames, names_of_attributes, Values, values_of, first_named, or_named, with_attribute, values_in, tag_with, no_values}
use Rattle.html_links.specs.Values.{left_named, or_left}
use Rattle.html_links.proofs.Jumps.{before, read_class, read_double}

-- some attributes were read, and these are their values
pub record Reading (bytes rest : List ℕ) (w : AttributeNames) (v : Values) : Type 0 where
  pub all : List Attribute
  pub reads : run BeforeName all rest ≡ run BeforeName [] bytes
  pub values : v ≡ values_of w (reverse all) false

-- one more attribute at the end

named_last : (name : List ℕ) (all : List Attribute) (a : Attribute) → first_named name (all ++ a ∷ []) ≡ or_named (first_named name all) name a
named_last name [] a = refl
named_last name (x ∷ rest) a = grind (arith, named_last name rest a)

left_last : (name : List ℕ) (all : List Attribute) (a : Attribute) → left_named name (all ++ a ∷ []) ≡ or_left (first_named name all) (left_named name all) name a
left_last name [] a = refl
left_last name (x ∷ rest) a = grind (arith, left_last name rest a)

pub one_more : (bytes rest more : List ℕ) (w : AttributeNames) (v new : Values) (a : Attribute) → Reading bytes rest w v →
    ((all : List Attribute) → run BeforeName all rest ≡ run BeforeName (a ∷ all) more) → new ≡ with_attribute v w a → Reading bytes more w new
one_more bytes rest more w v new a so_far reads with_it = grind (arith, reverse_onto, named_last, left_last)

-- a tag with only a `class`
pub plain_class : (r : Option (Bor (List ℕ))) (bytes quoted value rest : List ℕ) → bytes ≡ codes " class=" ++ 34 ∷ quoted →
    (value ≡ front (before 34) quoted) × (34 ∷ rest ≡ following (before 34) quoted) → MatchOption r (Stopped (λ c. c == 62) rest) (λ more. rest ≡ 62 ∷ more.now) →
    IfSome r (λ last. Some (tag_with no_values last.now) ≡ values_in (names_of_attributes Other) (tag_of bytes))
plain_class None bytes quoted value rest is cut ends = tt
plain_class (Some last) bytes quoted value rest is cut ends =
    sym (ap (values_in (names_of_attributes Other)) (read_class bytes quoted is [] ∙ read_double (codes "class") (34 ∷ quoted) 34 quoted value rest refl refl cut (suc (suc (length quoted))) [] ∙ ap (run BeforeName _) ends))
