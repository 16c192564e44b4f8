-- The tokens of an object whose members the program lists.
use Rattle.check_report.proofs.Prelude.{◌≡◌, ℕ, List, None, Some, [], ◌∷◌, ◌++◌, ap, append_assoc, false, flat_map, refl, true, ◌∙◌}
use Rattle.json.specs.Json.{Members, object}
use Rattle.json.specs.Token.{begin_object, end_object}
use Rattle.json.specs.Tree.{json_tokens, members_tokens}
use Rattle.check_report.specs.Json.{text_if_any_at}
use Rattle.check_report.specs.Objects.{member_at, member_tokens, members_from, text_tokens}
use Rattle.check_report.specs.declared.member.Member.{Member}
use Rattle.check_report.specs.declared.member.Member.TheVariants as listed

text_first : (name text : List ℕ) (rest : Members) → text_tokens name text ++ members_tokens rest ≡ members_tokens (text_if_any_at name text rest)
text_first name [] rest = refl
text_first name (first ∷ text) rest = refl

-- a member comes before the others
member_first : (m : Member) (rest : Members) → member_tokens m ++ members_tokens rest ≡ members_tokens (member_at m rest)
member_first (listed.Text name text) rest = refl
member_first (listed.TextOrNull name text) rest = refl
member_first (listed.TextOrNullIf true name text) rest = refl
member_first (listed.TextOrNullIf false name text) rest = refl
member_first (listed.TextIfAny name text) rest = text_first name.now text.now rest
member_first (listed.Count name count) rest = refl
member_first (listed.CountIf name None) rest = refl
member_first (listed.CountIf name (Some count)) rest = refl

members_written : (ms : List Member) → flat_map member_tokens ms ++ end_object ∷ [] ≡ members_tokens (members_from ms)
members_written [] = refl
members_written (m ∷ ms) =
    append_assoc (member_tokens m) (flat_map member_tokens ms) (end_object ∷ []) ∙ ap (λ ts. member_tokens m ++ ts) (members_written ms) ∙ member_first m (members_from ms)

-- what the program writes is the object
pub object_written : (ms : List Member) → begin_object ∷ [] ++ flat_map member_tokens ms ++ end_object ∷ [] ≡ json_tokens (object (members_from ms))
object_written ms = ap (λ ts. begin_object ∷ ts) (members_written ms)
