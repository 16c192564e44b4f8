-- Members of objects and other marks of a JSON text, as the program lists them.
use Rattle.std.specs.Prelude.{ℕ, List, [], ◌∷◌, decimal, if◌then◌else◌, None, Option, Some, option_map, string_bytes}
use Rattle.json.specs.Json.{Members, no_members, member}
use Rattle.json.specs.Token.{Token}
use Rattle.json.specs.Tree.{json_tokens}
use Rattle.check_report.specs.Json.{count_at, count_if_at, text_at, text_if_any_at, text_or_null}
use Rattle.check_report.specs.declared.mark.Mark.{Mark}
use Rattle.check_report.specs.declared.mark.Mark.TheVariants as mark
use Rattle.check_report.specs.declared.member.Member.{Member}
use Rattle.check_report.specs.declared.member.Member.TheVariants as listed

-- a member before others
abbrev pub member_at : Member → Members → Members
member_at (listed.Text name text) rest = text_at name.now text.now rest
member_at (listed.TextOrNull name text) rest = member name.now (text_or_null (option_map string_bytes text.now)) rest
member_at (listed.TextOrNullIf is_there name text) rest = if is_there then member name.now (text_or_null (option_map string_bytes text.now)) rest else rest
member_at (listed.TextIfAny name text) rest = text_if_any_at name.now text.now rest
member_at (listed.Count name count) rest = count_at name.now count rest
member_at (listed.CountIf name count) rest = count_if_at name.now count rest

abbrev pub members_from : List Member → Members
members_from [] = no_members
members_from (m ∷ ms) = member_at m (members_from ms)

-- the tokens of a count, if there is one
abbrev pub count_tokens : List ℕ → Option ℕ → List Token
count_tokens name None = []
count_tokens name (Some count) = Token.key name ∷ Token.number (decimal count) ∷ []

-- the tokens of a text, if it is not empty
abbrev pub text_tokens : List ℕ → List ℕ → List Token
text_tokens name [] = []
text_tokens name (first ∷ text) = Token.key name ∷ Token.string (first ∷ text) ∷ []

-- the tokens of a member
abbrev pub member_tokens : Member → List Token
member_tokens (listed.Text name text) = Token.key name.now ∷ Token.string text.now ∷ []
member_tokens (listed.TextOrNull name text) = Token.key name.now ∷ json_tokens (text_or_null (option_map string_bytes text.now))
member_tokens (listed.TextOrNullIf is_there name text) = if is_there then Token.key name.now ∷ json_tokens (text_or_null (option_map string_bytes text.now)) else []
member_tokens (listed.TextIfAny name text) = text_tokens name.now text.now
member_tokens (listed.Count name count) = Token.key name.now ∷ Token.number (decimal count) ∷ []
member_tokens (listed.CountIf name count) = count_tokens name.now count

-- the tokens of a mark
abbrev pub mark_tokens : Mark → List Token
mark_tokens mark.BeginObject = Token.begin_object ∷ []
mark_tokens mark.EndObject = Token.end_object ∷ []
mark_tokens mark.BeginArray = Token.begin_array ∷ []
mark_tokens mark.EndArray = Token.end_array ∷ []
mark_tokens (mark.Key name) = Token.key name.now ∷ []
mark_tokens (mark.Text name text) = Token.key name.now ∷ Token.string text.now ∷ []
mark_tokens (mark.Count name count) = Token.key name.now ∷ Token.number (decimal count) ∷ []
