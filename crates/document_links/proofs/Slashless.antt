-- Why a link that lacks its slashes is invalid.
use Rattle.document_links.proofs.Prelude.{◌≡◌, ℕ, true, not, List, Option, Some, None, refl, and_parts}
use Rattle.std.proofs.Common.{◌&&◌, false}
use Rattle.url.specs.Parser.{split_scheme}
use Rattle.std.specs.Option.{option_map, option_map_or}
use Rattle.document_links.specs.declared.scheme.InvalidKind.TheVariants.{NotUrl}
use Rattle.document_links.specs.Schemes.{invalid_kind, is_web, kind_by, lacks_slashes, names_host}

-- its kind, if these are its scheme and the text after the colon
kind_in : (parts : Option (List ℕ × List ℕ)) → option_map_or (λ parts. is_web parts.0 && not (names_host parts.1)) parts false ≡ true → option_map_or kind_by (option_map (λ parts. parts.0) parts) (Some NotUrl) ≡ Some NotUrl
kind_in None lacks = refl
kind_in (Some parts) lacks = rw (and_parts (is_web parts.0) (not (names_host parts.1)) lacks).0

pub kind_without_slashes : (text : List ℕ) → lacks_slashes text ≡ true → invalid_kind text ≡ Some NotUrl
kind_without_slashes text lacks = kind_in (split_scheme text) lacks
