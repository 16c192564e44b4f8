-- Why a link is invalid, by its scheme: one without a canonical URL, or one that lacks its slashes.
use Rattle.std.specs.Prelude.{ℕ, ◌==◌, Bool, false, not, ◌&&◌, ◌||◌, List, drop, length, codes, Option, Some, None, if◌then◌else◌}
use Rattle.std.specs.List.{list_any, slice_split}
use Rattle.std.specs.Option.{option_map, option_map_or}
use Rattle.std.specs.Str.{str_eq_ignore_ascii_case}
use Rattle.url.specs.Parser.{split_scheme}
use Rattle.document_links.specs.Rooted.{begins_path}
use Rattle.document_links.specs.declared.scheme.InvalidKind.{InvalidKind}
use Rattle.document_links.specs.declared.scheme.InvalidKind.TheVariants.{NotUrl, UnknownScheme, LocalFile}
use Rattle.document_links.specs.declared.scheme.TheConstants.{KNOWN_SCHEMES}

-- the scheme that the URL Standard's parser reads: an ASCII letter and then letters, digits, `+`, `-` and `.`, if a colon comes next
abbrev pub scheme_of : List ℕ → Option (List ℕ)
scheme_of text = option_map (λ parts. parts.0) (split_scheme text)

-- schemes in any case

abbrev pub is_web : List ℕ → Bool
is_web scheme = str_eq_ignore_ascii_case scheme (codes "http") || str_eq_ignore_ascii_case scheme (codes "https")

-- two slashes of either kind, after which a host comes
abbrev pub names_host : List ℕ → Bool
names_host text = begins_path text && begins_path (drop 1 text)

-- The scheme is `http` or `https` without two slashes after it, as in `http:/x`. Such a text has a URL, but it depends on the scheme of
-- the page whether a host comes next. So it is invalid too.
abbrev pub lacks_slashes : List ℕ → Bool
lacks_slashes text = option_map_or (λ parts. is_web parts.0 && not (names_host parts.1)) (split_scheme text) false

-- `file`, or a single letter, which is that of a drive
abbrev pub is_local : List ℕ → Bool
is_local scheme = length scheme == 1 || str_eq_ignore_ascii_case scheme (codes "file")

-- a name is in a text, in which spaces separate names
abbrev pub is_among : List ℕ → List ℕ → Bool
is_among name names = list_any (str_eq_ignore_ascii_case name) (slice_split (λ b. b == 32) names)

abbrev pub is_known : List ℕ → Bool
is_known scheme = is_among scheme KNOWN_SCHEMES.now

abbrev pub kind_by : List ℕ → Option InvalidKind
kind_by scheme = if is_web scheme then Some NotUrl else (if is_local scheme then Some LocalFile else (if is_known scheme then None else Some UnknownScheme))

-- why a link with this text is invalid, if it has no canonical URL or lacks its slashes; none if its scheme is another known one
abbrev pub invalid_kind : List ℕ → Option InvalidKind
invalid_kind text = option_map_or kind_by (scheme_of text) (Some NotUrl)
