-- What a link seems to lack: one to a missing page a scheme, or the colon of one, and an invalid one its slashes.
use Rattle.std.specs.Prelude.{ℕ, ◌==◌, Bool, false, not, ◌&&◌, ◌||◌, List, [], ◌∷◌, codes, length, nat_eq, nat_le, nat_lt, string_bytes, if◌then◌else◌, Option, None, Some, option_map}
use Rattle.std.specs.List.{after_first, before_first, list_all, list_any, position_or_len, starts_with}
use Rattle.std.specs.Str.{str_eq_ignore_ascii_case}
use Rattle.check_report.specs.declared.value.Broken.{Broken}
use Rattle.check_report.specs.declared.value.Kind.{Kind}
use Rattle.check_report.specs.declared.value.Kind.TheVariants.{NoPage, NoAnchor, NotUrl, UnknownScheme, LocalFile, Leaves, OutsideBase, NotInMap}
use Rattle.check_report.specs.declared.value.Place.{Place}

-- ---- mail addresses

-- an ASCII letter
abbrev pub is_letter : ℕ → Bool
is_letter b = nat_le 65 b && nat_le b 90 || nat_le 97 b && nat_le b 122

-- an ASCII letter or digit, or one of + - . _
abbrev pub is_mail_byte : ℕ → Bool
is_mail_byte b = is_letter b || nat_le 48 b && nat_le b 57 || b == 43 || b == 45 || b == 46 || b == 95

abbrev pub is_mail_text : List ℕ → Bool
is_mail_text text = list_all is_mail_byte text

abbrev pub begins_with_letter : List ℕ → Bool
begins_with_letter [] = false
begins_with_letter (b ∷ bs) = is_letter b

abbrev pub has_dot : List ℕ → Bool
has_dot text = list_any (λ b. b == 46) text

-- a name, and a host that begins with a letter and has a dot: so `logo@2x.png` is no mail address
abbrev pub are_mail : List ℕ → List ℕ → Bool
are_mail name host = nat_lt 0 (length name) && is_mail_text name && begins_with_letter host && has_dot host && is_mail_text host

abbrev pub is_at : ℕ → Bool
is_at b = b == 64

-- the text before the first `@` and the text after it are the name and the host
abbrev pub is_mail_address : List ℕ → Bool
is_mail_address link = nat_lt (position_or_len is_at link) (length link) && are_mail (before_first is_at link) (after_first is_at link)

-- ---- slashes

abbrev pub is_colon : ℕ → Bool
is_colon b = b == 58

-- `http` or `https`, in any case
abbrev pub is_web : List ℕ → Bool
is_web scheme = str_eq_ignore_ascii_case scheme (codes "http") || str_eq_ignore_ascii_case scheme (codes "https")

-- a slash of either kind
abbrev pub is_slash : ℕ → Bool
is_slash b = b == 47 || b == 92

-- two slashes, after which a host comes
abbrev pub names_host : List ℕ → Bool
names_host (a ∷ b ∷ text) = is_slash a && is_slash b
names_host _ = false

-- the text before the first `:` is `http` or `https`, and no two slashes come after it
abbrev pub lacks_slashes : List ℕ → Bool
lacks_slashes link = nat_lt (position_or_len is_colon link) (length link) && is_web (before_first is_colon link) && not (names_host (after_first is_colon link))

-- ---- notes

abbrev pub lacks_colon : List ℕ → Bool
lacks_colon link = starts_with nat_eq link (codes "http//") || starts_with nat_eq link (codes "https//")

-- the note about a link that may lack its slashes, or an empty text
abbrev pub slashes_note : List ℕ → List ℕ
slashes_note link = if lacks_slashes link then codes "are slashes missing?" else []

-- likewise about a link to a missing page
abbrev pub link_note : List ℕ → List ℕ
link_note link =
    if lacks_colon link then codes "is a colon missing?"
    else (if starts_with nat_eq link (codes "www.") then codes "is https:// missing?" else (if is_mail_address link then codes "is mailto: missing?" else slashes_note link))

-- links to missing anchors, and those with an unknown or a local scheme, have none
abbrev pub kind_note : Kind → List ℕ → List ℕ
kind_note NoPage link = link_note link
kind_note NoAnchor link = []
kind_note NotUrl link = slashes_note link
kind_note UnknownScheme link = []
kind_note LocalFile link = []
kind_note Leaves link = slashes_note link
kind_note OutsideBase link = slashes_note link
kind_note NotInMap link = slashes_note link

-- a link as it is written: the target, unless they differ
abbrev pub link_or : List ℕ → Option (List ℕ) → List ℕ
link_or target None = target
link_or target (Some link) = link

-- the note about the link at a location
abbrev pub scheme_note : Broken → Place → List ℕ
scheme_note b p = kind_note b.kind (link_or (string_bytes b.target) (option_map string_bytes p.written))
