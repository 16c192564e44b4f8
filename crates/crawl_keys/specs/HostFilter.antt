-- Which URLs a host filter allows, and which filter is made from a list of suffixes. A filter is represented by its suffixes.
use Rattle.std.specs.Prelude.{ℕ, Bool, true, false, not, ◌&&◌, ◌||◌, ◌==◌, nat_eq, nat_le, nat_lt, length, List, [], ◌∷◌, ◌++◌, bytes_eq, codes, fold, position, Option, Some, None, Result, Ok, Err}
use Rattle.std.specs.BTreeSet.{insert_key}
use Rattle.std.specs.Cmp.Lexicographic.{slice_cmp}
use Rattle.std.specs.List.{ends_with, list_all, list_any}
use Rattle.std.specs.Ordering.{nat_cmp}
use Rattle.crawl_keys.specs.declared.filter.error.FilterError.{FilterError}
use Rattle.crawl_keys.specs.declared.filter.error.FilterError.TheVariants.{BadSuffix, NoMemory}
use Rattle.crawl_keys.specs.HostKey.{host_key}

-- a dot
abbrev pub is_dot : ℕ → Bool
is_dot b = b == 46

-- there is no suffix
abbrev pub is_none : List (List ℕ) → Bool
is_none [] = true
is_none (suffix ∷ more) = false

-- the host is the suffix, or ends with a dot and the suffix
abbrev pub is_within : List ℕ → List ℕ → Bool
is_within host suffix = bytes_eq host suffix || ends_with nat_eq host (codes "." ++ suffix)

-- whether a filter with these suffixes allows the URL with this canonical text: without a suffix it allows every URL, and otherwise
-- those whose host key is within one of the suffixes
abbrev pub allows : List (List ℕ) → List ℕ → Bool
allows [] url = true
allows (suffix ∷ more) url = list_any (is_within (host_key url)) (suffix ∷ more)

-- `a` to `z`, `0` to `9`, `-` or `.`
abbrev pub is_suffix_byte : ℕ → Bool
is_suffix_byte b = nat_le 97 b && nat_le b 122 || nat_le 48 b && nat_le b 57 || b == 45 || b == 46

-- a suffix is good if it is not empty and has only such bytes
abbrev pub is_good : List ℕ → Bool
is_good suffix = nat_lt 0 (length suffix) && list_all is_suffix_byte suffix

-- the suffixes, each once, in the order of their bytes
abbrev pub in_order : List (List ℕ) → List (List ℕ)
in_order suffixes = fold (insert_key (slice_cmp nat_cmp)) [] suffixes

-- a filter, unless there is an index of a bad suffix
abbrev pub unless_bad : Option ℕ → List (List ℕ) → Result (List (List ℕ)) FilterError
unless_bad (Some place) filter = Err (BadSuffix place)
unless_bad None filter = Ok filter

-- the filter with these suffixes; if one is bad, the index of the first such one, from 0
abbrev pub filter_of : List (List ℕ) → Result (List (List ℕ)) FilterError
filter_of suffixes = unless_bad (position (λ suffix. not (is_good suffix)) suffixes) (in_order suffixes)

-- what an error prints
abbrev pub filter_message : FilterError → List ℕ
filter_message (BadSuffix _) = codes "bad suffix"
filter_message NoMemory = codes "out of memory"
