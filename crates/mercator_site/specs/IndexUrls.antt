-- URLs of index files, which are no URLs of folders.
use Rattle.std.specs.Prelude.{ℕ, ◌==◌, ◌-◌, Bool, false, not, ◌&&◌, if◌then◌else◌, List, length, take, codes, String, string_bytes}
use Rattle.std.specs.List.{list_any}
use Rattle.std.specs.declared.alloc.Global.{Global}
use Rattle.mercator_site.specs.Maps.{ends}

abbrev pub is_hash : ℕ → Bool
is_hash b = b == 35

-- a name is the last one on a path if a slash is before it that is not one of the two before a host
abbrev pub is_path_before : List ℕ → Bool
is_path_before front = ends (codes "/") front && not (ends (codes "://") front)

abbrev pub ends_path : List ℕ → List ℕ → Bool
ends_path name url = if ends name url then is_path_before (take (length url - length name) url) else false

abbrev pub ends_with_one : List (String Global) → List ℕ → Bool
ends_with_one names url = list_any (λ name. ends_path (string_bytes name) url) names

-- a BASE without a fragment, and without a slash at its end, is the URL of a page if the last name on its path is one of these
abbrev pub is_index_url : List ℕ → List (String Global) → Bool
is_index_url base names = not (ends (codes "/") base) && (not (list_any is_hash base) && ends_with_one names base)
