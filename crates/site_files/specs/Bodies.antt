-- The contents of files.
use Rattle.std.specs.Prelude.{ℕ, nat_le, List, [], Option, Some, None, if◌then◌else◌, length, take, slice_get, Vec}
use Rattle.std.specs.Option.{option_map_or}
use Rattle.std.specs.declared.alloc.Global.{Global}
use Rattle.site_files.specs.declared.notes.Left.{Left}

-- the first bytes of the room, unless it is shorter
abbrev pub in_use : ℕ → List ℕ → List ℕ
in_use used room = if nat_le used (length room) then take used room else []

-- what is read of a file, unless it is skipped for a reason
abbrev pub contents : Option Left → List ℕ → Option (List ℕ)
contents None body = Some body
contents (Some left) body = None

-- what is read of the file with this index among these: nothing is skipped, and a file that is not among them is empty
abbrev pub contents_at : List (Vec ℕ Global) → ℕ → Option (List ℕ)
contents_at bodies index = Some (option_map_or (λ body. body.items) (slice_get bodies index) [])
