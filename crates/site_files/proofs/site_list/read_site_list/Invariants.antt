use Rattle.std.specs.Prelude.{◌≡◌, ◌+◌, ◌≤◌, ◌++◌, length, map, string_bytes}
use Rattle.std.specs.List.{filter_map}
use Rattle.std.specs.Str.Lines.{lines}
use Rattle.site_files.specs.SiteList.{first_error, listed, row_in, row_name}
use Rattle.site_files.proofs.site_list.read_site_list.Given as goal

abbrev pub invariant-loop-line : goal.invariant-loop-line
invariant-loop-line l = record {
  few : l.number + length l.rest ≤ length l.bytes;
  urls : l.urls.items ++ map listed (filter_map row_in (lines l.rest)) ≡ map listed (filter_map row_in (lines l.bytes));
  names : map string_bytes l.names.items ++ map row_name (filter_map row_in (lines l.rest)) ≡ map row_name (filter_map row_in (lines l.bytes));
  sound : first_error (l.number + 1) (lines l.rest) ≡ first_error 1 (lines l.bytes);
}

abbrev pub decreases-loop-line : goal.decreases-loop-line
decreases-loop-line l = length l.rest
