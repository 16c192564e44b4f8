-- How a canonical URL is stored: the hash of its text, the position of the host in the text, and the text.
use Rattle.std.specs.Prelude.{◌≡◌, ◌≤◌, length, slice_range, IsAscii}
use Rattle.hash_order.specs.HashOrder.{hash_of}
use Rattle.crawl_keys.specs.declared.canon_url.Laid.{Laid}
use Rattle.crawl_keys.specs.CanonicalText.{IsCanonical}
use Rattle.crawl_keys.specs.HostKey.{host_key}
use Rattle.crawl_keys.specs.Spelled.{IsSpelled}

-- the text is canonical, its host key is between the two positions, and the hash is that of the text
pub record IsLaidOut (u : Laid) : Type 0 where
  pub canonical : IsCanonical u.text
  pub ascii : IsAscii u.text
  pub ordered : u.host_start ≤ u.host_end
  pub inside : u.host_end ≤ length u.text
  pub host : slice_range u.text u.host_start u.host_end ≡ host_key u.text
  pub spelled : IsSpelled u.text u.host_start u.host_end
  pub hashed : u.hash ≡ hash_of u.text
