-- The subqueue to which a host key is assigned.
use Rattle.std.specs.Prelude.{ℕ, ◌+◌, ◌*◌, ◌%◌, ◌^◌, List, [], ◌∷◌, length}
use Rattle.crawl_keys.specs.HostKey.{host_key}

-- the sum of the bytes, each multiplied by 31 to the power of the number of bytes after it
abbrev pub weighted_sum : List ℕ → ℕ
weighted_sum [] = 0
weighted_sum (b ∷ bytes) = b * 31 ^ length bytes + weighted_sum bytes

-- the hash of a key, 32 bits
unfoldable pub hash : List ℕ → ℕ
hash key = weighted_sum key % 2 ^ 32

-- the subqueue, of n, to which a key is assigned
abbrev pub assign : List ℕ → ℕ → ℕ
assign key n = hash key % n

-- the subqueue, of n, to which a canonical text belongs: that of its host key
abbrev pub subqueue_of : List ℕ → ℕ → ℕ
subqueue_of text n = assign (host_key text) n
