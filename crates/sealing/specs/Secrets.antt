-- What an end works its keys out of.
use Rattle.std.specs.Prelude.{◌≡◌, ℕ, ◌+◌, ◌*◌, Bool, List, ◌++◌, length, take, drop, codes, nat_le}
use Rattle.octets.specs.Low.{low_first}

-- a hash function: so many bytes of an input
abbrev pub Hash : Type 0
Hash = List ℕ → ℕ → List ℕ

-- the secret that an end shares with each peer, the secret of its own, and its entropy
pub record Secrets : Type 0 where
  pub hash : Hash
  pub sized : (x : List ℕ) (n : ℕ) → length (hash x n) ≡ n
  pub shared : (peer : ℕ) → List ℕ
  pub own : List ℕ
  pub entropy : List ℕ

-- so many bytes of the hash of a label, a key and what is behind them
unfoldable pub digest : Hash → (label key bytes : List ℕ) → ℕ → List ℕ
digest H label key bytes n = H (label ++ (key ++ bytes)) n

-- the pairwise key with a peer, of both nonces in bytes, the gate's first
unfoldable pub pairwise_key : Secrets → (peer : ℕ) → (a b : List ℕ) → List ℕ
pairwise_key v peer a b = digest v.hash (codes "pair") (v.shared peer) (a ++ b) 32

-- a gate's n-th group key
unfoldable pub group_key : Secrets → (n : ℕ) → List ℕ
group_key v n = digest v.hash (codes "all") v.own (low_first 8 n) 32

-- ---- nonces

-- the n-th nonce's entropy is 21 bytes of its own
abbrev pub has_entropy : Secrets → (n : ℕ) → Bool
has_entropy v n = nat_le (21 * n + 21) (length v.entropy)

abbrev pub entropy_at : Secrets → (n : ℕ) → List ℕ
entropy_at v n = take 21 (drop (21 * n) v.entropy)

-- a nonce in 32 bytes: its three numbers, then its entropy
unfoldable pub nonce_bytes : (kind node index : ℕ) → (entropy : List ℕ) → List ℕ
nonce_bytes k n i e = low_first 1 k ++ (low_first 2 n ++ (low_first 8 i ++ e))
