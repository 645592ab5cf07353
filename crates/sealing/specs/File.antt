-- What a file of secrets holds.
use Rattle.std.specs.Prelude.{ℕ, ◌+◌, ◌*◌, cond, List, take, drop, replicate, vec_items, nat_lt}
use Rattle.sponge.specs.Sponge.{shake256}
use Rattle.sealing.specs.Secrets.{Secrets}
use Rattle.sealing.specs.Sized.{length-shake256}
use Rattle.sealing.specs.declared.file.FileVault.{FileVault}

-- from the byte `first` on, 32 bytes for each peer, and then entropy; noughts for a peer that there is not
abbrev pub file_secrets : (own : List ℕ) → (first peers : ℕ) → List ℕ → Secrets
file_secrets own first peers x =
    record {
      hash = shake256;
      sized = length-shake256;
      shared = λ peer. cond (nat_lt peer peers) (take 32 (drop (first + 32 * peer) x)) (replicate 32 0);
      own = own;
      entropy = drop (first + 32 * peers) x;
    }

-- a gate's: its own secret, then those of each handheld
abbrev pub gate_file : (hands : ℕ) → List ℕ → Secrets
gate_file hands x = file_secrets (take 32 x) 32 hands x

-- a handheld's: those of each gate; it has none of its own
abbrev pub hand_file : (gates : ℕ) → List ℕ → Secrets
hand_file gates x = file_secrets (replicate 32 0) 0 gates x

abbrev pub secrets_of : FileVault → Secrets
secrets_of v = file_secrets v.own v.first v.peers (vec_items v.file)
