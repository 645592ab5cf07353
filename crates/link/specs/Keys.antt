-- What an end holds beside the rules' numbers, and what it makes of a tag.
use Rattle.std.specs.Prelude.{ℕ, Bool, true, false, cond, ◌&&◌, List, [], map, take, Some, None, Option}
use Rattle.frame.specs.declared.message.Pair.{Pair}
use Rattle.frame.specs.declared.message.Message.{Message}
use Rattle.frame.specs.declared.message.Refusal.{Refusal}
use Rattle.frame.specs.Row.{code, message_of}
use Rattle.octets.specs.declared.parts.Cut.{Cut}
use Rattle.octets.specs.Laws.{row_of, with_body}
use Rattle.protocol.specs.declared.held.Endpoint.{Endpoint}
use Rattle.protocol.specs.Held.{is_this}
use Rattle.protocol.specs.Rules.{Out, has_next}
use Rattle.sealing.specs.Secrets.{Hash, Secrets, has_entropy}
use Rattle.sealing.specs.Seal.{Sealed, noughts, same_bytes, tag_of, opened_body, opened_key, octets_sealed}
use Rattle.sealing.specs.declared.keys.PairKeys.{PairKeys}
use Rattle.link.specs.declared.keys.TagKey.{TagKey}
use Rattle.link.specs.declared.keys.TagKey.TheVariants.{Missing, Mismatch, Key}

abbrev pub no_pair_keys : PairKeys
no_pair_keys = record { nonces = record { anonce = noughts 32; snonce = noughts 32 }; key = noughts 32 }

-- a nonce is drawn while there is one, and entropy for it
abbrev pub can_draw : Secrets → (draws : ℕ) → Bool
can_draw v n = has_next n && has_entropy v n

-- ---- what comes of bytes heard, or of an act

-- A: what the rules hold; K: what is held beside it
pub record Reception (A K : Type 0) : Type 0 where
  pub refusal : Option Refusal
  pub held : A
  pub keys : K
  pub says : List Sealed
  pub delivers : List Message

abbrev pub refused : {A K : Type 0} → Refusal → A → K → Reception A K
refused r y ks = record { refusal = Some r; held = y; keys = ks; says = []; delivers = [] }

abbrev pub nothing : {A K : Type 0} → A → K → Reception A K
nothing y ks = record { refusal = None; held = y; keys = ks; says = []; delivers = [] }

-- what the rules say comes of it, with the keys held afterwards, and how what is said is sealed
abbrev pub received : {A K : Type 0} → Option Refusal → Out A → K → (Message → Sealed) → Reception A K
received r o ks seal = record { refusal = r; held = o.held; keys = ks; says = map seal o.says; delivers = o.delivers }

-- the same with what is said in bytes, as a caller has it
pub record Answer (A K : Type 0) : Type 0 where
  pub refusal : Option Refusal
  pub held : A
  pub keys : K
  pub says : List (List ℕ)
  pub delivers : List Message

abbrev pub answer_of : {A K : Type 0} → Hash → Reception A K → Answer A K
answer_of H r = record { refusal = r.refusal; held = r.held; keys = r.keys; says = map (octets_sealed H) r.says; delivers = r.delivers }

-- ---- the key of a tag

-- the key held for a pair, if both nonces are those held, to the last byte
abbrev pub matching : (a b : List ℕ) → PairKeys → TagKey
matching a b k = cond (same_bytes a k.nonces.anonce && same_bytes b k.nonces.snonce) (Key k.key) Mismatch

-- of the pair offered, or else of the pair in use
abbrev pub held_key : Pair → (a b : List ℕ) → Endpoint → (offered installed : PairKeys) → TagKey
held_key p a b e o k = cond (is_this p e.offered) (matching a b o) (cond (is_this p e.key) (matching a b k) Missing)

-- ---- what is heard of bytes that are cut: the message with its body as far as it is opened, and whether its tag is right

pub record Heard : Type 0 where
  pub row : List ℕ
  pub genuine : Bool

-- until its tag is found right a body counts as 0
abbrev pub unopened : (genuine : Bool) → Cut → Heard
unopened t c = record { row = row_of c; genuine = t }

abbrev pub tag_right : Hash → (key bytes : List ℕ) → Cut → Bool
tag_right H k x c = same_bytes (tag_of H k (take c.tagged x)) c.tag

abbrev pub opened_with : Hash → (key : List ℕ) → Cut → Message
opened_with H k c = with_body (opened_body H k (message_of (row_of c)) c.body) (message_of (row_of c))

-- the group key in a take or a renew
abbrev pub group_with : Hash → (key : List ℕ) → Cut → List ℕ
group_with H k c = opened_key H k (message_of (row_of c)) c.key

-- who has not the key counts the tag as right
abbrev pub heard_by : Hash → (bytes : List ℕ) → Cut → TagKey → Heard
heard_by H x c Missing = unopened true c
heard_by H x c Mismatch = unopened false c
heard_by H x c (Key k) = cond (tag_right H k x c) (record { row = code (opened_with H k c); genuine = true }) (unopened false c)
