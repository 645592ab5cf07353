-- What each rule of a handheld keeps: for one gate, and then for the whole handheld.
use Rattle.std.proofs.Common.{◌≡◌, ℕ, ◌+◌, ◌<◌, ◌≤◌, Bool, true, false, cond, ◌&&◌, ◌||◌, T, eqb, ltb, ◌⊎◌, List, ◌∷◌, length, get_or, replicate, is_some, Some, None, Option, sym, refl, subst, inl, inr, ⊎_elim, arith, eqb→eq, ltb→lt, lt→ltb, leb→le, nltb→le, get_or-set_same}
use lib.Dec.{not_T}
use lib.ListN.{length-replicate}
use Rattle.frame.specs.declared.message.Node.TheVariants.{Hand}
use Rattle.frame.specs.declared.message.Nonce.{Nonce}
use Rattle.frame.specs.declared.message.Pair.{Pair}
use Rattle.frame.specs.declared.message.Direction.TheVariants.{Up, Down}
use Rattle.frame.specs.declared.message.Message.{Message}
use Rattle.frame.specs.declared.message.Message.TheVariants.{Begin, Reply, Take, Taken, Renew, Load, All}
use Rattle.protocol.specs.declared.held.Endpoint.{Endpoint}
use Rattle.protocol.specs.declared.held.GatePeer.{GatePeer}
use Rattle.protocol.specs.Held.{nonce_of, pair_of, is_this, with_offered, with_send, with_floor, with_round, installed, new_gate_peer, with_gate_end, with_group_floor, HandState}
use Rattle.protocol.specs.declared.acts.HandAct.{HandAct}
use Rattle.protocol.specs.declared.acts.HandAct.TheVariants.{SendUp, ForgetHand}
use Rattle.protocol.specs.Rules.{Out, quiet, within, accepts, past, is_news, learns, hand_begin, hand_take, hand_renew, hand_load, hand_all, hand_send, gate_peer, hand_at, hand_hears, hand_forgets, hand_acts}
use Rattle.protocol.specs.World.{Entry, logged}
use Rattle.protocol.specs.Promise.{Each}
use Rattle.promise.proofs.Base.{and_l, and_r, and_i, or_e, or_l, or_r, cond_case, eqb←, this→, In, in_more, in_logged, each_map, Any, any_this, put, replicate_at}
use Rattle.promise.proofs.Ends.{Before, UpTo, before_upto, Bounds, moves_on, moves_new, moves_none, end_hears_lem, end_sends_lem, SpentAtHand, GatePeerMoves, gate_peer_stays, HandMoves, hand_same, Gave, GatePeerOK, OfferAtHand, KeyAtHand, hand_key_more, gate_peer_more, HandOK, with_gate_peer, gate_peer_lift}

-- a frame to all that was delivered, (n, c), is before what is accepted now; with no pair in use, before what any
-- take for the pair on offer brings
abbrev pub GoneBy : List Entry → (key offered : Option Pair) → (group floor n c : ℕ) → Type 0
GoneBy es None o a l n c = Any (λ p. (m k : ℕ) → In (Take m k p) es → Before n c m k) o
GoneBy es (Some q) o a l n c = Before n c a l

abbrev pub Gone : List Entry → GatePeer → ℕ → ℕ → Type 0
Gone es x n c = GoneBy es x.end.key x.end.offered x.group x.floor n c

-- the pair is not newer than the one in use, and as new only if it is the same
abbrev pub NotNewer : GatePeer → Pair → Type 0
NotNewer x p = Any (λ (q : Pair). (p.snonce.index ≤ q.snonce.index) × (p.snonce.index ≡ q.snonce.index → p ≡ q)) x.end.key

-- a message that handheld s says as y becomes z
abbrev pub HandSays : ℕ → List Entry → HandState → HandState → Message → Type 0
HandSays s es y z (Begin h t a) = ⊥
HandSays s es y z (Reply p) = (p.hand ≡ s) × (p.snonce ≡ nonce_of 1 s y.draws) × (y.draws < z.draws)
HandSays s es y z (Take n c p) = ⊥
HandSays s es y z (Taken p) = (p.hand ≡ s) × Gave p es × SpentAtHand z.draws (gate_peer p.gate z) p × NotNewer (gate_peer p.gate z) p
HandSays s es y z (Renew r n c p) = ⊥
HandSays s es y z (Load Up c b p) =
    (p.hand ≡ s) × ((gate_peer p.gate y).end.key ≡ Some p) × (c ≡ (gate_peer p.gate y).end.send) × SpentAtHand z.draws (gate_peer p.gate z) p ×
    (c < (gate_peer p.gate z).end.send)
HandSays s es y z (Load Down c b p) = ⊥
HandSays s es y z (All h n c b) = ⊥

-- a message that it delivers
abbrev pub HandDelivers : ℕ → List Entry → HandState → HandState → Message → Type 0
HandDelivers s es y z (Begin h t a) = ⊥
HandDelivers s es y z (Reply p) = ⊥
HandDelivers s es y z (Take n c p) = ⊥
HandDelivers s es y z (Taken p) = ⊥
HandDelivers s es y z (Renew r n c p) = ⊥
HandDelivers s es y z (Load Up c b p) = ⊥
HandDelivers s es y z (Load Down c b p) =
    (p.hand ≡ s) × ((gate_peer p.gate y).end.key ≡ Some p) × ((gate_peer p.gate y).end.floor ≤ c) × SpentAtHand z.draws (gate_peer p.gate z) p
    × (c < (gate_peer p.gate z).end.floor) × In (Load Down c b p) es
HandDelivers s es y z (All g n c b) =
    T (is_some (gate_peer g y).end.key) × (n ≡ (gate_peer g y).group) × ((gate_peer g y).floor ≤ c) × Gone es (gate_peer g z) n c × In (All g n c b) es

pub record HandStep (s : ℕ) (es : List Entry) (y : HandState) (o : Out HandState) : Type 0 where
  pub moves : HandMoves y o.held
  pub ok : HandOK s (logged (Hand s) o.says es) o.held
  pub gone : (g n c : ℕ) → Gone es (gate_peer g y) n c → Gone es (gate_peer g o.held) n c
  pub ahead : (g m k : ℕ) → Bounds es g m k → UpTo (gate_peer g y).group (gate_peer g y).floor m k → UpTo (gate_peer g o.held).group (gate_peer g o.held).floor m k
  pub newest : (g : ℕ) (p : Pair) → SpentAtHand y.draws (gate_peer g y) p → NotNewer (gate_peer g y) p → NotNewer (gate_peer g o.held) p
  pub says : Each (HandSays s es y o.held) o.says
  pub delivers : Each (HandDelivers s es y o.held) o.delivers
  pub short : (length o.says ≤ 1) × (length o.delivers ≤ 1)

-- ---- word of a group key

-- what is learnt is not before what was there, nor before what came
learns_by : (a l n c : ℕ) (t : Bool) → (T t → T (ltb a n || (ltb 0 n && eqb a n && ltb l c))) → (T (ltb a n || (ltb 0 n && eqb a n && ltb l c)) → T t) →
    UpTo a l (cond t n a) (cond t c l) × (1 ≤ n → UpTo n c (cond t n a) (cond t c l))
learns_by a l n c true f h =
    let d : (a < n) ⊎ ((a ≡ n) × (l < c)) =
    ⊎_elim (λ t. inl (ltb→lt a n t))
    (λ t. inr (eqb→eq a n (and_r (ltb 0 n) (eqb a n) (and_l (ltb 0 n && eqb a n) (ltb l c) t)), ltb→lt l c (and_r (ltb 0 n && eqb a n) (ltb l c) t)))
    (or_e (ltb a n) (ltb 0 n && eqb a n && ltb l c) (f tt)) in
    ((omega arith, λ e. omega arith), λ _. (omega arith, λ e. omega arith))
learns_by a l n c false f h =
    let d : n ≤ a = nltb→le a n (not_T (ltb a n) (λ t. h (or_l (ltb a n) (ltb 0 n && eqb a n && ltb l c) t))) in (
      (omega arith, λ e. omega arith),
      λ one. (
        omega arith,
        λ e. nltb→le l c (not_T (ltb l c) (λ t. h (or_r (ltb a n) (ltb 0 n && eqb a n && ltb l c)
            (and_i (ltb 0 n && eqb a n) (ltb l c) (and_i (ltb 0 n) (eqb a n) (lt→ltb 0 n (omega arith)) (eqb← a n (sym e))) t)))),
      ),
    )

pub learns_up : (n c : ℕ) (x : GatePeer) →
    UpTo x.group x.floor (learns n c x).group (learns n c x).floor × (1 ≤ n → UpTo n c (learns n c x).group (learns n c x).floor)
learns_up n c x = learns_by x.group x.floor n c (is_news n c x) (λ t. t) (λ t. t)

learns_keeps : (n c : ℕ) (x : GatePeer) (m k : ℕ) → UpTo n c m k → UpTo x.group x.floor m k → UpTo (learns n c x).group (learns n c x).floor m k
learns_keeps n c x m k a h = go (is_news n c x)
  where
    go : (t : Bool) → UpTo (cond t n x.group) (cond t c x.floor) m k
    go true = a
    go false = h

-- no take is there yet for a pair whose nonce this handheld is still to draw
abbrev pub Late : ℕ → List Entry → ℕ → Type 0
Late s es d = (n c : ℕ) (p : Pair) → In (Take n c p) es → p.hand ≡ s → p.snonce.index < d

-- ---- for one gate: x becomes z; d nonces were drawn, then f

abbrev pub GatePeerSays : (g s d f : ℕ) → List Entry → GatePeer → GatePeer → Message → Type 0
GatePeerSays g s d f es x z (Begin h t a) = ⊥
GatePeerSays g s d f es x z (Reply p) = (p.hand ≡ s) × (p.snonce ≡ nonce_of 1 s d) × (d < f)
GatePeerSays g s d f es x z (Take n c p) = ⊥
GatePeerSays g s d f es x z (Taken p) = (p.gate ≡ g) × (p.hand ≡ s) × Gave p es × SpentAtHand f z p × NotNewer z p
GatePeerSays g s d f es x z (Renew r n c p) = ⊥
GatePeerSays g s d f es x z (Load Up k b p) = (p.gate ≡ g) × (p.hand ≡ s) × (x.end.key ≡ Some p) × (k ≡ x.end.send) × SpentAtHand f z p × (k < z.end.send)
GatePeerSays g s d f es x z (Load Down k b p) = ⊥
GatePeerSays g s d f es x z (All h n c b) = ⊥

abbrev pub GatePeerDelivers : (g s f : ℕ) → List Entry → GatePeer → GatePeer → Message → Type 0
GatePeerDelivers g s f es x z (Begin h t a) = ⊥
GatePeerDelivers g s f es x z (Reply p) = ⊥
GatePeerDelivers g s f es x z (Take n c p) = ⊥
GatePeerDelivers g s f es x z (Taken p) = ⊥
GatePeerDelivers g s f es x z (Renew r n c p) = ⊥
GatePeerDelivers g s f es x z (Load Up k b p) = ⊥
GatePeerDelivers g s f es x z (Load Down k b p) =
    (p.gate ≡ g) × (p.hand ≡ s) × (x.end.key ≡ Some p) × (x.end.floor ≤ k) × SpentAtHand f z p × (k < z.end.floor) × In (Load Down k b p) es
GatePeerDelivers g s f es x z (All h n c b) = (h ≡ g) × T (is_some x.end.key) × (n ≡ x.group) × (x.floor ≤ c) × Gone es z n c × In (All h n c b) es

pub record GatePeerStep (g s d f : ℕ) (es : List Entry) (x : GatePeer) (o : Out GatePeer) : Type 0 where
  pub moves : GatePeerMoves d f x o.held
  pub ok : GatePeerOK g s f (logged (Hand s) o.says es) o.held
  pub gone : (n c : ℕ) → Gone es x n c → Gone es o.held n c
  pub ahead : (m k : ℕ) → Bounds es g m k → UpTo x.group x.floor m k → UpTo o.held.group o.held.floor m k
  pub newest : (p : Pair) → SpentAtHand d x p → NotNewer x p → NotNewer o.held p
  pub says : Each (GatePeerSays g s d f es x o.held) o.says
  pub delivers : Each (GatePeerDelivers g s f es x o.held) o.delivers
  pub short : (length o.says ≤ 1) × (length o.delivers ≤ 1)

gate_peer_quiet : (g s d : ℕ) (es : List Entry) (x : GatePeer) → GatePeerOK g s d es x → GatePeerStep g s d d es x (quiet x)
gate_peer_quiet g s d es x ok = record {
  moves = gate_peer_stays d d x (omega arith);
  ok = ok;
  gone = λ n c h. h;
  ahead = λ m k bd h. h;
  newest = λ p u h. h;
  says = tt;
  delivers = tt;
  short =
      (omega arith, omega arith);
}

begin_step : (s g : ℕ) (a : Nonce) (d : ℕ) (es : List Entry) (x : GatePeer) → GatePeerOK g s d es x → Late s es d →
    GatePeerStep g s d (d + 1) es x (hand_begin (pair_of g s a (nonce_of 1 s d)) x)
begin_step s g a d es x ok late =
    let p : Pair = pair_of g s a (nonce_of 1 s d) in
    let z : GatePeer = with_gate_end (with_offered (Some p) x.end) x in
    let m : Message = Reply p in
    let sp : (q : Pair) → SpentAtHand d x q → SpentAtHand (d + 1) z q = λ q h. (omega arith, h.0) in
    record {
      moves = moves_on (SpentAtHand d x) (SpentAtHand (d + 1) z) x.end z.end refl (omega arith) (omega arith) (omega arith) sp;
      ok = record {
        offered = (refl, refl, omega arith);
        key = hand_key_more g s d (d + 1) es (record { node = Hand s; message = m } ∷ es) x z x.end.key (in_more (Hand s) m es) sp ok.key;
      };
      gone = go x.end.key;
      ahead = λ m k bd h. h;
      newest = λ q u h. h;
      says = ((refl, refl, omega arith), tt);
      delivers = tt;
      short = (omega arith, omega arith);
    }
  where
    go : (k : Option Pair) (n c : ℕ) → GoneBy es k x.end.offered x.group x.floor n c →
        GoneBy es k (Some (pair_of g s a (nonce_of 1 s d))) x.group x.floor n c
    go None n c h = λ i j t. let b = late i j (pair_of g s a (nonce_of 1 s d)) t refl in absurd (omega arith)
    go (Some q) n c h = h

module _ (p : Pair) (d : ℕ) (es : List Entry) (x : GatePeer) (ok : GatePeerOK p.gate p.hand d es x) where
  abbrev Step : Out GatePeer → Type 0
  Step o = GatePeerStep p.gate p.hand d d es x o

  idle : Step (quiet x)
  idle = gate_peer_quiet p.gate p.hand d es x ok

  taken_gone : (k : Option Pair) (n c : ℕ) (o : Option Pair) (a l : ℕ) → o ≡ Some p → In (Take n c p) es → (b j : ℕ) → UpTo a l b j → UpTo n c b j →
      (i h : ℕ) → GoneBy es k o a l i h → Before i h b j
  taken_gone None n c o a l e said b j u v i h q = before_upto i h n c b j (any_this (λ q. (m k : ℕ) → In (Take m k q) es → Before i h m k) o p e q n c said) v
  taken_gone (Some r) n c o a l e said b j u v i h q = before_upto i h a l b j q u

  up_gone : (k o : Option Pair) (a l b j : ℕ) → UpTo a l b j → (i h : ℕ) → GoneBy es k o a l i h → GoneBy es k o b j i h
  up_gone None o a l b j u i h q = q
  up_gone (Some r) o a l b j u i h q = before_upto i h a l b j q u

  take_step : (n c : ℕ) → In (Take n c p) es → 1 ≤ n → Step (hand_take n c p x)
  take_step n c said one = cond_case Step _ _ _ (λ w.
      let e = this→ p x.end.offered w in
      let y : GatePeer = with_gate_end (installed p) x in
      let z : GatePeer = learns n c y in
      let m : Message = Taken p in
      let o = any_this (OfferAtHand p.gate p.hand d) x.end.offered p e ok.offered in
      let u = learns_up n c y in
      let older : (q : Pair) → SpentAtHand d x q → q.snonce.index < p.snonce.index =
      λ q h. any_this (λ (r : Pair). q.snonce.index < r.snonce.index) x.end.offered p e h.1 in
      record {
        moves = moves_new (SpentAtHand d x) (SpentAtHand d z) x.end z.end p refl (λ h. let l = older p h in omega arith) (λ q h. (h.0, tt));
        ok = record { offered = tt; key = ((o.2, tt), refl, refl, (n, c, in_more (Hand p.hand) m es (Take n c p) said)) };
        gone = taken_gone x.end.key n c x.end.offered x.group x.floor e said z.group z.floor u.0 (u.1 one);
        ahead = λ m k bd h. learns_keeps n c y m k (bd.takes n c p said refl) h;
        newest = λ q h k. let l = older q h in (omega arith, λ i. absurd (omega arith));
        says = ((refl, refl, (n, c, said), (o.2, tt), (omega arith, λ _. refl)), tt);
        delivers = tt;
        short = (omega arith, omega arith);
      })
      (cond_case Step _ _ _ (λ w.
      let e = this→ p x.end.key w in
      let k = any_this (KeyAtHand p.gate p.hand d es x) x.end.key p e ok.key in
      record {
        moves = gate_peer_stays d d x (omega arith);
        ok = gate_peer_more p.gate p.hand d d es (record { node = Hand p.hand; message = Taken p } ∷ es) x (omega arith)
            (in_more (Hand p.hand) (Taken p) es) ok;
        gone = λ i j h. h;
        ahead = λ m k bd h. h;
        newest = λ q u h. h;
        says = (
          (
            refl,
            refl,
            k.3,
            k.0,
            subst (λ (v : Option Pair). Any
                (λ (q : Pair). (p.snonce.index ≤ q.snonce.index) × (p.snonce.index ≡ q.snonce.index → p ≡ q)) v) (sym e) (omega arith, λ _. refl),
          ),
          tt,
        );
        delivers = tt;
        short = (omega arith, omega arith);
      }) idle)

  renew_step : (r n c : ℕ) → In (Renew r n c p) es → Step (hand_renew r n c p x)
  renew_step r n c said = cond_case Step _ _ _ (λ w.
      let le = ltb→lt x.end.round r (and_r (is_this p x.end.key) _ w) in
      let y : GatePeer = with_gate_end (with_round r x.end) x in
      let z : GatePeer = learns n c y in
      record {
        moves = moves_on (SpentAtHand d x) (SpentAtHand d z) x.end z.end refl (omega arith) (omega arith) (omega arith) (λ q h. h);
        ok = record { offered = ok.offered; key = ok.key };
        gone = up_gone x.end.key x.end.offered x.group x.floor z.group z.floor (learns_up n c y).0;
        ahead = λ m k bd h. learns_keeps n c y m k (bd.renews r n c p said refl) h;
        newest = λ q u h. h;
        says = tt;
        delivers = tt;
        short = (omega arith, omega arith);
      }) idle

  hand_load_step : (c b : ℕ) → In (Load Down c b p) es → Step (hand_load c b p x)
  hand_load_step c b said = end_hears_lem (λ o. Step (within (λ (e : Endpoint). with_gate_end e x) o)) Down c b p x.end idle (λ e le.
      let z : GatePeer = with_gate_end (with_floor (past c) x.end) x in
      let k = any_this (KeyAtHand p.gate p.hand d es x) x.end.key p e ok.key in
      record {
        moves = moves_on (SpentAtHand d x) (SpentAtHand d z) x.end z.end refl (omega arith) (omega arith) (omega arith) (λ q h. h);
        ok = record { offered = ok.offered; key = ok.key };
        gone = λ i j h. h;
        ahead = λ m k bd h. h;
        newest = λ q u h. h;
        says = tt;
        delivers = ((refl, refl, e, le, k.0, omega arith, said), tt);
        short = (omega arith, omega arith);
      })

module _ (g s d : ℕ) (es : List Entry) (x : GatePeer) (ok : GatePeerOK g s d es x) where
  floor_gone : (k o : Option Pair) (a l c : ℕ) → l ≤ c → (i h : ℕ) → GoneBy es k o a l i h → GoneBy es k o a (c + 1) i h
  floor_gone None o a l c le i h q = q
  floor_gone (Some r) o a l c le i h q = (q.0, λ e. let b = q.1 e in omega arith)

  here_gone : (k o : Option Pair) (a c n : ℕ) → T (is_some k) → n ≡ a → GoneBy es k o a (c + 1) n c
  here_gone None o a c n t e = elim t [ ]
  here_gone (Some r) o a c n t e = (omega arith, λ _. omega arith)

  all_step : (n c b : ℕ) → In (All g n c b) es → GatePeerStep g s d d es x (hand_all g n c b x)
  all_step n c b said = cond_case (GatePeerStep g s d d es x) _ _ _ (λ w.
      let v = and_l (is_some x.end.key && ltb 0 n && eqb n x.group) (accepts x.floor c) w in
      let t = and_l (is_some x.end.key) (ltb 0 n) (and_l (is_some x.end.key && ltb 0 n) (eqb n x.group) v) in
      let e = eqb→eq n x.group (and_r (is_some x.end.key && ltb 0 n) (eqb n x.group) v) in
      let le = leb→le x.floor c (and_r (is_some x.end.key && ltb 0 n && eqb n x.group) (accepts x.floor c) w) in
      let z : GatePeer = with_group_floor (past c) x in
      record {
        moves = moves_on (SpentAtHand d x) (SpentAtHand d z) x.end z.end refl (omega arith) (omega arith) (omega arith) (λ q h. h);
        ok = record { offered = ok.offered; key = ok.key };
        gone = floor_gone x.end.key x.end.offered x.group x.floor c le;
        ahead = λ m k bd h. (h.0, λ q. let f = (bd.alls n c b said).1 (omega arith) in omega arith);
        newest = λ q u h. h;
        says = tt;
        delivers = ((refl, t, e, le, here_gone x.end.key x.end.offered x.group c n t e, said), tt);
        short = (omega arith, omega arith);
      })
      (gate_peer_quiet g s d es x ok)

  hand_send_step : (b : ℕ) → GatePeerStep g s d d es x (hand_send b x)
  hand_send_step b = end_sends_lem (λ o. GatePeerStep g s d d es x (within (λ (e : Endpoint). with_gate_end e x) o)) Up b x.end (gate_peer_quiet g s d es x ok) (λ p e.
      let z : GatePeer = with_gate_end (with_send (x.end.send + 1) x.end) x in
      let m : Message = Load Up x.end.send b p in
      let k = any_this (KeyAtHand g s d es x) x.end.key p e ok.key in
      let o = gate_peer_more g s d d es (record { node = Hand s; message = m } ∷ es) x (omega arith) (in_more (Hand s) m es) ok in
      record {
        moves = moves_on (SpentAtHand d x) (SpentAtHand d z) x.end z.end refl (omega arith) (omega arith) (omega arith) (λ q h. h);
        ok = record { offered = o.offered; key = o.key };
        gone = λ i j h. h;
        ahead = λ m k bd h. h;
        newest = λ q u h. h;
        says = ((k.1, k.2, e, refl, k.0, omega arith), tt);
        delivers = tt;
        short = (omega arith, omega arith);
      })

-- ---- the whole handheld

module _ (s : ℕ) (es : List Entry) (y : HandState) (ok : HandOK s es y) where
  pub hand_quiet : HandStep s es y (quiet y)
  hand_quiet = record {
    moves = hand_same y;
    ok = ok;
    gone = λ g n c h. h;
    ahead = λ g m k bd h. h;
    newest = λ g p u h. h;
    says = tt;
    delivers = tt;
    short = (omega arith, omega arith);
  }

  hand_at_lem : (g f : ℕ) (rule : GatePeer → Out GatePeer) → y.draws ≤ f → GatePeerStep g s y.draws f es (gate_peer g y) (rule (gate_peer g y)) →
      HandStep s es y (hand_at f g rule y)
  hand_at_lem g f rule le st = cond_case (HandStep s es y) _ _ _ (λ u.
      let z : HandState = with_gate_peer f g o.held y in
      let l = gate_peer_lift g s f es (logged (Hand s) o.says es) y o.held le (in_logged (Hand s) o.says es) ok st.moves st.ok in
      let here : gate_peer g z ≡ o.held = get_or-set_same y.peers g o.held new_gate_peer (ltb→lt g (length y.peers) u) in
      record {
        moves = l.0;
        ok = l.1;
        gone = put (λ j v. (n c : ℕ) → Gone es (gate_peer j y) n c → Gone es v n c) y.peers g o.held new_gate_peer st.gone (λ j n c k. k);
        ahead = put (λ j v. (m k : ℕ) → Bounds es j m k → UpTo (gate_peer j y).group (gate_peer j y).floor m k → UpTo v.group v.floor m k) y.peers g
            o.held new_gate_peer st.ahead (λ j m k bd h. h);
        newest = put (λ j v. (p : Pair) → SpentAtHand y.draws (gate_peer j y) p → NotNewer (gate_peer j y) p → NotNewer v p) y.peers g o.held new_gate_peer
            st.newest (λ j p u h. h);
        says = each_map (GatePeerSays g s y.draws f es (gate_peer g y) o.held) (HandSays s es y z) (said z here) o.says st.says;
        delivers = each_map (GatePeerDelivers g s f es (gate_peer g y) o.held) (HandDelivers s es y z) (delivered z here) o.delivers st.delivers;
        short = st.short;
      }) hand_quiet
    where
      o : Out GatePeer
      o = rule (gate_peer g y)

      to_old : (i : ℕ) (P : GatePeer → Type 0) → i ≡ g → P (gate_peer g y) → P (gate_peer i y)
      to_old i P e h = subst (λ j. P (gate_peer j y)) (sym e) h

      to_new : (z : HandState) → gate_peer g z ≡ o.held → (i : ℕ) (P : GatePeer → Type 0) → i ≡ g → P o.held → P (gate_peer i z)
      to_new z here i P e h = subst (λ j. P (gate_peer j z)) (sym e) (subst P (sym here) h)

      said : (z : HandState) → gate_peer g z ≡ o.held → (m : Message) → GatePeerSays g s y.draws z.draws es (gate_peer g y) o.held m → HandSays s es y z m
      said z here (Begin h t a) k = k
      said z here (Reply p) k = k
      said z here (Take n c p) k = k
      said z here (Taken p) k = (
        k.1,
        k.2,
        to_new z here p.gate (λ v. SpentAtHand z.draws v p) k.0 k.3,
        to_new z here p.gate (λ v. NotNewer v p) k.0 k.4,
      )
      said z here (Renew r n c p) k = k
      said z here (Load Up i b p) k = (
        k.1,
        to_old p.gate (λ v. v.end.key ≡ Some p) k.0 k.2,
        to_old p.gate (λ v. i ≡ v.end.send) k.0 k.3,
        to_new z here p.gate (λ v. SpentAtHand z.draws v p) k.0 k.4,
        to_new z here p.gate (λ v. i < v.end.send) k.0 k.5,
      )
      said z here (Load Down i b p) k = k
      said z here (All h n c b) k = k

      delivered : (z : HandState) → gate_peer g z ≡ o.held → (m : Message) → GatePeerDelivers g s z.draws es (gate_peer g y) o.held m → HandDelivers s es y z m
      delivered z here (Begin h t a) k = k
      delivered z here (Reply p) k = k
      delivered z here (Take n c p) k = k
      delivered z here (Taken p) k = k
      delivered z here (Renew r n c p) k = k
      delivered z here (Load Up i b p) k = k
      delivered z here (Load Down i b p) k = (
        k.1,
        to_old p.gate (λ v. v.end.key ≡ Some p) k.0 k.2,
        to_old p.gate (λ v. v.end.floor ≤ i) k.0 k.3,
        to_new z here p.gate (λ v. SpentAtHand z.draws v p) k.0 k.4,
        to_new z here p.gate (λ v. i < v.end.floor) k.0 k.5,
        k.6,
      )
      delivered z here (All h n c b) k = (
        to_old h (λ v. T (is_some v.end.key)) k.0 k.1,
        to_old h (λ v. n ≡ v.group) k.0 k.2,
        to_old h (λ v. v.floor ≤ c) k.0 k.3,
        to_new z here h (λ v. Gone es v n c) k.0 k.4,
        k.5,
      )

  hand_forget_step : HandStep s es y (hand_forgets y)
  hand_forget_step =
      let d = y.draws in
      let e : (g : ℕ) → new_gate_peer ≡ get_or (replicate (length y.peers) new_gate_peer) g new_gate_peer = λ g. sym (replicate_at (length y.peers) g new_gate_peer) in
      record {
        moves = record {
          draws = omega arith;
          peers = λ g. subst (λ v. GatePeerMoves d d (gate_peer g y) v) (e g)
              (moves_none (SpentAtHand d (gate_peer g y)) (SpentAtHand d new_gate_peer) (gate_peer g y).end new_gate_peer.end refl (λ p h. (h.0, tt)));
          size = length-replicate (length y.peers) new_gate_peer;
        };
        ok = λ g. subst (λ v. GatePeerOK g s d es v) (e g) (record { offered = tt; key = tt });
        gone = λ g n c h. subst (λ v. Gone es v n c) (e g) tt;
        ahead = λ g m k bd h. subst (λ (v : GatePeer). UpTo v.group v.floor m k) (e g) (omega arith, λ _. omega arith);
        newest = λ g p u h. subst (λ v. NotNewer v p) (e g) tt;
        says = tt;
        delivers = tt;
        short = (omega arith, omega arith);
      }

  pub hand_acts_lem : (a : HandAct) → HandStep s es y (hand_acts a y)
  hand_acts_lem (SendUp g b) = hand_at_lem g y.draws (hand_send b) (omega arith) (hand_send_step g s y.draws es (gate_peer g y) (ok g) b)
  hand_acts_lem ForgetHand = hand_forget_step

  pub hand_hears_begin : (g h : ℕ) (a : Nonce) → Late s es y.draws → HandStep s es y (hand_hears s (Begin g h a) y)
  hand_hears_begin g h a late = cond_case (HandStep s es y) _ _ _
      (λ _. hand_at_lem g (y.draws + 1) (hand_begin (pair_of g s a (nonce_of 1 s y.draws))) (omega arith) (begin_step s g a y.draws es (gate_peer g y) (ok g) late))
      hand_quiet

  pub hand_hears_all : (g n c b : ℕ) → In (All g n c b) es → HandStep s es y (hand_hears s (All g n c b) y)
  hand_hears_all g n c b said = hand_at_lem g y.draws (hand_all g n c b) (omega arith) (all_step g s y.draws es (gate_peer g y) (ok g) n c b said)

module _ (p : Pair) (es : List Entry) (y : HandState) (ok : HandOK p.hand es y) where
  pub hand_hears_take : (n c : ℕ) → In (Take n c p) es → 1 ≤ n → HandStep p.hand es y (hand_hears p.hand (Take n c p) y)
  hand_hears_take n c said one = hand_at_lem p.hand es y ok p.gate y.draws (hand_take n c p) (omega arith)
      (take_step p y.draws es (gate_peer p.gate y) (ok p.gate) n c said one)

  pub hand_hears_renew : (r n c : ℕ) → In (Renew r n c p) es → HandStep p.hand es y (hand_hears p.hand (Renew r n c p) y)
  hand_hears_renew r n c said = hand_at_lem p.hand es y ok p.gate y.draws (hand_renew r n c p) (omega arith)
      (renew_step p y.draws es (gate_peer p.gate y) (ok p.gate) r n c said)

  pub hand_hears_load : (c b : ℕ) → In (Load Down c b p) es → HandStep p.hand es y (hand_hears p.hand (Load Down c b p) y)
  hand_hears_load c b said = hand_at_lem p.hand es y ok p.gate y.draws (hand_load c b p) (omega arith)
      (hand_load_step p y.draws es (gate_peer p.gate y) (ok p.gate) c b said)
