-- One call of one end, as a step of the world.
use Rattle.std.proofs.Common.{◌≡◌, ℕ, ◌<◌, List, [], ◌∷◌, ◌++◌, map, reverse, length, get_or, set, None, Ok, Err, Option, Result, sym, ap, ◌∙◌}
use Rattle.std.specs.Result.{result_unwrap_or}
use Rattle.std.proofs.lemmas.List.{map-set, get_or-map, map_push, reverse-append, length-map, length-reverse}
use Rattle.frame.specs.declared.message.Node.TheVariants.{Gate, Hand}
use Rattle.frame.specs.declared.message.Refusal.{Refusal}
use Rattle.protocol.specs.Held.{HandState, GateState}
use Rattle.protocol.specs.Rules.{Out}
use Rattle.protocol.specs.World.{Entry, logged, gate, hand, put_gate, put_hand}
use Rattle.endpoint.specs.declared.effect.Effect.{Effect}
use Rattle.endpoint.specs.Effects.{listed, out_of, HearsRow}
use Rattle.gateway.specs.declared.gateway.Gateway.{Gateway}
use Rattle.gateway.specs.State.{state_of as gate_state}
use Rattle.handset.specs.declared.handset.Handset.{Handset}
use Rattle.handset.specs.State.{state_of as hand_state}
use Rattle.simulator.specs.declared.log.Line.{Line}
use Rattle.simulator.specs.Model.{entry_of, world_by}

-- ---- what is put down

pub entries_push : (xs : List Line) (l : Line) → reverse (map entry_of (xs ++ l ∷ [])) ≡ entry_of l ∷ reverse (map entry_of xs)
entries_push xs l = ap (λ (v : List Entry). reverse v) (map_push entry_of xs l) ∙ reverse-append (map entry_of xs) (entry_of l ∷ [])

pub entries_length : (xs : List Line) → length (reverse (map entry_of xs)) ≡ length xs
entries_length xs = length-reverse (map entry_of xs) ∙ length-map xs entry_of

-- ---- what comes of a row: of a refused one nothing

pub heard : {A : Type 0} (v : Option Refusal) (o : Out A) (a : Result Effect Refusal) (x : A) → HearsRow v o a x → out_of (result_unwrap_or a (record { says = None; delivers = None })) x ≡ o
heard v o (Ok e) x h = h.1
heard v o (Err r) x h = h.1

-- ---- the step

module _ (gates : List Gateway) (t : ℕ) (h z : Gateway) (lt : t < length gates) (is : h ≡ get_or gates t h) where
  pub gate_step : (hands : List Handset) (es ds : List Entry) (f : GateState → Out GateState) (e : Effect) → out_of e (gate_state z) ≡ f (gate_state h) →
      world_by (set gates t z) hands (logged (Gate t) (listed e.says) es) (logged (Gate t) (listed e.delivers) ds) ≡ put_gate t (f (gate t (world_by gates hands es ds))) (world_by gates hands es ds)
  gate_step hands es ds f e out =
      let w = world_by gates hands es ds in
      ap (λ (gs : List GateState). record { gates = gs; hands = map hand_state hands; transcript = logged (Gate t) (listed e.says) es; deliveries = logged (Gate t) (listed e.delivers) ds }) (map-set gate_state gates t z)
      ∙ ap (λ (o : Out GateState). put_gate t o w) out
      ∙ ap (λ (y : GateState). put_gate t (f y) w) (ap gate_state is ∙ sym (get_or-map gate_state gates t h _ lt))

module _ (hands : List Handset) (t : ℕ) (h z : Handset) (lt : t < length hands) (is : h ≡ get_or hands t h) where
  pub hand_step : (gates : List Gateway) (es ds : List Entry) (f : HandState → Out HandState) (e : Effect) → out_of e (hand_state z) ≡ f (hand_state h) →
      world_by gates (set hands t z) (logged (Hand t) (listed e.says) es) (logged (Hand t) (listed e.delivers) ds) ≡ put_hand t (f (hand t (world_by gates hands es ds))) (world_by gates hands es ds)
  hand_step gates es ds f e out =
      let w = world_by gates hands es ds in
      ap (λ (hs : List HandState). record { gates = map gate_state gates; hands = hs; transcript = logged (Hand t) (listed e.says) es; deliveries = logged (Hand t) (listed e.delivers) ds }) (map-set hand_state hands t z)
      ∙ ap (λ (o : Out HandState). put_hand t o w) out
      ∙ ap (λ (y : HandState). put_hand t (f y) w) (ap hand_state is ∙ sym (get_or-map hand_state hands t h _ lt))
