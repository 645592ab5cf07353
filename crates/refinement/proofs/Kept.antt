-- What is promised of rows holds of bytes.
use Rattle.std.proofs.Common.{List, [], ◌∷◌, sym, ap, ◌∙◌, subst, subst₂}
use Rattle.protocol.specs.World.{World, start, Event, happens, after}
use Rattle.protocol.specs.Promise.{gate_side, hand_side, StaysInUse}
use Rattle.promise.specs.Reach.{Reached, Kept}
use Rattle.promise.proofs.Once.{installed_once}
use Rattle.promise.proofs.Reach.{reached_start, reached_more, kept}
use Rattle.link.specs.World.{ByteWorld, start_bytes, after_bytes}
use Rattle.link.specs.Theorems.{InstalledOnceBytes}
use Rattle.refinement.specs.Kept.{EachEventRefines, KeptBytes}
use Rattle.refinement.proofs.Worlds.{start_inv, step, run}

pub each_event_refines : EachEventRefines
each_event_refines F g s es e named u n = (step F (after_bytes F es (start_bytes F g s)) (run F es (start_bytes F g s) (start_inv F g s named) u).0 e n).1

reached_run : (es : List Event) (w : World) → Reached w → Reached (after es w)
unfolding after
reached_run [] w r = r
reached_run (e ∷ es) w r = reached_run es (happens e w) (reached_more w e r)

pub kept_bytes : KeptBytes
kept_bytes F g s es named u =
    let r = run F es (start_bytes F g s) (start_inv F g s named) u in
    subst Kept (sym r.1.1) (kept (after r.1.0 (start g s)) (reached_run r.1.0 (start g s) (reached_start g s)))

pub installed_once_bytes : InstalledOnceBytes
installed_once_bytes F g s es fs hs i j p named =
    let S : World → World → World → Type 0 = λ a b c. StaysInUse (gate_side i j) a b c p × StaysInUse (hand_side i j) a b c p in
    λ ue uf uh.
    let u : ByteWorld = after_bytes F es (start_bytes F g s) in
    let v : ByteWorld = after_bytes F fs u in
    let w : ByteWorld = after_bytes F hs v in
    let ru = run F es (start_bytes F g s) (start_inv F g s named) ue in
    let rv = run F fs u ru.0 uf in
    let rw1 = run F hs v rv.0 uh in
    let eu = ru.1.1 in
    let ev = rv.1.1 ∙ ap (after rv.1.0) eu in
    let ew = rw1.1.1 ∙ ap (after rw1.1.0) ev in
    subst (λ a. S a v.rows w.rows) (sym eu)
    (subst₂ (S (after ru.1.0 (start g s))) (sym ev) (sym ew) (installed_once g s ru.1.0 rv.1.0 rw1.1.0 i j p))
