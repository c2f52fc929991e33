-- What an executed frame tells, of any state: the position moves by one, the settings stay, and a command that fails
-- changes the position alone. Document 01, Lines ("The position is the number of the last executed frame") and
-- Commands ("Failures are executed frames: they advance the position and change nothing else"). Assumes nothing.
use Rattle.std.specs.Prelude.{ℕ, suc, ◌+◌, ◌≡◌, refl, Bool, true, false, List, eqb, get_or}
use Rattle.std.proofs.Common.{add-one, arith, ap, ◌∙◌, subst, eqb-true, ne_eqb}
use Rattle.laws.specs.Tests.{pick}
use Rattle.laws.specs.TestsLaws.{pick-false}
use Rattle.sessions.specs.Machine.{refused, done}
use Rattle.model.specs.Types.{Model, with_lists, with_filter, moved}
use Rattle.model.specs.Monitors.{monitor_of}
use Rattle.model.specs.Frames.{Body, Typed, command, packet, tick, bad, typed}
use Rattle.model.specs.Commands.{adds_monitor, sub_of, status, cancelled, added, changed, commanded}
use Rattle.model.specs.Step.{step_typed, answer_typed, refusal_typed, act_typed, act}
use Rattle.steps.specs.TypedLaws.{pick-both}

-- a frame that is executed: no refusal, the state after it, the octets it writes
pub record Executed (m : Model) (f : Typed) (n : Model) (wrote : List ℕ) : Type 0 where
  pub passes : refusal_typed m f ≡ 0
  pub state : step_typed m f ≡ n
  pub says : answer_typed m f ≡ wrote

pub executed : (m n : Model) (b : Body) (wrote : List ℕ) → act m b ≡ done n wrote → Executed m (typed b) n wrote
unfolding act act_typed pick
executed m n b wrote e = go (typed b) (eqb (refusal_typed m (typed b)) 0) refl e
  where
    go : (f : Typed) (t : Bool) → eqb (refusal_typed m f) 0 ≡ t
        → pick t (done (step_typed m f) (answer_typed m f)) (refused (refusal_typed m f)) ≡ done n wrote
        → Executed m f n wrote
    go f true w u = record { passes = eqb-true (refusal_typed m f) 0 w; state = cc; says = cc }
    go f false w u = let z : ◌≡◌ {A = ℕ} 0 1 = cc in absurd (omega arith)

-- what no command changes
pub record Same (m n : Model) : Type 0 where
  pub position : n.position ≡ m.position
  pub opcode : n.opcode ≡ m.opcode
  pub prefix : n.prefix ≡ m.prefix

pub commanded-same : (m : Model) (l : List ℕ) → Same m (commanded m l)
unfolding commanded changed added cancelled with_lists with_filter
commanded-same m l =
    let s : Same m m = record { position = refl; opcode = refl; prefix = refl } in
    pick-both (Same m) (eqb (status m l) 0) (changed m l) m
    (λ a. pick-both (Same m) (adds_monitor l) (added m (monitor_of l)) _
    (λ b. record { position = refl; opcode = refl; prefix = refl })
    (λ b. pick-both (Same m) (eqb (sub_of l) 4) (cancelled m (get_or l 1 0)) _
    (λ c. record { position = refl; opcode = refl; prefix = refl })
    (λ c. pick-both (Same m) (eqb (sub_of l) 5) (with_filter m (get_or l 1 0)) m
    (λ d. record { position = refl; opcode = refl; prefix = refl }) (λ d. s))))
    (λ a. s)

-- what an executed frame changes of these: the position, by one
pub record Next (m n : Model) : Type 0 where
  pub position : n.position ≡ m.position + 1
  pub opcode : n.opcode ≡ m.opcode
  pub prefix : n.prefix ≡ m.prefix

pub step-next : (m : Model) (f : Typed) → refusal_typed m f ≡ 0 → Next m (step_typed m f)
unfolding step_typed moved with_lists refusal_typed
step-next m (command o l) e =
    let s : Same m (commanded m l) = commanded-same m l in
    record { position = ap (λ (k : ℕ). k + 1) s.position; opcode = s.opcode; prefix = s.prefix }
step-next m (packet p) e = record { position = refl; opcode = refl; prefix = refl }
step-next m tick e = record { position = refl; opcode = refl; prefix = refl }
step-next m bad e = absurd (omega arith)

-- "The position is the number of the last executed frame"; the settings of a session stay
pub act-next : (m n : Model) (b : Body) (wrote : List ℕ) → act m b ≡ done n wrote → Next m n
act-next m n b wrote e =
    let x : Executed m (typed b) n wrote = executed m n b wrote e in
    subst (Next m) x.state (step-next m (typed b) x.passes)

pub position-moves : (m n : Model) (b : Body) (wrote : List ℕ) → act m b ≡ done n wrote
    → n.position ≡ m.position + 1
position-moves m n b wrote e = (act-next m n b wrote e).position

pub position-suc : (m n : Model) (b : Body) (wrote : List ℕ) → act m b ≡ done n wrote
    → n.position ≡ suc m.position
position-suc m n b wrote e = (act-next m n b wrote e).position ∙ add-one m.position

pub opcode-stays : (m n : Model) (b : Body) (wrote : List ℕ) → act m b ≡ done n wrote → n.opcode ≡ m.opcode
opcode-stays m n b wrote e = (act-next m n b wrote e).opcode

pub prefix-stays : (m n : Model) (b : Body) (wrote : List ℕ) → act m b ≡ done n wrote → n.prefix ≡ m.prefix
prefix-stays m n b wrote e = (act-next m n b wrote e).prefix

-- a command that fails moves the position and changes nothing else
pub failure-moves : (m : Model) (o : ℕ) (l : List ℕ) → (status m l ≡ 0 → ⊥) → step_typed m (command o l) ≡ moved m
unfolding step_typed commanded
failure-moves m o l e = ap moved (pick-false (changed m l) m (ne_eqb (status m l) 0 e))
