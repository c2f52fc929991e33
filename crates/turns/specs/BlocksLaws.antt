-- The engine over whole blocks keeps the laws of a session. Document 01, Sessions and failover. Definitions of the
-- proofs alone stand here too: OnGateway, Left. Assumes nothing.
use Rattle.std.specs.Prelude.{ℕ, ◌≡◌, refl, true, List}
use Rattle.std.proofs.Common.{sym, ap, ◌∙◌, subst, arith}
use Rattle.sessions.specs.Machine.{Laws, Executes, Line, Outcome, refused, done}
use Rattle.model.specs.Types.{Model}
use Rattle.model.specs.Frames.{Body}
use Rattle.model.specs.Block.{model_of}
use Rattle.editions.specs.Editions.{Gateway, sound_gateway, act_on}
use Rattle.editions.specs.Engine.{gateways}
use Rattle.wholes.specs.Whole.{held_whole, whole, sound_whole}
use Rattle.wholes.proofs.LaidLaws.{held_whole_lem, core-whole, sound-whole, whole-good, whole-held}
use Rattle.wholes.proofs.RestoresLaws.{engine-restores}
use Rattle.wholes.specs.Engine.{engine, act_whole, on_wholes}
use Rattle.failover.specs.ReadLaws.{fits, reads, one_line}
use Rattle.failover.specs.Grows.{Went, went}

-- an executed frame on blocks is one on records
pub record OnGateway (s : List ℕ) (b : Body) (t wrote : List ℕ) : Type 0 where
  pub state : Gateway
  pub acts : act_on (held_whole s) b ≡ done state wrote
  pub block : whole state ≡ t

pub on-gateway : (s : List ℕ) (b : Body) (t wrote : List ℕ) → act_whole s b ≡ done t wrote → OnGateway s b t wrote
unfolding act_whole on_wholes
on-gateway s b t wrote e = go (act_on (held_whole s) b) refl e
  where
    go : (o : Outcome Gateway) → act_on (held_whole s) b ≡ o → on_wholes o ≡ done t wrote → OnGateway s b t wrote
    go (refused n) p q = let z : ◌≡◌ {A = ℕ} 0 1 = cc in absurd (omega arith)
    go (done n l) p q = let u : l ≡ wrote = cc in record { state = n; acts = p ∙ ap (done n) u; block = cc }

-- what an executed frame leaves
pub record Left (s : List ℕ) (x : Line Body) (t wrote : List ℕ) : Type 0 where
  pub on : OnGateway s x.body t wrote
  pub executes : Executes gateways (held_whole s) x on.state wrote
  pub went-so : Went (held_whole s) on.state x wrote

pub left : (s t : List ℕ) (x : Line Body) (a : List ℕ) → Executes engine s x t a → Left s x t a
unfolding held_whole
left s t x a e =
    let o : OnGateway s x.body t a = on-gateway s x.body t a e.acts in
    let ex : Executes gateways (held_whole s) x o.state a =
    record {
      form = e.form;
      raw = e.raw;
      given = e.given;
      before = whole-good s e.before;
      next = e.next;
      room = e.room;
      acts = o.acts;
    } in
    record { on = o; executes = ex; went-so = went (held_whole s) o.state x a ex }

-- the laws of the engine
pub laws : Laws engine
unfolding held_whole
laws =
    record {
      advance = λ s t x a e. let l : Left s x t a = left s t x a e in
          ap (λ (u : List ℕ). (model_of u).position) (sym l.on.block)
          ∙ ap (λ (m : Model). m.position) (core-whole l.on.state l.went-so.sound) ∙ l.went-so.position;
      keeps = λ s t x a e. let l : Left s x t a = left s t x a e in
          subst (λ (u : List ℕ). sound_whole u ≡ true) l.on.block (sound-whole l.on.state l.went-so.sound);
      restores = engine-restores;
      fits = fits;
      reads = reads;
      one_line = one_line;
    }
