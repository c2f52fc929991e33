-- Laws of the definitions in Calls.
use Rattle.std.specs.Prelude.{ℕ, suc, ◌+◌, ◌≡◌, refl, Bool, true, false, List, ◌++◌}
use Rattle.std.proofs.Common.{sym, ap, ◌∙◌, add-one}
use Rattle.std.proofs.lemmas.Bool.{false≢true}
use Rattle.std.proofs.Math.Option.{none}
use Rattle.laws.specs.Tests.{pick}
use Rattle.totals.specs.declared.Row.{Row}
use Rattle.totals.specs.Table.{table_rows}
use Rattle.sessions.specs.Machine.{text, Outcome, refused, done}
use Rattle.sessions.specs.Session.{answer, state_after}
use Rattle.sessions.specs.Saved.{replay_lines}
use Rattle.model.specs.Types.{Model}
use Rattle.model.specs.Frames.{Body}
use Rattle.model.specs.Step.{act}
use Rattle.model.specs.Block.{model_of}
use Rattle.steps.specs.ExecutedLaws.{position-suc}
use Rattle.editions.specs.Editions.{Gateway, with_prefix, prefix_for, sound_gateway, act_on}
use Rattle.editions.specs.Engine.{gateways}
use Rattle.wholes.specs.Whole.{whole, held_whole, sound_whole}
use Rattle.wholes.proofs.LaidLaws.{core-whole, core-good, sound-whole, whole-good, whole-held}
use Rattle.wholes.specs.Engine.{engine}
use Rattle.failover.proofs.LaidLaws.{onto}
use Rattle.failover.specs.Grows.{Besides, besides}
use Rattle.failover.proofs.BlocksLaws.{answer-blocks, given-sound}
use Rattle.months.specs.Month.{adds_of}
use Rattle.months.specs.Counted.{lent_with}
use Rattle.months.specs.Counting.{no_rows}
use Rattle.months.proofs.Claims.{Acts, answer-acts}
use Rattle.month.specs.Outcomes.{outcome, adds_in, at}
use Rattle.cuts.specs.JournalLaws.{Goes}
use Rattle.cuts.specs.Cut.{CutLaw}
use Rattle.cuts.specs.CutLaws.{cut-law}
use Rattle.cuts.specs.Calls.{counting_blocks}

-- .. with a table of sixteen rows
pub cited : (lent : ℕ) (s : List ℕ) (l : List Row) (raw : List ℕ)
    → outcome table_rows lent s l raw ≡ answer counting_blocks lent (at s l) text raw
unfolding outcome lent_with pick adds_in adds_of
cited lent s l raw = refl

-- an executed line of a sound block: the state in it after the line
record Moved (m : Gateway) (t : List ℕ) : Type 0 where
  after : Gateway
  is : t ≡ whole after
  good : sound_gateway after ≡ true
  position : after.core.position ≡ m.core.position + 1

unfoldable is_done : {S : Type 0} → Outcome S → Bool
is_done (refused n) = false
is_done (done t a) = true

-- a frame moves the position by one, whatever edition it uses
acted : (m u : Gateway) (b : Body) (a : List ℕ) → act_on m b ≡ done u a → u.core.position ≡ m.core.position + 1
unfolding act_on with_prefix
acted m u b a e =
    let n : Model = with_prefix m.core (prefix_for (suc m.core.position) m.editions) in
    let k : Besides m.editions (act n b) u a = besides m.editions (act n b) u a e in
    position-suc n u.core b a k.core ∙ sym (add-one m.core.position)

moved : (k : ℕ) (m : Gateway) (t raw a : List ℕ) → sound_gateway m ≡ true
    → answer engine k (whole m) text raw ≡ done t a → Moved m t
unfolding onto state_after is_done
moved k m t raw a e q =
    go (answer gateways k m text raw) refl (sym (answer-blocks m e k text raw) ∙ q) (given-sound m e k text raw)
  where
    go : (o : Outcome Gateway) → answer gateways k m text raw ≡ o → onto whole o ≡ done t a
        → sound_gateway (state_after m (answer gateways k m text raw)) ≡ true → Moved m t
    go (refused n) i z g = absurd (false≢true (ap is_done z))
    go (done u b) i z g =
        let x : Acts gateways (λ g. g.core) (λ b. b) m u b (gateways.read text raw) =
        answer-acts gateways (λ g. g.core) (λ b. b) k m u text raw b i in
        record {
          after = u;
          is = sym (ap (state_after t) z);
          good = ap (λ (o : Outcome Gateway). sound_gateway (state_after m o)) (sym i) ∙ g;
          position = acted m u x.line.body b x.acts;
        }

goes : Goes engine model_of
unfolding held_whole
goes =
    record {
      good = core-good;
      keeps = λ k s t raw a e q. let m = by k s t raw a e q in ap sound_whole m.is
          ∙ sound-whole m.after m.good;
      moves = λ k s t raw a e q. let m = by k s t raw a e q in
          ap (λ (b : List ℕ). (model_of b).position) m.is
          ∙ ap (λ (n : Model). n.position) (core-whole m.after m.good) ∙ m.position;
    }
  where
    by : (k : ℕ) (s t raw a : List ℕ) → sound_whole s ≡ true → answer engine k s text raw ≡ done t a
        → Moved (held_whole s) t
    by k s t raw a e q =
        moved k (held_whole s) t raw a (whole-good s e)
        (ap (λ (b : List ℕ). answer engine k b text raw) (whole-held s e) ∙ q)

-- T-10: for every sound block, every list of lines and every cut of it. The lines ls and then ms are given to the
-- block s with rows by calls that meet their contract: the whole, and its two parts, each from empty rows, the second
-- from the block at the cut.
pub cut-calls : (lent : ℕ → ℕ) (s : List ℕ) (ls ms : List (List ℕ)) → sound_whole s ≡ true
    → (replay_lines counting_blocks lent (at s no_rows) (ls ++ ms)).stop ≡ none
    → CutLaw engine model_of (λ b. b) lent s ls ms
cut-calls lent s ls ms e q = cut-law engine model_of (λ b. b) goes lent s ls ms e q
