-- Laws of the definitions in Alone.
use Rattle.std.specs.Prelude.{ℕ, suc, ◌≡◌, refl, true, List, [], ◌∷◌, ◌++◌, drop}
use Rattle.std.proofs.Common.{sym, ap, ◌∙◌, arith, le-leb}
use Rattle.std.proofs.Math.Option.{Option, none}
use Rattle.sessions.specs.Machine.{Form, Outcome, refused, done}
use Rattle.sessions.specs.Session.{answer, judge, state_after}
use Rattle.laws.specs.Loops.{each}
use Rattle.lines.specs.Hex.{text_of}
use Rattle.model.specs.Types.{Model, fresh}
use Rattle.model.specs.Frames.{Body}
use Rattle.model.specs.Step.{act}
use Rattle.model.specs.Sound.{sound_model}
use Rattle.model.specs.Image.{head_row, records, image_text}
use Rattle.model.specs.Engine.{models}
use Rattle.model.specs.Layout.{most_prefix}
use Rattle.steps.specs.ExecutedLaws.{prefix-stays}
use Rattle.steps.proofs.WholeLaws.{sound-of}
use Rattle.steps.specs.FactsLaws.{Settings, settings-of, up-to-holds}
use Rattle.editions.specs.Editions.{Gateway, with_prefix, in_force, prefix_for, sound_gateway, beside, act_on, fresh_on, records_on, image_on}
use Rattle.editions.specs.Engine.{gateways}
use Rattle.editions.proofs.FactsLaws.{parts-sound}
use Rattle.failover.proofs.ProofLaws.{laws as model-laws}
use Rattle.failover.proofs.Proved.{fresh-editions}
use Rattle.failover.proofs.LaidLaws as laid
use Rattle.failover.proofs.LaidLaws.{Lays, onto}
use Rattle.failover.specs.Alone.{alone, line_only, only}

pub alone-fresh : (opcode : ℕ) (prefix : List ℕ) → fresh_on opcode prefix ≡ alone (fresh opcode prefix)
unfolding alone only fresh_on fresh
alone-fresh opcode prefix = refl

-- it is in force at every frame
only-prefix : (m : Model) (n : ℕ) → prefix_for n (only m ∷ []) ≡ m.prefix
unfolding prefix_for in_force only Rattle.laws.specs.Tests.pick
only-prefix m n = rw (le-leb 0 n (omega arith))

pub alone-sound : (m : Model) → sound_model m ≡ true → sound_gateway (alone m) ≡ true
unfolding alone only
alone-sound m ok =
    let s : Settings m.opcode m.prefix = settings-of m.opcode m.prefix (sound-of m ok).settings in
    parts-sound (alone m) (record {
      core = ok;
      editions = fresh-editions m.prefix (up-to-holds most_prefix m.prefix s.prefix-short s.prefix-octets);
      force = sym (only-prefix m m.position);
    })

abbrev at : Gateway → ℕ
at g = g.core.position

-- the image without its editions
abbrev text : Gateway → List ℕ
text g = image_text g.core

besides : (m : Model) (b : Body) (o : Outcome Model) → act m b ≡ o → beside (only m ∷ []) o ≡ onto alone o
unfolding beside onto alone only
besides m b (refused n) e = refl
besides m b (done t w) e =
    ap (λ (p : List ℕ). done (record { core = t; editions = record { from = 0; prefix = p } ∷ [] }) w)
    (sym (prefix-stays m t b w e))

pub lays : Lays models alone at sound_gateway act_on text
unfolding alone act_on with_prefix
lays =
    record {
      sounds = alone-sound;
      stands = λ m ok. refl;
      does = λ m ok b.
          ap (λ (p : List ℕ). beside (only m ∷ []) (act (with_prefix m p) b)) (only-prefix m (suc m.position))
          ∙ besides m b (act m b) refl;
      codes = λ m ok. refl;
    }

none_read : List ℕ → Option Gateway
none_read t = none

module _ (m : Model) (ok : sound_model m ≡ true) (lent : ℕ) (w : Form) (r : List ℕ) where
  pub alone-answer : answer gateways lent (alone m) w r ≡ onto alone (answer models lent m w r)
  unfolding answer judge
  alone-answer = laid.answer-blocks models model-laws alone at sound_gateway act_on text none_read lays m ok lent w r

  pub alone-after : state_after (alone m) (answer gateways lent (alone m) w r)
      ≡ alone (state_after m (answer models lent m w r))
  unfolding answer judge
  alone-after = laid.given-blocks models model-laws alone at sound_gateway act_on text none_read lays m ok lent w r

  pub alone-left : sound_model (state_after m (answer models lent m w r)) ≡ true
  alone-left = laid.given-sound models model-laws alone at sound_gateway act_on text none_read lays m ok lent w r

pub alone-image : (m : Model) → image_on (alone m) ≡ text_of (0xA0 ∷ head_row m)
    ++ (text_of (line_only m.prefix) ++ each text_of (drop 1 (records m)))
unfolding image_on records_on alone only line_only each
alone-image m = refl
