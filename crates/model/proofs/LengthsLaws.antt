-- The lengths of answers: the return parameters of a command that succeeds are as many as the table says. Document
-- 01, Commands ("A fixed table gives each sub-opcode its parameter length and answer length (03: the least parameter
-- length; 00: the answer less its prefix)"). Assumes nothing.
use Rattle.std.specs.Prelude.{ℕ, ◌+◌, ◌≡◌, Bool, true, false, List, [], ◌∷◌, ◌++◌, eqb, length}
use Rattle.std.proofs.Math.Path.{refl}
use Rattle.std.proofs.Common.{◌∙◌, arith, eqb-true}
use Rattle.laws.specs.Tests.{pick}
use Rattle.model.specs.Types.{Model}
use Rattle.model.specs.Monitors.{unknown}
use Rattle.model.specs.Commands.{adds_monitor, table, answer_in, sub_of, status, features, success}

-- the prefix that stands behind the features
unfoldable pub behind : Model → ℕ → ℕ
behind m sub = pick (eqb sub 0x00) (length m.prefix) 0

module _ (m : Model) (l : List ℕ) (e : status m l ≡ 0) where
  abbrev pub Says : Type 0
  Says = length (success m l) ≡ answer_in table (sub_of l) + behind m (sub_of l)

  sub-00 : sub_of l ≡ 0x00 → Says
  unfolding behind success answer_in table features pick
  sub-00 s = rw s (omega arith)

  sub-03 : sub_of l ≡ 0x03 → Says
  unfolding behind success answer_in table pick adds_monitor
  sub-03 s = rw s refl

  sub-04 : sub_of l ≡ 0x04 → Says
  unfolding behind success answer_in table pick adds_monitor
  sub-04 s = rw s refl

  sub-05 : sub_of l ≡ 0x05 → Says
  unfolding behind success answer_in table pick adds_monitor
  sub-05 s = rw s refl

  sub-0f : sub_of l ≡ 0x0F → Says
  unfolding behind success answer_in table pick adds_monitor
  sub-0f s = rw s refl

  other : eqb (sub_of l) 0x00 ≡ false → eqb (sub_of l) 0x03 ≡ false → eqb (sub_of l) 0x04 ≡ false
      → eqb (sub_of l) 0x05 ≡ false
      → eqb (sub_of l) 0x0F ≡ false → Says
  unfolding status pick adds_monitor
  other a b c d f = let z : unknown ≡ 0 = rw (a, b, c, d, f) at e in absurd (omega arith)

  -- the length of an answer is the table's
  pub answer-length : Says
  answer-length = go0 (eqb (sub_of l) 0x00) refl
    where
      go15 : eqb (sub_of l) 0x00 ≡ false → eqb (sub_of l) 0x03 ≡ false → eqb (sub_of l) 0x04 ≡ false
          → eqb (sub_of l) 0x05 ≡ false
          → (t : Bool) → eqb (sub_of l) 0x0F ≡ t → Says
      go15 a b c d true s = sub-0f (eqb-true (sub_of l) 0x0F s)
      go15 a b c d false s = other a b c d s

      go5 : eqb (sub_of l) 0x00 ≡ false → eqb (sub_of l) 0x03 ≡ false → eqb (sub_of l) 0x04 ≡ false → (t : Bool)
          → eqb (sub_of l) 0x05 ≡ t → Says
      go5 a b c true s = sub-05 (eqb-true (sub_of l) 0x05 s)
      go5 a b c false s = go15 a b c s (eqb (sub_of l) 0x0F) refl

      go4 : eqb (sub_of l) 0x00 ≡ false → eqb (sub_of l) 0x03 ≡ false → (t : Bool) → eqb (sub_of l) 0x04 ≡ t → Says
      go4 a b true s = sub-04 (eqb-true (sub_of l) 0x04 s)
      go4 a b false s = go5 a b s (eqb (sub_of l) 0x05) refl

      go3 : eqb (sub_of l) 0x00 ≡ false → (t : Bool) → eqb (sub_of l) 0x03 ≡ t → Says
      go3 a true s = sub-03 (eqb-true (sub_of l) 0x03 s)
      go3 a false s = go4 a s (eqb (sub_of l) 0x04) refl

      go0 : (t : Bool) → eqb (sub_of l) 0x00 ≡ t → Says
      go0 true s = sub-00 (eqb-true (sub_of l) 0x00 s)
      go0 false s = go3 s (eqb (sub_of l) 0x03) refl
