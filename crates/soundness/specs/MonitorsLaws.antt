-- The monitor rows of a block whose clauses hold: what they hold, and that they are the rows of what they hold.
-- Document 01, The image ("monitors held in rising handle order, handles 0 to 15, every monitor as 0x03 would accept
-- it"). Assumes nothing.
use Prim.Native.Nat.{ℕ, ◌+◌, ◌-◌, ◌≤◌, ◌<◌}
use Rattle.std.specs.Prelude.{◌≡◌, Bool, ◌&&◌, leb, eqb, take, drop}
use Rattle.std.proofs.Math.Path.{refl, sym, ap}
use Rattle.std.proofs.Common.{◌∙◌, arith, length-drop, take-append-drop, length-take-le, take_all, take_at, get_or-take, get_or-drop, leb-true, ltb-true, eqb-true, le-leb, eq-eqb}
use Rattle.std.proofs.Math.Bool.{true, false}
use mathlib.Core.List.{List, ◌++◌}
use Rattle.std.proofs.Math.Option.{Option, none, some}
use Rattle.std.proofs.Math.ListN.{length, get_or, replicate}
use Rattle.std.proofs.Math.Seq.{drop_at}
use Rattle.laws.specs.Tests.{pick}
use Rattle.laws.specs.TestsLaws.{pick-false, and_left, and_right, and_both}
use Rattle.laws.specs.Loops.{every}
use Rattle.laws.specs.LoopsLaws.{every-at, every_take, every_drop}
use Rattle.octets.specs.Little.{is_octet}
use Rattle.parts.specs.Parts.{is_zero}
use Rattle.model.specs.Types.{Monitor}
use Rattle.model.proofs.AcceptedLaws.{Accepted, accepted}
use Rattle.model.specs.Monitors.{accepts}
use Rattle.model.specs.Image.{monitor_row, extra_in, monitor_from, monitor_in}
use Rattle.model.specs.Sound.{sound_extra}
use Rattle.model.specs.Block.{pad_to, extra_row, monitor_place, in_use}
use Rattle.blocks.specs.RowsLaws.{length-monitor_row}
use Rattle.blocks.specs.Facts.{SoundMonitor}
use Rattle.blocks.specs.Added.{added_in}
use Rattle.blocks.specs.AddedLaws.{added-at}
use Rattle.blocks.specs.MonitorsLaws.{sound-sized, length_fields, monitor-extra, in_use-some, monitor_in-some}
use Rattle.soundness.specs.BelowLaws.{zeros-run, run-zeros}
use Rattle.soundness.specs.Clauses.{monitor_of_row, bare_test, held_test, monitor_test}
use Rattle.soundness.specs.RowsLaws.{monitor-row, fields-whole}
use Rattle.model.specs.Layout.{condition_at, condition_length_at, extra_at, extra_size, handle_at, interval_at, monitor_size, most_condition}

-- what the test of a row in use says
pub record HeldRow (h : ℕ) (r : List ℕ) : Type 0 where
  pub handle : get_or r handle_at 0 ≡ h
  pub short : get_or r condition_length_at 0 ≤ most_condition
  pub behind : every is_zero (drop (condition_at + get_or r condition_length_at 0) (take extra_at r)) ≡ true
  pub bare : bare_test r ≡ true
  pub accept : accepts (monitor_in r).1 ≡ true

pub held-facts : (h : ℕ) (r : List ℕ) → held_test h r ≡ true → HeldRow h r
unfolding held_test
held-facts h r e =
    let a = eqb (get_or r handle_at 0) h in
    let b = leb (get_or r condition_length_at 0) most_condition in
    let c = every is_zero (drop (condition_at + get_or r condition_length_at 0) (take extra_at r)) in
    let x = bare_test r in
    let d = accepts (monitor_in r).1 in
    let e3 = and_left (a && b && c && x) d e in
    let e2 = and_left (a && b && c) x e3 in
    let e1 = and_left (a && b) c e2 in
    record {
      handle = eqb-true (get_or r handle_at 0) h (and_left a b e1);
      short = leb-true (get_or r condition_length_at 0) most_condition (and_right a b e1);
      behind = and_right (a && b) c e2;
      bare = and_right (a && b && c) x e3;
      accept = and_right (a && b && c && x) d e;
    }

pub facts-held : (h : ℕ) (r : List ℕ) → HeldRow h r → held_test h r ≡ true
unfolding held_test
facts-held h r f =
    rw (
      eq-eqb (get_or r handle_at 0) h f.handle,
      le-leb (get_or r condition_length_at 0) most_condition f.short,
      f.behind,
      f.bare,
    ) f.accept

-- what version 2 adds is read from a row, and stands there
extra-row : (r : List ℕ) → length r ≡ monitor_size → bare_test r ≡ true → extra_row (extra_in (added_in r)) ≡ drop extra_at r
unfolding bare_test extra_in extra_row pick
extra-row r l e = ap (λ (o : ℕ). extra_row (pick (eqb o 0) none (some (added_in r)))) (added-at r 0 (omega arith))
    ∙ go (eqb (get_or r extra_at 0) 0) e
  where
    d : length (drop extra_at r) ≡ extra_size
    d = length-drop extra_at r ∙ omega arith

    go : (t : Bool) → pick t (every is_zero (drop extra_at r)) true ≡ true
        → extra_row (pick t none (some (added_in r))) ≡ drop extra_at r
    go true z = sym (zeros-run (drop extra_at r) z ∙ ap (λ (j : ℕ). replicate j 0) d)
    go false z = take_all extra_size (drop extra_at r) (omega (arith, d))

extra-octets : (r : List ℕ) → length r ≡ monitor_size → every is_octet r ≡ true → sound_extra (extra_in (added_in r)) ≡ true
unfolding extra_in sound_extra pick
extra-octets r l o = go (eqb (get_or (added_in r) 0 0) 0)
  where
    n : length (added_in r) ≡ extra_size
    n = let d = length-drop extra_at r in length-take-le extra_size (drop extra_at r) (omega arith)

    go : (t : Bool) → sound_extra (pick t none (some (added_in r))) ≡ true
    go true = refl
    go false =
        and_both (eq-eqb (length (added_in r)) extra_size n)
        (every_take is_octet extra_size (drop extra_at r) (every_drop is_octet extra_at r o))

-- a row that passes is the row of the monitor that it holds, or empty
pub row-place : (h : ℕ) (r : List ℕ) → length r ≡ monitor_size → monitor_test h r ≡ true
    → r ≡ monitor_place h (monitor_of_row r)
unfolding monitor_test monitor_of_row monitor_place pick monitor_in monitor_from
row-place h r l e = go (eqb (get_or r interval_at 0) 0) e
  where
    go : (t : Bool) → pick t (every is_zero r) (held_test h r) ≡ true
        → r ≡ monitor_place h (pick t none (some (monitor_in r).1))
    go true z = zeros-run r z ∙ ap (λ (j : ℕ). replicate j 0) l
    go false z =
        let f : HeldRow h r = held-facts h r z in
        let q : List ℕ = take extra_at r in
        let n : get_or q condition_length_at 0 ≡ get_or r condition_length_at 0 = get_or-take extra_at r 6 0 (omega arith) in
        let w : pad_to extra_at (monitor_row (h, (monitor_in r).1)) ≡ q =
        ap (λ (j : ℕ). pad_to extra_at (monitor_row (j, (monitor_in r).1))) (sym f.handle)
        ∙ ap (pad_to extra_at) (sym (fields-whole r (added_in r) f.short l))
        ∙ monitor-row q (added_in r) (length-take-le extra_at r (omega arith)) (rw n f.short) (rw n f.behind) in
        sym (ap (λ (x : List ℕ). x ++ extra_row (extra_in (added_in r))) w
        ∙ ap (λ (x : List ℕ). q ++ x) (extra-row r l f.bare) ∙ take-append-drop extra_at r)

-- and that monitor is sound
octet-at : (r : List ℕ) (i : ℕ) → every is_octet r ≡ true → i < length r → get_or r i 0 < 256
octet-at r i o h = ltb-true (get_or r i 0) 256 (every-at is_octet r i 0 o h)

pub row-sound : (h : ℕ) (r : List ℕ) → length r ≡ monitor_size → every is_octet r ≡ true → monitor_test h r ≡ true
    → (m : Monitor) → monitor_of_row r ≡ some m → SoundMonitor m
unfolding monitor_test monitor_of_row pick monitor_in monitor_from
row-sound h r l o e m = go (eqb (get_or r interval_at 0) 0) e
  where
    held : held_test h r ≡ true → SoundMonitor (monitor_in r).1
    held z =
        record {
          accept = (held-facts h r z).accept;
          high-octet = octet-at r 1 o (omega arith);
          low-octet = octet-at r 2 o (omega arith);
          sampling-octet = octet-at r 4 o (omega arith);
          condition-octets =
              every_take is_octet (get_or r condition_length_at 0) (drop condition_at r) (every_drop is_octet 7 r o);
          extra-sound = extra-octets r l o;
        }

    go : (t : Bool) → pick t (every is_zero r) (held_test h r) ≡ true → pick t none (some (monitor_in r).1) ≡ some m
        → SoundMonitor m
    go true z q = absurd (Rattle.rule.specs.BaseLaws.none≢some q)
    go false z q = rw (Rattle.rule.specs.BaseLaws.some_inj q) at (held z)

-- the row of a monitor passes and holds it
module _ (h : ℕ) (m : Monitor) (f : SoundMonitor m) where
  place-used : eqb (get_or (monitor_place h (some m)) interval_at 0) 0 ≡ false
  unfolding in_use
  place-used = Rattle.rule.specs.BaseLaws.not-true (eqb (get_or (monitor_place h (some m)) interval_at 0) 0)
      (in_use-some h m f)

  fields-behind : every is_zero (drop (7 + length m.condition) (pad_to extra_at (monitor_row (h, m)))) ≡ true
  unfolding pad_to
  fields-behind =
      let z : List ℕ = replicate (extra_at - length (monitor_row (h, m))) 0 in
      ap (every is_zero) (drop_at (monitor_row (h, m)) z (7 + length m.condition) (length-monitor_row (h, m)))
      ∙ run-zeros (extra_at - length (monitor_row (h, m)))

  place-bare : (o : Option (List ℕ)) → extra_in (extra_row o) ≡ o
      → pick (eqb (get_or (extra_row o) 0 0) 0) (every is_zero (extra_row o)) true ≡ true
  unfolding extra_in extra_row pick
  place-bare none e = run-zeros extra_size
  place-bare (some l) e = go (eqb (get_or l 0 0) 0) e
    where
      go : (t : Bool) → pick t none (some l) ≡ some l → pick t (every is_zero l) true ≡ true
      go true q = absurd (Rattle.rule.specs.BaseLaws.none≢some q)
      go false q = refl

  place-facts : HeldRow h (monitor_place h (some m))
  unfolding monitor_place bare_test pad_to monitor_row
  place-facts =
      let a : Accepted m = accepted m f.accept in
      let n : ℕ = length m.condition in
      let p : List ℕ = pad_to extra_at (monitor_row (h, m)) in
      let x : List ℕ = extra_row m.extra in
      let k : length p ≡ extra_at = length_fields (h, m) (sound-sized m f) in
      let g : get_or (p ++ x) extra_at 0 ≡ get_or x 0 0 =
      sym (get_or-drop extra_at (p ++ x) 0 0) ∙ ap (λ (y : List ℕ). get_or y 0 0) (drop_at p x extra_at k) in
      record {
        handle = refl;
        short = a.short;
        behind = ap (λ (y : List ℕ). every is_zero (drop (7 + n) y)) (take_at p x extra_at k) ∙ fields-behind;
        bare = rw (g, drop_at p x extra_at k) (place-bare m.extra (monitor-extra m f.accept));
        accept = ap (λ (x : ℕ × Monitor). accepts x.1) (monitor_in-some h m f) ∙ f.accept;
      }

pub place-row : (h : ℕ) (o : Option Monitor) → ((m : Monitor) → o ≡ some m → SoundMonitor m)
    → monitor_test h (monitor_place h o) ≡ true
unfolding monitor_test monitor_place every pick
place-row h none f = refl
place-row h (some m) f =
    let r : List ℕ = monitor_place h (some m) in
    pick-false (every is_zero r) (held_test h r) (place-used h m (f m refl))
    ∙ facts-held h r (place-facts h m (f m refl))

pub place-holds : (h : ℕ) (o : Option Monitor) → ((m : Monitor) → o ≡ some m → SoundMonitor m)
    → monitor_of_row (monitor_place h o) ≡ o
unfolding monitor_of_row monitor_place pick
place-holds h none f = refl
place-holds h (some m) f =
    let r : List ℕ = monitor_place h (some m) in
    pick-false none (some (monitor_in r).1) (place-used h m (f m refl))
    ∙ ap (λ (x : ℕ × Monitor). some x.1) (monitor_in-some h m (f m refl))
