-- What a sound state keeps to, line by line of its image: soundness, taken apart. Document 01, The image; document 02,
-- T-13 (A5). Assumes nothing.
use Rattle.std.specs.Prelude.{ℕ, suc, ◌+◌, ◌≤◌, ◌<◌, ◌≡◌, refl, true, ◌&&◌, List, [], ◌∷◌, eqb, length}
use Rattle.std.proofs.Math.Option.{Option, none, some}
use Rattle.std.proofs.Common.{arith, eqb-true}
use Rattle.laws.specs.Tests.{pick}
use Rattle.laws.specs.TestsLaws.{and_left, and_right}
use Rattle.laws.specs.Loops.{every}
use Rattle.octets.specs.Little.{is_octet}
use Rattle.rule.specs.Base.{All}
use Rattle.model.specs.Types.{Model, Monitor, Pair}
use Rattle.model.specs.Monitors.{accepts}
use Rattle.model.specs.Image.{extra_text, name_of, monitor_text, extra_in}
use Rattle.model.specs.Block.{extra_row}
use Rattle.model.specs.Sound.{sound_extra, sound_model}
use Rattle.blocks.specs.RowsLaws.{octets-cons, octets-append}
use Rattle.blocks.specs.Facts.{SoundMonitor, SoundMonitors, SoundModel}
use Rattle.blocks.specs.FactsLaws.{monitors-tail, sound-facts}
use Rattle.blocks.specs.Bounds.{Fits as PairFits}
use Rattle.blocks.specs.BoundsLaws.{pairs-fit, sound-monitor_row}
use Rattle.blocks.specs.MonitorsLaws.{monitor-extra}
use Rattle.model.specs.Layout.{extra_size, most_monitors}

-- a monitor of a sound state
pub record MonitorFits (x : ℕ × Monitor) : Type 0 where
  pub handle : x.0 < most_monitors
  pub sound : SoundMonitor x.1

-- the state
pub record Fits (m : Model) : Type 0 where
  pub facts : SoundModel m
  pub mons : All MonitorFits m.mons
  pub most-mons : length m.mons ≤ most_monitors
  pub pairs : All PairFits m.pairs

monitors-fit : (k : ℕ) (l : List (ℕ × Monitor)) → SoundMonitors k l → All MonitorFits l
monitors-fit k [] f = tt
monitors-fit k (x ∷ l) f =
    (record { handle = f.handles.0.1; sound = f.monitors.0 }, monitors-fit (suc x.0) l (monitors-tail k x l f))

-- rising handles below 16 from k on are at most 16 - k
monitors-most : (k : ℕ) (l : List (ℕ × Monitor)) → k ≤ most_monitors → SoundMonitors k l → k + length l ≤ most_monitors
monitors-most k [] h f = omega arith
monitors-most k (x ∷ l) h f =
    let a : k ≤ x.0 = f.handles.0.0 in
    let b : x.0 < most_monitors = f.handles.0.1 in
    omega (arith, monitors-most (suc x.0) l (omega arith) (monitors-tail k x l f))

pub sound-fits : (m : Model) → sound_model m ≡ true → Fits m
sound-fits m e =
    let f : SoundModel m = sound-facts m e in
    record {
      facts = f;
      mons = monitors-fit 0 m.mons f.mons-sound;
      most-mons = omega (arith, monitors-most 0 m.mons (omega arith) f.mons-sound);
      pairs = pairs-fit m f;
    }

-- what stands behind the condition in a monitor's line: octets, at most 25, from which they are read
extra-octets : (o : Option (List ℕ)) → sound_extra o ≡ true → every is_octet (extra_text o) ≡ true
unfolding extra_text sound_extra every
extra-octets none e = refl
extra-octets (some l) e = and_right (eqb (length l) extra_size) (every is_octet l) e

pub extra-most : (o : Option (List ℕ)) → sound_extra o ≡ true → length (extra_text o) ≤ extra_size
unfolding extra_text sound_extra
extra-most none e = omega arith
extra-most (some l) e =
    let n : length l ≡ extra_size =
    eqb-true (length l) extra_size (and_left (eqb (length l) extra_size) (every is_octet l) e) in
    omega arith

text-read : (o : Option (List ℕ)) → extra_in (extra_row o) ≡ o → extra_in (extra_text o) ≡ o
unfolding extra_text extra_row extra_in pick
text-read none e = e
text-read (some l) e = e

pub extra-read : (m : Monitor) → accepts m ≡ true → extra_in (extra_text m.extra) ≡ m.extra
extra-read m e = text-read m.extra (monitor-extra m e)

name-octet : (o : Option (List ℕ)) → name_of o < 256
unfolding name_of
name-octet none = omega arith
name-octet (some l) = omega arith

pub monitor-octets : (x : ℕ × Monitor) → MonitorFits x → every is_octet (monitor_text x) ≡ true
unfolding monitor_text
monitor-octets x f =
    octets-cons (name_of x.1.extra) _ (name-octet x.1.extra)
    (octets-append _ (extra_text x.1.extra) (sound-monitor_row x (omega (arith, f.handle)) f.sound)
    (extra-octets x.1.extra f.sound.extra-sound))
