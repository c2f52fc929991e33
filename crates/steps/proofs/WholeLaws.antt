-- A whole sound state is its records, and the other way round. Assumes nothing.
use Rattle.std.specs.Prelude.{ℕ, suc, ◌≤◌, ◌<◌, ◌≡◌, refl, Bool, true, false, ◌&&◌, ◌||◌, not, List, [], ◌∷◌, map, leb, ltb, eqb, length}
use Rattle.std.proofs.Common.{zero-le, arith, sym, ap, ◌∙◌, inl, inr, leb-true, ltb-true, eqb-true, le-leb, lt-ltb, eq-eqb}
use Rattle.std.proofs.lemmas.Bool.{false≢true, not-true}
use Rattle.std.proofs.Math.Option.{Option, none, some}
use Rattle.laws.specs.Tests.{sames}
use Rattle.laws.specs.TestsLaws.{and_left, and_right, and_both, sames-eq, eq-sames}
use Rattle.laws.specs.Loops.{every, some as some_of}
use Rattle.rule.specs.Base.{In, All, Distinct}
use Rattle.rule.specs.BaseLaws.{pair_path}
use Rattle.rule.specs.Engine.{find}
use Rattle.rule.specs.Finds.{Rising}
use Rattle.sessions.specs.Machine.{last_number}
use Rattle.model.specs.Types.{Model, Monitor, Pair, watched}
use Rattle.model.specs.Monitors.{run_of}
use Rattle.model.specs.Watch.{is_pair, holds}
use Rattle.model.specs.Sound.{sound_monitor, sound_monitors, sound_settings, sound_window, sound_empty, sound_fields}
use Rattle.model.specs.Sound.{sound_of, sound_pair, apart, sound_model}
use Rattle.steps.specs.ListsLaws.{all-weaken, every-all, all-every}
use Rattle.steps.specs.FactsLaws.{and-three, and-four, and-five}
use Rattle.model.specs.Layout.{most_monitors, most_pairs}
use Rattle.steps.specs.WholeLaws.{Row, RowFrom, monitors-of, monitors-hold, apart_distinct, distinct_apart, Held, held_of, held-holds, Sound}

pub sound-of : (m : Model) → sound_model m ≡ true → Sound m
unfolding sound_model last_number
sound-of m e =
    let a : Bool = leb m.position 4294967295 in
    let b : Bool = leb m.filter 1 in
    let c : Bool = sound_settings m.opcode m.prefix in
    let d : Bool = sound_monitors 0 m.mons in
    let f : Bool = leb (length m.pairs) most_pairs in
    let r = and-three (a && b && c && d && f) (apart m.pairs) (every (sound_pair m) m.pairs) e in
    let s = and-five a b c d f r.0 in
    let w = monitors-of 0 m.mons s.3 in
    let rs : All Row m.mons = all-weaken (RowFrom 0) Row (λ x y. y.1) m.mons w.1 in
    let hs : All (Held m.position m.mons) m.pairs =
    all-weaken (λ q. sound_pair m q ≡ true) (Held m.position m.mons) (held_of m) m.pairs
    (every-all (sound_pair m) m.pairs r.2) in
    let room : length m.pairs ≤ most_pairs = leb-true (length m.pairs) most_pairs s.4 in
    record {
      position-most = leb-true m.position 4294967295 s.0;
      filter-most = leb-true m.filter 1 s.1;
      settings = s.2;
      monitors = record { rising = w.0; rows = rs };
      pairs = record { room = room; once = apart_distinct m.pairs r.1; held = hs };
    }

pub sound-holds : (m : Model) → Sound m → sound_model m ≡ true
unfolding sound_model last_number
sound-holds m s =
    let rs : All (RowFrom 0) m.mons =
    all-weaken Row (RowFrom 0) (λ x y. (zero-le, y)) m.mons s.monitors.rows in
    let hs : All (λ q. sound_pair m q ≡ true) m.pairs =
    all-weaken (Held m.position m.mons) (λ q. sound_pair m q ≡ true) (held-holds m) m.pairs
    s.pairs.held in
    and_both (and_both (and_both (and_both (and_both (and_both
    (le-leb m.position 4294967295 s.position-most) (le-leb m.filter 1 s.filter-most)) s.settings)
    (monitors-hold 0 m.mons s.monitors.rising rs)) (le-leb (length m.pairs) most_pairs s.pairs.room))
    (distinct_apart m.pairs s.pairs.once))
    (all-every (sound_pair m) m.pairs hs)
