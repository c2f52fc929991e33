-- Both sides of the edges of a watch (document 01: P2, P3, P7 and the limits), as rows of one list under one claim:
-- what the core engine holds after the frames of each row. The radio here is a small one, with numbers for devices and
-- conditions; RSSI is written as RSSI + 127. Assumes nothing.
use Rattle.std.specs.Prelude.{ℕ, zero, suc, ◌*◌, ◌<◌, ◌≡◌, refl, true, cond, List, [], ◌∷◌, ◌++◌, map, reverse, replicate, ltb, leb, eqb}
use Rattle.std.proofs.Common.{arith, sym, ap, ◌∙◌, ltb-true, eqb-true, eq-eqb}
use Rattle.rule.specs.Radio.{Radio, Frame, add, cancel, packet, tick, other, most_monitors, most_pairs}
use Rattle.rule.specs.Engine.{Pair, State, run, step, turns, move}
use Rattle.rule.specs.Base.{map_some}
use Rattle.rule.proofs.RowsTurns.{span, span-turns}

-- A monitor: two thresholds, the interval, and the one number that its condition asks for.
pub record Monitor : Type 0 where
  pub high : ℕ
  pub low : ℕ
  pub interval : ℕ
  pub kind : ℕ

-- A packet: its device, its RSSI, and the number that conditions look at.
pub record Packet : Type 0 where
  pub device : ℕ
  pub rssi : ℕ
  pub kind : ℕ

pub accepted-run : (m : Monitor) → ltb 0 m.interval ≡ true → 0 < 10 * m.interval
accepted-run m e = let w = ltb-true 0 m.interval e in omega arith

abbrev pub small : Radio
small = record {
  Mon = Monitor;
  Pkt = Packet;
  Dev = ℕ;
  same = eqb;
  same-eq = eqb-true;
  same_refl = λ d. eq-eqb d d refl;
  dev = λ p. p.device;
  matches = λ m p. eqb m.kind p.kind;
  good = λ m p. ltb m.low p.rssi;
  strong = λ m p. leb m.high p.rssi;
  rssi = λ p. p.rssi;
  run = λ m. 10 * m.interval;
  okay = λ m. ltb 0 m.interval;
  okay-run = accepted-run;
}

-- The monitor of document 01's session, high -60, low -80, 3 seconds; one of another kind.
abbrev monitor : Frame small
monitor = add (record { high = 67; low = 47; interval = 3; kind = 0 })

abbrev stranger : Frame small
stranger = add (record { high = 67; low = 47; interval = 3; kind = 1 })

-- A monitor with interval 0, which is not accepted.
abbrev endless : Frame small
endless = add (record { high = 67; low = 47; interval = 0; kind = 0 })

-- A packet of a device that matches, with its RSSI + 127.
abbrev heard : ℕ → ℕ → Frame small
heard d r = packet (record { device = d; rssi = r; kind = 0 })

-- The same for the other kind.
abbrev heard_other : ℕ → ℕ → Frame small
heard_other d r = packet (record { device = d; rssi = r; kind = 1 })

abbrev wait : ℕ → List (Frame small)
wait n = replicate n tick

-- Devices 0 to n - 1.
abbrev devices : ℕ → List ℕ
devices zero = []
devices (suc n) = devices n ++ (n ∷ [])

-- A row: frames in the order given, and the pairs that are then held.
pub record Row : Type 0 where
  pub frames : List (Frame small)
  pub held : List (Pair small)

-- A row's past has the newest frame first.
abbrev pub past : Row → List (Frame small)
past r = reverse r.frames

abbrev row : List (Frame small) → List (ℕ × ℕ × ℕ × ℕ) → Row
row fs ps = record { frames = fs; held = ps }

-- The session of document 01: a monitor, and a packet at -60 of device 7.
abbrev begun : List (Frame small)
begun = monitor ∷ heard 7 67 ∷ []

-- RSSI -61 starts nothing, -60 does; 29 ticks of 30, and the 30th; a packet at -79 after 29 ticks starts the run anew,
-- at -80 it does not, nor does one that does not match, nor one of another device.
abbrev runs : List Row
runs =
    row (monitor ∷ heard 7 66 ∷ []) []
    ∷ row begun ((0, 7, 0, 67) ∷ [])
    ∷ row (begun ++ wait 29) ((0, 7, 29, 67) ∷ [])
    ∷ row (begun ++ wait 30) []
    ∷ row (begun ++ wait 29 ++ (heard 7 48 ∷ []) ++ wait 29) ((0, 7, 29, 48) ∷ [])
    ∷ row (begun ++ wait 29 ++ (heard 7 48 ∷ []) ++ wait 30) []
    ∷ row (begun ++ wait 29 ++ (heard 7 47 ∷ tick ∷ [])) []
    ∷ row (begun ++ wait 29 ++ (heard_other 7 67 ∷ tick ∷ [])) []
    ∷ row (begun ++ wait 29 ++ (heard 8 50 ∷ tick ∷ [])) []
    ∷ []

-- A second start; what is held does not start again; the order is that of the latest starts, one packet's by handle.
abbrev starts : List Row
starts =
    row (begun ++ wait 30 ++ (heard 7 68 ∷ [])) ((0, 7, 0, 68) ∷ [])
    ∷ row (begun ++ (heard 8 67 ∷ heard 7 67 ∷ [])) ((0, 7, 0, 67) ∷ (0, 8, 0, 67) ∷ [])
    ∷ row (begun ++ wait 1 ++ (heard 8 67 ∷ []) ++ wait 29 ++ (heard 7 67 ∷ [])) ((0, 8, 29, 67) ∷ (0, 7, 0, 67) ∷ [])
    ∷ row (monitor ∷ monitor ∷ heard 9 67 ∷ []) ((0, 9, 0, 67) ∷ (1, 9, 0, 67) ∷ [])
    ∷ []

-- The next handle after 0, 1, 2 and a cancel of 1 is 1; a cancel forgets the pairs, and does nothing for a handle that
-- is not live; a 17th monitor is not added, nor one that is not accepted; a 65th pair finds no room.
abbrev limits : List Row
limits =
    row (monitor ∷ monitor ∷ monitor ∷ cancel 1 ∷ stranger ∷ heard_other 7 67 ∷ []) ((1, 7, 0, 67) ∷ [])
    ∷ row (begun ++ (cancel 0 ∷ monitor ∷ [])) []
    ∷ row (begun ++ (cancel 1 ∷ other ∷ [])) ((0, 7, 0, 67) ∷ [])
    ∷ row (replicate 16 monitor ++ (stranger ∷ heard_other 7 67 ∷ [])) []
    ∷ row (endless ∷ heard 7 67 ∷ []) []
    ∷ row (monitor ∷ map (λ d. heard d 67) (devices 65)) (map (λ d. (0, d, 0, 67)) (devices 64))
    ∷ []

-- 64 devices at one RSSI. An equal RSSI finds no room; one more displaces the earliest started; a weak matching
-- packet, good or not, makes its pair the one displaced, and one that does not match does not; a pair of the packet's
-- own device is updated first and is not displaced.
abbrev crowd : List (Frame small)
crowd = monitor ∷ map (λ d. heard d 70) (devices 64)

abbrev held70 : List ℕ → List (ℕ × ℕ × ℕ × ℕ)
held70 l = map (λ d. (0, d, 0, 70)) l

abbrev without : ℕ → List ℕ → List ℕ
without x [] = []
without x (y ∷ l) = cond (eqb x y) (without x l) (y ∷ without x l)

abbrev crowded : List Row
crowded =
    row (crowd ++ (heard 99 70 ∷ [])) (held70 (devices 64))
    ∷ row (crowd ++ (heard 99 71 ∷ [])) (held70 (without 0 (devices 64)) ++ ((0, 99, 0, 71) ∷ []))
    ∷ row (crowd ++ (heard 5 50 ∷ heard 99 67 ∷ [])) (held70 (without 5 (devices 64)) ++ ((0, 99, 0, 67) ∷ []))
    ∷ row (crowd ++ (heard 5 40 ∷ heard 99 67 ∷ [])) (held70 (without 5 (devices 64)) ++ ((0, 99, 0, 67) ∷ []))
    ∷ row (crowd ++ (heard_other 5 40 ∷ heard 99 71 ∷ [])) (held70 (without 0 (devices 64)) ++ ((0, 99, 0, 71) ∷ []))
    ∷ row (crowd ++ (heard 5 50 ∷ heard 99 66 ∷ []))
    (map (λ d. (0, d, 0, cond (eqb d 5) 50 70)) (devices 64))
    ∷ row (crowd ++ (monitor ∷ heard 0 71 ∷ []))
    ((0, 0, 0, 71) ∷ held70 (without 1 (without 0 (devices 64))) ++ ((1, 0, 0, 71) ∷ []))
    ∷ []

abbrev pub rows : List Row
rows = runs ++ starts ++ limits ++ crowded

-- The claim: every row holds.
pub edges : map (λ r. (run small (past r)).pairs) rows ≡ map (λ r. r.held) rows
edges = refl

-- A displaced pair starts anew, last. In two steps: the first is computed before the second.
abbrev once : State small
once = record {
  mons = (0, record { high = 67; low = 47; interval = 3; kind = 0 }) ∷ [];
  pairs = held70 (without 0 (devices 64)) ++ ((0, 99, 0, 71) ∷ []);
}

first_out : run small (reverse (crowd ++ (heard 99 71 ∷ []))) ≡ once
first_out = refl

second-out : (step small once (heard 0 72)).pairs
    ≡ held70 (without 1 (without 0 (devices 64))) ++ ((0, 99, 0, 71) ∷ (0, 0, 0, 72) ∷ [])
second-out = refl

-- The past of it, and what is then held.
abbrev pub again_past : List (Frame small)
again_past = heard 0 72 ∷ reverse (crowd ++ (heard 99 71 ∷ []))

abbrev pub again_held : List (Pair small)
again_held = held70 (without 1 (without 0 (devices 64))) ++ ((0, 99, 0, 71) ∷ (0, 0, 0, 72) ∷ [])

pub back-again : (run small again_past).pairs ≡ again_held
back-again = ap (λ s. (step small s (heard 0 72)).pairs) first_out ∙ second-out

-- Two monitors start at one packet and displace two pairs, one after the other.
abbrev filled : State small
filled = record {
  mons = (0, record { high = 67; low = 47; interval = 3; kind = 0 })
      ∷ (1, record { high = 67; low = 47; interval = 3; kind = 0 }) ∷ [];
  pairs = held70 (devices 64);
}

abbrev strongest : Packet
strongest = record { device = 99; rssi = 71; kind = 0 }

fill : run small (reverse (crowd ++ (monitor ∷ []))) ≡ filled
fill = refl

turn-0 : turns small filled.mons strongest 1
    (map_some (move small filled.mons (packet strongest)) filled.pairs)
    ≡ held70 (without 0 (devices 64)) ++ ((0, 99, 0, 71) ∷ [])
turn-0 = refl

turns-1 : span small filled.mons strongest 1 15 (held70 (without 0 (devices 64)) ++ ((0, 99, 0, 71) ∷ []))
    ≡ held70 (without 1 (without 0 (devices 64))) ++ ((0, 99, 0, 71) ∷ (1, 99, 0, 71) ∷ [])
turns-1 = refl

all-turns : (step small filled (heard 99 71)).pairs
    ≡ span small filled.mons strongest 1 15
    (turns small filled.mons strongest 1 (map_some (move small filled.mons (packet strongest)) filled.pairs))
all-turns =
    sym (span-turns small filled.mons strongest 1 15
    (map_some (move small filled.mons (packet strongest)) filled.pairs))

abbrev pub two_past : List (Frame small)
two_past = heard 99 71 ∷ reverse (crowd ++ (monitor ∷ []))

abbrev pub two_held : List (Pair small)
two_held = held70 (without 1 (without 0 (devices 64))) ++ ((0, 99, 0, 71) ∷ (1, 99, 0, 71) ∷ [])

pub two_out : (run small two_past).pairs ≡ two_held
two_out = ap (λ s. (step small s (heard 99 71)).pairs) fill ∙ steps
  where
    steps : (step small filled (heard 99 71)).pairs
        ≡ held70 (without 1 (without 0 (devices 64))) ++ ((0, 99, 0, 71) ∷ (1, 99, 0, 71) ∷ [])
    steps = all-turns ∙ ap (span small filled.mons strongest 1 15) turn-0 ∙ turns-1
