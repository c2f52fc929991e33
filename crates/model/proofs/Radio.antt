-- The model's monitors, packets and frames as the history rule of the crate rule reads them. Document 01, Watching,
-- by history.
use Rattle.std.specs.Prelude.{ℕ, ◌+◌, ◌*◌, ◌≤◌, ◌<◌, ◌≡◌, refl, Bool, true, false, ◌&&◌, not, List, [], ◌∷◌, map, leb, ltb, eqb, length, get_or}
use Rattle.std.proofs.Common.{sym, ap, ◌∙◌, arith, leb-true, eqb-true}
use Rattle.laws.specs.Tests.{pick, sames}
use Rattle.laws.specs.TestsLaws.{sames-eq, sames-refl}
use Rattle.rule.specs.Radio.{Radio, Frame, add, cancel, packet, tick, other}
use Rattle.model.specs.Types.{Model, Monitor, Packet, Pair, device_of, ticks_of}
use Rattle.model.specs.Level.{level}
use Rattle.model.specs.Monitors.{matches, good, strong, run_of, accepts, monitor_of, fault_of}
use Rattle.model.proofs.AcceptedLaws.{accepts-run}
use Rattle.model.specs.Commands.{adds_monitor, sub_of, params_in, table}
use Rattle.model.specs.Frames.{Body, Typed, command, packet as packet_frame, tick as tick_frame, bad, typed}

-- RSSI by its level, which is ordered as dBm are (Levels, `below-levels`)
abbrev pub radio : Radio
radio =
    record {
      Mon = Monitor;
      Pkt = Packet;
      Dev = List ℕ;
      same = sames;
      same-eq = sames-eq;
      same_refl = sames-refl;
      dev = device_of;
      matches = matches;
      good = good;
      strong = strong;
      rssi = λ p. level p.rssi;
      run = run_of;
      okay = accepts;
      okay-run = accepts-run;
    }

-- a command as the rule reads it: 03 or 0F with parameters enough, 04 of the right length, any other
unfoldable pub core_command : List ℕ → Frame radio
core_command l =
    pick (adds_monitor l) (pick (ltb (length l) (params_in table (sub_of l))) other (add (monitor_of l))) (
    pick (eqb (sub_of l) 0x04) (pick (eqb (length l) (params_in table 0x04)) (cancel (get_or l 1 0)) other) other)

unfoldable pub core_typed : Typed → Frame radio
core_typed (command opcode l) = core_command l
core_typed (packet_frame p) = packet p
core_typed tick_frame = tick
core_typed bad = other

unfoldable pub core : Body → Frame radio
core b = core_typed (typed b)
