-- Soundness, clause by clause. Document 01, The image ("Sound: ..") and Sizes of the gateway. A test on the model;
-- that every unused octet and place of the block is 0 is the test of Block.
use Rattle.std.specs.Prelude.{ℕ, zero, suc, ◌+◌, Bool, true, false, ◌&&◌, ◌||◌, not, List, [], ◌∷◌, leb, ltb, eqb, length}
use Rattle.std.proofs.Math.Option.{Option, none, some}
use Rattle.laws.specs.Tests.{pick}
use Rattle.laws.specs.Loops.{every, some as some_of}
use Rattle.octets.specs.Little.{is_octet}
use Rattle.rule.specs.Engine.{find}
use Rattle.sessions.specs.Machine.{last_number}
use Rattle.model.specs.Types.{Model, Monitor, Pair, watched}
use Rattle.model.specs.Level.{in_range, sum_in_range}
use Rattle.model.specs.Monitors.{accepts, run_of, sifts, windowed}
use Rattle.model.specs.Watch.{is_pair, holds}
use Rattle.model.specs.Layout.{extra_size, most_data, most_monitors, most_pairs, most_prefix}

-- a list of at most n octets
unfoldable pub octets_up_to : ℕ → List ℕ → Bool
octets_up_to n l = leb (length l) n && every is_octet l

-- "Settings at start: vendor opcode 0xFC00 to 0xFFFF, event prefix of 0 to 32 octets."
unfoldable pub sound_settings : ℕ → List ℕ → Bool
sound_settings opcode prefix = leb 0xFC00 opcode && leb opcode 0xFFFF && octets_up_to most_prefix prefix

-- the added parameters are 25 octets
unfoldable pub sound_extra : Option (List ℕ) → Bool
sound_extra none = true
sound_extra (some l) = eqb (length l) extra_size && every is_octet l

-- "every monitor as 0x03 would accept it"; T-13: version 2 "where its command would accept it"; its fields octets
unfoldable pub sound_monitor : Monitor → Bool
sound_monitor m =
    accepts m && is_octet m.high && is_octet m.low && is_octet m.sampling && every is_octet m.condition
    && sound_extra m.extra

-- "monitors held in rising handle order, handles 0 to 15"; each handle at least k
unfoldable pub sound_monitors : ℕ → List (ℕ × Monitor) → Bool
sound_monitors k [] = true
sound_monitors k (x ∷ l) = leb k x.0 && ltb x.0 most_monitors && sound_monitor x.1
    && sound_monitors (suc x.0) l

-- "for P in 1 to 0xFE window ticks below P, packets at most the position, sum from −127 × packets to 20 × packets;
-- with other sampling window ticks and packets 0"
unfoldable pub sound_window : ℕ → Monitor → Pair → Bool
sound_window position m q =
    pick (windowed m) (
    ltb q.ticks m.sampling && leb q.packets position && ltb q.sum 18446744073709551616
    && sum_in_range q.sum q.packets)
    (eqb q.ticks 0 && eqb q.packets 0)

-- T-13: "for monitors that filter duplicates the A3 line's last fields keep that packet though packets is 0 (event
-- type 0xFF, n 0 while there is none)"; for others event type and n are 0
unfoldable pub sound_latest : Bool → ℕ → List ℕ → Bool
sound_latest true event adv = leb event 3 || (eqb event 0xFF && eqb (length adv) 0)
sound_latest false event adv = eqb event 0 && eqb (length adv) 0

-- "with valid .. event type"; "with packets 0 the sum, event type and n are 0"
unfoldable pub sound_empty : Monitor → Pair → Bool
sound_empty m q =
    pick (leb 1 q.packets) (leb q.event 3) (eqb q.sum 0 && sound_latest (sifts m) q.event q.adv)

-- "with valid address type .., n at most 31"; T-05: the kept RSSI "between −127 and 20"
unfoldable pub sound_fields : Pair → Bool
sound_fields q =
    leb q.address_type 1 && eqb (length q.address) 6 && every is_octet q.address && octets_up_to most_data q.adv
    && (is_octet q.kept && in_range q.kept)

-- "of live handles"; "ticks below 10 × interval"
unfoldable pub sound_of : ℕ → Option Monitor → Pair → Bool
sound_of position none q = false
sound_of position (some m) q = sound_fields q && ltb q.since_good (run_of m) && sound_window position m q
    && sound_empty m q

unfoldable pub sound_pair : Model → Pair → Bool
sound_pair m q = sound_of m.position (find m.mons q.handle) q

-- "pairs distinct"
unfoldable pub apart : List Pair → Bool
apart [] = true
apart (q ∷ l) = not (holds l q.handle (watched q)) && apart l

-- "Sound: settings in range, filter 0 or 1; monitors ..; pairs distinct, at most 64, .."
unfoldable pub sound_model : Model → Bool
sound_model m =
    leb m.position last_number && leb m.filter 1 && sound_settings m.opcode m.prefix
    && sound_monitors 0 m.mons
    && leb (length m.pairs) most_pairs && apart m.pairs && every (sound_pair m) m.pairs
