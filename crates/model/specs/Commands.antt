-- Commands: the table of lengths, each status in its order, and what a command changes. Document 01, Commands.
use Rattle.std.specs.Prelude.{ℕ, ◌+◌, Bool, true, false, ◌&&◌, ◌||◌, not, List, [], ◌∷◌, ◌++◌, leb, ltb, eqb, length, get_or}
use Rattle.std.proofs.Math.Option.{Option, none, some}
use Rattle.laws.specs.Tests.{pick}
use Rattle.laws.specs.Loops.{keep}
use Rattle.rule.specs.Engine.{find, slot, insert, insert_at, remove}
use Rattle.model.specs.Types.{Model, Monitor, Pair, with_lists, with_filter}
use Rattle.model.specs.Monitors.{fault_of, monitor_of, invalid, full, disallowed, unknown}
use Rattle.model.specs.Layout.{most_monitors}

-- A row of the table: a sub-opcode, its parameter length counting the sub-opcode (03 and 0F: the least), and the
-- number of return parameters on success (00: less the prefix).
pub record SubCommand : Type 0 where
  pub sub : ℕ
  pub params : ℕ
  pub answer : ℕ

-- "A fixed table gives each sub-opcode its parameter length and answer length."
unfoldable pub table : List SubCommand
table =
    record { sub = 0x00; params = 1; answer = 11 }
    ∷ record { sub = 0x03; params = 6; answer = 3 }
    ∷ record { sub = 0x04; params = 2; answer = 2 }
    ∷ record { sub = 0x05; params = 2; answer = 2 }
    ∷ record { sub = 0x0F; params = 31; answer = 3 } ∷ []

-- the parameter length and the answer length of a sub-opcode in the rows; 0 where it has none
unfoldable pub params_in : List SubCommand → ℕ → ℕ
params_in [] sub = 0
params_in (r ∷ rs) sub = pick (eqb r.sub sub) r.params (params_in rs sub)

unfoldable pub answer_in : List SubCommand → ℕ → ℕ
answer_in [] sub = 0
answer_in (r ∷ rs) sub = pick (eqb r.sub sub) r.answer (answer_in rs sub)

-- whether there is something
unfoldable pub present : {A : Type 0} → Option A → Bool
present none = false
present (some a) = true

-- the sub-opcode of a parameter list
unfoldable pub sub_of : List ℕ → ℕ
sub_of l = get_or l 0 0

-- "00 .. of wrong length: 0x12"
unfoldable pub read_status : List ℕ → ℕ
read_status l = pick (eqb (length l) (params_in table 0x00)) 0 invalid

-- a monitor's command: 03, or 0F, whose "other checks and .. answers are 03's, with that sub-opcode and its own least
-- length (H)"
unfoldable pub adds_monitor : List ℕ → Bool
adds_monitor l = eqb (sub_of l) 0x03 || eqb (sub_of l) 0x0F

-- "03 in this order: fewer than 6 parameter octets counting the sub-opcode, .. then 16 monitors live: 0x07"
unfoldable pub add_status : Model → List ℕ → ℕ
add_status m l =
    pick (ltb (length l) (params_in table (sub_of l))) invalid (
    pick (not (eqb (fault_of (monitor_of l)) 0)) (fault_of (monitor_of l)) (
    pick (present (slot m.mons most_monitors 0)) 0 full))

-- "04 of wrong length: 0x12. 04 with no such live handle: 0x12 (H)"
unfoldable pub cancel_status : Model → List ℕ → ℕ
cancel_status m l =
    pick (eqb (length l) (params_in table 0x04)) (pick (present (find m.mons (get_or l 1 0))) 0 invalid) invalid

-- "05 of wrong length: 0x12. 05 with enable above 1: 0x12; equal to the present setting: 0x0C (000)"
unfoldable pub enable_status : Model → List ℕ → ℕ
enable_status m l =
    pick (not (eqb (length l) (params_in table 0x05))) invalid (
    pick (ltb 1 (get_or l 1 0)) invalid (
    pick (eqb (get_or l 1 0) m.filter) disallowed 0))

-- a command's status; 0 is success. "other: 01"
unfoldable pub status : Model → List ℕ → ℕ
status m l =
    pick (eqb (sub_of l) 0x00) (read_status l) (
    pick (adds_monitor l) (add_status m l) (
    pick (eqb (sub_of l) 0x04) (cancel_status m l) (
    pick (eqb (sub_of l) 0x05) (enable_status m l) unknown)))

-- the new handle: "the lowest not live (H)"; 0 where all are live
unfoldable pub handle_or : Option ℕ → ℕ
handle_or none = 0
handle_or (some h) = h

unfoldable pub new_handle : Model → ℕ
new_handle m = handle_or (slot m.mons most_monitors 0)

-- "Features are 0x0C"; T-13: "feature bit 0x400 is added": 8 octets
unfoldable pub features : List ℕ
features = 0x0C ∷ 0x04 ∷ 0 ∷ 0 ∷ 0 ∷ 0 ∷ 0 ∷ 0 ∷ []

-- "Return, success"
unfoldable pub success : Model → List ℕ → List ℕ
success m l =
    pick (eqb (sub_of l) 0x00) (0x00 ∷ 0x00 ∷ (features ++ (length m.prefix ∷ m.prefix))) (
    pick (adds_monitor l) (0x00 ∷ sub_of l ∷ new_handle m ∷ []) (
    0x00 ∷ sub_of l ∷ []))

-- "Return, failure": status and sub-opcode, and for 03 and 0F a 00
unfoldable pub failure : ℕ → List ℕ → List ℕ
failure s l = pick (adds_monitor l) (s ∷ sub_of l ∷ 0x00 ∷ []) (s ∷ sub_of l ∷ [])

-- the return parameters
unfoldable pub returned : Model → List ℕ → List ℕ
returned m l = pick (eqb (status m l) 0) (success m l) (failure (status m l) l)

-- "Cancelling forgets the monitor and its pairs and writes no stop event (H)."
unfoldable pub of_other : ℕ → Pair → Bool
of_other h q = not (eqb h q.handle)

unfoldable pub cancelled : Model → ℕ → Model
cancelled m h = with_lists m (remove h m.mons) (keep (of_other h) m.pairs)

-- a monitor more, under the lowest handle not live
unfoldable pub added : Model → Monitor → Model
added m new = with_lists m (insert_at (slot m.mons most_monitors 0) new m.mons) m.pairs

-- what a command that succeeds changes
unfoldable pub changed : Model → List ℕ → Model
changed m l =
    pick (adds_monitor l) (added m (monitor_of l)) (
    pick (eqb (sub_of l) 0x04) (cancelled m (get_or l 1 0)) (
    pick (eqb (sub_of l) 0x05) (with_filter m (get_or l 1 0)) m))

-- "Failures are executed frames: they advance the position and change nothing else." (The position moves in Step.)
unfoldable pub commanded : Model → List ℕ → Model
commanded m l = pick (eqb (status m l) 0) (changed m l) m
