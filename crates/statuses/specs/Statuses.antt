-- The statuses of the vendor commands, with what they take from the state as parameters. Document 01, Commands;
-- document 02, T-13. The laws say that each is the model's. Assumes nothing.
use Rattle.std.specs.Prelude.{ℕ, Bool, ◌||◌, not, List, ltb, eqb, length, get_or}
use Rattle.laws.specs.Tests.{pick}
use Rattle.model.specs.Monitors.{allowed, parameters, fault_of, monitor_of, invalid, full, disallowed, unknown}
use Rattle.model.specs.Commands.{table, params_in, sub_of}
use Rattle.model.specs.Layout.{first_type_in, second_type_in}

-- a monitor's command, by its sub-opcode; the place of its condition's type
unfoldable pub adds_by : ℕ → Bool
adds_by sub = eqb sub 0x03 || eqb sub 0x0F

unfoldable pub type_by : ℕ → ℕ
type_by sub = pick (eqb sub 0x0F) second_type_in first_type_in

-- what version 2 adds is allowed
unfoldable pub permits : List ℕ → Bool
permits l = allowed (parameters (monitor_of l)) (monitor_of l).sampling (monitor_of l).condition_type

-- 03 and 0F, given whether there is room for one more monitor
unfoldable pub add_of : Bool → List ℕ → ℕ
add_of room l =
    pick (not (adds_by (sub_of l))) unknown (
    pick (ltb (length l) (params_in table (sub_of l))) invalid (
    pick (not (eqb (fault_of (monitor_of l)) 0)) (fault_of (monitor_of l)) (
    pick room 0 full)))

-- 04, given whether the handle is live
unfoldable pub cancel_of : Bool → List ℕ → ℕ
cancel_of live l = pick (eqb (length l) (params_in table 0x04)) (pick live 0 invalid) invalid

-- 05, given the present setting
unfoldable pub enable_of : ℕ → List ℕ → ℕ
enable_of filter l =
    pick (not (eqb (length l) (params_in table 0x05))) invalid (
    pick (ltb 1 (get_or l 1 0)) invalid (
    pick (eqb (get_or l 1 0) filter) disallowed 0))
