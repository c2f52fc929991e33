-- The octets of the handles in two passes: by their conditions, then those whose options admit the packet's device
-- (document 02, T-13). The second pass asks keys for the octets alone that the first left. Assumes nothing.
use Rattle.std.specs.Prelude.{ℕ, Bool, List, [], ◌∷◌, drop, get_or}
use Rattle.laws.specs.Tests.{pick}
use Rattle.laws.specs.Loops.{up_to}
use Rattle.laws.specs.Rows.{row}
use Rattle.model.specs.Types.{Packet}
use Rattle.model.specs.Monitors.{admits, parameters}
use Rattle.model.specs.Image.{monitor_in}
use Rattle.marks.specs.Monitors.{met_mark}
use Rattle.marks.specs.Asked.{mark_if}
use Rattle.model.specs.Layout.{monitor_size, monitors_at, most_monitors}

-- whether the options at a handle admit the packet's device
abbrev pub admits_at : List ℕ → Packet → ℕ → Bool
admits_at s p h = admits (parameters (monitor_in (row monitor_size h (drop monitors_at s))).1) p

-- the octets by the conditions, of the handles that are asked
unfoldable pub met_if : List ℕ → List ℕ → Packet → List ℕ
met_if asked s p =
    up_to (λ h. mark_if (get_or asked h 0) (met_mark (row monitor_size h (drop monitors_at s)) p) ∷ []) most_monitors

-- those of them whose handle's options admit the device
unfoldable pub admitted : List ℕ → List ℕ → Packet → List ℕ
admitted l s p = up_to (λ h. pick (admits_at s p h) (get_or l h 0) 0 ∷ []) most_monitors
