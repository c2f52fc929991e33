-- An octet of a monitor's row in the whole block.
use Rattle.std.specs.Prelude.{ℕ, ◌+◌, ◌-◌, ◌*◌, ◌<◌, ◌≡◌, List, drop}
use Rattle.std.proofs.Common.{sym, ◌∙◌, get_or-drop}
use Rattle.std.proofs.Math.Path.{ap}
use native.Mathlib.Omega.{arith}
use Rattle.std.proofs.Math.ListN.{get_or}
use Rattle.laws.specs.RowsLaws.{get_d-row}
use Rattle.rule.specs.Engine.{find}
use Rattle.model.specs.Types.{Model}
use Rattle.model.specs.Block.{padded, monitor_place}
use Rattle.blocks.specs.Block.{Measured}
use Rattle.blocks.specs.BlockLaws.{row-monitors}
use Rattle.model.specs.Layout.{head_size, monitor_size, monitors_at, most_monitors}

module _ (m : Model) (f : Measured m) where
  pub octet-at : (k h : ℕ) → k < monitor_size → h < most_monitors
      → get_or (padded m) (monitors_at + k + monitor_size * h) 0 ≡ get_or
      (monitor_place h (find m.mons h)) k 0
  octet-at k h a b =
      let e : monitors_at + k + monitor_size * h ≡ monitors_at + (monitor_size * h + k) = omega arith in
      ap (λ (n : ℕ). get_or (padded m) n 0) e ∙ sym (get_or-drop head_size (padded m) (monitor_size * h + k) 0)
      ∙ sym (get_d-row monitor_size h k (drop monitors_at (padded m)) 0 a)
      ∙ ap (λ (l : List ℕ). get_or l k 0) (row-monitors m f h b)
