-- The walk that asks whether gains fit: what each pair of a row and a gain tells. Assumes nothing.
use Rattle.std.proofs.Common.{ℕ, ◌+◌, ◌<◌, ◌≤◌, ◌≡◌, true, false, List, length, drop, map, get_or, sym, ap, ap₂, ◌∙◌, arith}
use Rattle.std.proofs.lemmas.List.{length-map}
use Rattle.totals.specs.declared.Row.{Row}
use Rattle.totals.specs.declared.Gain.{Gain}
use Rattle.totals.specs.Two.{every_two}
use Rattle.totals.specs.TwoLaws.{every-two-step, every-two-stop, every-two-end}
use Rattle.totals.specs.Table.{empty, table_rows, row_fits}
use Rattle.totals.specs.Gains.{no_gain, wide_row, fits_in}
use Rattle.totals.specs.GainsLaws.{get_d-wide, fits-sixteen}

module _ (ys : List Row) (gs : List Gain) (n : length ys ≡ table_rows) (m : length gs ≡ table_rows) (i : ℕ) where
  abbrev wides : List Row
  wides = map wide_row gs

  long : length wides ≡ table_rows
  long = length-map gs wide_row ∙ m

  -- what is left behind i pairs tells as the whole does
  abbrev pub Told : Type 0
  Told = every_two row_fits (drop i ys) (drop i wides) ≡ every_two row_fits ys wides

  module _ (h : i < length ys) {a w : Row} {g : Gain} (ea : a ≡ get_or ys i empty) (eg : g ≡ get_or gs i no_gain)
      (ew : w ≡ wide_row g) where
    here : row_fits a w ≡ row_fits (get_or ys i empty) (get_or wides i empty)
    here = ap₂ row_fits ea (ew ∙ ap wide_row eg ∙ sym (get_d-wide gs i))

    pub fit-stop : Told → row_fits a w ≡ false → false ≡ fits_in ys gs
    fit-stop t f =
        every-two-stop row_fits ys wides i empty h (omega (arith, long)) (sym here ∙ f) ∙ t
        ∙ sym (fits-sixteen ys gs n)

    pub fit-step : Told → row_fits a w ≡ true
        → every_two row_fits (drop (i + 1) ys) (drop (i + 1) wides) ≡ every_two row_fits ys wides
    fit-step t f = every-two-step row_fits ys wides i empty h (omega (arith, long)) (sym here ∙ f) ∙ t

  pub fit-end : length ys ≤ i → Told → true ≡ fits_in ys gs
  fit-end h t = every-two-end row_fits ys wides i h ∙ t ∙ sym (fits-sixteen ys gs n)
