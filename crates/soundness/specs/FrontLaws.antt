-- The monitors of a block whose clauses hold: those that its rows hold, by handle, and their table. Document 01, The
-- image (A1). Assumes nothing.
use Rattle.std.specs.Prelude.{ℕ, ◌-◌, ◌*◌, ◌≤◌, ◌<◌, ◌≡◌, true, length, take, drop}
use Rattle.std.proofs.Math.Path.{sym, ap}
use Rattle.std.proofs.Common.{◌∙◌, inr, arith, length-drop, lt-ltb, le-ltb}
use mathlib.Core.List.{List, map}
use Rattle.std.proofs.Math.Option.{none, some}
use Rattle.laws.specs.TestsLaws.{pick_true, pick-false, cases-le}
use Rattle.laws.specs.Loops.{every, keep}
use Rattle.laws.specs.LoopsLaws.{every_take, every_drop}
use Rattle.laws.specs.Rows.{row}
use Rattle.laws.specs.RowsLaws.{length-row}
use Rattle.octets.specs.Little.{is_octet}
use Rattle.rule.specs.BaseLaws.{none≢some}
use Rattle.rule.specs.Engine.{find}
use Rattle.model.specs.Types.{Monitor}
use Rattle.model.specs.Image.{monitor_in}
use Rattle.model.specs.Sound.{sound_monitors}
use Rattle.model.specs.Block.{monitor_place, monitor_block, monitor_table, in_use, model_of}
use Rattle.blocks.specs.TablesLaws.{places_same}
use Rattle.soundness.specs.BelowLaws.{all-below, rows-from, rows-up, from-same}
use Rattle.soundness.specs.Clauses.{monitor_row_at, monitor_of_row, monitor_test, live_at, monitors_test}
use Rattle.soundness.specs.MonitorsLaws.{row-place, row-sound}
use Rattle.soundness.specs.ListsLaws.{mons_of, Sounds, find-in, find-out, mons-sound, mons-read}
use Rattle.model.specs.Layout.{block_size, head_size, monitor_size, monitors_at, monitors_size, most_monitors}

pub row-octets : (n i : ℕ) (t : List ℕ) → every is_octet t ≡ true → every is_octet (row n i t) ≡ true
unfolding row
row-octets n i t o = every_take is_octet n (drop (n * i) t) (every_drop is_octet (n * i) t o)

module _ (s : List ℕ) (l : length s ≡ block_size) where
  pub length-monitor_row_at : (h : ℕ) → h < most_monitors → length (monitor_row_at s h) ≡ monitor_size
  unfolding monitor_row_at
  length-monitor_row_at h b =
      length-row monitor_size h most_monitors (drop monitors_at s) b (rw (length-drop head_size s) (omega arith))

  pub live-row : (h : ℕ) → h < most_monitors → live_at s h ≡ monitor_of_row (monitor_row_at s h)
  unfolding live_at
  live-row h b = pick_true (monitor_of_row (monitor_row_at s h)) none (lt-ltb h most_monitors b)

  pub live-none : (h : ℕ) → most_monitors ≤ h → live_at s h ≡ none
  unfolding live_at
  live-none h b = pick-false (monitor_of_row (monitor_row_at s h)) none (le-ltb h most_monitors b)

module _ (s : List ℕ) (l : length s ≡ block_size) (o : every is_octet s ≡ true) (e : monitors_test s ≡ true) where
  row-test : (h : ℕ) → h < most_monitors → monitor_test h (monitor_row_at s h) ≡ true
  unfolding monitors_test
  row-test h b = all-below (λ (h : ℕ). monitor_test h (monitor_row_at s h)) most_monitors e h b

  pub row-live : (h : ℕ) → h < most_monitors → monitor_row_at s h ≡ monitor_place h (live_at s h)
  row-live h b =
      row-place h (monitor_row_at s h) (length-monitor_row_at s l h b) (row-test h b)
      ∙ ap (monitor_place h) (sym (live-row s l h b))

  pub live-sound : Sounds (live_at s)
  unfolding monitor_row_at
  live-sound h m q =
      cases-le most_monitors h (λ (u : most_monitors ≤ h). absurd (none≢some (sym (live-none s l h u) ∙ q)))
      (λ (u : h < most_monitors).
      row-sound h (monitor_row_at s h) (length-monitor_row_at s l h u)
      (row-octets monitor_size h (drop monitors_at s) (every_drop is_octet head_size s o))
      (row-test h u) m (sym (live-row s l h u) ∙ q))

  -- the monitors that the block holds
  pub mons-live : (model_of s).mons ≡ mons_of (live_at s) 0 most_monitors
  unfolding model_of monitor_table monitor_row_at
  mons-live =
      ap (λ (x : List (List ℕ)). map monitor_in (keep in_use x)) (rows-from monitor_size most_monitors (drop monitors_at s)
      ∙ from-same (λ (h : ℕ). row monitor_size h (drop monitors_at s)) (λ (h : ℕ). monitor_place h (live_at s h)) 0
      most_monitors
      (λ h a b. row-live h b))
      ∙ mons-read (live_at s) 0 most_monitors live-sound

  pub find-live : (h : ℕ) → find (model_of s).mons h ≡ live_at s h
  find-live h =
      ap (λ (x : List (ℕ × Monitor)). find x h) mons-live
      ∙ cases-le most_monitors h
      (λ (u : most_monitors ≤ h). find-out (live_at s) 0 most_monitors h (inr u) ∙ sym (live-none s l h u))
      (λ (u : h < most_monitors). find-in (live_at s) 0 most_monitors h (omega arith) u)

  pub held-mons-sound : sound_monitors 0 (model_of s).mons ≡ true
  held-mons-sound = ap (sound_monitors 0) mons-live ∙ mons-sound (live_at s) 0 most_monitors (omega arith) live-sound

  -- and their table
  pub block-live : monitor_block (model_of s).mons ≡ take monitors_size (drop monitors_at s)
  unfolding monitor_block monitor_row_at
  block-live =
      places_same (λ (h : ℕ). monitor_place h (find (model_of s).mons h))
      (λ (h : ℕ). row monitor_size h (drop monitors_at s)) most_monitors
      (λ h b. ap (monitor_place h) (find-live h) ∙ sym (row-live h b))
      ∙ rows-up monitor_size (drop monitors_at s) most_monitors
