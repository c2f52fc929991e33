-- What stands where in a sound block, told by the state that it holds. Document 01, The image. Assumes nothing.
use Rattle.std.specs.Prelude.{ℕ, ◌≤◌, ◌<◌, ◌≡◌, true, List, length, take, drop, get_or, replicate}
use Rattle.std.proofs.Common.{sym, ap, ◌∙◌}
use Rattle.laws.specs.Rows.{row}
use Rattle.rule.specs.Engine.{find}
use Rattle.model.specs.Types.{Pair}
use Rattle.model.specs.Image.{pair_row}
use Rattle.model.specs.Block.{pad_to, monitor_place, pair_block, monitor_table, pair_table, model_of, sound}
use Rattle.blocks.specs.Facts.{SoundModel}
use Rattle.blocks.specs.FactsLaws.{sound-facts}
use Rattle.blocks.specs.TablesLaws.{from}
use Rattle.blocks.specs.PairsLaws.{pair_places}
use Rattle.blocks.specs.Block.{Measured}
use Rattle.blocks.specs.BlockLaws.{measured, padded-held, sound-held, get_d-count, take-pairs, row-monitors}
use Rattle.blocks.specs.BlockLaws.{table-monitors, row-pairs, row-pairs-zero, table-pairs, read_count}
use Rattle.model.specs.Layout.{count_at, monitor_size, monitors_at, most_monitors, most_pairs, pair_size, pairs_at, pairs_size, prefix_length_at}

module _ (s : List ℕ) (e : sound s ≡ true) where
  pub held-facts-of : SoundModel (model_of s)
  held-facts-of = sound-facts (model_of s) (sound-held s e)

  pub held-measured : Measured (model_of s)
  held-measured = measured (model_of s) (sound-held s e)

  -- the number of octets of the prefix, the number of pairs
  pub held-prefix-count : get_or s prefix_length_at 0 ≡ length (model_of s).prefix
  held-prefix-count = ap (λ (l : List ℕ). get_or l 7 0) (sym (padded-held s e)) ∙ read_count (model_of s)

  pub held-count : get_or s count_at 0 ≡ length (model_of s).pairs
  held-count = ap (λ (l : List ℕ). get_or l count_at 0) (sym (padded-held s e)) ∙ get_d-count (model_of s) held-measured

  -- the rows of a handle, of a pair, behind the pairs
  pub held-monitor : (h : ℕ) → h < most_monitors
      → row monitor_size h (drop monitors_at s) ≡ monitor_place h (find (model_of s).mons h)
  held-monitor h b =
      ap (λ (l : List ℕ). row monitor_size h (drop monitors_at l)) (sym (padded-held s e))
      ∙ row-monitors (model_of s) held-measured h b

  pub held-pair : (i : ℕ) (d : Pair) → i < length (model_of s).pairs
      → row pair_size i (drop pairs_at s) ≡ pad_to pair_size (pair_row (get_or (model_of s).pairs i d))
  held-pair i d b =
      ap (λ (l : List ℕ). row pair_size i (drop pairs_at l)) (sym (padded-held s e))
      ∙ row-pairs (model_of s) held-measured i d b

  pub held-zero : (i : ℕ) → length (model_of s).pairs ≤ i → i < most_pairs
      → row pair_size i (drop pairs_at s) ≡ replicate pair_size 0
  held-zero i b c =
      ap (λ (l : List ℕ). row pair_size i (drop pairs_at l)) (sym (padded-held s e))
      ∙ row-pairs-zero (model_of s) held-measured i b c

  -- the tables, and the pair part
  pub held-monitors : monitor_table s ≡ from (λ h. monitor_place h (find (model_of s).mons h)) 0 most_monitors
  held-monitors = ap monitor_table (sym (padded-held s e)) ∙ table-monitors (model_of s) held-measured

  pub held-pairs : pair_table s ≡ pair_places (model_of s).pairs
  held-pairs = ap pair_table (sym (padded-held s e)) ∙ table-pairs (model_of s) held-measured

  pub held-part : take pairs_size (drop pairs_at s) ≡ pair_block (model_of s).pairs
  held-part = ap (λ (l : List ℕ). take pairs_size (drop pairs_at l)) (sym (padded-held s e))
      ∙ take-pairs (model_of s) held-measured
