-- What asking says of a sound state, by its pairs alone: the handles that hold the device, how many they are and the
-- lowest, and the same of every block that is sound. Document 02, T-02: "how many monitors watch it and the lowest
-- such handle, or that there is none". Assumes nothing.
use Rattle.std.specs.Prelude.{ℕ, zero, suc, ◌+◌, ◌*◌, ◌%◌, ◌^◌, ◌≤◌, ◌<◌, ◌≡◌, Bool, true}
use Rattle.std.proofs.Math.Path.{refl, sym, ap}
use Rattle.std.proofs.Common.{◌∙◌, add-zero, mod-eq_of_lt, arith, take_at, take_all, get_or-drop}
use mathlib.Core.List.{List, [], ◌∷◌, ◌++◌, map, append_assoc}
use lib.ListN.{length, take, drop, get_or}
use Rattle.std.proofs.Math.Seq.{drop_at, get_or_at}
use Rattle.laws.specs.Tests.{pick, sames}
use Rattle.laws.specs.Loops.{keep}
use Rattle.laws.specs.Rows.{rows}
use Rattle.octets.specs.Little.{little, octets_of, value}
use Rattle.octets.specs.LittleLaws.{length-octets, little-value, value-octets}
use Rattle.rule.specs.Base.{All}
use Rattle.model.specs.Types.{Model, Pair}
use Rattle.model.specs.Sound.{sound_model}
use Rattle.model.specs.Watch.{holds}
use Rattle.model.specs.Block.{padded}
use Rattle.model.specs.Layout.{block_size, most_monitors, most_pairs}
use Rattle.blocks.specs.FactsLaws.{sound-facts}
use Rattle.blocks.specs.BoundsLaws.{pairs-fit}
use Rattle.blocks.specs.BlockLaws.{padded-length}
use Rattle.editions.specs.Editions.{Gateway, sound_gateway}
use Rattle.editions.proofs.FactsLaws.{parts-of}
use Rattle.editions.specs.Block.{edition_block}
use Rattle.wholes.specs.Layout.{device_size, mask_at, entries_size, entry_count_at, entry_size, index_at}
use Rattle.wholes.specs.Index.{IndexEntry, entry_row, entry_table, index_block, index_of, mask_for, mask_in, handles_of}
use Rattle.wholes.specs.Whole.{held_whole, laid_with, whole, sound_whole}
use Rattle.wholes.specs.Sizes.{Fitting}
use Rattle.wholes.proofs.SizesLaws.{all_known, index-fits, index-length, length-entry_table}
use Rattle.wholes.proofs.LaidLaws.{rows-front, whole-good, whole-held}
use Rattle.wholes.specs.Watched.{mask_of}
use Rattle.wholes.proofs.WatchedLaws.{from, handles-held}
use Rattle.index.specs.Asked.{watch_of}
use Rattle.index.specs.Table.{Tabled}
use Rattle.index.specs.TableLaws.{table-rows}

-- a row's device and mask
row-device : (e : IndexEntry) → Fitting e → take device_size (entry_row e) ≡ e.device
unfolding entry_row
row-device e f = take_at e.device (octets_of 2 e.mask) device_size f.device.long

row-mask : (e : IndexEntry) → Fitting e → little 2 (entry_row e) mask_at ≡ e.mask
unfolding entry_row
row-mask e f =
    let n : length (octets_of 2 e.mask) ≡ 2 = length-octets 2 e.mask in
    little-value 2 (e.device ++ octets_of 2 e.mask) mask_at
    (simp lib.ListN.length-append (omega (arith, f.device.long, n)))
    ∙ ap (λ (l : List ℕ). value (take 2 l)) (drop_at e.device (octets_of 2 e.mask) device_size f.device.long)
    ∙ ap value (take_all 2 (octets_of 2 e.mask) (omega arith)) ∙ value-octets 2 e.mask ∙ mod-eq_of_lt f.mask

mask-rows : (d : List ℕ) (es : List IndexEntry) → All Fitting es → mask_in d (map entry_row es) ≡ mask_of d es
unfolding mask_in mask_of
mask-rows d [] a = refl
mask-rows d (e ∷ es) a = rw (row-device e a.0, row-mask e a.0, mask-rows d es a.1)

module _ (g : Gateway) (ok : sound_gateway g ≡ true) where
  abbrev m : Model
  m = g.core

  good : sound_model m ≡ true
  good = (parts-of g ok).core

  abbrev es : List IndexEntry
  es = index_of m.pairs

  fits : All Fitting es
  fits = index-fits m.pairs (all_known m.pairs (pairs-fit m (sound-facts m good)))

  most : length es ≤ most_pairs
  most = let n = index-length m.pairs in let f = sound-facts m good in omega (arith, f.pairs-most)

  -- behind the core: the index, and behind it the editions
  behind : drop block_size (whole g) ≡ entry_table es ++ (length es ∷ edition_block g.editions)
  unfolding whole laid_with index_block
  behind =
      ap (drop block_size) (append_assoc (padded m) (index_block m.pairs) (edition_block g.editions))
      ∙ drop_at (padded m) (index_block m.pairs ++ edition_block g.editions) block_size (padded-length m good)
      ∙ append_assoc (entry_table es) (length es ∷ []) (edition_block g.editions)

  -- asked of the whole block: what the index of the pairs says
  mask-said : (d : List ℕ) → mask_for d (whole g) ≡ mask_of d es
  unfolding mask_for
  mask-said d =
      let n : length (entry_table es) ≡ entries_size = length-entry_table es fits most in
      let c : get_or (whole g) entry_count_at 0 ≡ length es =
      sym (get_or-drop block_size (whole g) entries_size 0) ∙ ap (λ (l : List ℕ). get_or l entries_size 0) behind
      ∙ get_or_at (entry_table es) (length es) (edition_block g.editions) 0 entries_size n in
      ap (λ (k : ℕ). mask_in d (take k (rows entry_size most_pairs (drop index_at (whole g))))) c
      ∙ ap (λ (l : List ℕ). mask_in d (take (length es) (rows entry_size most_pairs l))) behind
      ∙ ap (λ (l : List (List ℕ)). mask_in d (take (length es) l))
      (rows-front entry_size most_pairs (entry_table es) (length es ∷ edition_block g.editions) (omega arith))
      ∙ ap (mask_in d) (table-rows es (length es) (entry_table es)
      (record { count = refl; most = most; fits = fits; table = refl }))
      ∙ mask-rows d es fits

  pub asked-whole : (d : List ℕ)
      → handles_of (mask_for d (whole g)) ≡ keep (λ h. holds m.pairs h d) (from 0 most_monitors)
  asked-whole d = ap handles_of (mask-said d) ∙ handles-held d m.pairs

-- of every block that is sound
pub asked-sound : (s : List ℕ) → sound_whole s ≡ true → (d : List ℕ)
    → watch_of (handles_of (mask_for d s))
    ≡ watch_of (keep (λ h. holds (held_whole s).core.pairs h d) (from 0 most_monitors))
asked-sound s e d =
    ap (λ (l : List ℕ). watch_of (handles_of (mask_for d l))) (sym (whole-held s e))
    ∙ ap watch_of (asked-whole (held_whole s) (whole-good s e) d)
