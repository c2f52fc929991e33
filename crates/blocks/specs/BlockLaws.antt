-- Laws of the definitions in Block.
use Rattle.std.specs.Prelude.{ℕ, ◌-◌, ◌≤◌, ◌<◌, ◌≡◌, refl, true, length, take, drop, get_or, replicate}
use Rattle.std.proofs.Common.{sym, ◌∙◌, arith}
use Rattle.std.proofs.Math.Path.{ap}
use mathlib.Core.List.{List, [], ◌∷◌, ◌++◌, append_assoc, map}
use Rattle.std.proofs.Math.ListN.{length-append}
use lib.Seq.{take_at, drop_at}
use Rattle.laws.specs.Tests.{sames}
use Rattle.laws.specs.TestsLaws.{and_left, and_right, and_both, sames-eq, sames-refl}
use Rattle.laws.specs.Loops.{every, keep}
use Rattle.laws.specs.Rows.{row, rows}
use Rattle.octets.specs.Little.{little, is_octet}
use Rattle.rule.specs.Engine.{find}
use Rattle.model.specs.Types.{Model, Monitor, Pair}
use Rattle.model.specs.Image.{head_row, pair_row, monitor_in, pair_in}
use Rattle.model.specs.Sound.{sound_model}
use Rattle.model.specs.Block.{pad_to, monitor_place}
use Rattle.model.specs.Block.{monitor_block, pair_block, padded, in_use, monitor_table, pair_table, model_of, sound}
use Rattle.blocks.specs.RowsLaws.{length-head_row, length-pad_to, head_row-position, head_row-filter, head_row-opcode}
use Rattle.blocks.specs.RowsLaws.{head_row-count, head_row-prefix, drop_past, pad_to-octets, octets-append, octets-cons}
use Rattle.blocks.specs.Facts.{SoundModel}
use Rattle.blocks.specs.FactsLaws.{sound-facts}
use Rattle.blocks.specs.BoundsLaws.{pairs-fit, sound-head_row}
use Rattle.blocks.specs.TablesLaws.{from}
use Rattle.blocks.specs.MonitorsLaws.{mons-short, length-monitor_block, row-monitor_block, rows-monitor_block}
use Rattle.blocks.specs.MonitorsLaws.{monitors-read, monitor_block-octets}
use Rattle.blocks.specs.PairsLaws.{pair_places, length-pair_block, rows-pair_block, row-pair_block, row-pair_block-zero}
use Rattle.blocks.specs.PairsLaws.{pairs-read, pair_block-octets}
use Rattle.model.specs.Layout.{block_size, count_at, filter_at, head_size, monitor_size, monitors_at, monitors_size, most_monitors, most_pairs, most_prefix, opcode_at, pair_size, pairs_at, pairs_size, position_at, prefix_at, prefix_length_at}
use Rattle.blocks.specs.Block.{Measured}

pub sound-measured : (m : Model) → SoundModel m → Measured m
sound-measured m f =
    record {
      prefix-most = f.prefix-most;
      short = mons-short 0 m.mons f.mons-sound;
      fit = pairs-fit m f;
      pairs-most = f.pairs-most;
    }

pub measured : (m : Model) → sound_model m ≡ true → Measured m
measured m e = sound-measured m (sound-facts m e)

-- the parts behind the head, behind the monitors
abbrev pub tables : Model → List ℕ
tables m = monitor_block m.mons ++ (pair_block m.pairs ++ (length m.pairs ∷ []))

abbrev pub ending : Model → List ℕ
ending m = pair_block m.pairs ++ (length m.pairs ∷ [])

pub length-head : (m : Model) → length m.prefix ≤ most_prefix → length (pad_to head_size (head_row m)) ≡ head_size
length-head m h = let n = length-head_row m in length-pad_to head_size (head_row m) (omega arith)

module _ (m : Model) (f : Measured m) where
  pub length-padded : length (padded m) ≡ block_size
  unfolding padded
  length-padded =
      let a = length-head m f.prefix-most in
      let b = length-monitor_block m.mons f.short in
      let c = length-pair_block m.pairs f.fit f.pairs-most in
      simp length-append (omega arith)

  pub drop_head : drop monitors_at (padded m) ≡ tables m
  unfolding padded
  drop_head = drop_at (pad_to head_size (head_row m)) (tables m) head_size (length-head m f.prefix-most)

  pub drop-monitors : drop pairs_at (padded m) ≡ ending m
  unfolding padded
  drop-monitors =
      drop_past (pad_to head_size (head_row m)) (tables m) head_size (length-head m f.prefix-most) monitors_size
      ∙ drop_at (monitor_block m.mons) (ending m) monitors_size (length-monitor_block m.mons f.short)

  -- the number of pairs, the pair part
  pub get_d-count : get_or (padded m) count_at 0 ≡ length m.pairs
  get_d-count =
      sym (lib.Seq.get_or-drop pairs_at (padded m) pairs_size 0) ∙ ap (λ (l : List ℕ). get_or l pairs_size 0) drop-monitors
      ∙ lib.Seq.get_or_at (pair_block m.pairs) (length m.pairs) [] 0 pairs_size
      (length-pair_block m.pairs f.fit f.pairs-most)

  pub take-pairs : take pairs_size (drop pairs_at (padded m)) ≡ pair_block m.pairs
  take-pairs =
      ap (λ (l : List ℕ). take pairs_size l) drop-monitors
      ∙ take_at (pair_block m.pairs) (length m.pairs ∷ []) pairs_size
      (length-pair_block m.pairs f.fit f.pairs-most)

  -- the row of a handle, and the monitor table
  pub row-monitors : (h : ℕ) → h < most_monitors
      → row monitor_size h (drop monitors_at (padded m)) ≡ monitor_place h (find m.mons h)
  row-monitors h b =
      ap (λ (l : List ℕ). row monitor_size h l) drop_head ∙ row-monitor_block m.mons f.short (ending m) h b

  pub table-monitors : monitor_table (padded m) ≡ from (λ h. monitor_place h (find m.mons h)) 0 most_monitors
  unfolding monitor_table
  table-monitors =
      ap (λ (l : List ℕ). rows monitor_size most_monitors l) drop_head
      ∙ rows-monitor_block m.mons f.short (ending m)

  -- the row of a pair, the rows behind the pairs, and the pair table
  pub row-pairs : (i : ℕ) (d : Pair) → i < length m.pairs
      → row pair_size i (drop pairs_at (padded m)) ≡ pad_to pair_size (pair_row (get_or m.pairs i d))
  row-pairs i d b =
      ap (λ (l : List ℕ). row pair_size i l) drop-monitors
      ∙ row-pair_block m.pairs f.fit f.pairs-most (length m.pairs ∷ []) i d b

  pub row-pairs-zero : (i : ℕ) → length m.pairs ≤ i → i < most_pairs
      → row pair_size i (drop pairs_at (padded m)) ≡ replicate pair_size 0
  row-pairs-zero i b c =
      ap (λ (l : List ℕ). row pair_size i l) drop-monitors
      ∙ row-pair_block-zero m.pairs f.fit f.pairs-most (length m.pairs ∷ []) i b c

  pub table-pairs : pair_table (padded m) ≡ pair_places m.pairs
  unfolding pair_table
  table-pairs =
      ap (λ (l : List ℕ). rows pair_size most_pairs l) drop-monitors
      ∙ rows-pair_block m.pairs f.fit f.pairs-most (length m.pairs ∷ [])

-- the block opens with the head row
abbrev pub behind : Model → List ℕ
behind m = replicate (head_size - length (head_row m)) 0 ++ tables m

pub padded-head : (m : Model) → padded m ≡ head_row m ++ behind m
unfolding padded pad_to
padded-head m = append_assoc (head_row m) (replicate (head_size - length (head_row m)) 0) (tables m)

module _ (m : Model) where
  pub read-position : m.position < 4294967296 → little 4 (padded m) position_at ≡ m.position
  read-position h = rw (padded-head m) (head_row-position m (behind m) h)

  pub read-filter : get_or (padded m) filter_at 0 ≡ m.filter
  read-filter = rw (padded-head m) (head_row-filter m (behind m))

  pub read-opcode : m.opcode < 65536 → little 2 (padded m) opcode_at ≡ m.opcode
  read-opcode h = rw (padded-head m) (head_row-opcode m (behind m) h)

  pub read_count : get_or (padded m) prefix_length_at 0 ≡ length m.prefix
  read_count = rw (padded-head m) (head_row-count m (behind m))

  pub read-prefix : take (length m.prefix) (drop prefix_at (padded m)) ≡ m.prefix
  read-prefix = rw (padded-head m) (head_row-prefix m (behind m))

pub position-read : (m : Model) → sound_model m ≡ true → little 4 (padded m) position_at ≡ m.position
position-read m e = let f : SoundModel m = sound-facts m e in read-position m (omega (arith, f.position-most))

pub opcode-read : (m : Model) → sound_model m ≡ true → little 2 (padded m) opcode_at ≡ m.opcode
opcode-read m e = let f : SoundModel m = sound-facts m e in read-opcode m (omega (arith, f.opcode-most))

-- two states with the same fields are one
pub model-eq : {p f o : ℕ} {x : List ℕ} {n : List (ℕ × Monitor)} {q : List Pair} (m : Model)
    → p ≡ m.position → f ≡ m.filter → o ≡ m.opcode → x ≡ m.prefix → n ≡ m.mons → q ≡ m.pairs
    → ◌≡◌ {A = Model} (record { position = p; filter = f; opcode = o; prefix = x; mons = n; pairs = q }) m
model-eq m e1 e2 e3 e4 e5 e6 = rw (e1, e2, e3, e4, e5, e6)

-- the block of a sound state holds that state
pub held-facts : (m : Model) → SoundModel m → model_of (padded m) ≡ m
unfolding model_of monitor_table pair_table
held-facts m f =
    let s : Measured m = sound-measured m f in
    model-eq m (read-position m (omega (arith, f.position-most))) (read-filter m)
    (read-opcode m (omega (arith, f.opcode-most)))
    (ap (λ (k : ℕ). take k (drop prefix_at (padded m))) (read_count m) ∙ read-prefix m)
    (ap (λ (l : List ℕ). map monitor_in (keep in_use (rows monitor_size most_monitors l))) (drop_head m s)
    ∙ monitors-read m.mons f.mons-sound (ending m))
    (ap (λ (k : ℕ). map pair_in (take k (rows pair_size most_pairs (drop pairs_at (padded m))))) (get_d-count m s)
    ∙ ap (λ (l : List ℕ). map pair_in (take (length m.pairs) (rows pair_size most_pairs l))) (drop-monitors m s)
    ∙ pairs-read m.pairs s.fit s.pairs-most (length m.pairs ∷ []))

pub held-padded : (m : Model) → sound_model m ≡ true → model_of (padded m) ≡ m
held-padded m e = held-facts m (sound-facts m e)

-- it is sound, and octets
pub sound-padded : (m : Model) → sound_model m ≡ true → sound (padded m) ≡ true
unfolding sound
sound-padded m e = rw (held-padded m e) (and_both e (sames-refl (padded m)))

pub padded-octets : (m : Model) → sound_model m ≡ true → every is_octet (padded m) ≡ true
unfolding padded every
padded-octets m e =
    let f : SoundModel m = sound-facts m e in
    octets-append (pad_to head_size (head_row m)) (tables m) (pad_to-octets head_size (head_row m) (sound-head_row m f)) (
    octets-append (monitor_block m.mons) (ending m) (monitor_block-octets m.mons f.mons-sound) (
    octets-append (pair_block m.pairs) (length m.pairs ∷ []) (pair_block-octets m.pairs (pairs-fit m f)) (
    octets-cons (length m.pairs) [] (omega (arith, f.pairs-most)) refl)))

pub padded-length : (m : Model) → sound_model m ≡ true → length (padded m) ≡ block_size
padded-length m e = length-padded m (measured m e)

-- any block: a sound one is the block of the sound state that it holds
module _ (s : List ℕ) (e : sound s ≡ true) where
  pub sound-held : sound_model (model_of s) ≡ true
  unfolding sound
  sound-held = and_left (sound_model (model_of s)) (sames (padded (model_of s)) s) e

  pub padded-held : padded (model_of s) ≡ s
  unfolding sound
  padded-held = sames-eq (padded (model_of s)) s (and_right (sound_model (model_of s)) (sames (padded (model_of s)) s) e)

  pub sound-length : length s ≡ block_size
  sound-length = ap (λ (l : List ℕ). length l) (sym padded-held) ∙ padded-length (model_of s) sound-held

  pub sound-octets : every is_octet s ≡ true
  sound-octets = ap (λ (l : List ℕ). every is_octet l) (sym padded-held) ∙ padded-octets (model_of s) sound-held
