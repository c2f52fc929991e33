-- Laws of the definitions in Accepted.
use Rattle.std.specs.Prelude.{ℕ, ◌+◌, ◌≤◌, ◌<◌, ◌≡◌, refl, Bool, ◌&&◌, List, [], ◌∷◌, leb, length, take, drop, get_or, replicate}
use Rattle.std.proofs.Math.Path.{sym, ap}
use Rattle.std.proofs.Common.{◌∙◌, arith}
use Rattle.std.proofs.Math.Bool.{true, false}
use Rattle.std.proofs.lemmas.Bool.{false≢true}
use borrow.Author.Tests.{eq-eqb, ne_eqb, le-leb, lt-leb, lt-ltb}
use Rattle.std.proofs.Math.Dec.{eqb}
use Rattle.std.proofs.lemmas.List.{length-replicate}
use Rattle.laws.specs.Put.{put, put_if}
use Rattle.laws.specs.PutLaws.{put_of, put-if-true, put-if-false}
use Rattle.laws.specs.RowsLaws.{put_whole}
use Rattle.laws.specs.Tests.{pick, sames}
use Rattle.laws.specs.TestsLaws.{pick_true, pick-false, and_both, and_left, and_right, and-not-left, and-not-right, sames-eq, eq-sames}
use Rattle.lines.specs.Hex.{text_of}
use Rattle.laws.specs.Loops.{each, every}
use Rattle.laws.specs.LoopsLaws.{every_take}
use Rattle.octets.specs.Little.{is_octet}
use Rattle.rule.specs.Base.{All}
use Rattle.sessions.specs.Machine.{save_room}
use Rattle.model.specs.Block.{model_of, sound}
use Rattle.model.specs.Layout.{block_size, most_monitors, prefix_length_at}
use Rattle.blocks.specs.FactsLaws.{sound-facts}
use Rattle.blocks.specs.Bounds.{Fits}
use Rattle.blocks.specs.BoundsLaws.{pairs-fit}
use Rattle.state.specs.StartLaws.{octets-known}
use Rattle.soundness.specs.Clauses.{loose}
use Rattle.soundness.specs.SameLaws.{sound-loose, loose-sound}
use Rattle.restore.specs.Rows.{Row}
use Rattle.model.specs.Types.{Model, Pair}
use Rattle.model.specs.Sound.{apart, sound_model}
use Rattle.editions.specs.Editions.{Gateway, sound_gateway, image_on, held_on, is_image_on, records_on}
use Rattle.editions.proofs.ImagesLaws.{held-image}
use Rattle.editions.proofs.ExactlyLaws.{image-most-on}
use Rattle.wholes.specs.Layout.{index_at, index_size, whole_size}
use Rattle.wholes.specs.Index.{index_block}
use Rattle.wholes.specs.Whole.{held_whole, laid_with, whole, sound_whole}
use Rattle.wholes.proofs.LaidLaws.{sound-both, unsound-core, unsound-prefixes, core-holds, core-good, index_is, sound-size, sound-whole, whole-good, whole-held}
use Rattle.wholes.specs.Engine.{block_in}
use Rattle.index.specs.Once.{is_low, once}
use Rattle.index.specs.Renewed.{is_indexed, indexed_once, renewed}
use Rattle.index.specs.Begun.{blank_in}
use Rattle.index.specs.BegunLaws.{blank-is}
use Rattle.prefixes.specs.Sound.{is_prefixed}
use Rattle.prefixes.specs.SoundLaws.{prefixed-sound}
use Rattle.snapshots.specs.Saved.{saved_on, saves_on}
use Rattle.snapshots.specs.SavedLaws.{saved-whole}
use Rattle.snapshots.specs.Stored.{stored_all_on}
use Rattle.snapshots.specs.FilledLaws.{rows_fit, lines-filled, renewed-laid}
use Rattle.snapshots.specs.Accepted.{ReadOn, restores_on, restored_on}

not_so : (b : Bool) → (b ≡ true → ⊥) → b ≡ false
not_so true h = absurd (h refl)
not_so false h = refl

both_ways : (a b : Bool) → (a ≡ true → b ≡ true) → (b ≡ true → a ≡ true) → a ≡ b
both_ways true b f g = sym (f refl)
both_ways false true f g = g refl
both_ways false false f g = refl

-- a block is sound where its core is, its index is that of the pairs held, and its editions are
pub whole-short : (s : List ℕ) → (length s ≡ whole_size → ⊥) → false ≡ sound_whole s
whole-short s h = sym (not_so (sound_whole s) (λ e. h (sound-size s e)))

-- the pairs of a sound state are of handles that there are, and each is held once
all-low : (qs : List Pair) → All Fits qs → every is_low qs ≡ true
unfolding every is_low
all-low [] a = refl
all-low (q ∷ qs) a = and_both (lt-ltb q.handle most_monitors a.0.handle-most) (all-low qs a.1)

sound-once : (m : Model) → sound_model m ≡ true → once m.pairs ≡ true
unfolding once
sound-once m e = let f = sound-facts m e in and_both (all-low m.pairs (pairs-fit m f)) f.pairs-apart

module _ (s : List ℕ) (l : length s ≡ whole_size) (known : (k : ℕ) → get_or s k 0 < 256) where
  o : get_or s prefix_length_at 0 < 256
  o = known prefix_length_at

  pub whole-unsound : loose (take block_size s) ≡ false → false ≡ sound_whole s
  whole-unsound e =
      sym (unsound-core s l o
      (not_so (sound (take block_size s)) (λ z. false≢true (sym e ∙ sound-loose (take block_size s) z))))

  pub whole-unprefixed : {r : Bool} → r ≡ is_prefixed s → r ≡ false → false ≡ sound_whole s
  whole-unprefixed q z = sym (unsound-prefixes s l o (sym (prefixed-sound s l q) ∙ z))

  pub whole-sound : {r p : Bool} → loose (take block_size s) ≡ true → p ≡ is_prefixed s → p ≡ true → r ≡ indexed_once s
      → r ≡ sound_whole s
  unfolding indexed_once is_indexed once
  whole-sound {r} {p} e f z q =
      q ∙ both_ways (indexed_once s) (sound_whole s)
      (λ a. let i = and_left (is_indexed s) (once (model_of s).pairs) a in
      let c = and_right (is_indexed s) (once (model_of s).pairs) a in
      let core : sound (take block_size s) ≡ true =
      loose-sound (take block_size s) (every_take is_octet block_size s (octets-known s known)) e
      (ap (λ (m : Model). apart m.pairs) (core-holds s l o)
      ∙ and_right (every is_low (model_of s).pairs) (apart (model_of s).pairs) c) in
      sound-both s l o core
      (and_right (eqb (length s) whole_size)
      (sames (index_block (model_of s).pairs) (take index_size (drop index_at s))) i)
      (sym (prefixed-sound s l f) ∙ z))
      (λ a. and_both
      (and_both (eq-eqb (length s) whole_size l)
      (eq-sames (index_block (model_of s).pairs) (take index_size (drop index_at s)) (sym (index_is s a))))
      (sound-once (model_of s) (core-good s a)))

-- what save wrote
pub saves-not : (s out : List ℕ) → saves_on s (length out) ≡ false
    → (0 ≡ pick (saves_on s (length out)) (length (saved_on s)) 0)
    × (out ≡ put_if (saves_on s (length out)) out 0 (saved_on s))
saves-not s out e = (sym (pick-false (length (saved_on s)) 0 e), put-if-false out 0 (saved_on s) e)

pub saves-sized : (s : List ℕ) (room : ℕ) → (length s ≡ whole_size → ⊥) → saves_on s room ≡ false
unfolding saves_on
saves-sized s room h = and-not-left (eqb (length s) whole_size) (leb save_room room) (ne_eqb (length s) whole_size h)

pub saves-short : (s : List ℕ) (room : ℕ) → room < save_room → saves_on s room ≡ false
unfolding saves_on
saves-short s room h = and-not-right (eqb (length s) whole_size) (leb save_room room) (lt-leb save_room room h)

pub saves-so : (s out : List ℕ) {r : ℕ} {t : List ℕ} → length s ≡ whole_size → save_room ≤ length out
    → r ≡ length (saved_on s) → t ≡ put out 0 (saved_on s)
    → (r ≡ pick (saves_on s (length out)) (length (saved_on s)) 0)
    × (t ≡ put_if (saves_on s (length out)) out 0 (saved_on s))
unfolding saves_on
saves-so s out l h p q =
    let e : (eqb (length s) whole_size && leb save_room (length out)) ≡ true =
    and_both (eq-eqb (length s) whole_size l) (le-leb save_room (length out) h) in
    (p ∙ sym (pick_true (length (saved_on s)) 0 e), q ∙ put-if-true out 0 (saved_on s) e)

-- which texts are images
pub image-on : (t : List ℕ) (g : Gateway) → sound_gateway g ≡ true → t ≡ image_on g → (is_image_on t ≡ true)
    × (held_on t ≡ g)
unfolding is_image_on
image-on t g ok e =
    let h : held_on t ≡ g = ap held_on e ∙ held-image g ok in
    (rw h (and_both ok (eq-sames (image_on g) t (sym e))), h)

held-sound : (t : List ℕ) → is_image_on t ≡ true → (sound_gateway (held_on t) ≡ true) × (t ≡ image_on (held_on t))
unfolding is_image_on
held-sound t e =
    let s = sound_gateway (held_on t) in
    let b = sames (image_on (held_on t)) t in
    (and_left s b e, sym (sames-eq (image_on (held_on t)) t (and_right s b e)))

pub image-long : (t : List ℕ) → save_room < length t → is_image_on t ≡ false
image-long t h =
    not_so (is_image_on t) (λ i. let w = held-sound t i in let b = image-most-on (held_on t) w.0 in
    let n : length t ≡ length (image_on (held_on t)) = ap length w.1 in omega arith)

pub read-refused : (t : List ℕ) {after : List ℕ} → is_image_on t ≡ false → ReadOn t after false
read-refused t h = (sym h, λ i. absurd (false≢true (sym h ∙ i)))

module _ (t s : List ℕ) (q : (g : Gateway) → sound_gateway g ≡ true → t ≡ image_on g → s ≡ whole g) where
  block_of : is_image_on t ≡ true → s ≡ whole (held_on t)
  block_of i = let w = held-sound t i in q (held_on t) w.0 w.1

  pub read-unsound : sound_whole s ≡ false → ReadOn t s false
  read-unsound u =
      read-refused t (not_so (is_image_on t)
      (λ i. false≢true (sym u ∙ ap sound_whole (block_of i) ∙ sound-whole (held_on t) (held-sound t i).0)))

  pub read_done : {r : Bool} → sound_whole s ≡ true → r ≡ sames (saved_on s) t → ReadOn t s r
  read_done u e = (
    e ∙ both_ways (sames (saved_on s) t) (is_image_on t)
        (λ b. (image-on t (held_whole s) (whole-good s u) (sym (sames-eq (saved_on s) t b) ∙ again)).0)
        (λ i. let w = held-sound t i in eq-sames (saved_on s) t
        (ap saved_on (block_of i) ∙ saved-whole (held_on t) w.0 ∙ sym w.1)),
    block_of,
  )
    where
      again : saved_on s ≡ image_on (held_whole s)
      again = ap saved_on (sym (whole-held s u)) ∙ saved-whole (held_whole s) (whole-good s u)

module _ (t s : List ℕ) where
  pub restored-not : (length s ≡ whole_size → ⊥) → (false ≡ restores_on t (length s)) × (s ≡ restored_on t s)
  unfolding restores_on restored_on
  restored-not h =
      let e : eqb (length s) whole_size ≡ false = ne_eqb (length s) whole_size h in
      (sym (and-not-left _ (is_image_on t) e), sym (pick-false (block_in (is_image_on t) t) s e))

  module _ (h : length s ≡ whole_size) {r : Bool} {mid : List ℕ} (w : ReadOn t mid r) where
    is : r ≡ restores_on t (length s)
    unfolding restores_on
    is = w.0 ∙ sym (ap (λ (b : Bool). b && is_image_on t) (eq-eqb (length s) whole_size h))

    there : (b : Bool) → is_image_on t ≡ b → block_in b t ≡ restored_on t s
    unfolding restored_on
    there b e = ap (λ (x : Bool). block_in x t) (sym e)
        ∙ sym (pick_true (block_in (is_image_on t) t) s (eq-eqb (length s) whole_size h))

    pub restored-in : r ≡ true → (r ≡ restores_on t (length s)) × (mid ≡ restored_on t s)
    unfolding block_in
    restored-in e = (is, w.1 (sym w.0 ∙ e) ∙ there true (sym w.0 ∙ e))

    pub restored-blank : {after : List ℕ} → r ≡ false → length mid ≡ whole_size → after ≡ blank_in mid
        → (r ≡ restores_on t (length s)) × (after ≡ restored_on t s)
    unfolding block_in
    restored-blank e l q = (is, q ∙ blank-is mid l ∙ there false (sym w.0 ∙ e))

-- the lines of an image in an empty block, then the index
pub filled : (t s : List ℕ) {z u w : List ℕ} {b : Bool} → length s ≡ whole_size → b ≡ leb (0 + whole_size) (length s)
    → z ≡ put_if b s 0 (replicate whole_size 0)
    → ((rs : List (List ℕ)) → All Row rs → t ≡ each text_of rs → u ≡ stored_all_on z rs) → w ≡ renewed u
    → (g : Gateway) → sound_gateway g ≡ true → t ≡ image_on g → w ≡ whole g
unfolding image_on
filled t s {z} {u} {w} {b} l p q stores renew g ok e =
    let lz : length (replicate {A = ℕ} whole_size 0) ≡ whole_size = length-replicate {A = ℕ} whole_size 0 in
    let z1 : z ≡ replicate whole_size 0 =
    put_of s 0 (replicate whole_size 0) whole_size (length s) p (omega arith) q
    ∙ put_whole s (replicate whole_size 0) (l ∙ sym lz) in
    let u1 : u ≡ laid_with (replicate index_size 0) g =
    stores (records_on g) (rows_fit g ok) e ∙ ap (λ (x : List ℕ). stored_all_on x (records_on g)) z1
    ∙ lines-filled g ok in
    renew ∙ ap renewed u1 ∙ renewed-laid g ok (replicate index_size 0) (length-replicate {A = ℕ} index_size 0)
