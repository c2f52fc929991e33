-- Laws of the definitions in Keys.
use Rattle.std.specs.Prelude.{◌≡◌, ℕ, ◌+◌, ◌*◌, ◌/◌, ◌<◌, ◌≤◌, Bool, true, false, ◌&&◌, List, ◌∷◌, ◌++◌, length, get_or, take, drop, ◌==◌, ◌≢◌, slice_index, slice_index_or}
use Rattle.std.proofs.Math.Path.{refl, sym, ap}
use Rattle.std.proofs.Common.{◌∙◌, add-zero, arith, drop-cons, take_at, length-take-le}
use lib.ListN.{length-drop}
use borrow.Author.Tests.{eqb-true, eq-eqb, le-leb}
use Rattle.laws.specs.Tests.{sames}
use Rattle.laws.specs.TestsLaws.{sames-eq, eq-sames, and_left, and_right}
use Rattle.laws.specs.Loops.{every}
use Rattle.octets.specs.Little.{little, value, is_octet}
use Rattle.octets.specs.LittleLaws.{octets-value, value-lt, little-value, little-drop, little-take, little-row}
use Rattle.octets.specs.Numbers.{number_at}
use Rattle.octets.specs.NumbersLaws.{number-of, number_in}
use Rattle.model.specs.Types.{Model, Packet, Pair, device, device_of, watched}
use Rattle.model.specs.Frames.{packet_of}
use Rattle.model.specs.Watch.{is_pair}
use Rattle.model.specs.Image.{pair_row}
use Rattle.model.specs.Block.{pad_to, padded}
use Rattle.blocks.specs.RowsLaws.{octets-cons}
use Rattle.blocks.specs.Bounds.{Fits}
use Rattle.blocks.specs.Block.{Measured}
use Rattle.blocks.specs.BlockLaws.{row-pairs}
use Rattle.blocks.specs.FieldsLaws.{key_of, times_of, place-split}
use Rattle.steps.specs.Typed.{Sent}
use Rattle.model.specs.Layout.{handle_at, most_monitors, pair_size, pairs_at}
use Rattle.packets.specs.Keys.{device_number}

-- the key read from its own part of the block
pub key-part : (s : List ℕ) (at n : ℕ) {v : ℕ} → n ≡ 8 → at + 8 ≤ length s → v ≡ number_at 8 (take n (drop at s)) 0
    → v ≡ number_at 8 s at
key-part s at n e h w =
    let m : length (take n (drop at s)) ≡ n = length-take-le n (drop at s) (rw (length-drop at s) (omega arith)) in
    let x : _ ≡ little 8 (take n (drop at s)) 0 = number-of 8 (take n (drop at s)) 0 w (omega arith) in
    number_in 8 s at
    (x ∙ little-take 8 n (drop at s) 0 (omega arith) ∙ little-drop 8 at s 0 ∙ ap (little 8 s) (add-zero at))
    (le-leb (at + 8) (length s) h)

-- octets of one length that make one number are the same
pub value_same : (a b : List ℕ) → length a ≡ length b → every is_octet a ≡ true → every is_octet b ≡ true
    → value a ≡ value b → a ≡ b
value_same a b n oa ob e =
    sym (octets-value a oa) ∙ ap (λ (k : ℕ). Rattle.octets.specs.Little.octets_of k (value a)) n
    ∙ ap (Rattle.octets.specs.Little.octets_of (length b)) e ∙ octets-value b ob

-- the octets of a device
module _ (q : Pair) (f : Fits q) where
  pub watched-octets : every is_octet (watched q) ≡ true
  unfolding watched device
  watched-octets = octets-cons q.address_type q.address (omega (arith, f.kind-most)) f.address-octets

  pub watched-seven : length (watched q) ≡ 7
  unfolding watched device
  watched-seven = omega (arith, f.address-length)

module _ (p : Packet) (t : Sent p) where
  pub device-octets : every is_octet (device_of p) ≡ true
  unfolding device_of device
  device-octets = octets-cons p.address_type p.address (omega (arith, t.kind-most)) t.address-octets

  pub device-seven : length (device_of p) ≡ 7
  unfolding device_of device
  device-seven = omega (arith, t.address-six)

  pub device-below : device_number p < 72057594037927936
  unfolding device_number
  device-below =
      let h = value-lt (device_of p) device-octets in
      rw device-seven at h

  -- a pair is of the packet's device where the numbers are equal
  pub same_true : (q : Pair) → Fits q → value (watched q) ≡ device_number p → sames (device_of p) (watched q) ≡ true
  unfolding device_number
  same_true q f e =
      eq-sames (device_of p) (watched q)
      (value_same (device_of p) (watched q) (device-seven ∙ sym (watched-seven q f)) device-octets
      (watched-octets q f) (sym e))

  pub same_false : (q : Pair) → (value (watched q) ≢ device_number p) → sames (device_of p) (watched q) ≡ false
  unfolding device_number
  same_false q n = go (sames (device_of p) (watched q)) refl
    where
      go : (b : Bool) → sames (device_of p) (watched q) ≡ b → b ≡ false
      go false e = refl
      go true e = absurd (n (ap value (sym (sames-eq (device_of p) (watched q) e))))

  -- it is the pair of a handle where the keys are equal
  pub pair-true : (h : ℕ) (q : Pair) → Fits q → h < most_monitors
      → q.handle + 256 * value (watched q) ≡ h + 256 * device_number p
      → is_pair h (device_of p) q ≡ true
  unfolding is_pair device_number
  pair-true h q f b e =
      let a : q.handle ≡ h = omega (arith, f.handle-most) in
      let v : value (watched q) ≡ value (device_of p) = omega (arith, f.handle-most) in
      rw (eq-eqb q.handle h a)
      (eq-sames (watched q) (device_of p)
      (value_same (watched q) (device_of p) (watched-seven q f ∙ sym device-seven)
      (watched-octets q f) device-octets v))

  pub pair-false : (h : ℕ) (q : Pair) → (q.handle + 256 * value (watched q) ≢ h + 256 * device_number p)
      → is_pair h (device_of p) q ≡ false
  unfolding is_pair device_number
  pair-false h q n = go (q.handle == h && sames (watched q) (device_of p)) refl
    where
      go : (b : Bool) → (q.handle == h && sames (watched q) (device_of p)) ≡ b → b ≡ false
      go false e = refl
      go true e =
          let a : q.handle ≡ h = eqb-true q.handle h (and_left (q.handle == h) (sames (watched q)
          (device_of p)) e) in
          let v : value (watched q) ≡ value (device_of p) =
          ap value (sames-eq (watched q) (device_of p) (and_right (q.handle == h) (sames (watched q)
          (device_of p)) e)) in
          absurd (n (omega arith))

-- a packet's payload opens with event type and device: 8 octets
pub payload-device : (l : List ℕ) → 10 ≤ length l → slice_index l 0 < 256 → little 8 l 0 / 256 ≡ device_number (packet_of l)
unfolding device_number device_of device packet_of value little
payload-device l n b =
    let e : little 7 l 1 ≡ value (take 7 (drop 1 l)) = little-value 7 l 1 (omega arith) in
    let d : take 7 (drop 1 l) ≡ slice_index l 1 ∷ take 6 (drop 2 l) = ap (λ (x : List ℕ). take 7 x) (drop-cons l 1 0
    (omega arith)) in
    let v : value (take 7 (drop 1 l)) ≡ value (slice_index l 1 ∷ take 6 (drop 2 l)) = ap value d in
    let w : little 8 l 0 ≡ slice_index l 0 + 256 * little 7 l 1 = refl in
    let z : little 8 l 0 / 256 ≡ little 7 l 1 = omega arith in
    z ∙ e ∙ v

-- a pair's row opens with its key: 8 octets
pub place-key : (q : Pair) → length q.address ≡ 6
    → little 8 (pad_to pair_size (pair_row q)) handle_at ≡ q.handle + 256 * value (watched q)
unfolding watched device value
place-key q h =
    let e : pad_to pair_size (pair_row q) ≡ key_of q ++ times_of q = place-split q h in
    let n : length (key_of q ++ times_of q) ≡ length (key_of q) + length (times_of q) =
    lib.ListN.length-append (key_of q) (times_of q) in
    ap (λ (l : List ℕ). little 8 l 0) e
    ∙ little-value 8 (key_of q ++ times_of q) 0 (omega arith)
    ∙ ap value (take_at (key_of q) (times_of q) 8 (omega arith))

-- what stands in row i of the pairs of a block
pub little-pairs : (m : Model) → Measured m → (i k off : ℕ) (d : Pair) → i < length m.pairs → off + k ≤ pair_size
    → little k (padded m) (pairs_at + pair_size * i + off) ≡ little k
    (pad_to pair_size (pair_row (slice_index_or m.pairs i d))) off
little-pairs m f i k off d b h =
    let e : pairs_at + pair_size * i + off ≡ pairs_at + (pair_size * i + off) = omega arith in
    ap (little k (padded m)) e
    ∙ sym (little-drop k pairs_at (padded m) (pair_size * i + off))
    ∙ sym (little-row k pair_size i off (drop pairs_at (padded m)) h)
    ∙ ap (λ (l : List ℕ). little k l off) (row-pairs m f i d b)

pub key-pairs : (m : Model) → Measured m → (i : ℕ) (d : Pair) → i < length m.pairs → Fits (slice_index_or m.pairs i d)
    → little 8 (padded m) (pairs_at + pair_size * i)
    ≡ (get_or m.pairs i d).handle + 256 * value (watched (slice_index_or m.pairs i d))
key-pairs m f i d b q =
    let z : pairs_at + pair_size * i ≡ pairs_at + pair_size * i + 0 = omega arith in
    ap (little 8 (padded m)) z ∙ little-pairs m f i 8 0 d b (omega arith)
    ∙ place-key (slice_index_or m.pairs i d) q.address-length
