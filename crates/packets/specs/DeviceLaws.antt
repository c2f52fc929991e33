-- Laws of the definitions in Device.
use Rattle.std.specs.Prelude.{◌≡◌, ℕ, zero, suc, ◌+◌, ◌-◌, ◌*◌, ◌/◌, ◌%◌, ◌<◌, ◌≤◌, Bool, true, false, ◌&&◌, ◌||◌, List, [], ◌∷◌, length, get_or, take, ◌==◌, ◌≢◌, nat_lt, slice_index, slice_index_or, slice_set}
use Rattle.std.proofs.Math.Path.{refl, sym, ap}
use Rattle.std.proofs.Common.{◌∙◌, arith, add-one, take_all, take-suc, get_or-set_same, eq-eqb, lt-ltb}
use Rattle.std.proofs.Math.Bool.{false≢true}
use Rattle.std.proofs.Math.Seq.{get_or-set_other}
use Rattle.laws.specs.TestsLaws.{cases_eq, and_both}
use Rattle.laws.specs.Loops.{some as some_of}
use Rattle.octets.specs.Little.{little, value}
use Rattle.model.specs.Types.{Model, Packet, Pair, device_of, watched}
use Rattle.model.specs.Watch.{is_pair, holds}
use Rattle.blocks.specs.Bounds.{Fits}
use Rattle.marks.specs.Marks.{flag}
use Rattle.packets.specs.ChangesLaws.{some-append, or-none}
use Rattle.packets.specs.Keys.{device_number}
use Rattle.packets.specs.KeysLaws.{pair-true, pair-false, key-pairs}
use Rattle.packets.specs.Writes.{no_pair}
use Rattle.packets.specs.Moves.{pair_at, AtPair}
use Rattle.packets.specs.MovesLaws.{pair_fits}
use Rattle.packets.specs.Starts.{Holding}
use Rattle.model.specs.Layout.{most_monitors, pair_size, pairs_at}
use Rattle.packets.specs.Device.{Sender, Other, NoneBelow, NoneFrom}

or-true : (x : Bool) → (x || true) ≡ true
or-true true = refl
or-true false = refl

flag_true : 1 ≡ flag true
unfolding flag
flag_true = refl

-- what a flag says
pub flag-set : {k : ℕ} (t : Bool) → k ≡ flag t → (k ≢ 0) → true ≡ t
unfolding flag
flag-set true e n = refl
flag-set false e n = absurd (n e)

pub flag-not : {k : ℕ} (t : Bool) → k ≡ flag t → k ≡ 0 → t ≡ false
unfolding flag
flag-not true e z = absurd (omega arith)
flag-not false e z = refl

-- a row's key: its handle and its device
module _ (m : Model) (s : List ℕ) (i : ℕ) (w : AtPair m s i) {key : ℕ}
    (k : key ≡ little 8 s (pairs_at + pair_size * i)) where
  pub key-read : key ≡ (pair_at m i).handle + 256 * value (watched (pair_at m i))
  unfolding pair_at
  key-read =
      k ∙ ap (λ (l : List ℕ). little 8 l (pairs_at + pair_size * i)) w.block
      ∙ key-pairs m w.measured i no_pair w.within (pair_fits w)

  pub key-handle : key % 256 ≡ (pair_at m i).handle
  key-handle = let f : Fits (pair_at m i) = pair_fits w in omega (arith, key-read, f.handle-most)

  pub key-device : key / 256 ≡ value (watched (pair_at m i))
  key-device = let f : Fits (pair_at m i) = pair_fits w in omega (arith, key-read, f.handle-most)

module _ (m : Model) (s : List ℕ) (n : ℕ) (p : Packet) (dev : ℕ) (w : Holding m s n) (t : Sender p dev) (i : ℕ)
    (b : i < n) {key : ℕ}
    (k : key ≡ little 8 s (pairs_at + pair_size * i)) where
  at : AtPair m s i
  at = record { measured = w.measured; block = w.block; within = omega (arith, w.count) }

  pub row-not : (key / 256 ≢ dev) → Other p (slice_index_or m.pairs i no_pair)
  unfolding pair_at
  row-not x e = x (key-device m s i at k ∙ e ∙ sym t.number)

  pub row-neither : (key / 256 == dev && nat_lt (key % 256) most_monitors) ≡ false → Other p (slice_index_or m.pairs i no_pair)
  unfolding pair_at
  row-neither x =
      let f : Fits (slice_index_or m.pairs i no_pair) = pair_fits at in
      let hd : key % 256 ≡ (get_or m.pairs i no_pair).handle = key-handle m s i at k in
      row-not (λ e. false≢true
      (sym x ∙ and_both (eq-eqb (key / 256) dev e)
      (lt-ltb (key % 256) most_monitors (omega (arith, f.handle-most)))))

  pub none_more : NoneBelow m.pairs p i → (key / 256 ≢ dev) → NoneBelow m.pairs p (i + 1)
  none_more x y j c =
      cases_eq j i (λ e. rw e (row-not y)) (λ e. x j (omega arith))

  pub none-less : NoneFrom m.pairs p (i + 1) → (key / 256 ≢ dev) → NoneFrom m.pairs p i
  none-less x y j c l =
      cases_eq j i (λ e. rw e (row-not y)) (λ e. x j (omega arith) l)

  -- what is held so far, one row more
  holds_more : (h : ℕ) → holds (take (i + 1) m.pairs) h (device_of p)
      ≡ (holds (take i m.pairs) h (device_of p) || is_pair h (device_of p) (slice_index_or m.pairs i no_pair))
  unfolding holds some_of
  holds_more h =
      ap (λ (j : ℕ). some_of (is_pair h (device_of p)) (take j m.pairs)) (add-one i)
      ∙ ap (some_of (is_pair h (device_of p))) (take-suc m.pairs i no_pair at.within)
      ∙ some-append (is_pair h (device_of p)) (take i m.pairs) (slice_index_or m.pairs i no_pair ∷ [])
      ∙ ap (λ (x : Bool). holds (take i m.pairs) h (device_of p) || x)
      (or-none (is_pair h (device_of p) (slice_index_or m.pairs i no_pair)))

  other-pair : (h : ℕ) → Other p (slice_index_or m.pairs i no_pair) → h < most_monitors
      → is_pair h (device_of p) (slice_index_or m.pairs i no_pair) ≡ false
  unfolding pair_at
  other-pair h x l =
      let f : Fits (slice_index_or m.pairs i no_pair) = pair_fits at in
      pair-false p t.sent h (slice_index_or m.pairs i no_pair) (λ e. x (omega (arith, f.handle-most)))

  pub flag-other : (h r : ℕ) → Other p (slice_index_or m.pairs i no_pair) → h < most_monitors
      → r ≡ flag (holds (take i m.pairs) h (device_of p))
      → r ≡ flag (holds (take (i + 1) m.pairs) h (device_of p))
  flag-other h r x l e =
      let v : Bool = holds (take i m.pairs) h (device_of p) in
      e ∙ ap flag (sym (holds_more h ∙ ap (λ (y : Bool). v || y) (other-pair h x l) ∙ or-none v))

  pub flag-own : (l : List ℕ) → key / 256 ≡ dev → length l ≡ most_monitors
      → ((h : ℕ) → h < most_monitors → slice_index l h ≡ flag (holds (take i m.pairs) h (device_of p)))
      → (h : ℕ) → h < most_monitors
      → slice_index (slice_set l (key % 256) 1) h ≡ flag (holds (take (i + 1) m.pairs) h (device_of p))
  unfolding pair_at
  flag-own l x n f h b =
      let q : Pair = get_or m.pairs i no_pair in
      let v : Bool = holds (take i m.pairs) h (device_of p) in
      let g : Fits q = pair_fits at in
      let hd : key % 256 ≡ q.handle = key-handle m s i at k in
      let dv : value (watched q) ≡ device_number p = sym (key-device m s i at k) ∙ x ∙ t.number in
      cases_eq h (key % 256)
      (λ e.
      let y : is_pair h (device_of p) q ≡ true = pair-true p t.sent h q g b (omega arith) in
      rw e (get_or-set_same l (key % 256) 1 0 (omega arith)) ∙ flag_true
      ∙ sym (ap flag (holds_more h ∙ ap (λ (z : Bool). v || z) y ∙ or-true v)))
      (λ e.
      let y : is_pair h (device_of p) q ≡ false = pair-false p t.sent h q (λ z. e (omega (arith, g.handle-most))) in
      get_or-set_other l (key % 256) h 1 0 e ∙ f h b
      ∙ ap flag (sym (holds_more h ∙ ap (λ (z : Bool). v || z) y ∙ or-none v)))

-- pairs of other devices hold nothing of the packet's
module _ (m : Model) (s : List ℕ) (n : ℕ) (p : Packet) (dev : ℕ) (w : Holding m s n) (t : Sender p dev) where
  key_of : (i : ℕ) → ℕ
  key_of i = little 8 s (pairs_at + pair_size * i)

  pub flags-below : (h i : ℕ) → h < most_monitors → i ≤ n → NoneBelow m.pairs p i
      → 0 ≡ flag (holds (take i m.pairs) h (device_of p))
  unfolding holds some_of flag
  flags-below h zero l b x = refl
  flags-below h (suc i) l b x =
      flag-other m s n p dev w t i (omega arith) refl h 0 (x i (omega arith)) l
      (flags-below h i l (omega arith) (λ j c. x j (omega arith)))
      ∙ ap (λ (j : ℕ). flag (holds (take j m.pairs) h (device_of p))) (add-one i)

  flags-from : (h to k : ℕ) → h < most_monitors → to + k ≤ n → NoneFrom m.pairs p to
      → flag (holds (take to m.pairs) h (device_of p)) ≡ flag (holds (take (to + k) m.pairs) h (device_of p))
  flags-from h to zero l b x =
      let e : to ≡ to + zero = omega arith in
      ap (λ (j : ℕ). flag (holds (take j m.pairs) h (device_of p))) e
  flags-from h to (suc k) l b x =
      let e : to + k + 1 ≡ to + suc k = omega arith in
      flag-other m s n p dev w t (to + k) (omega arith) refl h _ (x (to + k) (omega arith) (omega (arith, w.count))) l
      (flags-from h to k l (omega arith) x)
      ∙ ap (λ (j : ℕ). flag (holds (take j m.pairs) h (device_of p))) e

  pub flags-all : (h to : ℕ) → h < most_monitors → to ≤ n → NoneFrom m.pairs p to
      → flag (holds (take to m.pairs) h (device_of p)) ≡ flag (holds m.pairs h (device_of p))
  flags-all h to l b x =
      let e : to + (n - to) ≡ n = omega arith in
      flags-from h to (n - to) l (omega arith) x
      ∙ ap (λ (j : ℕ). flag (holds (take j m.pairs) h (device_of p))) e
      ∙ ap (λ (qs : List Pair). flag (holds qs h (device_of p))) (take_all n m.pairs (omega (arith, w.count)))
