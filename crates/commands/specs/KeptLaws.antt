-- Laws of the definitions in Kept.
use Prim.Native.Nat.{ℕ, zero, suc, ◌+◌, ◌-◌, ◌*◌, ◌≤◌, ◌<◌}
use Rattle.std.proofs.Math.Path.{◌≡◌, refl, sym, ap}
use Rattle.std.proofs.Common.{◌∙◌, length-append, length-take-le, drop-drop, get_or-take, get_or-drop, eq-eqb, ne_eqb, le-leb}
use Rattle.std.specs.Prelude.{Bool, ◌&&◌, leb, eqb, drop, replicate}
use Rattle.std.proofs.Math.Bool.{true, false, not}
use mathlib.Core.List.{List, [], ◌∷◌, ◌++◌, append-nil, map}
use native.Mathlib.Omega.{arith}
use Rattle.std.proofs.Math.ListN.{length, take, get_or}
use Rattle.std.proofs.Math.Seq.{take-length}
use Rattle.laws.specs.Tests.{pick}
use Rattle.laws.specs.TestsLaws.{pick_true, pick-false, and_both}
use Rattle.laws.specs.Put.{put, put_if}
use Rattle.laws.specs.PutLaws.{put_then, put-nil, drop-after-put}
use Rattle.laws.specs.Loops.{keep, only, when}
use Rattle.laws.specs.LoopsLaws.{keep-take, length-keep, map-append, when_true, when_false}
use Rattle.laws.specs.Rows.{row, flat}
use Rattle.laws.specs.RowsLaws.{flat_append}
use Rattle.rule.specs.Base.{All}
use Rattle.model.specs.Types.{Pair}
use Rattle.model.specs.Image.{pair_row}
use Rattle.model.specs.Commands.{of_other}
use Rattle.model.specs.Block.{pad_to, pair_block}
use Rattle.blocks.specs.Bounds.{Fits}
use Rattle.blocks.specs.PairsLaws.{length-pair_place, row-pair_block}
use Rattle.model.specs.Layout.{block_size, handle_at, most_pairs, pair_size, pairs_at}
use Rattle.commands.specs.Kept.{other, kept_octets, kept_count, rows_of, Holds}

-- what stands behind a put is as it was
pub drop-past-put : (xs : List ℕ) (at : ℕ) (ys : List ℕ) (p : ℕ) → at + length ys ≤ p → at ≤ length xs
    → drop p (put xs at ys) ≡ drop p xs
drop-past-put xs at ys p h k =
    let e : at + length ys + (p - (at + length ys)) ≡ p = omega arith in
    ap (λ (j : ℕ). drop j (put xs at ys)) (sym e)
    ∙ sym (drop-drop (p - (at + length ys)) (at + length ys) (put xs at ys))
    ∙ ap (λ (l : List ℕ). drop (p - (at + length ys)) l) (drop-after-put xs at ys k)
    ∙ drop-drop (p - (at + length ys)) (at + length ys) xs
    ∙ ap (λ (j : ℕ). drop j xs) e

pub kept-most : (h : ℕ) (s : List ℕ) (i : ℕ) → kept_count h s i ≤ 1
unfolding kept_count pick
kept-most h s i = go (other h (get_or s (pairs_at + pair_size * i) 0))
  where
    go : (t : Bool) → pick t 1 0 ≤ 1
    go true = omega arith
    go false = omega arith

-- one row of the loop: of the handle, or moved
module _ (h : ℕ) (s : List ℕ) (i k : ℕ) where
  pub kept-drop : h ≡ get_or s (pairs_at + pair_size * i) 0
      → (k ≡ k + kept_count h s i) × (s ≡ put s (pairs_at + pair_size * k) (kept_octets h s i))
  unfolding kept_count kept_octets other
  kept-drop e =
      let t : not (eqb h (get_or s (pairs_at + pair_size * i) 0)) ≡ false =
      ap not (eq-eqb h (get_or s (pairs_at + pair_size * i) 0) e) in
      let n : ◌≡◌ {A = ℕ} (pick (not (eqb h (get_or s (pairs_at + pair_size * i) 0))) 1 0) 0 = pick-false 1 0 t in (
        omega arith,
        sym (ap (put s (pairs_at + pair_size * k)) (when_false (take pair_size (drop (pairs_at + pair_size * i) s)) t)
            ∙ put-nil s (pairs_at + pair_size * k)),
      )

  pub kept_move : {r : Bool} {s' : List ℕ} → (h ≡ get_or s (pairs_at + pair_size * i) 0 → ⊥) → k ≤ i
      → pairs_at + pair_size * i + pair_size ≤ length s
      → (r ≡ (leb (pairs_at + pair_size * k) (pairs_at + pair_size * i)
      && leb (pairs_at + pair_size * i + pair_size) (length s)))
      × (s' ≡ put_if r s (pairs_at + pair_size * k) (take pair_size (drop (pairs_at + pair_size * i) s)))
      → (k + 1 ≡ k + kept_count h s i) × (s' ≡ put s (pairs_at + pair_size * k) (kept_octets h s i))
  unfolding kept_count kept_octets other put_if
  kept_move {r} {s'} e b c q =
      let y : List ℕ = take pair_size (drop (pairs_at + pair_size * i) s) in
      let t : not (eqb h (get_or s (pairs_at + pair_size * i) 0)) ≡ true =
      ap not (ne_eqb h (get_or s (pairs_at + pair_size * i) 0) e) in
      let n : ◌≡◌ {A = ℕ} (pick (not (eqb h (get_or s (pairs_at + pair_size * i) 0))) 1 0) 1 = pick_true 1 0 t in
      let d : r ≡ true =
      q.0 ∙ and_both (le-leb (pairs_at + pair_size * k) (pairs_at + pair_size * i) (omega arith))
      (le-leb (pairs_at + pair_size * i + pair_size)
      (length s) c) in (
        omega arith,
        q.1 ∙ ap (λ (x : Bool). put_if x s (pairs_at + pair_size * k) y) d
            ∙ sym (ap (put s (pairs_at + pair_size * k)) (when_true y t)),
      )

-- rows of pairs: joined, their length, those that are kept
rows_append : (ps qs : List Pair) → rows_of (ps ++ qs) ≡ rows_of ps ++ rows_of qs
unfolding rows_of
rows_append ps qs =
    ap flat (map-append (λ (q : Pair). pad_to pair_size (pair_row q)) ps qs)
    ∙ flat_append (map (λ (q : Pair). pad_to pair_size (pair_row q)) ps) _

pub length-rows_of : (qs : List Pair) → All Fits qs → length (rows_of qs) ≡ pair_size * length qs
unfolding rows_of flat
length-rows_of [] a = refl
length-rows_of (q ∷ qs) a =
    let e : length (pad_to pair_size (pair_row q) ++ rows_of qs)
    ≡ length (pad_to pair_size (pair_row q)) + length (rows_of qs) =
    length-append (pad_to pair_size (pair_row q)) (rows_of qs) in
    omega (arith, length-rows_of qs a.1, length-pair_place q a.0)

all_take : (n : ℕ) (qs : List Pair) → All Fits qs → All Fits (take n qs)
all_take zero qs a = tt
all_take (suc n) [] a = tt
all_take (suc n) (q ∷ qs) a = (a.0, all_take n qs a.1)

pub all_keep : (f : Pair → Bool) (qs : List Pair) → All Fits qs → All Fits (keep f qs)
unfolding keep only
all_keep f [] a = tt
all_keep f (q ∷ qs) a = go (f q) (all_keep f qs a.1)
  where
    go : (t : Bool) → All Fits (keep f qs) → All Fits (only t q ++ keep f qs)
    go true ih = (a.0, ih)
    go false ih = ih

-- a pair of no use: what `get_or` gives past the end
abbrev no_pair : Pair
no_pair = record {
  handle = 0;
  address_type = 0;
  address = [];
  since_good = 0;
  ticks = 0;
  packets = 0;
  sum = 0;
  kept = 0;
  event = 0;
  adv = [];
}

-- one row, and what is written of it
module _ (h : ℕ) (q : Pair) (s : List ℕ) (i : ℕ)
    (e : take pair_size (drop (pairs_at + pair_size * i) s) ≡ pad_to pair_size (pair_row q)) where
  handle-at : get_or s (pairs_at + pair_size * i) 0 ≡ q.handle
  unfolding pad_to pair_row
  handle-at =
      let p : ℕ = pairs_at + pair_size * i in
      let z : p + 0 ≡ p = omega arith in
      ap (λ (j : ℕ). get_or s j 0) (sym z) ∙ sym (get_or-drop p s 0 0)
      ∙ sym (get_or-take pair_size (drop p s) 0 0 (omega arith))
      ∙ ap (λ (r : List ℕ). get_or r handle_at 0) e

  other_at : other h (get_or s (pairs_at + pair_size * i) 0) ≡ of_other h q
  unfolding other of_other
  other_at = ap (λ (x : ℕ). not (eqb h x)) handle-at

  kept-octets : kept_octets h s i ≡ rows_of (only (of_other h q) q)
  unfolding kept_octets rows_of flat when only
  kept-octets =
      ap (λ (t : Bool). when t (take pair_size (drop (pairs_at + pair_size * i) s))) other_at
      ∙ ap (λ (r : List ℕ). when (of_other h q) r) e ∙ go (of_other h q)
    where
      go : (t : Bool) → when t (pad_to pair_size (pair_row q))
          ≡ flat (map (λ (p : Pair). pad_to pair_size (pair_row p)) (only t q))
      go true = sym (append-nil (pad_to pair_size (pair_row q)))
      go false = refl

  kept-count : kept_count h s i ≡ length (only (of_other h q) q)
  unfolding kept_count pick only
  kept-count = ap (λ (t : Bool). pick t 1 0) other_at ∙ go (of_other h q)
    where
      go : (t : Bool) → pick t 1 0 ≡ length (only t q)
      go true = refl
      go false = refl

-- a turn of the loop: rows below i done, k of them kept
module _ (h : ℕ) (s₀ : List ℕ) (qs : List Pair) (t : Holds s₀ qs) (l : length s₀ ≡ block_size)
    (i : ℕ) (b : i < length qs) where
  abbrev done : ℕ → List Pair
  done n = keep (of_other h) (take n qs)

  done-most : length (done i) ≤ i
  done-most =
      let n : length (take i qs) ≡ i = length-take-le i qs (omega arith) in
      omega (arith, length-keep (of_other h) (take i qs))

  done-length : length (rows_of (done i)) ≡ pair_size * length (done i)
  done-length = length-rows_of (done i) (all_keep (of_other h) (take i qs) (all_take i qs t.fit))

  row_now : {s : List ℕ} → s ≡ put s₀ pairs_at (rows_of (done i))
      → take pair_size (drop (pairs_at + pair_size * i) s) ≡ pad_to pair_size (pair_row (get_or qs i no_pair))
  unfolding row
  row_now e =
      let m : length (done i) ≤ i = done-most in
      let n : length (rows_of (done i)) ≡ pair_size * length (done i) = done-length in
      ap (λ (x : List ℕ). take pair_size (drop (pairs_at + pair_size * i) x)) e
      ∙ ap (take pair_size)
      (drop-past-put s₀ pairs_at (rows_of (done i)) (pairs_at + pair_size * i) (omega arith) (omega arith))
      ∙ ap (take pair_size) (sym (drop-drop (pair_size * i) pairs_at s₀))
      ∙ ap (λ (x : List ℕ). take pair_size (drop (pair_size * i) x)) t.table
      ∙ row-pair_block qs t.fit t.most t.rest i no_pair b

  pub kept-turn : {k k' : ℕ} {s s' : List ℕ} → k ≡ length (done i) → s ≡ put s₀ pairs_at (rows_of (done i))
      → k' ≡ k + kept_count h s i → s' ≡ put s (pairs_at + pair_size * k) (kept_octets h s i)
      → (k' ≡ length (keep (of_other h) (take (i + 1) qs))) × (s'
      ≡ put s₀ pairs_at (rows_of (keep (of_other h) (take (i + 1) qs))))
  kept-turn {k} {k'} {s} {s'} n e p w =
      let q : Pair = get_or qs i no_pair in
      let r : take pair_size (drop (pairs_at + pair_size * i) s) ≡ pad_to pair_size (pair_row q) = row_now e in
      let u : keep (of_other h) (take (i + 1) qs) ≡ done i ++ only (of_other h q) q =
      keep-take (of_other h) qs i no_pair b in
      let c : kept_count h s i ≡ length (only (of_other h q) q) = kept-count h q s i r in
      let o : kept_octets h s i ≡ rows_of (only (of_other h q) q) = kept-octets h q s i r in
      let d : length (rows_of (done i)) ≡ pair_size * length (done i) = done-length in (
        p ∙ ap (λ (x : ℕ). k + x) c ∙ ap (λ (x : ℕ). x + length (only (of_other h q) q)) n
            ∙ sym (ap length u ∙ length-append (done i) (only (of_other h q) q)),
        put_then s₀ pairs_at (rows_of (done i)) (pairs_at + pair_size * k) (rows_of (only (of_other h q) q)) (omega arith) e
            (omega arith)
            (w ∙ ap (put s (pairs_at + pair_size * k)) o)
            (sym (ap rows_of u ∙ rows_append (done i) (only (of_other h q) q))),
      )

-- the loop begins with nothing done, and ends with all pairs
pub kept-none : (h : ℕ) (s : List ℕ) (qs : List Pair)
    → (0 ≡ length (keep (of_other h) (take 0 qs))) × (s ≡ put s pairs_at (rows_of (keep (of_other h) (take 0 qs))))
unfolding keep rows_of flat
kept-none h s qs = (refl, sym (put-nil s pairs_at))

pub kept-all : (h : ℕ) (s₀ : List ℕ) (qs : List Pair) (i : ℕ) {k : ℕ} {s : List ℕ} → i ≡ length qs
    → (k ≡ length (keep (of_other h) (take i qs))) × (s ≡ put s₀ pairs_at (rows_of (keep (of_other h) (take i qs))))
    → (k ≡ length (keep (of_other h) qs)) × (s ≡ put s₀ pairs_at (rows_of (keep (of_other h) qs)))
kept-all h s₀ qs i e p =
    let z : take i qs ≡ qs = ap (λ (n : ℕ). take n qs) e ∙ take-length qs in
    (rw z at p.0, rw z at p.1)

-- then zeros up to the end of the rows: the pair part of the pairs kept
pub kept_block : (s₀ : List ℕ) (ps : List Pair) {k : ℕ} {s s' : List ℕ} → All Fits ps → pairs_at ≤ length s₀
    → k ≡ length ps
    → s ≡ put s₀ pairs_at (rows_of ps) → s' ≡ put s (pairs_at + pair_size * k) (replicate (pair_size * (most_pairs - k)) 0)
    → s' ≡ put s₀ pairs_at (pair_block ps)
unfolding pair_block rows_of
kept_block s₀ ps {k} {s} {s'} a h n e w =
    let d : length (rows_of ps) ≡ pair_size * length ps = length-rows_of ps a in
    put_then s₀ pairs_at (rows_of ps) (pairs_at + pair_size * k) (replicate (pair_size * (most_pairs - k)) 0) h e
    (omega arith) w
    (ap (λ (j : ℕ). rows_of ps ++ replicate (pair_size * (most_pairs - j)) 0) n)
