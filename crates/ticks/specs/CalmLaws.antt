-- Laws of the definitions in Calm.
use Prim.Native.Nat.{ℕ, ◌+◌, ◌-◌, ◌*◌, ◌≤◌, ◌<◌}
use Rattle.std.specs.Prelude.{◌≡◌, Bool, ◌&&◌, leb, ltb, take, drop, get_or}
use Rattle.std.proofs.Math.Path.{sym, ap}
use Rattle.std.proofs.Common.{◌∙◌, subst, le-leb, lt-ltb}
use Rattle.std.proofs.Math.Bool.{true, false}
use mathlib.Core.List.{List, []}
use native.Mathlib.Omega.{arith}
use borrow.Rule.Slice.PartMut.{put_mid}
use Rattle.std.proofs.lemmas.Bool.{lt-leb}
use Rattle.std.proofs.Math.ListN.{length, set}
use Rattle.laws.specs.Put.{put, put_if}
use Rattle.laws.specs.PutLaws.{put-nil, put_of}
use Rattle.laws.specs.TestsLaws.{and_both, and-not-left, and-not-right}
use Rattle.laws.specs.Loops.{when}
use Rattle.laws.specs.LoopsLaws.{when_true}
use Rattle.laws.specs.Rows.{row}
use Rattle.octets.specs.Little.{little, octets_of}
use Rattle.octets.specs.Numbers.{number_at}
use Rattle.octets.specs.NumbersLaws.{number-of}
use Rattle.model.specs.Types.{ticks_of}
use Rattle.ticks.specs.Row.{windowed_by, closes_at, goes_on, onward, ticked_row, kept_row, says_row, told_on, told_row, run_in, period_in, kept_at, told_at}
use Rattle.ticks.specs.WrittenLaws.{put_same, mid-put, length-ticked, says-open, ticked-still, advance-longer}
use Rattle.ticks.specs.Table.{Turned, Passed}
use Rattle.ticks.specs.TableLaws.{length-of, passed_none, passed-turn}
use Rattle.model.specs.Layout.{most_pairs, most_prefix, pair_size, pairs_size, since_good_at, ticks_at}
use Rattle.ticks.specs.Calm.{CalmOn, CalmRow, StillRow}

-- what the turn of such a row leaves, whatever the output
abbrev pub Calm : List ℕ → List ℕ → List ℕ → List ℕ → ℕ → Type 0
Calm intervals periods t l i =
    (filters prefix out : List ℕ) (at : ℕ) → length prefix ≤ most_prefix
    → Turned t l out out i at (i + 1) at (kept_at intervals periods t i) (told_at intervals periods filters prefix t i)

-- from what was read of it
pub calm-on : (intervals r : List ℕ) {low run silent : ℕ} → length r ≡ pair_size
    → low ≡ get_or intervals (get_or r 0 0) 0 → run ≡ ticks_of low
    → silent ≡ number_at 2 r since_good_at → silent + 1 < run → goes_on (run_in intervals r) r ≡ true
unfolding goes_on run_in
calm-on intervals r {low} {run} {silent} h e1 e2 e4 o =
    let s = number-of 2 r since_good_at e4 (omega arith) in
    rw (← s, ← e1, ← e2) (lt-ltb (silent + 1) run o)

-- nothing is told of it
calm-told : (on : Bool) (period : ℕ) (filters prefix r : List ℕ) → on ≡ true
    → closes_at period (get_or r ticks_at 0) ≡ false
    → [] ≡ told_on on period filters prefix r
unfolding told_on when
calm-told on period filters prefix r o c =
    let e : says_row on period filters r ≡ false = sym (says-open on period filters r c) in
    sym (rw (e, o))

part-is : (i : ℕ) (t : List ℕ)
    → take (pair_size * i + pair_size - pair_size * i) (drop (pair_size * i) t) ≡ row pair_size i t
unfolding row
part-is i t = let k : pair_size * i + pair_size - pair_size * i ≡ pair_size =
    omega arith in ap (λ (n : ℕ). take n (drop (pair_size * i) t)) k

pub part_length : (i : ℕ) (t : List ℕ) → i < most_pairs → length t ≡ pairs_size
    → length (take (pair_size * i + pair_size - pair_size * i) (drop (pair_size * i) t)) ≡ pair_size
part_length i t b h = ap length (part-is i t) ∙ length-of i t b h

-- a row's turn
module _ (intervals periods t : List ℕ) (i : ℕ) (hi : i < most_pairs) (hl : length t ≡ pairs_size) {ys l : List ℕ}
    (q : l ≡ put_mid (pair_size * i) (pair_size * i + pair_size - pair_size * i) t ys) where
  pub calm-left : ys ≡ take (pair_size * i + pair_size - pair_size * i) (drop (pair_size * i) t) → l ≡ t
  unfolding row
  calm-left e =
      let w : ys ≡ row pair_size i t = e ∙ part-is i t in
      let n : length ys ≡ pair_size * i + pair_size - pair_size * i = ap length w ∙ length-of i t hi hl ∙ omega arith in
      mid-put (pair_size * i) (pair_size * i + pair_size) t ys (omega arith) n q ∙ ap (put t (pair_size * i)) w
      ∙ put_same t (pair_size * i) pair_size (omega arith)

  pub calm-turn : CalmRow intervals periods (take (pair_size * i + pair_size - pair_size * i) (drop (pair_size * i) t)) ys
      → Calm intervals periods t l i
  unfolding kept_at kept_row told_at told_row
  calm-turn c filters prefix out at h =
      let r : List ℕ = row pair_size i t in
      let d : CalmRow intervals periods r ys = rw (part-is i t) at c in
      let z : length r ≡ pair_size = length-of i t hi hl in
      let j : length (ticked_row (period_in periods r) r) ≡ pair_size = length-ticked (period_in periods r) r z in
      let n : length ys ≡ pair_size * i + pair_size - pair_size * i = ap length d.row ∙ j ∙ omega arith in
      let k : ys ≡ kept_at intervals periods t i = d.row ∙ sym (when_true _ d.on) in
      let g : [] ≡ told_at intervals periods filters prefix t i =
      calm-told (goes_on (run_in intervals r) r) (period_in periods r) filters prefix r d.on d.still in
      record {
        table = mid-put (pair_size * i) (pair_size * i + pair_size) t ys (omega arith) n q ∙ ap (put t (pair_size * i)) k;
        size = rw (← k) (omega arith);
        octets = sym (put-nil out at) ∙ ap (put out at) g;
        count = rw (← g) (omega arith);
        kept-most = omega arith;
        wrote-most = omega arith;
      }

-- no row, and one row more
pub calm-none : (intervals periods t : List ℕ) (from kept : ℕ) → CalmOn intervals periods t t from kept from
calm-none intervals periods t from kept t₀ out₀ out filters prefix w h p =
    let e : kept ≡ kept + (from - from) = omega arith in
    subst (λ (k : ℕ). Passed t₀ t out₀ out k w (kept_at intervals periods t₀)
    (told_at intervals periods filters prefix t₀) from) e p

pub calm_more : (intervals periods t : List ℕ) (from i : ℕ) {l m : List ℕ} → from ≤ i
    → CalmOn intervals periods t l from from i
    → Calm intervals periods l m i → CalmOn intervals periods t m from from (i + 1)
calm_more intervals periods t from i {l} {m} b c x t₀ out₀ out filters prefix w h p =
    let f : ℕ → List ℕ = kept_at intervals periods t₀ in
    let g : ℕ → List ℕ = told_at intervals periods filters prefix t₀ in
    let e : from + (i - from) ≡ i = omega arith in
    let d : i + 1 ≡ from + (i + 1 - from) = omega arith in
    let y : Passed t₀ l out₀ out i w f g i =
    subst (λ (k : ℕ). Passed t₀ l out₀ out k w f g i) e (c t₀ out₀ out filters prefix w h p) in
    subst (λ (k : ℕ). Passed t₀ m out₀ out k w f g (i + 1)) d
    (passed-turn intervals periods filters prefix t₀ out₀ i (omega arith) y (x filters prefix out w h))

-- where every row before stayed
pub calm-same : (intervals periods t : List ℕ) (from kept r : ℕ) {l : List ℕ} → kept ≡ from
    → CalmOn intervals periods t l from from r
    → CalmOn intervals periods t l from kept r
calm-same intervals periods t from kept r {l} e c = rw e c

-- from the first row on
pub calm-first : (intervals periods t out filters prefix : List ℕ) (r : ℕ) {l : List ℕ} → length prefix ≤ most_prefix
    → CalmOn intervals periods t l 0 0 r
    → Passed t l out out r 0 (kept_at intervals periods t) (told_at intervals periods filters prefix t) r
calm-first intervals periods t out filters prefix r {l} h c =
    let e : 0 + (r - 0) ≡ r = omega arith in
    subst (λ (k : ℕ). Passed t l out out k 0 (kept_at intervals periods t) (told_at intervals periods filters prefix t)
    r) e
    (c t out out filters prefix 0 h (passed_none t out _ _))

-- a row without windows, whatever its ticks; and one whose window stays open
module _ (period : ℕ) (r : List ℕ) {v : ℕ} {b : Bool} {m : List ℕ} (h : length r ≡ pair_size)
    (e : v ≡ little 2 r since_good_at + 1) (f : b ≡ leb (8 + 2) (length r)) (q : m ≡ put_if b r 8 (octets_of 2 v)) where
  still-onward : m ≡ onward r
  unfolding onward
  still-onward = rw (← e) (put_of r 8 (octets_of 2 v) 2 (length r) f (omega arith) q)

  pub still-bare : windowed_by period ≡ false → StillRow period r m
  unfolding closes_at
  still-bare w = record {
    unclosed = and-not-left (windowed_by period) (leb period (get_or r ticks_at 0 + 1)) w;
    ticked = still-onward ∙ ticked-still period r w;
  }

  pub still_open : {t : ℕ} → t ≡ get_or r ticks_at 0 → t + 1 < period → period ≤ 254 → StillRow period r (set m 10
      (t + 1))
  unfolding closes_at windowed_by
  still_open {t} i k n =
      let w : windowed_by period ≡ true = and_both (le-leb 1 period (omega arith)) (le-leb period 254 n) in
      let c : closes_at period (get_or r ticks_at 0) ≡ false =
      and-not-right (windowed_by period) (leb period (get_or r ticks_at 0 + 1))
      (lt-leb period (get_or r ticks_at 0 + 1) (omega arith)) in
      record {
        unclosed = c;
        ticked = ap (λ (j : ℕ). set m 10 (j + 1)) i ∙ advance-longer period r h still-onward w c;
      }

pub bare-last : (period : ℕ) → period ≡ 255 → windowed_by period ≡ false
unfolding windowed_by
bare-last period e = and-not-right (leb 1 period) (leb period 254) (lt-leb period 254 (omega arith))
