-- How much rows that began empty can hold: at most what the position allows, which has 32 bits. So no journal counted
-- from empty rows is refused by 12. Document 02, T-09 and T-10. Assumes nothing.
use Rattle.std.specs.Prelude.{ℕ, zero, suc, ◌+◌, ◌-◌, ◌*◌, ◌%◌, ◌≤◌, ◌<◌, ◌≡◌, refl, Bool, ◌&&◌, List, [], ◌∷◌, ◌++◌, eqb, ltb, ℤ, pos, negsuc, ◌+ℤ◌, length, replicate}
use Rattle.std.proofs.Common.{sym, ap, ◌∙◌, subst, lt-ltb, le-ltb}
use Rattle.std.proofs.Math.Bool.{true, false}
use Rattle.std.proofs.Math.Option.{Option, none, some}
use native.Mathlib.Omega.{arith}
use Rattle.std.proofs.Math.IntN.{sub_ℕ}
use Rattle.std.specs.Int.Signed.{mag}
use Rattle.laws.specs.Tests.{pick}
use Rattle.laws.specs.TestsLaws.{and_both, cases-le}
use Rattle.laws.specs.Loops.{keep, up_to}
use Rattle.laws.specs.LoopsLaws.{length-keep}
use Rattle.rule.specs.Engine.{find}
use Rattle.totals.specs.declared.Row.{Row}
use Rattle.totals.specs.Sums.{count_fits, sum_fits}
use Rattle.totals.specs.Two.{every_two, map_two}
use Rattle.totals.specs.Table.{empty, table_rows, row_fits, row_sum}
use Rattle.model.specs.Types.{Model, Packet, Pair}
use Rattle.model.specs.Level.{level, d_bm}
use Rattle.model.specs.Layout.{most_monitors, most_pairs}
use Rattle.model.specs.Frames.{Body, Typed, command, packet, tick, bad, typed}
use Rattle.model.specs.Sound.{sound_model}
use Rattle.blocks.specs.FactsLaws.{sound-facts}
use Rattle.months.specs.Counts.{one, of_handle, closed_by, matching, causes, reports_by, reports_of, windows, watching, packets_in, reports_in, ticks_in, sum_in, row_in, rows_added}
use Rattle.months.specs.Tables.{table_of}

-- the size of a whole number, its sign left out
unfoldable pub size : ℤ → ℕ
size (pos a) = a
size (negsuc a) = suc a

size-sub : (a b : ℕ) → size (sub_ℕ a b) ≤ a + b
unfolding size
size-sub a b = cases-le b a (λ (h : b ≤ a). rw (le-ltb a b h) (omega arith))
    (λ (h : a < b). rw (lt-ltb a b h) (omega arith))

-- the size of a sum
pub size-sum : (a b : ℤ) → size (a +ℤ b) ≤ size a + size b
unfolding size
size-sum (pos a) (pos b) = omega arith
size-sum (pos a) (negsuc b) = size-sub a (suc b)
size-sum (negsuc a) (pos b) = let h : size (sub_ℕ b (suc a)) ≤ b + suc a = size-sub b (suc a) in omega arith
size-sum (negsuc a) (negsuc b) = omega arith

mag-size : (z : ℤ) → mag z ≤ size z
unfolding size
mag-size (pos a) = omega arith
mag-size (negsuc a) = omega arith

-- what n frames can have counted in a row: a tick closes at most a window a pair
pub record Within (n : ℕ) (r : Row) : Type 0 where
  pub packets : r.packets ≤ n
  pub reports : r.reports ≤ most_pairs * n
  pub ticks : r.ticks ≤ n
  pub sum : size r.sum ≤ 128 * n

-- of every row
abbrev pub AllIn : ℕ → List Row → Type 0
AllIn n [] = Unit {0}
AllIn n (r ∷ l) = Within n r × AllIn n l

pub empty-in : (n : ℕ) → Within n empty
unfolding size
empty-in n = record { packets = omega arith; reports = omega arith; ticks = omega arith; sum = omega arith }

pub none_in : (n k : ℕ) → AllIn n (replicate k empty)
none_in n zero = tt
none_in n (suc k) = (empty-in n, none_in n k)

in-more : (n : ℕ) (l k : List Row) → AllIn n l → AllIn n k → AllIn n (l ++ k)
in-more n [] k p q = q
in-more n (r ∷ l) k p q = (p.0, in-more n l k p.1 q)

table-in : (n : ℕ) (f : ℕ → Row) → ((h : ℕ) → Within n (f h)) → (k : ℕ) → AllIn n (table_of f k)
unfolding table_of up_to
table-in n f p zero = tt
table-in n f p (suc k) = in-more n (table_of f k) (f k ∷ []) (table-in n f p k) (p k, tt)

-- rows within 32 bits of frames add up, and hold what both do
pub sum-in : (n k : ℕ) (a b : Row) → Within n a → Within k b → Within (n + k) (row_sum a b)
unfolding row_sum
sum-in n k a b p q =
    let h : size (a.sum +ℤ b.sum) ≤ size a.sum + size b.sum = size-sum a.sum b.sum in
    record {
      packets = omega (arith, p.packets, q.packets);
      reports = omega (arith, p.reports, q.reports);
      ticks = omega (arith, p.ticks, q.ticks);
      sum = omega (arith, h, p.sum, q.sum);
    }

pub sums-in : (n k : ℕ) (l d : List Row) → AllIn n l → AllIn k d → AllIn (n + k) (map_two row_sum l d)
unfolding map_two
sums-in n k [] d p q = tt
sums-in n k (a ∷ l) [] p q = tt
sums-in n k (a ∷ l) (b ∷ d) p q = (sum-in n k a b p.0 q.0, sums-in n k l d p.1 q.1)

row-in : (n k : ℕ) (a b : Row) → n ≤ 4294967296 → k ≤ 4294967296 → Within n a → Within k b → row_fits a b ≡ true
unfolding row_fits
row-in n k a b hn hk p q =
    let h : size (a.sum +ℤ b.sum) ≤ size a.sum + size b.sum = size-sum a.sum b.sum in
    let g : mag (a.sum +ℤ b.sum) ≤ size (a.sum +ℤ b.sum) = mag-size (a.sum +ℤ b.sum) in
    and_both (lt-ltb (a.packets + b.packets) 18446744073709551616 (omega (arith, p.packets, q.packets)))
    (and_both (lt-ltb (a.reports + b.reports) 18446744073709551616 (omega (arith, p.reports, q.reports)))
    (and_both (lt-ltb (a.ticks + b.ticks) 18446744073709551616 (omega (arith, p.ticks, q.ticks)))
    (lt-ltb (mag (a.sum +ℤ b.sum)) 9223372036854775808 (omega (arith, h, g, p.sum, q.sum)))))

pub fits_in_lem : (n k : ℕ) (l d : List Row) → n ≤ 4294967296 → k ≤ 4294967296 → AllIn n l → AllIn k d
    → every_two row_fits l d ≡ true
unfolding every_two
fits_in_lem n k [] d hn hk p q = refl
fits_in_lem n k (a ∷ l) [] hn hk p q = refl
fits_in_lem n k (a ∷ l) (b ∷ d) hn hk p q =
    and_both (row-in n k a b hn hk p.0 q.0) (fits_in_lem n k l d hn hk p.1 q.1)

-- what one frame counts
one-most : (b : Bool) → one b ≤ 1
unfolding one pick
one-most true = omega arith
one-most false = omega arith

d_bm-most : (o : ℕ) → size (d_bm o) ≤ 128
unfolding size d_bm level
d_bm-most o =
    let h : (o + 128) % 256 < 256 = omega arith in
    cases-le 128 ((o + 128) % 256) (λ (u : 128 ≤ (o + 128) % 256). rw (le-ltb ((o + 128) % 256) 128 u) (omega arith))
    (λ (u : (o + 128) % 256 < 128). rw (lt-ltb ((o + 128) % 256) 128 u) (omega arith))

reports-most : (p : Packet) → reports_of p ≤ 2
unfolding reports_of reports_by
reports-most p = go p.scan
  where
    go : (o : Option (List ℕ)) → reports_by o ≤ 2
    go none = omega arith
    go (some l) = omega arith

module _ (m : Model) (most : length m.pairs ≤ most_pairs) (h : ℕ) where
  windows-most : windows m h ≤ most_pairs
  unfolding windows
  windows-most =
      let k = length-keep (λ q. of_handle h q && closed_by m.filter (find m.mons q.handle) q) m.pairs in
      omega (arith, k, most)

  caused : (b : Bool) (p : Packet) → pick b (reports_of p) 0 ≤ most_pairs * 1
  unfolding pick
  caused true p = let k : reports_of p ≤ 2 = reports-most p in omega arith
  caused false p = omega arith

  summed : (b : Bool) (p : Packet) → size (pick b (d_bm p.rssi) (pos 0)) ≤ 128 * 1
  unfolding pick size
  summed true p = let k : size (d_bm p.rssi) ≤ 128 = d_bm-most p.rssi in omega arith
  summed false p = omega arith

  frame-in : (f : Typed) → Within 1 (row_in m f h)
  unfolding row_in packets_in reports_in ticks_in sum_in size
  frame-in (command o l) = empty-in 1
  frame-in (packet p) =
      record {
        packets = one-most (matching m p h);
        reports = caused (causes m p h) p;
        ticks = omega arith;
        sum = summed (matching m p h) p;
      }
  frame-in tick =
      record {
        packets = omega arith;
        reports = omega (arith, windows-most);
        ticks = one-most (watching m h);
        sum = omega arith;
      }
  frame-in bad = empty-in 1

pub adds-in : (m : Model) (b : Body) → sound_model m ≡ true → AllIn 1 (rows_added m b)
unfolding rows_added table_of
adds-in m b e = table-in 1 (row_in m (typed b)) (λ h. frame-in m (sound-facts m e).pairs-most h (typed b)) most_monitors

-- rows within the position of a sound state: the next frame fits, whatever it is
pub next_fits : (m : Model) (b : Body) (l : List Row) → sound_model m ≡ true → AllIn m.position l
    → every_two row_fits l (rows_added m b) ≡ true
next_fits m b l e p =
    fits_in_lem m.position 1 l (rows_added m b) (omega (arith, (sound-facts m e).position-most)) (omega arith) p
    (adds-in m b e)
