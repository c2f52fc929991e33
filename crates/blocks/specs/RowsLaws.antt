-- Rows of the image and of the block: how long they are, that they hold what was written, and that they are octets.
-- Document 01, The image (A0, A1, A3). Assumes nothing.
use Rattle.std.specs.Prelude.{ℕ, zero, suc, ◌+◌, ◌-◌, ◌^◌, ◌≤◌, ◌<◌, ◌≡◌, true, length, take, drop, get_or, replicate}
use Rattle.std.proofs.Math.Path.{refl}
use Rattle.std.proofs.Common.{ap, ◌∙◌, arith, mod-eq_of_lt, length-append, take_at, drop_at, get_or-append-add, lt-ltb}
use Rattle.std.proofs.Math.Option.{Option}
use mathlib.Core.List.{List, [], ◌∷◌, ◌++◌, append_assoc}
use Rattle.std.proofs.lemmas.List.{length-replicate}
use Rattle.std.proofs.Math.Seq.{take-append_seam, drop-append-add}
use Rattle.laws.specs.TestsLaws.{and_both}
use Rattle.laws.specs.Loops.{every}
use Rattle.laws.specs.LoopsLaws.{every_append}
use Rattle.octets.specs.Little.{little, octets_of, is_octet, value}
use Rattle.octets.specs.LittleLaws.{little-value, value-octets, length-octets}
use Rattle.octets.specs.LittleLaws.{octets-octets}
use Rattle.model.specs.Types.{Model, Monitor, Pair}
use Rattle.model.specs.Image.{head_row, monitor_row, pair_row, extra_in, monitor_from, pair_in}
use Rattle.model.specs.Block.{pad_to}
use Rattle.model.specs.Layout.{data_at, length_at}

-- lengths
pub length-monitor_row : (x : ℕ × Monitor) → length (monitor_row x) ≡ 7 + length x.1.condition
unfolding monitor_row
length-monitor_row x = omega arith

pub length-pair_row : (q : Pair) → length q.address ≡ 6 → length (pair_row q) ≡ data_at + length q.adv
unfolding pair_row
length-pair_row q h = simp (length-append, length-octets) (omega arith)

pub length-head_row : (m : Model) → length (head_row m) ≡ 8 + length m.prefix
unfolding head_row
length-head_row m = simp (length-append, length-octets) (omega arith)

pub length-pad_to : (n : ℕ) (r : List ℕ) → length r ≤ n → length (pad_to n r) ≡ n
unfolding pad_to
length-pad_to n r h = simp (length-append, length-replicate) (omega arith)

-- two monitors with the same fields are one
pub monitor-eq : {e : Option (List ℕ)} {c : List ℕ} (x : ℕ × Monitor) → c ≡ x.1.condition → e ≡ x.1.extra
    → ◌≡◌ {A = ℕ × Monitor} (
      x.0,
      record {
        high = x.1.high;
        low = x.1.low;
        interval = x.1.interval;
        sampling = x.1.sampling;
        condition_type = x.1.condition_type;
        condition = c;
        extra = e;
      },
    ) x
monitor-eq x f g = rw (f, g)

-- a monitor's row holds the monitor, whatever stands behind it, with what is added in another list
pub monitor_from-row : (x : ℕ × Monitor) (zs a : List ℕ) → extra_in a ≡ x.1.extra
    → monitor_from (monitor_row x ++ zs) a ≡ x
unfolding monitor_from monitor_row
monitor_from-row x zs a e = monitor-eq x (take-append_seam x.1.condition zs) e

-- reading past the first elements of a list
module _ (p xs : List ℕ) (n : ℕ) (e : length p ≡ n) where
  pub get_d_past : (i : ℕ) → get_or (p ++ xs) (n + i) 0 ≡ get_or xs i 0
  get_d_past i = rw (← e) (get_or-append-add p xs i 0)

  pub drop_past : (i : ℕ) → drop (n + i) (p ++ xs) ≡ drop i xs
  drop_past i = rw (← e) (drop-append-add p xs i)

pub little-past : (k : ℕ) (p xs : List ℕ) (n : ℕ) → length p ≡ n → (i : ℕ) → little k (p ++ xs) (n + i) ≡ little k xs i
unfolding little
little-past zero p xs n e i = refl
little-past (suc k) p xs n e i =
    let a : n + i + 1 ≡ n + (i + 1) = omega arith in
    rw (get_d_past p xs n e i, a, little-past k p xs n e (i + 1))

-- a number is read where its octets stand
pub little-in : (k : ℕ) (p : List ℕ) (v : ℕ) (t : List ℕ) (n : ℕ) → length p ≡ n → v < 256 ^ k
    → little k (p ++ (octets_of k v ++ t)) n ≡ v
little-in k p v t n e h =
    let l : length (octets_of k v) ≡ k = length-octets k v in
    let b : n + k ≤ length (p ++ (octets_of k v ++ t)) = simp length-append (omega arith) in
    little-value k (p ++ (octets_of k v ++ t)) n b
    ∙ ap (λ (x : List ℕ). value (take k x)) (drop_at p (octets_of k v ++ t) n e)
    ∙ ap value (take_at (octets_of k v) t k l)
    ∙ value-octets k v
    ∙ mod-eq_of_lt h

-- two pairs with the same fields are one
pub pair_eq : {h k : ℕ} {a : List ℕ} {s t p u r e : ℕ} {d : List ℕ} (q : Pair)
    → h ≡ q.handle → k ≡ q.address_type → a ≡ q.address → s ≡ q.since_good → t ≡ q.ticks → p ≡ q.packets
    → u ≡ q.sum
    → r ≡ q.kept → e ≡ q.event → d ≡ q.adv
    → ◌≡◌ {A = Pair}
    (record {
      handle = h;
      address_type = k;
      address = a;
      since_good = s;
      ticks = t;
      packets = p;
      sum = u;
      kept = r;
      event = e;
      adv = d;
    }) q
pair_eq q e1 e2 e3 e4 e5 e6 e7 e8 e9 e10 = rw (e1, e2, e3, e4, e5, e6, e7, e8, e9, e10)

-- what follows the address in a pair's row
abbrev rest : Pair → List ℕ
rest q =
    octets_of 2 q.since_good ++
    (q.ticks ∷ (octets_of 4 q.packets ++ (octets_of 8 q.sum ++ (q.kept ∷ q.event ∷ length q.adv ∷ q.adv))))

-- a pair's row holds the pair, whatever stands behind it
pub pair_in-row : (q : Pair) (zs : List ℕ) → length q.address ≡ 6 → q.since_good < 65536 → q.packets < 4294967296
    → q.sum < 18446744073709551616 → pair_in (pair_row q ++ zs) ≡ q
unfolding pair_in pair_row octets_of
pair_in-row q zs la ls lp lu =
    let w : List ℕ = q.handle ∷ q.address_type ∷ q.address in
    let x : List ℕ = rest q ++ zs in
    let l : length w ≡ 8 = omega arith in
    let s : (q.address ++ rest q) ++ zs ≡ q.address ++ x = append_assoc q.address (rest q) zs in
    let n : get_or (w ++ x) length_at 0 ≡ length q.adv = get_d_past w x 8 l 17 in
    rw s (pair_eq q refl refl (take_at q.address x 6 la)
    (little-past 2 w x 8 l 0 ∙ little-in 2 [] q.since_good _ 0 refl ls)
    (get_d_past w x 8 l 2)
    (little-past 4 w x 8 l 3 ∙ little-in 4 (octets_of 2 q.since_good ++ (q.ticks ∷ [])) q.packets _ 3 refl lp)
    (little-past 8 w x 8 l 7
    ∙ little-in 8 (octets_of 2 q.since_good ++ (q.ticks ∷ octets_of 4 q.packets)) q.sum _ 7 refl lu)
    (get_d_past w x 8 l 15)
    (get_d_past w x 8 l 16)
    (ap (λ (k : ℕ). take k (drop data_at (w ++ x))) n
    ∙ ap (λ (y : List ℕ). take (length q.adv) y) (drop_past w x 8 l 18)
    ∙ take-append_seam q.adv zs))

-- the head row holds A0's fields, whatever stands behind it
module _ (m : Model) (zs : List ℕ) where
  pub head_row-position : m.position < 4294967296 → little 4 (head_row m ++ zs) 0 ≡ m.position
  unfolding head_row octets_of
  head_row-position h = little-in 4 [] m.position _ 0 refl h

  pub head_row-filter : get_or (head_row m ++ zs) 4 0 ≡ m.filter
  unfolding head_row octets_of
  head_row-filter = refl

  pub head_row-opcode : m.opcode < 65536 → little 2 (head_row m ++ zs) 5 ≡ m.opcode
  unfolding head_row octets_of
  head_row-opcode h = little-in 2 (octets_of 4 m.position ++ (m.filter ∷ [])) m.opcode _ 5 refl h

  pub head_row-count : get_or (head_row m ++ zs) 7 0 ≡ length m.prefix
  unfolding head_row octets_of
  head_row-count = refl

  pub head_row-prefix : take (length m.prefix) (drop 8 (head_row m ++ zs)) ≡ m.prefix
  unfolding head_row octets_of
  head_row-prefix = take-append_seam m.prefix zs

-- octets, one by one and in lists
pub octet : (n : ℕ) → n < 256 → is_octet n ≡ true
octet n h = lt-ltb n 256 h

pub octets-cons : (n : ℕ) (l : List ℕ) → n < 256 → every is_octet l ≡ true → every is_octet (n ∷ l) ≡ true
unfolding every
octets-cons n l h e = and_both (octet n h) e

pub octets-append : (l m : List ℕ) → every is_octet l ≡ true → every is_octet m ≡ true → every is_octet (l ++ m) ≡ true
octets-append l m e f = every_append is_octet l m ∙ and_both e f

pub octets-zeros : (n : ℕ) → every is_octet (replicate n 0) ≡ true
unfolding every
octets-zeros zero = refl
octets-zeros (suc n) = octets-zeros n

pub pad_to-octets : (n : ℕ) (r : List ℕ) → every is_octet r ≡ true → every is_octet (pad_to n r) ≡ true
unfolding pad_to
pad_to-octets n r e = octets-append r (replicate (n - length r) 0) e (octets-zeros (n - length r))

-- rows are octets where their fields are
pub head_row-octets : (m : Model) → m.filter < 256 → length m.prefix < 256 → every is_octet m.prefix ≡ true
    → every is_octet (head_row m) ≡ true
unfolding head_row
head_row-octets m f l p =
    octets-append (octets_of 4 m.position) _ (octets-octets 4 m.position) (
    octets-cons m.filter _ f (octets-append (octets_of 2 m.opcode) _ (octets-octets 2 m.opcode) (
    octets-cons (length m.prefix) _ l p)))

pub monitor_row-octets : (x : ℕ × Monitor) → x.0 < 256 → x.1.high < 256 → x.1.low < 256 → x.1.interval < 256
    → x.1.sampling < 256
    → x.1.condition_type < 256 → length x.1.condition < 256 → every is_octet x.1.condition ≡ true
    → every is_octet (monitor_row x) ≡ true
unfolding monitor_row
monitor_row-octets x a b c d e f g o =
    octets-cons x.0 _ a
    (octets-cons x.1.high _ b (octets-cons x.1.low _ c (octets-cons x.1.interval _ d (
    octets-cons x.1.sampling _ e
    (octets-cons x.1.condition_type _ f (octets-cons (length x.1.condition) _ g o))))))

pub pair_row-octets : (q : Pair) → q.handle < 256 → q.address_type < 256 → every is_octet q.address ≡ true
    → q.ticks < 256
    → q.kept < 256 → q.event < 256
    → length q.adv < 256 → every is_octet q.adv ≡ true → every is_octet (pair_row q) ≡ true
unfolding pair_row
pair_row-octets q a b c d k e f o =
    octets-cons q.handle _ a (octets-cons q.address_type _ b (octets-append q.address _ c (
    octets-append (octets_of 2 q.since_good) _ (octets-octets 2 q.since_good) (octets-cons q.ticks _ d (
    octets-append (octets_of 4 q.packets) _ (octets-octets 4 q.packets) (
    octets-append (octets_of 8 q.sum) _ (octets-octets 8 q.sum) (
    octets-cons q.kept _ k (octets-cons q.event _ e (octets-cons (length q.adv) _ f o)))))))))
