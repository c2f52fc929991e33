-- The loop over the pairs: each is noted in the table in turn. Document 02, T-02. Assumes nothing.
use Rattle.std.specs.Prelude.{ℕ, ◌+◌, ◌-◌, ◌*◌, ◌/◌, ◌%◌, ◌≤◌, ◌<◌, ◌≡◌, refl, true}
use Rattle.std.proofs.Common.{sym, ◌∙◌, subst, add-zero, add-one, arith, take-suc, drop-cons, length-take-le}
use Rattle.std.proofs.Math.Path.{ap}
use mathlib.Core.List.{List, [], ◌∷◌, ◌++◌, map}
use lib.ListN.{length, take, drop, get_or, replicate}
use Rattle.laws.specs.Loops.{every}
use Rattle.laws.specs.LoopsLaws.{every_take, every_drop}
use Rattle.laws.specs.Rows.{row, rows}
use Rattle.laws.specs.RowsLaws.{row_at, length-rows, length-row}
use Rattle.octets.specs.Little.{little, value, is_octet}
use Rattle.octets.specs.LittleLaws.{little-value, little-row}
use Rattle.model.specs.Types.{Pair, watched, device}
use Rattle.model.specs.Image.{pair_in}
use Rattle.model.specs.Layout.{address_type_at, most_pairs, pair_size, pairs_size}
use Rattle.wholes.specs.Layout.{entries_size}
use Rattle.wholes.specs.Index.{IndexEntry, entry_table, noted, noted_all, index_of}
use Rattle.wholes.specs.Sizes.{Seven}
use Rattle.index.specs.Seen.{Kept}
use Rattle.index.specs.SeenLaws.{seen_none}

-- the index with one pair more
all_snoc : (es : List IndexEntry) (qs : List Pair) (q : Pair)
    → noted_all es (qs ++ (q ∷ [])) ≡ noted (watched q) q.handle (noted_all es qs)
unfolding noted_all
all_snoc es [] q = refl
all_snoc es (p ∷ qs) q = all_snoc (noted (watched p) p.handle es) qs q

pub index-snoc : (qs : List Pair) (q : Pair) → index_of (qs ++ (q ∷ [])) ≡ noted (watched q) q.handle (index_of qs)
unfolding index_of
index-snoc qs q = all_snoc [] qs q

-- no pair: a table of zeros, and whatever marks
pub built-none : (t seen : List ℕ) (rs : List (List ℕ)) → t ≡ replicate entries_size 0
    → Kept (index_of (map pair_in (take 0 rs))) 0 t seen
unfolding index_of noted_all entry_table Rattle.laws.specs.Rows.flat
built-none t seen rs e =
    record { tabled = record { count = refl; most = omega arith; fits = tt; table = e }; marked = seen_none seen }

-- a row's key is its handle and its device
module _ (r : List ℕ) (n : 8 ≤ length r) (o : every is_octet r ≡ true) where
  opens : drop 1 r ≡ get_or r address_type_at 0 ∷ drop 2 r
  opens = drop-cons r 1 0 (omega arith)

  device-is : take 7 (drop 1 r) ≡ watched (pair_in r)
  unfolding watched device pair_in
  device-is = ap (take 7) opens

  pub row-seven : Seven (watched (pair_in r))
  row-seven =
      record {
        long = ap length (sym device-is) ∙ length-take-le 7 (drop 1 r) (rw (lib.ListN.length-drop 1 r) (omega arith));
        octets = ap (every is_octet) (sym device-is) ∙ every_take is_octet 7 (drop 1 r) (every_drop is_octet 1 r o);
      }

  key-is : little 8 r 0 ≡ (pair_in r).handle + 256 * value (watched (pair_in r))
  unfolding little pair_in
  key-is = ap (λ (v : ℕ). get_or r 0 0 + 256 * v) (little-value 7 r 1 n ∙ ap value device-is)

  handle-small : (pair_in r).handle < 256
  unfolding pair_in
  handle-small = borrow.Author.Tests.ltb-true (get_or r 0 0) 256
      (Rattle.laws.specs.LoopsLaws.every-at is_octet r 0 0 o (omega arith))

  pub key-device : (v : ℕ) → v ≡ little 8 r 0 → v / 256 ≡ value (watched (pair_in r))
  key-device v e = let k = key-is in let h = handle-small in omega arith

  pub key-handle : (v : ℕ) → v ≡ little 8 r 0 → v % 256 ≡ (pair_in r).handle
  key-handle v e = let k = key-is in let h = handle-small in omega arith

-- one pair more
module _ (ps : List ℕ) (l : length ps ≡ pairs_size) (o : every is_octet ps ≡ true) (i : ℕ) (b : i < most_pairs) where
  abbrev rs : List (List ℕ)
  rs = rows pair_size most_pairs ps

  abbrev r : List ℕ
  r = get_or rs i []

  r-is : r ≡ row pair_size i ps
  r-is = row_at pair_size most_pairs i ps b

  r-long : 8 ≤ length r
  r-long = let n : length (row pair_size i ps) ≡ pair_size = length-row pair_size i most_pairs ps b (omega arith) in
      subst (λ (x : List ℕ). 8 ≤ length x) (sym r-is) (omega arith)

  r-octets : every is_octet r ≡ true
  unfolding row
  r-octets = ap (every is_octet) r-is
      ∙ every_take is_octet pair_size (drop (pair_size * i) ps) (every_drop is_octet (pair_size * i) ps o)

  r-key : little 8 r 0 ≡ little 8 ps (pair_size * i)
  r-key = ap (λ (x : List ℕ). little 8 x 0) r-is ∙ little-row 8 pair_size i 0 ps (omega arith)
      ∙ ap (little 8 ps) (add-zero (pair_size * i))

  pub more : map pair_in (take (i + 1) rs) ≡ map pair_in (take i rs) ++ (pair_in r ∷ [])
  more =
      ap (λ (k : ℕ). map pair_in (take k rs)) (add-one i)
      ∙ ap (map pair_in)
      (take-suc rs i [] (let n : length rs ≡ most_pairs = length-rows pair_size most_pairs ps in omega arith))
      ∙ mathlib.Core.List.map-append pair_in (take i rs) (r ∷ [])

  -- its device and its handle, from its key
  pub pair-next : (key : ℕ) → key ≡ little 8 ps (pair_size * i)
      → Seven (watched (pair_in r)) × (key / 256 ≡ value (watched (pair_in r))) × (key % 256 ≡ (pair_in r).handle)
  pair-next key e = (
    row-seven r r-long r-octets,
    key-device r r-long r-octets key (e ∙ sym r-key),
    key-handle r r-long r-octets key
        (e ∙ sym r-key),
  )

  -- whatever holds of a table and the index so far, and is kept by noting, holds with the pair noted
  pub built-more : (P Q : List IndexEntry → Type 0) (key : ℕ) → key ≡ little 8 ps (pair_size * i)
      → P (index_of (map pair_in (take i rs)))
      → ((es : List IndexEntry) (d : List ℕ) → P es → Seven d → key / 256 ≡ value d → Q (noted d (key % 256) es))
      → Q (index_of (map pair_in (take (i + 1) rs)))
  built-more P Q key e w f =
      let q : Pair = pair_in r in
      let z = f (index_of (map pair_in (take i rs))) (watched q) w (row-seven r r-long r-octets)
      (key-device r r-long r-octets key (e ∙ sym r-key)) in
      subst Q
      (ap (λ (h : ℕ). noted (watched q) h (index_of (map pair_in (take i rs))))
      (key-handle r r-long r-octets key (e ∙ sym r-key))
      ∙ sym (index-snoc (map pair_in (take i rs)) q) ∙ ap index_of (sym more)) z
