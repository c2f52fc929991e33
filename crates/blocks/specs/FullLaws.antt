-- A full table of pairs: one pair gone, those behind it a place down, and another at the last place. Document 02,
-- T-05. Assumes nothing.
use Prim.Native.Nat.{ℕ, zero, suc, ◌+◌, ◌-◌, ◌*◌, ◌≤◌, ◌<◌}
use Rattle.std.specs.Prelude.{◌≡◌, refl, replicate}
use Rattle.std.proofs.Math.Path.{sym, ap}
use Rattle.std.proofs.Common.{◌∙◌, mul-zero, mul-suc, length-drop, length-take, drop_of_length-le, take-append-drop, drop_at, drop-drop}
use mathlib.Core.List.{List, [], ◌∷◌, ◌++◌, append_assoc, append-nil, map}
use native.Mathlib.Omega.{arith}
use Rattle.std.proofs.Math.ListN.{length, take, drop, length-append}
use Rattle.std.proofs.lemmas.List.{length-map}
use Rattle.std.proofs.Math.Seq.{take_at}
use Rattle.laws.specs.Put.{put}
use Rattle.laws.specs.PutLaws.{put-put}
use Rattle.laws.specs.LoopsLaws.{map-append}
use Rattle.laws.specs.Rows.{flat}
use Rattle.laws.specs.RowsLaws.{flat_append}
use Rattle.rule.specs.Base.{All}
use Rattle.rule.specs.BaseLaws.{all_append}
use Rattle.model.specs.Types.{Model, Pair, with_lists}
use Rattle.model.specs.Image.{pair_row}
use Rattle.model.specs.Block.{pad_to, pair_block, padded}
use Rattle.blocks.specs.Bounds.{Fits}
use Rattle.blocks.specs.PairsLaws.{pair_place, length-pair_place, length-pair_block}
use Rattle.blocks.specs.Block.{Measured}
use Rattle.blocks.specs.BlockLaws.{length-padded, drop-monitors}
use Rattle.blocks.specs.UpdatesLaws.{counted, counted-padded, put-pairs}
use Rattle.model.specs.Layout.{most_pairs, pair_size, pairs_at, pairs_size}

-- the octets of pairs' rows, one after another
abbrev rows_of : List Pair → List ℕ
rows_of qs = flat (map pair_place qs)

rows_append : (ps qs : List Pair) → rows_of (ps ++ qs) ≡ rows_of ps ++ rows_of qs
rows_append ps qs = ap flat (map-append pair_place ps qs) ∙ flat_append (map pair_place ps) (map pair_place qs)

length-rows_of : (qs : List Pair) → All Fits qs → length (rows_of qs) ≡ pair_size * length qs
unfolding flat
length-rows_of [] a = refl
length-rows_of (q ∷ qs) a =
    let e : length (pair_place q ++ rows_of qs) ≡ length (pair_place q) + length (rows_of qs) =
    length-append (pair_place q) (rows_of qs) in
    omega (arith, length-rows_of qs a.1, length-pair_place q a.0)

-- a table with no room is its rows
full-rows : (qs : List Pair) → length qs ≡ most_pairs → pair_block qs ≡ rows_of qs
unfolding pair_block
full-rows qs h = rw h (append-nil (rows_of qs))

all-front : (ps qs : List Pair) → All Fits (ps ++ qs) → All Fits ps
all-front [] qs a = tt
all-front (p ∷ ps) qs a = (a.0, all-front ps qs a.1)

all_back : (ps qs : List Pair) → All Fits (ps ++ qs) → All Fits qs
all_back [] qs a = a
all_back (p ∷ ps) qs a = all_back ps qs a.1

-- a write up to the end
put_rest : (xs ys zs : List ℕ) → length ys ≡ length zs → put (xs ++ ys) (length xs) zs ≡ xs ++ zs
unfolding put
put_rest xs ys zs h =
    let e : length (xs ++ ys) ≡ length xs + length ys = length-append xs ys in
    rw (take_at xs ys (length xs) refl, drop_of_length-le (xs ++ ys) {i = length xs + length zs} (omega arith))
    (append-nil (xs ++ zs))

module _ (ps : List Pair) (x : Pair) (rs : List Pair) (a : All Fits (ps ++ (x ∷ rs)))
    (h : length (ps ++ (x ∷ rs)) ≡ most_pairs) where
  split : rows_of (ps ++ (x ∷ rs)) ≡ rows_of ps ++ (pair_place x ++ rows_of rs)
  unfolding flat
  split = rows_append ps (x ∷ rs)

  counted-parts : length ps + suc (length rs) ≡ most_pairs
  counted-parts = sym (length-append ps (x ∷ rs)) ∙ h

  -- the rows behind a pair
  rows_behind : (t : List ℕ) → drop (pair_size * (length ps + 1)) (pair_block (ps ++ (x ∷ rs)) ++ t) ≡ rows_of rs ++ t
  rows_behind t =
      let f : All Fits (x ∷ rs) = all_back ps (x ∷ rs) a in
      let n : length (rows_of ps) ≡ pair_size * length ps = length-rows_of ps (all-front ps (x ∷ rs) a) in
      let k : length (pair_place x) ≡ pair_size = length-pair_place x f.0 in
      let u : List ℕ = rows_of ps ++ pair_place x in
      let l : length u ≡ pair_size * (length ps + 1) = length-append (rows_of ps) (pair_place x) ∙ omega arith in
      ap (λ (y : List ℕ). drop (pair_size * (length ps + 1)) (y ++ t)) (full-rows (ps ++ (x ∷ rs)) h ∙ split
      ∙ sym (append_assoc (rows_of ps) (pair_place x) (rows_of rs)))
      ∙ ap (λ (y : List ℕ). drop (pair_size * (length ps + 1)) y) (append_assoc u (rows_of rs) t)
      ∙ drop_at u (rows_of rs ++ t) (pair_size * (length ps + 1)) l

  -- those rows a place down, and another pair's at the last place
  shifted : (q : Pair) → Fits q
      → put (pair_block (ps ++ (x ∷ rs))) (pair_size * length ps) (rows_of rs ++ pair_place q)
      ≡ pair_block (ps ++ (rs ++ (q ∷ [])))
  unfolding flat
  shifted q g =
      let f : All Fits (x ∷ rs) = all_back ps (x ∷ rs) a in
      let n : length (rows_of ps) ≡ pair_size * length ps = length-rows_of ps (all-front ps (x ∷ rs) a) in
      let k : length (pair_place x) ≡ pair_size = length-pair_place x f.0 in
      let j : length (pair_place q) ≡ pair_size = length-pair_place q g in
      let e : length (pair_place x ++ rows_of rs) ≡ length (rows_of rs ++ pair_place q) =
      length-append (pair_place x) (rows_of rs) ∙ omega (arith, length-append (rows_of rs) (pair_place q)) in
      let c : length (ps ++ (rs ++ (q ∷ []))) ≡ most_pairs =
      length-append ps (rs ++ (q ∷ [])) ∙ ap (λ (z : ℕ). length ps + z) (length-append rs (q ∷ []))
      ∙ omega (arith, counted-parts) in
      ap (λ (y : List ℕ). put y (pair_size * length ps) (rows_of rs ++ pair_place q))
      (full-rows (ps ++ (x ∷ rs)) h ∙ split)
      ∙ ap (λ (z : ℕ). put (rows_of ps ++ (pair_place x ++ rows_of rs)) z (rows_of rs ++ pair_place q)) (sym n)
      ∙ put_rest (rows_of ps) (pair_place x ++ rows_of rs) (rows_of rs ++ pair_place q) e
      ∙ ap (λ (y : List ℕ). rows_of ps ++ (rows_of rs ++ y)) (sym (append-nil (pair_place q)))
      ∙ ap (λ (y : List ℕ). rows_of ps ++ y) (sym (rows_append rs (q ∷ [])))
      ∙ sym (rows_append ps (rs ++ (q ∷ []))) ∙ sym (full-rows (ps ++ (rs ++ (q ∷ []))) c)

module _ (m : Model) (f : Measured m) where
  -- pair i of 64 goes and another stands last
  pub replace-pair : (ps rs : List Pair) (x q : Pair) → m.pairs ≡ ps ++ (x ∷ rs) → length m.pairs ≡ most_pairs
      → Fits q
      → put (put (padded m) (pairs_at + pair_size * length ps)
      (take (pair_size * length rs) (drop (pairs_at + pair_size * (length ps + 1)) (padded m))))
      (pairs_at + pair_size * (length ps + length rs)) (pad_to pair_size (pair_row q))
      ≡ padded (with_lists m m.mons (ps ++ (rs ++ (q ∷ []))))
  unfolding with_lists
  replace-pair ps rs x q e h g =
      let a : All Fits (ps ++ (x ∷ rs)) = rw e at f.fit in
      let l : length (ps ++ (x ∷ rs)) ≡ most_pairs = rw e at h in
      let fr : All Fits rs = (all_back ps (x ∷ rs) a).1 in
      let n : length (rows_of rs) ≡ pair_size * length rs = length-rows_of rs fr in
      let k : length (pair_place q) ≡ pair_size = length-pair_place q g in
      let c : length ps + suc (length rs) ≡ most_pairs = counted-parts ps x rs a l in
      let qs : List Pair = ps ++ (rs ++ (q ∷ [])) in
      let w : Model = with_lists m m.mons qs in
      let at : ℕ = pairs_at + pair_size * length ps in
      let nw : length qs ≡ most_pairs =
      length-append ps (rs ++ (q ∷ [])) ∙ ap (λ (z : ℕ). length ps + z) (length-append rs (q ∷ [])) ∙ omega arith in
      let v : take (pair_size * length rs) (drop (pairs_at + pair_size * (length ps + 1)) (padded m)) ≡ rows_of rs =
      ap (λ (y : List ℕ). take (pair_size * length rs) y)
      (sym (drop-drop (pair_size * (length ps + 1)) pairs_at (padded m))
      ∙ ap (λ (y : List ℕ). drop (pair_size * (length ps + 1)) y) (drop-monitors m f)
      ∙ ap (λ (y : List Pair). drop (pair_size * (length ps + 1)) (pair_block y ++ (length m.pairs ∷ []))) e
      ∙ rows_behind ps x rs a l (length m.pairs ∷ []))
      ∙ take_at (rows_of rs) (length m.pairs ∷ []) (pair_size * length rs) n in
      let z : pairs_at + pair_size * (length ps + length rs) ≡ at + length (rows_of rs) = omega arith in
      ap (λ (y : List ℕ). put (put (padded m) at y) (pairs_at + pair_size * (length ps + length rs)) (pair_place q)) v
      ∙ ap (λ (i : ℕ). put (put (padded m) at (rows_of rs)) i (pair_place q)) z
      ∙ put-put (padded m) at (rows_of rs) (pair_place q) (omega (arith, length-padded m f))
      ∙ ap (λ (y : List ℕ). put y at (rows_of rs ++ pair_place q)) (sym (counted-padded m))
      ∙ put-pairs m f (length m.pairs) qs (pair_size * length ps) (rows_of rs ++ pair_place q)
      (omega (arith, length-append (rows_of rs) (pair_place q)))
      (ap (λ (y : List Pair). put (pair_block y) (pair_size * length ps) (rows_of rs ++ pair_place q)) e
      ∙ shifted ps x rs a l q g)
      ∙ ap (counted w) (h ∙ sym nw) ∙ counted-padded w
