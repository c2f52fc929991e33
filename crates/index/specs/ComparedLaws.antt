-- Laws of the definitions in Compared.
use Rattle.std.specs.Prelude.{ℕ, zero, suc, ◌+◌, ◌-◌, ◌*◌, ◌/◌, ◌%◌, ◌≤◌, ◌<◌, ◌≡◌, refl, Bool, true, false, ◌&&◌, eqb, take, get_or, Option, Some, None}
use Rattle.std.proofs.Math.Path.{sym, ap}
use Rattle.std.proofs.Common.{◌∙◌, subst, inl, inr, eq-eqb, eqb-true, length-append, length-take, take-append-drop, length-take-le, take_at, drop_at, take_all, take-take, get_or-take}
use Rattle.std.proofs.lemmas.Bool.{false≢true}
use mathlib.Core.List.{List, [], ◌∷◌, ◌++◌, map}
use native.Mathlib.Omega.{arith}
use Rattle.std.proofs.Math.ListN.{length, drop, replicate, length-drop, get_or-map}
use Rattle.std.proofs.lemmas.List.{get_or_at}
use Rattle.std.proofs.Math.Seq.{split_at}
use Rattle.laws.specs.Tests.{pick, sames}
use Rattle.laws.specs.TestsLaws.{sames-eq, eq-sames, and_left, and_right, and_both}
use Rattle.laws.specs.Loops.{every}
use Rattle.laws.specs.LoopsLaws.{map-append, every_take, every_drop}
use Rattle.laws.specs.Rows.{rows, flat}
use Rattle.laws.specs.RowsLaws.{past, flat_rows, row_at, length-rows}
use Rattle.octets.specs.Little.{little, value, octets_of, is_octet}
use Rattle.octets.specs.LittleLaws.{little-value, little-drop, little-row, little-take, octets-value}
use Rattle.octets.specs.Numbers.{number_at}
use Rattle.octets.specs.NumbersLaws.{number-of}
use Rattle.parts.specs.Parts.{is_zero}
use Rattle.parts.specs.PartsLaws.{same_step, same_end}
use Rattle.rule.specs.Base.{All}
use Rattle.blocks.specs.TablesLaws.{take-rows}
use Rattle.model.specs.Types.{Pair, watched}
use Rattle.model.specs.Image.{pair_in}
use Rattle.model.specs.Layout.{most_pairs, pair_size, pairs_size}
use Rattle.wholes.specs.Layout.{entries_size, entry_size, mask_at}
use Rattle.wholes.specs.Index.{IndexEntry, bit_of, noted, noted_all, with_handle, index_of, entry_row, entry_table}
use Rattle.wholes.specs.Sizes.{Seven, Fitting}
use Rattle.wholes.proofs.SizesLaws.{Known, index-fits, index-length, length-entry_rows, length-entry_table}
use Rattle.wholes.proofs.WatchedLaws.{mask-holds}
use Rattle.index.specs.Table.{Tabled, with_entry}
use Rattle.index.specs.TableLaws.{value_same, table-rows}
use Rattle.index.specs.BuiltTurns.{index-snoc, pair-next, more}
use Rattle.index.specs.Once.{once}
use Rattle.index.specs.OnceLaws.{once-none, once_more, once-held, once-high}
use Rattle.index.specs.SlotsLaws.{slotted-none}
use Rattle.index.specs.Walk.{row_number, row_mask, device_number, mask_number, Tallied, Walked, Strange, Bad, Stepped}
use Rattle.index.specs.WalkLaws.{entry-numbers, entry-masks, number-at}
use Rattle.index.specs.Compared.{Fails, Walks, pairs_of}

-- the devices of an index stay where they are as pairs follow
noted-keeps : (d : List ℕ) (h : ℕ) (es : List IndexEntry) (j : ℕ) → j < length es
    → get_or (map device_number (noted d h es)) j 0 ≡ get_or (map device_number es) j 0
unfolding noted with_handle pick
noted-keeps d h [] j b = absurd (omega arith)
noted-keeps d h (e ∷ es) j b = go (sames e.device d) j b (noted-keeps d h es)
  where
    go : (t : Bool) (j : ℕ) → j < length (e ∷ es)
        → ((i : ℕ) → i < length es → get_or (map device_number (noted d h es)) i 0 ≡ get_or (map device_number es) i 0)
        → get_or (map device_number (pick t (with_handle h e ∷ es) (e ∷ noted d h es))) j 0
        ≡ get_or (map device_number (e ∷ es)) j 0
    go true zero b f = refl
    go true (suc j) b f = refl
    go false zero b f = refl
    go false (suc j) b f = f j (omega arith)

noted-grows : (d : List ℕ) (h : ℕ) (es : List IndexEntry) → length es ≤ length (noted d h es)
unfolding noted with_handle pick
noted-grows d h [] = omega arith
noted-grows d h (e ∷ es) = go (sames e.device d) (noted-grows d h es)
  where
    go : (t : Bool) → length es ≤ length (noted d h es)
        → length (e ∷ es) ≤ length (pick t (with_handle h e ∷ es) (e ∷ noted d h es))
    go true i = omega arith
    go false i = omega arith

all-keeps : (es : List IndexEntry) (qs : List Pair) (j : ℕ) → j < length es
    → (get_or (map device_number (noted_all es qs)) j 0 ≡ get_or (map device_number es) j 0) × (j < length (noted_all es qs))
unfolding noted_all
all-keeps es [] j b = (refl, b)
all-keeps es (q ∷ qs) j b =
    let g = noted-grows (watched q) q.handle es in
    let i = all-keeps (noted (watched q) q.handle es) qs j (omega arith) in
    (i.0 ∙ noted-keeps (watched q) q.handle es j b, i.1)

all_append : (es : List IndexEntry) (l m : List Pair) → noted_all es (l ++ m) ≡ noted_all (noted_all es l) m
unfolding noted_all
all_append es [] m = refl
all_append es (q ∷ l) m = all_append (noted (watched q) q.handle es) l m

-- another device where that of a pair is to follow
strange-not : (l : List Pair) (q : Pair) (m : List Pair) (t : List ℕ) → All Known (l ++ (q ∷ m))
    → length (l ++ (q ∷ m)) ≤ most_pairs
    → Strange (index_of l) (watched q) q.handle t → t ≡ entry_table (index_of (l ++ (q ∷ m))) → ⊥
unfolding index_of noted_all with_entry
strange-not l q m t a b s e =
    let es : List IndexEntry = noted_all [] l in
    let x : IndexEntry = record { device = watched q; mask = bit_of q.handle } in
    let all : List IndexEntry = noted_all [] (l ++ (q ∷ m)) in
    let f : All Fitting all = index-fits (l ++ (q ∷ m)) a in
    let c : length all ≤ length (l ++ (q ∷ m)) = index-length (l ++ (q ∷ m)) in
    let w : Tabled all (length all) t = record { count = refl; most = omega arith; fits = f; table = e } in
    let g : all ≡ noted_all (es ++ (x ∷ [])) m =
    all_append [] l (q ∷ m) ∙ ap (λ (y : List IndexEntry). noted_all y m) s.0 in
    let n : length (es ++ (x ∷ [])) ≡ length es + 1 = length-append es (x ∷ []) in
    let k = all-keeps (es ++ (x ∷ [])) m (length es) (omega arith) in
    let j : length es < length all = subst (λ (y : List IndexEntry). length es < length y) (sym g) k.1 in
    let u : map row_number (take (length all) (rows entry_size most_pairs t)) ≡ map device_number all =
    ap (map row_number) (table-rows all (length all) t w) ∙ entry-numbers all f in
    let v : get_or (map device_number (es ++ (x ∷ []))) (length es) 0 ≡ value (watched q) =
    ap (λ (y : List ℕ). get_or y (length es) 0) (map-append device_number es (x ∷ []))
    ∙ get_or_at (map device_number es) (value (watched q)) [] 0 (length es) (map-length es) in
    s.1 (sym (number-at t (length all) (length es) j (omega arith)) ∙ ap (λ (y : List ℕ). get_or y (length es) 0) u
    ∙ ap (λ (y : List IndexEntry). get_or (map device_number y) (length es) 0) g ∙ k.0 ∙ v)
  where
    map-length : (ys : List IndexEntry) → length (map device_number ys) ≡ length ys
    map-length [] = refl
    map-length (y ∷ ys) = ap suc (map-length ys)

bad-not : (l : List Pair) (q : Pair) (m : List Pair) (t : List ℕ) → All Known (l ++ (q ∷ m))
    → length (l ++ (q ∷ m)) ≤ most_pairs
    → Bad (index_of l) (watched q) q.handle t → t ≡ entry_table (index_of (l ++ (q ∷ m))) → once (l ++ (q ∷ m)) ≡ true
    → ⊥
bad-not l q m t a b (inl h) e o = false≢true (sym (once-high l q m h) ∙ o)
bad-not l q m t a b (inr (inl h)) e o =
    false≢true (sym (once-held l q m (sym (mask-holds (watched q) q.handle h.0 l) ∙ h.1)) ∙ o)
bad-not l q m t a b (inr (inr s)) e o = strange-not l q m t a b s e

map-length : (xs : List (List ℕ)) → length (map pair_in xs) ≡ length xs
map-length [] = refl
map-length (x ∷ xs) = ap suc (map-length xs)

few-pairs : (n : ℕ) (ps : List ℕ) → length (pairs_of n ps) ≤ n
few-pairs n ps =
    let rs : List (List ℕ) = rows pair_size most_pairs ps in
    let a : length (map pair_in (take n rs)) ≡ length (take n rs) = map-length (take n rs) in
    let b : length (take n rs) ≤ n = simp length-take (omega arith) in omega arith

all-at : (rs : List (List ℕ)) → ((i : ℕ) → i < length rs → Known (pair_in (get_or rs i []))) → All Known (map pair_in rs)
all-at [] f = tt
all-at (r ∷ rs) f = (f 0 (omega arith), all-at rs (λ i h. f (suc i) (omega arith)))

module _ (ps : List ℕ) (l : length ps ≡ pairs_size) (o : every is_octet ps ≡ true) (n : ℕ) (c : n ≤ most_pairs) where
  abbrev rs : List (List ℕ)
  rs = rows pair_size most_pairs ps

  many : length (take n rs) ≡ n
  many = length-take-le n rs (let z : length rs ≡ most_pairs = length-rows pair_size most_pairs ps in omega arith)

  known : All Known (pairs_of n ps)
  known =
      all-at (take n rs) (λ i h. let b : i < n = omega (arith, many) in
      subst (λ (r : List ℕ). Known (pair_in r)) (sym (get_or-take n rs i [] b))
      (pair-next ps l o i (omega arith) _ refl).0)

  -- a pair in its place
  module _ (i : ℕ) (b : i < n) where
    abbrev q : Pair
    q = pair_in (get_or rs i [])

    split : pairs_of n ps ≡ pairs_of i ps ++ (q ∷ map pair_in (drop (suc i) (take n rs)))
    split =
        ap (map pair_in) (split_at (take n rs) i [] (omega (arith, many)))
        ∙ map-append pair_in (take i (take n rs)) (get_or (take n rs) i [] ∷ drop (suc i) (take n rs))
        ∙ ap (λ (x : List (List ℕ)). map pair_in x
        ++ (pair_in (get_or (take n rs) i []) ∷ map pair_in (drop (suc i) (take n rs))))
        (take-take i n rs (omega arith))
        ∙ ap (λ (x : List ℕ). pairs_of i ps ++ (pair_in x ∷ map pair_in (drop (suc i) (take n rs))))
        (get_or-take n rs i [] b)

    module _ (t : List ℕ) (k : ℕ) (masks slots : List ℕ) (w : Walked (index_of (pairs_of i ps)) k t masks slots)
        (z : once (pairs_of i ps) ≡ true)
        (key : ℕ) (e : key ≡ little 8 ps (pair_size * i)) (r : Option ℕ) (masks' slots' : List ℕ)
        (f : (es : List IndexEntry) (d : List ℕ) → Walked es k t masks slots → Seven d → key / 256 ≡ value d
        → Stepped r es d (key % 256) t masks' slots') where
      stepped : Stepped r (index_of (pairs_of i ps)) (watched q) q.handle t masks' slots'
      stepped =
          let p = pair-next ps l o i (omega arith) key e in
          subst (λ (h : ℕ). Stepped r (index_of (pairs_of i ps)) (watched q) h t masks' slots') p.2
          (f (index_of (pairs_of i ps)) (watched q) w p.0 p.1)

      -- a pair that is none, or stands in no table there
      pub walk-stops : r ≡ None → Fails (pairs_of n ps) t
      walk-stops u = go (subst (λ (x : Option ℕ). Stepped x (index_of (pairs_of i ps)) (watched q) q.handle t masks'
          slots') u stepped)
        where
          go : Bad (index_of (pairs_of i ps)) (watched q) q.handle t → Fails (pairs_of n ps) t
          go x = λ v y. bad-not (pairs_of i ps) q (map pair_in (drop (suc i) (take n rs))) t
              (subst (All Known) split known)
              (subst (λ (m : List Pair). length m ≤ most_pairs) split (let a = few-pairs n ps in omega arith))
              x
              (v ∙ ap (λ (m : List Pair). entry_table (index_of m)) split) (ap once (sym split) ∙ y)

      -- one more
      pub walk-goes : (j : ℕ) → r ≡ Some j → Walked (index_of (pairs_of (i + 1) ps)) j t masks' slots'
          × (once (pairs_of (i + 1) ps) ≡ true)
      walk-goes j u = go (subst (λ (x : Option ℕ). Stepped x (index_of (pairs_of i ps)) (watched q) q.handle t masks'
          slots') u stepped)
        where
          next : pairs_of (i + 1) ps ≡ pairs_of i ps ++ (q ∷ [])
          next = more ps l o i (omega arith)

          go : Stepped (Some j) (index_of (pairs_of i ps)) (watched q) q.handle t masks' slots'
              → Walked (index_of (pairs_of (i + 1) ps)) j t masks' slots' × (once (pairs_of (i + 1) ps) ≡ true)
          go x = (
            subst (λ (m : List IndexEntry). Walked m j t masks' slots')
                (sym (ap index_of next ∙ index-snoc (pairs_of i ps) q)) x.0,
            ap once next ∙ once_more (pairs_of i ps) q z x.1
                (sym (mask-holds (watched q) q.handle x.1 (pairs_of i ps)) ∙ x.2),
          )

-- before the first pair
pub walk_none : (ps t masks slots : List ℕ) (m : ℕ) → slots ≡ replicate m 0
    → Walked (index_of (pairs_of 0 ps)) 0 t masks slots × (once (pairs_of 0 ps) ≡ true)
unfolding index_of noted_all
walk_none ps t masks slots m e = (
  record {
    tally = record { count = refl; most = omega arith; fits = tt; devices = refl; gathered = refl };
    slotted = slotted-none t slots m e;
  },
  once-none,
)

-- no more entries than pairs
module _ (ps : List ℕ) (n : ℕ) (c : n ≤ most_pairs) where
  pub walked-few : (k : ℕ) (t masks slots : List ℕ) → Walked (index_of (pairs_of n ps)) k t masks slots → k ≤ n
  walked-few k t masks slots w =
      let a : k ≡ length (index_of (pairs_of n ps)) = w.tally.count in
      let b : length (index_of (pairs_of n ps)) ≤ length (pairs_of n ps) = index-length (pairs_of n ps) in
      let d : length (pairs_of n ps) ≤ n = few-pairs n ps in omega arith

-- a row that says what an entry does is its row
entry-is : (r : List ℕ) (e : IndexEntry) → length r ≡ entry_size → every is_octet r ≡ true → Fitting e
    → row_number r ≡ device_number e → row_mask r ≡ e.mask
    → r ≡ entry_row e
unfolding entry_row
entry-is r e l o f u v =
    let x : List ℕ = take 7 r in
    let y : List ℕ = drop 7 r in
    let lx : length x ≡ 7 = length-take-le 7 r (omega arith) in
    let ly : length y ≡ 2 = length-drop 7 r ∙ omega arith in
    let a : x ≡ e.device =
    value_same x e.device (lx ∙ sym f.device.long) (every_take is_octet 7 r o) f.device.octets
    (sym (little-value 7 r 0 (omega arith)) ∙ u) in
    let b : value y ≡ e.mask =
    ap value (sym (take_all 2 y (omega arith))) ∙ sym (little-value 2 y 0 (omega arith)) ∙ little-drop 2 7 r 0 ∙ v in
    sym (take-append-drop 7 r) ∙ ap (λ (z : List ℕ). z ++ y) a
    ∙ ap (λ (z : List ℕ). e.device ++ z)
    (sym (octets-value y (every_drop is_octet 7 r o)) ∙ ap (λ (j : ℕ). octets_of j (value y)) ly ∙ ap (octets_of 2) b)

-- the table of entries that were tallied
same_rows : (rs : List (List ℕ)) (es : List IndexEntry)
    → All (λ (r : List ℕ). (length r ≡ entry_size) × (every is_octet r ≡ true)) rs → All Fitting es
    → map row_number rs ≡ map device_number es → map row_mask rs ≡ map mask_number es → rs ≡ map entry_row es
same_rows [] [] g a p q = refl
same_rows [] (e ∷ es) g a p q = absurd (let z : 0 ≡ length (map device_number (e ∷ es)) = ap length p in omega arith)
same_rows (r ∷ rs) [] g a p q = absurd (let z : length (map row_number (r ∷ rs)) ≡ 0 = ap length p in omega arith)
same_rows (r ∷ rs) (e ∷ es) g a p q =
    rw (
      entry-is r e g.0.0 g.0.1 a.0 (ap (λ (l : List ℕ). get_or l 0 0) p) (ap (λ (l : List ℕ). get_or l 0 0) q),
      same_rows rs es g.1 a.1 (ap (drop 1) p) (ap (drop 1) q),
    )

good-rows : (k : ℕ) (t : List ℕ) → entry_size * k ≤ length t → every is_octet t ≡ true
    → All (λ (r : List ℕ). (length r ≡ entry_size) × (every is_octet r ≡ true)) (rows entry_size k t)
unfolding rows
good-rows zero t h o = tt
good-rows (suc k) t h o = (
  (length-take-le entry_size t (omega arith), every_take is_octet entry_size t o),
  good-rows k (drop entry_size t) (rw (length-drop entry_size t) (omega arith)) (every_drop is_octet entry_size t o),
)

zeros-are : (l : List ℕ) → every is_zero l ≡ true → l ≡ replicate (length l) 0
unfolding every
zeros-are [] e = refl
zeros-are (x ∷ l) e =
    rw (eqb-true x 0 (and_left (is_zero x) (every is_zero l) e))
    (ap (λ (m : List ℕ). 0 ∷ m) (zeros-are l (and_right (is_zero x) (every is_zero l) e)))

are-zeros : (n : ℕ) → every is_zero (replicate n 0) ≡ true
unfolding every
are-zeros zero = refl
are-zeros (suc n) = are-zeros n

both_ways : (a b : Bool) → (a ≡ true → b ≡ true) → (b ≡ true → a ≡ true) → a ≡ b
both_ways true b f g = sym (f refl)
both_ways false true f g = g refl
both_ways false false f g = refl

module _ (es : List IndexEntry) (k : ℕ) (t masks : List ℕ) (l : length t ≡ entries_size) (o : every is_octet t ≡ true)
    (w : Tallied es k t masks) where
  abbrev es-rows : List (List ℕ)
  es-rows = take k (rows entry_size most_pairs t)

  small : k ≤ most_pairs
  small = let a = w.count in let b = w.most in omega arith

  table-then : map row_mask es-rows ≡ take k masks → every is_zero (drop (entry_size * k) t) ≡ true → t ≡ entry_table es
  unfolding entry_table past
  table-then p z =
      let b = small in
      let c : k ≡ length es = w.count in
      let f : es-rows ≡ rows entry_size k t = take-rows entry_size k most_pairs t small in
      let g : es-rows ≡ map entry_row es =
      same_rows es-rows es
      (subst (All (λ (r : List ℕ). (length r ≡ entry_size) × (every is_octet r ≡ true))) (sym f)
      (good-rows k t (omega arith) o)) w.fits
      w.devices (p ∙ w.gathered) in
      let d : length (drop (entry_size * k) t) ≡ entry_size * (most_pairs - length es) =
      length-drop (entry_size * k) t ∙ omega arith in
      sym (flat_rows entry_size k t)
      ∙ ap (λ (x : List (List ℕ)). flat x ++ drop (entry_size * k) t) (sym f ∙ g)
      ∙ ap (λ (x : List ℕ). flat (map entry_row es) ++ x)
      (zeros-are (drop (entry_size * k) t) z ∙ ap (λ (j : ℕ). replicate {A = ℕ} j 0) d)

  tabled : t ≡ entry_table es → Tabled es k t
  tabled e = record { count = w.count; most = w.most; fits = w.fits; table = e }

  masks-then : t ≡ entry_table es → map row_mask es-rows ≡ take k masks
  masks-then e = ap (map row_mask) (table-rows es k t (tabled e)) ∙ entry-masks es w.fits ∙ sym w.gathered

  zeros-then : t ≡ entry_table es → every is_zero (drop (entry_size * k) t) ≡ true
  unfolding entry_table
  zeros-then e =
      let n : length (flat (map entry_row es)) ≡ entry_size * k =
      length-entry_rows es w.fits ∙ ap (λ (j : ℕ). entry_size * j) (sym w.count) in
      ap (λ (x : List ℕ). every is_zero (drop (entry_size * k) x)) e
      ∙ ap (every is_zero)
      (drop_at (flat (map entry_row es)) (replicate (entry_size * (most_pairs - length es)) 0) (entry_size * k) n)
      ∙ are-zeros (entry_size * (most_pairs - length es))

  -- the masks, the zeros and the number of entries
  pub table_same : (c : ℕ) {x y : Bool} → x ≡ sames (map row_mask es-rows) (take k masks)
      → y ≡ every is_zero (drop (entry_size * k) t)
      → (eqb c k && (x && y)) ≡ sames (entry_table es ++ (length es ∷ [])) (t ++ (c ∷ []))
  table_same c {x} {y} p q =
      both_ways (eqb c k && (x && y)) (sames (entry_table es ++ (length es ∷ [])) (t ++ (c ∷ [])))
      (λ a. let u = and_right (eqb c k) (x && y) a in
      let g : t ≡ entry_table es =
      table-then (sames-eq (map row_mask es-rows) (take k masks) (sym p ∙ and_left x y u))
      (sym q ∙ and_right x y u) in
      eq-sames (entry_table es ++ (length es ∷ [])) (t ++ (c ∷ []))
      (ap (λ (m : List ℕ). m ++ (length es ∷ [])) (sym g)
      ∙ ap (λ (j : ℕ). t ++ (j ∷ [])) (sym w.count ∙ sym (eqb-true c k (and_left (eqb c k) (x && y) a)))))
      (λ a. let e : entry_table es ++ (length es ∷ []) ≡ t
      ++ (c ∷ []) = sames-eq (entry_table es ++ (length es ∷ [])) (t ++ (c ∷ [])) a in
      let n : length (entry_table es) ≡ entries_size = length-entry_table es w.fits w.most in
      let g : t ≡ entry_table es =
      sym (take_at t (c ∷ []) entries_size l) ∙ ap (take entries_size) (sym e)
      ∙ take_at (entry_table es) (length es ∷ []) entries_size n in
      let h : c ≡ length es =
      sym (get_or_at t c [] 0 entries_size l) ∙ ap (λ (m : List ℕ). get_or m entries_size 0) (sym e)
      ∙ get_or_at (entry_table es) (length es) [] 0 entries_size n in
      and_both (eq-eqb c k (h ∙ sym w.count))
      (and_both (p ∙ eq-sames (map row_mask es-rows) (take k masks) (masks-then g)) (q ∙ zeros-then g)))

-- the masks compared one by one
none : row_mask [] ≡ 0
unfolding little
none = refl

module _ (t masks : List ℕ) (k : ℕ) (m : length masks ≡ most_pairs) (b : k ≤ most_pairs) where
  abbrev xs : List ℕ
  xs = map row_mask (take k (rows entry_size most_pairs t))

  abbrev ys : List ℕ
  ys = take k masks

  maps : (rs : List (List ℕ)) → length (map row_mask rs) ≡ length rs
  maps [] = refl
  maps (r ∷ rs) = ap suc (maps rs)

  xs-long : length xs ≡ k
  xs-long =
      maps (take k (rows entry_size most_pairs t))
      ∙ length-take-le k (rows entry_size most_pairs t)
      (let n : length (rows entry_size most_pairs t) ≡ most_pairs = length-rows entry_size most_pairs t in omega arith)

  ys-long : length ys ≡ k
  ys-long = length-take-le k masks (omega arith)

  mask_at_lem : (j : ℕ) → j < k → get_or xs j 0 ≡ little 2 t (entry_size * j + mask_at)
  mask_at_lem j h =
      let rs : List (List ℕ) = take k (rows entry_size most_pairs t) in
      ap (get_or (map row_mask rs) j) (sym none) ∙ get_or-map row_mask rs j []
      ∙ ap row_mask (get_or-take k (rows entry_size most_pairs t) j [] h ∙ row_at entry_size most_pairs j t (omega arith))
      ∙ little-row 2 entry_size j mask_at t (omega arith)

  module _ (all : Bool) (j : ℕ) (q : sames xs ys ≡ (all && sames (drop j xs) (drop j ys))) where
    pub gathered-more : length t ≡ entries_size → j < k → (n : ℕ) → n ≡ entry_size → {v : ℕ}
        → v ≡ number_at 2 (take n (drop (entry_size * j) t)) mask_at
        → sames xs ys ≡ ((all && eqb v (get_or masks j 0)) && sames (drop (j + 1) xs) (drop (j + 1) ys))
    gathered-more l h n i {v} e =
        let r : List ℕ = drop (entry_size * j) t in
        let d : length (take n r) ≡ n = length-take-le n r (rw (length-drop (entry_size * j) t) (omega arith)) in
        let u : get_or xs j 0 ≡ v =
        mask_at_lem j h ∙ sym
        (number-of 2 (take n r) mask_at e (omega arith) ∙ little-take 2 n r mask_at (omega arith)
        ∙ little-drop 2 (entry_size * j) t mask_at) in
        let w : get_or ys j 0 ≡ get_or masks j 0 = get_or-take k masks j 0 h in
        same_step xs ys all j (xs-long ∙ sym ys-long) q (omega (arith, xs-long))
        ∙ ap (λ (x : ℕ). (all && eqb x (get_or ys j 0)) && sames (drop (j + 1) xs) (drop (j + 1) ys)) u
        ∙ ap (λ (x : ℕ). (all && eqb v x) && sames (drop (j + 1) xs) (drop (j + 1) ys)) w

    pub gathered-end : k ≤ j → all ≡ sames xs ys
    gathered-end h = same_end xs ys all j (xs-long ∙ sym ys-long) q (omega (arith, xs-long))

-- what the walk and the comparisons say together
snoc-same : (x y : List ℕ) (a b : ℕ) → x ++ (a ∷ []) ≡ y ++ (b ∷ []) → x ≡ y
snoc-same x y a b e =
    let n : length (x ++ (a ∷ [])) ≡ length x + 1 = length-append x (a ∷ []) in
    let m : length (y ++ (b ∷ [])) ≡ length y + 1 = length-append y (b ∷ []) in
    let l : length (x ++ (a ∷ [])) ≡ length (y ++ (b ∷ [])) = ap length e in
    sym (take_at x (a ∷ []) (length y) (omega arith)) ∙ ap (take (length y)) e ∙ take_at y (b ∷ []) (length y) refl

not-both : (a b : Bool) → (a ≡ true → b ≡ true → ⊥) → false ≡ (a && b)
not-both true true f = absurd (f refl refl)
not-both true false f = refl
not-both false b f = refl

module _ (qs : List Pair) (t masks : List ℕ) (r : ℕ) where
  abbrev own : List ℕ
  own = entry_table (index_of qs) ++ (length (index_of qs) ∷ [])

  pub walks-few : Walks qs t masks (Some r) → r ≤ most_pairs
  walks-few x = let a = x.0.count in let b = x.0.most in omega arith

  pub walks-stop : (c : ℕ) → Fails qs t → false ≡ (sames own (t ++ (c ∷ [])) && once qs)
  walks-stop c x =
      not-both (sames own (t ++ (c ∷ []))) (once qs)
      (λ a o. x (sym
      (snoc-same (entry_table (index_of qs)) t (length (index_of qs)) c (sames-eq own (t ++ (c ∷ [])) a))) o)

  pub walks-end : length t ≡ entries_size → every is_octet t ≡ true → (c m : ℕ) {x y : Bool}
      → Walks qs t masks (Some r)
      → x ≡ sames (map row_mask (take r (rows entry_size most_pairs t))) (take r masks) → m ≡ length t - entry_size * r
      → y ≡ every is_zero (take m (drop (entry_size * r) t))
      → (eqb c r && (x && y)) ≡ (sames own (t ++ (c ∷ [])) && once qs)
  walks-end l o c m z p k q =
      table_same (index_of qs) r t masks l o z.0 c p
      (q ∙ ap (every is_zero)
      (take_all m (drop (entry_size * r) t)
      (let d : length (drop (entry_size * r) t)
      ≡ length t - entry_size * r = length-drop (entry_size * r) t in omega arith)))
      ∙ sym (ap (λ (b : Bool). sames own (t ++ (c ∷ [])) && b) z.1 ∙ and-true (sames own (t ++ (c ∷ []))))
    where
      and-true : (b : Bool) → (b && true) ≡ b
      and-true true = refl
      and-true false = refl
