-- Laws of the definitions in More.
use Prim.Native.Nat.{ℕ, suc, ◌+◌, ◌-◌, ◌*◌, ◌≤◌, ◌<◌}
use Rattle.std.specs.Prelude.{◌≡◌, refl, Bool, true, false, List, [], ◌∷◌, ◌++◌, map, leb, ltb, eqb, length, take, drop, get_or, replicate}
use Rattle.std.proofs.Math.Path.{sym}
use Rattle.std.proofs.Common.{ap, ◌∙◌, append_assoc, arith, le-leb, lt-ltb, le-ltb, eq-eqb, ne_eqb, length-append}
use Rattle.std.proofs.lemmas.Bool.{lt-leb}
use Rattle.std.proofs.lemmas.List.{length-replicate, replicate-append-replicate}
use Rattle.laws.specs.Put.{put, put_if}
use Rattle.laws.specs.PutLaws.{put_of, put_then, length-put, put-left, put_right}
use Rattle.laws.specs.TestsLaws.{pick_true, pick-false, and_both, and_left, and_right, and-not-left, and-not-right}
use Rattle.laws.specs.Loops.{every}
use Rattle.laws.specs.Rows.{flat}
use Rattle.laws.specs.RowsLaws.{put_whole}
use Rattle.octets.specs.Little.{octets_of}
use Rattle.octets.specs.LittleLaws.{length-octets}
use Rattle.octets.specs.Numbers.{at_most}
use Rattle.sessions.specs.Machine.{last_number}
use Rattle.model.specs.Types.{Model}
use Rattle.model.specs.Sound.{sound_model, octets_up_to}
use Rattle.model.specs.Block.{pad_to, padded}
use Rattle.model.specs.Layout.{most_prefix}
use Rattle.steps.specs.FactsLaws.{up-to}
use Rattle.blocks.specs.BlockLaws.{padded-length}
use Rattle.blocks.specs.RowsLaws.{length-pad_to}
use Rattle.editions.specs.Editions.{Edition, Gateway, last_from, sound_edition, sound_editions, edition_row, most_editions}
use Rattle.editions.proofs.FactsLaws.{kept_of_lem}
use Rattle.editions.specs.Block.{edition_size, edition_count_at, edition_block, editions_of}
use Rattle.editions.proofs.BlockLaws.{editions-in}
use Rattle.editions.specs.Table.{table_of}
use Rattle.wholes.specs.Layout.{editions_at, editions_count_at, index_size, whole_size}
use Rattle.wholes.specs.Whole.{laid_with}
use Rattle.wholes.proofs.LaidLaws.{laid-editions}
use Rattle.prefixes.specs.Held.{listed, edition_count, edition_at}
use Rattle.prefixes.specs.HeldLaws.{listed-count, listed-take, listed-all}
use Rattle.prefixes.specs.ForceLaws.{zeros-behind}
use Rattle.prefixes.specs.Laid.{placed}
use Rattle.prefixes.specs.LaidLaws.{rows_of, row_fits_lem, rows_more}
use Rattle.prefixes.specs.More.{last_in, can_push, with_one, pushed}

last_more : (k : ℕ) (es : List Edition) (e : Edition) → last_from k (es ++ (e ∷ [])) ≡ e.from
unfolding last_from
last_more k [] e = refl
last_more k (d ∷ es) e = last_more d.from es e

pub last-not : (s : List ℕ) → (length s ≡ whole_size → ⊥) → 0 ≡ last_in s
unfolding last_in
last-not s h = sym (pick-false (last_from 0 (listed s)) 0 (ne_eqb (length s) whole_size h))

pub last-listed : (s : List ℕ) → length s ≡ whole_size → last_in s ≡ last_from 0 (listed s)
unfolding last_in
last-listed s l = pick_true (last_from 0 (listed s)) 0 (eq-eqb (length s) whole_size l)

pub last_none : (s : List ℕ) → length s ≡ whole_size → edition_count s ≡ 0 → 0 ≡ last_in s
unfolding last_from
last_none s l z =
    sym (last-listed s l ∙ ap (last_from 0) (sym (listed-all s)) ∙ ap (λ (j : ℕ). last_from 0 (take j (listed s))) z)

pub last-there : (s : List ℕ) (c : ℕ) {v : ℕ} → length s ≡ whole_size → c ≡ edition_count s → (c ≡ 0 → ⊥)
    → v ≡ (edition_at s (c - 1)).from → v ≡ last_in s
last-there s c {v} l e n q =
    let i : ℕ = c - 1 in
    let k : edition_count s ≡ suc i = omega arith in
    q ∙ sym (last-listed s l ∙ ap (last_from 0) (sym (listed-all s)) ∙ ap (λ (j : ℕ). last_from 0 (take j (listed s))) k
    ∙ ap (last_from 0) (listed-take s i (omega arith)) ∙ last_more 0 (take i (listed s)) (edition_at s i))

pub pushed-not : (n : ℕ) (p s : List ℕ) → s ≡ pushed false n p s
unfolding pushed
pushed-not n p s = sym (pick-false (with_one n p s) s refl)

module _ (s p : List ℕ) where
  pub push-sized : (length s ≡ whole_size → ⊥) → false ≡ can_push s p
  unfolding can_push
  push-sized h = sym (and-not-left (eqb (length s) whole_size) _ (ne_eqb (length s) whole_size h))

  pub push-long : most_prefix < length p → false ≡ can_push s p
  unfolding can_push
  push-long h = sym
      (and-not-right (eqb (length s) whole_size) _
      (and-not-left _ (ltb (edition_count s) most_editions) (lt-leb (length p) most_prefix h)))

  pub push-full : {c : ℕ} → c ≡ edition_count s → c ≡ most_editions → false ≡ can_push s p
  unfolding can_push
  push-full e h =
      sym (and-not-right (eqb (length s) whole_size) _
      (and-not-right (leb (length p) most_prefix) _ (le-ltb (edition_count s) most_editions (omega arith))))

  pub push-can : {c : ℕ} → length s ≡ whole_size → length p ≤ most_prefix → c ≡ edition_count s → c < most_editions
      → true ≡ can_push s p
  unfolding can_push
  push-can l h e k =
      sym (and_both (eq-eqb (length s) whole_size l)
      (and_both (le-leb (length p) most_prefix h) (lt-ltb (edition_count s) most_editions (omega arith))))

-- the row and the count written
pub pushed-is : (s p : List ℕ) (n c : ℕ) → length s ≡ whole_size → length p ≤ most_prefix → c ≡ edition_count s
    → c < most_editions
    → {u v w y : Bool} {a b d e : List ℕ}
    → u ≡ leb (editions_at + edition_size * c + 4) (length s)
    → a ≡ put_if u s (editions_at + edition_size * c) (octets_of 4 n)
    → v ≡ leb (editions_at + edition_size * c + 4 + 1) (length a)
    → b ≡ put_if v a (editions_at + edition_size * c + 4) (octets_of 1 (length p))
    → w ≡ leb (editions_at + edition_size * c + 5 + length p) (length b)
    → d ≡ put_if w b (editions_at + edition_size * c + 5) p
    → y ≡ leb (editions_count_at + 1) (length d) → e ≡ put_if y d editions_count_at (octets_of 1 (c + 1))
    → e ≡ pushed true n p s
unfolding pushed with_one edition_row octets_of
pushed-is s p n c l h k m {u} {v} {w} {y} {a} {b} {d} {e} up ua vp vb wp wd yp ye =
    let at : ℕ = editions_at + edition_size * c in
    let k4 : length (octets_of 4 n) ≡ 4 = length-octets 4 n in
    let a1 : a ≡ put s at (octets_of 4 n) = put_of s at (octets_of 4 n) 4 (length s) up (omega arith) ua in
    let la : length a ≡ whole_size = ap length a1 ∙ length-put s at (octets_of 4 n) (omega arith) ∙ l in
    let b1 : b ≡ put a (at + 4) (octets_of 1 (length p)) =
    put_of a (at + 4) (octets_of 1 (length p)) 1 (length a) vp (omega arith) vb in
    let lb : length b ≡ whole_size = ap length b1 ∙ length-put a (at + 4) (octets_of 1 (length p)) (omega arith) ∙ la in
    let d1 : d ≡ put b (at + 5) p = put_of b (at + 5) p (length p) (length b) wp (omega arith) wd in
    let ld : length d ≡ whole_size = ap length d1 ∙ length-put b (at + 5) p (omega arith) ∙ lb in
    let e1 : e ≡ put d editions_count_at (octets_of 1 (c + 1)) =
    put_of d editions_count_at (octets_of 1 (c + 1)) 1 (length d) yp (omega arith) ye in
    let b2 : b ≡ put s at (octets_of 4 n ++ octets_of 1 (length p)) =
    put_then s at (octets_of 4 n) (at + 4) (octets_of 1 (length p)) (omega arith) a1 (omega arith) b1 refl in
    let five : length (octets_of 4 n ++ octets_of 1 (length p)) ≡ 5 =
    length-append (octets_of 4 n) (octets_of 1 (length p)) in
    let one : octets_of 1 (length p) ≡ length p ∷ [] = ap (λ (t : ℕ). t ∷ []) (small (length p) (omega arith)) in
    let two : octets_of 1 (c + 1) ≡ (edition_count s + 1) ∷ [] =
    ap (λ (t : ℕ). t ∷ []) (small (c + 1) (omega arith) ∙ ap (λ (t : ℕ). t + 1) k) in
    let d2 : d ≡ put s at (octets_of 4 n ++ (length p ∷ p)) =
    put_then s at (octets_of 4 n ++ octets_of 1 (length p)) (at + 5) p (omega arith) b2 (omega arith) d1
    (ap (λ (t : List ℕ). (octets_of 4 n ++ t) ++ p) one ∙ append_assoc (octets_of 4 n) (length p ∷ []) p) in
    e1 ∙ ap (put d editions_count_at) two ∙ ap (λ (t : List ℕ). put t editions_count_at ((edition_count s + 1) ∷ [])) d2
    ∙ ap (λ (t : ℕ). put (put s (editions_at + edition_size * t) (octets_of 4 n ++ (length p ∷ p))) editions_count_at
    ((edition_count s + 1) ∷ [])) k
    ∙ sym (pick_true _ s refl)
  where
    small : (t : ℕ) → t < 256 → Prim.Native.Nat.◌%◌ t 256 ≡ t
    small t h = omega arith

-- on the editions' own octets
pub rows_long : (es : List Edition) → every sound_edition es ≡ true → length (rows_of es) ≡ edition_size * length es
unfolding rows_of flat every sound_edition
rows_long [] f = refl
rows_long (e ∷ es) f =
    let o : sound_edition e ≡ true = and_left (sound_edition e) (every sound_edition es) f in
    let u = up-to most_prefix e.prefix
    (and_right (leb e.from last_number) (octets_up_to most_prefix e.prefix) o) in
    let b = row_fits_lem e u.0 in
    let c : length (placed e) ≡ edition_size = length-pad_to edition_size (edition_row e) b in
    let r : length (flat (map placed es)) ≡ edition_size * length es =
    rows_long es (and_right (sound_edition e) (every sound_edition es) f) in
    length-append (placed e) (flat (map placed es)) ∙ omega arith

-- a row written behind them that the zeros pad to the edition's, and their number
pub more-row : (es : List Edition) (e : Edition) (y : List ℕ) → every sound_edition es ≡ true → length es < most_editions
    → length e.prefix ≤ most_prefix → length y ≤ edition_size
    → put (replicate (edition_size * (most_editions - length es)) 0) 0 y
    ≡ placed e ++ replicate (edition_size * (most_editions - (length es + 1))) 0
    → put (put (edition_block es) (edition_size * length es) y) edition_count_at ((length es + 1) ∷ [])
    ≡ edition_block (es ++ (e ∷ []))
unfolding edition_block table_of rows_of
more-row es e y f h k ly zy =
    let c : ℕ = length es in
    let x : List ℕ = flat (map placed es) in
    let m : ℕ = edition_size * (most_editions - c) in
    let r : ℕ = edition_size * (most_editions - (c + 1)) in
    let lx : length x ≡ edition_size * c = rows_long es f in
    let lz : length (replicate {A = ℕ} m 0) ≡ m = length-replicate {A = ℕ} m 0 in
    let p : List ℕ = placed e in
    let lp : length p ≡ edition_size = length-pad_to edition_size (edition_row e) (row_fits_lem e k) in
    let n : length (es ++ (e ∷ [])) ≡ c + 1 = length-append es (e ∷ []) in
    let a : put ((x ++ replicate m 0) ++ (c ∷ [])) (edition_size * c) y ≡ ((x ++ p) ++ replicate r 0) ++ (c ∷ []) =
    put-left (x ++ replicate m 0) (c ∷ []) (edition_size * c) y
    (let g = length-append x (replicate {A = ℕ} m 0) in omega arith)
    ∙ ap (λ (t : ℕ). put (x ++ replicate m 0) t y ++ (c ∷ []))
    (let q : edition_size * c ≡ length x + 0 = omega arith in q)
    ∙ ap (λ (t : List ℕ). t ++ (c ∷ [])) (put_right x (replicate m 0) 0 y)
    ∙ ap (λ (t : List ℕ). (x ++ t) ++ (c ∷ [])) zy
    ∙ ap (λ (t : List ℕ). t ++ (c ∷ [])) (sym (append_assoc x p (replicate r 0))) in
    let lr : length (replicate {A = ℕ} r 0) ≡ r = length-replicate {A = ℕ} r 0 in
    let w : length ((x ++ p) ++ replicate {A = ℕ} r 0) + 0 ≡ edition_count_at =
    let g = length-append x p in let i = length-append (x ++ p) (replicate {A = ℕ} r 0) in omega arith in
    ap (λ (t : List ℕ). put t edition_count_at ((c + 1) ∷ [])) a
    ∙ ap (λ (t : ℕ). put (((x ++ p) ++ replicate r 0) ++ (c ∷ [])) t ((c + 1) ∷ [])) (sym w)
    ∙ put_right ((x ++ p) ++ replicate r 0) (c ∷ []) 0 ((c + 1) ∷ [])
    ∙ ap (λ (t : List ℕ). ((x ++ p) ++ replicate r 0) ++ t) (put_whole (c ∷ []) ((c + 1) ∷ []) refl)
    ∙ ap (λ (t : List ℕ). (t ++ replicate r 0) ++ ((c + 1) ∷ [])) (sym (rows_more es e))
    ∙ ap (λ (t : ℕ). (flat (map placed (es ++ (e ∷ []))) ++ replicate (edition_size * (most_editions - t)) 0)
    ++ (t ∷ [])) (sym n)

more-block : (es : List Edition) (e : Edition) → every sound_edition es ≡ true → length es < most_editions
    → length e.prefix ≤ most_prefix
    → put (put (edition_block es) (edition_size * length es) (edition_row e)) edition_count_at ((length es + 1) ∷ [])
    ≡ edition_block (es ++ (e ∷ []))
unfolding pad_to
more-block es e f h k =
    let c : ℕ = length es in
    let y : List ℕ = edition_row e in
    let m : ℕ = edition_size * (most_editions - c) in
    let r : ℕ = edition_size * (most_editions - (c + 1)) in
    let ly : length y ≤ edition_size = row_fits_lem e k in
    let zy : put (replicate m 0) 0 y ≡ (y ++ replicate (edition_size - length y) 0) ++ replicate r 0 =
    zeros-behind m y
    ∙ ap (λ (t : ℕ). y ++ replicate t 0) (let q : m - length y ≡ (edition_size - length y) + r = omega arith in q)
    ∙ ap (λ (t : List ℕ). y ++ t) (sym (replicate-append-replicate (edition_size - length y) r 0))
    ∙ sym (append_assoc y (replicate (edition_size - length y) 0) (replicate r 0)) in
    more-row es e y f h k ly zy

pub pushed-laid : (g : Gateway) (x : List ℕ) (e : Edition) → sound_model g.core ≡ true
    → sound_editions g.editions ≡ true → length x ≡ index_size
    → length g.editions < most_editions → length e.prefix ≤ most_prefix
    → with_one e.from e.prefix (laid_with x g)
    ≡ laid_with x (record { core = g.core; editions = g.editions ++ (e ∷ []) })
unfolding with_one laid_with edition_count listed
pushed-laid g x e ok es k h q =
    let m : Model = g.core in
    let f : List ℕ = padded m ++ x in
    let t : List ℕ = edition_block g.editions in
    let c : ℕ = length g.editions in
    let lf : length f ≡ editions_at = let a = padded-length m ok in length-append (padded m) x ∙ omega arith in
    let i : editions_of (drop editions_at (f ++ t)) ≡ g.editions =
    ap editions_of (laid-editions g x ok es k) ∙ editions-in g.editions es in
    let n : at_most (get_or (f ++ t) editions_count_at 0) most_editions ≡ c = sym (listed-count (f ++ t)) ∙ ap length i in
    let inside : (l ys : List ℕ) (j : ℕ) → put (f ++ l) (editions_at + j) ys ≡ f ++ put l j ys =
    λ l ys j. ap (λ (b : ℕ). put (f ++ l) (b + j) ys) (sym lf) ∙ put_right f l j ys in
    ap (λ (b : ℕ). put (put (f ++ t) (editions_at + edition_size * b) (edition_row e)) editions_count_at ((b + 1) ∷ [])) n
    ∙ ap (λ (l : List ℕ). put l editions_count_at ((c + 1) ∷ [])) (inside t (edition_row e) (edition_size * c))
    ∙ inside (put t (edition_size * c) (edition_row e)) ((c + 1) ∷ []) edition_count_at
    ∙ ap (λ (l : List ℕ). f ++ l) (more-block g.editions e (kept_of_lem g.editions es).fit h q)
