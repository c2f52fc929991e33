-- Laws of the definitions in Laid.
use Prim.Native.Nat.{ℕ, zero, suc, ◌+◌, ◌-◌, ◌*◌, ◌≤◌, ◌<◌}
use Rattle.std.specs.Prelude.{◌≡◌, refl, Bool, true, false, ◌&&◌, leb, eqb, get_or, replicate}
use Rattle.std.proofs.Math.Path.{sym, ap}
use Rattle.std.proofs.Common.{◌∙◌, add-one, eq-eqb, ne_eqb, length-append, length-drop, take-append-drop, drop_of_length-le, drop-cons, drop-drop, length-take-le}
use mathlib.Core.List.{List, [], ◌∷◌, ◌++◌, map, append_assoc, append-nil}
use native.Mathlib.Omega.{arith}
use Rattle.std.proofs.Math.Dec.{eqb-zero-suc, eqb-suc-zero}
use Rattle.std.proofs.Math.ListN.{length, take, drop, length-replicate}
use Rattle.laws.specs.Put.{put, put_if}
use Rattle.laws.specs.PutLaws.{put_of, put_then, length-put}
use Rattle.laws.specs.Tests.{sames}
use Rattle.laws.specs.TestsLaws.{and-not-left, and-not-right}
use Rattle.laws.specs.Loops.{every}
use Rattle.laws.specs.Rows.{flat, row}
use Rattle.laws.specs.RowsLaws.{flat_append}
use Rattle.parts.specs.Parts.{is_zero}
use Rattle.octets.specs.Little.{octets_of}
use Rattle.octets.specs.LittleLaws.{length-octets}
use Rattle.octets.specs.Numbers.{at_most}
use Rattle.model.specs.Block.{pad_to}
use Rattle.model.specs.Layout.{most_prefix}
use Rattle.blocks.specs.RowsLaws.{length-pad_to}
use Rattle.editions.specs.Editions.{Edition, edition_row, most_editions}
use Rattle.editions.specs.Block.{edition_size, edition_block}
use Rattle.editions.specs.Table.{table_of}
use Rattle.wholes.specs.Layout.{editions_at, editions_count_at, whole_size}
use Rattle.prefixes.specs.Held.{listed, edition_count, row_in, edition_at}
use Rattle.prefixes.specs.HeldLaws.{listed-count, listed-drop, listed-end, count_most, row-long, prefix-read, prefix-short, prefix-most}
use Rattle.prefixes.specs.ForceLaws.{zeros-behind}
use Rattle.prefixes.specs.Laid.{placed}

-- an edition's row written at the start of a row
pub row_put_lem : (s t : List ℕ) (i k v n : ℕ) → length s ≡ whole_size → i < most_editions → length t ≡ edition_size
    → n ≡ (edition_at s i).from
    → k ≡ at_most v most_prefix → v ≡ get_or s (editions_at + edition_size * i + 4) 0 → (j : ℕ) → j ≡ k
    → {p q r : Bool} {a b c : List ℕ}
    → p ≡ leb (0 + 4) (length t) → a ≡ put_if p t 0 (octets_of 4 n)
    → q ≡ leb (4 + 1) (length a) → b ≡ put_if q a 4 (octets_of 1 k)
    → r ≡ leb (5 + length (take j (drop (editions_at + edition_size * i + 4 + 1) s))) (length b)
    → c ≡ put_if r b 5 (take j (drop (editions_at + edition_size * i + 4 + 1) s))
    → c ≡ put t 0 (edition_row (edition_at s i))
unfolding edition_row octets_of
row_put_lem s t i k v n l h o f e g j w {p} {q} {r} {a} {b} {c} pp pa qq qb rr rc =
    let m = Rattle.octets.specs.NumbersLaws.at-most v most_prefix in
    let x : List ℕ = (edition_at s i).prefix in
    let y : x ≡ take j (drop (editions_at + edition_size * i + 4 + 1) s) =
    prefix-read s i l h k v e g ∙ ap (λ (d : ℕ). take d (drop (editions_at + edition_size * i + 4 + 1) s)) (sym w) in
    let z : length x ≡ k = prefix-short s i l h k v e g in
    let k4 : length (octets_of 4 n) ≡ 4 = length-octets 4 n in
    let a1 : a ≡ put t 0 (octets_of 4 n) = put_of t 0 (octets_of 4 n) 4 (length t) pp (omega arith) pa in
    let la : length a ≡ edition_size = ap length a1 ∙ length-put t 0 (octets_of 4 n) (omega arith) ∙ o in
    let b1 : b ≡ put a 4 (octets_of 1 k) = put_of a 4 (octets_of 1 k) 1 (length a) qq (omega arith) qb in
    let lb : length b ≡ edition_size = ap length b1 ∙ length-put a 4 (octets_of 1 k) (omega arith) ∙ la in
    let c1 : c ≡ put b 5 x =
    put_of b 5 x (length x) (length b) (rr ∙ ap (λ (d : List ℕ). leb (5 + length d) (length b)) (sym y)) (omega arith)
    (rc ∙ ap (put_if r b 5) (sym y)) in
    let one : octets_of 1 k ≡ length x ∷ [] = ap (λ (d : ℕ). d ∷ []) (small k (omega arith) ∙ sym z) in
    let b2 : b ≡ put t 0 (octets_of 4 n ++ octets_of 1 k) =
    put_then t 0 (octets_of 4 n) 4 (octets_of 1 k) (omega arith) a1 (omega arith) b1 refl in
    let five : length (octets_of 4 n ++ octets_of 1 k) ≡ 5 = length-append (octets_of 4 n) (octets_of 1 k) in
    put_then t 0 (octets_of 4 n ++ octets_of 1 k) 5 x (omega arith) b2 (omega arith) c1
    (ap (λ (d : List ℕ). (octets_of 4 n ++ d) ++ x) one ∙ append_assoc (octets_of 4 n) (length x ∷ []) x
    ∙ ap (λ (d : ℕ). octets_of 4 d ++ (length x ∷ x)) f)
  where
    small : (d : ℕ) → d < 256 → Prim.Native.Nat.◌%◌ d 256 ≡ d
    small d h = omega arith

pub row_fits_lem : (e : Edition) → length e.prefix ≤ most_prefix → length (edition_row e) ≤ edition_size
unfolding edition_row
row_fits_lem e h = let a = length-octets 4 e.from in let b =
    length-append (octets_of 4 e.from) (length e.prefix ∷ e.prefix) in omega arith

-- the rows of editions one behind the other
unfoldable pub rows_of : List Edition → List ℕ
rows_of es = flat (map placed es)

pub rows_more : (es : List Edition) (e : Edition) → rows_of (es ++ (e ∷ [])) ≡ rows_of es ++ placed e
unfolding rows_of flat
rows_more es e =
    ap flat (snoc es) ∙ flat_append (map placed es) (placed e ∷ [])
    ∙ ap (λ (l : List ℕ). flat (map placed es) ++ l) (append-nil (placed e))
  where
    snoc : (es : List Edition) → map placed (es ++ (e ∷ [])) ≡ map placed es ++ (placed e ∷ [])
    snoc [] = refl
    snoc (d ∷ es) = ap (λ (l : List (List ℕ)). placed d ∷ l) (snoc es)

-- two lists that begin with lists of one length; zeros
and_assoc : (a b c : Bool) → (a && (b && c)) ≡ ((a && b) && c)
and_assoc true b c = refl
and_assoc false b c = refl

sames-append : (a b c d : List ℕ) → length a ≡ length c → sames (a ++ b) (c ++ d) ≡ (sames a c && sames b d)
unfolding sames
sames-append [] b [] d e = refl
sames-append [] b (y ∷ c) d e = absurd (omega arith)
sames-append (x ∷ a) b [] d e = absurd (omega arith)
sames-append (x ∷ a) b (y ∷ c) d e =
    ap (λ (t : Bool). eqb x y && t) (sames-append a b c d (omega arith)) ∙ and_assoc (eqb x y) (sames a c) (sames b d)

zero-eqb : (x : ℕ) → eqb 0 x ≡ eqb x 0
zero-eqb zero = refl
zero-eqb (suc x) = eqb-zero-suc x ∙ sym (eqb-suc-zero x)

sames-zeros : (n : ℕ) (l : List ℕ) → length l ≡ n → sames (replicate n 0) l ≡ every is_zero l
unfolding sames every
sames-zeros zero [] e = refl
sames-zeros zero (x ∷ l) e = absurd (omega arith)
sames-zeros (suc n) [] e = absurd (omega arith)
sames-zeros (suc n) (x ∷ l) e = rw (zero-eqb x, sames-zeros n l (omega arith))

module _ (s : List ℕ) (l : length s ≡ whole_size) where
  abbrev t : List ℕ
  t = drop editions_at s

  -- behind the rows: zeros, and how many editions there are
  abbrev z : List ℕ
  z = replicate (edition_size * (most_editions - length (listed s))) 0

  abbrev left : ℕ → List ℕ
  left i = flat (map placed (drop i (listed s))) ++ (z ++ (length (listed s) ∷ []))

  -- the loop: what is left to compare from row i on
  abbrev pub Laid : ℕ → Type 0
  Laid i = sames (edition_block (listed s)) t ≡ sames (left i) (drop (edition_size * i) t)

  pub laid-all : Laid 0
  unfolding edition_block table_of
  laid-all = ap (λ (x : List ℕ). sames x t) (append_assoc (flat (map placed (listed s))) z (length (listed s) ∷ []))

  at_row : (i : ℕ) → drop (edition_size * i) t ≡ drop (editions_at + edition_size * i) s
  at_row i = drop-drop (edition_size * i) editions_at s

  module _ (i : ℕ) (h : i < edition_count s) (w : Laid i) where
    abbrev e : Edition
    e = edition_at s i

    fits : i < most_editions
    fits = let m = count_most s in omega arith

    place-long : length (placed e) ≡ edition_size
    place-long = length-pad_to edition_size (edition_row e) (row_fits_lem e (prefix-most s i l fits))

    there : drop (edition_size * i) t ≡ row_in s i ++ drop (edition_size * (i + 1)) t
    unfolding row_in row
    there =
        let q : edition_size * i + edition_size ≡ edition_size * (i + 1) = omega arith in
        sym (take-append-drop edition_size (drop (edition_size * i) t))
        ∙ ap (λ (x : List ℕ). take edition_size (drop (edition_size * i) t) ++ x)
        (drop-drop edition_size (edition_size * i) t ∙ ap (λ (j : ℕ). drop j t) q)

    here : left i ≡ placed e ++ left (i + 1)
    unfolding flat
    here =
        ap (λ (es : List Edition). flat (map placed es) ++ (z ++ (length (listed s) ∷ [])))
        (listed-drop s i h ∙ ap (λ (j : ℕ). edition_at s i ∷ drop j (listed s)) (sym (add-one i)))
        ∙ append_assoc (placed e) (flat (map placed (drop (i + 1) (listed s)))) (z ++ (length (listed s) ∷ []))

    step : sames (edition_block (listed s)) t
        ≡ (sames (placed e) (row_in s i) && sames (left (i + 1)) (drop (edition_size * (i + 1)) t))
    step =
        w ∙ ap (λ (x : List ℕ). sames x (drop (edition_size * i) t)) here ∙ ap (sames (placed e ++ left (i + 1))) there
        ∙ sames-append (placed e) (left (i + 1)) (row_in s i) (drop (edition_size * (i + 1)) t)
        (place-long ∙ sym (row-long s i l fits))

    pub laid_more : {r : Bool} → r ≡ sames (placed e) (row_in s i) → r ≡ true → Laid (i + 1)
    laid_more q y = step ∙ ap (λ (b : Bool). b && sames (left (i + 1)) (drop (edition_size * (i + 1)) t)) (sym q ∙ y)

    pub laid-not : {r : Bool} → r ≡ sames (placed e) (row_in s i) → r ≡ false
        → false ≡ sames (edition_block (listed s)) t
    laid-not q y = sym
        (step ∙ and-not-left (sames (placed e) (row_in s i)) (sames (left (i + 1)) (drop (edition_size * (i + 1)) t))
        (sym q ∙ y))

  -- the end: zeros, and the number
  module _ (i m : ℕ) (h : i ≡ edition_count s) (w : Laid i)
      (n : m ≡ editions_count_at - (editions_at + edition_size * i)) where
    abbrev d : List ℕ
    d = drop (editions_at + edition_size * i) s

    abbrev c : ℕ
    c = get_or s editions_count_at 0

    small : i ≤ most_editions
    small = let k = count_most s in omega arith

    last : drop m d ≡ c ∷ []
    last =
        let q : editions_at + edition_size * i + m ≡ editions_count_at = let b = small in omega arith in
        drop-drop m (editions_at + edition_size * i) s ∙ ap (λ (j : ℕ). drop j s) q
        ∙ drop-cons s editions_count_at 0 (omega arith)
        ∙ ap (λ (x : List ℕ). c ∷ x) (drop_of_length-le s {i = suc editions_count_at} (omega arith))

    part-long : length (take m d) ≡ length z
    part-long =
        let b = small in let k = listed-count s in
        length-take-le m d (simp length-drop (omega arith))
        ∙ sym (length-replicate {A = ℕ} (edition_size * (most_editions - length (listed s))) 0 ∙ omega arith)

    ends : sames (edition_block (listed s)) t ≡ (every is_zero (take m d) && (eqb (length (listed s)) c && true))
    unfolding flat sames
    ends =
        let none : drop i (listed s) ≡ [] = ap (λ (j : ℕ). drop j (listed s)) h ∙ listed-end s in
        w ∙ ap (λ (es : List Edition). sames (flat (map placed es) ++ (z ++ (length (listed s) ∷ [])))
        (drop (edition_size * i) t)) none
        ∙ ap (sames (z ++ (length (listed s) ∷ [])))
        (at_row i ∙ sym (take-append-drop m d) ∙ ap (λ (x : List ℕ). take m d ++ x) last)
        ∙ sames-append z (length (listed s) ∷ []) (take m d) (c ∷ []) (sym part-long)
        ∙ ap (λ (b : Bool). b && (eqb (length (listed s)) c && true))
        (sames-zeros (edition_size * (most_editions - length (listed s))) (take m d)
        (part-long ∙ length-replicate {A = ℕ} (edition_size * (most_editions - length (listed s))) 0))

    pub laid-other : (c ≡ i → ⊥) → false ≡ sames (edition_block (listed s)) t
    laid-other o =
        sym (ends ∙ and-not-right (every is_zero (take m d)) _
        (and-not-left _ true (ne_eqb (length (listed s)) c (λ q. o (sym q ∙ listed-count s ∙ sym h)))))

    pub laid-zeros : c ≡ i → {r : Bool} → r ≡ every is_zero (take m d) → r ≡ sames (edition_block (listed s)) t
    laid-zeros o q =
        sym (ends ∙ ap (λ (b : Bool). every is_zero (take m d) && (b && true))
        (eq-eqb (length (listed s)) c (listed-count s ∙ sym h ∙ sym o))
        ∙ trues (every is_zero (take m d)) ∙ sym q)
      where
        trues : (b : Bool) → (b && true) ≡ b
        trues true = refl
        trues false = refl

-- one row, written into zeros
pub row_same : (s : List ℕ) (i k : ℕ) {a : List ℕ} {r : Bool}
    → a ≡ put (replicate edition_size 0) 0 (edition_row (edition_at s i)) → k ≡ edition_size
    → r ≡ sames a (take k (drop (editions_at + edition_size * i) s)) → r ≡ sames (placed (edition_at s i)) (row_in s i)
unfolding row_in row pad_to
row_same s i k e n q =
    q ∙ ap (λ (x : List ℕ). sames x (take k (drop (editions_at + edition_size * i) s)))
    (e ∙ zeros-behind edition_size (edition_row (edition_at s i)))
    ∙ ap (sames (pad_to edition_size (edition_row (edition_at s i))))
    (ap (λ (j : ℕ). take j (drop (editions_at + edition_size * i) s)) n
    ∙ ap (take edition_size) (sym (drop-drop (edition_size * i) editions_at s)))
