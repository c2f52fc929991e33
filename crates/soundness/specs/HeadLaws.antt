-- The first 40 octets of a block: what their clauses say, and that they are then the row of what they hold. Document
-- 01, The image (A0; "settings in range, filter 0 or 1"). Assumes nothing.
use Rattle.std.specs.Prelude.{ℕ, zero, suc, ◌+◌, ◌-◌, ◌^◌, ◌≤◌, ◌<◌, ◌≡◌, true, ◌&&◌, List, [], ◌∷◌, ◌++◌, leb, length, take, drop, get_or}
use Rattle.std.proofs.Common.{sym, ap, ◌∙◌, append_assoc, pow-suc, arith, length-drop, take-append-drop, length-take-le, get_or-take, leb-true, ltb-true, le-leb}
use Rattle.std.proofs.Math.Nat.{pow-zero}
use Rattle.std.proofs.lemmas.List.{take-append-le, drop-append-le}
use Rattle.laws.specs.TestsLaws.{and_left, and_right}
use Rattle.laws.specs.Loops.{every}
use Rattle.laws.specs.LoopsLaws.{every_take}
use Rattle.octets.specs.Little.{little, octets_of, is_octet}
use Rattle.octets.specs.LittleLaws.{little-take}
use Rattle.parts.specs.Parts.{is_zero}
use Rattle.model.specs.Image.{head_row}
use Rattle.model.specs.Block.{pad_to, model_of}
use Rattle.blocks.specs.RowsLaws.{length-head_row}
use Rattle.soundness.specs.Clauses.{head_test}
use Rattle.soundness.specs.RowsLaws.{one-cut, part_cut, number_cut, pad-zeros}
use Rattle.model.specs.Layout.{filter_at, head_size, most_prefix, opcode_at, position_at, prefix_at, prefix_length_at}

-- a part of the first b elements
pub part-take : {A : Type 0} (a n b : ℕ) (l : List A) → a + n ≤ b → b ≤ length l
    → take n (drop a (take b l)) ≡ take n (drop a l)
part-take a n b l h k =
    let m : length (take b l) ≡ b = length-take-le b l k in
    let d : length (drop a (take b l)) ≡ b - a = length-drop a (take b l) ∙ ap (λ (j : ℕ). j - a) m in
    sym (take-append-le n (drop a (take b l)) (drop b l) (omega arith))
    ∙ ap (λ x. take n x) (sym (drop-append-le a (take b l) (drop b l) (omega arith)))
    ∙ ap (λ x. take n (drop a x)) (take-append-drop b l)

-- numbers of octets are small
octet-any : (r : List ℕ) (i : ℕ) → every is_octet r ≡ true → get_or r i 0 < 256
unfolding every
octet-any [] i o = omega arith
octet-any (x ∷ r) zero o = ltb-true x 256 (and_left (is_octet x) (every is_octet r) o)
octet-any (x ∷ r) (suc i) o = octet-any r i (and_right (is_octet x) (every is_octet r) o)

pub little-lt : (k : ℕ) (r : List ℕ) (i : ℕ) → every is_octet r ≡ true → little k r i < 256 ^ k
unfolding little
little-lt zero r i o = rw (pow-zero 256) (omega arith)
little-lt (suc k) r i o =
    let b : get_or r i 0 < 256 = octet-any r i o in
    let ih : little k r (i + 1) < 256 ^ k = little-lt k r (i + 1) o in
    rw (pow-suc 256 k) (omega arith)

pub record HeadFacts (r : List ℕ) : Type 0 where
  pub filter : get_or r filter_at 0 ≤ 1
  pub opcode : 0xFC00 ≤ little 2 r opcode_at
  pub short : get_or r prefix_length_at 0 ≤ most_prefix
  pub behind : every is_zero (drop (prefix_at + get_or r prefix_length_at 0) r) ≡ true

pub head-facts : (r : List ℕ) → head_test r ≡ true → HeadFacts r
unfolding head_test
head-facts r e =
    let a = leb (get_or r filter_at 0) 1 in
    let b = leb 0xFC00 (little 2 r opcode_at) in
    let c = leb (get_or r prefix_length_at 0) most_prefix in
    let d = every is_zero (drop (prefix_at + get_or r prefix_length_at 0) r) in
    let e2 = and_left (a && b && c) d e in
    let e1 = and_left (a && b) c e2 in
    record {
      filter = leb-true (get_or r filter_at 0) 1 (and_left a b e1);
      opcode = leb-true 0xFC00 (little 2 r opcode_at) (and_right a b e1);
      short = leb-true (get_or r prefix_length_at 0) most_prefix (and_right (a && b) c e2);
      behind = and_right (a && b && c) d e;
    }

pub facts-head : (r : List ℕ) → HeadFacts r → head_test r ≡ true
unfolding head_test
facts-head r f =
    rw (
      le-leb (get_or r filter_at 0) 1 f.filter,
      le-leb 0xFC00 (little 2 r opcode_at) f.opcode,
      le-leb (get_or r prefix_length_at 0) most_prefix
          f.short,
    ) f.behind

-- the head row, read from its own octets
abbrev head_of : List ℕ → ℕ → List ℕ
head_of r n = octets_of 4 (little 4 r position_at)
    ++ (get_or r filter_at 0 ∷ (octets_of 2 (little 2 r opcode_at) ++ (n ∷ take n (drop prefix_at r))))

head-cuts : (r : List ℕ) → length r ≡ head_size → every is_octet r ≡ true → get_or r prefix_length_at 0 ≤ most_prefix
    → head_of r (get_or r prefix_length_at 0) ++ drop (prefix_at + get_or r prefix_length_at 0) r ≡ r
head-cuts r l o h =
    let n : ℕ = get_or r prefix_length_at 0 in
    let p : List ℕ = octets_of 4 (little 4 r position_at) in
    let c : List ℕ = octets_of 2 (little 2 r opcode_at) in
    spread p (get_or r filter_at 0) c n (take n (drop prefix_at r)) (drop (8 + n) r)
    ∙ ap (λ (x : List ℕ). p ++ (get_or r filter_at 0 ∷ (c ++ (n ∷ x)))) (part_cut r 8 n)
    ∙ ap (λ (x : List ℕ). p ++ (get_or r filter_at 0 ∷ (c ++ x))) (one-cut r 7 (omega arith))
    ∙ ap (λ (x : List ℕ). p ++ (get_or r filter_at 0 ∷ x)) (number_cut 2 r 5 o (omega arith))
    ∙ ap (λ (x : List ℕ). p ++ x) (one-cut r 4 (omega arith))
    ∙ number_cut 4 r 0 o (omega arith)
  where
    spread : (p : List ℕ) (f : ℕ) (c : List ℕ) (n : ℕ) (x y : List ℕ)
        → p ++ (f ∷ (c ++ (n ∷ x))) ++ y ≡ p ++ (f ∷ (c ++ (n ∷ (x ++ y))))
    spread p f c n x y = simp append_assoc

-- a head that passes is the head row of the state that the block holds
pub head-row : (s : List ℕ) → head_size ≤ length s → every is_octet s ≡ true → head_test (take head_size s) ≡ true
    → pad_to head_size (head_row (model_of s)) ≡ take head_size s
unfolding model_of head_row
head-row s l o e =
    let r : List ℕ = take head_size s in
    let f : HeadFacts r = head-facts r e in
    let lr : length r ≡ head_size = length-take-le head_size s l in
    let or : every is_octet r ≡ true = every_take is_octet head_size s o in
    let n : ℕ = get_or s prefix_length_at 0 in
    let nr : get_or r prefix_length_at 0 ≡ n = get_or-take head_size s 7 0 (omega arith) in
    let sh : n ≤ most_prefix = rw nr at f.short in
    let lp : length (take n (drop prefix_at s)) ≡ n =
    length-take-le n (drop prefix_at s) (rw (length-drop 8 s) (omega arith)) in
    let lh : length (head_row (model_of s)) ≡ prefix_at + get_or r prefix_length_at 0 =
    length-head_row (model_of s) ∙ ap (λ (j : ℕ). 8 + j) (lp ∙ sym nr) in
    let x : List ℕ = take n (drop prefix_at s) in
    let q : head_row (model_of s) ≡ head_of r (get_or r prefix_length_at 0) =
    ap (λ (v : ℕ). octets_of 4 v ++ (get_or s filter_at 0 ∷ (octets_of 2 (little 2 s opcode_at) ++ (length x ∷ x))))
    (sym (little-take 4 head_size s 0 (omega arith)))
    ∙ ap (λ (v : ℕ). octets_of 4 (little 4 r position_at) ++ (v ∷ (octets_of 2 (little 2 s opcode_at) ++ (length x ∷ x))))
    (sym (get_or-take head_size s 4 0 (omega arith)))
    ∙ ap (λ (v : ℕ). octets_of 4 (little 4 r position_at) ++ (get_or r filter_at 0 ∷ (octets_of 2 v ++ (length x ∷ x))))
    (sym (little-take 2 head_size s 5 (omega arith)))
    ∙ ap (λ (v : ℕ). octets_of 4 (little 4 r position_at)
    ++ (get_or r filter_at 0 ∷ (octets_of 2 (little 2 r opcode_at) ++ (v ∷ x)))) (lp ∙ sym nr)
    ∙ ap (λ (y : List ℕ). octets_of 4 (little 4 r position_at)
    ++ (get_or r filter_at 0 ∷ (octets_of 2 (little 2 r opcode_at) ++ (get_or r prefix_length_at 0 ∷ y))))
    (sym (part-take 8 n head_size s (omega arith) l) ∙ ap (λ (j : ℕ). take j (drop prefix_at r)) (sym nr)) in
    pad-zeros head_size (prefix_at + get_or r prefix_length_at 0) (head_row (model_of s)) r lr lh (omega (arith, f.short))
    (ap (λ (x : List ℕ). x ++ drop (prefix_at + get_or r prefix_length_at 0) r) q ∙ head-cuts r lr or f.short)
    f.behind
