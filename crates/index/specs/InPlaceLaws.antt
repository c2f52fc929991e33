-- Laws of the definitions in InPlace.
use Rattle.std.specs.Prelude.{ℕ, ◌+◌, ◌*◌, ◌/◌, ◌%◌, ◌≤◌, ◌<◌, ◌≡◌, refl, Bool, true, List, [], ◌∷◌, ◌++◌, map, leb, length, take, drop, get_or, set, replicate}
use Rattle.std.proofs.Common.{sym, ap, ◌∙◌, subst, append_assoc, arith, eq-eqb, length-append, length-drop, take-append-drop, length-take-le, drop_at, drop-drop, take-add, take-take}
use borrow.Rule.Slice.PartMut.{put_mid}
use Rattle.std.proofs.lemmas.List.{length-replicate}
use Rattle.laws.specs.Put.{put, put_if}
use Rattle.laws.specs.PutLaws.{put_of, put-push, length-put, take-before-put, take_put}
use Rattle.laws.specs.TestsLaws.{pick_true}
use Rattle.laws.specs.Loops.{every}
use Rattle.laws.specs.Rows.{rows}
use Rattle.octets.specs.Little.{little, value, is_octet}
use Rattle.octets.specs.Numbers.{at_most}
use Rattle.model.specs.Types.{Pair}
use Rattle.model.specs.Image.{pair_in}
use Rattle.model.specs.Block.{model_of}
use Rattle.model.specs.Layout.{count_at, most_pairs, pair_size, pairs_at, pairs_size}
use Rattle.wholes.specs.Layout.{entries_size, entry_count_at, index_at, index_size, whole_size}
use Rattle.wholes.specs.Index.{IndexEntry, entry_table, index_block, index_of, noted}
use Rattle.wholes.specs.Sizes.{Seven}
use Rattle.wholes.proofs.SizesLaws.{length-entry_table}
use Rattle.index.specs.Table.{Tabled}
use Rattle.index.specs.Seen.{words, Kept}
use Rattle.index.specs.WrittenLaws.{mid-put}
use Rattle.index.specs.BuiltTurns.{built-none, built-more}
use Rattle.index.specs.Renewed.{renewed}
use Rattle.index.specs.RenewedLaws.{pairs-held}
use Rattle.index.specs.InPlace.{table_in, pairs_in, Stands}

-- a part put where it stood
put_same : (xs : List ℕ) (at n : ℕ) → at + n ≤ length xs → put xs at (take n (drop at xs)) ≡ xs
unfolding put
put_same xs at n h =
    let l : length (take n (drop at xs)) ≡ n = length-take-le n (drop at xs) (simp length-drop (omega arith)) in
    rw (l, ← drop-drop n at xs) (append_assoc (take at xs) (take n (drop at xs)) (drop n (drop at xs))
    ∙ ap (λ (x : List ℕ). take at xs ++ x) (take-append-drop n (drop at xs)) ∙ take-append-drop at xs)

-- of two puts at one place, of the same length, the second is left
put-again : (xs : List ℕ) (at : ℕ) (ys zs : List ℕ) → length ys ≡ length zs → at + length ys ≤ length xs
    → put (put xs at ys) at zs ≡ put xs at zs
unfolding put
put-again xs at ys zs e h =
    let t : take at (put xs at ys) ≡ take at xs = take-before-put xs at ys (omega arith) in
    let d : drop (at + length zs) (put xs at ys) ≡ drop (at + length ys) xs =
    ap (λ (n : ℕ). drop (at + n) (put xs at ys)) (sym e)
    ∙ drop_at (take at xs ++ ys) (drop (at + length ys) xs) (at + length ys)
    (let m : length (take at xs) ≡ at = length-take-le at xs (omega arith) in length-append (take at xs) ys
    ∙ omega arith) in
    ap (λ (l : List ℕ). (l ++ zs) ++ drop (at + length zs) (put xs at ys)) t
    ∙ ap (λ (l : List ℕ). (take at xs ++ zs) ++ l) d ∙ ap (λ (n : ℕ). (take at xs ++ zs) ++ drop (at + n) xs) e

-- what is put behind the pairs leaves them, and the number of them
pairs-cut : (x : List ℕ) → length x ≡ whole_size → pairs_in x ≡ drop pairs_at (take count_at x)
pairs-cut x l =
    sym (ap (drop pairs_at) (take-add pairs_at pairs_size x)
    ∙ drop_at (take pairs_at x) (take pairs_size (drop pairs_at x)) pairs_at (length-take-le pairs_at x (omega arith)))

pairs-put : (s ys : List ℕ) → length s ≡ whole_size → index_at + length ys ≤ whole_size
    → pairs_in (put s index_at ys) ≡ pairs_in s
pairs-put s ys l h =
    pairs-cut (put s index_at ys) (length-put s index_at ys (omega arith) ∙ l)
    ∙ ap (drop pairs_at)
    (sym (take-take count_at index_at (put s index_at ys) (omega arith))
    ∙ ap (take count_at) (take-before-put s index_at ys (omega arith))
    ∙ take-take count_at index_at s (omega arith))
    ∙ sym (pairs-cut s l)

pub record Noting (i k : ℕ) (s₀ s seen : List ℕ) : Type 0 where
  pub long : length s ≡ whole_size
  pub marked : length seen ≡ words
  pub rest : s ≡ put s₀ index_at (table_in s)
  pub kept : Kept (index_of (map pair_in (take i (rows pair_size most_pairs (pairs_in s₀))))) k (table_in s) seen

pub table-long : (s : List ℕ) → length s ≡ whole_size → length (table_in s) ≡ entries_size
table-long s l = length-take-le entries_size (drop index_at s) (simp length-drop (omega arith))

pub pairs-long : (s : List ℕ) → length s ≡ whole_size → length (pairs_in s) ≡ pairs_size
pairs-long s l = length-take-le pairs_size (drop pairs_at s) (simp length-drop (omega arith))

pub noting-none : (s seen : List ℕ) → length s ≡ whole_size → length seen ≡ words → table_in s ≡ replicate entries_size 0
    → Noting 0 0 s s seen
noting-none s seen l n z =
    record {
      long = l;
      marked = n;
      rest = sym (put_same s index_at entries_size (omega arith));
      kept = built-none (table_in s) seen (rows pair_size most_pairs (pairs_in s)) z;
    }

pub noting-done : (n i k : ℕ) (s₀ s seen : List ℕ) → i ≡ n → Noting i k s₀ s seen → Stands n k s₀ s
noting-done n i k s₀ s seen e w =
    record {
      rest = w.rest;
      tabled = subst (λ (j : ℕ). Tabled (index_of (map pair_in (take j (rows pair_size most_pairs (pairs_in s₀))))) k
          (table_in s)) e w.kept.tabled;
    }

-- a turn: the part comes back with the pair noted
module _ (s₀ s seen : List ℕ) (i k : ℕ) (l₀ : length s₀ ≡ whole_size) (o : every is_octet s₀ ≡ true) (b : i < most_pairs)
    (w : Noting i k s₀ s seen) where
  same-pairs : pairs_in s ≡ pairs_in s₀
  same-pairs = ap pairs_in w.rest ∙ pairs-put s₀ (table_in s) l₀ (let n = table-long s w.long in omega arith)

  pub noting-more : (key : ℕ) → key ≡ little 8 (pairs_in s) (pair_size * i) → (k' : ℕ) (ys seen' s' : List ℕ)
      → length ys ≡ entries_size → length seen' ≡ length seen
      → ((es : List IndexEntry) (d : List ℕ) → Kept es k (table_in s) seen → Seven d → key / 256 ≡ value d
      → Kept (noted d (key % 256) es) k' ys seen')
      → s' ≡ put_mid index_at entries_size s ys → Noting (i + 1) k' s₀ s' seen'
  noting-more key e k' ys seen' s' n m f q =
      let p : s' ≡ put s index_at ys = q ∙ mid-put index_at entries_size s ys n in
      let t : table_in s' ≡ ys =
      ap table_in p ∙ ap (λ (j : ℕ). take j (drop index_at (put s index_at ys))) (sym n)
      ∙ take_put s index_at ys (let z = w.long in omega arith) in
      let a : length (table_in s) ≡ entries_size = table-long s w.long in
      let r : s' ≡ put s₀ index_at ys =
      p ∙ ap (λ (x : List ℕ). put x index_at ys) w.rest
      ∙ put-again s₀ index_at (table_in s) ys (a ∙ sym n) (omega arith) in
      record {
        long = ap length p ∙ length-put s index_at ys (let z = w.long in omega arith) ∙ w.long;
        marked = m ∙ w.marked;
        rest = r ∙ ap (put s₀ index_at) (sym t);
        kept = subst (λ (x : List ℕ). Kept
            (index_of (map pair_in (take (i + 1) (rows pair_size most_pairs (pairs_in s₀))))) k' x seen') (sym t)
            (built-more (pairs_in s₀) (pairs-long s₀ l₀)
            (Rattle.laws.specs.LoopsLaws.every_take is_octet pairs_size (drop pairs_at s₀)
            (Rattle.laws.specs.LoopsLaws.every_drop is_octet pairs_at s₀ o)) i b
            (λ es. Kept es k (table_in s) seen) (λ es. Kept es k' ys seen') key
            (e ∙ ap (λ (x : List ℕ). little 8 x (pair_size * i)) same-pairs) w.kept f);
      }

-- the whole: zeros, then the entries, then their number
pub renewed-in : (s : List ℕ) → length s ≡ whole_size → (n k v : ℕ) {r : Bool} {x y : List ℕ} → n ≡ at_most v most_pairs
    → v ≡ get_or s count_at 0
    → r ≡ leb (index_at + index_size) (length s) → x ≡ put_if r s index_at (replicate index_size 0) → Stands n k x y
    → set y entry_count_at k ≡ renewed s
unfolding renewed index_block
renewed-in s l n k v {r} {x} {y} e q p u w =
    let z : List ℕ = replicate index_size 0 in
    let lz : length z ≡ index_size = length-replicate {A = ℕ} index_size 0 in
    let a : x ≡ put s index_at z = put_of s index_at z index_size (length s) p (omega arith) u in
    let lx : length x ≡ whole_size = ap length a ∙ length-put s index_at z (omega arith) ∙ l in
    let es : List IndexEntry = index_of (model_of s).pairs in
    let h : map pair_in (take n (rows pair_size most_pairs (pairs_in x))) ≡ (model_of s).pairs =
    ap (λ (ps : List ℕ). map pair_in (take n (rows pair_size most_pairs ps)))
    (ap pairs_in a ∙ pairs-put s z l (omega arith)) ∙ pairs-held s n pairs_size v l e q refl in
    let g : Tabled es k (table_in y) = subst (λ (qs : List Pair). Tabled (index_of qs) k (table_in y)) h w.tabled in
    let t : List ℕ = table_in y in
    let lt : length t ≡ entries_size = ap length g.table ∙ length-entry_table es g.fits g.most in
    let c : set y entry_count_at k ≡ put x index_at (t ++ (k ∷ [])) =
    put-push x index_at t k (omega arith) (omega arith) w.rest in
    let lk : length (t ++ (k ∷ [])) ≡ index_size = length-append t (k ∷ []) ∙ omega arith in
    c ∙ ap (λ (d : List ℕ). put d index_at (t ++ (k ∷ []))) a
    ∙ put-again s index_at z (t ++ (k ∷ [])) (lz ∙ sym lk) (omega arith)
    ∙ ap (λ (d : List ℕ). put s index_at (d ++ (k ∷ []))) g.table
    ∙ ap (λ (j : ℕ). put s index_at (entry_table es ++ (j ∷ []))) g.count
    ∙ sym (pick_true (put s index_at (index_block (model_of s).pairs)) s (eq-eqb (length s) whole_size l))

-- the zeros that it starts from
pub cleared : (s : List ℕ) → length s ≡ whole_size → {r : Bool} {x : List ℕ} → r ≡ leb (index_at + index_size) (length s)
    → x ≡ put_if r s index_at (replicate index_size 0) → (length x ≡ whole_size) × (table_in x ≡ replicate entries_size 0)
cleared s l {r} {x} p u =
    let z : List ℕ = replicate index_size 0 in
    let lz : length z ≡ index_size = length-replicate {A = ℕ} index_size 0 in
    let a : x ≡ put s index_at z = put_of s index_at z index_size (length s) p (omega arith) u in (
      ap length a ∙ length-put s index_at z (omega arith) ∙ l,
      ap table_in a ∙ sym (take-take entries_size index_size (drop index_at (put s index_at z)) (omega arith))
          ∙ ap (take entries_size)
          (ap (λ (j : ℕ). take j (drop index_at (put s index_at z))) (sym lz) ∙ take_put s index_at z (omega arith)),
    )
