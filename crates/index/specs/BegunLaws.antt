-- Laws of the definitions in Begun.
use Rattle.std.specs.Prelude.{ℕ, ◌+◌, ◌-◌, ◌*◌, ◌≤◌, ◌≡◌, refl, Bool, true, false, ◌&&◌, leb}
use Rattle.std.proofs.Math.Path.{sym, ap}
use Rattle.std.proofs.Common.{◌∙◌, zero-add, arith, leb-true, eq-eqb, ne_eqb}
use mathlib.Core.List.{List, [], ◌∷◌, ◌++◌, append-nil, append_assoc}
use lib.ListN.{length, take, drop, set, replicate, length-append, length-replicate, replicate-append-replicate}
use Rattle.laws.specs.Put.{put, put_if}
use Rattle.laws.specs.PutLaws.{put_of, put-left, put_right, set-put, length-put}
use Rattle.laws.specs.Tests.{pick}
use Rattle.laws.specs.TestsLaws.{pick_true, pick-false, and_left, and_right}
use Rattle.laws.specs.Loops.{every}
use Rattle.laws.specs.Rows.{flat}
use Rattle.laws.specs.RowsLaws.{put_whole}
use Rattle.octets.specs.Little.{is_octet, octets_of}
use Rattle.blocks.specs.BlockLaws.{length-padded}
use Rattle.model.specs.Types.{Model, fresh, blank}
use Rattle.model.specs.Sound.{sound_settings, octets_up_to}
use Rattle.model.specs.Block.{padded}
use Rattle.model.specs.Engine.{begin as begin_core}
use Rattle.state.specs.Start.{fresh_in, blank_in as core_blank}
use Rattle.state.specs.StartLaws.{fresh-is, blank-is as core-blank}
use Rattle.model.specs.Layout.{block_size, most_prefix, prefix_length_at}
use Rattle.editions.specs.Editions.{fresh_on, most_editions}
use Rattle.editions.specs.Block.{edition_size, edition_count_at, editions_size, edition_block}
use Rattle.editions.specs.Table.{table_of}
use Rattle.wholes.specs.Layout.{editions_at, editions_count_at, index_size, whole_size}
use Rattle.wholes.specs.Heads.{prefix_size, prefix_row}
use Rattle.wholes.specs.HeadsLaws.{length-prefix_row, padded-edition, head-prefix}
use Rattle.wholes.specs.Index.{entry_table, index_block, index_of, noted_all}
use Rattle.wholes.specs.Whole.{laid_with, whole}
use Rattle.wholes.specs.Engine.{begin, blank_on}
use Rattle.index.specs.Begun.{first_in, begun_block, blank_in}

-- no pairs: zeros
pub none-index : index_block [] ≡ replicate index_size 0
unfolding index_block entry_table index_of noted_all flat
none-index = refl

-- a core at the start of zeros, its prefix as the first edition, and the number of editions
unfoldable pub begun_with : List ℕ → List ℕ
begun_with c =
    put (put (put (replicate whole_size 0) 0 c) (editions_at + 4) (take prefix_size (drop prefix_length_at c)))
    editions_count_at (1 ∷ [])

-- one edition from 0 on, written into zeros
module _ (p : List ℕ) (h : length p ≤ most_prefix) where
  abbrev h33 : List ℕ
  h33 = prefix_row p

  abbrev rest : List ℕ
  rest = replicate (edition_size * (most_editions - 1)) 0

  one_block : edition_block (record { from = 0; prefix = p } ∷ []) ≡ (replicate 4 0 ++ h33) ++ (rest ++ (1 ∷ []))
  unfolding edition_block table_of flat octets_of
  one_block =
      ap (λ (l : List ℕ). ((l ++ []) ++ rest) ++ (1 ∷ [])) (padded-edition (record { from = 0; prefix = p }) h)
      ∙ ap (λ (l : List ℕ). (l ++ rest) ++ (1 ∷ [])) (append-nil (replicate 4 0 ++ h33))
      ∙ append_assoc (replicate 4 0 ++ h33) rest (1 ∷ [])

  zeros-parts : replicate {A = ℕ} editions_size 0 ≡ replicate 4 0 ++ (replicate prefix_size 0 ++ (rest ++ (0 ∷ [])))
  zeros-parts = refl

  first-in : put (replicate editions_size 0) 4 h33 ≡ (replicate 4 0 ++ h33) ++ (rest ++ (0 ∷ []))
  first-in =
      let n = length-prefix_row p h in
      ap (λ (l : List ℕ). put l 4 h33) zeros-parts
      ∙ put_right (replicate 4 0) (replicate prefix_size 0 ++ (rest ++ (0 ∷ []))) 0 h33
      ∙ ap (λ (l : List ℕ). replicate 4 0 ++ l)
      (put-left (replicate prefix_size 0) (rest ++ (0 ∷ [])) 0 h33 (omega arith))
      ∙ ap (λ (l : List ℕ). replicate 4 0 ++ (l ++ (rest ++ (0 ∷ []))))
      (put_whole (replicate prefix_size 0) h33 (omega arith))
      ∙ sym (append_assoc (replicate 4 0) h33 (rest ++ (0 ∷ [])))

  counted : put ((replicate 4 0 ++ h33) ++ (rest ++ (0 ∷ []))) edition_count_at (1 ∷ []) ≡ (replicate 4 0 ++ h33)
      ++ (rest ++ (1 ∷ []))
  counted =
      let n = length-prefix_row p h in
      let a : length (replicate 4 0 ++ h33) ≡ edition_size = length-append (replicate 4 0) h33 ∙ omega arith in
      let r : length rest ≡ edition_size * (most_editions - 1) =
      length-replicate {A = ℕ} (edition_size * (most_editions - 1)) 0 in
      let k : length (replicate 4 0 ++ h33) + (length rest + 0) ≡ edition_count_at = omega arith in
      ap (λ (i : ℕ). put ((replicate 4 0 ++ h33) ++ (rest ++ (0 ∷ []))) i (1 ∷ [])) (sym k)
      ∙ put_right (replicate 4 0 ++ h33) (rest ++ (0 ∷ [])) (length rest + 0) (1 ∷ [])
      ∙ ap (λ (l : List ℕ). (replicate 4 0 ++ h33) ++ l) (put_right rest (0 ∷ []) 0 (1 ∷ []))
      ∙ ap (λ (l : List ℕ). (replicate 4 0 ++ h33) ++ (rest ++ l)) (put_whole (0 ∷ []) (1 ∷ []) refl)

  pub one-edition : put (put (replicate editions_size 0) 4 h33) edition_count_at (1 ∷ [])
      ≡ edition_block (record { from = 0; prefix = p } ∷ [])
  one-edition = ap (λ (l : List ℕ). put l edition_count_at (1 ∷ [])) first-in ∙ counted ∙ sym one_block

-- the whole block of a fresh state
pub whole_fresh : (m : Model) (c : List ℕ) → m.pairs ≡ [] → length m.prefix ≤ most_prefix → length c ≡ block_size
    → c ≡ padded m
    → begun_with c ≡ whole (record { core = m; editions = record { from = 0; prefix = m.prefix } ∷ [] })
unfolding begun_with whole laid_with
whole_fresh m c e h n p =
    let z : List ℕ = replicate index_size 0 in
    let t : List ℕ = replicate editions_size 0 in
    let q : take prefix_size (drop prefix_length_at c) ≡ prefix_row m.prefix =
    ap (λ (l : List ℕ). take prefix_size (drop prefix_length_at l)) p ∙ head-prefix m h in
    let w : replicate {A = ℕ} whole_size 0 ≡ replicate block_size 0 ++ (z ++ t) =
    sym (ap (λ (l : List ℕ). replicate block_size 0 ++ l) (replicate-append-replicate index_size editions_size 0)
    ∙ replicate-append-replicate block_size (index_size + editions_size) 0) in
    let b : length (replicate {A = ℕ} block_size 0) ≡ block_size = length-replicate {A = ℕ} block_size 0 in
    let i : put (replicate whole_size 0) 0 c ≡ c ++ (z ++ t) =
    ap (λ (l : List ℕ). put l 0 c) w ∙ put-left (replicate block_size 0) (z ++ t) 0 c (omega arith)
    ∙ ap (λ (l : List ℕ). l ++ (z ++ t)) (put_whole (replicate block_size 0) c (omega arith)) ∙ refl in
    let f : length (c ++ z) ≡ editions_at = let k : length z ≡ index_size =
    length-replicate {A = ℕ} index_size 0 in length-append c z ∙ omega arith in
    let inside : (l ys : List ℕ) (k : ℕ) → put ((c ++ z) ++ l) (editions_at + k) ys ≡ (c ++ z) ++ put l k ys =
    λ l ys k. ap (λ (j : ℕ). put ((c ++ z) ++ l) (j + k) ys) (sym f) ∙ put_right (c ++ z) l k ys in
    ap (λ (l : List ℕ). put (put l (editions_at + 4) (take prefix_size (drop prefix_length_at c))) editions_count_at
    (1 ∷ [])) (i ∙ sym (append_assoc c z t))
    ∙ ap (λ (l : List ℕ). put (put ((c ++ z) ++ t) (editions_at + 4) l) editions_count_at (1 ∷ [])) q
    ∙ ap (λ (l : List ℕ). put l editions_count_at (1 ∷ [])) (inside t (prefix_row m.prefix) 4)
    ∙ inside (put t 4 (prefix_row m.prefix)) (1 ∷ []) edition_count_at
    ∙ ap (λ (l : List ℕ). (c ++ z) ++ l) (one-edition m.prefix h)
    ∙ ap (λ (l : List ℕ). (l ++ z) ++ edition_block (record { from = 0; prefix = m.prefix } ∷ [])) p
    ∙ ap (λ (l : List ℕ). (padded m ++ l) ++ edition_block (record { from = 0; prefix = m.prefix } ∷ []))
    (sym (ap index_block e ∙ none-index))

-- the length of such a core
pub fresh-long : (opcode : ℕ) (prefix : List ℕ) → length prefix ≤ most_prefix
    → length (padded (fresh opcode prefix)) ≡ block_size
unfolding fresh
fresh-long opcode prefix h =
    length-padded (fresh opcode prefix)
    (record { prefix-most = h; short = tt; fit = tt; pairs-most = omega arith })

settings-short : (opcode : ℕ) (prefix : List ℕ) → sound_settings opcode prefix ≡ true → length prefix ≤ most_prefix
unfolding sound_settings octets_up_to
settings-short opcode prefix e =
    leb-true (length prefix) most_prefix (and_left (leb (length prefix) most_prefix) (every is_octet prefix)
    (and_right (leb 0xFC00 opcode && leb opcode 0xFFFF) (leb (length prefix) most_prefix && every is_octet prefix) e))

blank-long : length (padded blank) ≡ block_size
unfolding blank
blank-long = fresh-long 0xFC00 [] (omega arith)

pub blank-whole : (c : List ℕ) → c ≡ padded blank → begun_with c ≡ whole blank_on
unfolding blank blank_on fresh_on fresh
blank-whole c e =
    whole_fresh (fresh 0xFC00 []) c refl (omega arith) (ap length e ∙ fresh-long 0xFC00 [] (omega arith)) e

pub begun-whole : (opcode : ℕ) (prefix c : List ℕ) → c ≡ begin_core opcode prefix → begun_with c ≡ begin opcode prefix
unfolding begin_core begin fresh_on fresh
begun-whole opcode prefix c e = go (sound_settings opcode prefix) refl e
  where
    go : (b : Bool) → sound_settings opcode prefix ≡ b → c ≡ pick b (padded (fresh opcode prefix)) (padded blank)
        → begun_with c ≡ pick b (whole (fresh_on opcode prefix)) (whole blank_on)
    go true s f =
        let g : c ≡ padded (fresh opcode prefix) = f ∙ pick_true (padded (fresh opcode prefix)) (padded blank) refl in
        let k : length prefix ≤ most_prefix = settings-short opcode prefix s in
        whole_fresh (fresh opcode prefix) c refl k (ap length g ∙ fresh-long opcode prefix k) g
        ∙ sym (pick_true (whole (fresh_on opcode prefix)) (whole blank_on) refl)
    go false s f =
        blank-whole c (f ∙ pick-false (padded (fresh opcode prefix)) (padded blank) refl)
        ∙ sym (pick-false (whole (fresh_on opcode prefix)) (whole blank_on) refl)

begin-long : (opcode : ℕ) (prefix : List ℕ) → length (begin_core opcode prefix) ≡ block_size
unfolding begin_core
begin-long opcode prefix = go (sound_settings opcode prefix) refl
  where
    go : (b : Bool) → sound_settings opcode prefix ≡ b
        → length (pick b (padded (fresh opcode prefix)) (padded blank)) ≡ block_size
    go true s = ap length (pick_true (padded (fresh opcode prefix)) (padded blank) refl)
        ∙ fresh-long opcode prefix (settings-short opcode prefix s)
    go false s = ap length (pick-false (padded (fresh opcode prefix)) (padded blank) refl) ∙ blank-long

pub first-put : (s : List ℕ) (k : ℕ) {r v : Bool} {a b : List ℕ} → length s ≡ whole_size → k ≡ prefix_size
    → r ≡ leb (0 + length (take k (drop prefix_length_at s))) prefix_size
    → a ≡ put_if r (replicate prefix_size 0) 0 (take k (drop prefix_length_at s))
    → v ≡ leb (editions_at + 4 + length a) (length s) → b ≡ put_if v s (editions_at + 4) a
    → set b editions_count_at 1 ≡ first_in s
unfolding first_in
first-put s k {r} {v} {a} {b} n e q w x y =
    let p : List ℕ = take k (drop prefix_length_at s) in
    let z : length (replicate {A = ℕ} prefix_size 0) ≡ prefix_size = length-replicate {A = ℕ} prefix_size 0 in
    let m : length p ≡ prefix_size =
    ap (λ (j : ℕ). length (take j (drop prefix_length_at s))) e
    ∙ lib.Seq.length-take-le prefix_size (drop prefix_length_at s) (simp lib.ListN.length-drop (omega arith)) in
    let i : a ≡ p = put_of (replicate prefix_size 0) 0 p (length p) prefix_size q (omega arith) w
    ∙ put_whole (replicate prefix_size 0) p (z ∙ sym m) in
    let la : length a ≡ prefix_size = ap length i ∙ m in
    let j : b ≡ put s (editions_at + 4) a = put_of s (editions_at + 4) a (length a) (length s) x (omega arith) y in
    let o : length b ≡ whole_size = ap length j ∙ length-put s (editions_at + 4) a (omega arith) ∙ n in
    set-put b editions_count_at 1 (omega arith)
    ∙ ap (λ (t : List ℕ). put t editions_count_at (1 ∷ []))
    (j ∙ ap (put s (editions_at + 4)) (i ∙ ap (λ (h : ℕ). take h (drop prefix_length_at s)) e))

-- .. over a core that was begun in zeros
pub first-begun : (c : List ℕ) → length c ≡ block_size
    → first_in (c ++ drop block_size (replicate whole_size 0)) ≡ begun_with c
unfolding first_in begun_with put
first-begun c n =
    let z : List ℕ = drop block_size (replicate whole_size 0) in
    let a : c ++ z ≡ c ++ drop {A = ℕ} (0 + length c) (replicate whole_size 0) =
    ap (λ (k : ℕ). c ++ drop k (replicate whole_size 0)) (sym n ∙ sym (zero-add (length c))) in
    let p : take prefix_size (drop prefix_length_at (c ++ z)) ≡ take prefix_size (drop prefix_length_at c) =
    ap (take prefix_size) (lib.Seq.drop-append-le prefix_length_at c z (omega arith))
    ∙ lib.Seq.take-append-le prefix_size (drop prefix_length_at c) z (simp lib.ListN.length-drop (omega arith)) in
    ap (λ (x : List ℕ). put (put (c ++ z) (editions_at + 4) x) editions_count_at (1 ∷ [])) p
    ∙ ap (λ (x : List ℕ). put (put x (editions_at + 4) (take prefix_size (drop prefix_length_at c))) editions_count_at
    (1 ∷ [])) a

zeros-in : (s : List ℕ) {b : Bool} {z : List ℕ} → length s ≡ whole_size → b ≡ leb (0 + whole_size) (length s)
    → z ≡ put_if b s 0 (replicate whole_size 0)
    → z ≡ replicate whole_size 0
zeros-in s n x q =
    let lz : length (replicate {A = ℕ} whole_size 0) ≡ whole_size = length-replicate {A = ℕ} whole_size 0 in
    put_of s 0 (replicate whole_size 0) whole_size (length s) x (omega arith) q
    ∙ put_whole s (replicate whole_size 0) (n ∙ sym lz)

module _ (s : List ℕ) where
  pub blank-not : (length s ≡ whole_size → ⊥) → s ≡ blank_in s
  unfolding blank_in
  blank-not h = sym (pick-false (whole blank_on) s (ne_eqb (length s) whole_size h))

  pub blank-is : length s ≡ whole_size → blank_in s ≡ whole blank_on
  unfolding blank_in
  blank-is h = pick_true (whole blank_on) s (eq-eqb (length s) whole_size h)

  pub blank-in : {b : Bool} {z c u w : List ℕ} → length s ≡ whole_size → b ≡ leb (0 + whole_size) (length s)
      → z ≡ put_if b s 0 (replicate whole_size 0)
      → c ≡ core_blank (take block_size z) → u ≡ c ++ drop block_size z → w ≡ first_in u → w ≡ blank_in s
  blank-in {b} {z} {c} {u} {w} n x q e i f =
      let y : z ≡ replicate whole_size 0 = zeros-in s n x q in
      let lz : length z ≡ whole_size = ap length y ∙ length-replicate {A = ℕ} whole_size 0 in
      let k : c ≡ padded blank = e ∙ core-blank (take block_size z)
      (lib.Seq.length-take-le block_size z (omega arith)) in
      let l : length c ≡ block_size = ap length k ∙ blank-long in
      f ∙ ap first_in (i ∙ ap (λ (t : List ℕ). c ++ drop block_size t) y) ∙ first-begun c l ∙ blank-whole c k
      ∙ sym (blank-is n)

  pub begun-not : (opcode : ℕ) (prefix : List ℕ) → (length s ≡ whole_size → ⊥) → s ≡ begun_block s opcode prefix
  unfolding begun_block
  begun-not opcode prefix h = sym (pick-false (begin opcode prefix) s (ne_eqb (length s) whole_size h))

  pub begun-is : (opcode : ℕ) (prefix : List ℕ) → length s ≡ whole_size
      → begun_block s opcode prefix ≡ begin opcode prefix
  unfolding begun_block
  begun-is opcode prefix h = pick_true (begin opcode prefix) s (eq-eqb (length s) whole_size h)

  pub begun-in : (opcode : ℕ) (prefix : List ℕ) {b : Bool} {z c u w : List ℕ} → length s ≡ whole_size
      → b ≡ leb (0 + whole_size) (length s)
      → z ≡ put_if b s 0 (replicate whole_size 0) → c ≡ fresh_in (take block_size z) opcode prefix
      → u ≡ c ++ drop block_size z → w ≡ first_in u → w ≡ begun_block s opcode prefix
  begun-in opcode prefix {b} {z} {c} {u} {w} n x q e i f =
      let y : z ≡ replicate whole_size 0 = zeros-in s n x q in
      let lz : length z ≡ whole_size = ap length y ∙ length-replicate {A = ℕ} whole_size 0 in
      let k : c ≡ begin_core opcode prefix =
      e ∙ fresh-is (take block_size z) opcode prefix (lib.Seq.length-take-le block_size z (omega arith)) in
      let l : length c ≡ block_size = ap length k ∙ begin-long opcode prefix in
      f ∙ ap first_in (i ∙ ap (λ (t : List ℕ). c ++ drop block_size t) y) ∙ first-begun c l
      ∙ begun-whole opcode prefix c k ∙ sym (begun-is opcode prefix n)
