-- Laws of the definitions in Laid.
use Rattle.std.specs.Prelude.{ℕ, zero, suc, ◌+◌, ◌*◌, ◌≤◌, ◌<◌, ◌≡◌, refl, Bool, false, ◌&&◌, length, get_or}
use Rattle.std.proofs.Common.{sym, ◌∙◌, subst, mul-suc, take-append-drop, take_at, drop_at, length-take-le, get_or-take, drop-drop}
use Rattle.std.proofs.Math.Path.{ap}
use Rattle.std.proofs.Math.Bool.{true}
use Rattle.std.proofs.lemmas.Bool.{false≢true}
use mathlib.Core.List.{List, ◌∷◌, ◌++◌, map, append_assoc}
use native.Mathlib.Omega.{arith}
use Rattle.std.proofs.Math.ListN.{take, drop, length-append, length-drop}
use Rattle.std.proofs.Math.Seq.{take-append-le}
use Rattle.std.proofs.lemmas.List.{drop-append-le}
use Rattle.laws.specs.Tests.{sames}
use Rattle.laws.specs.TestsLaws.{and_left, and_right, and_both, sames-eq, sames-refl, eq-sames}
use Rattle.laws.specs.Loops.{keep}
use Rattle.laws.specs.Rows.{rows}
use Rattle.octets.specs.Little.{little}
use Rattle.octets.specs.LittleLaws.{little-take}
use Rattle.model.specs.Types.{Model}
use Rattle.model.specs.Image.{monitor_in, pair_in}
use Rattle.model.specs.Sound.{sound_model}
use Rattle.model.specs.Block.{padded, model_of, sound, in_use, monitor_table, pair_table}
use Rattle.model.specs.Layout.{block_size, count_at, filter_at, monitor_size, monitors_at, most_monitors, most_pairs, opcode_at, pair_size, pairs_at, position_at, prefix_at, prefix_length_at}
use Rattle.blocks.specs.FactsLaws.{sound-facts}
use Rattle.blocks.specs.BoundsLaws.{pairs-fit}
use Rattle.blocks.specs.BlockLaws.{model-eq, held-padded, read_count, padded-length, padded-held, sound-held, sound-padded}
use Rattle.editions.specs.Editions.{Edition, Gateway, sound_editions, sound_gateway, prefix_for}
use Rattle.editions.proofs.FactsLaws.{Parts, parts-of, parts-sound}
use Rattle.editions.specs.Block.{edition_block, editions_of, sound_block}
use Rattle.editions.proofs.BlockLaws.{length-edition_block, editions-in}
use Rattle.wholes.specs.Layout.{index_size, editions_at, whole_size}
use Rattle.wholes.specs.Index.{index_block}
use Rattle.wholes.specs.Heads.{prefix_size, prefix_row}
use Rattle.wholes.specs.HeadsLaws.{prefix_row-one, head-prefix}
use Rattle.wholes.specs.Whole.{held_whole, laid_with, sound_with, whole, sound_whole}
use Rattle.wholes.proofs.SizesLaws.{all_known, length-index_block}
use Rattle.wholes.specs.Laid.{sound_prefixes}

-- rows of a list, whatever stands behind them
pub rows-front : (n k : ℕ) (c t : List ℕ) → n * k ≤ length c → rows n k (c ++ t) ≡ rows n k c
unfolding rows
rows-front n zero c t h = refl
rows-front n (suc k) c t h =
    let e : n * suc k ≡ n * k + n = mul-suc n k in
    rw (take-append-le n c t (omega arith), drop-append-le n c t (omega arith))
    (ap (λ (l : List (List ℕ)). take n c ∷ l) (rows-front n k (drop n c) t (simp length-drop (omega arith))))

-- what a core holds, whatever stands behind it
module _ (c t : List ℕ) (n : length c ≡ block_size) where
  number : (k i : ℕ) → i + k ≤ block_size → little k (c ++ t) i ≡ little k c i
  number k i h = sym (little-take k block_size (c ++ t) i h)
      ∙ ap (λ (l : List ℕ). little k l i) (take_at c t block_size n)

  octet : (i : ℕ) → i < block_size → get_or (c ++ t) i 0 ≡ get_or c i 0
  octet i h = sym (get_or-take block_size (c ++ t) i 0 h) ∙ ap (λ (l : List ℕ). get_or l i 0) (take_at c t block_size n)

  table : (a k m : ℕ) → a + k * m ≤ block_size → rows k m (drop a (c ++ t)) ≡ rows k m (drop a c)
  table a k m h = ap (rows k m) (drop-append-le a c t (omega arith))
      ∙ rows-front k m (drop a c) t (simp length-drop (omega arith))

  pub held-core : get_or c prefix_length_at 0 < 256 → model_of (c ++ t) ≡ model_of c
  unfolding model_of monitor_table pair_table
  held-core h =
      model-eq (model_of c) (number 4 position_at (omega arith)) (octet filter_at (omega arith))
      (number 2 opcode_at (omega arith))
      (ap (λ (k : ℕ). take k (drop prefix_at (c ++ t))) (octet prefix_length_at (omega arith))
      ∙ ap (take (get_or c prefix_length_at 0)) (drop-append-le prefix_at c t (omega arith))
      ∙ take-append-le (get_or c prefix_length_at 0) (drop prefix_at c) t (simp length-drop (omega arith)))
      (ap (λ (l : List (List ℕ)). map monitor_in (keep in_use l))
      (table monitors_at monitor_size most_monitors (omega arith)))
      (ap (λ (k : ℕ). map pair_in (take k (rows pair_size most_pairs (drop pairs_at (c ++ t)))))
      (octet count_at (omega arith))
      ∙ ap (λ (l : List (List ℕ)). map pair_in (take (get_or c count_at 0) l))
      (table pairs_at pair_size most_pairs (omega arith)))

-- the index of a sound state's pairs has its size
pub index-size : (m : Model) → sound_model m ≡ true → length (index_block m.pairs) ≡ index_size
index-size m ok =
    let f = sound-facts m ok in length-index_block m.pairs (all_known m.pairs (pairs-fit m f)) f.pairs-most

-- a block by its parts
module _ (c x t : List ℕ) (n : length c ≡ block_size) (k : length x ≡ index_size) where
  front_long : length (c ++ x) ≡ editions_at
  front_long = length-append c x ∙ omega arith

  pub parts-core : take block_size ((c ++ x) ++ t) ≡ c
  parts-core = ap (take block_size) (append_assoc c x t) ∙ take_at c (x ++ t) block_size n

  pub parts-behind : drop block_size ((c ++ x) ++ t) ≡ x ++ t
  parts-behind = ap (drop block_size) (append_assoc c x t) ∙ drop_at c (x ++ t) block_size n

  pub parts-index : take index_size (drop block_size ((c ++ x) ++ t)) ≡ x
  parts-index = ap (take index_size) parts-behind ∙ take_at x t index_size k

  pub parts-editions : drop editions_at ((c ++ x) ++ t) ≡ t
  parts-editions = drop_at (c ++ x) t editions_at front_long

  pub parts_held : get_or c prefix_length_at 0 < 256 → model_of ((c ++ x) ++ t) ≡ model_of c
  parts_held h = ap model_of (append_assoc c x t) ∙ held-core c (x ++ t) n h

-- the block of a state with a sound core and sound editions, with an index of the right size
module _ (g : Gateway) (x : List ℕ) (ok : sound_model g.core ≡ true) (es : sound_editions g.editions ≡ true)
    (n : length x ≡ index_size) where
  abbrev m : Model
  m = g.core

  size : length (padded m) ≡ block_size
  size = padded-length m ok

  pub laid-length : length (laid_with x g) ≡ whole_size
  unfolding laid_with
  laid-length =
      let a = size in let b = length-edition_block g.editions es in let c = length-append (padded m) x in
      length-append (padded m ++ x) (edition_block g.editions) ∙ omega arith

  pub laid-core : take block_size (laid_with x g) ≡ padded m
  unfolding laid_with
  laid-core = parts-core (padded m) x (edition_block g.editions) size n

  pub laid-behind : drop block_size (laid_with x g) ≡ x ++ edition_block g.editions
  unfolding laid_with
  laid-behind = parts-behind (padded m) x (edition_block g.editions) size n

  pub laid-index : take index_size (drop block_size (laid_with x g)) ≡ x
  unfolding laid_with
  laid-index = parts-index (padded m) x (edition_block g.editions) size n

  pub laid-editions : drop editions_at (laid_with x g) ≡ edition_block g.editions
  unfolding laid_with
  laid-editions = parts-editions (padded m) x (edition_block g.editions) size n

  pub laid-held : model_of (laid_with x g) ≡ m
  unfolding laid_with
  laid-held =
      let f = sound-facts m ok in let e = read_count m in
      parts_held (padded m) x (edition_block g.editions) size n (omega (arith, f.prefix-most)) ∙ held-padded m ok

  pub held-laid : held_whole (laid_with x g) ≡ g
  unfolding held_whole
  held-laid =
      ap (λ (k : Model). record { core = k; editions = editions_of (drop editions_at (laid_with x g)) }) laid-held
      ∙ ap (λ (l : List Edition). record { core = m; editions = l })
      (ap editions_of laid-editions ∙ editions-in g.editions es)

-- the block of a sound state
module _ (g : Gateway) (good : sound_gateway g ≡ true) where
  p : Parts g
  p = parts-of g good

  pub held_with : (x : List ℕ) → length x ≡ index_size → held_whole (laid_with x g) ≡ g
  held_with x n = held-laid g x p.core p.editions n

  pub sound-laid : (x : List ℕ) → length x ≡ index_size → sound_with x (laid_with x g) ≡ true
  unfolding sound_with
  sound-laid x n = rw (held_with x n) (and_both good (sames-refl (laid_with x g)))

  pub state-index : length (index_block g.core.pairs) ≡ index_size
  state-index = index-size g.core p.core

  pub whole_length : length (whole g) ≡ whole_size
  unfolding whole
  whole_length = laid-length g (index_block g.core.pairs) p.core p.editions state-index

  pub whole-core : take block_size (whole g) ≡ padded g.core
  unfolding whole
  whole-core = laid-core g (index_block g.core.pairs) p.core p.editions state-index

  pub held_whole_lem : held_whole (whole g) ≡ g
  unfolding whole
  held_whole_lem = held_with (index_block g.core.pairs) state-index

  pub core-whole : model_of (whole g) ≡ g.core
  unfolding whole
  core-whole = laid-held g (index_block g.core.pairs) p.core p.editions state-index

  pub sound-whole : sound_whole (whole g) ≡ true
  unfolding sound_whole whole
  sound-whole =
      ap (λ (k : Model). sound_with (index_block k.pairs) (laid_with (index_block g.core.pairs) g)) core-whole
      ∙ sound-laid (index_block g.core.pairs) state-index

-- a sound block, with an index x
module _ (x s : List ℕ) (e : sound_with x s ≡ true) where
  pub with-good : sound_gateway (held_whole s) ≡ true
  unfolding sound_with
  with-good = and_left (sound_gateway (held_whole s)) (sames (laid_with x (held_whole s)) s) e

  pub with-held : laid_with x (held_whole s) ≡ s
  unfolding sound_with
  with-held = sames-eq (laid_with x (held_whole s)) s
      (and_right (sound_gateway (held_whole s)) (sames (laid_with x (held_whole s)) s) e)

-- a sound block
module _ (s : List ℕ) (e : sound_whole s ≡ true) where
  pub whole-good : sound_gateway (held_whole s) ≡ true
  unfolding sound_whole
  whole-good = with-good (index_block (model_of s).pairs) s e

  parts : Parts (held_whole s)
  parts = parts-of (held_whole s) whole-good

  pub core-good : sound_model (model_of s) ≡ true
  unfolding held_whole
  core-good = parts.core

  pub whole-held : whole (held_whole s) ≡ s
  unfolding sound_whole whole held_whole
  whole-held = with-held (index_block (model_of s).pairs) s e

  pub sound-size : length s ≡ whole_size
  sound-size = ap (λ (l : List ℕ). length l) (sym whole-held) ∙ whole_length (held_whole s) whole-good

  pub core_is : take block_size s ≡ padded (model_of s)
  unfolding held_whole
  core_is = ap (take block_size) (sym whole-held) ∙ whole-core (held_whole s) whole-good

  pub index_is : take index_size (drop block_size s) ≡ index_block (model_of s).pairs
  unfolding whole held_whole
  index_is =
      ap (λ (l : List ℕ). take index_size (drop block_size l)) (sym whole-held)
      ∙ laid-index (held_whole s) (index_block (model_of s).pairs) parts.core parts.editions
      (state-index (held_whole s) whole-good)

  pub editions-is : drop editions_at s ≡ edition_block (editions_of (drop editions_at s))
  unfolding whole held_whole
  editions-is =
      ap (drop editions_at) (sym whole-held)
      ∙ laid-editions (held_whole s) (index_block (model_of s).pairs) parts.core parts.editions
      (state-index (held_whole s) whole-good)

  pub core-sound : sound (take block_size s) ≡ true
  core-sound = ap sound core_is ∙ sound-padded (model_of s) core-good

  -- its own index, as the engine with an index that no frame moves has it
  pub sound-own : sound_with (take index_size (drop block_size s)) s ≡ true
  unfolding sound_whole
  sound-own = ap (λ (x : List ℕ). sound_with x s) index_is ∙ e

-- of a core that is that of its state
head_of : (m : Model) (c x : List ℕ) → sound_model m ≡ true → c ≡ padded m
    → take prefix_size (drop prefix_length_at (c ++ x)) ≡ prefix_row m.prefix
head_of m c x ok e =
    let f = sound-facts m ok in
    let l : length c ≡ block_size = ap length e ∙ padded-length m ok in
    ap (take prefix_size) (drop-append-le prefix_length_at c x (omega arith))
    ∙ take-append-le prefix_size (drop prefix_length_at c) x (simp length-drop (omega arith))
    ∙ ap (λ (y : List ℕ). take prefix_size (drop prefix_length_at y)) e ∙ head-prefix m f.prefix-most

own-head : (s : List ℕ) (m : Model) → sound_model m ≡ true → take block_size s ≡ padded m
    → take prefix_size (drop prefix_length_at s) ≡ prefix_row m.prefix
own-head s m ok e =
    ap (λ (y : List ℕ). take prefix_size (drop prefix_length_at y)) (sym (take-append-drop block_size s))
    ∙ head_of m (take block_size s) (drop block_size s) ok e

pub prefixes-sound : (s : List ℕ) → sound_whole s ≡ true → sound_prefixes s ≡ true
unfolding sound_prefixes held_whole sound_block
prefixes-sound s e =
    let p : Parts (held_whole s) = parts-of (held_whole s) (whole-good s e) in
    let es : List Edition = editions_of (drop editions_at s) in
    and_both (and_both p.editions (eq-sames (edition_block es) (drop editions_at s) (sym (editions-is s e))))
    (eq-sames (take prefix_size (drop prefix_length_at s)) (prefix_row (prefix_for (model_of s).position es))
    (own-head s (model_of s) (core-good s e) (core_is s e) ∙ ap prefix_row p.force))

-- any block of octets: what its core holds it holds, and it is sound where its core is, its index is that of the
-- pairs, and its editions are
module _ (s : List ℕ) (l : length s ≡ whole_size) (o : get_or s prefix_length_at 0 < 256) where
  core-long : length (take block_size s) ≡ block_size
  core-long = length-take-le block_size s (omega arith)

  pub core-holds : model_of (take block_size s) ≡ model_of s
  core-holds =
      sym (held-core (take block_size s) (drop block_size s) core-long
      (subst (λ (k : ℕ). k < 256) (sym (get_or-take block_size s prefix_length_at 0 (omega arith))) o))
      ∙ ap model_of (take-append-drop block_size s)

  -- the block is its three parts
  pub three : (take block_size s ++ take index_size (drop block_size s)) ++ drop editions_at s ≡ s
  three =
      append_assoc (take block_size s) (take index_size (drop block_size s)) (drop editions_at s)
      ∙ ap (λ (t : List ℕ). take block_size s ++ (take index_size (drop block_size s) ++ t))
      (sym (drop-drop index_size block_size s))
      ∙ ap (λ (t : List ℕ). take block_size s ++ t) (take-append-drop index_size (drop block_size s))
      ∙ take-append-drop block_size s

  pub sound-both : sound (take block_size s) ≡ true
      → sames (index_block (model_of s).pairs) (take index_size (drop block_size s)) ≡ true
      → sound_prefixes s ≡ true → sound_whole s ≡ true
  unfolding sound_whole sound_with laid_with held_whole sound_prefixes sound_block
  sound-both c i e =
      let es : List Edition = editions_of (drop editions_at s) in
      let g : sound_model (model_of s) ≡ true = ap sound_model (sym core-holds) ∙ sound-held (take block_size s) c in
      let p : padded (model_of s) ≡ take block_size s = ap padded (sym core-holds) ∙ padded-held (take block_size s) c in
      let q : index_block (model_of s).pairs ≡ take index_size (drop block_size s) =
      sames-eq (index_block (model_of s).pairs) (take index_size (drop block_size s)) i in
      let b = and_left (sound_editions es && sames (edition_block es) (drop editions_at s))
      (sames (take prefix_size (drop prefix_length_at s)) (prefix_row (prefix_for (model_of s).position es))) e in
      let f = and_right (sound_editions es && sames (edition_block es) (drop editions_at s))
      (sames (take prefix_size (drop prefix_length_at s)) (prefix_row (prefix_for (model_of s).position es))) e in
      let r : edition_block es ≡ drop editions_at s =
      sames-eq (edition_block es) (drop editions_at s)
      (and_right (sound_editions es) (sames (edition_block es) (drop editions_at s)) b) in
      let w : (padded (model_of s) ++ index_block (model_of s).pairs) ++ edition_block es ≡ s =
      ap (λ (y : List ℕ). (y ++ index_block (model_of s).pairs) ++ edition_block es) p
      ∙ ap (λ (y : List ℕ). (take block_size s ++ y) ++ edition_block es) q
      ∙ ap (λ (y : List ℕ). (take block_size s ++ take index_size (drop block_size s)) ++ y) r ∙ three in
      and_both
      (parts-sound (record { core = model_of s; editions = es }) (record {
        core = g;
        editions = and_left (sound_editions es) (sames (edition_block es) (drop editions_at s)) b;
        force = prefix_row-one (model_of s).prefix (prefix_for (model_of s).position es)
            (sym (own-head s (model_of s) g (sym p))
            ∙ sames-eq (take prefix_size (drop prefix_length_at s)) (prefix_row (prefix_for (model_of s).position es)) f);
      }))
      (eq-sames ((padded (model_of s) ++ index_block (model_of s).pairs) ++ edition_block es) s w)

  not_sound : (sound_whole s ≡ true → ⊥) → sound_whole s ≡ false
  not_sound f = go (sound_whole s) refl
    where
      go : (b : Bool) → sound_whole s ≡ b → b ≡ false
      go false e = refl
      go true e = absurd (f e)

  pub unsound-core : sound (take block_size s) ≡ false → sound_whole s ≡ false
  unsound-core c = not_sound (λ e. false≢true (sym c ∙ core-sound s e))

  pub unsound-index : sames (index_block (model_of s).pairs) (take index_size (drop block_size s)) ≡ false
      → sound_whole s ≡ false
  unsound-index i =
      not_sound (λ e. false≢true
      (sym i ∙ eq-sames (index_block (model_of s).pairs) (take index_size (drop block_size s)) (sym (index_is s e))))

  pub unsound-prefixes : sound_prefixes s ≡ false → sound_whole s ≡ false
  unsound-prefixes i = not_sound (λ e. false≢true (sym i ∙ prefixes-sound s e))
