-- Settings and editions as a fresh state has them: of a start, and after an edition more. Document 02, T-07, T-12.
-- Assumes nothing.
use Rattle.std.specs.Prelude.{ℕ, zero, suc, ◌-◌, ◌≡◌, Bool, true, ◌&&◌, List, [], ◌++◌, eqb, length, take, drop, get_or, replicate}
use Rattle.std.proofs.Math.Path.{refl, ap}
use Rattle.std.proofs.Common.{sym, ◌∙◌, subst, append_assoc, arith, eqb-true, eq-eqb, length-append, take_at, drop_at, get_or-take}
use Rattle.laws.specs.TestsLaws.{and_left, and_right, and_both}
use Rattle.laws.specs.Loops.{every}
use Rattle.laws.specs.LoopsLaws.{every_append}
use Rattle.octets.specs.Little.{little}
use Rattle.octets.specs.LittleLaws.{little-take}
use Rattle.parts.specs.Parts.{is_zero}
use Rattle.model.specs.Types.{Model, fresh, with_lists}
use Rattle.model.specs.Image.{head_row}
use Rattle.model.specs.Sound.{sound_model, sound_settings}
use Rattle.model.specs.Block.{model_of, pad_to, padded}
use Rattle.model.specs.Layout.{block_size, body_size, filter_at, head_size, monitors_at, position_at}
use Rattle.blocks.specs.FactsLaws.{sound-facts}
use Rattle.blocks.specs.BlockLaws.{length-head, padded-length}
use Rattle.blocks.specs.LaidLaws.{empty-padded}
use Rattle.editions.specs.Editions.{Gateway, fresh_on, sound_gateway}
use Rattle.editions.proofs.FactsLaws.{Parts, parts-of}
use Rattle.editions.specs.Block.{edition_block}
use Rattle.wholes.specs.Layout.{editions_at, index_size}
use Rattle.wholes.specs.Index.{index_block}
use Rattle.wholes.specs.Whole.{laid_with, sound_whole, whole}
use Rattle.wholes.proofs.LaidLaws.{core-whole, sound-whole, state-index}
use Rattle.index.specs.BegunLaws.{none-index}
use Rattle.failover.proofs.Proved.{fresh-gateway}
use Rattle.twin.specs.TableLaws.{drop-take-by}
use Rattle.twin.specs.Block.{fresh_in}

-- the tests behind that of the whole block
module _ (h : List ℕ) where
  abbrev zeros : Bool
  zeros = every is_zero (take (editions_at - monitors_at) (drop monitors_at h))

  pub fresh_holds : sound_whole h ≡ true → little 4 h position_at ≡ 0 → get_or h filter_at 0 ≡ 0 → zeros ≡ true
      → fresh_in h ≡ true
  unfolding fresh_in
  fresh_holds s p f z =
      and_both s (and_both (and_both (eq-eqb (little 4 h position_at) 0 p) (eq-eqb (get_or h filter_at 0) 0 f)) z)

  module _ (e : fresh_in h ≡ true) where
    abbrev p : Bool
    p = eqb (little 4 h position_at) 0

    abbrev f : Bool
    f = eqb (get_or h filter_at 0) 0

    tests : (p && f && zeros) ≡ true
    unfolding fresh_in
    tests = and_right (sound_whole h) (p && f && zeros) e

    pub fresh-position : little 4 h position_at ≡ 0
    fresh-position = eqb-true (little 4 h position_at) 0 (and_left p f (and_left (p && f) zeros tests))

    pub fresh-filter : get_or h filter_at 0 ≡ 0
    fresh-filter = eqb-true (get_or h filter_at 0) 0 (and_right p f (and_left (p && f) zeros tests))

    pub fresh-zeros : zeros ≡ true
    fresh-zeros = and_right (p && f) zeros tests

-- a block with the same octets before the editions
cut : (h : List ℕ) → take (editions_at - monitors_at) (drop monitors_at h) ≡ drop monitors_at (take editions_at h)
cut h = sym (drop-take-by editions_at monitors_at h)

pub fresh-front : (h k : List ℕ) → take editions_at k ≡ take editions_at h → fresh_in h ≡ true → sound_whole k ≡ true
    → fresh_in k ≡ true
fresh-front h k q e s =
    fresh_holds k s
    (sym (little-take 4 editions_at k position_at (omega arith)) ∙ ap (λ (l : List ℕ). little 4 l position_at) q
    ∙ little-take 4 editions_at h position_at (omega arith)
    ∙ fresh-position h e)
    (sym (get_or-take editions_at k filter_at 0 (omega arith)) ∙ ap (λ (l : List ℕ). get_or l filter_at 0) q
    ∙ get_or-take editions_at h filter_at 0 (omega arith)
    ∙ fresh-filter h e)
    (ap (every is_zero) (cut k ∙ ap (drop monitors_at) q ∙ sym (cut h)) ∙ fresh-zeros h e)

-- the octets before the editions of a sound state's whole block
pub front-whole : (g : Gateway) → sound_gateway g ≡ true → take editions_at (whole g) ≡ padded g.core
    ++ index_block g.core.pairs
unfolding whole laid_with
front-whole g s =
    let p : Parts g = parts-of g s in
    let c : length (padded g.core) ≡ block_size = padded-length g.core p.core in
    let i : length (index_block g.core.pairs) ≡ index_size = state-index g s in
    let n : length (padded g.core ++ index_block g.core.pairs) ≡ editions_at =
    length-append (padded g.core) (index_block g.core.pairs) ∙ omega arith in
    take_at (padded g.core ++ index_block g.core.pairs) (edition_block g.editions) editions_at n

-- a start
all-zeros : (n : ℕ) → every is_zero (replicate n 0) ≡ true
unfolding every
all-zeros zero = refl
all-zeros (suc n) = all-zeros n

fresh-padded : (opcode : ℕ) (prefix : List ℕ)
    → padded (fresh opcode prefix) ≡ pad_to head_size (head_row (fresh opcode prefix)) ++ replicate body_size 0
unfolding fresh with_lists
fresh-padded opcode prefix = empty-padded (fresh opcode prefix)

fresh-core : (opcode : ℕ) (prefix : List ℕ) → (fresh_on opcode prefix).core ≡ fresh opcode prefix
unfolding fresh_on
fresh-core opcode prefix = refl

fresh-none : (opcode : ℕ) (prefix : List ℕ) → (fresh opcode prefix).pairs ≡ []
unfolding fresh
fresh-none opcode prefix = refl

behind-head : (x r i : List ℕ) → length x ≡ head_size → every is_zero r ≡ true → every is_zero i ≡ true
    → every is_zero (drop monitors_at ((x ++ r) ++ i)) ≡ true
behind-head x r i n a b =
    ap (every is_zero) (ap (drop monitors_at) (append_assoc x r i) ∙ drop_at x (r ++ i) monitors_at n)
    ∙ every_append is_zero r i ∙ and_both a b

module _ (opcode : ℕ) (prefix : List ℕ) (ok : sound_settings opcode prefix ≡ true) where
  abbrev g : Gateway
  g = fresh_on opcode prefix

  abbrev m : Model
  m = fresh opcode prefix

  good : sound_gateway g ≡ true
  good = fresh-gateway opcode prefix ok

  pub core_is : model_of (whole g) ≡ m
  core_is = core-whole g good ∙ fresh-core opcode prefix

  position-none : m.position ≡ 0
  unfolding fresh
  position-none = refl

  filter_none : m.filter ≡ 0
  unfolding fresh
  filter_none = refl

  front : take editions_at (whole g) ≡ (pad_to head_size (head_row m) ++ replicate body_size 0) ++ replicate index_size 0
  front =
      front-whole g good ∙ ap (λ (k : Model). padded k ++ index_block k.pairs) (fresh-core opcode prefix)
      ∙ ap (λ (l : List ℕ). l ++ index_block m.pairs) (fresh-padded opcode prefix)
      ∙ ap (λ (l : List ℕ). (pad_to head_size (head_row m) ++ replicate body_size 0) ++ l)
      (ap index_block (fresh-none opcode prefix) ∙ none-index)

  head-long : length (pad_to head_size (head_row m)) ≡ head_size
  head-long =
      let s : sound_model m ≡ true =
      subst (λ (k : Model). sound_model k ≡ true) (fresh-core opcode prefix) (parts-of g good).core in
      length-head m (sound-facts m s).prefix-most

  pub begin-fresh : fresh_in (whole g) ≡ true
  unfolding model_of
  begin-fresh =
      fresh_holds (whole g) (sound-whole g good) (ap (λ (k : Model). k.position) core_is ∙ position-none)
      (ap (λ (k : Model). k.filter) core_is ∙ filter_none)
      (ap (every is_zero) (cut (whole g) ∙ ap (drop monitors_at) front)
      ∙ behind-head (pad_to head_size (head_row m)) (replicate body_size 0) (replicate index_size 0) head-long
      (all-zeros body_size) (all-zeros index_size))
