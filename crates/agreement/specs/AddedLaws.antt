-- The block that an addition leaves, and the one that a start gives: the records that they hold, and that they are
-- sound. Document 02, T-07, T-12. Assumes nothing.
use Rattle.std.specs.Prelude.{ℕ, ◌≤◌, ◌<◌, ◌≡◌, Bool, true, false, take, get_or, replicate}
use Rattle.std.proofs.Math.Path.{refl, sym, ap}
use Rattle.std.proofs.Common.{◌∙◌, arith}
use mathlib.Core.List.{List, [], ◌∷◌, ◌++◌}
use Rattle.std.proofs.Math.ListN.{length, drop}
use Rattle.std.proofs.lemmas.List.{length-replicate}
use Rattle.std.proofs.Math.Seq.{drop-cons}
use Rattle.laws.specs.Tests.{pick}
use Rattle.laws.specs.Loops.{every}
use Rattle.octets.specs.Numbers.{at_most}
use Rattle.octets.specs.NumbersLaws.{at-is}
use Rattle.model.specs.Types.{fresh}
use Rattle.model.specs.Sound.{octets_up_to, sound_settings}
use Rattle.model.specs.Block.{model_of}
use Rattle.model.specs.Layout.{most_prefix}
use Rattle.editions.specs.Editions.{Edition, Gateway, fresh_on, last_from, most_editions, sound_gateway}
use Rattle.editions.specs.Engine.{Addition}
use Rattle.editions.proofs.FactsLaws.{Accepted, Parts, parts-of, with}
use Rattle.wholes.specs.Layout.{editions_at, whole_size}
use Rattle.wholes.specs.Index.{index_block}
use Rattle.wholes.specs.Whole.{held_whole, sound_whole, whole}
use Rattle.wholes.specs.Engine.{begin, blank_on}
use Rattle.wholes.proofs.LaidLaws.{core-whole, held_whole_lem, sound-whole, state-index, whole-good, whole-held, whole_length}
use Rattle.prefixes.specs.More.{with_one}
use Rattle.prefixes.specs.MoreLaws.{pushed-laid}
use Rattle.failover.specs.Grows.{with-sound}
use Rattle.failover.proofs.Proved.{fresh-gateway}
use Rattle.twins.specs.Twin.{begin_twin, fresh_twin, most_kept, with_edition}
use Rattle.twin.specs.Table.{table_size}
use Rattle.twin.specs.Block.{frames_in, fresh_in, head_in, kept_at, kept_count, rows_run, sound_block, table_in, twin_of, twin_size}
use Rattle.twin.specs.BlockLaws.{SoundBlock, block-holds, count_of, head_of, head-sound, length-of, table_of, table-size}
use Rattle.twin.specs.Calls.{block_added, begin_block}
use Rattle.agreement.specs.HeadLaws.{begin-fresh, fresh-front, fresh-position, front-whole}

-- a block of the whole block of a sound state, a number of frames and a table
module _ (g : Gateway) (t : List ℕ) (n : ℕ) (good : sound_gateway g ≡ true) where
  abbrev pub made : List ℕ
  made = whole g ++ (n ∷ t)

  long : length (whole g) ≡ whole_size
  long = whole_length g good

  pub made-twin : twin_of made
      ≡ record { opcode = g.core.opcode; editions = g.editions; frames = frames_in t (at_most n most_kept) }
  unfolding twin_of kept_count held_whole
  made-twin =
      rw (head_of (whole g) t n long, table_of (whole g) t n long, count_of (whole g) t n long)
      (ap (λ (k : Gateway).
      record { opcode = k.core.opcode; editions = k.editions; frames = frames_in t (at_most n most_kept) })
      (held_whole_lem g good))

  pub made-sound : length t ≡ table_size → fresh_in (whole g) ≡ true → n ≤ most_kept
      → rows_run g.core.opcode t n ≡ true → sound_block made ≡ true
  made-sound l f m r =
      block-holds made (record {
        size = length-of (whole g) t n long l;
        fresh = rw (head_of (whole g) t n long) f;
        few = rw (count_of (whole g) t n long) m;
        run = rw (
          head_of (whole g) t n long,
          table_of (whole g) t n long,
          count_of (whole g) t n long,
          core-whole g
              good,
        ) r;
      })

-- one edition more
module _ (b : List ℕ) (s : SoundBlock b) (a : Addition) (short : length a.edition.prefix ≤ most_prefix)
    (last : last_from 0 (twin_of b).editions < a.edition.from)
    (room : length (twin_of b).editions < most_editions) where
  abbrev e : Edition
  e = a.edition

  abbrev h : List ℕ
  h = head_in b

  abbrev g : Gateway
  g = held_whole h

  w : sound_whole h ≡ true
  w = head-sound b s

  good : sound_gateway g ≡ true
  good = whole-good h w

  position-none : g.core.position ≡ 0
  unfolding held_whole model_of
  position-none = fresh-position h s.fresh

  accepted : Accepted g e
  unfolding twin_of
  accepted =
      let z : g.core.position ≡ 0 = position-none in
      record { sound = good; short = short; above-last = last; above-position = omega arith; room = room }

  more : sound_gateway (with g e) ≡ true
  more = with-sound g a accepted

  one-is : with_one e.from e.prefix h ≡ whole (with g e)
  unfolding whole with
  one-is =
      let p : Parts g = parts-of g good in
      ap (with_one e.from e.prefix) (sym (whole-held h w))
      ∙ pushed-laid g (index_block g.core.pairs) e p.core p.editions (state-index g good) accepted.room
      short

  added_is : block_added b e ≡ made (with g e) (table_in b) (get_or b kept_at 0) more
  unfolding block_added table_in
  added_is =
      ap (λ (l : List ℕ). l ++ drop whole_size b) one-is
      ∙ ap (λ (l : List ℕ). whole (with g e) ++ l)
      (let z : length b ≡ twin_size = s.size in drop-cons b whole_size 0 (omega arith))

  pub added-twin : twin_of (block_added b e) ≡ with_edition (twin_of b) e
  unfolding with_edition twin_of kept_count with held_whole
  added-twin = ap twin_of added_is ∙ made-twin (with g e) (table_in b) (get_or b kept_at 0) more

  front_same : take editions_at (whole (with g e)) ≡ take editions_at h
  unfolding with
  front_same = front-whole (with g e) more ∙ sym (front-whole g good) ∙ ap (take editions_at) (whole-held h w)

  opcode-same : (with g e).core.opcode ≡ (model_of h).opcode
  unfolding with held_whole
  opcode-same = refl

  pub added-sound : sound_block (block_added b e) ≡ true
  added-sound =
      ap sound_block added_is
      ∙ made-sound (with g e) (table_in b) (get_or b kept_at 0) more (table-size b s.size)
      (fresh-front h (whole (with g e)) front_same s.fresh (sound-whole (with g e) more)) s.few
      (rw opcode-same s.run)

-- a start
module _ (opcode : ℕ) (prefix : List ℕ) (ok : sound_settings opcode prefix ≡ true) (t : List ℕ) where
  abbrev f : Gateway
  f = fresh_on opcode prefix

  ready : sound_gateway f ≡ true
  ready = fresh-gateway opcode prefix ok

  none : at_most 0 most_kept ≡ 0
  none = sym (at-is 0 most_kept (omega arith))

  fresh-twin : twin_of (whole f ++ (0 ∷ t)) ≡ fresh_twin opcode prefix
  unfolding fresh_twin fresh_on fresh frames_in
  fresh-twin = made-twin f t 0 ready ∙ rw none

  fresh-sound : length t ≡ table_size → sound_block (whole f ++ (0 ∷ t)) ≡ true
  unfolding rows_run
  fresh-sound l = made-sound f t 0 ready l (begin-fresh opcode prefix ok) (omega arith) refl

blank-settings : sound_settings 0xFC00 [] ≡ true
unfolding sound_settings octets_up_to every
blank-settings = refl

begun-twin : (opcode : ℕ) (prefix t : List ℕ) → twin_of (begin opcode prefix ++ (0 ∷ t)) ≡ begin_twin opcode prefix
unfolding begin begin_twin blank_on pick
begun-twin opcode prefix t = go (sound_settings opcode prefix) refl
  where
    go : (q : Bool) → sound_settings opcode prefix ≡ q
        → twin_of (pick q (whole (fresh_on opcode prefix)) (whole (fresh_on 0xFC00 [])) ++ (0 ∷ t))
        ≡ pick q (fresh_twin opcode prefix) (fresh_twin 0xFC00 [])
    go true e = fresh-twin opcode prefix e t
    go false e = fresh-twin 0xFC00 [] blank-settings t

begun-sound : (opcode : ℕ) (prefix t : List ℕ) → length t ≡ table_size
    → sound_block (begin opcode prefix ++ (0 ∷ t)) ≡ true
unfolding begin blank_on pick
begun-sound opcode prefix t l = go (sound_settings opcode prefix) refl
  where
    go : (q : Bool) → sound_settings opcode prefix ≡ q
        → sound_block (pick q (whole (fresh_on opcode prefix)) (whole (fresh_on 0xFC00 [])) ++ (0 ∷ t)) ≡ true
    go true e = fresh-sound opcode prefix e t l
    go false e = fresh-sound 0xFC00 [] blank-settings t l

pub begin-twin : (opcode : ℕ) (prefix : List ℕ) → twin_of (begin_block opcode prefix) ≡ begin_twin opcode prefix
unfolding begin_block
begin-twin opcode prefix = begun-twin opcode prefix (replicate table_size 0)

pub begin-sound : (opcode : ℕ) (prefix : List ℕ) → sound_block (begin_block opcode prefix) ≡ true
unfolding begin_block
begin-sound opcode prefix = begun-sound opcode prefix (replicate table_size 0) (length-replicate {A = ℕ} table_size 0)
