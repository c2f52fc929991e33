-- What an addition answers and leaves, branch by branch: refusals 7, 15, 14, 13. And the block that a start gives.
-- Document 02, T-07, T-12. Assumes nothing.
use Rattle.std.specs.Prelude.{◌≡◌, ℕ, zero, suc, ◌+◌, ◌-◌, ◌<◌, ◌≤◌, Bool, true, false, not, ◌&&◌, ◌||◌, List, [], ◌∷◌, ◌++◌, length, take, drop, replicate, nat_le, nat_lt}
use Rattle.std.proofs.Math.Path.{refl, sym, ap}
use Rattle.std.proofs.Common.{◌∙◌, arith}
use Rattle.std.proofs.lemmas.Bool.{false≢true}
use borrow.Author.Tests.{le-leb, lt-leb, lt-ltb, le-ltb, eq-eqb, ltb-true, ltb-false}
use Rattle.std.proofs.lemmas.List.{length-replicate}
use Rattle.std.proofs.Math.ListN.{take-append-drop}
use Rattle.laws.specs.Put.{put, put_if}
use Rattle.laws.specs.PutLaws.{put_of}
use Rattle.laws.specs.Tests.{pick}
use Rattle.laws.specs.TestsLaws.{and_left, and_right}
use Rattle.sessions.specs.Machine.{Outcome, refused, done}
use Rattle.sessions.specs.Session.{refuse_if, state_after}
use Rattle.model.specs.Layout.{most_prefix}
use Rattle.editions.specs.Editions.{Edition, last_from, most_editions}
use Rattle.wholes.specs.Layout.{whole_size}
use Rattle.wholes.specs.Whole.{held_whole}
use Rattle.wholes.specs.Engine.{begin}
use Rattle.prefixes.specs.Held.{edition_count, listed}
use Rattle.prefixes.specs.HeldLaws.{listed-count}
use Rattle.prefixes.specs.ForceLaws.{zeros-behind}
use Rattle.prefixes.specs.More.{can_push, last_in, pushed, with_one}
use Rattle.prefixes.specs.MoreLaws.{last-listed}
use Rattle.twins.specs.Twin.{Twin, add_twin, with_edition}
use Rattle.twin.specs.Table.{table_size}
use Rattle.twin.specs.Block.{head_in, kept_count, sound_block, twin_of, twin_size}
use Rattle.twin.specs.BlockLaws.{SoundBlock, head-size, kept-frames, sound-block, sound-twin}
use Rattle.twin.specs.Calls.{add_block, block_added, begin_block, on_block, refusal_in}

-- a whole block copied into zeros
pub begun : (opcode : ℕ) (prefix h : List ℕ) {r : Bool} {m : List ℕ} → h ≡ begin opcode prefix → length h ≡ whole_size
    → r ≡ nat_le (0 + length h) (length (replicate {A = ℕ} twin_size 0)) → m ≡ put_if r (replicate twin_size 0) 0 h
    → m ≡ begin_block opcode prefix
unfolding begin_block
begun opcode prefix h e n a b =
    let z : length (replicate {A = ℕ} twin_size 0) ≡ twin_size = length-replicate {A = ℕ} twin_size 0 in
    let k : twin_size - length h ≡ suc table_size = omega arith in
    put_of (replicate twin_size 0) 0 h (length h) (length (replicate {A = ℕ} twin_size 0)) a (omega arith) b
    ∙ zeros-behind twin_size h
    ∙ ap (λ (j : ℕ). h ++ replicate j 0) k ∙ ap (λ (l : List ℕ). l ++ (0 ∷ replicate table_size 0)) e

-- the answer and the block by the outcome
abbrev pub Adds : List ℕ → Edition → ℕ → ℕ → List ℕ → Type 0
Adds s e r w t = (r ≡ refusal_in (add_block s e)) × (w ≡ 0) × (t ≡ state_after s (add_block s e))

refused-so : (s : List ℕ) (e : Edition) (n : ℕ) {r w : ℕ} → add_block s e ≡ refused n → (r ≡ n) × (w ≡ 0)
    → Adds s e r w s
unfolding refusal_in state_after
refused-so s e n q d = (d.0 ∙ sym (ap refusal_in q), d.1, sym (ap (state_after s) q))

pub add-unsound : (s : List ℕ) (e : Edition) {b : Bool} {r w : ℕ} → b ≡ sound_block s → b ≡ false → (r ≡ 7) × (w ≡ 0)
    → Adds s e r w s
unfolding add_block refuse_if
add-unsound s e q z d = refused-so s e 7 (rw (sym q ∙ z)) d

on-tests : (p q m : Bool) (a : List ℕ) (t : Twin)
    → on_block a (refuse_if p 15 (refuse_if q 14 (refuse_if m 13 (done t []))))
    ≡ refuse_if p 15 (refuse_if q 14 (refuse_if m 13 (done a [])))
unfolding on_block refuse_if
on-tests true q m a t = refl
on-tests false true m a t = refl
on-tests false false true a t = refl
on-tests false false false a t = refl

module _ (s : List ℕ) (e : Edition) (z : sound_block s ≡ true) where
  abbrev es : List Edition
  es = (twin_of s).editions

  tests : add_block s e ≡ refuse_if (nat_lt most_prefix (length e.prefix)) 15 (
      refuse_if (nat_le e.from (last_from 0 es) || nat_le e.from (kept_count s)) 14
      (refuse_if (nat_le most_editions (length es)) 13 (done (block_added s e) [])))
  unfolding add_block add_twin refuse_if
  tests =
      rw (z, sound-twin s z, kept-frames s)
      (on-tests (nat_lt most_prefix (length e.prefix)) (nat_le e.from (last_from 0 es) || nat_le e.from (kept_count s))
      (nat_le most_editions (length es)) (block_added s e)
      (with_edition (twin_of s) e))

  listed-is : listed (head_in s) ≡ es
  unfolding listed twin_of held_whole
  listed-is = refl

  size : length (head_in s) ≡ whole_size
  size = head-size s (sound-block s z).size

  pub add-long : {r w : ℕ} → most_prefix < length e.prefix → (r ≡ 15) × (w ≡ 0) → Adds s e r w s
  unfolding refuse_if
  add-long h d = refused-so s e 15 (tests ∙ rw (lt-ltb most_prefix (length e.prefix) h)) d

  module _ (h : length e.prefix ≤ most_prefix) (v : ℕ) (q : v ≡ last_in (take whole_size s)) where
    last-is : v ≡ last_from 0 es
    unfolding head_in
    last-is = q ∙ last-listed (head_in s) size ∙ ap (last_from 0) listed-is

    pub add-last : {r w : ℕ} → e.from ≤ v → (r ≡ 14) × (w ≡ 0) → Adds s e r w s
    unfolding refuse_if
    add-last k d = refused-so s e 14
        (tests ∙ rw (le-ltb most_prefix (length e.prefix) h, ← last-is, le-leb e.from v k)) d

    module _ (k : v < e.from) (n : ℕ) (c : n ≡ kept_count s) where
      pub add-past : {r w : ℕ} → e.from ≤ n → (r ≡ 14) × (w ≡ 0) → Adds s e r w s
      unfolding refuse_if
      add-past i d =
          refused-so s e 14
          (tests ∙ rw (
            le-ltb most_prefix (length e.prefix) h,
            ← last-is,
            lt-leb e.from v k,
            ← c,
            le-leb
                e.from n i,
          )) d

      module _ (i : n < e.from) {b : Bool} {t : List ℕ} (a : b ≡ can_push (take whole_size s) e.prefix)
          (p : t ≡ pushed b e.from e.prefix (take whole_size s)) where
        room-is : b ≡ nat_lt (length es) most_editions
        unfolding can_push head_in
        room-is =
            let l : edition_count (take whole_size s) ≡ length es =
            sym (listed-count (take whole_size s)) ∙ ap length listed-is in
            a ∙ rw (eq-eqb (length (take whole_size s)) whole_size size, le-leb (length e.prefix) most_prefix h, l)

        done-is : with_one e.from e.prefix (take whole_size s) ++ drop whole_size s ≡ block_added s e
        unfolding block_added head_in
        done-is = refl

        pub add-full : {r w : ℕ} → b ≡ false → (r ≡ 13) × (w ≡ 0) → Adds s e r w (t ++ drop whole_size s)
        unfolding refuse_if pushed pick
        add-full f d =
            let m : most_editions ≤ length es = ltb-false (length es) most_editions (sym room-is ∙ f) in
            let x : Adds s e _ _ s =
            refused-so s e 13
            (tests ∙ rw (
              le-ltb most_prefix (length e.prefix) h,
              ← last-is,
              lt-leb e.from v k,
              ← c,
              lt-leb
                  e.from n i,
              le-leb most_editions (length es) m,
            )) d in
            let y : t ≡ take whole_size s = p ∙ rw f in
            let same : t ++ drop whole_size s ≡ s =
            ap (λ (l : List ℕ). l ++ drop whole_size s) y ∙ take-append-drop whole_size s in
            (x.0, x.1, same ∙ x.2)

        pub add_done : {r w : ℕ} → b ≡ true → (r ≡ 0) × (w ≡ 0) → Adds s e r w (t ++ drop whole_size s)
        unfolding refuse_if pushed pick refusal_in state_after
        add_done f d =
            let m : length es < most_editions = ltb-true (length es) most_editions (sym room-is ∙ f) in
            let o : add_block s e ≡ done (block_added s e) [] =
            tests ∙ rw (
              le-ltb most_prefix (length e.prefix) h,
              ← last-is,
              lt-leb e.from v k,
              ← c,
              lt-leb
                  e.from n i,
              lt-leb most_editions (length es) m,
            ) in
            (d.0 ∙ sym (ap refusal_in o), d.1, with-is (p ∙ rw f) ∙ sym (ap (state_after s) o))
          where
            with-is : t ≡ with_one e.from e.prefix (take whole_size s) → t ++ drop whole_size s ≡ block_added s e
            with-is y = ap (λ (l : List ℕ). l ++ drop whole_size s) y ∙ done-is
