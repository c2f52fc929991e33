-- One call, given to a sound block and to the record that it holds: both are refused by the same number, or write the
-- same octets and go on alike. Document 02, T-07. Assumes nothing.
use Prim.Native.Nat.{ℕ, suc, ◌≤◌, ◌<◌}
use Rattle.std.specs.Prelude.{◌≡◌, Bool, ◌||◌, not}
use Rattle.std.proofs.Math.Path.{refl, ap, subst}
use Rattle.std.proofs.Common.{sym, ◌∙◌}
use Rattle.std.proofs.Math.Bool.{true, false}
use mathlib.Core.List.{List, []}
use Rattle.std.proofs.Math.Option.{Option, none, some}
use native.Mathlib.Omega.{arith}
use borrow.Author.Tests.{leb-false, ltb-false, eqb-true}
use Rattle.std.proofs.Math.Dec.{leb, ltb, eqb}
use Rattle.std.proofs.Math.ListN.{length}
use Rattle.lines.specs.Frame.{most_frame}
use Rattle.lines.specs.FrameLaws.{frame-least, frame-most}
use Rattle.sessions.specs.Machine.{Form, Line, Outcome, refused, done, answer_room, save_room}
use Rattle.sessions.specs.Session.{give, save, answer, image, judge, refuse_if, reply, state_after}
use Rattle.sessions.specs.Additions.{Act, adds, call}
use Rattle.model.specs.Frames.{Body, frame_of, raw_of, read, typed}
use Rattle.model.specs.Block.{model_of}
use Rattle.model.specs.Layout.{most_prefix}
use Rattle.editions.specs.Editions.{image_on, last_from, most_editions}
use Rattle.editions.specs.Engine.{Addition, gateways}
use Rattle.failover.specs.ReadLaws.{Got, got, raw_of_lem}
use Rattle.failover.specs.Grows.{growing}
use Rattle.twins.specs.Twin.{Twin, act_twin, add_twin, gateway_of, keeps_on, most_kept, refusal_by, runs, twins, typed_in, with_edition}
use Rattle.twins.specs.Claim.{call_answer, twin_by}
use Rattle.twin.specs.Block.{head_in, kept_count, sound_block, twin_of}
use Rattle.twin.specs.BlockLaws.{SoundBlock, kept-frames, sound-block, sound-twin}
use Rattle.twin.specs.Stored.{stored_on}
use Rattle.twin.specs.StoredLaws.{stored-keeps, stored-sound}
use Rattle.twin.specs.Calls.{act_block, add_block, block_added, twin_blocks, on_block}
use Rattle.twin.specs.Judged.{Goes}
use Rattle.twin.specs.JudgedLaws.{goes-runs}
use Rattle.agreement.specs.Claim.{block_by}
use Rattle.agreement.specs.AddedLaws.{added-sound, added-twin}

-- an answer of the block, and one of the record that it holds, that go on alike
pub record Alike (b : List ℕ) (o : Outcome (List ℕ)) (p : Outcome Twin) : Type 0 where
  pub said : call_answer o ≡ call_answer p
  pub state : twin_of (state_after b o) ≡ state_after (twin_of b) p
  pub sound : sound_block (state_after b o) ≡ true

module _ (b : List ℕ) (z : sound_block b ≡ true) where
  abbrev t : Twin
  t = twin_of b

  abbrev n : ℕ
  n = kept_count b

  s : SoundBlock b
  s = sound-block b z

  refused-alike : (k : ℕ) → Alike b (refused k) (refused k)
  unfolding call_answer state_after
  refused-alike k = record { said = refl; state = refl; sound = z }

  refuse-alike : (q : Bool) (k : ℕ) (o : Outcome (List ℕ)) (p : Outcome Twin) → (q ≡ false → Alike b o p)
      → Alike b (refuse_if q k o) (refuse_if q k p)
  unfolding refuse_if
  refuse-alike true k o p rest = refused-alike k
  refuse-alike false k o p rest = rest refl

  done-alike : (after : List ℕ) (u : Twin) (wrote : List ℕ) → twin_of after ≡ u → sound_block after ≡ true
      → Alike b (done after wrote) (done u wrote)
  unfolding call_answer state_after
  done-alike after u wrote e k = record { said = refl; state = e; sound = k }

  -- a frame with the next number
  module _ (x : Line Body) (g : Got x) (next : x.num ≡ suc n) where
    abbrev raw : List ℕ
    raw = raw_of (record { num = suc n; body = x.body })

    raw-is : raw ≡ g.raw
    raw-is =
        ap (λ (k : ℕ). raw_of (record { num = k; body = x.body })) (sym next) ∙ ap raw_of (sym g.is)
        ∙ raw_of_lem g.raw g.small (frame-least g.raw g.form)

    goes : eqb (refusal_by t.opcode (typed x.body)) 0 ≡ true → n < most_kept → Goes b g.raw
    unfolding typed_in frame_of
    goes e h =
        record {
          small = g.small;
          form = g.form;
          next = ap (λ (y : Line Body). y.num) g.is ∙ next;
          good = ap (λ (y : Line Body). refusal_by t.opcode (typed y.body)) g.is
              ∙ eqb-true (refusal_by t.opcode (typed x.body)) 0 e;
          room = h;
        }

    short : length raw ≤ most_frame
    short = subst (λ (l : List ℕ). length l ≤ most_frame) (sym raw-is) (frame-most g.raw g.form)

    kept : (wrote : List ℕ) → eqb (refusal_by t.opcode (typed x.body)) 0 ≡ true → n < most_kept
        → Alike b (done (stored_on b raw) wrote) (done (keeps_on t x.body) wrote)
    kept wrote e h =
        let r : runs (model_of (head_in b)).opcode n raw ≡ true =
        subst (λ (l : List ℕ). runs (model_of (head_in b)).opcode n l ≡ true) (sym raw-is)
        (goes-runs b g.raw (goes e h)) in
        done-alike (stored_on b raw) (keeps_on t x.body) wrote (stored-keeps b x.body s h short)
        (stored-sound b raw s h short r)

    acted : Alike b (act_block b x.body) (act_twin t x.body)
    unfolding act_block act_twin on_block refuse_if
    acted = go (eqb (refusal_by t.opcode (typed x.body)) 0) (leb most_kept (length t.frames)) refl refl _
      where
        go : (p q : Bool) → eqb (refusal_by t.opcode (typed x.body)) 0 ≡ p
            → leb most_kept (length t.frames) ≡ q → (wrote : List ℕ)
            → Alike b (on_block (stored_on b raw)
            (refuse_if (not p) (refusal_by t.opcode (typed x.body))
            (refuse_if q 11 (done (keeps_on t x.body) wrote))))
            (refuse_if (not p) (refusal_by t.opcode (typed x.body))
            (refuse_if q 11 (done (keeps_on t x.body) wrote)))
        go false q u v wrote = refused-alike (refusal_by t.opcode (typed x.body))
        go true true u v wrote = refused-alike 11
        go true false u v wrote =
            let i : length t.frames < most_kept = leb-false most_kept (length t.frames) v in
            let j : length t.frames ≡ n = kept-frames b in
            kept wrote u (omega arith)

  -- a frame given
  judged : (o : Option (Line Body)) → ((x : Line Body) → o ≡ some x → Got x)
      → Alike b (judge twin_blocks b o) (judge twins t o)
  unfolding judge
  judged none e = refused-alike 4
  judged (some x) e =
      subst (λ (k : ℕ). Alike b (judge twin_blocks b (some x))
      (refuse_if (leb x.num k) 1 (refuse_if (ltb (suc k) x.num) 2 (act_twin t x.body)))) (sym (kept-frames b))
      (refuse-alike (leb x.num n) 1 (refuse_if (ltb (suc n) x.num) 2 (act_block b x.body))
      (refuse_if (ltb (suc n) x.num) 2 (act_twin t x.body))
      (λ u. refuse-alike (ltb (suc n) x.num) 2 (act_block b x.body) (act_twin t x.body)
      (λ v. acted x (e x refl) (next u v))))
    where
      next : leb x.num n ≡ false → ltb (suc n) x.num ≡ false → x.num ≡ suc n
      next u v =
          let i : n < x.num = leb-false x.num n u in
          let j : x.num ≤ suc n = ltb-false (suc n) x.num v in
          omega arith

  given : (lent : ℕ) (w : Form) (r : List ℕ) → Alike b (answer twin_blocks lent b w r) (answer twins lent t w r)
  unfolding answer refuse_if
  given lent w r =
      rw (z, sound-twin b z)
      (refuse-alike (ltb lent answer_room) 3 (judge twin_blocks b (read w r)) (judge twins t (read w r))
      (λ u. judged (read w r) (got w r)))

  -- a save
  saved : (lent : ℕ) → Alike b (image twin_blocks lent b) (image twins lent t)
  unfolding image refuse_if
  saved lent =
      rw (z, sound-twin b z)
      (refuse-alike (ltb lent save_room) 3 (done b (image_on (gateway_of t))) (done t (image_on (gateway_of t)))
      (λ u. done-alike b t (image_on (gateway_of t)) refl z))

  -- an edition
  added : (a : Addition) → Alike b (add_block b a.edition) (add_twin t a.edition)
  unfolding add_block add_twin on_block refuse_if
  added a =
      rw (z, sound-twin b z)
      (go (ltb most_prefix (length a.edition.prefix)) (leb a.edition.from (last_from 0 t.editions))
      (leb a.edition.from (length t.frames))
      (leb most_editions (length t.editions)) refl refl refl)
    where
      go : (p c k m : Bool) → ltb most_prefix (length a.edition.prefix) ≡ p
          → leb a.edition.from (last_from 0 t.editions) ≡ c
          → leb most_editions (length t.editions) ≡ m
          → Alike b (on_block (block_added b a.edition)
          (refuse_if p 15 (refuse_if (c || k) 14 (refuse_if m 13 (done (with_edition t a.edition) [])))))
          (refuse_if p 15 (refuse_if (c || k) 14 (refuse_if m 13 (done (with_edition t a.edition) []))))
      go true c k m p q r = refused-alike 15
      go false true k m p q r = refused-alike 14
      go false false true m p q r = refused-alike 14
      go false false false true p q r = refused-alike 13
      go false false false false p q r =
          let i : length a.edition.prefix ≤ most_prefix = ltb-false most_prefix (length a.edition.prefix) p in
          let l : last_from 0 t.editions < a.edition.from =
          leb-false a.edition.from (last_from 0 t.editions) q in
          let o : length t.editions < most_editions = leb-false most_editions (length t.editions) r in
          done-alike (block_added b a.edition) (with_edition t a.edition) [] (added-twin b s a i l o)
          (added-sound b s a i l o)

  -- any call
  pub called : (c : Act gateways growing) → Alike b (block_by b c) (twin_by t c)
  unfolding block_by twin_by reply
  called (call (give lent w r)) = given lent w r
  called (call (save lent)) = saved lent
  called (adds a) = added a
