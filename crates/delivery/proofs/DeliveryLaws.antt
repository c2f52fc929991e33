-- Demand 3 over what the calls' contracts say: the block that `load` gives for an image saved in a session, and what
-- `replay` reaches from it into one output. Document 01, Sessions and failover. `demand3` of the crate failover is
-- the claim, over records; here it is carried to blocks by the law of that crate (Blocks), its replay is that of the
-- call (`replay_into`, which Run of the crate engine cites) and its restore that of the call (`block_in`). Assumes
-- nothing.
use Prim.Native.Nat.{ℕ, zero, suc, ◌+◌, ◌≤◌, ◌<◌}
use Rattle.std.specs.Prelude.{◌≡◌, Bool, false, not, ltb, drop}
use Rattle.std.proofs.Math.Path.{refl, sym, ap, subst}
use Rattle.std.proofs.Common.{◌∙◌, not-suc-le-zero, arith}
use Rattle.std.proofs.Math.Bool.{true}
use Rattle.std.proofs.Math.Option.{Option, none, some}
use mathlib.Core.List.{List, [], ◌∷◌, ◌++◌, map, flatten}
use Rattle.std.proofs.Math.ListN.{length, length-map, length-append}
use Rattle.std.proofs.Math.Seq.{drop-append_seam}
use Rattle.laws.specs.Tests.{pick}
use Rattle.laws.specs.Rows.{flat}
use Rattle.rule.specs.BaseLaws.{none≢some}
use Rattle.rule.specs.Claim.{ByHistory}
use Rattle.sessions.specs.Machine.{Outcome, refused, done, answer_room, save_room}
use Rattle.sessions.specs.Session.{Call, save, Entry, refuse_if, image, from_frame, walk, trace, executed, answers, lines_of, journal}
use Rattle.sessions.specs.Saved.{Replayed, SavedAfter, Failover, Enough, frames, replay, cut}
use Rattle.sessions.proofs.CutsLaws.{drop-map}
use Rattle.sessions.proofs.RunsLaws.{Run, runs, walk-append, trace-append}
use Rattle.sessions.proofs.HistoryLaws.{walk-sound}
use Rattle.model.specs.Types.{fresh}
use Rattle.model.specs.Frames.{Body, write}
use Rattle.model.specs.Sound.{sound_settings}
use Rattle.wholes.specs.Whole.{whole}
use Rattle.wholes.specs.Engine.{engine, begin}
use Rattle.failover.proofs.LaidLaws.{onto, on_reached}
use Rattle.model.proofs.Radio.{radio}
use Rattle.editions.proofs.ImagesLaws.{held-image}
use Rattle.replays.specs.Into.{Reached, replay_into}
use Rattle.replays.proofs.AheadLaws.{Ahead, said_by}
use Rattle.replays.proofs.TurnedLaws.{session-ahead, session-gap}
use Rattle.replays.proofs.WholeLaws.{Same, replay-whole}
use Rattle.wholes.specs.Engine.{block_in}
use Rattle.failover.specs.Demand3.{pairs_in}
use Rattle.failover.specs.Plainly.{Demand3, past_frames}
use Rattle.failover.proofs.Proved.{laws}
use Rattle.failover.proofs.PlainlyLaws.{demand3}
use Rattle.failover.proofs.BlocksLaws.{image-blocks, walk-blocks, trace-blocks, begin-blocks, encode-blocks}
use Rattle.failover.proofs.BlocksLaws.{replays-blocks}
use Rattle.delivery.proofs.ThroughLaws.{runs-through}
use Rattle.editions.specs.Editions.{Gateway, sound_gateway, fresh_on, image_on, is_image_on, held_on}
use Rattle.editions.specs.Engine.{gateways}
use Rattle.wholes.specs.Whole.{held_whole}
use Rattle.failover.proofs.Proved.{fresh-gateway}
use Rattle.failover.proofs.PlainlyLaws.{image-is}

-- What replay into an output of `room` octets reached: a state, octets, and why it ended.
pub record Ended (x : Reached (List ℕ)) (state wrote : List ℕ) (stop : Option ℕ) : Type 0 where
  pub state-is : x.state ≡ state
  pub wrote-is : x.wrote ≡ wrote
  pub stop_is : x.stop ≡ stop

-- Demand 3 of the calls, for an image saved after frame k of the state `at`. accepted, loaded: `load` accepts the
-- image and gives the block `at`. goes_on: replay of the journal from frame j, 1 to k + 1, into an output with 2,880
-- octets behind what is to be written, ends at the unbroken run's state, with exactly its answers to frames k + 1 to
-- n, one after another. gapped: for j above k + 1 and at most n, with 2,880 octets lent, the first line is refused by
-- 2: nothing is read or written, the block is as it was. watched: the pairs that the image of the unbroken run's
-- block lists are those that its past frames put under watch, each once, in the order of their latest starts.
pub record Delivered (opcode : ℕ) (prefix : List ℕ) (calls : List Call) (k : ℕ) (img at : List ℕ) : Type 0 where
  pub accepted : is_image_on img ≡ true
  pub loaded : block_in (is_image_on img) img ≡ at
  pub goes_on :
      (j : ℕ) → 1 ≤ j → j ≤ k + 1 → (room : ℕ)
      → length (flat (drop k (answers engine (begin opcode prefix) calls))) + answer_room ≤ room
      → Ended (replay_into engine room at (journal engine (begin opcode prefix) calls j))
      (walk engine (begin opcode prefix) calls)
      (flat (drop k (answers engine (begin opcode prefix) calls))) none
  pub gapped :
      (j : ℕ) → k + 1 < j → j ≤ frames engine (begin opcode prefix) calls → (room : ℕ) → answer_room ≤ room
      → replay_into engine room at (journal engine (begin opcode prefix) calls j)
      ≡ record { state = at; wrote = []; taken = 0; stop = some 2 }
  pub watched : ByHistory radio (past_frames opcode prefix calls)
      (pairs_in (engine.encode (walk engine (begin opcode prefix) calls)))

-- every line is lent 2,880 octets
enough : Enough (λ i. answer_room)
enough i = omega arith

-- an image saved of a block is saved of the record that it holds
saved-record : (lent : ℕ) (m : Gateway) (img : List ℕ) → onto whole (image gateways lent m) ≡ done (whole m) img
    → (image gateways lent m ≡ done m img) × (img ≡ image_on m)
unfolding image refuse_if onto
saved-record lent m img e = go (not (sound_gateway m)) (ltb lent save_room) e
  where
    go : (a b : Bool) → onto whole (refuse_if a 7 (refuse_if b 3 (done m (image_on m)))) ≡ done (whole m) img
        → (refuse_if a 7 (refuse_if b 3 (done m (image_on m))) ≡ done m img) × (img ≡ image_on m)
    go true b q = let z : ◌≡◌ {A = ℕ} 0 1 = cc in absurd (omega arith)
    go false true q = let z : ◌≡◌ {A = ℕ} 0 1 = cc in absurd (omega arith)
    go false false q = let u : image_on m ≡ img = cc in (ap (done m) u, sym u)

module _ (opcode : ℕ) (prefix : List ℕ) (ok : sound_settings opcode prefix ≡ true) (calls : List Call) where
  abbrev start : Gateway
  start = fresh_on opcode prefix

  abbrev block : List ℕ
  block = begin opcode prefix

  -- the session over blocks is the session over records
  trace-is : (cs : List Call) → trace engine block cs ≡ trace gateways start cs
  trace-is cs = ap (λ (s : List ℕ). trace engine s cs) (begin-blocks opcode prefix ok)
      ∙ trace-blocks start (fresh-gateway opcode prefix ok) cs

  walk_is : (cs : List Call) → walk engine block cs ≡ whole (walk gateways start cs)
  walk_is cs = ap (λ (s : List ℕ). walk engine s cs) (begin-blocks opcode prefix ok)
      ∙ walk-blocks start (fresh-gateway opcode prefix ok) cs

  walk-good : (cs : List Call) → sound_gateway (walk gateways start cs) ≡ true
  walk-good cs = walk-sound gateways laws start (fresh-gateway opcode prefix ok) cs

  answers-are : answers engine block calls ≡ answers gateways start calls
  unfolding answers
  answers-are = ap (λ (es : List (Entry Body)). map (λ e. e.wrote) es) (trace-is calls)

  journal-is : (j : ℕ) → journal engine block calls j ≡ journal gateways start calls j
  unfolding journal lines_of executed
  journal-is j = ap (λ (es : List (Entry Body)). flatten (map write (from_frame j (map (λ e. e.line) es))))
      (trace-is calls)

  frames-are : (cs : List Call) → frames engine block cs ≡ frames gateways start cs
  unfolding frames executed
  frames-are cs = ap (λ (es : List (Entry Body)). length (map (λ e. e.line) es)) (trace-is cs)

  -- an image saved in it after frame k, of the state `at`
  module _ (k : ℕ) (img at : List ℕ) (sv : SavedAfter engine block calls k img at) where
    abbrev middle : Gateway
    middle = walk gateways start sv.before

    abbrev rest : List Call
    rest = save sv.lent ∷ sv.later

    abbrev es : List (Entry Body)
    es = trace gateways start sv.before

    abbrev fs : List (Entry Body)
    fs = trace gateways middle rest

    at-is : at ≡ whole middle
    at-is = sv.state ∙ walk_is sv.before

    saved-is : (image gateways sv.lent middle ≡ done middle img) × (img ≡ image_on middle)
    saved-is =
        saved-record sv.lent middle img (sym (image-blocks middle (walk-good sv.before) sv.lent)
        ∙ subst (λ (s : List ℕ). image engine sv.lent s ≡ done s img) at-is sv.saved)

    over-records : SavedAfter gateways start calls k img middle
    over-records =
        record {
          before = sv.before;
          lent = sv.lent;
          later = sv.later;
          split = sv.split;
          count = sv.count ∙ frames-are sv.before;
          state = refl;
          saved = saved-is.0;
        }

    split : trace gateways start calls ≡ es ++ fs
    split = ap (λ (cs : List Call). trace gateways start cs) sv.split
        ∙ trace-append gateways start sv.before rest

    counted : k ≡ length es
    unfolding frames executed
    counted = sv.count ∙ frames-are sv.before ∙ length-map es (λ e. e.line)

    left-said : flat (drop k (answers engine block calls)) ≡ said_by fs
    unfolding answers
    left-said =
        ap (λ (a : List (List ℕ)). flat (drop k a)) answers-are
        ∙ ap (λ (x : List (Entry Body)). flat (drop k (map (λ e. e.wrote) x))) split
        ∙ ap flat (drop-map (λ (e : Entry Body). e.wrote) k (es ++ fs))
        ∙ ap (λ (i : ℕ). said_by (drop i (es ++ fs))) counted ∙ ap said_by (drop-append_seam es fs)

    origin : start.core.position ≡ 0
    unfolding fresh_on fresh
    origin = refl

    replay-is : (room j : ℕ)
        → replay_into engine room at (journal engine block calls j)
        ≡ on_reached whole (replay_into gateways room middle (journal gateways start calls j))
    replay-is room j =
        ap (λ (s : List ℕ). replay_into engine room s (journal engine block calls j)) at-is
        ∙ ap (replay_into engine room (whole middle)) (journal-is j)
        ∙ replays-blocks room (λ p. true) middle (walk-good sv.before) (journal gateways start calls j)

    through : (j : ℕ) → 1 ≤ j → j ≤ k + 1 → (room : ℕ)
        → length (flat (drop k (answers engine block calls))) + answer_room ≤ room
        → (replay_into gateways room middle (journal gateways start calls j)).stop ≡ none
    through zero h i room big = absurd (not-suc-le-zero h)
    through (suc i) h q room big =
        (runs-through room middle (walk gateways middle rest) (journal gateways start calls (suc i)) fs
        (session-ahead gateways laws start middle (walk gateways middle rest) calls es fs split
        (runs gateways laws start sv.before)
        (runs gateways laws middle rest) origin (walk-good sv.before) i (omega (arith, counted)))
        (subst (λ (l : List ℕ). length l + answer_room ≤ room) left-said big)).0

    goes-there : (j : ℕ) → 1 ≤ j → j ≤ k + 1 → (room : ℕ)
        → length (flat (drop k (answers engine block calls))) + answer_room ≤ room
        → Ended (replay_into engine room at (journal engine block calls j)) (walk engine block calls)
        (flat (drop k (answers engine block calls))) none
    unfolding on_reached flat
    goes-there j h i room big =
        let t : List ℕ = journal gateways start calls j in
        let f : Failover gateways start calls k img middle =
        (demand3 opcode prefix ok calls).images k img middle over-records in
        let r = f.goes_on j h i (λ n. answer_room) enough in
        let w : Same [] (replay_into gateways room middle t) (replay gateways (λ n. answer_room) middle t) =
        replay-whole gateways room middle t (λ n. answer_room) (λ z. none≢some (sym (through j h i room big) ∙ z))
        enough in
        let y = replay-is room j in
        record {
          state-is = ap (λ (x : Reached (List ℕ)). x.state) y
              ∙ ap whole (w.state ∙ ap (λ (v : Replayed Gateway). v.state) r) ∙ sym (walk_is calls);
          wrote-is = ap (λ (x : Reached (List ℕ)). x.wrote) y ∙ w.wrote
              ∙ ap (λ (v : Replayed Gateway). flat v.answers) r
              ∙ ap (λ (a : List (List ℕ)). flat (drop k a)) (sym answers-are);
          stop_is = ap (λ (x : Reached (List ℕ)). x.stop) y ∙ w.stop ∙ ap (λ (v : Replayed Gateway). v.stop) r;
        }

    gap-there : (j : ℕ) → k + 1 < j → j ≤ frames engine block calls → (room : ℕ) → answer_room ≤ room
        → replay_into engine room at (journal engine block calls j)
        ≡ record { state = at; wrote = []; taken = 0; stop = some 2 }
    unfolding on_reached frames executed
    gap-there zero h i room big = absurd (not-suc-le-zero h)
    gap-there (suc i) h q room big =
        let n : length (map (λ (e : Entry Body). e.line) (trace engine block calls)) ≡ length es + length fs =
        frames-are calls ∙ length-map (trace gateways start calls) (λ e. e.line) ∙ ap length split
        ∙ length-append es fs in
        replay-is room (suc i)
        ∙ ap (on_reached whole)
        (session-gap gateways laws start middle (walk gateways middle rest) calls es fs split
        (runs gateways laws start sv.before)
        (runs gateways laws middle rest) origin (walk-good sv.before) i (omega (arith, counted))
        (omega (arith, counted, n)) room big)
        ∙ ap (λ (s : List ℕ). record { state = s; wrote = []; taken = 0; stop = some 2 }) (sym at-is)

    holds : Delivered opcode prefix calls k img at
    unfolding block_in
    holds =
        let i : is_image_on img ≡ true = ap is_image_on saved-is.1 ∙ image-is middle (walk-good sv.before) in
        record {
          accepted = i;
          loaded = ap (λ (b : Bool). block_in b img) i ∙ ap (λ (t : List ℕ). whole (held_on t)) saved-is.1
              ∙ ap whole (held-image middle (walk-good sv.before)) ∙ sym at-is;
          goes_on = goes-there;
          gapped = gap-there;
          watched = subst (λ (t : List ℕ). ByHistory radio (past_frames opcode prefix calls) (pairs_in t))
              (sym (ap engine.encode (walk_is calls) ∙ encode-blocks (walk gateways start calls) (walk-good calls)))
              (demand3 opcode prefix ok calls).by-history;
        }

-- Demand 3 holds of the calls: for all settings in range, every list of calls and every image saved in it.
pub delivered : (opcode : ℕ) (prefix : List ℕ) → sound_settings opcode prefix ≡ true
    → (calls : List Call) (k : ℕ) (img at : List ℕ)
    → SavedAfter engine (begin opcode prefix) calls k img at → Delivered opcode prefix calls k img at
delivered opcode prefix ok calls k img at sv = holds opcode prefix ok calls k img at sv
