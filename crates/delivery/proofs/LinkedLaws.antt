-- The proof of demand 3 as firmware sees it (Firmware has the statement), from the session over records that it saw
-- (Records). The block enters by the law of the crate failover (Blocks). Document 01, Sessions and failover; document
-- 02, T-12. Assumes nothing.
use Prim.Native.Nat.{ℕ, suc, ◌+◌, ◌-◌, ◌≤◌, ◌<◌}
use Rattle.std.specs.Prelude.{◌≡◌, refl, Bool, false, ◌⊎◌, ltb, take, drop}
use Rattle.std.proofs.Math.Path.{sym, ap}
use Rattle.std.proofs.Common.{◌∙◌, subst, inl, inr, arith, ltb-true, drop_of_length-le}
use Rattle.std.proofs.Math.Bool.{true}
use Rattle.std.proofs.Math.Option.{some}
use mathlib.Core.List.{List, [], ◌++◌, append-nil, append_assoc}
use Rattle.std.proofs.Math.ListN.{length}
use Rattle.std.proofs.Math.Seq.{drop-append_seam}
use Rattle.laws.specs.Put.{put}
use Rattle.laws.specs.PutLaws.{put-nil}
use Rattle.laws.specs.Tests.{pick}
use Rattle.rule.specs.Radio.{Frame}
use Rattle.rule.specs.Claim.{ByHistory}
use Rattle.sessions.specs.Machine.{answer_room}
use Rattle.sessions.specs.Session.{Entry, image}
use Rattle.sessions.specs.Saved.{cut}
use Rattle.sessions.proofs.CutsLaws.{drop-map}
use Rattle.sessions.specs.Additions.{walk_on}
use Rattle.model.specs.Types.{Model}
use Rattle.model.specs.Frames.{Body}
use Rattle.model.specs.Sound.{sound_settings}
use Rattle.model.specs.Block.{model_of}
use Rattle.model.proofs.Radio.{radio}
use Rattle.editions.specs.Editions.{Edition, Gateway, fresh_on, image_on, is_image_on, held_on}
use Rattle.editions.specs.Engine.{gateways}
use Rattle.editions.proofs.ImagesLaws.{held-image}
use Rattle.wholes.specs.Whole.{whole, held_whole}
use Rattle.wholes.proofs.LaidLaws.{held_whole_lem, core-whole}
use Rattle.wholes.specs.Engine.{engine, begin, block_in}
use Rattle.replays.specs.Into.{Reached, replay_into}
use Rattle.replays.proofs.AheadLaws.{said_by}
use Rattle.bournejade.specs.Gives.{stop_in, Gave, ReplayGave}
use Rattle.failover.specs.Demand3.{pairs_in}
use Rattle.failover.specs.Grows.{growing}
use Rattle.failover.proofs.Proved.{demand3}
use Rattle.failover.proofs.PlainlyLaws.{image-is}
use Rattle.failover.proofs.LaidLaws.{on_reached}
use Rattle.failover.proofs.BlocksLaws.{replays-blocks}
use Rattle.delivery.specs.Firmware.{Step, Seen, Heard, heard_in, accepted_in, kept_from, answers_of, frames_kept, StandbyMove, MovesWhile, MovesTo, Moves, given_in, NotLate, InTime, with_editions, Go, Busy, turns_in, written_in, TakenOver}
use Rattle.delivery.proofs.TimelyLaws.{not_late}
use Rattle.delivery.proofs.ShownLaws.{Done, moves-done, moves-few}
use Rattle.delivery.proofs.ThroughLaws.{With, with-given, none-due, nothing-ahead, runs-through}
use Rattle.delivery.proofs.SeenLaws.{heard_of, kept-answers, image-told}
use Rattle.delivery.proofs.RecordsLaws.{OverRecords, over-records}

-- Frames gs and hs of a run from position k: where the calls up to frame d ended, what is left is the frames above d.
left-above : (k d n : ℕ) (gs hs : List (Entry Body)) → n ≡ k + length gs
    → (gs ≡ []) ⊎ ((p : ℕ) × (suc p ≡ n) × (ltb p d ≡ true))
    → (d ≤ n) ⊎ (hs ≡ []) → hs ≡ drop (d - k) (gs ++ hs)
left-above k d n gs hs e h g = go (within h) g
  where
    within : (gs ≡ []) ⊎ ((p : ℕ) × (suc p ≡ n) × (ltb p d ≡ true)) → (length gs ≡ 0) ⊎ (n ≤ d)
    within (inl z) = inl (ap length z)
    within (inr w) = inr (let b : w.0 < d = ltb-true w.0 d w.2 in let c : suc w.0 ≡ n = w.1 in omega arith)

    there : d - k ≡ length gs → hs ≡ drop (d - k) (gs ++ hs)
    there z = sym (ap (λ (i : ℕ). drop i (gs ++ hs)) z ∙ drop-append_seam gs hs)

    past : hs ≡ [] → length gs ≤ d - k → hs ≡ drop (d - k) (gs ++ hs)
    past z b =
        z ∙ sym (ap (λ (l : List (Entry Body)). drop (d - k) (gs ++ l)) z ∙ ap (drop (d - k)) (append-nil gs)
        ∙ drop_of_length-le gs {i = d - k} b)

    go : (length gs ≡ 0) ⊎ (n ≤ d) → (d ≤ n) ⊎ (hs ≡ []) → hs ≡ drop (d - k) (gs ++ hs)
    go (inl z) (inl b) = there (omega arith)
    go (inr a) (inl b) = there (omega arith)
    go (inl z) (inr y) = past y (omega arith)
    go (inr a) (inr y) = past y (omega arith)

module _ (opcode : ℕ) (prefix : List ℕ) (ok : sound_settings opcode prefix ≡ true) (before later : List Heard)
    (more : List Edition) (at end out left : List ℕ) (n : ℕ)
    (over : OverRecords opcode prefix before later more at end)
    (g : Gave (image engine (length out) at) at out at left n 0) where
  later-said : answers_of later ≡ said_by over.fs
  later-said = ap answers_of over.later-is ∙ kept-answers over.fs

  saved-is : take n left ≡ image_on over.middle
  saved-is = image-told at out left n g ∙ ap (λ (s : List ℕ). image_on (held_whole s)) over.at-is
      ∙ ap image_on (held_whole_lem over.middle over.good)

  restores : (is_image_on (take n left) ≡ true) × (block_in (is_image_on (take n left)) (take n left) ≡ at)
  unfolding block_in
  restores =
      let i : is_image_on (take n left) ≡ true = ap is_image_on saved-is ∙ image-is over.middle over.good in (
        i,
        ap (λ (t : Bool). block_in t (take n left)) i ∙ ap (λ (t : List ℕ). whole (held_on t)) saved-is
            ∙ ap whole (held-image over.middle over.good) ∙ sym over.at-is,
      )

  -- the block with the first ones of the editions
  withs : (given due : List Edition) → more ≡ given ++ due → With over.middle over.full given due
  withs given due e =
      with-given over.middle over.full over.al given due over.good over.awaits (sym over.more-is ∙ e)

  with-is : (given due : List Edition) (e : more ≡ given ++ due)
      → with_editions at given ≡ whole (withs given due e).state
  with-is given due e = ap (λ (s : List ℕ). with_editions s given) over.at-is ∙ (withs given due e).block

  -- a call of replay on that block
  replay-is : (given due : List Edition) (e : more ≡ given ++ due) (room : ℕ) (t : List ℕ)
      → replay_into engine room (with_editions at given) t
      ≡ on_reached whole (replay_into gateways room (withs given due e).state t)
  replay-is given due e room t =
      ap (λ (s : List ℕ). replay_into engine room s t) (with-is given due e)
      ∙ replays-blocks room (λ p. true) (withs given due e).state (withs given due e).good t

  every_one : more ≡ more ++ []
  every_one = sym (append-nil more)

  all-given : (withs more [] every_one).state ≡ over.full
  all-given =
      let w : With over.middle over.full more [] = withs more [] every_one in
      none-due w.state over.full w.awaited w.are-due w.awaits

  in_one : (lent c r : List ℕ) (i m k : ℕ) (j : ℕ) → 1 ≤ j → j ≤ length before + 1
      → ReplayGave (replay_into engine (length lent) (with_editions at more) (kept_from j (before ++ later))) lent c r i m
      k
      → length (answers_of later) + answer_room ≤ length lent
      → (k ≡ 0) × (c ≡ end) × (r ≡ put lent 0 (answers_of later)) × (m ≡ length (answers_of later))
  unfolding on_reached stop_in
  in_one lent c r i m k j h q p big =
      let t : List ℕ = kept_from j (before ++ later) in
      let z = runs-through (length lent) over.full over.final t over.fs (over.ahead j h q)
      (subst (λ (x : List ℕ). length x + answer_room ≤ length lent) later-said big) in
      let y : replay_into engine (length lent) (with_editions at more) t
      ≡ on_reached whole (replay_into gateways (length lent) over.full t) =
      replay-is more [] every_one (length lent) t
      ∙ ap (λ (s : Gateway). on_reached whole (replay_into gateways (length lent) s t)) all-given in
      let w : (replay_into engine (length lent) (with_editions at more) t).wrote ≡ answers_of later =
      ap (λ (x : Reached (List ℕ)). x.wrote) y ∙ z.2 ∙ sym later-said in (
        p.number ∙ ap (λ (x : Reached (List ℕ)). stop_in x.stop) y ∙ ap stop_in z.0,
        p.state ∙ ap (λ (x : Reached (List ℕ)). x.state) y ∙ ap whole z.1 ∙ sym over.end_is,
        p.output ∙ ap (put lent 0) w,
        p.count ∙ ap length w,
      )

  gap : (given due : List Edition) → more ≡ given ++ due → (lent c r : List ℕ) (i m k : ℕ) (j : ℕ)
      → length before + 1 < j → j ≤ length before + length later
      → ReplayGave (replay_into engine (length lent) (with_editions at given) (kept_from j (before ++ later))) lent c r i
      m
      k → answer_room ≤ length lent
      → (k ≡ 2) × (c ≡ with_editions at given) × (r ≡ lent) × (i ≡ 0) × (m ≡ 0)
  unfolding on_reached stop_in
  gap given due e lent c r i m k j h q p big =
      let w : With over.middle over.full given due = withs given due e in
      let x : Reached Gateway = record { state = w.state; wrote = []; taken = 0; stop = some 2 } in
      let y : replay_into engine (length lent) (with_editions at given) (kept_from j (before ++ later))
      ≡ on_reached whole x =
      replay-is given due e (length lent) _
      ∙ ap (on_reached whole) (over.gap w.state w.good (w.place ∙ over.place) j h q (length lent) big) in (
        p.number ∙ ap (λ (v : Reached (List ℕ)). stop_in v.stop) y,
        p.state ∙ ap (λ (v : Reached (List ℕ)). v.state) y ∙ sym (with-is given due e),
        p.output ∙ ap (λ (v : Reached (List ℕ)). put lent 0 v.wrote) y ∙ put-nil lent 0,
        p.taken ∙ ap (λ (v : Reached (List ℕ)). v.taken) y,
        p.count ∙ ap (λ (v : Reached (List ℕ)). length v.wrote) y,
      )

  -- moves, once no whole line is left and no edition is due
  moved_all : (m : Gateway) (hs : List (Entry Body)) (due : List Edition) (xs : List StandbyMove) (u v : List ℕ)
      (d : Done (λ p. true) m hs over.final due xs u v) → cut v ≡ [] → due ≡ []
      → (u ≡ end) × (written_in xs ≡ said_by hs)
  moved_all m hs due xs u v d e i =
      let z = nothing-ahead d.full over.final (cut v) d.hs e d.ahead in
      let y : d.state ≡ d.full = none-due d.state d.full d.awaited (d.are-due ∙ i) d.awaits in (
        d.block ∙ ap whole (y ∙ z.1) ∙ sym over.end_is,
        d.said ∙ ap said_by
            (sym (append-nil d.gs) ∙ ap (λ (k : List (Entry Body)). d.gs ++ k) (sym z.0) ∙ sym d.frames),
      )

  from-saved : (goes : ℕ → Bool) (j : ℕ) → 1 ≤ j → j ≤ length before + 1
      → (xs : List StandbyMove) (u v : List ℕ) (due : List Edition)
      → MovesWhile goes at (kept_from j (before ++ later)) xs u v → InTime more (given_in xs) due (model_of u).position
      → Done goes over.middle over.fs over.final due xs u v
  from-saved goes j h i xs u v due k t =
      moves-done goes at (kept_from j (before ++ later)) xs u v over.middle over.full over.final over.al
      due over.fs over.at-is over.good over.awaits (over.ahead j h i) k
      (sym over.more-is ∙ t.order) t.not_late

  few : (goes : ℕ → Bool) (j : ℕ) → 1 ≤ j → j ≤ length before + 1
      → (xs : List StandbyMove) (u v : List ℕ) (due : List Edition)
      → MovesWhile goes at (kept_from j (before ++ later)) xs u v → InTime more (given_in xs) due (model_of u).position
      → Busy goes at xs
      → turns_in xs ≤ length (cut (kept_from j (before ++ later)))
  few goes j h i xs u v due k t y =
      moves-few goes at (kept_from j (before ++ later)) xs u v over.middle over.full over.final over.al due
      over.fs over.at-is over.good over.awaits (over.ahead j h i) k
      (sym over.more-is ∙ t.order) t.not_late y

  above : (d j : ℕ) → 1 ≤ j → j ≤ length before + 1
      → (xs ys : List StandbyMove) (c u between rest : List ℕ) (due : List Edition)
      → MovesTo d at (kept_from j (before ++ later)) xs c between → (d ≤ (model_of c).position) ⊎ (cut between ≡ [])
      → Moves c between ys u rest
      → InTime more (given_in xs ++ given_in ys) due (model_of u).position
      → Go xs × Go ys ×
      (cut rest ≡ [] → due ≡ [] → (u ≡ end) × (written_in ys ≡ answers_of (drop (d - length before) later)))
  above d j h q xs ys c u between rest due k e f t =
      let o : more ≡ given_in xs ++ (given_in ys ++ due) = t.order ∙ append_assoc (given_in xs) (given_in ys) due in
      let w : With over.middle over.full (given_in xs) (given_in ys ++ due) =
      withs (given_in xs) (given_in ys ++ due) o in
      let late : NotLate (model_of c).position (given_in ys ++ due) =
      not_late c between ys u rest w.awaited due f w.are-due t.not_late in
      let x : Done (λ p. ltb p d) over.middle over.fs over.final (given_in ys ++ due) xs c between =
      from-saved (λ p. ltb p d) j h q xs c between (given_in ys ++ due) k (record { order = o; not_late = late }) in
      let y : Done (λ p. true) x.state x.hs over.final due ys u rest =
      moves-done (λ p. true) c between ys u rest x.state x.full over.final x.awaited due x.hs
      x.block x.good x.awaits x.ahead f x.are-due t.not_late in
      let n : x.state.core.position ≡ length before + length x.gs =
      x.place ∙ ap (λ (i : ℕ). i + length x.gs) over.place in
      let z : x.hs ≡ drop (d - length before) over.fs =
      left-above (length before) d x.state.core.position x.gs x.hs n x.held (ended x e)
      ∙ ap (drop (d - length before)) (sym x.frames) in (
        x.go,
        y.go,
        λ v i. let r = moved_all x.state x.hs due ys u rest y v
            i in (r.0, r.1 ∙ ap said_by z ∙ sym said),
      )
    where
      said : answers_of (drop (d - length before) later) ≡ said_by (drop (d - length before) over.fs)
      said =
          ap (λ (i : List Heard). answers_of (drop (d - length before) i)) over.later-is
          ∙ ap answers_of (drop-map heard_of (d - length before) over.fs)
          ∙ kept-answers (drop (d - length before) over.fs)

      ended : {es : List Edition} (x : Done (λ p. ltb p d) over.middle over.fs over.final es xs c between)
          → (d ≤ (model_of c).position) ⊎ (cut between ≡ [])
          → (d ≤ x.state.core.position) ⊎ (x.hs ≡ [])
      ended x (inl i) =
          inl (subst (λ (m : Model). d ≤ m.position) (ap model_of x.block ∙ core-whole x.state x.good) i)
      ended x (inr i) = inr (nothing-ahead x.full over.final (cut between) x.hs i x.ahead).0

  watched-there : (lent r : List ℕ) (m : ℕ) → Gave (image engine (length lent) end) end lent end r m 0
      → ByHistory radio (frames_kept (before ++ later)) (pairs_in (take m r))
  watched-there lent r m k =
      let i : take m r ≡ image_on (walk_on gateways growing (fresh_on opcode prefix) over.calls) =
      image-told end lent r m k ∙ ap (λ (s : List ℕ). image_on (held_whole s)) over.end_is
      ∙ ap image_on (held_whole_lem over.final over.good-end ∙ over.walked) in
      subst (λ (t : List ℕ). ByHistory radio (frames_kept (before ++ later)) (pairs_in t)) (sym i)
      (subst (λ (p : List (Frame radio)). ByHistory radio p
      (pairs_in (image_on (walk_on gateways growing (fresh_on opcode prefix) over.calls)))) (sym over.past)
      (demand3 opcode prefix ok over.calls).by-history)

  from-fresh : TakenOver before later more at end (take n left)
  unfolding pick
  from-fresh =
      record {
        restored = λ c r e q. (e ∙ ap (λ (t : Bool). pick t 0 10) restores.0, q ∙ restores.1);
        goes_on = λ j h i lent c r m k w p big. in_one lent c r m k w j h i p big;
        in_turns = λ j h i xs c rest due k t.
            let d = from-saved (λ p. true) j h i xs c rest due k t in (
              d.go,
              λ e q. let z = moved_all over.middle over.fs due xs c rest d e
                  q in (z.0, z.1 ∙ sym later-said),
            );
        ends = few;
        once = above;
        gapped = λ j h i given due e lent c r m k w p big. gap given due e lent c r m k w j h i p big;
        watched = watched-there;
      }

-- settings that returned 0 are in range
in-range : (b : Bool) → pick {A = ℕ} b 0 9 ≡ 0 → b ≡ true
unfolding pick
in-range true e = refl
in-range false e = absurd (omega arith)

-- Demand 3 holds of what firmware sees: for every begin that returned 0 (`bournejade_begin`), every session of calls
-- from the block that it left, and every save in it that returned 0.
pub taken-over : (opcode : ℕ) (prefix fresh : List ℕ) (r : ℕ) → r ≡ pick (sound_settings opcode prefix) 0 9
    → fresh ≡ begin opcode prefix → r ≡ 0
    → (before later : List Step) (out left at end : List ℕ) (n : ℕ)
    → Seen fresh before at → Gave (image engine (length out) at) at out at left n 0 → Seen at later end
    → TakenOver (heard_in before) (heard_in later) (accepted_in later) at end (take n left)
taken-over opcode prefix fresh r e f z before later out left at end n b g l =
    let ok : sound_settings opcode prefix ≡ true = in-range (sound_settings opcode prefix) (sym e ∙ z) in
    from-fresh opcode prefix ok (heard_in before) (heard_in later) (accepted_in later) at end out left n
    (over-records opcode prefix ok before later at end (subst (λ (s : List ℕ). Seen s before at) f b) l) g
