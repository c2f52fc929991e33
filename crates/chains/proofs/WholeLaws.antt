-- A run with any number of failovers is an unbroken session of the same calls: `unbroken`. By induction over the
-- moves from demand 3 for any engine that takes additions (`taken-over` of the crate sessions). Assumes nothing.
use Rattle.std.specs.Prelude.{◌≡◌, ◌⊎◌}
use Rattle.std.proofs.Math.Path.{refl, sym, ap, subst}
use Rattle.std.proofs.Common.{◌∙◌, inl, inr, drop_at}
use Rattle.std.proofs.Math.Option.{none, some}
use mathlib.Core.List.{List, [], ◌∷◌, ◌++◌, map, append_assoc, append-nil}
use Prim.Native.Nat.{ℕ, zero, ◌+◌}
use native.Mathlib.Omega.{arith}
use Rattle.std.proofs.Math.ListN.{length, drop, length-map}
use Rattle.rule.specs.Base.{In}
use Rattle.rule.specs.BaseLaws.{in_left, in-append, all_in, in_all, map-append}
use Rattle.sessions.specs.Machine.{Machine, Outcome, refused, done, Laws}
use Rattle.sessions.specs.Session.{give, save, image, reply, state_after, after}
use Rattle.sessions.specs.Saved.{Replayed}
use Rattle.sessions.proofs.RefusalsLaws.{save-leaves}
use Rattle.sessions.specs.Additions.{Growing, Act, call, adds, reply_to, after_act, walk_on, ran_by, trace_on, added_by, added_on, frames_on, answers_on, journal_on, Step, added_in, replay_on, SavedAmong, TakenOver}
use Rattle.sessions.proofs.GivenLaws.{walk-on, trace-on, taken-over}
use Rattle.chains.specs.Chain.{Image, Move, calls, failover, numbered, calls_of, Now, image_in, saved_by, begun, called, journal_now}
use Rattle.chains.specs.Chain.{took_over, restored, failed_over, play, May, Proper, Unbroken}
use Rattle.chains.proofs.NumbersLaws.{numbered-append, numbered-drop, numbered-same, widen}

-- a save that is done gives back its state
image-leaves : (M : Machine) (lent : ℕ) (s t : M.S) (wrote : List ℕ) → image M lent s ≡ done t wrote → t ≡ s
unfolding after reply state_after
image-leaves M lent s t wrote e =
    sym (ap (λ (o : Outcome M.S). state_after s o) e) ∙ save-leaves M lent s

module _ (M : Machine) (𝓛 : Laws M) (G : Growing M) where
  -- one call more
  one_answer : (s : M.S) (c : Act M G) → answers_on M G s (c ∷ []) ≡ map (λ e. e.wrote) (ran_by M G s c)
  unfolding answers_on trace_on
  one_answer s c = ap (map (λ e. e.wrote)) (append-nil (ran_by M G s c))

  one-trace : (s : M.S) (c : Act M G) → trace_on M G s (c ∷ []) ≡ ran_by M G s c
  unfolding trace_on
  one-trace s c = append-nil (ran_by M G s c)

  one-added : (s : M.S) (c : Act M G) → added_on M G s (c ∷ []) ≡ added_by M G s c
  unfolding added_on
  one-added s c = append-nil (added_by M G s c)

  walk-one : (s : M.S) (c : Act M G) → walk_on M G s (c ∷ []) ≡ after_act M G s c
  unfolding walk_on
  walk-one s c = refl

  answers-append : (s : M.S) (cs ds : List (Act M G))
      → answers_on M G s (cs ++ ds) ≡ answers_on M G s cs ++ answers_on M G (walk_on M G s cs) ds
  unfolding answers_on
  answers-append s cs ds =
      ap (map (λ e. e.wrote)) (trace-on M 𝓛 G s cs ds)
      ∙ map-append (λ e. e.wrote) (trace_on M G s cs) (trace_on M G (walk_on M G s cs) ds)

  lines-append : (s : M.S) (cs ds : List (Act M G))
      → map (λ e. e.line) (trace_on M G s (cs ++ ds))
      ≡ map (λ e. e.line) (trace_on M G s cs) ++ map (λ e. e.line) (trace_on M G (walk_on M G s cs) ds)
  lines-append s cs ds =
      ap (map (λ e. e.line)) (trace-on M 𝓛 G s cs ds)
      ∙ map-append (λ e. e.line) (trace_on M G s cs) (trace_on M G (walk_on M G s cs) ds)

  added-append : (s : M.S) (cs ds : List (Act M G))
      → added_on M G s (cs ++ ds) ≡ added_on M G s cs ++ added_on M G (walk_on M G s cs) ds
  unfolding added_on walk_on
  added-append s [] ds = refl
  added-append s (c ∷ cs) ds =
      ap {B = List G.A} (λ l. added_by M G s c ++ l) (added-append (after_act M G s c) cs ds)
      ∙ sym (append_assoc (added_by M G s c) (added_on M G (after_act M G s c) cs)
      (added_on M G (walk_on M G (after_act M G s c) cs) ds))

  count-both : (s : M.S) (cs : List (Act M G))
      → length (answers_on M G s cs) ≡ length (map (λ e. e.line) (trace_on M G s cs))
  unfolding answers_on
  count-both s cs = length-map (trace_on M G s cs) (λ e. e.wrote) ∙ sym (length-map (trace_on M G s cs) (λ e. e.line))

  module _ (fresh : M.S) (origin : M.pos fresh ≡ 0) where
    -- an image of the run is one of the session, and its number of additions those accepted before it
    record Of (cs : List (Act M G)) (x : Image) : Type 0 where
      at : M.S
      later : List (Act M G)
      saved : SavedAmong M G fresh cs x.after x.octets at later
      count : x.added ≡ length (added_on M G fresh saved.before)

    -- .. and one of a longer session
    of-longer : (cs ds : List (Act M G)) (x : Image) → Of cs x → Of (cs ++ ds) x
    of-longer cs ds x o =
        record {
          at = o.at;
          later = o.later ++ ds;
          saved = record {
            before = o.saved.before;
            lent = o.saved.lent;
            split = ap (λ l. l ++ ds) o.saved.split
                ∙ append_assoc o.saved.before (call (save o.saved.lent) ∷ o.later) ds;
            count = o.saved.count;
            state = o.saved.state;
            saved = o.saved.saved;
          };
          count = o.count;
        }

    -- the additions accepted after an image
    later-added : (cs : List (Act M G)) (x : Image) (o : Of cs x)
        → drop x.added (added_on M G fresh cs) ≡ added_on M G o.at o.later
    unfolding added_on added_by after_act reply_to after
    later-added cs x o =
        let bs : List (Act M G) = o.saved.before in
        let stay : after_act M G o.at (call (save o.saved.lent)) ≡ o.at =
        save-leaves M o.saved.lent o.at in
        let all : added_on M G fresh cs ≡ added_on M G fresh bs ++ added_on M G o.at o.later =
        rw (
          o.saved.split,
          added-append fresh bs (call (save o.saved.lent) ∷ o.later),
          ← o.saved.state,
          stay,
        ) in
        rw (o.count, all)
        (drop_at (added_on M G fresh bs) (added_on M G o.at o.later) (length (added_on M G fresh bs)) refl)

    -- the run stands where the session of its calls stands
    record Stands (cs : List (Act M G)) (n : Now M G) : Type 0 where
      state : n.state ≡ walk_on M G fresh cs
      frames : n.frames ≡ map (λ e. e.line) (trace_on M G fresh cs)
      added : n.added ≡ added_on M G fresh cs
      right : (x : ℕ × List ℕ) → In x n.given → In x (numbered zero (answers_on M G fresh cs))
      all : (x : ℕ × List ℕ) → In x (numbered zero (answers_on M G fresh cs)) → In x n.given
      images : (x : Image) → In x n.images → Of cs x

    begun-stands : Stands [] (begun M G fresh)
    unfolding begun walk_on trace_on added_on answers_on numbered
    begun-stands =
        record {
          state = refl;
          frames = refl;
          added = refl;
          right = λ x i. absurd i;
          all = λ x i. absurd i;
          images = λ x i. absurd i;
        }

    -- a save
    saved-image : (cs : List (Act M G)) (c : Act M G) (k a : ℕ)
        → k ≡ length (map (λ e. e.line) (trace_on M G fresh cs))
        → a ≡ length (added_on M G fresh cs)
        → (x : Image) → In x (saved_by M G k a (walk_on M G fresh cs) c) → Of (cs ++ (c ∷ [])) x
    unfolding saved_by image_in frames_on
    saved-image cs (adds y) k a e f x i = absurd i
    saved-image cs (call (give lent w r)) k a e f x i = absurd i
    saved-image cs (call (save lent)) k a e f x i = go (image M lent (walk_on M G fresh cs)) refl i
      where
        go : (o : Outcome M.S) → image M lent (walk_on M G fresh cs) ≡ o → In x (image_in M G k a o)
            → Of (cs ++ (call (save lent) ∷ [])) x
        go (refused n) q h = absurd h
        go (done t wrote) q (inr h) = absurd h
        go (done t wrote) q (inl h) =
            record {
              at = walk_on M G fresh cs;
              later = [];
              saved = record {
                before = cs;
                lent = lent;
                split = refl;
                count = ap (λ (y : Image). y.after) h ∙ e ∙ length-map (trace_on M G fresh cs) (λ e. e.line);
                state = refl;
                saved = q ∙ ap (λ (u : M.S). done u wrote) (image-leaves M lent (walk_on M G fresh cs) t wrote q)
                    ∙ ap (λ (y : Image). done (walk_on M G fresh cs) y.octets) (sym h);
              };
              count = ap (λ (y : Image). y.added) h ∙ f;
            }

    -- a call
    called-stands : (cs : List (Act M G)) (n : Now M G) (c : Act M G) → Stands cs n
        → Stands (cs ++ (c ∷ [])) (called M G n c)
    unfolding called
    called-stands cs n c v =
        let s : n.state ≡ walk_on M G fresh cs = v.state in
        let f : n.frames ≡ map (λ e. e.line) (trace_on M G fresh cs) = v.frames in
        let one : answers_on M G (walk_on M G fresh cs) (c ∷ []) ≡ map (λ e. e.wrote) (ran_by M G n.state c) =
        rw s (one_answer (walk_on M G fresh cs) c) in
        let nought : 0 + length (map (λ e. e.line) (trace_on M G fresh cs))
        ≡ length (map (λ e. e.line) (trace_on M G fresh cs)) =
        omega arith in
        let more : numbered zero (answers_on M G fresh (cs ++ (c ∷ [])))
        ≡ numbered zero (answers_on M G fresh cs)
        ++ numbered (length n.frames) (map (λ e. e.wrote) (ran_by M G n.state c)) =
        ap (numbered zero) (answers-append fresh cs (c ∷ []))
        ∙ numbered-append zero (answers_on M G fresh cs) (answers_on M G (walk_on M G fresh cs) (c ∷ []))
        ∙ rw (one, f, count-both fresh cs, nought) in
        record {
          state = ap (λ (t : M.S). after_act M G t c) s
              ∙ sym (walk-on M 𝓛 G fresh cs (c ∷ []) ∙ walk-one (walk_on M G fresh cs) c);
          frames = rw (s, f) (sym (lines-append fresh cs (c ∷ [])
              ∙ ap (λ l. map (λ e. e.line) (trace_on M G fresh cs) ++ map (λ e. e.line) l)
              (one-trace (walk_on M G fresh cs) c)));
          added = rw (s, v.added) (sym (added-append fresh cs (c ∷ [])
              ∙ ap (λ l. added_on M G fresh cs ++ l) (one-added (walk_on M G fresh cs) c)));
          right = λ x i. subst (λ l. In x l) (sym more)
              (widen n.given (numbered zero (answers_on M G fresh cs)) _ x (v.right x) i);
          all = λ x i. widen (numbered zero (answers_on M G fresh cs)) n.given _ x (v.all x)
              (subst (λ l. In x l) more i);
          images = λ x i.
              go x (in-append x n.images (saved_by M G (length n.frames) (length n.added) n.state c) i);
        }
      where
        go : (x : Image) → In x n.images ⊎ In x (saved_by M G (length n.frames) (length n.added) n.state c)
            → Of (cs ++ (c ∷ [])) x
        go x (inl i) = of-longer cs (c ∷ []) x (v.images x i)
        go x (inr i) =
            saved-image cs c (length n.frames) (length n.added) (ap length v.frames) (ap length v.added) x
            (subst (λ (t : M.S). In x (saved_by M G (length n.frames) (length n.added) t c)) v.state i)

    -- a failover: what it does
    ready : (cs : List (Act M G)) (n : Now M G) (x : Image) (j : ℕ) (p : List (Step M G)) (lent : ℕ → ℕ) → Stands cs n
        → May M G n x j p lent
        → (at : M.S) × (M.decode x.octets ≡ some at)
        × (replay_on M G lent at p
        ≡ record { state = n.state; answers = drop x.after (answers_on M G fresh cs); stop = none })
    unfolding journal_now journal_on
    ready cs n x j p lent v may =
        let o = v.images x may.saved in
        let w : TakenOver M G fresh cs x.after x.octets o.at o.later =
        taken-over M 𝓛 G fresh origin cs x.after x.octets o.at o.later o.saved in
        let again : added_in M G p ≡ added_on M G o.at o.later =
        may.again ∙ ap (λ l. drop x.added l) v.added ∙ later-added cs x o in (
          o.at,
          w.restored,
          rw v.state
              (w.goes_on j may.least may.most p (rw (← v.frames) may.lines) again may.in-time lent
              may.enough),
        )

    failed-stands : (cs : List (Act M G)) (n : Now M G) (x : Image) (j : ℕ) (p : List (Step M G)) (lent : ℕ → ℕ)
        → Stands cs n
        → May M G n x j p lent → Stands cs (failed_over M G n x p lent)
    unfolding failed_over restored took_over
    failed-stands cs n x j p lent v may =
        let w = ready cs n x j p lent v may in
        rw (w.1, w.2)
        (record {
          state = v.state;
          frames = v.frames;
          added = v.added;
          right = λ y i. go y
              (in-append y n.given (numbered x.after (drop x.after (answers_on M G fresh cs))) i);
          all = λ y i. in_left y n.given _ (v.all y i);
          images = v.images;
        })
      where
        go : (y : ℕ × List ℕ) → In y n.given ⊎ In y (numbered x.after (drop x.after (answers_on M G fresh cs)))
            → In y (numbered zero (answers_on M G fresh cs))
        go y (inl i) = v.right y i
        go y (inr i) =
            let z : 0 + x.after ≡ x.after = omega arith in
            numbered-drop x.after zero (answers_on M G fresh cs) y (rw z i)

    plays : (cs : List (Act M G)) (n : Now M G) (moves : List (Move M G)) → Stands cs n → Proper M G n moves
        → Stands (cs ++ calls_of M G moves) (play M G n moves)
    unfolding play calls_of
    plays cs n [] v p = rw (append-nil cs) v
    plays cs n (calls c ∷ moves) v p =
        subst (λ l. Stands l (play M G (called M G n c) moves)) (append_assoc cs (c ∷ []) (calls_of M G moves))
        (plays (cs ++ (c ∷ [])) (called M G n c) moves (called-stands cs n c v) p)
    plays cs n (failover x j q lent ∷ moves) v p =
        plays cs (failed_over M G n x q lent) moves (failed-stands cs n x j q lent v p.0) p.1

    -- Any number of failovers: the run is the unbroken session of its calls.
    pub unbroken : (moves : List (Move M G)) → Proper M G (begun M G fresh) moves → Unbroken M G fresh moves
    unbroken moves p =
        let cs : List (Act M G) = calls_of M G moves in
        let v : Stands cs (play M G (begun M G fresh) moves) = plays [] (begun M G fresh) moves begun-stands p in
        record {
          state = v.state;
          frames = v.frames;
          added = v.added;
          answer = λ ts t.
              numbered-same zero ts (answers_on M G fresh cs)
              (t.count ∙ ap length v.frames ∙ sym (count-both fresh cs))
              (in_all (λ x. In x (numbered zero (answers_on M G fresh cs))) (numbered zero ts)
              (λ x i. v.right x
              (all_in (λ y. In y (play M G (begun M G fresh) moves).given) (numbered zero ts) t.given x i)));
          taken = record {
            count = count-both fresh cs ∙ sym (ap length v.frames);
            given = in_all (λ x. In x (play M G (begun M G fresh) moves).given)
                (numbered zero (answers_on M G fresh cs)) v.all;
          };
          ready = λ x j q lent may.
              let w = ready cs (play M G (begun M G fresh) moves) x j q lent v may in
              record {
                at = w.0;
                restores = w.1;
                stop = ap (λ (r : Replayed M.S). r.stop) w.2;
                state = ap (λ (r : Replayed M.S). r.state) w.2;
              };
        }
