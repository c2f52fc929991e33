-- What a state keeps in every step: monitors in rising handle order, handles 0 to 15, all accepted; at most 64 pairs,
-- distinct, of live handles, with fewer ticks than the run of their monitor (document 01, The image: Sound). It holds
-- of every state from which it is kept, not only of those that a past reaches. Assumes nothing.
use Rattle.std.specs.Prelude.{ℕ, zero, ◌≤◌, ◌<◌, ◌≡◌, refl, ◌⊎◌, Bool, true, false, cond, List, [], ◌∷◌, length}
use Rattle.std.proofs.Common.{zero-le, arith, sym, ap, subst, inl, inr}
use Rattle.std.proofs.Math.Option.{Option, none, some}
use Rattle.rule.specs.Base.{In, All, Distinct, map_some}
use Rattle.rule.specs.BaseLaws.{all_in, in_all, each_in, each-length, each-distinct}
use Rattle.rule.specs.Radio.{Radio, Frame, add, cancel, packet, tick, other, most_monitors, most_pairs}
use Rattle.rule.specs.Engine.{find, slot, insert_at, Mons, Pair, State, key, keys, mons_after, move}
use Rattle.rule.specs.Engine.{turns, step, fresh, run}
use Rattle.rule.specs.Finds.{Rising}
use Rattle.rule.proofs.FindsLaws.{find-all, rising-insert, rising-remove, rising-length, all_insert}
use Rattle.rule.proofs.FindsLaws.{all_remove, slot-some}
use Rattle.rule.proofs.MovesTurns.{move-key, move-timed, turns-length, turns-once, turns-in, Begun}

module _ (R : Radio) where
  -- A stored monitor has a handle from 0 to 15 and accepted settings.
  abbrev pub Stored : ℕ × R.Mon → Type 0
  Stored x = (x.0 < most_monitors) × (R.okay x.1 ≡ true)

  -- A pair's handle is live, and its ticks are below its monitor's run.
  pub record Timed (l : Mons R) (q : Pair R) : Type 0 where
    pub mon : R.Mon
    pub live : find l q.0 ≡ some mon
    pub below : q.2 < R.run mon

  pub record Fits (s : State R) : Type 0 where
    pub rising : Rising s.mons
    pub stored : All Stored s.mons
    pub room : length s.pairs ≤ most_pairs
    pub once : Distinct (keys R s.pairs)
    pub timed : All (Timed s.mons) s.pairs

  -- The monitors after a frame.
  mons-fit : (f : Frame R) (l : Mons R) → Rising l → All Stored l
      → Rising (mons_after R f l) × All Stored (mons_after R f l)
  mons-fit (add m) l r a = go (R.okay m) refl
    where
      at : (o : Option ℕ) → slot l most_monitors zero ≡ o → R.okay m ≡ true
          → Rising (insert_at o m l) × All Stored (insert_at o m l)
      at none e k = (r, a)
      at (some g) e k =
          let w = slot-some l most_monitors zero g e in
          (rising-insert g m l w.free r, all_insert Stored g m l (omega (arith, w.below), k) a)

      go : (b : Bool) → R.okay m ≡ b
          → Rising (cond b (insert_at (slot l most_monitors zero) m l) l) × All Stored
          (cond b (insert_at (slot l most_monitors zero) m l) l)
      go true e = at (slot l most_monitors zero) refl e
      go false e = (r, a)
  mons-fit (cancel h) l r a = (rising-remove h l r, all_remove Stored h l a)
  mons-fit (packet p) l r a = (r, a)
  mons-fit tick l r a = (r, a)
  mons-fit other l r a = (r, a)

  -- The pairs that were held, after a frame.
  pub moved-timed : (f : Frame R) (l : Mons R) (ps : List (Pair R)) → All (Timed l) ps
      → All (Timed (mons_after R f l)) (map_some (move R l f) ps)
  moved-timed f l ps a = in_all (Timed (mons_after R f l)) (map_some (move R l f) ps) one
    where
      one : (q : Pair R) → In q (map_some (move R l f) ps) → Timed (mons_after R f l) q
      one q i =
          let w = each_in (move R l f) ps q i in
          let t = all_in (Timed l) ps a w.was w.place in
          let z = move-timed R l f w.was q t.mon t.live t.below w.moved in
          let k : q.0 ≡ w.was.0 = ap (λ x. x.0) (move-key R l f w.was q w.moved) in
          record {
            mon = t.mon;
            live = subst (λ h. find (mons_after R f l) h ≡ some t.mon) (sym k) z.0;
            below = z.1;
          }

  module _ (s : State R) (fit : Fits s) where
    kept : (f : Frame R) → Fits (record {
      mons = mons_after R f s.mons;
      pairs = map_some (move R s.mons f) s.pairs;
    })
    kept f =
        let w = mons-fit f s.mons fit.rising fit.stored in
        let n = each-length (move R s.mons f) s.pairs in
        record {
          rising = w.0;
          stored = w.1;
          room = omega (arith, n, fit.room);
          once = each-distinct (key R) (move R s.mons f) s.pairs (λ x y. move-key R s.mons f x y) fit.once;
          timed = moved-timed f s.mons s.pairs fit.timed;
        }

    new-timed : (p : R.Pkt) (ps : List (Pair R)) (q : Pair R) → Begun R s.mons p most_monitors ps q
        → Timed s.mons q
    new-timed p ps q b =
        let k = find-all Stored s.mons b.handle b.mon fit.stored b.stored in
        record {
          mon = b.mon;
          live = subst (λ x. find s.mons x.0 ≡ some b.mon) (sym b.is) b.stored;
          below = subst (λ x. x.2 < R.run b.mon) (sym b.is) (R.okay-run b.mon k.1);
        }

    after-packet : (p : R.Pkt) → Fits (step R s (packet p))
    after-packet p =
        let ps : List (Pair R) = map_some (move R s.mons (packet p)) s.pairs in
        let k = kept (packet p) in
        record {
          rising = fit.rising;
          stored = fit.stored;
          room = turns-length R s.mons p most_monitors ps k.room;
          once = turns-once R s.mons p most_monitors ps k.once;
          timed = in_all (Timed s.mons) (turns R s.mons p most_monitors ps)
              (λ q i. one q (turns-in R s.mons p most_monitors ps q i));
        }
      where
        one : (q : Pair R) → In q (map_some (move R s.mons (packet p)) s.pairs) ⊎ Begun R s.mons p most_monitors
            (map_some (move R s.mons (packet p)) s.pairs) q → Timed s.mons q
        one q (inl i) = all_in (Timed s.mons) (map_some (move R s.mons (packet p)) s.pairs)
            (kept (packet p)).timed q i
        one q (inr b) = new-timed p (map_some (move R s.mons (packet p)) s.pairs) q b

    -- A step keeps it.
    pub step_fits : (f : Frame R) → Fits (step R s f)
    step_fits (add m) = kept (add m)
    step_fits (cancel h) = kept (cancel h)
    step_fits (packet p) = after-packet p
    step_fits tick = kept tick
    step_fits other = kept other

  pub fresh-fits : Fits (fresh R)
  fresh-fits = record { rising = tt; stored = tt; room = zero-le; once = tt; timed = tt }

  -- Every past reaches such a state.
  pub run_fits : (past : List (Frame R)) → Fits (run R past)
  run_fits [] = fresh-fits
  run_fits (f ∷ past) = step_fits (run R past) (run_fits past) f

  -- At most 16 monitors.
  pub mons-count : (s : State R) → Fits s → length s.mons ≤ most_monitors
  mons-count s fit =
      let w = rising-length s.mons zero most_monitors zero-le fit.rising (low s.mons fit.stored) in
      omega (arith, w)
    where
      low : (l : Mons R) → All Stored l → All (λ y. (zero ≤ y.0) × (y.0 < most_monitors)) l
      low [] a = tt
      low (x ∷ l) a = ((zero-le, a.0.0), low l a.1)
