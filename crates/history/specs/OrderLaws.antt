-- The order of the pairs held: by latest starts, one packet's starts by handle; and the induction over the past, of
-- what is held and of its order together. Assumes nothing.
use Rattle.std.specs.Prelude.{ℕ, zero, suc, ◌≡◌, refl, ◌⊎◌, Bool, true, false, cond, List, [], ◌∷◌, ◌++◌}
use Rattle.std.proofs.Common.{arith, sym, subst, inl, inr}
use Rattle.std.proofs.Math.Option.{Option, none, some}
use Rattle.rule.specs.Base.{In, Ordered, map_some}
use Rattle.rule.specs.BaseLaws.{in_all, in_map, ordered-each, ordered-snoc}
use Rattle.rule.specs.Radio.{Radio, Frame, add, cancel, packet, tick, other, most_monitors}
use Rattle.rule.specs.Rule.{StartAt, UnderWatch, InOrder}
use Rattle.rule.specs.Engine.{find, Pair, key, move, begins, started, turns, run, new_pair, room_for}
use Rattle.rule.proofs.DropsLaws.{room_in_lem, room-ordered}
use Rattle.rule.proofs.MovesTurns.{move-key, begins-tells, Begun, turns-in}
use Rattle.rule.proofs.FitsLaws.{run_fits}
use Rattle.history.specs.LiveLaws.{mons-are}
use Rattle.history.specs.LatestLaws.{PairOrder, old-old, old-new, new-new}
use Rattle.history.specs.HeldLaws.{Holds, run-stored, base-agree, begun-start, holds-one, holds-none}
use Rattle.history.specs.CasesLaws.{watch-under}

module _ (R : Radio) where
  module _ (past : List (Frame R)) (H : Holds R past (run R past).pairs)
      (o : Ordered (PairOrder R past) (run R past).pairs) where
    under : (q : Pair R) → In q (run R past).pairs → UnderWatch R past q.0 q.1
    under q i = watch-under R past q.0 q.1 q.2 q.3 (H.to q i)

    -- The pairs that were held keep their order.
    moved : (f : Frame R) → Ordered (PairOrder R (f ∷ past))
        (map_some (move R (run R past).mons f) (run R past).pairs)
    moved f = ordered-each (PairOrder R past) (PairOrder R (f ∷ past)) (move R (run R past).mons f)
        (run R past).pairs
        one o
      where
        one : (x y x' y' : Pair R) → In x (run R past).pairs → In y (run R past).pairs → PairOrder R past x y
            → move R (run R past).mons f x ≡ some x' → move R (run R past).mons f y ≡ some y'
            → PairOrder R (f ∷ past) x' y'
        one x y x' y' i j r p q =
            let a = sym (move-key R (run R past).mons f x x' p) in
            let b = sym (move-key R (run R past).mons f y y' q) in
            let w = old-old R f past (key R x) (key R y) (under x i) (under y j) r in
            subst (λ z. InOrder R (f ∷ past) (key R x') z) b (subst (λ z. InOrder R (f ∷ past) z (key R y)) a w)

    module _ (p : R.Pkt) where
      abbrev base : List (Pair R)
      base = map_some (move R (run R past).mons (packet p)) (run R past).pairs

      base-under : (q : Pair R) → In q base → UnderWatch R past q.0 q.1
      base-under q i =
          (base-agree R past (run R past).mons (mons-are R past) (run R past).pairs H p q.0 q.1).0
          (in_map (key R) base q i)

      start_of : (n : ℕ) (q : Pair R) (b : Begun R (run R past).mons p n base q)
          → StartAt R (packet p ∷ past) zero b.handle (R.dev p)
      start_of n q b =
          begun-start R past (run R past).mons (mons-are R past) (run R past).pairs H p
          (run-stored R past) (run_fits R past).once o n q b

      -- A start goes behind all that stand there.
      last_one : (n : ℕ) (m : R.Mon) → find (run R past).mons n ≡ some m
          → begins R m p n (turns R (run R past).mons p n base) ≡ true
          → (q : Pair R) → In q base ⊎ Begun R (run R past).mons p n base q
          → PairOrder R (packet p ∷ past) q (new_pair R p n)
      last_one n m e t q r = go r
        where
          now : StartAt R (packet p ∷ past) zero n (R.dev p)
          now = start_of (suc n) (new_pair R p n) (record {
            handle = n;
            mon = m;
            below = omega arith;
            stored = e;
            begin = begins-tells R m p n (turns R (run R past).mons p n base) t;
            is = refl;
          })

          go : In q base ⊎ Begun R (run R past).mons p n base q → PairOrder R (packet p ∷ past) q (new_pair R p n)
          go (inl i) = old-new R (packet p) past (key R q) (n, R.dev p) (base-under q i) now
          go (inr b) =
              subst (λ x. InOrder R (packet p ∷ past) (key R x) (n, R.dev p)) (sym b.is)
              (new-new R (packet p) past (b.handle, R.dev p) (n, R.dev p) (start_of n q b) now b.below)

      turns-ordered : (n : ℕ) → Ordered (PairOrder R (packet p ∷ past)) (turns R (run R past).mons p n base)
      turns-ordered zero = moved (packet p)
      turns-ordered (suc n) = at (find (run R past).mons n) refl (turns-ordered n)
        where
          at : (x : Option R.Mon) → find (run R past).mons n ≡ x
              → Ordered (PairOrder R (packet p ∷ past)) (turns R (run R past).mons p n base)
              → Ordered (PairOrder R (packet p ∷ past)) (started R x p n (turns R (run R past).mons p n base))
          at none e ih = ih
          at (some m) e ih = go (begins R m p n (turns R (run R past).mons p n base)) refl
            where
              go : (b : Bool) → begins R m p n (turns R (run R past).mons p n base) ≡ b
                  → Ordered (PairOrder R (packet p ∷ past))
                  (cond b (room_for R (R.rssi p) (turns R (run R past).mons p n base) ++ (new_pair R p n ∷ []))
                  (turns R (run R past).mons p n base))
              go true t =
                  ordered-snoc (PairOrder R (packet p ∷ past))
                  (room_for R (R.rssi p) (turns R (run R past).mons p n base)) (new_pair R p n)
                  (room-ordered R (PairOrder R (packet p ∷ past)) (R.rssi p) (turns R (run R past).mons p n base) ih)
                  (in_all (λ y. PairOrder R (packet p ∷ past) y (new_pair R p n))
                  (room_for R (R.rssi p) (turns R (run R past).mons p n base))
                  (λ q i. last_one n m e t q (turns-in R (run R past).mons p n base q
                  (room_in_lem R (R.rssi p) (turns R (run R past).mons p n base) q i))))
              go false t = ih

  order-one : (f : Frame R) (past : List (Frame R)) → Holds R past (run R past).pairs
      → Ordered (PairOrder R past) (run R past).pairs → Ordered (PairOrder R (f ∷ past)) (run R (f ∷ past)).pairs
  order-one (add m) past H o = moved past H o (add m)
  order-one (cancel g) past H o = moved past H o (cancel g)
  order-one (packet p) past H o = turns-ordered past H o p most_monitors
  order-one tick past H o = moved past H o tick
  order-one other past H o = moved past H o other

  -- The engine holds what the rule puts under watch, with the right numbers, in the order of latest starts. The two go
  -- together: which pair a packet displaces depends on the order.
  pub holds-ordered : (past : List (Frame R))
      → Holds R past (run R past).pairs × Ordered (PairOrder R past) (run R past).pairs
  holds-ordered [] = (holds-none R, tt)
  holds-ordered (f ∷ past) =
      let r = holds-ordered past in
      (holds-one R f past r.0 r.1, order-one f past r.0 r.1)

  pub holds : (past : List (Frame R)) → Holds R past (run R past).pairs
  holds past = (holds-ordered past).0

  pub order : (past : List (Frame R)) → Ordered (PairOrder R past) (run R past).pairs
  order past = (holds-ordered past).1
