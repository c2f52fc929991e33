-- What the core engine says of its pairs at every frame, and that this is what the history rule has: `answer`.
-- Document 01, Watching, by history; document 02, T-05, T-14. Assumes nothing.
use Rattle.std.specs.Prelude.{ℕ, zero, suc, ◌<◌, ◌≡◌, refl, ◌⊎◌, Bool, true, false, cond, List, [], ◌∷◌, ◌++◌, map, length, eqb, ltb}
use Rattle.std.proofs.Common.{arith, sym, ap, ◌∙◌, subst, inl, inr, ltb-true, ltb-false}
use Rattle.std.proofs.lemmas.Bool.{false≢true}
use Rattle.std.proofs.Math.Option.{Option, none, some}
use Rattle.rule.specs.Base.{In, Distinct, map_some}
use Rattle.rule.specs.BaseLaws.{none≢some, in_left, in_right, in-append, in_map, map-in}
use Rattle.rule.specs.Radio.{Radio, Frame, add, cancel, packet, tick, other, most_monitors, most_pairs}
use Rattle.rule.specs.Engine.{find, Mons, Pair, key, keys, State, at_tick, move, begins, started, turns, run, least, drop_first, new_pair}
use Rattle.rule.proofs.DropsLaws.{First, first-in, first-gone, drop-or}
use Rattle.rule.proofs.MovesTurns.{in_held, Begins, begins-tells, tells-begins}
use Rattle.chains.specs.Told.{Event, start, stop, Told}

module _ (R : Radio) where
  abbrev pub start_of : Pair R → Event R
  start_of q = start R q.0 q.1

  abbrev pub stop_of : Pair R → Event R
  stop_of q = stop R q.0 q.1

  -- The first pair that keeps k; the pair that goes for a start at the RSSI r where there is no room.
  abbrev pub first_of : ℕ → List (Pair R) → List (Pair R)
  first_of k [] = []
  first_of k (q ∷ ps) = cond (eqb q.3 k) (q ∷ []) (first_of k ps)

  abbrev pub goes_for : ℕ → List (Pair R) → List (Pair R)
  goes_for r ps = cond (ltb (length ps) most_pairs) [] (first_of (least R r ps) ps)

  -- One handle's turn at a packet: the pair that goes, and the one that starts.
  abbrev pub gone_at : Option R.Mon → R.Pkt → ℕ → List (Pair R) → List (Pair R)
  gone_at none p h ps = []
  gone_at (some m) p h ps = cond (begins R m p h ps) (goes_for (R.rssi p) ps) []

  abbrev pub new_at : Option R.Mon → R.Pkt → ℕ → List (Pair R) → List (Pair R)
  new_at none p h ps = []
  new_at (some m) p h ps = cond (begins R m p h ps) (new_pair R p h ∷ []) []

  abbrev pub turn_says : Option R.Mon → R.Pkt → ℕ → List (Pair R) → List (Event R)
  turn_says o p h ps = map stop_of (gone_at o p h ps) ++ map start_of (new_at o p h ps)

  -- The turns of the handles below n.
  abbrev pub turns_say : Mons R → R.Pkt → ℕ → List (Pair R) → List (Event R)
  turns_say l p zero ps = []
  turns_say l p (suc n) ps = turns_say l p n ps ++ turn_says (find l n) p n (turns R l p n ps)

  -- The pair ends at a tick, or not.
  abbrev pub ended : Option (Pair R) → Pair R → List (Event R)
  ended none q = stop_of q ∷ []
  ended (some r) q = []

  abbrev pub stops_by : Mons R → List (Pair R) → List (Event R)
  stops_by l [] = []
  stops_by l (q ∷ ps) = ended (at_tick R (find l q.0) q) q ++ stops_by l ps

  -- What a frame says in a state.
  abbrev pub says : State R → Frame R → List (Event R)
  says s (add m) = []
  says s (cancel h) = []
  says s (packet p) = turns_say s.mons p most_monitors (map_some (move R s.mons (packet p)) s.pairs)
  says s tick = stops_by s.mons s.pairs
  says s other = []

  -- What a past said.
  abbrev pub told_by : List (Frame R) → Told R
  told_by [] = []
  told_by (f ∷ past) = (f, says (run R past) f) ∷ told_by past
