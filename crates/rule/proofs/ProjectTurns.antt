-- Fuller pairs: what a fuller engine needs for `agree` of Shows where its pairs hold more than the core's (windows,
-- data). `map_some` and the turns of one packet commute with the view of a pair, if one pair's move and one start do.
-- Assumes nothing.
use Rattle.std.specs.Prelude.{ℕ, zero, suc, ◌≡◌, refl, Bool, true, false, cond, List, [], ◌∷◌, ◌++◌, map, length, ltb, eqb}
use Rattle.std.proofs.Common.{ap, ◌∙◌}
use Rattle.std.proofs.Math.Option.{Option, none, some}
use Rattle.rule.specs.Base.{map_some, push}
use Rattle.rule.specs.BaseLaws.{map-append}
use Rattle.rule.specs.Radio.{Radio, most_pairs}
use Rattle.rule.specs.Engine.{find, Mons, Pair, begins, started, turns, least, drop_first, room_for, new_pair}

-- The view of what is kept, if anything is.
abbrev pub over : {A B : Type 0} → (A → B) → Option A → Option B
over g none = none
over g (some x) = some (g x)

-- One element's move commutes with the view: so does the move of all.
pub each-view : {A B : Type 0} (view : A → B) (f : A → Option A) (g : B → Option B) (l : List A)
    → ((x : A) → over view (f x) ≡ g (view x)) → map view (map_some f l) ≡ map_some g (map view l)
each-view view f g [] h = refl
each-view {A} {B} view f g (x ∷ l) h =
    pushed (f x) (map_some f l) ∙ rw (h x) (ap (push (g (view x))) (each-view view f g l h))
  where
    pushed : (o : Option A) (r : List A) → map view (push o r) ≡ push (over view o) (map view r)
    pushed none r = refl
    pushed (some y) r = refl

-- Q are the fuller pairs, `new h` the pair that handle h starts at the packet p.
module _ (R : Radio) (Q : Type 0) (view : Q → Pair R) (p : R.Pkt) (new : ℕ → Q) where
  -- The pairs without the first that shows k, and those that stay when one starts.
  abbrev pub drop_first_full : ℕ → List Q → List Q
  drop_first_full k [] = []
  drop_first_full k (q ∷ qs) = cond (eqb (view q).3 k) qs (q ∷ drop_first_full k qs)

  abbrev pub room_full : List Q → List Q
  room_full qs = cond (ltb (length (map view qs)) most_pairs) qs (drop_first_full (least R (R.rssi p) (map view qs)) qs)

  -- The turn of one handle, with the core's test on what is shown.
  abbrev pub started_full : Option R.Mon → ℕ → List Q → List Q
  started_full none h qs = qs
  started_full (some m) h qs = cond (begins R m p h (map view qs)) (room_full qs ++ (new h ∷ [])) qs

  -- The turns of the handles below n, in order.
  abbrev pub turns_full : Mons R → ℕ → List Q → List Q
  turns_full l zero qs = qs
  turns_full l (suc n) qs = started_full (find l n) n (turns_full l n qs)

  pub drop-view : (k : ℕ) (qs : List Q) → map view (drop_first_full k qs) ≡ drop_first R k (map view qs)
  drop-view k [] = refl
  drop-view k (q ∷ qs) = go (eqb (view q).3 k) (drop-view k qs)
    where
      go : (b : Bool) → map view (drop_first_full k qs) ≡ drop_first R k (map view qs)
          → map view (cond b qs (q ∷ drop_first_full k qs)) ≡ cond b (map view qs) (view q ∷ drop_first R k (map view qs))
      go true ih = refl
      go false ih = ap (λ r. view q ∷ r) ih

  pub room-view : (qs : List Q) → map view (room_full qs) ≡ room_for R (R.rssi p) (map view qs)
  room-view qs = go (ltb (length (map view qs)) most_pairs)
    where
      go : (b : Bool) → map view (cond b qs (drop_first_full (least R (R.rssi p) (map view qs)) qs))
          ≡ cond b (map view qs) (drop_first R (least R (R.rssi p) (map view qs)) (map view qs))
      go true = refl
      go false = drop-view (least R (R.rssi p) (map view qs)) qs

  module _ (is-new : (h : ℕ) → view (new h) ≡ new_pair R p h) where
    pub started-view : (o : Option R.Mon) (h : ℕ) (qs : List Q)
        → map view (started_full o h qs) ≡ started R o p h (map view qs)
    started-view none h qs = refl
    started-view (some m) h qs = go (begins R m p h (map view qs))
      where
        go : (b : Bool) → map view (cond b (room_full qs ++ (new h ∷ [])) qs)
            ≡ cond b (room_for R (R.rssi p) (map view qs) ++ (new_pair R p h ∷ [])) (map view qs)
        go true = map-append view (room_full qs) (new h ∷ []) ∙ ap (λ x. map view (room_full qs) ++ (x ∷ [])) (is-new h)
            ∙ ap (λ r. r ++ (new_pair R p h ∷ [])) (room-view qs)
        go false = refl

    -- What the fuller turns show is the core's turns.
    pub turns-view : (l : Mons R) (n : ℕ) (qs : List Q) → map view (turns_full l n qs) ≡ turns R l p n (map view qs)
    turns-view l zero qs = refl
    turns-view l (suc n) qs =
        started-view (find l n) n (turns_full l n qs) ∙ ap (started R (find l n) p n) (turns-view l n qs)
