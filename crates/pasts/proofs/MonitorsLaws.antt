-- The monitors and the filter that past frames say are those that document 01's engine holds. Assumes nothing.
use Rattle.std.specs.Prelude.{ℕ, zero, suc, ◌+◌, ◌≤◌, ◌<◌, ◌≡◌, Bool, ◌&&◌, List, [], ◌∷◌, ◌++◌, leb, length, get_or}
use Rattle.std.proofs.Math.Path.{refl, sym}
use Rattle.std.proofs.Common.{◌∙◌, arith}
use Rattle.std.proofs.Math.Bool.{true, false}
use Rattle.std.proofs.Math.Option.{Option, none, some}
use borrow.Author.Tests.{eqb-true, eqb-false, eq-eqb, ne_eqb}
use Rattle.std.proofs.Math.Dec.{eqb}
use Rattle.laws.specs.Tests.{pick}
use Rattle.laws.specs.TestsLaws.{and_left, cases_eq}
use Rattle.rule.specs.Base.{All}
use Rattle.rule.specs.BaseLaws.{none≢some, some_inj}
use Rattle.rule.specs.Engine.{find, first_or, slot, insert, insert_at, remove}
use Rattle.rule.specs.Finds.{Rising}
use Rattle.rule.proofs.FindsLaws.{find-above, find-insert-same, find-insert-other, find-remove-same, find-remove-other, all_insert, all_remove, rising-insert, rising-remove, Lowest, slot-some}
use Rattle.model.specs.Types.{Monitor}
use Rattle.model.specs.Frames.{Typed, command, packet, tick, bad}
use Rattle.model.specs.Monitors.{accepts, monitor_of}
use Rattle.model.specs.Commands.{adds_monitor, params_in, present, sub_of, table}
use Rattle.model.specs.Layout.{most_monitors}
use Rattle.pasts.specs.Pair.{cancels}
use Rattle.pasts.specs.Past.{is_at, live_from, lowest_free, monitor_after, monitors_after, live_one, offered, offers}

-- the lowest handle that is not live, told by what each names or by the list
pub free-slot : (l : List (ℕ × Monitor)) (live : ℕ → Option Monitor) → ((h : ℕ) → live h ≡ find l h) → (n k : ℕ)
    → lowest_free live n k ≡ slot l n k
unfolding lowest_free pick present
free-slot l live same zero k = refl
free-slot l live same (suc n) k = rw (same k) (go (find l k) (free-slot l live same n (suc k)))
  where
    go : (o : Option Monitor) → lowest_free live n (suc k) ≡ slot l n (suc k)
        → pick (present o) (lowest_free live n (suc k)) (some k) ≡ first_or o k (slot l n (suc k))
    go none e = refl
    go (some m) e = e

-- a list of rising handles is what it is listed as
pub listed_same : (f g : ℕ → Option Monitor) (n k : ℕ) → ((h : ℕ) → k ≤ h → f h ≡ g h)
    → live_from f n k ≡ live_from g n k
unfolding live_from
listed_same f g zero k same = refl
listed_same f g (suc n) k same = rw (same k (omega arith), listed_same f g n (suc k) (λ h b. same h (omega arith)))

find_first : (x : ℕ × Monitor) (l : List (ℕ × Monitor)) (h : ℕ) → x.0 < h → find (x ∷ l) h ≡ find l h
find_first x l h b = rw (ne_eqb x.0 h (λ e. omega arith))

pub listed-find : (n k : ℕ) (l : List (ℕ × Monitor)) → Rising l → All (λ y. (k ≤ y.0) × (y.0 < k + n)) l
    → live_from (find l) n k ≡ l
unfolding live_from live_one
listed-find zero k [] r a = refl
listed-find zero k (x ∷ l) r a = absurd (omega (arith, a.0.0, a.0.1))
listed-find (suc n) k [] r a = listed-find n (suc k) [] tt tt
listed-find (suc n) k (x ∷ l) r a =
    cases_eq x.0 k (λ e. here e (λ r a. listed-find n (suc k) l r a))
    (λ d. above d (λ r a. listed-find n (suc k) (x ∷ l) r a))
  where
    up : (j : List (ℕ × Monitor)) → All (λ y. x.0 < y.0) j → All (λ y. (k ≤ y.0) × (y.0 < k + suc n)) j → k ≤ x.0
        → All (λ y. (suc k ≤ y.0) × (y.0 < suc k + n)) j
    up [] b c q = tt
    up (y ∷ j) b c q = ((omega (arith, b.0), omega (arith, c.0.1)), up j b.1 c.1 q)

    here : x.0 ≡ k → (Rising l → All (λ y. (suc k ≤ y.0) × (y.0 < suc k + n)) l → live_from (find l) n (suc k) ≡ l)
        → live_one k (find (x ∷ l) k) ++ live_from (find (x ∷ l)) n (suc k) ≡ x ∷ l
    here e ih =
        let i : live_from (find l) n (suc k) ≡ l = ih r.1 (up l r.0 a.1 a.0.0) in
        let j : live_from (find (x ∷ l)) n (suc k) ≡ live_from (find l) n (suc k) =
        listed_same (find (x ∷ l)) (find l) n (suc k) (λ h b. find_first x l h (omega arith)) in
        rw (eq-eqb x.0 k e, j, i, ← e)

    above : (x.0 ≡ k → ⊥)
        → (Rising (x ∷ l) → All (λ y. (suc k ≤ y.0) × (y.0 < suc k + n)) (x ∷ l)
        → live_from (find (x ∷ l)) n (suc k) ≡ x ∷ l)
        → live_one k (find (x ∷ l) k) ++ live_from (find (x ∷ l)) n (suc k) ≡ x ∷ l
    above d ih =
        let b : suc k ≤ x.0 = omega (arith, a.0.0, d) in
        let z : find (x ∷ l) k ≡ none = find-above (x ∷ l) k (b, low l r.0 b) in
        rw z (ih r ((b, omega (arith, a.0.1)), up l r.0 a.1 (omega arith)))
      where
        low : (j : List (ℕ × Monitor)) → All (λ y. x.0 < y.0) j → suc k ≤ x.0 → All (λ y. k < y.0) j
        low [] c q = tt
        low (y ∷ j) c q = (omega (arith, c.0), low j c.1 q)

-- what a frame does to the monitors held
unfoldable pub is_cancel : Typed → Bool
is_cancel (command o l) = eqb (sub_of l) 0x04 && eqb (length l) (params_in table 0x04)
is_cancel (packet p) = false
is_cancel tick = false
is_cancel bad = false

unfoldable pub handle_in : Typed → ℕ
handle_in (command o l) = get_or l 1 0
handle_in (packet p) = 0
handle_in tick = 0
handle_in bad = 0

unfoldable pub taken : Option Monitor → List (ℕ × Monitor) → List (ℕ × Monitor)
taken none l = l
taken (some m) l = insert_at (slot l most_monitors 0) m l

unfoldable pub mons_by : Typed → List (ℕ × Monitor) → List (ℕ × Monitor)
mons_by f l = pick (is_cancel f) (remove (handle_in f) l) (taken (offers f) l)

pub cancels-is : (h : ℕ) (f : Typed) → cancels h f ≡ (is_cancel f && eqb (handle_in f) h)
unfolding cancels is_cancel handle_in
cancels-is h (command o l) = go (eqb (sub_of l) 4) (eqb (length l) (params_in table 4)) (eqb (get_or l 1 0) h)
  where
    go : (a b c : Bool) → (a && (b && c)) ≡ ((a && b) && c)
    go true b c = refl
    go false b c = refl
cancels-is h (packet p) = refl
cancels-is h tick = refl
cancels-is h bad = refl

-- a command that cancels offers no monitor
offers-cancel : (f : Typed) → is_cancel f ≡ true → offers f ≡ none
unfolding is_cancel offers adds_monitor pick
offers-cancel (command o l) e =
    let s : sub_of l ≡ 4 = eqb-true (sub_of l) 4 (and_left (eqb (sub_of l) 4) (eqb (length l) (params_in table 4)) e) in
    rw s
offers-cancel (packet p) e = refl
offers-cancel tick e = refl
offers-cancel bad e = refl

-- What past frames say of monitors, by a list.
pub record Live (past : List Typed) (l : List (ℕ × Monitor)) : Type 0 where
  pub rising : Rising l
  pub below : All (λ y. y.0 < most_monitors) l
  pub same : (h : ℕ) → monitor_after past h ≡ find l h

all-zip : (l : List (ℕ × Monitor)) → All (λ y. y.0 < most_monitors) l
    → All (λ y. (0 ≤ y.0) × (y.0 < 0 + most_monitors)) l
all-zip [] a = tt
all-zip (y ∷ l) a = ((omega arith, omega (arith, a.0)), all-zip l a.1)

pub live-is : (past : List Typed) (l : List (ℕ × Monitor)) → Live past l → monitors_after past ≡ l
unfolding monitors_after
live-is past l v =
    listed_same (monitor_after past) (find l) most_monitors 0 (λ h b. v.same h)
    ∙ listed-find most_monitors 0 l v.rising (all-zip l v.below)

-- one frame more
module _ (past : List Typed) (l : List (ℕ × Monitor)) (v : Live past l) (f : Typed) where
  slot_is : lowest_free (λ g. monitor_after past g) most_monitors 0 ≡ slot l most_monitors 0
  slot_is = free-slot l (λ g. monitor_after past g) v.same most_monitors 0

  insert-same : (m : Monitor) (o : Option ℕ) → slot l most_monitors 0 ≡ o → (h : ℕ)
      → pick (is_at o h) (some m) (find l h) ≡ find (insert_at o m l) h
  unfolding is_at pick
  insert-same m none e h = refl
  insert-same m (some k) e h = go (eqb k h) refl
    where
      lw : Lowest l most_monitors 0 k
      lw = slot-some l most_monitors 0 k e

      go : (b : Bool) → eqb k h ≡ b → pick b (some m) (find l h) ≡ find (insert k m l) h
      go true q = let z : k ≡ h = eqb-true k h q in rw (← z) (sym (find-insert-same k m l lw.free))
      go false q = sym (find-insert-other k h m l (λ z. eqb-false k h q z))

  inserted : (m : Monitor) (o : Option ℕ) → slot l most_monitors 0 ≡ o → Rising (insert_at o m l)
      × All (λ y. y.0 < most_monitors) (insert_at o m l)
  inserted m none e = (v.rising, v.below)
  inserted m (some k) e =
      let lw : Lowest l most_monitors 0 k = slot-some l most_monitors 0 k e in (
        rising-insert k m l lw.free v.rising,
        all_insert (λ y. y.0 < most_monitors) k m l
            (omega (arith, lw.below)) v.below,
      )

  remove-same : (g h : ℕ) → pick (eqb g h) none (find l h) ≡ find (remove g l) h
  unfolding pick
  remove-same g h = go (eqb g h) refl
    where
      go : (b : Bool) → eqb g h ≡ b → pick b none (find l h) ≡ find (remove g l) h
      go true q = let z : g ≡ h = eqb-true g h q in rw (← z) (sym (find-remove-same g l))
      go false q = sym (find-remove-other g h l (λ z. eqb-false g h q z))

  pub live_more : Live (f ∷ past) (mons_by f l)
  unfolding mons_by monitor_after taken offered pick
  live_more = go (is_cancel f) (offers f) refl refl
    where
      go : (c : Bool) (o : Option Monitor) → is_cancel f ≡ c → offers f ≡ o
          → Live (f ∷ past) (pick c (remove (handle_in f) l) (taken o l))
      go true o p q =
          record {
            rising = rising-remove (handle_in f) l v.rising;
            below = all_remove (λ y. y.0 < most_monitors) (handle_in f) l v.below;
            same = λ h. rw (cancels-is h f, p, offers-cancel f p, v.same h) (remove-same (handle_in f) h);
          }
      go false none p q =
          record { rising = v.rising; below = v.below; same = λ h. rw (cancels-is h f, p, q) (v.same h) }
      go false (some m) p q =
          let i = inserted m (slot l most_monitors 0) refl in
          record {
            rising = i.0;
            below = i.1;
            same = λ h. rw (cancels-is h f, p, q, slot_is, v.same h) (insert-same m (slot l most_monitors 0) refl h);
          }

pub live : (past : List Typed) → Live past (monitors_after past)
unfolding monitor_after monitors_after live_from live_one
live [] = record { rising = tt; below = tt; same = λ h. refl }
live (f ∷ past) =
    let v : Live (f ∷ past) (mons_by f (monitors_after past)) = live_more past (monitors_after past) (live past) f in
    rw (live-is (f ∷ past) (mons_by f (monitors_after past)) v) v

-- the monitors held, a frame later
pub monitors-more : (f : Typed) (past : List Typed) → monitors_after (f ∷ past) ≡ mons_by f (monitors_after past)
monitors-more f past =
    live-is (f ∷ past) (mons_by f (monitors_after past)) (live_more past (monitors_after past) (live past) f)

-- every monitor held is accepted
pub offers-accepted : (f : Typed) (m : Monitor) → offers f ≡ some m → accepts m ≡ true
unfolding offers pick
offers-accepted (command o l) m e =
    go (adds_monitor l) (leb (params_in table (sub_of l)) (length l)) (accepts (monitor_of l)) refl e
  where
    go : (a b c : Bool) → accepts (monitor_of l) ≡ c → pick (a && (b && c)) (some (monitor_of l)) none ≡ some m
        → accepts m ≡ true
    go true true true z e = rw (← some_inj e) z
    go true true false z e = absurd (none≢some e)
    go true false c z e = absurd (none≢some e)
    go false b c z e = absurd (none≢some e)
offers-accepted (packet p) m e = absurd (none≢some e)
offers-accepted tick m e = absurd (none≢some e)
offers-accepted bad m e = absurd (none≢some e)

pub after-accepted : (past : List Typed) (h : ℕ) (m : Monitor) → monitor_after past h ≡ some m → accepts m ≡ true
unfolding monitor_after pick offered
after-accepted [] h m e = absurd (none≢some e)
after-accepted (f ∷ past) h m e =
    go (cancels h f) (offers f) (is_at (lowest_free (λ g. monitor_after past g) most_monitors 0) h) refl e
    (λ q. after-accepted past h m q)
  where
    go : (c : Bool) (o : Option Monitor) (b : Bool) → offers f ≡ o
        → pick c none (offered o b (monitor_after past h)) ≡ some m
        → (monitor_after past h ≡ some m → accepts m ≡ true) → accepts m ≡ true
    go true o b q e ih = absurd (none≢some e)
    go false none b q e ih = ih e
    go false (some n) true q e ih = rw (← some_inj e) (offers-accepted f n q)
    go false (some n) false q e ih = ih e
