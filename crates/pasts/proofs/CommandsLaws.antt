-- A command: what past frames say after it is what document 01's engine makes of it. Assumes nothing.
use Rattle.std.specs.Prelude.{ℕ, ◌≡◌, Bool, ◌&&◌, cond, ltb, length, get_or}
use Rattle.std.proofs.Math.Path.{refl, sym, ap}
use Rattle.std.proofs.Common.{◌∙◌}
use Rattle.std.proofs.Math.Bool.{true, false, not}
use Rattle.std.proofs.lemmas.Bool.{false≢true}
use mathlib.Core.List.{List, [], ◌∷◌}
use Rattle.std.proofs.Math.Option.{Option, none, some}
use borrow.Author.Tests.{eqb-true, ne_eqb, le-leb, lt-leb, le-ltb, lt-ltb}
use Rattle.std.proofs.Math.Dec.{leb, eqb}
use Rattle.laws.specs.Tests.{pick}
use Rattle.laws.specs.TestsLaws.{and-not-left, cases-le, cases_eq}
use Rattle.laws.specs.Loops.{keep}
use Rattle.rule.specs.Base.{All}
use Rattle.rule.specs.BaseLaws.{none≢some}
use Rattle.rule.specs.Engine.{find, slot, insert_at, remove}
use Rattle.model.specs.Types.{Model, Monitor, Pair, with_lists, with_filter}
use Rattle.model.specs.Frames.{Typed, command}
use Rattle.model.specs.Monitors.{accepts, disallowed, fault_of, full, invalid, monitor_of}
use Rattle.model.specs.Commands.{adds_monitor, add_status, added, cancelled, cancel_status, changed, commanded, enable_status, of_other, params_in, present, status, sub_of, table}
use Rattle.model.specs.Layout.{most_monitors}
use Rattle.pasts.specs.ListsLaws.{keep_all, keep_same}
use Rattle.pasts.specs.Pair.{cancels}
use Rattle.pasts.specs.Past.{enable_in, enables, offers}
use Rattle.pasts.proofs.MonitorsLaws.{cancels-is, handle_in, is_cancel, mons_by, taken}

-- the pairs of other handles than one that is cancelled
unfoldable pub others : Typed → Pair → Bool
others f q = not (cancels q.handle f)

-- forgetting a handle that names no monitor changes nothing
remove-none : (l : List (ℕ × Monitor)) (h : ℕ) → find l h ≡ none → remove h l ≡ l
remove-none [] h e = refl
remove-none (x ∷ l) h e = go (eqb x.0 h) e (remove-none l h)
  where
    go : (t : Bool) → cond t (some x.1) (find l h) ≡ none → (find l h ≡ none → remove h l ≡ l)
        → cond t (remove h l) (x ∷ remove h l) ≡ x ∷ l
    go true f ih = absurd (none≢some (sym f))
    go false f ih = ap (λ (r : List (ℕ × Monitor)). x ∷ r) (ih f)

module _ (m : Model) (o : ℕ) (l : List ℕ)
    (live : All (λ (q : Pair). find m.mons q.handle ≡ none → ⊥) m.pairs) where
  -- the state with what past frames say
  unfoldable pub result : Model
  result =
      record {
        position = m.position;
        filter = pick (enables (command o l)) (enable_in (command o l)) m.filter;
        opcode = m.opcode;
        prefix = m.prefix;
        mons = mons_by (command o l) m.mons;
        pairs = keep (others (command o l)) m.pairs;
      }

  all_others : ((h : ℕ) → cancels h (command o l) ≡ false) → keep (others (command o l)) m.pairs ≡ m.pairs
  unfolding others
  all_others e = keep_all (others (command o l)) m.pairs (go m.pairs)
    where
      go : (qs : List Pair) → All (λ q. others (command o l) q ≡ true) qs
      go [] = tt
      go (q ∷ qs) = (ap not (e q.handle), go qs)

  -- a command that is no cancel and no enable
  plain : is_cancel (command o l) ≡ false → enables (command o l) ≡ false
      → result ≡ with_lists m (taken (offers (command o l)) m.mons) m.pairs
  unfolding result mons_by with_lists pick
  plain c e = rw (
    c,
    e,
    all_others
        (λ h. cancels-is h (command o l) ∙ and-not-left (is_cancel (command o l)) (eqb (handle_in (command o l)) h) c),
  )

  unchanged : with_lists m m.mons m.pairs ≡ m
  unfolding with_lists
  unchanged = refl

  -- 03 and 0F
  add-status : (s : Bool) (n : ℕ) (f : Bool) (k : Option ℕ) → eqb n 0 ≡ f
      → pick (eqb (pick s invalid (pick (not f) n (pick (present k) 0 full))) 0)
      (with_lists m (insert_at k (monitor_of l) m.mons) m.pairs) m
      ≡ with_lists m (pick (not s && f) (insert_at k (monitor_of l) m.mons) m.mons) m.pairs
  unfolding pick present with_lists
  add-status true n f k e = refl
  add-status false n true none e = refl
  add-status false n true (some h) e = refl
  add-status false n false k e = rw e

  offers-pick : adds_monitor l ≡ true → taken (offers (command o l)) m.mons
      ≡ pick (not (ltb (length l) (params_in table (sub_of l))) && eqb (fault_of (monitor_of l)) 0)
      (insert_at (slot m.mons most_monitors 0) (monitor_of l) m.mons) m.mons
  unfolding offers accepts pick taken
  offers-pick a =
      rw (a, least-is (params_in table (sub_of l)) (length l))
      (go (not (ltb (length l) (params_in table (sub_of l)))) (eqb (fault_of (monitor_of l)) 0))
    where
      least-is : (x y : ℕ) → leb x y ≡ not (ltb y x)
      least-is x y = cases-le x y (λ h. le-leb x y h ∙ ap not (sym (le-ltb y x h)))
          (λ h. lt-leb x y h ∙ ap not (sym (lt-ltb y x h)))

      go : (b f : Bool) → taken (pick (b && f) (some (monitor_of l)) none) m.mons
          ≡ pick (b && f) (insert_at (slot m.mons most_monitors 0) (monitor_of l) m.mons) m.mons
      go true true = refl
      go true false = refl
      go false f = refl

  adding : adds_monitor l ≡ true → eqb (sub_of l) 0 ≡ false → is_cancel (command o l) ≡ false
      → enables (command o l) ≡ false
      → commanded m l ≡ result
  unfolding commanded status add_status changed added pick
  adding a z c e =
      rw (plain c e, offers-pick a, a, z)
      (add-status (ltb (length l) (params_in table (sub_of l))) (fault_of (monitor_of l)) (eqb (fault_of (monitor_of l)) 0)
      (slot m.mons most_monitors 0) refl)

  -- no monitor is offered
  no-offer : adds_monitor l ≡ false → offers (command o l) ≡ none
  unfolding offers pick
  no-offer a = rw a

  left : adds_monitor l ≡ false → is_cancel (command o l) ≡ false → enables (command o l) ≡ false → result ≡ m
  unfolding taken
  left a c e = rw (plain c e, no-offer a) unchanged

  -- 04
  cancel-live : find m.mons (handle_in (command o l)) ≡ none → (qs : List Pair)
      → All (λ (q : Pair). find m.mons q.handle ≡ none → ⊥) qs → All (λ q. others (command o l) q ≡ true) qs
  unfolding others
  cancel-live n [] a = tt
  cancel-live n (q ∷ qs) a = (
    rw (cancels-is q.handle (command o l))
        (go (is_cancel (command o l)) (eqb (handle_in (command o l)) q.handle) refl),
    cancel-live n qs a.1,
  )
    where
      go : (c b : Bool) → eqb (handle_in (command o l)) q.handle ≡ b → not (c && b) ≡ true
      go true false e = refl
      go false b e = refl
      go true true e = absurd (a.0 (rw (← eqb-true (handle_in (command o l)) q.handle e) n))

  sub-four : sub_of l ≡ 4
      → (commanded m l ≡ pick (eqb (cancel_status m l) 0) (cancelled m (get_or l 1 0)) m) × (adds_monitor l ≡ false)
      × (enables (command o l) ≡ false)
      × (is_cancel (command o l) ≡ eqb (length l) (params_in table 4))
  unfolding commanded status changed adds_monitor pick enables is_cancel
  sub-four s = (rw s, rw s, rw s, rw s)

  by-other : is_cancel (command o l) ≡ true → (q : Pair) → others (command o l) q ≡ of_other (get_or l 1 0) q
  unfolding others of_other handle_in
  by-other c q = rw (cancels-is q.handle (command o l), c)

  cancel-found : (x : Monitor) → eqb (length l) (params_in table 4) ≡ true → find m.mons (get_or l 1 0) ≡ some x
      → pick (eqb (cancel_status m l) 0) (cancelled m (get_or l 1 0)) m ≡ cancelled m (get_or l 1 0)
  unfolding pick cancel_status present
  cancel-found x e q = rw (e, q)

  cancel-missed : find m.mons (get_or l 1 0) ≡ none → pick (eqb (cancel_status m l) 0) (cancelled m (get_or l 1 0)) m ≡ m
  unfolding pick cancel_status present
  cancel-missed q = rw q (go (eqb (length l) (params_in table 4)))
    where
      go : (b : Bool) → pick (eqb (pick b invalid invalid) 0) (cancelled m (get_or l 1 0)) m ≡ m
      go true = refl
      go false = refl

  cancel-short : eqb (length l) (params_in table 4) ≡ false
      → pick (eqb (cancel_status m l) 0) (cancelled m (get_or l 1 0)) m ≡ m
  unfolding pick cancel_status
  cancel-short e = rw e

  found-result : is_cancel (command o l) ≡ true → enables (command o l) ≡ false → cancelled m (get_or l 1 0) ≡ result
  unfolding cancelled with_lists result mons_by pick handle_in
  found-result c e = rw (c, e, keep_same (others (command o l)) (of_other (get_or l 1 0)) m.pairs (by-other c))

  missed-result : is_cancel (command o l) ≡ true → enables (command o l) ≡ false → find m.mons (get_or l 1 0) ≡ none
      → m ≡ result
  unfolding result mons_by pick handle_in
  missed-result c e n =
      rw (
        c,
        e,
        remove-none m.mons (get_or l 1 0) n,
        keep_all (others (command o l)) m.pairs
            (cancel-live n m.pairs live),
      )

  cancelling : sub_of l ≡ 4 → commanded m l ≡ result
  cancelling s = go (eqb (length l) (params_in table 4)) (find m.mons (get_or l 1 0)) refl refl
    where
      go : (b : Bool) (k : Option Monitor) → eqb (length l) (params_in table 4) ≡ b → find m.mons (get_or l 1 0) ≡ k
          → commanded m l ≡ result
      go true (some x) e q = let f = sub-four s in f.0 ∙ cancel-found x e q ∙ found-result (f.3 ∙ e) f.2
      go true none e q = let f = sub-four s in f.0 ∙ cancel-missed q ∙ missed-result (f.3 ∙ e) f.2 q
      go false k e q = let f = sub-four s in f.0 ∙ cancel-short e ∙ sym (left f.1 (f.3 ∙ e) f.2)

  -- 05
  sub-five : sub_of l ≡ 5
      → (commanded m l ≡ pick (eqb (enable_status m l) 0) (with_filter m (get_or l 1 0)) m) × (adds_monitor l ≡ false)
      × (enables (command o l) ≡ (eqb (length l) (params_in table 5) && leb (get_or l 1 0) 1))
      × (is_cancel (command o l) ≡ false)
  unfolding commanded status changed adds_monitor pick enables is_cancel
  sub-five s = (rw s, rw s, rw s, rw s)

  five-result : adds_monitor l ≡ false → is_cancel (command o l) ≡ false
      → result ≡ with_filter m (pick (enables (command o l)) (get_or l 1 0) m.filter)
  unfolding result with_filter mons_by pick enable_in taken
  five-result a c =
      rw (
        c,
        no-offer a,
        all_others
            (λ h. cancels-is h (command o l)
            ∙ and-not-left (is_cancel (command o l)) (eqb (handle_in (command o l)) h) c),
      )

  enable-status : (b : Bool) (v : ℕ) → eqb (length l) (params_in table 5) ≡ b
      → pick (eqb (pick (not b) invalid (pick (ltb 1 v) invalid (pick (eqb v m.filter) disallowed 0))) 0)
      (with_filter m v) m
      ≡ with_filter m (pick (b && leb v 1) v m.filter)
  unfolding pick with_filter
  enable-status false v e = refl
  enable-status true v e =
      cases-le v 1 (λ h. rw (le-leb v 1 h, le-ltb 1 v h) (same (eqb v m.filter) refl))
      (λ h. rw (lt-leb v 1 h, lt-ltb 1 v h))
    where
      same : (s : Bool) → eqb v m.filter ≡ s
          → pick (eqb (pick s disallowed 0) 0) (with_filter m v) m ≡ with_filter m v
      same true q = rw (eqb-true v m.filter q)
      same false q = refl

  enabling : sub_of l ≡ 5 → commanded m l ≡ result
  unfolding enable_status
  enabling s =
      let f = sub-five s in
      f.0 ∙ enable-status (eqb (length l) (params_in table 5)) (get_or l 1 0) refl
      ∙ ap (λ b. with_filter m (pick b (get_or l 1 0) m.filter)) (sym f.2)
      ∙ sym (five-result f.1 f.3)

  -- all others
  otherwise : adds_monitor l ≡ false → eqb (sub_of l) 4 ≡ false → eqb (sub_of l) 5 ≡ false → commanded m l ≡ m
  unfolding commanded changed pick
  otherwise a k4 k5 = rw (a, k4, k5) (go (eqb (status m l) 0))
    where
      go : (b : Bool) → pick b m m ≡ m
      go true = refl
      go false = refl

  no-cancel : eqb (sub_of l) 4 ≡ false → is_cancel (command o l) ≡ false
  unfolding is_cancel
  no-cancel e = rw e

  no-enable : eqb (sub_of l) 5 ≡ false → enables (command o l) ≡ false
  unfolding enables
  no-enable e = rw e

  adds-zero : adds_monitor l ≡ true → eqb (sub_of l) 0 ≡ false
  unfolding adds_monitor
  adds-zero a = cases_eq (sub_of l) 0 (λ z. absurd (false≢true (rw z at a))) (λ d. ne_eqb (sub_of l) 0 d)

  adds-four : adds_monitor l ≡ true → eqb (sub_of l) 4 ≡ false
  unfolding adds_monitor
  adds-four a = cases_eq (sub_of l) 4 (λ z. absurd (false≢true (rw z at a))) (λ d. ne_eqb (sub_of l) 4 d)

  adds-five : adds_monitor l ≡ true → eqb (sub_of l) 5 ≡ false
  unfolding adds_monitor
  adds-five a = cases_eq (sub_of l) 5 (λ z. absurd (false≢true (rw z at a))) (λ d. ne_eqb (sub_of l) 5 d)

  pub command-result : commanded m l ≡ result
  command-result = go (adds_monitor l) (eqb (sub_of l) 4) (eqb (sub_of l) 5) refl refl refl
    where
      go : (a b c : Bool) → adds_monitor l ≡ a → eqb (sub_of l) 4 ≡ b → eqb (sub_of l) 5 ≡ c → commanded m l ≡ result
      go true b c p q r = adding p (adds-zero p) (no-cancel (adds-four p)) (no-enable (adds-five p))
      go false true c p q r = cancelling (eqb-true (sub_of l) 4 q)
      go false false true p q r = enabling (eqb-true (sub_of l) 5 r)
      go false false false p q r = otherwise p q r ∙ sym (left p (no-cancel q) (no-enable r))
