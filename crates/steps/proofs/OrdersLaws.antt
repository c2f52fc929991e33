-- What a command does to a sound state: the monitor added under the lowest free handle, the monitor cancelled with
-- its pairs, the filter set; it stays sound. Document 01, Commands, and The image ("Sound: .."). Assumes nothing.
use Rattle.std.specs.Prelude.{ℕ, ◌+◌, ◌-◌, ◌≤◌, ◌≡◌, refl, Bool, true, false, not, List, ltb, eqb, length, take, drop, get_or}
use Rattle.std.proofs.Common.{arith, sym, ap, ◌∙◌, subst, length-drop, length-take-le, eqb-true, eq-eqb, ltb-false}
use Rattle.std.proofs.Math.Option.{Option, none, some}
use Rattle.std.proofs.lemmas.Bool.{eqb-false, not-true}
use Rattle.laws.specs.Tests.{pick}
use Rattle.laws.specs.TestsLaws.{and_both, pick_true, pick-false}
use Rattle.laws.specs.Loops.{every, keep}
use Rattle.laws.specs.LoopsLaws.{every_take, every_drop}
use Rattle.octets.specs.Little.{is_octet}
use Rattle.rule.specs.BaseLaws.{none≢some}
use Rattle.rule.specs.Engine.{find, slot, insert, insert_at, remove}
use Rattle.rule.proofs.FindsLaws.{rising-insert, rising-remove, all_insert, all_remove, find-insert-other}
use Rattle.rule.proofs.FindsLaws.{find-remove-other, slot-some, Lowest}
use Rattle.model.specs.Types.{Model, Monitor, Pair, with_lists, with_filter}
use Rattle.model.specs.Monitors.{fault_of, accepts, is_second, type_in, extra_of, monitor_of, invalid}
use Rattle.model.proofs.AcceptedLaws.{pick-none}
use Rattle.model.specs.Commands.{adds_monitor, table, params_in, sub_of, add_status, enable_status, status, of_other, cancelled}
use Rattle.model.specs.Commands.{added, changed, commanded}
use Rattle.model.specs.Sound.{sound_extra, sound_monitor}
use Rattle.steps.specs.ListsLaws.{keep-each, all-weaken, picked}
use Rattle.steps.specs.FactsLaws.{stored-holds}
use Rattle.steps.specs.WholeLaws.{Row, key, Held, Pairs, Monitors, Sound}
use Rattle.steps.specs.TypedLaws.{pick-both, at-octet}
use Rattle.steps.proofs.MovesLaws.{by-test}
use Rattle.steps.proofs.Turns.{pairs-moved}
use Rattle.model.specs.Layout.{extra_size, most_monitors}

-- the lists of a sound state
pub record Both (position : ℕ) (mons : List (ℕ × Monitor)) (qs : List Pair) : Type 0 where
  pub monitors : Monitors mons
  pub pairs : Pairs position mons qs

-- a monitor more: rows rise, and every live handle finds what it found
pub inserted : (k : ℕ) (mons : List (ℕ × Monitor)) (qs : List Pair) (new : Monitor) → sound_monitor new ≡ true
    → Both k mons qs → Both k (insert_at (slot mons most_monitors 0) new mons) qs
inserted k mons qs new ok s = go (slot mons most_monitors 0) refl
  where
    go : (o : Option ℕ) → slot mons most_monitors 0 ≡ o → Both k (insert_at o new mons) qs
    go none e = s
    go (some g) e =
        let w : Lowest mons most_monitors 0 g = slot-some mons most_monitors 0 g e in
        let a : Monitors mons = s.monitors in
        let b : Pairs k mons qs = s.pairs in
        let ms : Monitors (insert g new mons) =
        record {
          rising = rising-insert g new mons w.free a.rising;
          rows = all_insert Row g new mons (omega (arith, w.below), ok) a.rows;
        } in
        let ps : Pairs k (insert g new mons) qs =
        record {
          room = b.room;
          once = b.once;
          held = all-weaken (Held k mons) (Held k (insert g new mons)) (again w.free) qs b.held;
        } in
        record { monitors = ms; pairs = ps }
      where
        again : find mons g ≡ none → (q : Pair) → Held k mons q → Held k (insert g new mons) q
        again free q h =
            let other : g ≡ q.handle → ⊥ = λ u. none≢some (sym free ∙ ap (find mons) u ∙ h.live) in
            record { mon = h.mon; live = find-insert-other g q.handle new mons other ∙ h.live; kept = h.kept }

-- a monitor cancelled, with its pairs
pub removed : (k : ℕ) (mons : List (ℕ × Monitor)) (qs : List Pair) (h : ℕ) → Both k mons qs
    → Both k (remove h mons) (keep (of_other h) qs)
unfolding of_other
removed k mons qs h s =
    let a : Monitors mons = s.monitors in
    let ms : Monitors (remove h mons) =
    record { rising = rising-remove h mons a.rising; rows = all_remove Row h mons a.rows } in
    let ps : Pairs k (remove h mons) (keep (of_other h) qs) =
    rw (keep-each (of_other h) qs)
    (pairs-moved k k mons (remove h mons) (λ q. pick (of_other h q) (some q) none) qs keys left s.pairs) in
    record { monitors = ms; pairs = ps }
  where
    keys : (q r : Pair) → pick (of_other h q) (some q) none ≡ some r → key r ≡ key q
    keys q r e = ap key (sym (picked (of_other h q) q r e).1)

    left : (q r : Pair) → Held k mons q → pick (of_other h q) (some q) none ≡ some r → Held k (remove h mons) r
    left q r t e =
        let w = picked (of_other h q) q r e in
        let other : h ≡ q.handle → ⊥ = eqb-false h q.handle (not-true (eqb h q.handle) w.0) in
        let old : Held k (remove h mons) q =
        record { mon = t.mon; live = find-remove-other h q.handle mons other ∙ t.live; kept = t.kept } in
        subst (Held k (remove h mons)) w.1 old

-- the monitor of an accepted command is sound
params-second : (l : List ℕ) → params_in table (sub_of l) ≤ length l → sub_of l ≡ 15 → 31 ≤ length l
unfolding params_in table pick
params-second l h e = rw e at h

extra-sound : (l : List ℕ) → every is_octet l ≡ true → params_in table (sub_of l) ≤ length l
    → sound_extra (extra_of l) ≡ true
unfolding extra_of is_second sub_of pick sound_extra
extra-sound l o h = go (eqb (get_or l 0 0) 15) refl
  where
    go : (t : Bool) → eqb (get_or l 0 0) 15 ≡ t → sound_extra (pick t (some (take extra_size (drop 5 l))) none) ≡ true
    go true e =
        let n : 31 ≤ length l = params-second l h (eqb-true (get_or l 0 0) 15 e) in
        let d : length (drop 5 l) ≡ length l - 5 = length-drop 5 l in
        and_both (eq-eqb (length (take extra_size (drop 5 l))) extra_size
        (length-take-le extra_size (drop 5 l) (omega arith)))
        (every_take is_octet extra_size (drop 5 l) (every_drop is_octet 5 l o))
    go false e = refl

pub monitor-sound : (l : List ℕ) → every is_octet l ≡ true → params_in table (sub_of l) ≤ length l
    → fault_of (monitor_of l) ≡ 0
    → sound_monitor (monitor_of l) ≡ true
unfolding monitor_of accepts
monitor-sound l o h e =
    stored-holds (monitor_of l) (record {
      accepted = eq-eqb (fault_of (monitor_of l)) 0 e;
      high-octet = at-octet l 1 o;
      low-octet = at-octet l 2 o;
      sampling-octet = at-octet l 4 o;
      condition-octets = every_drop is_octet (type_in l + 1) l o;
      extra-sound = extra-sound l o h;
    })

-- 03 and 0F of status 0: the parameters are enough, and the monitor is accepted
pub add-accepted : (m : Model) (l : List ℕ) → add_status m l ≡ 0 → (params_in table (sub_of l) ≤ length l)
    × (fault_of (monitor_of l) ≡ 0)
unfolding add_status
add-accepted m l e =
    let n : ℕ = fault_of (monitor_of l) in
    let a = pick-none (ltb (length l) (params_in table (sub_of l))) invalid _ (omega arith) e in (
      ltb-false (length l) (params_in table (sub_of l)) a.0,
      by-test (eqb n 0) (λ t. eqb-true n 0 t)
          (λ t. sym (pick_true n _ (ap not t)) ∙ a.1),
    )

-- 05 of status 0: enable is 0 or 1
pub enable-most : (m : Model) (l : List ℕ) → enable_status m l ≡ 0 → get_or l 1 0 ≤ 1
unfolding enable_status
enable-most m l e =
    let a = pick-none (not (eqb (length l) (params_in table 5))) invalid _ (omega arith) e in
    let b = pick-none (ltb 1 (get_or l 1 0)) invalid _ (omega arith) a.1 in
    ltb-false 1 (get_or l 1 0) b.0

-- the status of each sub-opcode
pub status-add : (m : Model) (l : List ℕ) → adds_monitor l ≡ true → status m l ≡ add_status m l
unfolding status adds_monitor
status-add m l e = go (eqb (sub_of l) 3) refl
  where
    go : (t : Bool) → eqb (sub_of l) 3 ≡ t → status m l ≡ add_status m l
    go true h = let n : sub_of l ≡ 3 = eqb-true (sub_of l) 3 h in rw n (pick-false _ _ refl ∙ pick_true _ _ refl)
    go false h =
        let n : sub_of l ≡ 15 = eqb-true (sub_of l) 15 (rw h at e) in rw n (pick-false _ _ refl ∙ pick_true _ _ refl)

pub status-enable : (m : Model) (l : List ℕ) → eqb (sub_of l) 5 ≡ true → status m l ≡ enable_status m l
unfolding status adds_monitor
status-enable m l e =
    let n : sub_of l ≡ 5 = eqb-true (sub_of l) 5 e in
    rw n (pick-false _ _ refl ∙ pick-false _ _ refl ∙ pick-false _ _ refl ∙ pick_true _ _ refl)

-- what a command leaves: the filter 0 or 1, the lists sound
pub record Commanded (m n : Model) : Type 0 where
  pub filter-most : n.filter ≤ 1
  pub lists : Both m.position n.mons n.pairs

module _ (m : Model) (s : Sound m) where
  same : Commanded m m
  same = record { filter-most = s.filter-most; lists = record { monitors = s.monitors; pairs = s.pairs } }

  with-lists : (mons : List (ℕ × Monitor)) (qs : List Pair) → Both m.position mons qs
      → Commanded m (with_lists m mons qs)
  unfolding with_lists
  with-lists mons qs b = record { filter-most = s.filter-most; lists = b }

  with-filter : (on : ℕ) → on ≤ 1 → Commanded m (with_filter m on)
  unfolding with_filter
  with-filter on h = record { filter-most = h; lists = record { monitors = s.monitors; pairs = s.pairs } }

  pub added-keeps : (new : Monitor) → sound_monitor new ≡ true → Commanded m (added m new)
  unfolding added
  added-keeps new ok =
      with-lists (insert_at (slot m.mons most_monitors 0) new m.mons) m.pairs
      (inserted m.position m.mons m.pairs new ok same.lists)

  pub cancelled-keeps : (h : ℕ) → Commanded m (cancelled m h)
  unfolding cancelled
  cancelled-keeps h =
      with-lists (remove h m.mons) (keep (of_other h) m.pairs)
      (removed m.position m.mons m.pairs h same.lists)

  pub changed-keeps : (l : List ℕ) → every is_octet l ≡ true → status m l ≡ 0 → Commanded m (changed m l)
  unfolding changed
  changed-keeps l o e =
      pick-both (Commanded m) (adds_monitor l) (added m (monitor_of l)) _
      (λ t. let a = add-accepted m l (sym (status-add m l t) ∙ e) in added-keeps (monitor_of l)
      (monitor-sound l o a.0 a.1))
      (λ t. pick-both (Commanded m) (eqb (sub_of l) 4) (cancelled m (get_or l 1 0)) _ (λ u. cancelled-keeps (get_or l 1 0))
      (λ u. pick-both (Commanded m) (eqb (sub_of l) 5) (with_filter m (get_or l 1 0)) m
      (λ v. with-filter (get_or l 1 0) (enable-most m l (sym (status-enable m l v) ∙ e))) (λ v. same)))

  pub commanded-keeps : (l : List ℕ) → every is_octet l ≡ true → Commanded m (commanded m l)
  unfolding commanded
  commanded-keeps l o =
      pick-both (Commanded m) (eqb (status m l) 0) (changed m l) m
      (λ t. changed-keeps l o (eqb-true (status m l) 0 t)) (λ t. same)
