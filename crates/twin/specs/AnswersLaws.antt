-- Laws of the definitions in Answers.
use Rattle.std.specs.Prelude.{◌≡◌, ℕ, ◌+◌, ◌-◌, ◌<◌, ◌≤◌, Bool, true, false, ◌&&◌, List, [], ◌∷◌, length, drop, ◌==◌, ◌≢◌, nat_lt, slice_index}
use Rattle.std.proofs.Math.Path.{refl, sym, ap}
use Rattle.std.proofs.Common.{◌∙◌, subst, arith, length-drop}
use Rattle.std.proofs.Math.Bool.{false≢true}
use Rattle.std.proofs.Math.Option.{none, some}
use borrow.Author.Tests.{eqb-true, eq-eqb, ne_eqb, lt-ltb}
use Rattle.std.proofs.Math.ListN.{get_or-eq_default}
use Rattle.laws.specs.Tests.{pick}
use Rattle.laws.specs.TestsLaws.{pick-false, pick_true, and_left, and_right, cases_eq, cases-le}
use Rattle.octets.specs.Little.{little}
use Rattle.octets.specs.Numbers.{number_at}
use Rattle.octets.specs.NumbersLaws.{number-of}
use Rattle.rule.specs.Base.{All}
use Rattle.rule.specs.Engine.{find, slot}
use Rattle.model.specs.Types.{Model, Monitor}
use Rattle.model.specs.Frames.{Typed, command}
use Rattle.model.specs.Commands.{adds_monitor, add_status, failure, handle_or, new_handle, present, read_status, returned, status, sub_of, success}
use Rattle.model.specs.Events.{complete}
use Rattle.model.specs.Layout.{block_size, most_monitors, opcode_at}
use Rattle.statuses.specs.Statuses.{add_of, adds_by, cancel_of, enable_of}
use Rattle.statuses.specs.StatusesLaws.{add-of, cancel-of, enable-of}
use Rattle.statuses.specs.AnswersLaws.{octet-at}
use Rattle.commands.specs.Replies.{Replied, features_of, prefix_in}
use Rattle.pasts.specs.Past
use Rattle.pasts.specs.Past.{monitor_after, monitors_after}
use Rattle.pasts.proofs.MonitorsLaws.{free-slot, live}
use Rattle.pasts.specs.Says.{answer_for}
use Rattle.twin.specs.declared.watch.Seen.{Seen}
use Rattle.twin.specs.Table.{Commands, kind_at, past_at, payload_at}
use Rattle.twin.specs.Hears.{Formed}
use Rattle.twin.specs.HearsLaws.{command-long}
use Rattle.twin.specs.SilentLaws.{typed-command}
use Rattle.twin.specs.NamesLaws.{add-room, free-is, named-present}
use Rattle.twin.specs.Seen.{Agrees, Shows, free_in, is_live}
use Rattle.twin.specs.Answers.{says_at}

find-high : (l : List (ℕ × Monitor)) (n h : ℕ) → All (λ y. y.0 < n) l → n ≤ h → find l h ≡ none
find-high [] n h a b = refl
find-high (x ∷ l) n h a b = rw (ne_eqb x.0 h (λ e. omega (arith, a.0))) (find-high l n h a.1 b)

-- the state that past frames lead to, as what was seen tells it
module _ (t : List ℕ) (n : ℕ) (past : List Typed) (s : Seen) (w : Shows t n past s) where
  slot_is : slot (monitors_after past) most_monitors 0
      ≡ pick (nat_lt (free_in s.live) most_monitors) (some (free_in s.live)) none
  slot_is =
      let l : length s.live ≡ most_monitors = w.held.names in
      let z : (h : ℕ) → 0 + h ≡ h = λ h. omega arith in
      let f : lowest-of (length s.live) =
      free-is t (monitor_after past) s.live 0
      (λ h b. w.live h (omega arith) ∙ ap (monitor_after past) (sym (z h))) in
      sym (free-slot (monitors_after past) (monitor_after past) (live past).same most_monitors 0)
      ∙ rw l at f
      ∙ ap (λ (k : ℕ). pick (nat_lt (free_in s.live) most_monitors) (some k) none) (z (free_in s.live))
    where
      lowest-of : ℕ → Type 0
      lowest-of k = Past.lowest_free (monitor_after past) k 0
          ≡ pick (nat_lt (free_in s.live) k) (some (0 + free_in s.live)) none

  room-is : present (slot (monitors_after past) most_monitors 0) ≡ nat_lt (free_in s.live) most_monitors
  unfolding present pick
  room-is = ap present slot_is ∙ go (nat_lt (free_in s.live) most_monitors)
    where
      go : (b : Bool) → present (pick b (some (free_in s.live)) none) ≡ b
      go true = refl
      go false = refl

  known_is : (h : ℕ) → present (find (monitors_after past) h) ≡ is_live s.live h
  unfolding is_live present
  known_is h =
      let l : length s.live ≡ most_monitors = w.held.names in
      cases-le most_monitors h
      (λ b. ap present (find-high (monitors_after past) most_monitors h (live past).below b)
      ∙ sym (rw (get_or-eq_default s.live 0 {n = h} (omega arith))))
      (λ b. ap present (sym ((live past).same h) ∙ sym (w.live h b)) ∙ named-present t (slice_index s.live h))

  module _ (o : ℕ) (p l : List ℕ) where
    abbrev m : Model
    m = Past.history_state o p past

    pub read-said : {v : ℕ} → v ≡ sub_of l → v ≡ 0 → read_status l ≡ status m l
    unfolding status pick
    read-said e z = rw (sym e ∙ z)

    status-add : adds_monitor l ≡ true → status m l ≡ add_status m l
    unfolding status adds_monitor pick
    status-add i = rw (ne_eqb (sub_of l) 0 (λ z. false≢true (rw z at i)), i)

    pub add-said : {v f : ℕ} {r : ℕ} → v ≡ sub_of l → adds_by v ≡ true → f ≡ free_in s.live
        → r ≡ add_of (nat_lt f most_monitors) l → r ≡ status m l
    unfolding adds_monitor adds_by Past.history_state
    add-said {v} {f} e a g q =
        let i : adds_monitor l ≡ true = rw (sym e) a in
        q ∙ ap (λ (k : ℕ). add_of (nat_lt k most_monitors) l) g ∙ ap (λ (b : Bool). add_of b l) (sym room-is)
        ∙ sym (add-of m l i) ∙ sym (status-add i)

    pub cancel-said : {v h : ℕ} {k : Bool} {r : ℕ} → v ≡ sub_of l → v ≡ 4 → h ≡ number_at 1 l 1 → k ≡ is_live s.live h
        → r ≡ cancel_of k l → r ≡ status m l
    unfolding status adds_monitor Past.history_state pick
    cancel-said e z g q y =
        let i : sub_of l ≡ 4 = sym e ∙ z in
        y ∙ ap (λ (b : Bool). cancel_of b l) (q ∙ ap (is_live s.live) (octet-at l 1 g) ∙ sym (known_is (slice_index l 1)))
        ∙ sym (cancel-of m l) ∙ sym (rw i)

    pub enable-said : {v r : ℕ} → v ≡ sub_of l → v ≡ 5 → r ≡ enable_of s.filter l → r ≡ status m l
    unfolding status adds_monitor Past.history_state pick
    enable-said e z y =
        let i : sub_of l ≡ 5 = sym e ∙ z in
        y ∙ ap (λ (k : ℕ). enable_of k l) w.filter ∙ sym (enable-of m l) ∙ sym (rw i)

    pub other-said : {v : ℕ} → v ≡ sub_of l → (v ≢ 0) → adds_by v ≡ false → (v ≢ 4) → (v ≢ 5)
        → 1 ≡ status m l
    unfolding status adds_monitor adds_by pick
    other-said {v} e a b c d = sym (rw (← e, ne_eqb v 0 a, b, ne_eqb v 4 c, ne_eqb v 5 d))

    -- the answer
    done-is : status m l ≡ 0 → returned m l ≡ success m l
    unfolding returned pick
    done-is e = rw e

    failed-is : {r : ℕ} → r ≡ status m l → (r ≢ 0) → returned m l ≡ failure r l
    unfolding returned pick
    failed-is {r} e n = rw (← e, ne_eqb r 0 n)

    success-add : adds_monitor l ≡ true → success m l ≡ 0 ∷ sub_of l ∷ new_handle m ∷ []
    unfolding success adds_monitor pick
    success-add i = rw (ne_eqb (sub_of l) 0 (λ z. false≢true (rw z at i)), i)

    failure-add : (r : ℕ) → adds_monitor l ≡ true → failure r l ≡ r ∷ sub_of l ∷ 0 ∷ []
    unfolding failure pick
    failure-add r i = rw i

    new_is : free_in s.live < most_monitors → new_handle m ≡ free_in s.live
    unfolding new_handle Past.history_state handle_or pick
    new_is h = rw (slot_is, lt-ltb (free_in s.live) most_monitors h)

    adds-is : {v : ℕ} {b : Bool} → v ≡ sub_of l → adds_by v ≡ b → adds_monitor l ≡ b
    unfolding adds_monitor adds_by
    adds-is e a = rw (sym e) a

    module _ {v r : ℕ} (e : v ≡ sub_of l) (st : r ≡ status m l) where
      pub added-said : {h : ℕ} → adds_by v ≡ true → h ≡ pick (r == 0) (free_in s.live) 0
          → r ∷ v ∷ h ∷ [] ≡ returned m l
      unfolding pick Past.history_state
      added-said {h} a q =
          let i : adds_monitor l ≡ true = adds-is e a in
          cases_eq r 0
          (λ z.
          let by : r ≡ add_of (nat_lt (free_in s.live) most_monitors) l =
          st ∙ status-add i ∙ add-of m l i ∙ ap (λ (b : Bool). add_of b l) room-is in
          let f : free_in s.live < most_monitors = add-room l (free_in s.live) r by z in
          let w : h ≡ new_handle m = q ∙ pick_true (free_in s.live) 0 (eq-eqb r 0 z) ∙ sym (new_is f) in
          rw (z, e, w) (sym (done-is (sym st ∙ z) ∙ success-add i)))
          (λ n. let w : h ≡ 0 = q
          ∙ pick-false (free_in s.live) 0 (ne_eqb r 0 n) in rw (e, w) (sym (failed-is st n ∙ failure-add r i)))

      pub read_done : v ≡ 0 → r ≡ 0 → features_of p ≡ returned m l
      unfolding success features_of pick Past.history_state
      read_done z y = let i : sub_of l ≡ 0 = sym e ∙ z in sym (done-is (sym st ∙ y) ∙ rw i)

      pub other-done : adds_by v ≡ false → (v == 0 && r == 0) ≡ false → r ∷ v ∷ [] ≡ returned m l
      unfolding success failure pick
      other-done a n =
          let i : adds_monitor l ≡ false = adds-is e a in
          cases_eq r 0
          (λ z. let k : v ≡ 0
          → ⊥ = λ y. false≢true (sym n ∙ rw (y, z)) in rw (z, e)
          (sym (done-is (sym st ∙ z) ∙ rw (ne_eqb (sub_of l) 0 (λ y. k (e ∙ y)), i))))
          (λ d. rw e (sym (failed-is st d ∙ rw i)))

-- a command among the frames
pub command-says : (head t : List ℕ) (i : ℕ) (l a : List ℕ) {o : ℕ} → length head ≡ block_size → Formed t i
    → kind_at t i ≡ 1 → l ≡ drop 3 (payload_at t (i + 1 - 1))
    → o ≡ number_at 2 head opcode_at → ((q : ℕ) → a ≡ returned (Past.history_state q (prefix_in head) (past_at t i)) l)
    → complete o a ≡ says_at head t i
unfolding says_at answer_for
command-says head t i l a {o} n f k q e r =
    let w : o ≡ little 2 head opcode_at = number-of 2 head opcode_at e (omega arith) in
    let z : i + 1 - 1 ≡ i = omega arith in
    let y : l ≡ drop 3 (payload_at t i) = q ∙ ap (λ (j : ℕ). drop 3 (payload_at t j)) z in
    rw (typed-command t i f k, ← y, ← w) (ap (complete o) (r o))

pub command-next : (t : List ℕ) (i : ℕ) → Formed t i → kind_at t i ≡ 1 → Commands t (i + 1 - 1)
command-next t i f k =
    let z : i ≡ i + 1 - 1 = omega arith in
    subst (Commands t) z (record { stands = f.stands; form = f.command k })

pub params-some : (t : List ℕ) (i : ℕ) (l : List ℕ) → Formed t i → kind_at t i ≡ 1
    → l ≡ drop 3 (payload_at t (i + 1 - 1)) → 1 ≤ length l
params-some t i l f k q =
    let c : 4 ≤ length (payload_at t (i + 1 - 1)) = command-long t (i + 1 - 1) (command-next t i f k) in
    let d : length (drop 3 (payload_at t (i + 1 - 1))) ≡ length (payload_at t (i + 1 - 1)) - 3 =
    length-drop 3 (payload_at t (i + 1 - 1)) in
    let e : length l ≡ length (drop 3 (payload_at t (i + 1 - 1))) = ap length q in
    omega arith

-- its answer, branch by branch
module _ (head t : List ℕ) (i : ℕ) (l : List ℕ) (s : Seen) (n : length head ≡ block_size) (f : Formed t i)
    (k : kind_at t i ≡ 1) (w : Agrees t i s)
    (q : l ≡ drop 3 (payload_at t (i + 1 - 1))) {o v r : ℕ} (e : o ≡ number_at 2 head opcode_at) (g : v ≡ sub_of l)
    (st : (x : ℕ) (p : List ℕ) → r ≡ status (Past.history_state x p (past_at t i)) l) where
  written : {out after : List ℕ} {c : ℕ} {a : List ℕ}
      → ((x : ℕ) → a ≡ returned (Past.history_state x (prefix_in head) (past_at t i)) l)
      → Replied out after c (complete o a) → Replied out after c (says_at head t i)
  written {out} {after} {c} {a} h u = subst (Replied out after c) (command-says head t i l a n f k q e h) u

  pub reply-added : {out after : List ℕ} {c h : ℕ} → adds_by v ≡ true → h ≡ pick (r == 0) (free_in s.live) 0
      → Replied out after c (complete o (r ∷ v ∷ h ∷ [])) → Replied out after c (says_at head t i)
  reply-added a y u =
      written (λ x. added-said t i (past_at t i) s w.shows x (prefix_in head) l g (st x (prefix_in head)) a y) u

  pub reply-read : {out after : List ℕ} {c : ℕ} → (v == 0 && r == 0) ≡ true
      → Replied out after c (complete o (features_of (prefix_in head))) → Replied out after c (says_at head t i)
  reply-read z u =
      written (λ x. read_done t i (past_at t i) s w.shows x (prefix_in head) l g (st x (prefix_in head))
      (eqb-true v 0 (and_left (v == 0) (r == 0) z))
      (eqb-true r 0 (and_right (v == 0) (r == 0) z))) u

  pub reply-other : {out after : List ℕ} {c : ℕ} → adds_by v ≡ false → (v == 0 && r == 0) ≡ false
      → Replied out after c (complete o (r ∷ v ∷ [])) → Replied out after c (says_at head t i)
  reply-other a z u =
      written (λ x. other-done t i (past_at t i) s w.shows x (prefix_in head) l g (st x (prefix_in head)) a z) u
