-- The handles that name a monitor, by the octets that the code keeps: the lowest that names none, whether one is
-- live; what a command's status lets through. Assumes nothing.
use Rattle.std.specs.Prelude.{◌≡◌, ℕ, zero, suc, ◌+◌, ◌-◌, ◌<◌, ◌≤◌, Bool, true, false, not, List, [], ◌∷◌, length, drop, ◌==◌, ◌≢◌, nat_lt, slice_index, refl, Option as Perhaps, Some, None, is_some, unwrap_or}
use Rattle.std.proofs.Common.{sym, ◌∙◌, add-one, arith, drop_of_length-le, drop-cons}
use Rattle.std.proofs.Math.Path.{ap}
use Rattle.std.proofs.lemmas.Bool.{false≢true}
use Rattle.std.proofs.Math.Option.{Option, none, some}
use borrow.Author.Tests.{eq-eqb, eqb-false, ne_eqb, le-ltb, lt-ltb}
use Rattle.std.proofs.Math.ListN.{get_or-eq_default}
use Rattle.laws.specs.Tests.{pick}
use Rattle.laws.specs.TestsLaws.{cases_eq, cases-le}
use Rattle.model.specs.Types.{Monitor}
use Rattle.model.specs.Commands.{params_in, present, sub_of, table}
use Rattle.model.specs.Layout.{most_monitors}
use Rattle.model.specs.Monitors.{fault_of, full, invalid, monitor_of, unknown}
use Rattle.statuses.specs.Statuses.{add_of, adds_by, enable_of}
use Rattle.pasts.specs.Past.{lowest_free}
use Rattle.twin.specs.declared.watch.Seen.{Seen}
use Rattle.twin.specs.Numbered.{mon_at}
use Rattle.twin.specs.Seen.{added_by, enabled_by, free_in, free_of, is_live, named_by, with_filter, with_live}

-- the lowest handle that names none: a loop's turns
module _ (l : List ℕ) (h : ℕ) where
  rest-cons : h < length l → drop h l ≡ slice_index l h ∷ drop (h + 1) l
  rest-cons b = drop-cons l h 0 b ∙ rw (add-one h)

  pub free-hit : h < length l → slice_index l h ≡ 0 → free_in (drop h l) ≡ 0
  unfolding free_in pick
  free-hit b e = ap free_in (rest-cons b) ∙ rw (eq-eqb (slice_index l h) 0 e)

  pub free-miss : h < length l → (slice_index l h ≢ 0) → free_in (drop h l) ≡ free_in (drop (h + 1) l) + 1
  unfolding free_in pick
  free-miss b n = ap free_in (rest-cons b) ∙ rw (ne_eqb (slice_index l h) 0 n) (sym (add-one (free_in (drop (h + 1) l))))

  pub free-end : length l ≤ h → free_in (drop h l) ≡ 0
  unfolding free_in
  free-end b = ap free_in (drop_of_length-le l {i = h} b)

-- whether a handle is live
pub live_out : (l : List ℕ) (h : ℕ) → length l ≤ h → false ≡ is_live l h
unfolding is_live
live_out l h b = rw (get_or-eq_default l 0 {n = h} b)

pub live-asked : (l : List ℕ) (i h : ℕ) → i ≡ h → not (slice_index l i == 0) ≡ is_live l h
unfolding is_live
live-asked l i h e = rw e

pub live_in : (l : List ℕ) (h : ℕ) → is_live l h ≡ true → h < length l
live_in l h e = cases-le (length l) h (λ b. absurd (false≢true (live_out l h b ∙ e))) (λ b. b)

pub live-zero : (l : List ℕ) (h : ℕ) → is_live l h ≡ false → slice_index l h ≡ 0
unfolding is_live
live-zero l h e = cases_eq (slice_index l h) 0 (λ q. q) (λ q. absurd (false≢true (sym e ∙ rw (ne_eqb (slice_index l h) 0 q))))

-- what an octet names
pub named_some : (t : List ℕ) (a : ℕ) → 1 ≤ a → named_by t a ≡ some (mon_at t a)
unfolding named_by
named_some t zero h = absurd (omega arith)
named_some t (suc a) h = let e : a ≡ suc a - 1 = omega arith in rw (← e)

pub named_none : (t : List ℕ) (a : ℕ) → a ≡ 0 → named_by t a ≡ none
unfolding named_by
named_none t a e = rw e

pub named-present : (t : List ℕ) (a : ℕ) → present (named_by t a) ≡ not (a == 0)
unfolding named_by present
named-present t zero = refl
named-present t (suc a) = rw (ne_eqb (suc a) 0 (λ e. omega arith))

pub free-most : (l : List ℕ) → free_in l ≤ length l
unfolding free_in pick
free-most [] = omega arith
free-most (a ∷ l) = go (a == 0) (free-most l)
  where
    go : (b : Bool) → free_in l ≤ length l → pick b 0 (suc (free_in l)) ≤ suc (length l)
    go true h = omega arith
    go false h = omega arith

free-at : (l : List ℕ) (h : ℕ) → h < free_in l → slice_index l h ≢ 0
unfolding free_in pick
free-at [] h b e = omega arith
free-at (a ∷ l) h b e = go (a == 0) refl b (λ k q w. free-at l k q w)
  where
    go : (c : Bool) → (a == 0) ≡ c → h < pick c 0 (suc (free_in l)) → ((k : ℕ) → k < free_in l → slice_index l k ≢ 0) → ⊥
    go true q k ih = omega arith
    go false q k ih = at h e k
      where
        at : (m : ℕ) → slice_index (a ∷ l) m ≡ 0 → m < suc (free_in l) → ⊥
        at zero z w = eqb-false a 0 q z
        at (suc m) z w = ih m (omega arith) z

-- the lowest free handle of those from k on, as past frames tell it
pub free-is : (t : List ℕ) (names : ℕ → Option Monitor) (l : List ℕ) (k : ℕ)
    → ((h : ℕ) → h < length l → named_by t (slice_index l h) ≡ names (k + h))
    → lowest_free names (length l) k ≡ pick (nat_lt (free_in l) (length l)) (some (k + free_in l)) none
unfolding lowest_free free_in pick
free-is t names [] k same = refl
free-is t names (a ∷ l) k same =
    let z : k + 0 ≡ k = omega arith in
    let e : present (names k) ≡ not (a == 0) =
    ap present (sym (same 0 (omega arith) ∙ ap names z)) ∙ named-present t a in
    rw e (go (a == 0)
    (free-is t names l (suc k)
    (λ h b. let w : k + suc h ≡ suc k + h = omega arith in same (suc h) (omega arith) ∙ ap names w)))
  where
    more : (f : ℕ) → pick (nat_lt f (length l)) (some (suc k + f)) none
        ≡ pick (nat_lt (suc f) (suc (length l))) (some (k + suc f)) none
    more f =
        let w : suc k + f ≡ k + suc f = omega arith in
        cases-le (length l) f
        (λ b. rw (le-ltb f (length l) b, le-ltb (suc f) (suc (length l)) (omega arith)))
        (λ b. rw (lt-ltb f (length l) b, lt-ltb (suc f) (suc (length l)) (omega arith)) (ap some w))

    go : (c : Bool) → lowest_free names (length l) (suc k)
        ≡ pick (nat_lt (free_in l) (length l)) (some (suc k + free_in l)) none
        → pick (not c) (lowest_free names (length l) (suc k)) (some k)
        ≡ pick (nat_lt (pick c 0 (suc (free_in l))) (suc (length l))) (some (k + pick c 0 (suc (free_in l)))) none
    go true ih = let w : k ≡ k + 0 = omega arith in rw (lt-ltb 0 (suc (length l)) (omega arith)) (ap some w)
    go false ih = ih ∙ more (free_in l)

-- the same, if there is one
free-by : (l : List ℕ) (b : Bool) → nat_lt (free_in l) (length l) ≡ b → free_of l ≡ pick b (Some (free_in l)) None
unfolding free_of
free-by l b e = rw e

pub free-found : (l : List ℕ) (h : ℕ) → h ≡ free_in l → h < length l → Some h ≡ free_of l
unfolding pick
free-found l h e b = ap Some e ∙ sym (free-by l true (lt-ltb (free_in l) (length l) (omega arith)))

pub free-missed : (l : List ℕ) → length l ≤ free_in l → None ≡ free_of l
unfolding pick
free-missed l b = sym (free-by l false (le-ltb (free_in l) (length l) b))

pub free-got : (l : List ℕ) (h : ℕ) → Some h ≡ free_of l → (h ≡ free_in l) × (h < length l)
unfolding pick
free-got l h e = cases-le (length l) (free_in l)
    (λ b. absurd (some-none h (e ∙ sym (free-missed l b))))
    (λ b. let q : h ≡ free_in l = some-is h (free_in l) (e ∙ free-by l true (lt-ltb (free_in l) (length l) b)) in
    (q, omega arith))
  where
    some-none : (h : ℕ) → Some h ≡ None → ⊥
    some-none h e = cc

    some-is : (h k : ℕ) → Some h ≡ Some k → h ≡ k
    some-is h k e = cc

pub free-none : (l : List ℕ) → None ≡ free_of l → length l ≤ free_in l
free-none l e = cases-le (length l) (free_in l) (λ b. b)
    (λ b. absurd (none-some (free_in l) (e ∙ sym (free-found l (free_in l) refl b))))
  where
    none-some : (h : ℕ) → None ≡ Some h → ⊥
    none-some h e = cc

pub free-is_some : (l : List ℕ) → is_some (free_of l) ≡ nat_lt (free_in l) (length l)
unfolding pick
free-is_some l = go (nat_lt (free_in l) (length l)) refl
  where
    go : (b : Bool) → nat_lt (free_in l) (length l) ≡ b → is_some (free_of l) ≡ b
    go true e = ap is_some (free-by l true e)
    go false e = ap is_some (free-by l false e)

pub free-else : (l : List ℕ) → unwrap_or (free_of l) (length l) ≡ free_in l
unfolding pick
free-else l = cases-le (length l) (free_in l)
    (λ b. let m : free_in l ≤ length l = free-most l in
    ap (λ (o : Perhaps ℕ). unwrap_or o (length l)) (sym (free-missed l b)) ∙ omega arith)
    (λ b. ap (λ (o : Perhaps ℕ). unwrap_or o (length l)) (sym (free-found l (free_in l) refl b)))

-- what a command's parameters change
module _ (l : List ℕ) (s : Seen) where
  pub add-off : (i f r : ℕ) → f ≡ free_in s.live → r ≡ add_of (nat_lt f most_monitors) l → (r ≢ 0) → s ≡ added_by l i s
  unfolding added_by pick
  add-off i f r w e n = rw (← w, ← e, ne_eqb r 0 n)

  pub add-on : (i f r : ℕ) → f ≡ free_in s.live → r ≡ add_of (nat_lt f most_monitors) l → r ≡ 0
      → with_live s f (i + 1) ≡ added_by l i s
  unfolding added_by pick
  add-on i f r w e z = rw (← w, ← e, z)

  pub enable-off : (r : ℕ) → r ≡ enable_of s.filter l → (r ≢ 0) → s ≡ enabled_by l s
  unfolding enabled_by pick
  enable-off r e n = rw (← e, ne_eqb r 0 n)

  pub enable-on : (r : ℕ) → r ≡ enable_of s.filter l → r ≡ 0 → with_filter s (slice_index l 1) ≡ enabled_by l s
  unfolding enabled_by pick
  enable-on r e z = rw (← e, z)

pub enable-long : (l : List ℕ) (v r : ℕ) → r ≡ enable_of v l → r ≡ 0 → 1 < length l
unfolding enable_of pick table params_in
enable-long l v r e z =
    cases_eq (length l) 2 (λ q. omega arith)
    (λ n. let k : 0 ≡ invalid = sym z ∙ e ∙ rw (ne_eqb (length l) 2 n) in absurd (omega arith))

add-full : (l : List ℕ) → 0 ≢ add_of false l
unfolding add_of pick
add-full l e = go (adds_by (sub_of l)) (nat_lt (length l) (params_in table (sub_of l))) (fault_of (monitor_of l) == 0)
    (fault_of (monitor_of l)) refl e
  where
    go : (a b c : Bool) (f : ℕ) → (f == 0) ≡ c → 0 ≢ pick (not a) unknown (pick b invalid (pick (not c) f full))
    go false b c f q z = omega arith
    go true true c f q z = omega arith
    go true false true f q z = omega arith
    go true false false f q z = eqb-false f 0 q (sym z)

pub add-room : (l : List ℕ) (f r : ℕ) → r ≡ add_of (nat_lt f most_monitors) l → r ≡ 0 → f < most_monitors
add-room l f r e z =
    cases-le most_monitors f
    (λ b. absurd (add-full l (sym z ∙ e ∙ ap (λ (c : Bool). add_of c l) (le-ltb f most_monitors b)))) (λ b. b)

-- a command that finds no handle free changes nothing
pub add-none : (l : List ℕ) (i : ℕ) (s : Seen) → length s.live ≡ most_monitors → None ≡ free_of s.live → s ≡ added_by l i s
add-none l i s n e =
    let b : most_monitors ≤ free_in s.live = let k : length s.live ≤ free_in s.live = free-none s.live e in omega arith in
    add-off l s i (free_in s.live) (add_of (nat_lt (free_in s.live) most_monitors) l) refl refl
    (λ z. let k : free_in s.live < most_monitors =
    add-room l (free_in s.live) (add_of (nat_lt (free_in s.live) most_monitors) l) refl z in omega arith)

pub add-free : (l : List ℕ) (f r : ℕ) → f < most_monitors → r ≡ add_of true l → r ≡ add_of (nat_lt f most_monitors) l
add-free l f r h e = e ∙ ap (λ (c : Bool). add_of c l) (sym (lt-ltb f most_monitors h))
