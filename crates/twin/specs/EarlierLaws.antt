-- Theorems that the code once rested on: the starts that the twin keeps, by turns of loops over them; a packet by its number; a start
-- that goes.
use Rattle.std.specs.Prelude.{◌≡◌, ℕ, zero, suc, ◌+◌, ◌-◌, ◌<◌, ◌≤◌, Bool, true, false, not, List, [], ◌∷◌, ◌++◌, length, take, drop, ◌==◌, slice_index_or, refl, Option as Perhaps, Some, None}
use Rattle.std.proofs.Common.{sym, ◌∙◌, append-nil, add-one, arith, eq-eqb, ne_eqb, take_all, take-suc, drop-cons, drop_of_length-le}
use Rattle.std.proofs.Math.Path.{ap, subst}
use Rattle.std.proofs.Math.Option.{some}
use Rattle.std.proofs.Math.Seq.{length-take-le}
use Rattle.laws.specs.Tests.{pick}
use Rattle.laws.specs.TestsLaws.{cases_eq}
use Rattle.laws.specs.Loops.{each, keep, only, when, some as some_of}
use Rattle.laws.specs.LoopsLaws.{keep-take, length-keep}
use Rattle.rule.specs.BaseLaws.{none≢some}
use Rattle.model.specs.Types.{Packet}
use Rattle.model.specs.Frames.{Typed, packet_of}
use Rattle.model.specs.Events.{window_report}
use Rattle.model.specs.Monitors.{accepts}
use Rattle.model.specs.Layout.{event_most, most_pairs}
use Rattle.packets.specs.Writes.{PutAt}
use Rattle.pasts.specs.Pair
use Rattle.pasts.specs.Pair.{newest, pair_of, ticks_among, window}
use Rattle.pasts.specs.Says.{has_told}
use Rattle.twin.specs.declared.watch.Begun.{Begun}
use Rattle.twin.specs.declared.watch.Seen.{Seen}
use Rattle.twin.specs.declared.watch.Deed.{Deed}
use Rattle.twin.specs.declared.watch.Deed.TheVariants.{Still, Joined, Displaced}
use Rattle.twin.specs.Events.{window_says}
use Rattle.twin.specs.Table.{after, kind_at, payload_at}
use Rattle.twin.specs.Hears.{Formed, start_of}
use Rattle.twin.specs.Numbered.{Tells, numbered, packet_at}
use Rattle.twin.specs.Silent.{Looks}
use Rattle.twin.specs.StartsLaws.{list_length, list_at, rest-push, rest-room}
use Rattle.twin.specs.Seen.{Agrees, Frames, Held, Rest, Watches, begun_at, but_at, gone_by, list_of, no_begun, of_other, pushed, start_at}
use Rattle.twin.specs.Events.{event_of, gone_says}
use Rattle.twin.specs.EventsLaws.{nothing}
use Rattle.twin.specs.TickingLaws.{watches-at, watches-looks}
use Rattle.twin.specs.WindowsLaws.{ticks-more, ticks-same}

-- a start carried on, or not
rest-carry : (s r : Seen) (l : List Begun) (b : Begun) (on : Bool) → Rest s l r → r.count < most_pairs
    → Rest s (l ++ only on b) (pick on (pushed r b) r)
unfolding pick only
rest-carry s r l b true x h = rest-push s r l b x h
rest-carry s r l b false x h = rw (append-nil l) x

take-length : (s : Seen) (i : ℕ) → Held s → i < s.count → length (take i (list_of s)) ≡ i
take-length s i v h = let n : length (list_of s) ≡ s.count =
    list_length s v in length-take-le i (list_of s) (omega arith)

take_whole : (s : Seen) (i : ℕ) → Held s → s.count ≤ i → take i (list_of s) ≡ list_of s
take_whole s i v h = let n : length (list_of s) ≡ s.count = list_length s v in take_all i (list_of s) (omega arith)

-- those that pass a test: a loop's turns
module _ (f : Begun → Bool) (s r : Seen) (i : ℕ) (v : Held s) (x : Rest s (keep f (take i (list_of s))) r) where
  pub keep-room : i < s.count → r.count < most_pairs
  keep-room h =
      let c : length (keep f (take i (list_of s))) ≤ length (take i (list_of s)) = length-keep f (take i (list_of s)) in
      let d : length (take i (list_of s)) ≡ i = take-length s i v h in
      let m : s.count ≤ most_pairs = v.few in
      rest-room s r (keep f (take i (list_of s))) x (omega arith)

  pub keep-turn : {on : Bool} {r' : Seen} → i < s.count → on ≡ f (begun_at s i)
      → r' ≡ pick on (pushed r (begun_at s i)) r
      → Rest s (keep f (take (i + 1) (list_of s))) r'
  keep-turn {on} {r'} h e q =
      let n : length (list_of s) ≡ s.count = list_length s v in
      rw (q, keep-take f (list_of s) i no_begun (omega arith), list_at s v i h, ← e)
      (rest-carry s r (keep f (take i (list_of s))) (begun_at s i) on x (keep-room h))

  pub keep-end : s.count ≤ i → Rest s (keep f (list_of s)) r
  keep-end h = rw (take_whole s i v h) at x

pub keep-none : (f : Begun → Bool) (s r : Seen) → Rest s [] r → Rest s (keep f (take 0 (list_of s))) r
unfolding keep
keep-none f s r x = x

pub other-is : (h x : ℕ) (b : Begun) → x ≡ b.handle → not (x == h) ≡ of_other h b
unfolding of_other
other-is h x b e = rw e

-- all but one
but-most : (g : ℕ) (l : List Begun) → length (but_at g l) ≤ length l
unfolding but_at
but-most g [] = omega arith
but-most zero (b ∷ l) = omega arith
but-most (suc g) (b ∷ l) = let h : length (but_at g l) ≤ length l = but-most g l in omega arith

suc-eqb : (i g : ℕ) → (suc i == suc g) ≡ (i == g)
suc-eqb i g =
    cases_eq i g (λ e. rw (eq-eqb i g e, eq-eqb (suc i) (suc g) (omega arith)))
    (λ n. rw (ne_eqb i g n, ne_eqb (suc i) (suc g) (λ e. n (omega arith))))

but-take : (g i : ℕ) (l : List Begun) → i < length l → but_at g (take (suc i) l) ≡ but_at g (take i l)
    ++ only (not (i == g)) (slice_index_or l i no_begun)
unfolding but_at only
but-take g i [] h = absurd (omega arith)
but-take zero zero (b ∷ l) h = refl
but-take (suc g) zero (b ∷ l) h = ap (λ (m : Bool). only (not m) b) (sym (ne_eqb 0 (suc g) (λ e. omega arith)))
but-take zero (suc i) (b ∷ l) h = rw (ne_eqb (suc i) 0 (λ e. omega arith)) (take-suc l i no_begun (omega arith))
but-take (suc g) (suc i) (b ∷ l) h = rw (suc-eqb i g) (ap (λ (m : List Begun). b ∷ m) (but-take g i l (omega arith)))

module _ (g : ℕ) (s r : Seen) (i : ℕ) (v : Held s) (x : Rest s (but_at g (take i (list_of s))) r) where
  pub but-room : i < s.count → r.count < most_pairs
  but-room h =
      let c : length (but_at g (take i (list_of s))) ≤ length (take i (list_of s)) = but-most g (take i (list_of s)) in
      let d : length (take i (list_of s)) ≡ i = take-length s i v h in
      let m : s.count ≤ most_pairs = v.few in
      rest-room s r (but_at g (take i (list_of s))) x (omega arith)

  pub but-turn : {r' : Seen} → i < s.count → r' ≡ pick (not (i == g)) (pushed r (begun_at s i)) r
      → Rest s (but_at g (take (i + 1) (list_of s))) r'
  but-turn {r'} h q =
      let n : length (list_of s) ≡ s.count = list_length s v in
      rw (q, add-one i, but-take g i (list_of s) (omega arith), list_at s v i h)
      (rest-carry s r (but_at g (take i (list_of s))) (begun_at s i) (not (i == g)) x (but-room h))

  pub but-end : s.count ≤ i → Rest s (but_at g (list_of s)) r
  but-end h = rw (take_whole s i v h) at x

pub but-none : (g : ℕ) (s r : Seen) → Rest s [] r → Rest s (but_at g (take 0 (list_of s))) r
unfolding but_at
but-none g s r x = x

-- whether some start passes a test: a loop's turns
module _ (f : Begun → Bool) (s : Seen) (i : ℕ) (v : Held s) where
  rest-cons : i < s.count → drop i (list_of s) ≡ begun_at s i ∷ drop (i + 1) (list_of s)
  rest-cons h =
      let n : length (list_of s) ≡ s.count = list_length s v in
      drop-cons (list_of s) i no_begun (omega arith) ∙ rw (list_at s v i h, add-one i)

  pub some-hit : {r : Bool} → i < s.count → r ≡ f (begun_at s i) → r ≡ true → some_of f (drop i (list_of s)) ≡ true
  unfolding some_of
  some-hit h e z = rw (rest-cons h, ← e, z)

  pub some-miss : {r : Bool} → i < s.count → r ≡ f (begun_at s i) → r ≡ false
      → some_of f (drop i (list_of s)) ≡ some_of f (drop (i + 1) (list_of s))
  unfolding some_of
  some-miss h e z = ap (some_of f) (rest-cons h) ∙ rw (← e, z)

  pub some_end : s.count ≤ i → some_of f (drop i (list_of s)) ≡ false
  unfolding some_of
  some_end h =
      let n : length (list_of s) ≡ s.count = list_length s v in
      ap (some_of f) (drop_of_length-le (list_of s) {i = i} (omega arith))

-- a kept start is under watch, so its monitor was accepted
at-start : (t : List ℕ) (i : ℕ) (s : Seen) (j : ℕ) → Agrees t i s → j < s.count → Watches t i (begun_at s j)
at-start t i s j w l =
    let n : length (list_of s) ≡ s.count = list_length s w.shows.held in
    subst (Watches t i) (list_at s w.shows.held j l) (watches-at t i s j w (omega arith))

pub start-accepted : (t : List ℕ) (i : ℕ) (s : Seen) (j : ℕ) → Agrees t i s → j < s.count
    → accepts (start_at t (begun_at s j)).mon ≡ true
start-accepted t i s j w l = let a : Watches t i (begun_at s j) = at-start t i s j w l in a.accepted

pub start-looks : (t : List ℕ) (i n : ℕ) (s : Seen) (j : ℕ) → Frames t n → n ≡ i + 1 → Agrees t i s → j < s.count
    → Looks t (begun_at s j).monitor (begun_at s j).packet n × Looks t (begun_at s j).monitor (begun_at s j).packet i
start-looks t i n s j f e w l = watches-looks t i n (begun_at s j) f e (at-start t i s j w l)

-- a packet by its number, if there is one
pub numbered_is : (t : List ℕ) (o : Perhaps ℕ) (q : Packet) → some q ≡ numbered t o
    → (j : ℕ) × (o ≡ Some j) × (q ≡ packet_at t j)
unfolding numbered
numbered_is t None q e = absurd (none≢some (sym e))
numbered_is t (Some j) q e = (j, refl, some_one q (packet_at t j) e)
  where
    some_one : (x y : Packet) → some x ≡ some y → x ≡ y
    some_one x y e = cc

-- a window with packets has a latest one
module _ (t : List ℕ) (a k i : ℕ) (packets sum : ℕ) (last : Perhaps ℕ) (w : Tells t a k i packets sum last) where
  abbrev l : List Typed
  l = after t k (i - k)

  pub empty-says : (x : List Packet) (s : Pair.Start) → 0 ≡ length x
      → when (has_told [] [] s (newest x)) (window_report (pair_of s l)) ≡ []
  unfolding newest has_told when
  empty-says [] s e = refl
  empty-says (q ∷ x) s e = absurd (omega arith)

  pub window-empty : (out : List ℕ) (at : ℕ) → packets ≡ 0 → (h : ℕ)
      → PutAt out at (window_says (start_of t h a k) l) out 0
  unfolding window_says
  window-empty out at z h =
      rw (empty-says (window (start_of t h a k) l) (start_of t h a k) (sym z ∙ w.packets-is h)) (nothing out at)

  module _ (n : packets ≡ 0 → ⊥) (h : ℕ) where
    latest : (x : List Packet) → window (start_of t h a k) l ≡ x
        → (j : ℕ) × (last ≡ Some j) × (newest (window (start_of t h a k) l) ≡ some (packet_at t j))
    unfolding newest
    latest [] e = absurd (n (w.packets-is h ∙ ap length e))
    latest (q ∷ x) e =
        let d = numbered_is t last q (sym (w.last-is h ∙ ap newest e)) in
        (d.0, d.1, ap newest e ∙ ap some d.2)

    pub last_some : (j : ℕ) × (last ≡ Some j) × (newest (window (start_of t h a k) l) ≡ some (packet_at t j))
    last_some = latest (window (start_of t h a k) l) refl

-- the start that goes
pub gone-none : (prefix t : List ℕ) (s : Seen) (d : Deed) (out : List ℕ) (at : ℕ) → ((g : ℕ) → d ≡ Displaced g → ⊥)
    → (0 ≤ event_most) × PutAt out at (gone_says prefix (gone_by t s d)) out 0
unfolding gone_by gone_says each
gone-none prefix t s Still out at h = (omega arith, nothing out at)
gone-none prefix t s Joined out at h = (omega arith, nothing out at)
gone-none prefix t s (Displaced g) out at h = absurd (h g refl)

pub none-gone : (t : List ℕ) (s : Seen) → [] ≡ gone_by t s Joined
unfolding gone_by
none-gone t s = refl

pub gone_one : (prefix t : List ℕ) (s : Seen) (d : Deed) (g : ℕ) {out o p : List ℕ} {at r x k : ℕ} → d ≡ Displaced g
    → x ≡ (begun_at s g).handle → k ≡ (begun_at s g).packet
    → p ≡ payload_at t (k - 1) → (r ≤ event_most) × PutAt out at (event_of prefix x (packet_of p) 0) o r
    → (r ≤ event_most) × PutAt out at (gone_says prefix (gone_by t s d)) o r
unfolding gone_by gone_says each start_at start_of
gone_one prefix t s d g {out} {o} {p} {at} {r} {x} {k} h ex ek ep w =
    let q : event_of prefix (begun_at s g).handle (packet_of (payload_at t ((begun_at s g).packet - 1))) 0
    ≡ event_of prefix x (packet_of p) 0 = rw (← ex, ← ek, ← ep) in
    let u : gone_says prefix (gone_by t s (Displaced g))
    ≡ event_of prefix (begun_at s g).handle (packet_of (payload_at t ((begun_at s g).packet - 1))) 0 =
    append-nil (event_of prefix (begun_at s g).handle (packet_of (payload_at t ((begun_at s g).packet - 1))) 0) in
    let v : gone_says prefix (gone_by t s d) ≡ event_of prefix x (packet_of p) 0 =
    ap (λ (y : Deed). gone_says prefix (gone_by t s y)) h ∙ u ∙ q in
    (w.0, subst (λ (y : List ℕ). PutAt out at y o r) (sym v) w.1)

-- the ticks among the frames behind number k, looked for from the newest frame back
module _ (t : List ℕ) where
  pub back-tick : (k i : ℕ) {r : Bool} → k < i → Formed t (i - 1) → r ≡ (kind_at t (i - 1) == 3) → r ≡ true
      → ticks_among (after t k (i - k)) ≡ ticks_among (after t k (i - 1 - k)) + 1
  back-tick k i l f e z =
      let y : i ≡ i - 1 + 1 = omega arith in
      ap (λ (j : ℕ). ticks_among (after t k (j - k))) y ∙ ticks-more t k (i - 1) (omega arith) f e z

  pub back-idle : (k i : ℕ) {r : Bool} → k < i → Formed t (i - 1) → r ≡ (kind_at t (i - 1) == 3) → r ≡ false
      → ticks_among (after t k (i - k)) ≡ ticks_among (after t k (i - 1 - k))
  back-idle k i l f e z =
      let y : i ≡ i - 1 + 1 = omega arith in
      ap (λ (j : ℕ). ticks_among (after t k (j - k))) y ∙ ticks-same t k (i - 1) (omega arith) f e z

  pub back_end : (k i : ℕ) → i ≤ k → ticks_among (after t k (i - k)) ≡ 0
  unfolding ticks_among after
  back_end k i l = let z : i - k ≡ 0 = omega arith in ap (λ (j : ℕ). ticks_among (after t k j)) z
