-- Whether a packet is reported at once: by a pair under watch, by a start. Document 01, Watching, by history;
-- document 02, T-13. Assumes nothing.
use Rattle.std.specs.Prelude.{◌≡◌, ℕ, zero, suc, ◌+◌, ◌-◌, ◌<◌, ◌≤◌, Bool, true, false, not, ◌&&◌, ◌||◌, List, [], ◌∷◌, ◌++◌, length, drop, ◌==◌, ◌≢◌, nat_eq, slice_index, slice_index_or, Option as Perhaps}
use Rattle.std.proofs.Math.Path.{refl, sym, ap}
use Rattle.std.proofs.Common.{ap₂, ◌∙◌, subst}
use Rattle.std.proofs.lemmas.Bool.{false≢true}
use Rattle.std.proofs.Math.Option.{Option, none, some}
use native.Mathlib.Omega.{arith}
use borrow.Author.Tests.{eq-eqb, ne_eqb}
use Rattle.laws.specs.Tests.{pick}
use Rattle.laws.specs.TestsLaws.{and-not-left, and-not-right, cases-le}
use Rattle.laws.specs.Loops.{some as some_of, when}
use Rattle.model.specs.Types.{Monitor, Packet}
use Rattle.model.specs.Frames.{Typed, packet, packet_of}
use Rattle.model.specs.Monitors.{allows, sifts}
use Rattle.model.specs.Layout.{most_monitors}
use Rattle.packets.specs.ChangesLaws.{some-append}
use Rattle.pasts.specs.ListsLaws.{some-map}
use Rattle.pasts.specs.Pair
use Rattle.pasts.specs.Pair.{alike, matching_packets, matching_at, last_reason}
use Rattle.pasts.specs.Past
use Rattle.pasts.specs.Past.{Turned, filter_after, monitor_after, since_start, turn_by, turns_by, watch}
use Rattle.pasts.specs.Says.{is_reported, reason_by, tells_start}
use Rattle.twin.specs.declared.watch.Begun.{Begun}
use Rattle.twin.specs.declared.watch.Seen.{Seen}
use Rattle.twin.specs.Table.{after, past_at, payload_at}
use Rattle.twin.specs.Hears.{Formed, hears, start_of}
use Rattle.twin.specs.LatestLaws.{heard-typed}
use Rattle.twin.specs.Numbered.{Added, Sent, mon_at, numbered, packet_at}
use Rattle.twin.specs.FiltersLaws.{sampling-read}
use Rattle.twin.specs.NamesLaws.{named_none, named_some}
use Rattle.twin.specs.PassedLaws.{since-past}
use Rattle.twin.specs.Seen.{Agrees, Comes, Shows, Took, Turns, begins, list_of, named_by, start_at, starts_of}
use Rattle.twin.specs.Told.{tells_to}

or-none : (b : Bool) → (b || false) ≡ b
or-none true = refl
or-none false = refl

some-when : {A : Type 0} (f : A → Bool) (b : Bool) (x : A) → some_of f (when b (x ∷ [])) ≡ (b && f x)
unfolding some_of when
some-when f true x = or-none (f x)
some-when f false x = refl

pub sent-next : (t : List ℕ) (i : ℕ) → Comes t i → Sent t (i + 1)
sent-next t i c =
    let z : i ≡ i + 1 - 1 = omega arith in
    record { number = omega arith; sends = subst (Rattle.twin.specs.Table.Sends t) z c.sends }

next-is : (t : List ℕ) (i : ℕ) → packet_at t (i + 1) ≡ packet_of (payload_at t i)
next-is t i = let z : i + 1 - 1 ≡ i = omega arith in ap (λ (j : ℕ). packet_of (payload_at t j)) z

-- by a pair under watch
module _ (t : List ℕ) (i a k h : ℕ) (c : Comes t i) (f : Formed t i) (o : k ≤ i) where
  abbrev S : Pair.Start
  S = start_of t h a k

  abbrev P : Packet
  P = packet_of (payload_at t i)

  heard-is : matching_at S (packet P) ≡ when (hears t a k i) (P ∷ [])
  heard-is = ap (matching_at S) (sym c.typed) ∙ heard-typed t i f a k h

  since-is : since_start S (past_at t i) ≡ after t k (i - k)
  unfolding since_start start_of
  since-is = since-past t i k o

  reason-is : reason_by [] (past_at t i) P S
      ≡ (hears t a k i
      && ((mon_at t a).sampling == 0
      && (allows (mon_at t a) P.event
      && not (sifts (mon_at t a) && alike P (last_reason S (matching_packets S (after t k (i - k))))))))
  unfolding reason_by start_of
  reason-is = rw (heard-is, since-is) (some-when _ (hears t a k i) P)

  pub reason-sampled : (l : List ℕ) → l ≡ drop 3 (payload_at t (a - 1)) → (slice_index l 4 ≢ 0)
      → false ≡ reason_by [] (past_at t i) P S
  reason-sampled l e n =
      sym (reason-is ∙ and-not-right (hears t a k i) _
      (and-not-left _ _ (ne_eqb (mon_at t a).sampling 0 (λ z. n (sampling-read t a l e ∙ z)))))

  pub reason-unheard : {r : Bool} → r ≡ hears t a k i → r ≡ false → false ≡ reason_by [] (past_at t i) P S
  reason-unheard e z = sym (reason-is ∙ and-not-left (hears t a k i) _ (sym e ∙ z))

  module _ (l : List ℕ) (e : l ≡ drop 3 (payload_at t (a - 1))) (n : slice_index_or l 4 0 ≡ 0) {r : Bool} (g : r ≡ hears t a k i)
      (y : r ≡ true)
      {b : Bool} (u : b ≡ allows (mon_at t a) (packet_at t (i + 1)).event) where
    allowed : b ≡ allows (mon_at t a) P.event
    allowed = u ∙ ap (λ (q : Packet). allows (mon_at t a) q.event) (next-is t i)

    sampled : nat_eq (mon_at t a).sampling 0 ≡ true
    sampled = eq-eqb (mon_at t a).sampling 0 (sym (sampling-read t a l e) ∙ n)

    pub reason-barred : b ≡ false → false ≡ reason_by [] (past_at t i) P S
    reason-barred z = sym (reason-is ∙ rw (sym g ∙ y, sampled, sym allowed ∙ z))

    pub reason-asked : {d : Bool} (q : Perhaps ℕ) → b ≡ true
        → numbered t q ≡ last_reason S (matching_packets S (after t k (i - k)))
        → d ≡ (sifts (mon_at t a) && alike (packet_at t (i + 1)) (numbered t q)) → not d ≡ reason_by [] (past_at t i) P S
    reason-asked {d} q z w v =
        ap not (v ∙ ap₂ (λ (x : Packet) (m : Option Packet). sifts (mon_at t a) && alike x m) (next-is t i) w)
        ∙ sym (reason-is ∙ rw (sym g ∙ y, sampled, sym allowed ∙ z))

-- of all of them
unfoldable pub told_by : List ℕ → ℕ → Begun → Bool
told_by t i b = reason_by [] (past_at t i) (packet_of (payload_at t i)) (start_at t b)

pub told_at_lem : (t : List ℕ) (i : ℕ) (b : Begun) (a k : ℕ) {r : Bool} → a ≡ b.monitor → k ≡ b.packet
    → ((h : ℕ) → r ≡ reason_by [] (past_at t i) (packet_of (payload_at t i)) (start_of t h a k)) → r ≡ told_by t i b
unfolding told_by start_at
told_at_lem t i b a k ea ek e = rw (← ea, ← ek) (e b.handle)

pub told-all : (t : List ℕ) (i : ℕ) (s : Seen) → Agrees t i s
    → some_of (told_by t i) (list_of s) ≡ some_of (reason_by [] (past_at t i) (packet_of (payload_at t i)))
    (watch (past_at t i))
unfolding told_by starts_of
told-all t i s w =
    sym (some-map (start_at t) (reason_by [] (past_at t i) (packet_of (payload_at t i))) (list_of s))
    ∙ ap (some_of (reason_by [] (past_at t i) (packet_of (payload_at t i)))) w.watch

-- by a start
module _ (t : List ℕ) (i h : ℕ) where
  abbrev Q : List Typed
  Q = past_at t i

  abbrev p : Packet
  p = packet_of (payload_at t i)

  abbrev T : Turned
  T = turns_by Q p (watch Q) h

  abbrev F : Pair.Start → Bool
  F = tells_start [] Q p

  more-none : some_of F (turn_by Q p none h T).starts ≡ some_of F T.starts
  unfolding turn_by
  more-none = refl

  more-some : (m : Monitor)
      → some_of F (turn_by Q p (some m) h T).starts
      ≡ (some_of F T.starts || (begins Q p (some m) h T.watch && allows m p.event))
  unfolding turn_by begins pick some_of tells_start Past.start_of
  more-some m = go (Past.is_start Q p m h T.watch)
    where
      go : (b : Bool) → some_of F (pick b (record {
        starts = T.starts ++ (Past.start_of Q p m h ∷ []);
        gone = T.gone ++ Past.goes_for Q p T.watch;
        watch = Past.stays_but Q p (Past.goes_for Q p T.watch) T.watch ++ (Past.start_of Q p m h ∷ []);
      }) T).starts ≡ (some_of F T.starts || (b && allows m p.event))
      go true = some-append F T.starts (Past.start_of Q p m h ∷ [])
          ∙ ap (λ (b : Bool). some_of F T.starts || b) (or-none (allows m p.event))
      go false = sym (or-none (some_of F T.starts))

  more-true : (o : Option Monitor) → some_of F T.starts ≡ true → some_of F (turn_by Q p o h T).starts ≡ true
  more-true none e = more-none ∙ e
  more-true (some m) e = more-some m ∙ rw e

  next-true : tells_to t i h ≡ true → tells_to t i (suc h) ≡ true
  unfolding tells_to turns_by
  next-true e = more-true (monitor_after Q h) e

  module _ (s : Seen) (w : Turns t i h s) (below : h < most_monitors) where
    abbrev a : ℕ
    a = slice_index s.live h

    begins-none : begins Q p none h (starts_of t s) ≡ false
    unfolding begins
    begins-none = refl

    unnamed : a < 1 → monitor_after Q h ≡ none
    unnamed l = let y : a ≡ 0 = omega arith in sym (w.shows.live h below) ∙ named_none t a y

    idle : {r : Bool} → r ≡ begins Q p (monitor_after Q h) h (starts_of t s) → a < 1 → r ≡ false
    idle e l = e ∙ ap (λ (o : Option Monitor). begins Q p o h (starts_of t s)) (unnamed l) ∙ begins-none

    pub started-live : {r : Bool} → r ≡ begins Q p (monitor_after Q h) h (starts_of t s) → r ≡ true → 1 ≤ a
    started-live e z = cases-le 1 a (λ l. l) (λ l. absurd (false≢true (sym (idle e l) ∙ z)))

    pub tells_more : {b r : Bool} → r ≡ begins Q p (monitor_after Q h) h (starts_of t s)
        → b ≡ (r && allows (mon_at t a) p.event)
        → tells_to t i (h + 1) ≡ (tells_to t i h || b)
    unfolding tells_to turns_by
    tells_more {b} {r} e q =
        let k : h + 1 ≡ suc h = omega arith in
        rw k (cases-le 1 a
        (λ l.
        let m : monitor_after Q h ≡ some (mon_at t a) = sym (w.shows.live h below) ∙ named_some t a l in
        let d : r ≡ begins Q p (some (mon_at t a)) h T.watch =
        e ∙ ap (λ (o : Option Monitor). begins Q p o h (starts_of t s)) m
        ∙ ap (begins Q p (some (mon_at t a)) h) w.watch in
        ap (λ (o : Option Monitor). some_of F (turn_by Q p o h T).starts) m ∙ more-some (mon_at t a)
        ∙ ap (λ (c : Bool). some_of F T.starts || c)
        (sym (q ∙ ap (λ (c : Bool). c && allows (mon_at t a) p.event) d)))
        (λ l.
        let z : b ≡ false = q ∙ ap (λ (c : Bool). c && allows (mon_at t a) p.event) (idle e l) in
        ap (λ (o : Option Monitor). some_of F (turn_by Q p o h T).starts) (unnamed l) ∙ more-none
        ∙ sym (ap (λ (c : Bool). some_of F T.starts || c) z ∙ or-none (some_of F T.starts))))

pub tells_none : (t : List ℕ) (i : ℕ) → tells_to t i 0 ≡ false
unfolding tells_to turns_by some_of
tells_none t i = refl

tells-up : (t : List ℕ) (i n m : ℕ) → tells_to t i n ≡ true → tells_to t i (n + m) ≡ true
tells-up t i n zero e = let z : n + 0 ≡ n = omega arith in rw z e
tells-up t i n (suc m) e = let z : n + suc m ≡ suc (n + m) =
    omega arith in rw z (next-true t i (n + m) (tells-up t i n m e))

pub tells-stop : (t : List ℕ) (i n k : ℕ) {b : Bool} → n < k → tells_to t i (n + 1) ≡ (tells_to t i n || b) → b ≡ true
    → true ≡ tells_to t i k
tells-stop t i n k l e z =
    let y : tells_to t i (n + 1) ≡ true = e ∙ rw z (or-true (tells_to t i n)) in
    let j : n + 1 + (k - (n + 1)) ≡ k = omega arith in
    sym (ap (tells_to t i) (sym j) ∙ tells-up t i (n + 1) (k - (n + 1)) y)
  where
    or-true : (b : Bool) → (b || true) ≡ true
    or-true true = refl
    or-true false = refl

pub tells-on : (t : List ℕ) (i n : ℕ) {b : Bool} → tells_to t i (n + 1) ≡ (tells_to t i n || b) → tells_to t i n ≡ false
    → b ≡ false → tells_to t i (n + 1) ≡ false
tells-on t i n e y z = e ∙ rw (y, z)

-- one start's turn
pub turn-off : (r x : Bool) → r ≡ false → false ≡ (r && x)
turn-off r x e = sym (and-not-left r x e)

pub turn-asked : (t : List ℕ) (i a b : ℕ) (r : Bool) {x : Bool} → r ≡ true → a ≡ b
    → x ≡ allows (mon_at t a) (packet_at t (i + 1)).event
    → x ≡ (r && allows (mon_at t b) (packet_of (payload_at t i)).event)
turn-asked t i a b r z e q =
    q ∙ sym (rw (z, ← e) (ap (λ (y : Packet). allows (mon_at t a) y.event) (sym (next-is t i))))

-- either
module _ (t : List ℕ) (i : ℕ) (s : Seen) (w : Agrees t i s) where
  pub reported-off : s.filter ≡ 0 → true ≡ is_reported [] (past_at t i) (packet_of (payload_at t i))
  unfolding is_reported
  reported-off z = sym (rw (← w.shows.filter, eq-eqb s.filter 0 z))

  module _ (n : s.filter ≡ 0 → ⊥) {b : Bool}
      (e : b ≡ some_of (reason_by [] (past_at t i) (packet_of (payload_at t i))) (watch (past_at t i))) where
    pub reported-pair : b ≡ true → true ≡ is_reported [] (past_at t i) (packet_of (payload_at t i))
    unfolding is_reported
    reported-pair z = sym (rw (← w.shows.filter, ne_eqb s.filter 0 n, sym e ∙ z))

    pub reported-start : {c : Bool} → b ≡ false → c ≡ tells_to t i most_monitors
        → c ≡ is_reported [] (past_at t i) (packet_of (payload_at t i))
    unfolding is_reported tells_to
    reported-start z q = q ∙ sym (rw (← w.shows.filter, ne_eqb s.filter 0 n, sym e ∙ z))

-- the frame that added the monitor of a handle
pub live-added : (t : List ℕ) (i : ℕ) (s : Seen) (h j a : ℕ) → Shows t (i + 1) (past_at t i) s → 1 ≤ slice_index s.live h
    → j ≡ h → a ≡ slice_index s.live j → Added t a
live-added t i s h j a w l e q = let z : a ≡ slice_index_or s.live h 0 =
    q ∙ ap (λ (k : ℕ). slice_index s.live k) e in rw z (w.adds h l)
