-- What the turns of a packet write: the stop event of the start that goes, the start event. Document 01, Watching, by
-- history; document 02, T-05. Assumes nothing.
use Rattle.std.specs.Prelude.{◌≡◌, ℕ, zero, suc, ◌+◌, ◌-◌, ◌*◌, ◌<◌, ◌≤◌, Bool, true, false, not, ◌&&◌, ◌||◌, ltb, List, [], ◌∷◌, ◌++◌, length, get_or, drop}
use Rattle.std.proofs.Math.Path.{refl, sym, subst}
use Rattle.std.proofs.Common.{ap, ◌∙◌, lt-ltb, le-ltb}
use Rattle.std.proofs.lemmas.Bool.{false≢true}
use mathlib.Core.List.{append-nil}
use Rattle.std.proofs.Math.Option.{Option, none, some}
use native.Mathlib.Omega.{arith}
use Rattle.laws.specs.Loops.{each, when}
use Rattle.laws.specs.Put.{put}
use Rattle.rule.specs.Base.{All}
use Rattle.model.specs.Types.{Monitor, Packet}
use Rattle.model.specs.Frames.{Typed, packet_of}
use Rattle.model.specs.Events.{packet_reports, start_event, stop_event}
use Rattle.model.specs.Layout.{event_most, most_monitors, most_pairs, turn_most, turns_most}
use Rattle.marks.specs.Fields.{Framed}
use Rattle.marks.proofs.FieldsLaws.{packet-framed}
use Rattle.packets.specs.Writes.{PutAt}
use Rattle.pasts.specs.Pair
use Rattle.pasts.specs.Pair.{pair_of}
use Rattle.pasts.specs.Past
use Rattle.pasts.specs.Past.{goes_for, is_start, monitor_after, pair_after, turns_by, watch}
use Rattle.pasts.specs.Says.{is_reported, packet_says, reason_by, tells_start, turn_says, turns_say}
use Rattle.twin.specs.declared.watch.Begun.{Begun}
use Rattle.twin.specs.declared.watch.Seen.{Seen}
use Rattle.twin.specs.declared.watch.Deed.{Deed}
use Rattle.twin.specs.declared.watch.Deed.TheVariants.{Still, Joined, Displaced}
use Rattle.twin.specs.declared.watch.Turn.{Turn}
use Rattle.twin.specs.Table.{Stands, past_at, payload_at}
use Rattle.twin.specs.Hears.{Start, start_of}
use Rattle.twin.specs.StartsLaws.{all-at, below-pairs}
use Rattle.twin.specs.Seen.{Comes, Took, Turns, begins, begun_at, gone_by, start_at, starts_by, starts_of}
use Rattle.twin.specs.Events.{event_of, gone_says, stop_of}
use Rattle.twin.specs.EventsLaws.{nothing, start_is, stop_is, wrote-two}

-- the start of a kept one
pub start-stands : (t : List ℕ) (a k j : ℕ) → Start t a k → j ≡ k → Stands t (j - 1)
start-stands t a k j s e = rw e s.sends.stands

pub start-framed : (t : List ℕ) (a k j : ℕ) (p : List ℕ) → Start t a k → j ≡ k → p ≡ payload_at t (j - 1) → Framed p
start-framed t a k j p s e q = rw (q, e) s.framed

each-stops : (prefix : List ℕ) (past : List Typed) (l : List Pair.Start)
    → each (λ (s : Pair.Start). stop_event prefix (pair_after past s)) l ≡ gone_says prefix l
unfolding each gone_says
each-stops prefix past [] = refl
each-stops prefix past (s ∷ l) = rw (stop_is prefix past s, each-stops prefix past l)

-- a turn
module _ (prefix t : List ℕ) (i h : ℕ) (s : Seen) (r : Turn) (k : Took t i h s r) where
  abbrev Q : List Typed
  Q = past_at t i

  abbrev p : Packet
  p = packet_of (payload_at t i)

  says_none : (o : Option Monitor) → begins Q p o h (starts_of t s) ≡ false
      → turn_says prefix Q p o h (starts_of t s) ≡ []
  unfolding begins turn_says when
  says_none none e = refl
  says_none (some m) e = rw e

  says_some : (o : Option Monitor) → begins Q p o h (starts_of t s) ≡ true
      → turn_says prefix Q p o h (starts_of t s) ≡ gone_says prefix (goes_for Q p (starts_of t s)) ++ event_of prefix h p 1
  unfolding begins turn_says when Past.start_of
  says_some none e = absurd (false≢true e)
  says_some (some m) e =
      rw (e, each-stops prefix Q (goes_for Q p (starts_of t s)), start_is prefix (Past.start_of Q p m h))

  pub turn-still : (out : List ℕ) (at : ℕ) → r.deed ≡ Still → (0 ≤ turn_most)
      × PutAt out at (turn_says prefix Q p (monitor_after Q h) h (starts_of t s)) out 0
  turn-still out at z =
      (omega arith, rw (says_none (monitor_after Q h) (sym k.started ∙ ap starts_by z)) (nothing out at))

  gone-is : starts_by r.deed ≡ true → goes_for Q p (starts_of t s) ≡ gone_by t s r.deed
  unfolding when
  gone-is z = rw z at k.gone

  says-is : (d : Deed) → r.deed ≡ d → starts_by d ≡ true
      → turn_says prefix Q p (monitor_after Q h) h (starts_of t s) ≡ gone_says prefix (gone_by t s d) ++ event_of prefix h p 1
  says-is d e z =
      let y : starts_by r.deed ≡ true = ap starts_by e ∙ z in
      says_some (monitor_after Q h) (sym k.started ∙ y)
      ∙ ap (λ (l : List Pair.Start). gone_says prefix l ++ event_of prefix h p 1) (gone-is y ∙ ap (gone_by t s) e)

  -- one behind the others
  pub turn-joins : {o x : List ℕ} {out : List ℕ} {at m : ℕ} → r.deed ≡ Joined → x ≡ payload_at t i
      → (m ≤ event_most) × PutAt out at (event_of prefix h (packet_of x) 1) o m
      → (m ≤ turn_most) × PutAt out at (turn_says prefix Q p (monitor_after Q h) h (starts_of t s)) o m
  unfolding gone_by gone_says each
  turn-joins {o} {x} {out} {at} {m} z e b =
      let c : PutAt out at (event_of prefix h p 1) o m =
      subst (λ (l : List ℕ). PutAt out at (event_of prefix h (packet_of l) 1) o m) e b.1 in
      (omega (arith, b.0), rw (says-is Joined z refl) c)

  -- one for another, whose stop event comes first
  pub turn-moves : (g : ℕ) {out o v x : List ℕ} {at n m : ℕ} → r.deed ≡ Displaced g → at + turn_most ≤ length out
      → x ≡ payload_at t i
      → (n ≤ event_most) × PutAt out at (stop_of t prefix (begun_at s g)) o n
      → (m ≤ event_most) × PutAt o (at + n) (event_of prefix h (packet_of x) 1) v m
      → (n + m ≤ turn_most) × PutAt out at (turn_says prefix Q p (monitor_after Q h) h (starts_of t s)) v (n + m)
  unfolding gone_by gone_says each start_at start_of
  turn-moves g {out} {o} {v} {x} {at} {n} {m} z room e a b =
      let c : PutAt o (at + n) (event_of prefix h p 1) v m =
      subst (λ (l : List ℕ). PutAt o (at + n) (event_of prefix h (packet_of l) 1) v m) e b.1 in
      let w : gone_says prefix (gone_by t s (Displaced g)) ≡ stop_of t prefix (begun_at s g) =
      append-nil (stop_of t prefix (begun_at s g)) in (
        omega (arith, a.0, b.0),
        rw (says-is (Displaced g) z refl, w)
            (wrote-two out at (stop_of t prefix (begun_at s g)) (event_of prefix h p 1) (omega (arith, a.0)) a.1 c),
      )

  pub gone-start : (g : ℕ) → Turns t i h s → r.deed ≡ Displaced g
      → Start t (begun_at s g).monitor (begun_at s g).packet
  gone-start g w e = (all-at s w.shows.held _ g w.shows.marks (k.within g e)).start

  pub gone-within : (g : ℕ) → Turns t i h s → r.deed ≡ Displaced g → g < most_pairs
  gone-within g w e = below-pairs s w.shows.held g (k.within g e)

-- whether a packet is reported does not ask for the prefix
reported-any : (prefix : List ℕ) (past : List Typed) (p : Packet) → is_reported prefix past p ≡ is_reported [] past p
unfolding is_reported reason_by tells_start
reported-any prefix past p = refl

-- the turns one after another
module _ (prefix t : List ℕ) (i : ℕ) where
  pub turns-none : (out : List ℕ) → PutAt out 0 (turns_say prefix (past_at t i) (packet_of (payload_at t i)) 0) out 0
  unfolding turns_say
  turns-none out = nothing out 0

  pub turns_more : (h : ℕ) (s : Seen) {out o v : List ℕ} {at n : ℕ} → Turns t i h s → at ≤ length out
      → PutAt out 0 (turns_say prefix (past_at t i) (packet_of (payload_at t i)) h) o at
      → PutAt o at (turn_says prefix (past_at t i) (packet_of (payload_at t i)) (monitor_after (past_at t i) h) h
      (starts_of t s)) v n
      → PutAt out 0 (turns_say prefix (past_at t i) (packet_of (payload_at t i)) (h + 1)) v (at + n)
  unfolding turns_say
  turns_more h s {out} {o} {v} {at} {n} w l a b =
      let k : h + 1 ≡ suc h = omega arith in
      let z : 0 + at ≡ at = omega arith in
      rw (k, ← w.watch) (wrote-two out 0 _ _ (omega arith) a (rw z b))

  pub packet-quiet : {out o : List ℕ} {at : ℕ} {b : Bool}
      → PutAt out 0 (turns_say prefix (past_at t i) (packet_of (payload_at t i)) most_monitors) o at
      → b ≡ is_reported [] (past_at t i) (packet_of (payload_at t i)) → b ≡ false
      → PutAt out 0 (packet_says prefix (past_at t i) (packet_of (payload_at t i))) o at
  unfolding packet_says when
  packet-quiet a e z =
      rw (
        reported-any prefix (past_at t i) (packet_of (payload_at t i)) ∙ sym e
            ∙ z,
        append-nil (turns_say prefix (past_at t i) (packet_of (payload_at t i)) most_monitors),
      ) a

  pub packet-told : {out o v x : List ℕ} {at n : ℕ} {b : Bool} → at ≤ length out
      → PutAt out 0 (turns_say prefix (past_at t i) (packet_of (payload_at t i)) most_monitors) o at
      → b ≡ is_reported [] (past_at t i) (packet_of (payload_at t i)) → b ≡ true → x ≡ payload_at t i
      → PutAt o at (packet_reports (packet_of x)) v n
      → PutAt out 0 (packet_says prefix (past_at t i) (packet_of (payload_at t i))) v (at + n)
  unfolding packet_says when
  packet-told {out} {o} {v} {x} {at} {n} l a e z q c =
      let y : 0 + at ≡ at = omega arith in
      let d : PutAt o at (packet_reports (packet_of (payload_at t i))) v n =
      subst (λ (u : List ℕ). PutAt o at (packet_reports (packet_of u)) v n) q c in
      rw (reported-any prefix (past_at t i) (packet_of (payload_at t i)) ∙ sym e ∙ z)
      (wrote-two out 0 (turns_say prefix (past_at t i) (packet_of (payload_at t i)) most_monitors)
      (packet_reports (packet_of (payload_at t i))) (omega arith) a (rw y d))

  pub turns-done : (h : ℕ) {out o : List ℕ} {at : ℕ} → h ≡ most_monitors → at ≤ turn_most * h
      → PutAt out 0 (turns_say prefix (past_at t i) (packet_of (payload_at t i)) h) o at
      → (at ≤ turns_most) × PutAt out 0 (turns_say prefix (past_at t i) (packet_of (payload_at t i)) most_monitors) o at
  turns-done h e l a = (omega arith, rw (← e) a)
