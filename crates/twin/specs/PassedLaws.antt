-- The pasts of the kept frames: a start's frames as the code looks at them, one frame more, what a tick and a packet
-- leave as it was. Assumes nothing.
use Rattle.std.specs.Prelude.{◌≡◌, ℕ, zero, suc, ◌+◌, ◌-◌, ◌≤◌, Bool, true, false, ◌||◌, ltb, ◌⊎◌, List, [], ◌∷◌, map, length, take, replicate, ◌≢◌, nat_lt, slice_index, refl}
use Rattle.std.proofs.Math.Path.{sym, ap}
use Rattle.std.proofs.Common.{◌∙◌, inl, inr, add-one, arith}
use Rattle.laws.specs.Tests.{pick}
use Rattle.laws.specs.Loops.{keep}
use Rattle.rule.specs.Base.{All}
use Rattle.steps.specs.ListsLaws.{all-weaken}
use Rattle.model.specs.Types.{Packet}
use Rattle.model.specs.Frames.{Typed, packet, tick, has_packet, is_packet, packet_of}
use Rattle.model.specs.Monitors.{run_of}
use Rattle.model.specs.Layout.{most_monitors}
use Rattle.twins.specs.Twin.{most_kept}
use Rattle.pasts.specs.Pair
use Rattle.pasts.specs.Pair.{cancels, silent_in}
use Rattle.pasts.specs.ListsLaws.{all_keep, keep-agree, keep-map}
use Rattle.pasts.specs.Past
use Rattle.pasts.specs.Past.{enables, filter_after, monitor_after, offered, offers, after_frame, since_start, turns_by}
use Rattle.pasts.proofs.DeedsLaws.{since-more}
use Rattle.pasts.proofs.WatchingLaws.{watch-packet, watch-tick}
use Rattle.twin.specs.declared.watch.Begun.{Begun}
use Rattle.twin.specs.declared.watch.Seen.{Seen}
use Rattle.twin.specs.Table.{after, kind_at, past_at, payload_at, typed_at}
use Rattle.twin.specs.Hears.{Formed, start_of}
use Rattle.twin.specs.SilentLaws.{typed-packet, typed-scanned, typed-tick}
use Rattle.twin.specs.MarksLaws.{marked_more}
use Rattle.twin.specs.Seen.{Agrees, Comes, Frames, Held, Marked, Rest, Turns, lasts, list_of, named_by, start_at, starts_of}

pub past-length : (t : List ℕ) (n : ℕ) → length (past_at t n) ≡ n
unfolding past_at
past-length t zero = refl
past-length t (suc n) = ap suc (past-length t n)

pub past_more : (t : List ℕ) (n : ℕ) → past_at t (n + 1) ≡ typed_at t n ∷ past_at t n
unfolding past_at
past_more t n = ap (past_at t) (add-one n)

-- the frames behind number k
take_past : (t : List ℕ) (k j : ℕ) → take j (past_at t (k + j)) ≡ after t k j
unfolding past_at after
take_past t k zero = refl
take_past t k (suc j) =
    let e : k + suc j ≡ suc (k + j) = omega arith in
    ap (λ (n : ℕ). take (suc j) (past_at t n)) e ∙ ap (λ (l : List Typed). typed_at t (k + j) ∷ l) (take_past t k j)

pub since-past : (t : List ℕ) (n k : ℕ) → k ≤ n → after_frame k (past_at t n) ≡ after t k (n - k)
unfolding after_frame
since-past t n k h =
    let e : length (past_at t n) - k ≡ n - k = let l : length (past_at t n) ≡ n = past-length t n in omega arith in
    let q : n ≡ k + (n - k) = omega arith in
    ap (λ (j : ℕ). take j (past_at t n)) e ∙ ap (λ (m : ℕ). take (n - k) (past_at t m)) q ∙ take_past t k (n - k)

pub since-start : (t : List ℕ) (n : ℕ) (b : Begun) → b.packet ≤ n
    → since_start (start_at t b) (past_at t n) ≡ after t b.packet (n - b.packet)
unfolding since_start start_at start_of
since-start t n b h = since-past t n b.packet h

-- whether a watch goes on at a tick
pub lasts-is : (t : List ℕ) (i : ℕ) (b : Begun) → typed_at t i ≡ tick → b.packet ≤ i
    → lasts t (i + 1) b
    ≡ nat_lt (silent_in (start_at t b) (tick ∷ since_start (start_at t b) (past_at t i))) (run_of (start_at t b).mon)
unfolding lasts start_at start_of
lasts-is t i b e h =
    let l : length (past_at t i) ≡ i = past-length t i in
    let s : Pair.Start = start_at t b in
    let q : after t b.packet (i + 1 - b.packet) ≡ tick ∷ since_start s (past_at t i) =
    sym (since-start t (i + 1) b (omega arith))
    ∙ ap (since_start s) (past_more t i ∙ ap (λ (f : Typed). f ∷ past_at t i) e)
    ∙ since-more s tick (past_at t i) (omega arith) in
    rw q

-- what a tick and a packet leave: monitors and filter
pub tick-monitor : (past : List Typed) (h : ℕ) → monitor_after (tick ∷ past) h ≡ monitor_after past h
unfolding monitor_after cancels offers offered pick
tick-monitor past h = refl

pub tick-filter : (past : List Typed) → filter_after (tick ∷ past) ≡ filter_after past
unfolding filter_after enables pick
tick-filter past = refl

pub packet-monitor : (p : Packet) (past : List Typed) (h : ℕ) → monitor_after (packet p ∷ past) h ≡ monitor_after past h
unfolding monitor_after cancels offers offered pick
packet-monitor p past h = refl

pub packet-filter : (p : Packet) (past : List Typed) → filter_after (packet p ∷ past) ≡ filter_after past
unfolding filter_after enables pick
packet-filter p past = refl

pub marks-more : (t : List ℕ) (n : ℕ) (l : List Begun) → All (Marked t n) l → All (Marked t (n + 1)) l
marks-more t n l a = all-weaken (Marked t n) (Marked t (n + 1)) (marked_more t n) l a

-- fewer frames, and none
pub frames-less : (t : List ℕ) (n m : ℕ) → m ≤ n → Frames t n → Frames t m
frames-less t n m h f =
    record {
      few = let k : n ≤ most_kept = f.few in omega arith;
      formed = λ i b. f.formed i (omega arith);
      known = λ i b. f.known i (omega arith);
    }

pub zeros-at : (n h : ℕ) → ◌≡◌ {A = ℕ} (slice_index (replicate n 0) h) 0
zeros-at zero h = refl
zeros-at (suc n) zero = refl
zeros-at (suc n) (suc h) = zeros-at n h

pub first-agrees : (t : List ℕ) (s : Seen) → Held s → s.count ≡ 0 → ((h : ℕ) → slice_index s.live h ≡ 0)
    → s.filter ≡ 0 → Agrees t 0 s
unfolding past_at monitor_after filter_after starts_of list_of Past.watch Past.watch_by Past.deeds keep named_by
first-agrees t s v c z f =
    let e : list_of s ≡ [] = rw c in
    record {
      shows = record {
        held = v;
        marks = rw e tt;
        adds = λ h b. absurd (omega (arith, z h, b));
        live = λ h b. rw (z h);
        filter = f;
      };
      watch = rw e;
    }

-- a tick: those whose watch goes on
module _ (t : List ℕ) (i : ℕ) (s r : Seen) (f : Frames t (i + 1)) (k : kind_at t i ≡ 3) (a : Agrees t i s)
    (x : Rest s (keep (lasts t (i + 1)) (list_of s)) r) where
  is-tick : typed_at t i ≡ tick
  is-tick = typed-tick t i (f.formed i (omega arith)) k

  tick-past : past_at t (i + 1) ≡ tick ∷ past_at t i
  tick-past = past_more t i ∙ ap (λ (f : Typed). f ∷ past_at t i) is-tick

  tick-watch : starts_of t r ≡ Past.watch (tick ∷ past_at t i)
  unfolding starts_of
  tick-watch =
      let F : Pair.Start → Bool = λ u. ltb (silent_in u (tick ∷ since_start u (past_at t i))) (run_of u.mon) in
      let same : keep (lasts t (i + 1)) (list_of s) ≡ keep (λ b. F (start_at t b)) (list_of s) =
      keep-agree (lasts t (i + 1)) (λ b. F (start_at t b)) (list_of s)
      (all-weaken (Marked t i) (λ b. lasts t (i + 1) b ≡ F (start_at t b)) (λ b m. lasts-is t i b is-tick m.order)
      (list_of s) a.shows.marks) in
      ap (map (start_at t)) (x.list ∙ same) ∙ sym (keep-map (start_at t) F (list_of s)) ∙ ap (keep F) a.watch
      ∙ sym (watch-tick (past_at t i))

  pub tick-agrees : Agrees t (i + 1) r
  tick-agrees =
      record {
        shows = record {
          held = x.held;
          marks = rw x.list
              (all_keep (Marked t (i + 1)) (lasts t (i + 1)) (list_of s) (marks-more t i (list_of s) a.shows.marks));
          adds = rw x.live a.shows.adds;
          live = λ h b. rw (x.live, tick-past) (a.shows.live h b ∙ sym (tick-monitor (past_at t i) h));
          filter = rw tick-past (x.filter ∙ a.shows.filter ∙ sym (tick-filter (past_at t i)));
        };
        watch = rw tick-past tick-watch;
      }

-- a packet: before the turns, and behind them
pub packet-comes : (t : List ℕ) (i : ℕ) → Frames t (i + 1) → (kind_at t i ≢ 1) → (kind_at t i ≢ 3) → Comes t i
unfolding has_packet
packet-comes t i f n m =
    let g : Formed t i = f.formed i (omega arith) in
    let k = f.known i (omega arith) in
    go g (two (kind_at t i) k.0 k.1 n m)
  where
    two : (x : ℕ) → 1 ≤ x → x ≤ 4 → (x ≢ 1) → (x ≢ 3) → (x ≡ 2) ⊎ (x ≡ 4)
    two x a b c d = Rattle.laws.specs.TestsLaws.cases_eq x 2 inl (λ e. inr (omega arith))

    or_right : (b : Bool) → (b || true) ≡ true
    or_right true = refl
    or_right false = refl

    go : Formed t i → (kind_at t i ≡ 2) ⊎ (kind_at t i ≡ 4) → Comes t i
    go g (inl e) = record {
      sends = record { stands = g.stands; form = rw (g.packet e) };
      typed = typed-packet t i g e;
    }
    go g (inr e) =
        record {
          sends = record { stands = g.stands; form = rw (g.scanned e) (or_right (is_packet (payload_at t i))) };
          typed = typed-scanned t i g e;
        }

pub turns-first : (t : List ℕ) (i : ℕ) (s : Seen) → Agrees t i s → Turns t i 0 s
unfolding turns_by
turns-first t i s a =
    record {
      shows = record {
        held = a.shows.held;
        marks = marks-more t i (list_of s) a.shows.marks;
        adds = a.shows.adds;
        live = a.shows.live;
        filter = a.shows.filter;
      };
      watch = a.watch;
    }

pub turns-last : (t : List ℕ) (i h : ℕ) (s : Seen) → h ≡ most_monitors → Comes t i → Turns t i h s → Agrees t (i + 1) s
turns-last t i h s e c a =
    let p : Packet = packet_of (payload_at t i) in
    let q : past_at t (i + 1) ≡ packet p ∷ past_at t i = past_more t i ∙ ap (λ (f : Typed). f ∷ past_at t i) c.typed in
    record {
      shows = record {
        held = a.shows.held;
        marks = a.shows.marks;
        adds = a.shows.adds;
        live = λ g b. rw q (a.shows.live g b ∙ sym (packet-monitor p (past_at t i) g));
        filter = rw q (a.shows.filter ∙ sym (packet-filter p (past_at t i)));
      };
      watch = rw q ((rw e at a.watch) ∙ sym (watch-packet (past_at t i) p));
    }
