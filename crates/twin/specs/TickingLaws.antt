-- What a tick writes for a pair: the stop event of a watch that ends, or the report of a window that closes. Document
-- 01, Watching, by history. Assumes nothing.
use Rattle.std.specs.Prelude.{◌≡◌, ℕ, zero, suc, ◌+◌, ◌-◌, ◌*◌, ◌%◌, ◌<◌, ◌≤◌, Bool, true, false, not, ◌&&◌, List, [], ◌∷◌, ◌++◌, map, length, take, ◌==◌, ◌≢◌, nat_le, nat_lt, slice_index_or}
use Rattle.std.proofs.Math.Path.{refl, sym, ap, subst}
use Rattle.std.proofs.Common.{◌∙◌, take_all, take-suc}
use Rattle.std.proofs.lemmas.Bool.{false≢true}
use Rattle.std.proofs.Math.Option.{Option, none, some}
use native.Mathlib.Omega.{arith}
use borrow.Author.Tests.{eq-eqb, ne_eqb, le-leb, lt-leb, le-ltb, lt-ltb}
use Rattle.std.proofs.lemmas.List.{length-map}
use Rattle.laws.specs.Tests.{pick}
use Rattle.laws.specs.TestsLaws.{and-not-left, and-not-right, cases-le}
use Rattle.laws.specs.Loops.{each, when}
use Rattle.laws.specs.LoopsLaws.{each_take}
use Rattle.rule.specs.Base.{All}
use Rattle.model.specs.Types.{Monitor, Packet}
use Rattle.model.specs.Frames.{Typed, tick, packet_of}
use Rattle.model.specs.Events.{window_report}
use Rattle.model.specs.Monitors.{accepts, run_of, sifts, windowed}
use Rattle.model.specs.Layout.{event_most, report_most}
use Rattle.packets.specs.Writes.{PutAt}
use Rattle.pasts.specs.Pair
use Rattle.pasts.specs.Pair.{newest, silent_in, ticks_among, window, window_ticks}
use Rattle.pasts.specs.Past.{filter_after, since_start, watch}
use Rattle.pasts.specs.Past
use Rattle.pasts.proofs.PairsLaws.{apart}
use Rattle.pasts.proofs.DeedsLaws.{since-more}
use Rattle.pasts.proofs.MovesLaws.{Watched, watched-all}
use Rattle.pasts.specs.Says.{closes, ends, has_told, tells_window, tick_says, tick_says_of}
use Rattle.twin.specs.declared.watch.Begun.{Begun}
use Rattle.twin.specs.declared.watch.Seen.{Seen}
use Rattle.twin.specs.Table.{after, kind_at, past_at, payload_at, typed_at}
use Rattle.twin.specs.Hears.{Formed, start_of}
use Rattle.twin.specs.Silent.{Looks}
use Rattle.twin.specs.SilentLaws.{typed-tick}
use Rattle.twin.specs.Numbered.{mon_at}
use Rattle.twin.specs.MarksLaws.{looks-at, marked-looks}
use Rattle.twin.specs.PassedLaws.{frames-less, lasts-is, past-length, past_more, since-past, since-start}
use Rattle.twin.specs.StartsLaws.{all_get_d}
use Rattle.twin.specs.Seen.{Agrees, Frames, Marked, Watches, lasts, list_of, no_begun, start_at, starts_of}
use Rattle.twin.specs.Events.{stop_of, window_says}
use Rattle.twin.specs.EventsLaws.{nothing, stop_is, wrote-two}

not-less : (x y : ℕ) → nat_le x y ≡ not (nat_lt y x)
not-less x y = cases-le x y (λ h. le-leb x y h ∙ ap not (sym (le-ltb y x h)))
    (λ h. lt-leb x y h ∙ ap not (sym (lt-ltb y x h)))

all_map : (P : Pair.Start → Type 0) (f : Begun → Pair.Start) (l : List Begun) → All P (map f l) → All (λ b. P (f b)) l
all_map P f [] a = tt
all_map P f (b ∷ l) a = (a.0, all_map P f l a.1)

-- a kept start is under watch, so its monitor was accepted
pub watches-at : (t : List ℕ) (i : ℕ) (s : Seen) (j : ℕ) → Agrees t i s → j < length (list_of s)
    → Watches t i (slice_index_or (list_of s) j no_begun)
unfolding starts_of
watches-at t i s j w l =
    let a : All (Watched (past_at t i)) (map (start_at t) (list_of s)) =
    subst (All (Watched (past_at t i))) (sym w.watch) (watched-all (past_at t i)) in
    let b : All (λ (b : Begun). Watched (past_at t i) (start_at t b)) (list_of s) =
    all_map (Watched (past_at t i)) (start_at t) (list_of s) a in
    record {
      marked = all_get_d (Marked t i) (list_of s) j no_begun w.shows.marks l;
      accepted = (all_get_d (λ (b : Begun). Watched (past_at t i) (start_at t b)) (list_of s) j no_begun b l).accepted;
    }

pub watches-looks : (t : List ℕ) (i n : ℕ) (b : Begun) → Frames t n → n ≡ i + 1 → Watches t i b
    → Looks t b.monitor b.packet n × Looks t b.monitor b.packet i
watches-looks t i n b f e w =
    let m : Marked t i b = w.marked in
    let k : Marked t n b =
    record {
      start = m.start;
      order = let o : b.packet ≤ i = m.order in omega arith;
      handle = m.handle;
    } in
    (marked-looks t n b f k, marked-looks t i b (frames-less t n i (omega arith) f) m)

told-any : (prefix : List ℕ) (past : List Typed) (s : Pair.Start) (o : Option Packet)
    → has_told prefix past s o ≡ has_told [] [] s o
unfolding has_told
told-any prefix past s none = refl
told-any prefix past s (some q) = refl

module _ (prefix t : List ℕ) (i : ℕ) (b : Begun) (e : typed_at t i ≡ tick) (o : b.packet ≤ i) where
  abbrev S : Pair.Start
  S = start_at t b

  abbrev Q : List Typed
  Q = past_at t i

  ends_is : ends prefix Q S ≡ not (lasts t (i + 1) b)
  unfolding ends
  ends_is = not-less (run_of S.mon) (silent_in S (tick ∷ since_start S Q)) ∙ ap not (sym (lasts-is t i b e o))

  pub tick-ends : {out v : List ℕ} {at r : ℕ} {g : Bool} → g ≡ lasts t (i + 1) b → g ≡ false
      → (r ≤ event_most) × PutAt out at (stop_of t prefix b) v r → (r ≤ report_most)
      × PutAt out at (tick_says_of prefix Q S) v r
  unfolding tick_says_of pick start_at start_of
  tick-ends {out} {v} {at} {r} g z w =
      (omega (arith, w.0), rw (ends_is ∙ ap not (sym g ∙ z), stop_is prefix Q (start_at t b)) w.1)

  module _ {g : Bool} (ge : g ≡ lasts t (i + 1) b) (gz : g ≡ true) where
    stays : tick_says_of prefix Q S ≡ when (tells_window prefix Q S) (window_report (Past.pair_after Q S))
    unfolding tick_says_of pick
    stays = rw (ends_is ∙ ap not (sym ge ∙ gz))

    quiet : tells_window prefix Q S ≡ false → (out : List ℕ) (at : ℕ) → (0 ≤ report_most)
        × PutAt out at (tick_says_of prefix Q S) out 0
    unfolding when
    quiet z out at = (omega arith, rw (stays, z) (nothing out at))

    pub tick-off : (v : ℕ) → v ≡ filter_after Q → (v ≢ 1) → (out : List ℕ) (at : ℕ) → (0 ≤ report_most)
        × PutAt out at (tick_says_of prefix Q S) out 0
    unfolding tells_window
    tick-off v f n = quiet (and-not-left _ _ (ne_eqb (filter_after Q) 1 (λ z. n (f ∙ z))))

    pub tick-bare : (a : ℕ) {r : Bool} → a ≡ b.monitor → r ≡ windowed (mon_at t a) → r ≡ false
        → (out : List ℕ) (at : ℕ)
        → (0 ≤ report_most) × PutAt out at (tick_says_of prefix Q S) out 0
    unfolding tells_window closes start_at start_of
    tick-bare a ea q z =
        quiet (and-not-right (filter_after Q == 1) _
        (and-not-left _ _ (and-not-left _ _ (ap (λ (x : ℕ). windowed (mon_at t x)) (sym ea) ∙ sym q ∙ z))))

    module _ (a k c : ℕ) {r : Bool} (ea : a ≡ b.monitor) (ek : k ≡ b.packet) (q : r ≡ windowed (mon_at t a))
        (z : r ≡ true)
        (ph : (h : ℕ) → c ≡ window_ticks (start_of t h a k) (after t k (i + 1 - k))) where
      own-windowed : windowed S.mon ≡ true
      unfolding start_at start_of
      own-windowed = ap (λ (x : ℕ). windowed (mon_at t x)) (sym ea) ∙ sym q ∙ z

      since-is : after t b.packet (i + 1 - b.packet) ≡ tick ∷ since_start S Q
      unfolding start_at start_of
      since-is =
          sym (since-start t (i + 1) b (omega arith)) ∙ ap (since_start S) (past_more t i ∙ ap (λ (f : Typed). f ∷ Q) e)
          ∙ since-more S tick Q (number_is)
        where
          number_is : b.packet ≤ length (past_at t i)
          number_is = let n : length (past_at t i) ≡ i = past-length t i in omega arith

      phase-is : c ≡ ticks_among (tick ∷ since_start S Q) % S.mon.sampling
      unfolding start_at start_of window_ticks pick
      phase-is = ph b.handle ∙ rw (ea, ek) (rw (own-windowed, since-is))

      closes-is : closes prefix Q S ≡ (c == 0)
      unfolding closes
      closes-is = rw (own-windowed, ← phase-is)

      pub tick-within : (c ≢ 0) → (out : List ℕ) (at : ℕ) → (0 ≤ report_most)
          × PutAt out at (tick_says_of prefix Q S) out 0
      unfolding tells_window
      tick-within n = quiet (and-not-right (filter_after Q == 1) _ (and-not-left _ _ (closes-is ∙ ne_eqb c 0 n)))

      pub tick-plain : accepts S.mon ≡ true → sifts (mon_at t a) ≡ false
      unfolding start_at start_of
      tick-plain y = ap (λ (x : ℕ). sifts (mon_at t x)) ea ∙ apart S.mon y own-windowed

      says_is : (v : ℕ) → c ≡ 0 → v ≡ filter_after Q → v ≡ 1 → tick_says_of prefix Q S ≡ window_says S (since_start S Q)
      unfolding tells_window window_says Past.pair_after
      says_is v zc f zv =
          stays ∙ rw (
            eq-eqb (filter_after Q) 1 (sym f ∙ zv),
            closes-is,
            zc,
            told-any prefix Q S
                (newest (window S (since_start S Q))),
          )

      same : window_says (start_of t b.handle a k) (after t k (i - k)) ≡ window_says S (since_start S Q)
      unfolding start_at
      same = rw (ea, ek) (ap (window_says (start_of t b.handle b.monitor b.packet)) (sym (since-start t i b o)))

      pub tick-closes : (v : ℕ) {out u : List ℕ} {at n : ℕ} → c ≡ 0 → v ≡ filter_after Q → v ≡ 1
          → (n ≤ report_most) × ((h : ℕ) → PutAt out at (window_says (start_of t h a k) (after t k (i - k))) u n)
          → (n ≤ report_most) × PutAt out at (tick_says_of prefix Q S) u n
      tick-closes v {out} {u} {at} {n} zc f zv w =
          (w.0, subst (λ (x : List ℕ). PutAt out at x u n) (same ∙ sym (says_is v zc f zv)) (w.1 b.handle))

-- pair by pair
module _ (prefix t : List ℕ) (i : ℕ) (s : Seen) (w : Agrees t i s) where
  abbrev F : Begun → List ℕ
  F b = tick_says_of prefix (past_at t i) (start_at t b)

  pub ticks-none : (out : List ℕ) → PutAt out 0 (each F (take 0 (list_of s))) out 0
  unfolding each
  ticks-none out = nothing out 0

  pub ticks-more : (j : ℕ) {out o v : List ℕ} {at n : ℕ} → j < length (list_of s) → at ≤ length out
      → PutAt out 0 (each F (take j (list_of s))) o at
      → PutAt o at (F (slice_index_or (list_of s) j no_begun)) v n
      → PutAt out 0 (each F (take (j + 1) (list_of s))) v (at + n)
  ticks-more j {out} {o} {v} {at} {n} l room a c =
      let z : 0 + at ≡ at = omega arith in
      let b : Begun = slice_index_or (list_of s) j no_begun in
      let y : each F (take (j + 1) (list_of s)) ≡ each F (take j (list_of s)) ++ F b =
      each_take F (list_of s) j no_begun l in
      rw y (wrote-two out 0 (each F (take j (list_of s))) (F b) (omega arith) a (rw z c))

  each_map : (l : List Begun) → each F l ≡ each (tick_says_of prefix (past_at t i)) (map (start_at t) l)
  unfolding each
  each_map [] = refl
  each_map (b ∷ l) = rw (each_map l)

  pub ticks-all : (j : ℕ) {out o : List ℕ} {at : ℕ} → length (list_of s) ≤ j → PutAt out 0 (each F (take j (list_of s))) o at
      → PutAt out 0 (tick_says prefix (past_at t i)) o at
  unfolding tick_says starts_of
  ticks-all j {out} {o} {at} l a =
      let y : each F (take j (list_of s)) ≡ each (tick_says_of prefix (past_at t i)) (watch (past_at t i)) =
      ap (each F) (take_all j (list_of s) l) ∙ each_map (list_of s)
      ∙ ap (each (tick_says_of prefix (past_at t i))) w.watch in
      subst (λ (x : List ℕ). PutAt out 0 x o at) y a
