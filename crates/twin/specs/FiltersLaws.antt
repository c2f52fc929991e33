-- What a kept monitor's command and a kept packet say, octet by octet: the watch's run, windows, report filtering,
-- event type and data; duplicates. Document 01, Watching, by history; document 02, T-13. Assumes nothing.
use Rattle.std.specs.Prelude.{◌≡◌, ℕ, zero, suc, ◌+◌, ◌-◌, ◌*◌, ◌%◌, ◌<◌, ◌≤◌, Bool, true, false, ◌&&◌, List, length, take, drop, ◌==◌, ◌≢◌, nat_le, slice_index, slice_index_or, refl, Some, None}
use Rattle.std.proofs.Common.{sym, ap₂, ◌∙◌, eq-eqb, ne_eqb, get_or-take, get_or-drop}
use Rattle.std.proofs.Math.Path.{ap}
use native.Mathlib.Omega.{arith}
use Rattle.laws.specs.Tests.{pick, sames}
use Rattle.laws.specs.TestsLaws.{and-not-left, cases_eq}
use Rattle.model.specs.Types.{ticks_of}
use Rattle.model.specs.Frames.{packet_of}
use Rattle.model.specs.Monitors
use Rattle.model.specs.Monitors.{filtering, lets_through, missing, monitor_of, parameters, run_of, sifts, sifts_by, is_second, type_in, windowed}
use Rattle.model.specs.Layout.{extra_size, first_type_in, second_type_in}
use Rattle.statuses.specs.Statuses.{type_by}
use Rattle.marks.specs.Fields.{Framed}
use Rattle.marks.proofs.FieldsLaws.{packet-framed}
use Rattle.marks.proofs.OptionsLaws.{odd-off, odd-on}
use Rattle.pasts.specs.Pair.{alike}
use Rattle.twin.specs.Table.{payload_at}
use Rattle.twin.specs.TableLaws.{sends-long}
use Rattle.twin.specs.Heard.{Adds}
use Rattle.twin.specs.HeardLaws.{first-is, params-first, params-second, second_is, type-in}
use Rattle.twin.specs.Numbered.{Added, Sent, mon_at, numbered, packet_at}

-- report filtering: that of version 1, and that of version 2
pub filtering-first : (l : List ℕ) (at : ℕ) → at ≡ type_by (slice_index l 0) → at ≡ 5
    → 6 ≡ filtering (parameters (monitor_of l))
unfolding filtering missing
filtering-first l at e z = sym (rw (params-first l (first-is l at e z)))

pub filtering-long : (l : List ℕ) (at : ℕ) → Adds l → at ≡ type_by (slice_index l 0) → (at ≢ 5) → 6 < length l
filtering-long l at a e z =
    let s : at ≡ 30 = (second_is l at e z).1 in
    let k : at < length l = type-in l at a e in
    omega arith

pub filtering-second : (l : List ℕ) (at : ℕ) → at ≡ type_by (slice_index l 0) → (at ≢ 5)
    → slice_index l 6 ≡ filtering (parameters (monitor_of l))
unfolding filtering
filtering-second l at e z =
    sym (rw (params-second l (second_is l at e z).0) (get_or-take extra_size (drop first_type_in l) 1 0 (omega arith)
    ∙ get_or-drop first_type_in l 1 0))

-- a monitor's parameters
pub added-long : (t : List ℕ) (a : ℕ) (l : List ℕ) → Added t a → l ≡ drop 3 (payload_at t (a - 1)) → 5 < length l
unfolding type_in pick
added-long t a l s e =
    let m : List ℕ = drop 3 (payload_at t (a - 1)) in
    let h : type_in m < length m = s.adds.long in
    rw e (go (is_second m) h)
  where
    go : (b : Bool) → pick b second_type_in first_type_in < length (drop 3 (payload_at t (a - 1)))
        → 5 < length (drop 3 (payload_at t (a - 1)))
    go true h = omega arith
    go false h = omega arith

pub added-adds : (t : List ℕ) (a : ℕ) (l : List ℕ) → Added t a → l ≡ drop 3 (payload_at t (a - 1)) → Adds l
added-adds t a l s e = rw e s.adds

pub run-read : (t : List ℕ) (a : ℕ) (l : List ℕ) → l ≡ drop 3 (payload_at t (a - 1))
    → slice_index l 3 * 10 ≡ run_of (mon_at t a)
unfolding run_of ticks_of monitor_of
run-read t a l e = rw (← e) (omega arith)

pub windowed-read : (t : List ℕ) (a : ℕ) (l : List ℕ) → l ≡ drop 3 (payload_at t (a - 1))
    → (nat_le 1 (slice_index l 4) && nat_le (slice_index l 4) 254) ≡ windowed (mon_at t a)
unfolding windowed monitor_of
windowed-read t a l e = rw (← e)

pub sampling-read : (t : List ℕ) (a : ℕ) (l : List ℕ) → l ≡ drop 3 (payload_at t (a - 1))
    → slice_index l 4 ≡ (mon_at t a).sampling
unfolding monitor_of
sampling-read t a l e = rw (← e)

pub sifting-read : (t : List ℕ) (a f : ℕ) (l : List ℕ) → l ≡ drop 3 (payload_at t (a - 1))
    → f ≡ filtering (parameters (monitor_of l))
    → (f % 2 == 1) ≡ sifts (mon_at t a)
unfolding sifts sifts_by
sifting-read t a f l e q =
    let g : f ≡ filtering (parameters (mon_at t a)) = q ∙ rw e in
    rw (← g) (cases_eq (f % 2) 1 (λ z. eq-eqb (f % 2) 1 z ∙ sym (odd-on f z)) (λ z. ne_eqb (f % 2) 1 z
    ∙ sym (odd-off f z)))

pub allows-read : (t : List ℕ) (a q f : ℕ) {v : ℕ} {b : Bool} (l : List ℕ) → l ≡ drop 3 (payload_at t (a - 1))
    → f ≡ filtering (parameters (monitor_of l))
    → v ≡ (packet_at t q).event → b ≡ lets_through f v → b ≡ Monitors.allows (mon_at t a) (packet_at t q).event
unfolding Monitors.allows
allows-read t a q f l e g w z =
    let y : f ≡ filtering (parameters (mon_at t a)) = g ∙ rw e in
    z ∙ ap₂ lets_through y w

-- a packet's event type and data
pub sent-long : (t : List ℕ) (r : ℕ) (l : List ℕ) → Sent t r → l ≡ payload_at t (r - 1) → 10 ≤ length l
sent-long t r l s e = rw e (sends-long t (r - 1) s.sends)

pub sent-framed : (t : List ℕ) (r : ℕ) (l : List ℕ) → Sent t r → l ≡ payload_at t (r - 1) → Framed l
sent-framed t r l s e = rw e (packet-framed (payload_at t (r - 1)) s.sends.form)

pub event-read : (t : List ℕ) (r : ℕ) (l : List ℕ) → l ≡ payload_at t (r - 1) → slice_index l 0 ≡ (packet_at t r).event
unfolding packet_of
event-read t r l e = rw e

pub data-read : (t : List ℕ) (r n : ℕ) (l : List ℕ) → l ≡ payload_at t (r - 1) → n ≡ slice_index l 8
    → take (9 + n - 9) (drop 9 l) ≡ (packet_at t r).adv
unfolding packet_of
data-read t r n l e q = let z : 9 + n - 9 ≡ slice_index_or l 8 0 = omega arith in rw z (rw e)

-- duplicates
pub alike-none : (t : List ℕ) (q : ℕ) → false ≡ alike (packet_at t q) (numbered t None)
unfolding alike numbered
alike-none t q = refl

module _ (t : List ℕ) (r q : ℕ) where
  like : alike (packet_at t q) (numbered t (Some r))
      ≡ ((packet_at t r).event == (packet_at t q).event && sames (packet_at t r).adv (packet_at t q).adv)
  unfolding alike numbered
  like = refl

  pub alike-other : {x y : ℕ} → x ≡ (packet_at t r).event → y ≡ (packet_at t q).event → (x ≢ y)
      → false ≡ alike (packet_at t q) (numbered t (Some r))
  alike-other ex ey n =
      sym (like ∙ and-not-left _ _ (ne_eqb (packet_at t r).event (packet_at t q).event (λ e. n (ex ∙ e ∙ sym ey))))

  pub alike-asked : {x y : ℕ} {l m : List ℕ} {b : Bool} → x ≡ (packet_at t r).event
      → y ≡ (packet_at t q).event → x ≡ y
      → l ≡ (packet_at t r).adv → m ≡ (packet_at t q).adv → b ≡ sames l m
      → b ≡ alike (packet_at t q) (numbered t (Some r))
  alike-asked ex ey n el em e =
      e ∙ ap₂ sames el em
      ∙ sym (like ∙ rw (eq-eqb (packet_at t r).event (packet_at t q).event (sym ex ∙ n ∙ ey)))
