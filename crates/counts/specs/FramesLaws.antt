-- Laws of the definitions in Frames.
use Rattle.std.specs.Prelude.{ℕ, ◌+◌, ◌-◌, ◌≤◌, ◌<◌, ◌≡◌, List, eqb, leb, length, take, drop, get_or, replicate}
use Rattle.std.proofs.Math.Path.{refl, sym}
use Rattle.std.proofs.Common.{ap, ◌∙◌, arith, length-drop, take_all}
use mathlib.Core.Bool.{Bool, true, false, ◌&&◌, ◌||◌}
use borrow.Author.Tests.{eq-eqb, ne_eqb, eqb-true, leb-true}
use Rattle.laws.specs.Tests.{pick}
use Rattle.laws.specs.TestsLaws.{and_left, and_right}
use Rattle.laws.specs.Loops.{up_to}
use Rattle.octets.specs.Little.{little}
use Rattle.totals.specs.declared.Row.{Row}
use Rattle.totals.specs.Table.{empty, table_rows}
use Rattle.sessions.specs.Machine.{last_number}
use Rattle.model.specs.Types.{Model}
use Rattle.model.specs.Frames.{Body, Typed, command, packet, tick, bad, is_command, is_packet, is_scanned, has_packet, is_tick, packet_of, frame_of, typed}
use Rattle.model.specs.Sound.{sound_model}
use Rattle.model.specs.Block.{padded}
use Rattle.model.specs.Level.{in_range}
use Rattle.model.specs.Layout.{block_size, most_data, most_monitors}
use Rattle.blocks.specs.BlockLaws.{padded-length}
use Rattle.months.specs.Counts.{packets_in, reports_in, ticks_in, sum_in, row_in, rows_added}
use Rattle.months.specs.Tables.{table_of}
use Rattle.counts.specs.Frames.{body_of, Adds, most_counted}

adds-typed : (m : Model) (b : Body) (f : Typed) → typed b ≡ f → rows_added m b ≡ table_of (row_in m f) most_monitors
unfolding rows_added table_of
adds-typed m b f e = ap (λ (g : Typed). table_of (row_in m g) most_monitors) e

unfoldable nothing : Typed → Bool
nothing (command o l) = true
nothing (packet p) = false
nothing tick = false
nothing bad = true

none_rows : (m : Model) (f : Typed) → nothing f ≡ true → replicate table_rows empty ≡ table_of (row_in m f) most_monitors
unfolding nothing table_of up_to row_in packets_in reports_in ticks_in sum_in
none_rows m (command o l) e = refl
none_rows m (packet p) e = absurd (mathlib.Core.Bool.false≢true e)
none_rows m tick e = absurd (mathlib.Core.Bool.false≢true e)
none_rows m bad e = refl

module _ (l : List ℕ) where
  typed-packet : is_packet l ≡ true → typed (body_of 2 l) ≡ packet (packet_of l)
  unfolding typed pick
  typed-packet e = rw e

  typed-no-packet : is_packet l ≡ false → typed (body_of 2 l) ≡ bad
  unfolding typed pick
  typed-no-packet e = rw e

  typed-scanned : is_scanned l ≡ true → typed (body_of 4 l) ≡ packet (packet_of l)
  unfolding typed pick
  typed-scanned e = rw e

  typed-no-scanned : is_scanned l ≡ false → typed (body_of 4 l) ≡ bad
  unfolding typed pick
  typed-no-scanned e = rw e

  typed-tick : is_tick l ≡ true → typed (body_of 3 l) ≡ tick
  unfolding typed pick
  typed-tick e = rw e

  typed-no-tick : is_tick l ≡ false → typed (body_of 3 l) ≡ bad
  unfolding typed pick
  typed-no-tick e = rw e

  typed-other : (k : ℕ) → (k ≡ 2 → ⊥) → (k ≡ 3 → ⊥) → (k ≡ 4 → ⊥) → nothing (typed (body_of k l)) ≡ true
  unfolding typed nothing pick
  typed-other k a b c =
      rw (ne_eqb k 2 a, ne_eqb k 3 b, ne_eqb k 4 c) (go (eqb k 1) (is_command l))
    where
      go : (u v : Bool)
          → nothing (pick u (pick v (command (little 2 l 0) (drop 3 l)) bad)
          (pick false (pick (is_packet l) (packet (packet_of l)) bad)
          (pick false (pick (is_tick l) tick bad) (pick false (pick (is_scanned l) (packet (packet_of l)) bad) bad))))
          ≡ true
      go true true = refl
      go true false = refl
      go false v = refl

-- each way of the code
module _ (s l : List ℕ) where
  pub adds-packet : {r : List Row} → is_packet l ≡ true
      → ((m : Model) → sound_model m ≡ true → s ≡ padded m → m.position < last_number → has_packet l ≡ true
      → r ≡ table_of (row_in m (packet (packet_of l))) most_monitors)
      → Adds s 2 l r
  unfolding has_packet
  adds-packet e f m a b c = f m a b c (rw e) ∙ sym (adds-typed m (body_of 2 l) (packet (packet_of l)) (typed-packet l e))

  pub adds-no-packet : {r : List Row} → is_packet l ≡ false → r ≡ replicate table_rows empty → Adds s 2 l r
  unfolding nothing
  adds-no-packet e f m a b c = f ∙ none_rows m bad refl ∙ sym (adds-typed m (body_of 2 l) bad (typed-no-packet l e))

  pub adds-scanned : {r : List Row} → is_scanned l ≡ true
      → ((m : Model) → sound_model m ≡ true → s ≡ padded m → m.position < last_number → has_packet l ≡ true
      → r ≡ table_of (row_in m (packet (packet_of l))) most_monitors)
      → Adds s 4 l r
  unfolding has_packet
  adds-scanned e f m a b c =
      f m a b c (or_right (is_packet l) (is_scanned l) e)
      ∙ sym (adds-typed m (body_of 4 l) (packet (packet_of l)) (typed-scanned l e))
    where
      or_right : (x y : Bool) → y ≡ true → (x || y) ≡ true
      or_right true y e = refl
      or_right false y e = e

  pub adds-no-scanned : {r : List Row} → is_scanned l ≡ false → r ≡ replicate table_rows empty → Adds s 4 l r
  unfolding nothing
  adds-no-scanned e f m a b c = f ∙ none_rows m bad refl ∙ sym (adds-typed m (body_of 4 l) bad (typed-no-scanned l e))

  pub adds-tick : {r : List Row} → length l ≡ 0
      → ((m : Model) → sound_model m ≡ true → s ≡ padded m → r ≡ table_of (row_in m tick) most_monitors) → Adds s 3 l r
  unfolding is_tick
  adds-tick e f m a b c = f m a b ∙ sym (adds-typed m (body_of 3 l) tick (typed-tick l (eq-eqb (length l) 0 e)))

  pub adds-no-tick : {r : List Row} → (length l ≡ 0 → ⊥) → r ≡ replicate table_rows empty → Adds s 3 l r
  unfolding is_tick nothing
  adds-no-tick e f m a b c =
      f ∙ none_rows m bad refl ∙ sym (adds-typed m (body_of 3 l) bad (typed-no-tick l (ne_eqb (length l) 0 e)))

  pub adds-other : (k : ℕ) {r : List Row} → (k ≡ 2 → ⊥) → (k ≡ 3 → ⊥) → (k ≡ 4 → ⊥) → r ≡ replicate table_rows empty
      → Adds s k l r
  adds-other k x y z f m a b c =
      f ∙ none_rows m (typed (body_of k l)) (typed-other l k x y z)
      ∙ sym (adds-typed m (body_of k l) (typed (body_of k l)) refl)

-- a kind that was found
pub adds-kind : (s l : List ℕ) (k j : ℕ) {r : List Row} → k ≡ j → Adds s j l r → Adds s k l r
adds-kind s l k j e f m a b c = f m a b c ∙ ap (λ (i : ℕ). rows_added m (body_of i l)) (sym e)

-- the frame of octets; no core of another length is a sound state's
pub adds-frame : (raw : List ℕ) (m : Model) {r : List Row}
    → r ≡ rows_added m (body_of (get_or raw 0 0) (take (length raw - 5) (drop 5 raw)))
    → r ≡ rows_added m (frame_of raw).body
unfolding frame_of
adds-frame raw m e =
    let n : length (drop 5 raw) ≡ length raw - 5 = length-drop 5 raw in
    e ∙ ap (λ (l : List ℕ). rows_added m (body_of (get_or raw 0 0) l))
    (take_all (length raw - 5) (drop 5 raw) (omega arith))

pub wrong_size : (s : List ℕ) (m : Model) {A : Type 0} → (length s ≡ block_size → ⊥) → sound_model m ≡ true
    → s ≡ padded m → A
wrong_size s m n e b = absurd (n (ap length b ∙ padded-length m e))

-- a longer one is no packet's and no tick's
no-packet : (l : List ℕ) → 11 + most_data + most_data < length l → is_packet l ≡ false
unfolding is_packet
no-packet l h = go (is_packet l) refl
  where
    go : (t : Bool) → is_packet l ≡ t → t ≡ false
    go false e = refl
    go true e =
        let a = leb (get_or l 0 0) 3 in
        let b = leb (get_or l 1 0) 1 in
        let c = leb (get_or l 8 0) most_data in
        let d = eqb (length l) (10 + get_or l 8 0) in
        let x : (a && b && c && d) ≡ true = and_left (a && b && c && d) (in_range (get_or l (9 + get_or l 8 0) 0)) e in
        let y : length l ≡ 10 + get_or l 8 0 = eqb-true (length l) (10 + get_or l 8 0) (and_right (a && b && c) d x) in
        let z : get_or l 8 0 ≤ most_data =
        leb-true (get_or l 8 0) most_data (and_right (a && b) c (and_left (a && b && c) d x)) in
        absurd (omega (arith, h, y, z))

no-scanned : (l : List ℕ) → 11 + most_data + most_data < length l → is_scanned l ≡ false
unfolding is_scanned
no-scanned l h = go (is_scanned l) refl
  where
    go : (t : Bool) → is_scanned l ≡ t → t ≡ false
    go false e = refl
    go true e =
        let n = get_or l 8 0 in
        let k = get_or l (9 + n) 0 in
        let a = eqb (get_or l 0 0) 0 || eqb (get_or l 0 0) 2 in
        let b = leb (get_or l 1 0) 1 in
        let c = leb n most_data in
        let f = leb k most_data in
        let d = eqb (length l) (11 + n + k) in
        let x : (a && b && c && f && d) ≡ true = and_left (a && b && c && f && d)
        (in_range (get_or l (10 + n + k) 0)) e in
        let y : length l ≡ 11 + n + k = eqb-true (length l) (11 + n + k) (and_right (a && b && c && f) d x) in
        let w : (a && b && c && f) ≡ true = and_left (a && b && c && f) d x in
        let z : n ≤ most_data = leb-true n most_data (and_right (a && b) c (and_left (a && b && c) f w)) in
        let v : k ≤ most_data = leb-true k most_data (and_right (a && b && c) f w) in
        absurd (omega (arith, h, y, z, v))

long-nothing : (b : Body) → 11 + most_data + most_data < length b.payload → nothing (typed b) ≡ true
unfolding typed nothing pick is_tick
long-nothing b h =
    rw (
      no-packet b.payload h,
      no-scanned b.payload h,
      ne_eqb (length b.payload) 0
          (λ (z : length b.payload ≡ 0). omega (arith, h, z)),
    )
    (go (eqb b.kind 1) (is_command b.payload) (eqb b.kind 2) (eqb b.kind 3) (eqb b.kind 4))
  where
    go : (u v x y z : Bool)
        → nothing (pick u (pick v (command (little 2 b.payload 0) (drop 3 b.payload)) bad)
        (pick x (pick false (packet (packet_of b.payload)) bad)
        (pick y (pick false tick bad) (pick z (pick false (packet (packet_of b.payload)) bad) bad)))) ≡ true
    go true true x y z = refl
    go true false x y z = refl
    go false v true y z = refl
    go false v false true z = refl
    go false v false false true = refl
    go false v false false false = refl

pub adds-long : (m : Model) (raw : List ℕ) → most_counted < length raw
    → replicate table_rows empty ≡ rows_added m (frame_of raw).body
unfolding frame_of
adds-long m raw h =
    let n : length (drop 5 raw) ≡ length raw - 5 = length-drop 5 raw in
    let b : Body = body_of (get_or raw 0 0) (drop 5 raw) in
    none_rows m (typed b) (long-nothing b (omega (arith, h, n))) ∙ sym (adds-typed m b (typed b) refl)
