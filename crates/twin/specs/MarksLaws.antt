-- What the code asks of one kept start: the ticks without a good packet, the level that it keeps, its handle and
-- device. Assumes nothing.
use Rattle.std.specs.Prelude.{◌≡◌, ℕ, ◌+◌, ◌-◌, ◌<◌, ◌≤◌, Bool, true, false, not, ◌&&◌, List, length, take, drop, ◌≢◌, nat_le, nat_lt, slice_index}
use Rattle.std.proofs.Math.Path.{sym, ap, ap₂}
use Rattle.std.proofs.Common.{◌∙◌, arith, eq-eqb, ne_eqb, le-leb}
use Rattle.std.proofs.lemmas.Bool.{lt-leb}
use Rattle.laws.specs.Tests.{sames}
use Rattle.laws.specs.TestsLaws.{and-not-left}
use Rattle.laws.specs.Loops.{some as some_of}
use Rattle.model.specs.Types.{Monitor, Packet}
use Rattle.model.specs.Level.{level}
use Rattle.model.proofs.LevelsLaws.{most-levels}
use Rattle.model.specs.Frames.{packet_of}
use Rattle.model.specs.Monitors.{matches, monitor_of, run_of, strong}
use Rattle.marks.specs.Fields.{Framed}
use Rattle.marks.proofs.FieldsLaws.{packet-framed}
use Rattle.pasts.specs.Pair.{kept_in, silent_in}
use Rattle.twin.specs.declared.watch.Begun.{Begun}
use Rattle.twin.specs.declared.watch.Seen.{Seen}
use Rattle.twin.specs.Table.{after, payload_at}
use Rattle.twin.specs.TableLaws.{sends-long}
use Rattle.twin.specs.Hears.{Start, start_of}
use Rattle.twin.specs.HearsLaws.{device-read}
use Rattle.twin.specs.Silent.{Looks}
use Rattle.twin.specs.Numbered.{Added, mon_at}
use Rattle.twin.specs.Seen.{Comes, Frames, Marked, lasts, level_in, list_of, pair_in, start_at}

pub marked-looks : (t : List ℕ) (n : ℕ) (b : Begun) → Frames t n → Marked t n b → Looks t b.monitor b.packet n
marked-looks t n b f m = record { start = m.start; order = m.order; few = f.few; formed = f.formed }

pub marked_more : (t : List ℕ) (n : ℕ) (b : Begun) → Marked t n b → Marked t (n + 1) b
marked_more t n b m =
    record { start = m.start; order = let o : b.packet ≤ n = m.order in omega arith; handle = m.handle }

pub looks-at : (t : List ℕ) (n a k : ℕ) (b : Begun) → a ≡ b.monitor → k ≡ b.packet
    → Looks t b.monitor b.packet n → Looks t a k n
looks-at t n a k b p q l = rw (p, q) l

pub added-at : (t : List ℕ) (n a : ℕ) (b : Begun) → a ≡ b.monitor → Looks t b.monitor b.packet n → Added t a
added-at t n a b p l =
    rw p (record { monitor = l.start.monitor; commands = l.start.commands; adds = l.start.adds })

module _ (t : List ℕ) (n a k : ℕ) (b : Begun) (p : a ≡ b.monitor) (q : k ≡ b.packet) where
  pub level-asked : (r x : ℕ) → ((h : ℕ) → x ≡ kept_in (start_of t h a k) (after t k (n - k))) → r ≡ level x
      → r ≡ level_in t n b
  unfolding level_in start_at
  level-asked r x f e = e ∙ ap level (f b.handle ∙ rw (p, q))

  pub lasts-asked : (c r : ℕ) → ((h : ℕ) → c ≡ silent_in (start_of t h a k) (after t k (n - k))) → r ≡ run_of (mon_at t a)
      → nat_lt c r ≡ lasts t n b
  unfolding lasts start_at start_of
  lasts-asked c r f e =
      let x : c ≡ silent_in (start_of t b.handle b.monitor b.packet) (after t b.packet (n - b.packet)) =
      f b.handle ∙ rw (p, q) in
      let y : r ≡ run_of (mon_at t b.monitor) = e ∙ rw p in
      rw (x, y)

-- its handle and its device
module _ (t : List ℕ) (i h : ℕ) (b : Begun) where
  pub pair-other : {x : ℕ} → x ≡ b.handle → (x ≢ h) → false ≡ pair_in t i h b
  unfolding pair_in
  pair-other e n = sym (and-not-left _ _ (ne_eqb b.handle h (λ z. n (e ∙ z))))

  pub pair-asked : {x k : ℕ} {d p : List ℕ} {r : Bool} → Comes t i → Start t b.monitor b.packet → x ≡ b.handle
      → x ≡ h → k ≡ b.packet
      → d ≡ payload_at t (k - 1) → p ≡ payload_at t i → r ≡ sames (take 7 (drop 1 d)) (take 7 (drop 1 p))
      → r ≡ pair_in t i h b
  unfolding pair_in start_at start_of
  pair-asked {x} {k} {d} {p} {r} c s e z w ed ep f =
      let u : 10 ≤ length (payload_at t (b.packet - 1)) = sends-long t (b.packet - 1) s.sends in
      let v : 10 ≤ length (payload_at t i) = sends-long t i c.sends in
      let y : d ≡ payload_at t (b.packet - 1) = ed ∙ rw w in
      f ∙ ap₂ sames (ap (λ (l : List ℕ). take 7 (drop 1 l)) y
      ∙ device-read (payload_at t (b.packet - 1)) (omega arith))
      (ap (λ (l : List ℕ). take 7 (drop 1 l)) ep ∙ device-read (payload_at t i) (omega arith))
      ∙ sym (rw (eq-eqb b.handle h (sym e ∙ z)))

pub packet-long : (t : List ℕ) (i : ℕ) (p : List ℕ) → Comes t i → p ≡ payload_at t i → 10 ≤ length p
packet-long t i p c e = rw e (sends-long t i c.sends)

pub packet-framed-at : (t : List ℕ) (i : ℕ) (p : List ℕ) → Comes t i → p ≡ payload_at t i → Framed p
packet-framed-at t i p c e = rw e (packet-framed (payload_at t i) c.sends.form)

pub start-long : (t : List ℕ) (k : ℕ) (b : Begun) (d : List ℕ) → Start t b.monitor b.packet → k ≡ b.packet
    → d ≡ payload_at t (k - 1) → 10 ≤ length d
start-long t k b d s w e = rw (e, w) (sends-long t (b.packet - 1) s.sends)

-- whether a packet would start a pair of a monitor
module _ (t : List ℕ) (i h a : ℕ) (s : Seen) where
  abbrev pub M : Monitor
  M = mon_at t a

  abbrev pub P : Packet
  P = packet_of (payload_at t i)

  abbrev pub Wants : Bool
  Wants = matches M P && (strong M P && not (some_of (pair_in t i h) (list_of s)))

  module _ {l p : List ℕ} (el : l ≡ drop 3 (payload_at t (a - 1))) (ep : p ≡ payload_at t i) {r : Bool}
      (f : r ≡ matches (monitor_of l) (packet_of p)) where
    match_is : r ≡ matches M P
    match_is = f ∙ rw (el, ep)

    pub wants-none : r ≡ false → false ≡ Wants
    wants-none z = sym (and-not-left _ _ (sym match_is ∙ z))

    module _ (z : r ≡ true) (x y v : ℕ) (ex : v ≡ P.rssi) (ev : x ≡ level v) (ey : y ≡ level (slice_index l 1)) where
      strong-is : strong M P ≡ nat_le y x
      unfolding strong monitor_of
      strong-is = most-levels _ _ ∙ rw (← el, ← ey, ← ex, ← ev)

      pub wants-weak : x < y → false ≡ Wants
      wants-weak b = sym (rw (sym match_is ∙ z, strong-is, lt-leb y x b))

      pub wants-asked : {q : Bool} → y ≤ x → q ≡ some_of (pair_in t i h) (list_of s) → not q ≡ Wants
      wants-asked {q} b e = sym (rw (sym match_is ∙ z, strong-is, le-leb y x b, ← e))

-- the packet's level, and the one kept
module _ (t : List ℕ) (i n : ℕ) (b : Begun) (x y v : ℕ) (ev : v ≡ (packet_of (payload_at t i)).rssi) (ex : x ≡ level v)
    (ey : y ≡ level_in t n b) where
  pub not-above : x ≤ y → level (packet_of (payload_at t i)).rssi ≤ level_in t n b
  not-above h = rw (← ev, ← ex, ← ey) h

  pub is-above : y < x → level_in t n b < level (packet_of (payload_at t i)).rssi
  is-above h = rw (← ev, ← ex, ← ey) h
