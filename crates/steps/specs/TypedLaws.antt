-- Laws of the definitions in Typed.
use Rattle.std.specs.Prelude.{ℕ, zero, suc, ◌+◌, ◌-◌, ◌≤◌, ◌<◌, ◌≡◌, refl, Bool, true, false, ◌&&◌, ◌||◌, List, [], ◌∷◌, leb, eqb, length, take, drop, get_or}
use Rattle.std.proofs.Common.{arith, length-drop, length-take, length-take-le, leb-true, eqb-true, ltb-true, le-leb}
use Rattle.std.proofs.lemmas.Bool.{false≢true, lt-leb}
use Rattle.std.proofs.Math.Option.{none, some}
use Rattle.laws.specs.Tests.{pick}
use Rattle.laws.specs.TestsLaws.{and_left, and_right, cases-le}
use Rattle.laws.specs.Loops.{every}
use Rattle.laws.specs.LoopsLaws.{every_take, every_drop}
use Rattle.octets.specs.Little.{little, is_octet}
use Rattle.model.specs.Types.{scan_text}
use Rattle.model.specs.Level.{in_range}
use Rattle.model.specs.Frames.{Body, Typed, command, packet, tick, bad, is_command, is_packet, is_scanned, has_packet, scan_of, packet_of, is_tick, typed}
use Rattle.steps.specs.FactsLaws.{and-five}
use Rattle.model.specs.Layout.{most_data}
use Rattle.steps.specs.Typed.{Sent}

-- a statement on a pick, from both of its arms
pub pick-both : {A : Type 0} (P : A → Type 0) (t : Bool) (a b : A) → (t ≡ true → P a) → (t ≡ false → P b)
    → P (pick t a b)
unfolding pick
pick-both P true a b f g = f refl
pick-both P false a b f g = g refl

-- an octet of an octet list, 0 past its end
pub at-octet : (l : List ℕ) (i : ℕ) → every is_octet l ≡ true → is_octet (get_or l i 0) ≡ true
unfolding every
at-octet [] i e = refl
at-octet (x ∷ l) zero e = and_left (is_octet x) (every is_octet l) e
at-octet (x ∷ l) (suc i) e = at-octet l i (and_right (is_octet x) (every is_octet l) e)

-- the scan response of a payload: none where it ends behind the data's end, else so many octets as are said
pub scan-none : (l : List ℕ) → length l ≤ 10 + get_or l 8 0 → scan_of l ≡ none
unfolding scan_of pick
scan-none l h = rw (le-leb (length l) (10 + get_or l 8 0) h)

pub scan-some : (l : List ℕ) → 10 + get_or l 8 0 < length l
    → scan_of l ≡ some (take (get_or l (9 + get_or l 8 0) 0) (drop (10 + get_or l 8 0) l))
unfolding scan_of pick
scan-some l h = rw (lt-leb (length l) (10 + get_or l 8 0) h)

-- what both kinds of packets share: lengths and ranges of a payload's fields
pub record Fielded (l : List ℕ) : Type 0 where
  pub event : get_or l 0 0 ≤ 3
  pub kind : get_or l 1 0 ≤ 1
  pub few : get_or l 8 0 ≤ most_data
  pub size : 10 + get_or l 8 0 ≤ length l
  pub scanned : 10 + get_or l 8 0 < length l → (get_or l (9 + get_or l 8 0) 0 ≤ most_data)
      × (length l ≡ 11 + get_or l 8 0 + get_or l (9 + get_or l 8 0) 0)
  pub rssi : in_range (get_or l (length l - 1) 0) ≡ true

fielded-sent : (l : List ℕ) → every is_octet l ≡ true → Fielded l → Sent (packet_of l)
unfolding packet_of scan_text every
fielded-sent l o f =
    let n : ℕ = get_or l 8 0 in
    let few : n ≤ most_data = f.few in
    let size : 10 + n ≤ length l = f.size in
    let two : length (drop 2 l) ≡ length l - 2 = length-drop 2 l in
    let nine : length (drop 9 l) ≡ length l - 9 = length-drop 9 l in
    let adv : length (take n (drop 9 l)) ≡ n = length-take-le n (drop 9 l) (omega arith) in
    let scan = cases-le (length l) (10 + n) (λ h. without h) (λ h. within h) in
    record {
      event-most = f.event;
      kind-most = f.kind;
      address-six = length-take-le 6 (drop 2 l) (omega arith);
      address-octets = every_take is_octet 6 (drop 2 l) (every_drop is_octet 2 l o);
      adv-short = omega arith;
      adv-octets = every_take is_octet n (drop 9 l) (every_drop is_octet 9 l o);
      scan-short = scan.0;
      scan-octets = scan.1;
      rssi-octet = ltb-true (get_or l (length l - 1) 0) 256 (at-octet l (length l - 1) o);
      rssi-in = f.rssi;
    }
  where
    Short : List ℕ → Type 0
    Short x = (length x ≤ most_data) × (every is_octet x ≡ true)

    without : length l ≤ 10 + get_or l 8 0 → Short (scan_text (scan_of l))
    without h = rw (scan-none l h) (omega arith, refl)

    within : 10 + get_or l 8 0 < length l → Short (scan_text (scan_of l))
    within h =
        let k : ℕ = get_or l (9 + get_or l 8 0) 0 in
        let m : k ≤ most_data = (f.scanned h).0 in
        rw (scan-some l h) (
          omega (arith, length-take k (drop (10 + get_or l 8 0) l)),
          every_take is_octet k (drop (10 + get_or l 8 0) l)
              (every_drop is_octet (10 + get_or l 8 0) l o),
        )

packet-fielded : (l : List ℕ) → is_packet l ≡ true → Fielded l
unfolding is_packet
packet-fielded l e =
    let n : ℕ = get_or l 8 0 in
    let r =
    and-five (leb (get_or l 0 0) 3) (leb (get_or l 1 0) 1) (leb n most_data) (eqb (length l) (10 + n))
    (in_range (get_or l (9 + n) 0)) e in
    let size : length l ≡ 10 + n = eqb-true (length l) (10 + n) r.3 in
    let last : length l - 1 ≡ 9 + n = omega arith in
    record {
      event = leb-true (get_or l 0 0) 3 r.0;
      kind = leb-true (get_or l 1 0) 1 r.1;
      few = leb-true n most_data r.2;
      size = omega arith;
      scanned = λ h. absurd (omega arith);
      rssi = rw last r.4;
    }

scanned-fielded : (l : List ℕ) → is_scanned l ≡ true → Fielded l
unfolding is_scanned
scanned-fielded l e =
    let n : ℕ = get_or l 8 0 in
    let k : ℕ = get_or l (9 + n) 0 in
    let t : Bool = eqb (get_or l 0 0) 0 || eqb (get_or l 0 0) 2 in
    let five : Bool = t && leb (get_or l 1 0) 1 && leb n most_data && leb k most_data && eqb (length l) (11 + n + k) in
    let last : Bool = in_range (get_or l (10 + n + k) 0) in
    let r = and-five t (leb (get_or l 1 0) 1) (leb n most_data) (leb k most_data) (eqb (length l) (11 + n + k))
    (and_left five last e) in
    let size : length l ≡ 11 + n + k = eqb-true (length l) (11 + n + k) r.4 in
    let few : k ≤ most_data = leb-true k most_data r.3 in
    let end : length l - 1 ≡ 10 + n + k = omega arith in
    record {
      event = go (eqb (get_or l 0 0) 0) (eqb (get_or l 0 0) 2) refl refl r.0;
      kind = leb-true (get_or l 1 0) 1 r.1;
      few = leb-true n most_data r.2;
      size = omega arith;
      scanned = λ h. (few, size);
      rssi = rw end (and_right five last e);
    }
  where
    go : (a b : Bool) → eqb (get_or l 0 0) 0 ≡ a → eqb (get_or l 0 0) 2 ≡ b → (a || b) ≡ true → get_or l 0 0 ≤ 3
    go true b p q z = omega (arith, eqb-true (get_or l 0 0) 0 p)
    go false true p q z = omega (arith, eqb-true (get_or l 0 0) 2 q)
    go false false p q z = absurd (false≢true z)

-- a payload of either kind
pub fielded : (l : List ℕ) → has_packet l ≡ true → Fielded l
unfolding has_packet
fielded l e = go (is_packet l) refl e
  where
    go : (t : Bool) → is_packet l ≡ t → (t || is_scanned l) ≡ true → Fielded l
    go true p z = packet-fielded l p
    go false p z = scanned-fielded l z

pub packet-sent : (l : List ℕ) → every is_octet l ≡ true → has_packet l ≡ true → Sent (packet_of l)
packet-sent l o e = fielded-sent l o (fielded l e)

-- each kind's payload is a packet's
pub packet-has : (l : List ℕ) → is_packet l ≡ true → has_packet l ≡ true
unfolding has_packet
packet-has l e = rw e

pub scanned-has : (l : List ℕ) → is_scanned l ≡ true → has_packet l ≡ true
unfolding has_packet
scanned-has l e = rw e (go (is_packet l))
  where
    go : (t : Bool) → (t || true) ≡ true
    go true = refl
    go false = refl

-- a command's parameter list: octets, and not empty
pub record Params (l : List ℕ) : Type 0 where
  pub octets : every is_octet l ≡ true
  pub some-octet : 1 ≤ length l

abbrev pub Formed : Typed → Type 0
Formed (command opcode l) = Params l
Formed (packet p) = Sent p
Formed tick = Unit
Formed bad = Unit

pub command-formed : (l : List ℕ) → every is_octet l ≡ true → is_command l ≡ true → Params (drop 3 l)
unfolding is_command
command-formed l o e =
    let long : 4 ≤ length l =
    leb-true 4 (length l) (and_left (leb 4 (length l)) (eqb (length l) (3 + get_or l 2 0)) e) in
    let n : length (drop 3 l) ≡ length l - 3 = length-drop 3 l in
    record { octets = every_drop is_octet 3 l o; some-octet = omega arith }

-- a body of octets makes a frame of such parts
pub typed-formed : (b : Body) → every is_octet b.payload ≡ true → Formed (typed b)
unfolding typed
typed-formed b o =
    let l : List ℕ = b.payload in
    pick-both Formed (eqb b.kind 1) _ _
    (λ s. pick-both Formed (is_command l) (command (little 2 l 0) (drop 3 l)) bad (λ e. command-formed l o e)
    (λ e. tt))
    (λ s. pick-both Formed (eqb b.kind 2) _ _
    (λ t. pick-both Formed (is_packet l) (packet (packet_of l)) bad (λ e. packet-sent l o (packet-has l e)) (λ e. tt))
    (λ t. pick-both Formed (eqb b.kind 3) _ _
    (λ u. pick-both Formed (is_tick l) tick bad (λ e. tt) (λ e. tt))
    (λ u. pick-both Formed (eqb b.kind 4) _ _
    (λ v. pick-both Formed (is_scanned l) (packet (packet_of l)) bad (λ e. packet-sent l o (scanned-has l e)) (λ e. tt))
    (λ v. tt))))
