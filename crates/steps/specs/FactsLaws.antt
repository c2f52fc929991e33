-- What a sound state keeps to: the tests of `sound_model`, taken apart into records and put together again. Document
-- 01, The image ("Sound: ..") and Sizes of the gateway. Assumes nothing.
use Rattle.std.specs.Prelude.{ℕ, ◌≤◌, ◌<◌, ◌≡◌, refl, false, ◌&&◌, ◌||◌, List, [], length}
use Rattle.std.proofs.Common.{arith, ◌∙◌}
use Rattle.std.proofs.Math.Path.{sym}
use Rattle.std.proofs.Math.Bool.{Bool, true}
use Rattle.std.proofs.Math.Dec.{leb, ltb, eqb}
use borrow.Author.Tests.{leb-true, leb-false, ltb-true, eqb-true, le-leb, lt-ltb, eq-eqb}
use Rattle.laws.specs.Tests.{pick}
use Rattle.laws.specs.TestsLaws.{and_left, and_right, and_both, pick_true, pick-false}
use Rattle.laws.specs.Loops.{every}
use Rattle.octets.specs.Little.{is_octet}
use Rattle.model.specs.Types.{Monitor, Pair}
use Rattle.model.specs.Level.{in_range, sum_in_range}
use Rattle.model.proofs.LevelsLaws.{Summed, summed-of, summed-holds}
use Rattle.model.specs.Monitors.{accepts, sifts, windowed}
use Rattle.model.specs.Sound.{octets_up_to, sound_settings, sound_extra, sound_monitor, sound_window, sound_latest, sound_empty, sound_fields}
use Rattle.model.specs.Layout.{most_data, most_prefix}

-- the parts of a conjunction
pub and-three : (a b c : Bool) → (a && b && c) ≡ true → (a ≡ true) × (b ≡ true) × (c ≡ true)
and-three a b c e =
    let r : (a && b) ≡ true = and_left (a && b) c e in (and_left a b r, and_right a b r, and_right (a && b) c e)

pub and-four : (a b c d : Bool) → (a && b && c && d) ≡ true → (a ≡ true) × (b ≡ true) × (c ≡ true) × (d ≡ true)
and-four a b c d e =
    let r = and-three a b c (and_left (a && b && c) d e) in (r.0, r.1, r.2, and_right (a && b && c) d e)

pub and-five : (a b c d f : Bool) → (a && b && c && d && f) ≡ true
    → (a ≡ true) × (b ≡ true) × (c ≡ true) × (d ≡ true) × (f ≡ true)
and-five a b c d f e =
    let r = and-four a b c d (and_left (a && b && c && d) f e) in
    (r.0, r.1, r.2, r.3, and_right (a && b && c && d) f e)

pub up-to : (n : ℕ) (l : List ℕ) → octets_up_to n l ≡ true → (length l ≤ n) × (every is_octet l ≡ true)
unfolding octets_up_to
up-to n l e = (
  leb-true (length l) n (and_left (leb (length l) n) (every is_octet l) e),
  and_right (leb (length l) n)
      (every is_octet l) e,
)

pub up-to-holds : (n : ℕ) (l : List ℕ) → length l ≤ n → every is_octet l ≡ true → octets_up_to n l ≡ true
unfolding octets_up_to
up-to-holds n l h e = and_both (le-leb (length l) n h) e

-- "Settings at start: vendor opcode 0xFC00 to 0xFFFF, event prefix of 0 to 32 octets."
pub record Settings (opcode : ℕ) (prefix : List ℕ) : Type 0 where
  pub opcode-least : 64512 ≤ opcode
  pub opcode-most : opcode ≤ 65535
  pub prefix-short : length prefix ≤ most_prefix
  pub prefix-octets : every is_octet prefix ≡ true

pub settings-of : (opcode : ℕ) (prefix : List ℕ) → sound_settings opcode prefix ≡ true → Settings opcode prefix
unfolding sound_settings
settings-of opcode prefix e =
    let r = and-three (leb 64512 opcode) (leb opcode 65535) (octets_up_to most_prefix prefix) e in
    let u = up-to most_prefix prefix r.2 in
    record {
      opcode-least = leb-true 64512 opcode r.0;
      opcode-most = leb-true opcode 65535 r.1;
      prefix-short = u.0;
      prefix-octets = u.1;
    }

pub settings-hold : (opcode : ℕ) (prefix : List ℕ) → Settings opcode prefix → sound_settings opcode prefix ≡ true
unfolding sound_settings
settings-hold opcode prefix s =
    and_both (and_both (le-leb 64512 opcode s.opcode-least) (le-leb opcode 65535 s.opcode-most))
    (up-to-holds most_prefix prefix s.prefix-short s.prefix-octets)

-- "every monitor as 0x03 would accept it", or 0x0F, its fields octets
pub record Stored (m : Monitor) : Type 0 where
  pub accepted : accepts m ≡ true
  pub high-octet : is_octet m.high ≡ true
  pub low-octet : is_octet m.low ≡ true
  pub sampling-octet : is_octet m.sampling ≡ true
  pub condition-octets : every is_octet m.condition ≡ true
  pub extra-sound : sound_extra m.extra ≡ true

pub stored_of : (m : Monitor) → sound_monitor m ≡ true → Stored m
unfolding sound_monitor
stored_of m e =
    let c : Bool = every is_octet m.condition in
    let x : Bool = sound_extra m.extra in
    let a : Bool = accepts m && is_octet m.high && is_octet m.low && is_octet m.sampling && c in
    let r = and-five (accepts m) (is_octet m.high) (is_octet m.low) (is_octet m.sampling) c (and_left a x e) in
    record {
      accepted = r.0;
      high-octet = r.1;
      low-octet = r.2;
      sampling-octet = r.3;
      condition-octets = r.4;
      extra-sound = and_right a x e;
    }

pub stored-holds : (m : Monitor) → Stored m → sound_monitor m ≡ true
unfolding sound_monitor
stored-holds m s =
    and_both (and_both (and_both (and_both (and_both s.accepted s.high-octet) s.low-octet)
    s.sampling-octet)
    s.condition-octets) s.extra-sound

-- "with valid address type .., n at most 31"; T-05: the kept RSSI "between −127 and 20"
pub record Fields (q : Pair) : Type 0 where
  pub kind-most : q.address_type ≤ 1
  pub address-six : length q.address ≡ 6
  pub address-octets : every is_octet q.address ≡ true
  pub adv-short : length q.adv ≤ most_data
  pub adv-octets : every is_octet q.adv ≡ true
  pub kept-octet : q.kept < 256
  pub kept_in : in_range q.kept ≡ true

pub fields-of : (q : Pair) → sound_fields q ≡ true → Fields q
unfolding sound_fields
fields-of q e =
    let a : Bool = leb q.address_type 1 && eqb (length q.address) 6 && every is_octet q.address
    && octets_up_to most_data q.adv in
    let o : Bool = is_octet q.kept in
    let i : Bool = in_range q.kept in
    let k : (o && i) ≡ true = and_right a (o && i) e in
    let r =
    and-four (leb q.address_type 1) (eqb (length q.address) 6) (every is_octet q.address)
    (octets_up_to most_data q.adv)
    (and_left a (o && i) e) in
    let u = up-to most_data q.adv r.3 in
    record {
      kind-most = leb-true q.address_type 1 r.0;
      address-six = eqb-true (length q.address) 6 r.1;
      address-octets = r.2;
      adv-short = u.0;
      adv-octets = u.1;
      kept-octet = ltb-true q.kept 256 (and_left o i k);
      kept_in = and_right o i k;
    }

pub fields-hold : (q : Pair) → Fields q → sound_fields q ≡ true
unfolding sound_fields
fields-hold q f =
    and_both (and_both (and_both (and_both
    (le-leb q.address_type 1 f.kind-most) (eq-eqb (length q.address) 6 f.address-six))
    f.address-octets)
    (up-to-holds most_data q.adv f.adv-short f.adv-octets))
    (and_both (lt-ltb q.kept 256 f.kept-octet) f.kept_in)

-- "for P in 1 to 0xFE window ticks below P, packets at most the position, sum from −127 × packets to 20 × packets"
pub record Gathers (position : ℕ) (m : Monitor) (q : Pair) : Type 0 where
  pub ticks-below : q.ticks < m.sampling
  pub packets-most : q.packets ≤ position
  pub sum_below : q.sum < 18446744073709551616
  pub summed : Summed q.sum q.packets

-- "with other sampling window ticks and packets 0"
pub record Shut (q : Pair) : Type 0 where
  pub no-ticks : q.ticks ≡ 0
  pub no-packets : q.packets ≡ 0

module _ (position : ℕ) (m : Monitor) (q : Pair) where
  pub gathers-of : windowed m ≡ true → sound_window position m q ≡ true → Gathers position m q
  unfolding sound_window
  gathers-of w e =
      let t : Bool = ltb q.ticks m.sampling in
      let k : Bool = leb q.packets position in
      let s : Bool = ltb q.sum 18446744073709551616 in
      let v : Bool = sum_in_range q.sum q.packets in
      let r = and-four t k s v (sym (pick_true (t && k && s && v) (eqb q.ticks 0 && eqb q.packets 0) w) ∙ e) in
      record {
        ticks-below = ltb-true q.ticks m.sampling r.0;
        packets-most = leb-true q.packets position r.1;
        sum_below = ltb-true q.sum 18446744073709551616 r.2;
        summed = summed-of q.sum q.packets r.3;
      }

  pub gathers-hold : windowed m ≡ true → Gathers position m q → sound_window position m q ≡ true
  unfolding sound_window
  gathers-hold w g =
      pick_true _ _ w
      ∙ and_both (and_both (and_both
      (lt-ltb q.ticks m.sampling g.ticks-below) (le-leb q.packets position g.packets-most))
      (lt-ltb q.sum 18446744073709551616 g.sum_below))
      (summed-holds q.sum q.packets g.summed)

  pub shut-of : windowed m ≡ false → sound_window position m q ≡ true → Shut q
  unfolding sound_window
  shut-of w e =
      let t : Bool = eqb q.ticks 0 in
      let k : Bool = eqb q.packets 0 in
      let r : (t && k) ≡ true = sym (pick-false _ _ w) ∙ e in
      record {
        no-ticks = eqb-true q.ticks 0 (and_left t k r);
        no-packets = eqb-true q.packets 0
            (and_right t k r);
      }

  pub shut-holds : windowed m ≡ false → Shut q → sound_window position m q ≡ true
  unfolding sound_window
  shut-holds w s =
      pick-false _ _ w ∙ and_both (eq-eqb q.ticks 0 s.no-ticks) (eq-eqb q.packets 0 s.no-packets)

-- "with packets 0 the sum, event type and n are 0"; T-13: or the packet kept for duplicates
pub record Empty (m : Monitor) (q : Pair) : Type 0 where
  pub no-sum : q.sum ≡ 0
  pub latest : sound_latest (sifts m) q.event q.adv ≡ true

-- no packet, and event type 0: with both kinds of monitors
pub latest-none : (t : Bool) → sound_latest t 0 [] ≡ true
unfolding sound_latest
latest-none true = refl
latest-none false = refl

pub empty_of : (m : Monitor) (q : Pair) → sound_empty m q ≡ true → q.packets ≡ 0 → Empty m q
unfolding sound_empty pick
empty_of m q e n = go (leb 1 q.packets) refl e
  where
    l : Bool
    l = sound_latest (sifts m) q.event q.adv

    go : (t : Bool) → leb 1 q.packets ≡ t → pick t (leb q.event 3) (eqb q.sum 0 && l) ≡ true → Empty m q
    go true h r = let k : 1 ≤ q.packets = leb-true 1 q.packets h in absurd (omega arith)
    go false h r = record {
      no-sum = eqb-true q.sum 0 (and_left (eqb q.sum 0) l r);
      latest = and_right (eqb q.sum 0) l r;
    }

pub empty_holds : (m : Monitor) (q : Pair) → (q.packets ≡ 0 → Empty m q) → (1 ≤ q.packets → q.event ≤ 3)
    → sound_empty m q ≡ true
unfolding sound_empty pick
empty_holds m q f g = go (leb 1 q.packets) refl
  where
    l : Bool
    l = sound_latest (sifts m) q.event q.adv

    go : (t : Bool) → leb 1 q.packets ≡ t → pick t (leb q.event 3) (eqb q.sum 0 && l) ≡ true
    go true h = le-leb q.event 3 (g (leb-true 1 q.packets h))
    go false h =
        let k : q.packets < 1 = leb-false 1 q.packets h in
        let z : Empty m q = f (omega arith) in
        and_both (eq-eqb q.sum 0 z.no-sum) z.latest
