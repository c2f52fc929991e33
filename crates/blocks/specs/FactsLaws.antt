-- Laws of the definitions in Facts.
use Rattle.std.specs.Prelude.{ℕ, suc, ◌≤◌, ◌<◌, ◌≡◌, refl, true, ◌&&◌, List, [], ◌∷◌, leb, ltb, eqb, length}
use Rattle.std.proofs.lemmas.Bool.{false≢true}
use Rattle.std.proofs.Math.Option.{Option, none, some}
use Rattle.std.proofs.Common.{arith, leb-true, ltb-true, eqb-true, le-leb, lt-ltb, eq-eqb}
use Rattle.laws.specs.TestsLaws.{and_left, and_right, and_both}
use Rattle.laws.specs.Loops.{every}
use Rattle.octets.specs.Little.{is_octet}
use Rattle.rule.specs.Base.{All}
use Rattle.rule.specs.Engine.{find}
use Rattle.sessions.specs.Machine.{last_number}
use Rattle.model.specs.Types.{Model, Monitor, Pair}
use Rattle.model.specs.Level.{in_range}
use Rattle.model.specs.Monitors.{accepts, run_of}
use Rattle.model.specs.Sound.{octets_up_to, sound_settings, sound_extra, sound_monitor, sound_monitors, sound_window, sound_empty}
use Rattle.model.specs.Sound.{sound_fields, sound_of, sound_pair, apart, sound_model}
use Rattle.model.specs.Layout.{most_data, most_monitors, most_pairs, most_prefix}
use Rattle.blocks.specs.Facts.{SoundMonitor, SoundMonitors, SoundModel}

-- a list of at most n octets
pub up-to : (n : ℕ) (l : List ℕ) → octets_up_to n l ≡ true → (length l ≤ n) × (every is_octet l ≡ true)
unfolding octets_up_to
up-to n l e =
    let a = leb (length l) n in
    (leb-true (length l) n (and_left a (every is_octet l) e), and_right a (every is_octet l) e)

pub to-up : (n : ℕ) (l : List ℕ) → length l ≤ n → every is_octet l ≡ true → octets_up_to n l ≡ true
unfolding octets_up_to
to-up n l h e = and_both (le-leb (length l) n h) e

pub monitor-facts : (m : Monitor) → sound_monitor m ≡ true → SoundMonitor m
unfolding sound_monitor
monitor-facts m e =
    let a = accepts m in
    let h = is_octet m.high in
    let l = is_octet m.low in
    let s = is_octet m.sampling in
    let c = every is_octet m.condition in
    let x = sound_extra m.extra in
    let e4 = and_left (a && h && l && s && c) x e in
    let e3 = and_left (a && h && l && s) c e4 in
    let e2 = and_left (a && h && l) s e3 in
    let e1 = and_left (a && h) l e2 in
    record {
      accept = and_left a h e1;
      high-octet = ltb-true m.high 256 (and_right a h e1);
      low-octet = ltb-true m.low 256 (and_right (a && h) l e2);
      sampling-octet = ltb-true m.sampling 256 (and_right (a && h && l) s e3);
      condition-octets = and_right (a && h && l && s) c e4;
      extra-sound = and_right (a && h && l && s && c) x e;
    }

pub facts-monitor : (m : Monitor) → SoundMonitor m → sound_monitor m ≡ true
unfolding sound_monitor
facts-monitor m f =
    rw (
      f.accept,
      lt-ltb m.high 256 f.high-octet,
      lt-ltb m.low 256 f.low-octet,
      lt-ltb m.sampling 256
          f.sampling-octet,
      f.condition-octets,
    )
    f.extra-sound

all_past : (j k : ℕ) (l : List (ℕ × Monitor)) → k ≤ j → All (λ x. (suc j ≤ x.0) × (x.0 < most_monitors)) l
    → All (λ x. (k ≤ x.0) × (x.0 < most_monitors)) l
all_past j k [] h a = tt
all_past j k (x ∷ l) h a = ((omega (arith, a.0.0), a.0.1), all_past j k l h a.1)

all-over : (j : ℕ) (l : List (ℕ × Monitor)) → All (λ x. (suc j ≤ x.0) × (x.0 < most_monitors)) l
    → All (λ x. j < x.0) l
all-over j [] a = tt
all-over j (x ∷ l) a = (a.0.0, all-over j l a.1)

over-all : (j k : ℕ) (l : List (ℕ × Monitor)) → All (λ x. j < x.0) l → All (λ x. (k ≤ x.0) × (x.0 < most_monitors)) l
    → All (λ x. (suc j ≤ x.0) × (x.0 < most_monitors)) l
over-all j k [] a b = tt
over-all j k (x ∷ l) a b = ((a.0, b.0.1), over-all j k l a.1 b.1)

-- behind the first monitor, and from a later handle on
pub monitors-tail : (k : ℕ) (x : ℕ × Monitor) (l : List (ℕ × Monitor)) → SoundMonitors k (x ∷ l)
    → SoundMonitors (suc x.0) l
monitors-tail k x l f =
    record {
      rising = f.rising.1;
      handles = over-all x.0 k l f.rising.0
          f.handles.1;
      monitors = f.monitors.1;
    }

pub monitors-from : (k j : ℕ) (x : ℕ × Monitor) (l : List (ℕ × Monitor)) → j ≤ x.0 → SoundMonitors k (x ∷ l)
    → SoundMonitors j (x ∷ l)
monitors-from k j x l h f =
    let t : SoundMonitors (suc x.0) l = monitors-tail k x l f in
    record {
      rising = f.rising;
      handles =
          ((h, f.handles.0.1), all_past x.0 j l h t.handles);
      monitors = f.monitors;
    }

pub monitors-over : (k : ℕ) (l : List (ℕ × Monitor)) → SoundMonitors (suc k) l → All (λ x. k < x.0) l
monitors-over k l f = all-over k l f.handles

pub monitors-facts : (k : ℕ) (l : List (ℕ × Monitor)) → sound_monitors k l ≡ true → SoundMonitors k l
unfolding sound_monitors
monitors-facts k [] e = record { rising = tt; handles = tt; monitors = tt }
monitors-facts k (x ∷ l) e =
    let a = leb k x.0 in
    let b = ltb x.0 most_monitors in
    let c = sound_monitor x.1 in
    let d = sound_monitors (suc x.0) l in
    let e2 = and_left (a && b && c) d e in
    let e1 = and_left (a && b) c e2 in
    let r : SoundMonitors (suc x.0) l = monitors-facts (suc x.0) l (and_right (a && b && c) d e) in
    let h : k ≤ x.0 = leb-true k x.0 (and_left a b e1) in
    record {
      rising = (all-over x.0 l r.handles, r.rising);
      handles = ((h, ltb-true x.0 most_monitors (and_right a b e1)), all_past x.0 k l h r.handles);
      monitors = (monitor-facts x.1 (and_right (a && b) c e2), r.monitors);
    }

pub facts-monitors : (k : ℕ) (l : List (ℕ × Monitor)) → SoundMonitors k l → sound_monitors k l ≡ true
unfolding sound_monitors
facts-monitors k [] f = refl
facts-monitors k (x ∷ l) f =
    rw (
      le-leb k x.0 f.handles.0.0,
      lt-ltb x.0 most_monitors f.handles.0.1,
      facts-monitor x.1
          f.monitors.0,
    )
    (facts-monitors (suc x.0) l (monitors-tail k x l f))

-- what soundness says of a pair, given the monitor of its handle
pub record SoundOf (position : ℕ) (m : Monitor) (q : Pair) : Type 0 where
  pub kind-most : q.address_type ≤ 1
  pub address-length : length q.address ≡ 6
  pub address-octets : every is_octet q.address ≡ true
  pub adv-most : length q.adv ≤ most_data
  pub adv-octets : every is_octet q.adv ≡ true
  pub kept-octet : q.kept < 256
  pub kept-range : in_range q.kept ≡ true
  pub silent-below : q.since_good < run_of m
  pub window : sound_window position m q ≡ true
  pub empty : sound_empty m q ≡ true

pub of-facts : (position : ℕ) (m : Monitor) (q : Pair) → sound_of position (some m) q ≡ true → SoundOf position m q
unfolding sound_of sound_fields
of-facts position m q e =
    let k = leb q.address_type 1 in
    let l = eqb (length q.address) 6 in
    let a = every is_octet q.address in
    let d = octets_up_to most_data q.adv in
    let o = is_octet q.kept in
    let r = in_range q.kept in
    let s = ltb q.since_good (run_of m) in
    let w = sound_window position m q in
    let z = sound_empty m q in
    let f = sound_fields q in
    let e2 = and_left (f && s && w) z e in
    let e1 = and_left (f && s) w e2 in
    let g4 = and_left f s e1 in
    let g5 = and_right (k && l && a && d) (o && r) g4 in
    let g3 = and_left (k && l && a && d) (o && r) g4 in
    let g2 = and_left (k && l && a) d g3 in
    let g1 = and_left (k && l) a g2 in
    let u = up-to most_data q.adv (and_right (k && l && a) d g3) in
    record {
      kind-most = leb-true q.address_type 1 (and_left k l g1);
      address-length = eqb-true (length q.address) 6 (and_right k l g1);
      address-octets = and_right (k && l) a g2;
      adv-most = u.0;
      adv-octets = u.1;
      kept-octet = ltb-true q.kept 256 (and_left o r g5);
      kept-range = and_right o r g5;
      silent-below = ltb-true q.since_good (run_of m) (and_right f s e1);
      window = and_right (f && s) w e2;
      empty = and_right (f && s && w) z e;
    }

pub facts-of : (position : ℕ) (m : Monitor) (q : Pair) → SoundOf position m q → sound_of position (some m) q ≡ true
unfolding sound_of sound_fields
facts-of position m q f =
    rw (
      le-leb q.address_type 1 f.kind-most,
      eq-eqb (length q.address) 6 f.address-length,
      f.address-octets,
      to-up most_data q.adv f.adv-most f.adv-octets,
      lt-ltb q.kept 256 f.kept-octet,
      f.kept-range,
      lt-ltb q.since_good (run_of m) f.silent-below,
      f.window,
    )
    f.empty

-- a pair of the state: "of live handles", and the rest of what soundness says
pub record SoundPair (m : Model) (q : Pair) : Type 0 where
  pub mon : Monitor
  pub live : find m.mons q.handle ≡ some mon
  pub fields : SoundOf m.position mon q

pub pair-facts : (m : Model) (q : Pair) → sound_pair m q ≡ true → SoundPair m q
unfolding sound_pair sound_of
pair-facts m q e = go (find m.mons q.handle) refl e
  where
    go : (o : Option Monitor) → find m.mons q.handle ≡ o → sound_of m.position o q ≡ true → SoundPair m q
    go none l t = absurd (false≢true t)
    go (some n) l t = record { mon = n; live = l; fields = of-facts m.position n q t }

pub facts-pair : (m : Model) (q : Pair) → SoundPair m q → sound_pair m q ≡ true
unfolding sound_pair
facts-pair m q f = rw f.live (facts-of m.position f.mon q f.fields)

pub sound-facts : (m : Model) → sound_model m ≡ true → SoundModel m
unfolding sound_model sound_settings last_number
sound-facts m e =
    let p = leb m.position 4294967295 in
    let f = leb m.filter 1 in
    let s = sound_settings m.opcode m.prefix in
    let n = sound_monitors 0 m.mons in
    let l = leb (length m.pairs) most_pairs in
    let a = apart m.pairs in
    let q = every (sound_pair m) m.pairs in
    let o = leb 0xFC00 m.opcode in
    let r = leb m.opcode 0xFFFF in
    let x = octets_up_to most_prefix m.prefix in
    let e5 = and_left (p && f && s && n && l && a) q e in
    let e4 = and_left (p && f && s && n && l) a e5 in
    let e3 = and_left (p && f && s && n) l e4 in
    let e2 = and_left (p && f && s) n e3 in
    let e1 = and_left (p && f) s e2 in
    let t = and_right (p && f) s e2 in
    let u = and_left (o && r) x t in
    let v = up-to most_prefix m.prefix (and_right (o && r) x t) in
    record {
      position-most = leb-true m.position 4294967295 (and_left p f e1);
      filter-most = leb-true m.filter 1 (and_right p f e1);
      opcode-least = leb-true 0xFC00 m.opcode (and_left o r u);
      opcode-most = leb-true m.opcode 0xFFFF (and_right o r u);
      prefix-most = v.0;
      prefix-octets = v.1;
      mons-sound = monitors-facts 0 m.mons (and_right (p && f && s) n e3);
      pairs-most = leb-true (length m.pairs) most_pairs (and_right (p && f && s && n) l e4);
      pairs-apart = and_right (p && f && s && n && l) a e5;
      pairs-sound = and_right (p && f && s && n && l && a) q e;
    }

pub facts-sound : (m : Model) → SoundModel m → sound_model m ≡ true
unfolding sound_model sound_settings last_number
facts-sound m f =
    rw (
      le-leb m.position 4294967295 f.position-most,
      le-leb m.filter 1 f.filter-most,
      le-leb 0xFC00 m.opcode f.opcode-least,
      le-leb m.opcode 0xFFFF f.opcode-most,
      to-up most_prefix m.prefix f.prefix-most f.prefix-octets,
      facts-monitors 0 m.mons f.mons-sound,
      le-leb (length m.pairs) most_pairs f.pairs-most,
      f.pairs-apart,
    )
    f.pairs-sound
