-- A start of a monitor that filters duplicates (document 02, T-13): the start of one that does not, and then the
-- packet that its pair keeps, or none. Assumes nothing.
use Rattle.std.specs.Prelude.{◌≡◌, ℕ, zero, suc, ◌+◌, ◌-◌, ◌*◌, ◌/◌, ◌%◌, ◌<◌, ◌≤◌, Bool, true, false, not, ◌&&◌, List, [], ◌∷◌, ◌++◌, length, get_or, set, ◌≢◌, nat_eq, slice_index, slice_index_or, slice_set}
use Rattle.std.proofs.Common.{add-one, ◌∙◌, subst, eq-eqb, ne_eqb}
use Rattle.std.proofs.Math.Path.{refl, sym, ap}
use native.Mathlib.Omega.{arith}
use Rattle.std.proofs.Math.ListN.{length-append}
use Rattle.std.proofs.Math.Seq.{get_or_at}
use Rattle.laws.specs.Tests.{pick}
use Rattle.laws.specs.TestsLaws.{pick_true, pick-false, and-not-left, and-not-right}
use Rattle.laws.specs.Loops.{each, when}
use Rattle.laws.specs.LoopsLaws.{when_true, when_false}
use Rattle.laws.specs.Put.{put}
use Rattle.rule.specs.Base.{All}
use Rattle.model.specs.Types.{Model, Packet, Pair, device_of, with_lists}
use Rattle.model.specs.Events.{event, start_event, stop_event}
use Rattle.model.specs.Watch.{holds, fits, goes_for, stays_for, start_like}
use Rattle.model.specs.Block.{padded}
use Rattle.blocks.specs.Bounds.{Fits}
use Rattle.blocks.specs.Block.{Measured}
use Rattle.blocks.specs.UpdatesLaws.{measured-pairs}
use Rattle.blocks.specs.Fields.{latest_of}
use Rattle.steps.specs.Typed.{Sent}
use Rattle.marks.specs.Marks.{opens, sifted, allowed}
use Rattle.packets.specs.Changes.{started, starts, after, start_events}
use Rattle.packets.specs.Writes.{no_pair, begun_as}
use Rattle.packets.specs.WritesLaws.{bare, begun-bare, same_row_lem, row-latest}
use Rattle.packets.specs.Moves.{pair_at, with_pair, AtPair}
use Rattle.packets.specs.MovesLaws.{pair_fits}
use Rattle.packets.specs.Firm.{Settled}
use Rattle.packets.specs.Starts.{Told}
use Rattle.packets.specs.StartsLaws.{wrote-is, start-weak}
use Rattle.packets.specs.Handles.{Turns, NoStart}
use Rattle.packets.specs.HandlesLaws.{after-fit, turns-none, turns-turn}
use Rattle.model.specs.Layout.{event_at, most_monitors, most_pairs, pair_size, pairs_at}

-- the octet of a handle as if its monitor filtered no duplicates
abbrev pub plain : ℕ → ℕ
plain a = a % 16

pub plain-opens : (a : ℕ) → opens (plain a) ≡ opens a
unfolding opens
plain-opens a = let e : a % 16 / 4 % 2 ≡ a / 4 % 2 = omega arith in ap (λ (n : ℕ). nat_eq n 1) e

pub plain-sifted : (a : ℕ) → sifted (plain a) ≡ false
unfolding sifted
plain-sifted a = ne_eqb (a % 16 / 16 % 2) 1 (λ e. omega arith)

plain-starts : (a h : ℕ) (p : Packet) (qs : List Pair) → starts (plain a) h p qs ≡ starts a h p qs
unfolding starts
plain-starts a h p qs = ap (λ (t : Bool). t && (not (holds qs h (device_of p)) && fits p.rssi qs)) (plain-opens a)

plain-start : (a h : ℕ) (p : Packet) → started (plain a) h p ≡ bare h p
unfolding started start_like pick when
plain-start a h p = rw (plain-sifted a) refl

-- an event says nothing of the packet that is kept
plain-told : (prefix : List ℕ) (a h : ℕ) (p : Packet) (qs : List Pair)
    → start_events prefix (plain a) h p qs ≡ start_events prefix a h p qs
unfolding start_events start_event event started start_like
plain-told prefix a h p qs =
    ap (λ (t : Bool). when t (each (stop_event prefix) (goes_for p.rssi qs) ++ event prefix (bare h p) 1))
    (plain-starts a h p qs)

-- a turn that wrote nothing started nothing, and one that wrote did
told-long : (prefix : List ℕ) (a h : ℕ) (p : Packet) (qs : List Pair) → starts a h p qs ≡ true
    → 0 < length (start_events prefix a h p qs)
unfolding start_events start_event event
told-long prefix a h p qs e =
    let l : List ℕ = each (stop_event prefix) (goes_for p.rssi qs) in
    rw (when_true (l ++ start_event prefix (started a h p)) e, length-append l (start_event prefix (started a h p)))
    (omega arith)

told-short : (prefix : List ℕ) (a h : ℕ) (p : Packet) (qs : List Pair) → starts a h p qs ≡ false
    → length (start_events prefix a h p qs) ≡ 0
unfolding start_events
told-short prefix a h p qs e = ap (λ (l : List ℕ). length l) (when_false _ e)

module _ (prefix : List ℕ) (a h : ℕ) (p : Packet) (qs : List Pair) where
  silent-none : length (start_events prefix a h p qs) ≡ 0 → starts a h p qs ≡ false
  silent-none z = go (starts a h p qs) refl
    where
      go : (t : Bool) → starts a h p qs ≡ t → t ≡ false
      go true e = let n = told-long prefix a h p qs e in absurd (omega arith)
      go false e = refl

  spoken-some : 0 < length (start_events prefix a h p qs) → starts a h p qs ≡ true
  spoken-some z = go (starts a h p qs) refl
    where
      go : (t : Bool) → starts a h p qs ≡ t → t ≡ true
      go true e = refl
      go false e = let n = told-short prefix a h p qs e in absurd (omega arith)

-- a turn of a packet that is not strong enough, and of one whose pair is held
pub idle-weak : (a h : ℕ) (p : Packet) (qs : List Pair) → (a / 4 % 2 ≢ 1) → false ≡ (starts a h p qs && allowed a)
unfolding starts opens
idle-weak a h p qs n = sym (and-not-left _ _ (and-not-left _ _ (ne_eqb (a / 4 % 2) 1 n)))

pub idle-held : (a h : ℕ) (p : Packet) (qs : List Pair) → true ≡ holds qs h (device_of p)
    → false ≡ (starts a h p qs && allowed a)
unfolding starts
idle-held a h p qs e = sym (and-not-left _ _ (and-not-right (opens a) _ (and-not-left _ _ (ap not (sym e)))))

-- pair i at its start keeps the packet, or none
module _ (m : Model) (s : List ℕ) (i a : ℕ) (p : Packet) (w : AtPair m s i) where
  abbrev Keeps : List ℕ → Type 0
  Keeps t = t ≡ padded (with_pair m i (begun_as (sifted a) (allowed a) p (pair_at m i)))

  pub begun-left : (a / 16 % 2 ≢ 1) → Keeps s
  unfolding with_pair begun_as sifted pair_at
  begun-left h =
      w.block ∙ same_row_lem m w.measured i no_pair
      ∙ ap (λ (q : Pair). padded (with_lists m m.mons (slice_set m.pairs i q)))
      (sym (pick-false _ (slice_index_or m.pairs i no_pair) (ne_eqb (a / 16 % 2) 1 h)))

  pub begun_kept : {t : List ℕ} → Sent p → a / 16 % 2 ≡ 1 → a / 32 % 2 ≡ 1
      → t ≡ put s (pairs_at + pair_size * i + event_at) (latest_of p.event p.adv) → Keeps t
  unfolding with_pair begun_as sifted allowed pair_at
  begun_kept x h k e =
      e ∙ ap (λ (l : List ℕ). put l (pairs_at + pair_size * i + event_at) (latest_of p.event p.adv)) w.block
      ∙ row-latest m w.measured i no_pair w.within (pair_fits w) p.event p.adv
      (omega (arith, x.event-most)) x.adv-short x.adv-octets
      ∙ ap (λ (q : Pair). padded (with_lists m m.mons (slice_set m.pairs i q)))
      (sym (pick_true _ (slice_index_or m.pairs i no_pair) (eq-eqb (a / 16 % 2) 1 h)
      ∙ pick_true _ _ (eq-eqb (a / 32 % 2) 1 k)))

  pub begun-none : {t : List ℕ} → a / 16 % 2 ≡ 1 → (a / 32 % 2 ≢ 1)
      → t ≡ put s (pairs_at + pair_size * i + event_at) (latest_of 255 []) → Keeps t
  unfolding with_pair begun_as sifted allowed pair_at
  begun-none h k e =
      e ∙ ap (λ (l : List ℕ). put l (pairs_at + pair_size * i + event_at) (latest_of 255 [])) w.block
      ∙ row-latest m w.measured i no_pair w.within (pair_fits w) 255 [] (omega arith) (omega arith)
      (Rattle.laws.specs.LoopsLaws.every-nil _)
      ∙ ap (λ (q : Pair). padded (with_lists m m.mons (slice_set m.pairs i q)))
      (sym (pick_true _ (slice_index_or m.pairs i no_pair) (eq-eqb (a / 16 % 2) 1 h)
      ∙ pick-false _ _ (ne_eqb (a / 32 % 2) 1 k)))

-- the last of a list set
set_last : (l : List Pair) (q r : Pair) → slice_set (l ++ (q ∷ [])) (length l) r ≡ l ++ (r ∷ [])
set_last [] q r = refl
set_last (x ∷ l) q r = ap (λ (k : List Pair). x ∷ k) (set_last l q r)

module _ (m : Model) (a h : ℕ) (p : Packet) {s out o : List ℕ} {n at r : ℕ}
    (x : Told m (plain a) h p s n out at o r) where
  -- a turn that started nothing
  pub turn-idle : r ≡ 0 → Told m a h p s n out at o r × (false ≡ (starts a h p m.pairs && allowed a))
  unfolding after
  turn-idle z =
      let f : starts (plain a) h p m.pairs ≡ false =
      silent-none m.prefix (plain a) h p m.pairs (sym x.answer.count ∙ z) in
      let g : starts a h p m.pairs ≡ false = sym (plain-starts a h p m.pairs) ∙ f in
      let e : after (plain a) h p m.pairs ≡ after a h p m.pairs =
      pick-false _ m.pairs f ∙ sym (pick-false _ m.pairs g) in (
        record {
          turned = record {
            block = x.turned.block ∙ ap (λ (l : List Pair). padded (with_lists m m.mons l)) e;
            count = x.turned.count ∙ ap length e;
          };
          answer = wrote-is out at _ _ (plain-told m.prefix a h p m.pairs) x.answer;
        },
        sym (ap (λ (t : Bool). t && allowed a) g),
      )

  -- and one that started a pair, which then keeps its packet
  pub turn-begun : {u : List ℕ} → 0 < r → Measured m → h < most_monitors → Sent p
      → ((g : Model) → AtPair g s (n - 1)
      → u ≡ padded (with_pair g (n - 1) (begun_as (sifted a) (allowed a) p (pair_at g (n - 1)))))
      → Told m a h p u n out at o r × (allowed a ≡ (starts a h p m.pairs && allowed a))
  unfolding after started with_pair with_lists pair_at
  turn-begun {u} z v b t f =
      let f0 : starts (plain a) h p m.pairs ≡ true =
      spoken-some m.prefix (plain a) h p m.pairs (rw (← x.answer.count) z) in
      let g0 : starts a h p m.pairs ≡ true = sym (plain-starts a h p m.pairs) ∙ f0 in
      let l : List Pair = stays_for p.rssi m.pairs in
      let q0 : Pair = started (plain a) h p in
      let e : after (plain a) h p m.pairs ≡ l ++ (q0 ∷ []) = pick_true _ m.pairs f0 in
      let w = after-fit (plain a) h p m.pairs b t (v.fit, v.pairs-most) in
      let g : Model = with_lists m m.mons (l ++ (q0 ∷ [])) in
      let k : length (l ++ (q0 ∷ [])) ≡ length l + 1 = length-append l (q0 ∷ []) in
      let c : n ≡ length l + 1 = x.turned.count ∙ ap length e ∙ k in
      let i : n - 1 ≡ length l = omega arith in
      let d : AtPair g s (n - 1) = record {
        measured = measured-pairs m v (l ++ (q0 ∷ [])) (subst (All Fits) e w.0)
            (subst (λ (y : List Pair). length y ≤ most_pairs) e w.1);
        block = x.turned.block ∙ ap (λ (y : List Pair). padded (with_lists m m.mons y)) e;
        within = omega arith;
      } in
      let y : get_or (l ++ (q0 ∷ [])) (n - 1) no_pair ≡ q0 =
      ap (λ (j : ℕ). get_or (l ++ (q0 ∷ [])) j no_pair) i ∙ get_or_at l q0 [] no_pair (length l) refl in
      let j : begun_as (sifted a) (allowed a) p q0 ≡ started a h p =
      ap (begun_as (sifted a) (allowed a) p) (plain-start a h p) ∙ begun-bare (sifted a) (allowed a) h p in
      let qs : set (l ++ (q0 ∷ [])) (n - 1) (begun_as (sifted a) (allowed a) p (slice_index_or (l ++ (q0 ∷ [])) (n - 1) no_pair))
      ≡ after a h p m.pairs =
      ap (λ (q : Pair). set (l ++ (q0 ∷ [])) (n - 1) (begun_as (sifted a) (allowed a) p q)) y
      ∙ ap (λ (q : Pair). set (l ++ (q0 ∷ [])) (n - 1) q) j ∙ ap (λ (z : ℕ). set (l ++ (q0 ∷ [])) z (started a h p)) i
      ∙ set_last l q0 (started a h p) ∙ sym (pick_true _ m.pairs g0) in (
        record {
          turned = record {
            block = f g d ∙ ap (λ (y : List Pair). padded (with_lists m m.mons y)) qs;
            count = c ∙ sym (length-append l (started a h p ∷ [])) ∙ ap length (sym (pick_true _ m.pairs g0));
          };
          answer = wrote-is out at _ _ (plain-told m.prefix a h p m.pairs) x.answer;
        },
        sym (ap (λ (t : Bool). t && allowed a) g0),
      )

-- the turns where no octet says that its handle may start a pair
module _ (m : Model) (p : Packet) (f : Measured m) (t : Sent p) where
  pub turns-idle : (acts under : List ℕ) (dev h : ℕ) (s out : List ℕ) (n : ℕ) → h ≤ most_monitors → s ≡ padded m
      → n ≡ length m.pairs
      → Settled m p acts under dev → NoStart acts most_monitors → Turns m p h s n out out 0 false
  turns-idle acts under dev zero s out n b e c x y = turns-none m p f t s out n e c
  turns-idle acts under dev (suc h) s out n b e c x y =
      let i : get_or acts h 0 / 4 % 2 ≡ 1 → ⊥ = y h (omega arith) in
      subst (λ (j : ℕ). Turns m p j s n out out 0 false) (add-one h)
      (turns-turn m p f t acts under dev h (slice_index acts h) (slice_index under h) (omega arith) x refl refl
      (turns-idle acts under dev h s out n (omega arith) e c x y)
      (λ g w z. (start-weak g s n p (slice_index acts h) h w out 0 i, idle-weak (slice_index acts h) h p g.pairs i)))
