-- Laws of the definitions in Causes.
use Prim.Native.Nat.{ℕ, zero, suc, ◌-◌, ◌≤◌, ◌<◌}
use Rattle.std.specs.Prelude.{◌≡◌, Bool, true, false, ◌&&◌, List, [], ◌∷◌, map, eqb}
use Rattle.std.proofs.Math.Path.{refl, ap, ap₂}
use Rattle.std.proofs.Common.{sym, ◌∙◌, le-ltb, eq-eqb, ne_eqb, eqb-true}
use Rattle.std.proofs.Math.Bool.{◌||◌}
use Rattle.std.proofs.lemmas.Bool.{false≢true}
use Rattle.std.proofs.Math.Option.{Option, none, some}
use native.Mathlib.Omega.{arith}
use Rattle.laws.specs.Tests.{pick, sames}
use Rattle.laws.specs.TestsLaws.{pick_true, pick-false, cases-le, and_left, and_right, sames-sym}
use Rattle.laws.specs.Loops.{some as some_of, when}
use Rattle.rule.specs.Engine.{find}
use Rattle.model.specs.Types.{Model, Monitor, Packet, Pair, device_of, watched}
use Rattle.model.specs.Level.{level}
use Rattle.model.specs.Monitors.{matches}
use Rattle.model.specs.Watch.{is_pair, holds, packet_move, start_of, start_pair, start_like, starts_below, starts_of, start_told, begins, turns, with_since_good, with_kept, with_latest, gathered}
use Rattle.model.specs.Layout.{most_monitors}
use Rattle.marks.specs.Marks.{opens, allowed, keeps, mark, mark_of}
use Rattle.marks.proofs.MarksLaws.{mark-opens, mark-keeps}
use Rattle.packets.specs.Changes.{starts, freshened, collected, strengthened, counted, recalled, changed}
use Rattle.packets.specs.ChangesLaws.{some-append, or-none, move-changed, start-told}
use Rattle.months.specs.Counts.{of_handle, causes}
use Rattle.counts.specs.Room.{weak_of, begun, left_of}
use Rattle.counts.specs.RoomLaws.{Kept, turn-starts}
use Rattle.counts.specs.Causes.{left_at, wants_for, wanted}

and_none : (t : Bool) → (t && false) ≡ false
and_none true = refl
and_none false = refl

-- a pair over a packet stays the pair of its handle and device
by-test : {A : Type 0} (f : Pair → A) (t : Bool) (x y : Pair) → f x ≡ f y → f (pick t x y) ≡ f y
unfolding pick
by-test f true x y e = e
by-test f false x y e = refl

pair-changed : (h : ℕ) (d : List ℕ) (a : ℕ) (p : Packet) (q : Pair) → is_pair h d (changed a p q) ≡ is_pair h d q
unfolding changed recalled counted collected freshened strengthened is_pair watched with_latest gathered with_since_good
    with_kept
pair-changed h d a p q =
    by-test (is_pair h d) _ _ _ refl ∙ by-test (is_pair h d) _ _ _ refl ∙ by-test (is_pair h d) _ _ _ refl
    ∙ by-test (is_pair h d) _ _ _ refl

pub pair-moved : (mons : List (ℕ × Monitor)) (p : Packet) (h : ℕ) (d : List ℕ) (q : Pair)
    → is_pair h d (packet_move mons p q) ≡ is_pair h d q
pair-moved mons p h d q =
    ap (is_pair h d) (move-changed mons p q)
    ∙ by-test (is_pair h d) (sames (device_of p) (watched q)) (changed (mark (find mons q.handle) p) p q) q
    (pair-changed h d (mark (find mons q.handle) p) p q)

pub holds-moved : (mons : List (ℕ × Monitor)) (p : Packet) (h : ℕ) (d : List ℕ) (qs : List Pair)
    → holds (map (packet_move mons p) qs) h d ≡ holds qs h d
unfolding holds some_of
holds-moved mons p h d [] = refl
holds-moved mons p h d (q ∷ qs) = ap₂ ◌||◌ (pair-moved mons p h d q) (holds-moved mons p h d qs)

-- a packet that matches is kept
gathered-kept : (t : Bool) (p : Packet) (x : Pair) → x.kept ≡ p.rssi → (pick t (gathered p x) x).kept ≡ p.rssi
unfolding pick gathered
gathered-kept true p x e = refl
gathered-kept false p x e = e

kept-changed : (a : ℕ) (p : Packet) (q : Pair) → keeps a ≡ true → (changed a p q).kept ≡ p.rssi
unfolding changed recalled counted collected freshened strengthened with_latest with_since_good with_kept
kept-changed a p q e =
    by-test (λ (x : Pair). x.kept) _ _ _ refl
    ∙ gathered-kept _ p _
    (by-test (λ (x : Pair). x.kept) _ _ _ refl ∙ ap (λ (x : Pair). x.kept) (pick_true (with_kept q p.rssi) q e))

-- the octet of a handle that does not match is 0
zero-mark : (m : Monitor) (p : Packet) → matches m p ≡ false → mark_of m p ≡ 0
unfolding mark_of
zero-mark m p f = pick-false _ 0 f

pub mark-none : (o : Option Monitor) (p : Packet) → keeps (mark o p) ≡ false → mark o p ≡ 0
unfolding mark
mark-none none p e = refl
mark-none (some m) p e = zero-mark m p (sym (mark-keeps m p) ∙ e)

mark-opened : (o : Option Monitor) (p : Packet) → opens (mark o p) ≡ true → keeps (mark o p) ≡ true
unfolding mark opens
mark-opened none p e = absurd (false≢true e)
mark-opened (some m) p e =
    mark-keeps m p ∙ and_left (matches m p) (Rattle.model.specs.Monitors.strong m p) (sym (mark-opens m p) ∙ e)

changed-zero : (p : Packet) (q : Pair) → changed 0 p q ≡ q
unfolding changed recalled counted collected freshened strengthened keeps Rattle.marks.specs.Marks.refreshes
    Rattle.marks.specs.Marks.takes Rattle.marks.specs.Marks.sifted pick
changed-zero p q = refl

-- the pairs that keep less than the packet's RSSI, after it
pub weak-moved : (mons : List (ℕ × Monitor)) (p : Packet) (q : Pair)
    → weak_of p.rssi (packet_move mons p q)
    ≡ pick (sames (device_of p) (watched q) && keeps (mark (find mons q.handle) p)) false (weak_of p.rssi q)
unfolding pick weak_of
weak-moved mons p q = ap (weak_of p.rssi) (move-changed mons p q)
    ∙ go (sames (device_of p) (watched q)) (keeps a) refl
  where
    a : ℕ
    a = mark (find mons q.handle) p

    equal : (x : Pair) → x.kept ≡ p.rssi → weak_of p.rssi x ≡ false
    equal x e = le-ltb (level x.kept) (level p.rssi)
        (let l : level x.kept ≡ level p.rssi = ap level e in omega arith)

    go : (t k : Bool) → keeps a ≡ k
        → weak_of p.rssi (pick t (changed a p q) q) ≡ pick (t && k) false (weak_of p.rssi q)
    go true true e = equal (changed a p q) (kept-changed a p q e)
    go true false e =
        ap (weak_of p.rssi) (ap (λ (n : ℕ). changed n p q) (mark-none (find mons q.handle) p e)
        ∙ changed-zero p q)
    go false k e = refl

-- the pairs of a matching handle and the packet's device keep its RSSI
kept-moved : (mons : List (ℕ × Monitor)) (p : Packet) (h : ℕ) → keeps (mark (find mons h) p) ≡ true → (q : Pair)
    → is_pair h (device_of p) (packet_move mons p q) ≡ true → level (packet_move mons p q).kept ≡ level p.rssi
unfolding is_pair
kept-moved mons p h k q e =
    let i : is_pair h (device_of p) q ≡ true = sym (pair-moved mons p h (device_of p) q) ∙ e in
    let n : q.handle ≡ h = own-handle i in
    let d : sames (device_of p) (watched q) ≡ true = own-device i in
    ap level (ap (λ (x : Pair). x.kept)
    (move-changed mons p q ∙ pick_true (changed (mark (find mons q.handle) p) p q) q d)
    ∙ kept-changed (mark (find mons q.handle) p) p q (ap (λ (j : ℕ). keeps (mark (find mons j) p)) n ∙ k))
  where
    own-handle : is_pair h (device_of p) q ≡ true → q.handle ≡ h
    own-handle i = eqb-true q.handle h (and_left (eqb q.handle h) (sames (watched q) (device_of p)) i)

    own-device : is_pair h (device_of p) q ≡ true → sames (device_of p) (watched q) ≡ true
    own-device i = sames-sym (device_of p) (watched q)
        ∙ and_right (eqb q.handle h) (sames (watched q) (device_of p)) i

all-kept : (mons : List (ℕ × Monitor)) (p : Packet) (h : ℕ) → keeps (mark (find mons h) p) ≡ true → (qs : List Pair)
    → Kept p.rssi h (device_of p) (map (packet_move mons p) qs)
all-kept mons p h k [] = tt
all-kept mons p h k (q ∷ qs) = (kept-moved mons p h k q, all-kept mons p h k qs)

-- a start is its handle's
own-start : (f : Pair → Bool) (h k : ℕ) (o : Option Monitor) (p : Packet) (qs : List Pair)
    → some_of (λ q. of_handle h q && f q) (start_of o p k qs) ≡ (eqb k h && some_of f (start_of o p k qs))
unfolding start_of some_of of_handle when start_pair start_like
own-start f h k none p qs = sym (and_none (eqb k h))
own-start f h k (some m) p qs = go (begins m p k qs)
  where
    go : (t : Bool) → some_of (λ q. of_handle h q && f q) (when t (start_pair m k p ∷ []))
        ≡ (eqb k h && some_of f (when t (start_pair m k p ∷ [])))
    go true = or-none (eqb k h && f (start_pair m k p))
        ∙ ap (λ (t : Bool). eqb k h && t) (sym (or-none (f (start_pair m k p))))
    go false = sym (and_none (eqb k h))

module _ (mons : List (ℕ × Monitor)) (p : Packet) (qs : List Pair) (h : ℕ) where
  abbrev tells : Pair → Bool
  tells q = of_handle h q && start_told mons p q

  -- below its handle there is none; behind it, it stays the only one
  starts-before : (n : ℕ) → n ≤ h → some_of tells (starts_below mons p n qs) ≡ false
  unfolding starts_below some_of
  starts-before zero b = refl
  starts-before (suc n) b =
      some-append tells (starts_below mons p n qs) (start_of (find mons n) p n (turns mons p n qs))
      ∙ ap₂ ◌||◌ (starts-before n (omega arith)) (own-start (start_told mons p) h n (find mons n) p (turns mons p n qs)
      ∙ ap (λ (t : Bool). t && some_of (start_told mons p) (start_of (find mons n) p n (turns mons p n qs)))
      (ne_eqb n h (λ e. omega arith)))

  starts-own : (n : ℕ) → h < n
      → some_of tells (starts_below mons p n qs)
      ≡ (starts (mark (find mons h) p) h p (turns mons p h qs) && allowed (mark (find mons h) p))
  unfolding starts_below some_of
  starts-own zero b = absurd (omega arith)
  starts-own (suc n) b =
      cases-le n h
      (λ (u : n ≤ h).
      let e : n ≡ h = omega arith in
      some-append tells (starts_below mons p n qs) (start_of (find mons n) p n (turns mons p n qs))
      ∙ ap₂ ◌||◌ (starts-before n u) (own-start (start_told mons p) h n (find mons n) p (turns mons p n qs)
      ∙ ap (λ (t : Bool). t && some_of (start_told mons p) (start_of (find mons n) p n (turns mons p n qs)))
      (eq-eqb n h e)
      ∙ start-told mons p n (turns mons p n qs))
      ∙ ap (λ (k : ℕ). starts (mark (find mons k) p) k p (turns mons p k qs) && allowed (mark (find mons k) p)) e)
      (λ (u : h < n).
      some-append tells (starts_below mons p n qs) (start_of (find mons n) p n (turns mons p n qs))
      ∙ ap₂ ◌||◌ (starts-own n u) (own-start (start_told mons p) h n (find mons n) p (turns mons p n qs)
      ∙ ap (λ (t : Bool). t && some_of (start_told mons p) (start_of (find mons n) p n (turns mons p n qs)))
      (ne_eqb n h (λ e. omega arith)))
      ∙ or-none _)

-- the handle starts a pair
unfoldable pub starts_at : Model → Packet → ℕ → Bool
starts_at m p h = begun (mark (find m.mons h) p) (holds m.pairs h (device_of p)) (left_at m p h)

pub causes-by : (m : Model) (p : Packet) (h : ℕ) → h < most_monitors
    → causes m p h ≡ (wanted m p h || (starts_at m p h && allowed (mark (find m.mons h) p)))
unfolding causes starts_of wanted wants_for starts_at left_at
causes-by m p h b =
    let qs : List Pair = map (packet_move m.mons p) m.pairs in
    let a : ℕ = mark (find m.mons h) p in
    ap (λ (t : Bool). wanted m p h || t)
    (starts-own m.mons p qs h most_monitors b
    ∙ ap (λ (t : Bool). t && allowed a)
    (turn-starts m.mons p qs (λ k o. all-kept m.mons p k (mark-opened (find m.mons k) p o) m.pairs) h
    ∙ ap (λ (t : Bool). begun a t (left_of m.mons p qs h)) (holds-moved m.mons p h (device_of p) m.pairs)))

-- the room that is left behind a handle's turn
pub left-more : (m : Model) (p : Packet) (h : ℕ) → left_at m p (suc h) ≡ left_at m p h - pick (starts_at m p h) 1 0
unfolding left_at left_of starts_at
left-more m p h =
    let qs : List Pair = map (packet_move m.mons p) m.pairs in
    ap (λ (t : Bool). left_of m.mons p qs h - pick (begun (mark (find m.mons h) p) t (left_of m.mons p qs h)) 1
    0)
    (holds-moved m.mons p h (device_of p) m.pairs)
