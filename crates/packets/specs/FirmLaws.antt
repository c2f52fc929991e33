-- Laws of the definitions in Firm.
use Rattle.std.specs.Prelude.{◌≡◌, ℕ, zero, suc, ◌<◌, ◌≤◌, Bool, true, false, not, ◌&&◌, ◌||◌, List, [], ◌∷◌, ◌++◌, map, ◌==◌, int_lt}
use Rattle.std.proofs.Math.Path.{refl, sym, ap, ap₂, subst}
use Rattle.std.proofs.Common.{◌∙◌, arith, eqb-true, ne_eqb, ltb-true}
use Rattle.std.proofs.lemmas.Bool.{false≢true}
use Rattle.std.proofs.Math.Option.{Option, none, some}
use Rattle.laws.specs.Tests.{pick, sames}
use Rattle.laws.specs.TestsLaws.{pick_true, and_left, and_right, and-not-left, sames-eq, eq-sames}
use Rattle.laws.specs.Loops.{some as some_of}
use Rattle.laws.specs.LoopsLaws.{some-step, some-nil}
use Rattle.rule.specs.Base.{All}
use Rattle.rule.specs.BaseLaws.{all_append}
use Rattle.rule.specs.Engine.{find}
use Rattle.model.specs.Types.{Monitor, Packet, Pair, device_of, watched}
use Rattle.model.specs.Level.{level, d_bm}
use Rattle.model.proofs.LevelsLaws.{below-levels}
use Rattle.model.specs.Monitors.{matches, strong}
use Rattle.model.specs.Watch.{is_pair, holds, least, keeps, without, has_room, fits, stays_for, start_like, turn, turns, packet_move, with_since_good, with_kept, with_latest, gathered}
use Rattle.steps.proofs.MovesLaws.{packet-key}
use Rattle.steps.proofs.DropsLaws.{keeps-level, stays_all}
use Rattle.steps.specs.ListsLaws.{all-weaken}
use Rattle.marks.specs.Marks.{refreshes, takes, opens, sifted, allowed, keeps as keeps_by, mark}
use Rattle.marks.proofs.MarksLaws.{mark-opens, mark-keeps}
use Rattle.packets.specs.Changes.{freshened, collected, strengthened, counted, recalled, changed, started, starts, after}
use Rattle.packets.specs.ChangesLaws.{some-append, or-none, move-changed, turn-after}
use Rattle.packets.specs.Firm.{Firm}

-- pairs that stay: one that is above the smallest kept RSSI is among them
without-some : (f : Pair → Bool) (k : ℕ) (l : List Pair) → All (λ (q : Pair). f q ≡ true → level k < level q.kept) l
    → some_of f (without k l) ≡ some_of f l
unfolding without pick some_of
without-some f k [] a = refl
without-some f k (q ∷ l) a = go (keeps k q) refl (f q) refl (without-some f k l a.1)
  where
    go : (t : Bool) → keeps k q ≡ t → (b : Bool) → f q ≡ b → some_of f (without k l) ≡ some_of f l
        → some_of f (pick t l (q ∷ without k l)) ≡ (f q || some_of f l)
    go true e true g ih =
        let x : level q.kept ≡ level k = eqb-true (level q.kept) (level k) (sym (keeps-level k q) ∙ e) in
        absurd (omega (arith, a.0 g))
    go true e false g ih = sym (ap (λ (t : Bool). t || some_of f l) g)
    go false e b g ih = ap (λ (t : Bool). f q || t) ih

stays-some : (f : Pair → Bool) (r : ℕ) (l : List Pair) → All (λ (q : Pair). f q ≡ true → level r ≤ level q.kept) l
    → fits r l ≡ true
    → some_of f (stays_for r l) ≡ some_of f l
unfolding stays_for fits pick
stays-some f r l a e = go (has_room l) e
  where
    go : (t : Bool) → (t || int_lt (d_bm (least r l)) (d_bm r)) ≡ true
        → some_of f (pick t l (without (least r l) l)) ≡ some_of f l
    go true x = refl
    go false x =
        let n : level (least r l) < level r =
        ltb-true (level (least r l)) (level r) (sym (below-levels (least r l) r) ∙ x) in
        without-some f (least r l) l
        (all-weaken (λ (q : Pair). f q ≡ true → level r ≤ level q.kept)
        (λ (q : Pair). f q ≡ true → level (least r l) < level q.kept)
        (λ q y z. let u = y z in omega arith) l a)

-- a turn of another handle
module _ (p : Packet) (h : ℕ) where
  started-not : (a j : ℕ) → j < h → is_pair h (device_of p) (started a j p) ≡ false
  unfolding is_pair started start_like
  started-not a j b = and-not-left _ _ (ne_eqb j h (λ e. omega arith))

  after_holds : (a j : ℕ) (l : List Pair) → j < h → All (Firm p h) l
      → (holds (after a j p l) h (device_of p) ≡ holds l h (device_of p)) × All (Firm p h) (after a j p l)
  unfolding after starts holds pick
  after_holds a j l b f = go (starts a j p l) refl
    where
      go : (t : Bool) → starts a j p l ≡ t
          → (some_of (is_pair h (device_of p)) (pick t (stays_for p.rssi l ++ (started a j p ∷ [])) l)
          ≡ some_of (is_pair h (device_of p)) l)
          × All (Firm p h) (pick t (stays_for p.rssi l ++ (started a j p ∷ [])) l)
      go true e =
          let w : Bool = not (holds l j (device_of p)) in
          let r : fits p.rssi l ≡ true =
          and_right w (fits p.rssi l) (and_right (opens a) (w && fits p.rssi l) e) in (
            some-append (is_pair h (device_of p)) (stays_for p.rssi l) (started a j p ∷ [])
                ∙ ap₂ ◌||◌ (stays-some (is_pair h (device_of p)) p.rssi l f r)
                (one (is_pair h (device_of p)) (started a j p) (started-not a j b))
                ∙ or-none (some_of (is_pair h (device_of p)) l),
            all_append (Firm p h) (stays_for p.rssi l) (started a j p ∷ []) (stays_all (Firm p h) p.rssi l f)
                (λ x. absurd (false≢true (sym (started-not a j b) ∙ x)), tt),
          )
        where
          one : (f : Pair → Bool) (q : Pair) → f q ≡ false → some_of f (q ∷ []) ≡ false
          one f q x = some-step f q [] x ∙ some-nil f
      go false e = (refl, f)

  -- what was held before the turns is held at the handle's own
  turns-both : (mons : List (ℕ × Monitor)) (j : ℕ) (l : List Pair) → j ≤ h → All (Firm p h) l
      → (holds (turns mons p j l) h (device_of p) ≡ holds l h (device_of p)) × All (Firm p h) (turns mons p j l)
  unfolding turns
  turns-both mons zero l b f = (refl, f)
  turns-both mons (suc j) l b f =
      let x = turns-both mons j l (omega arith) f in
      let y = after_holds (mark (find mons j) p) j (turns mons p j l) (omega arith) x.1 in
      let e : after (mark (find mons j) p) j p (turns mons p j l) ≡ turn (find mons j) p j (turns mons p j l) =
      sym (turn-after (find mons j) p j (turns mons p j l)) in (
        ap (λ (q : List Pair). holds q h (device_of p)) (sym e) ∙ y.0 ∙ x.0,
        subst (All (Firm p h)) e y.1,
      )

  pub turns-holds : (mons : List (ℕ × Monitor)) (l : List Pair) → All (Firm p h) l
      → holds (turns mons p h l) h (device_of p) ≡ holds l h (device_of p)
  turns-holds mons l f = (turns-both mons h l (omega arith) f).0

-- a packet that may start a watch matches
opens-keeps : (o : Option Monitor) (p : Packet) → opens (mark o p) ≡ true → keeps_by (mark o p) ≡ true
unfolding mark opens
opens-keeps none p e = absurd (false≢true e)
opens-keeps (some m) p e = mark-keeps m p ∙ and_left (matches m p) (strong m p) (sym (mark-opens m p) ∙ e)

pub recalled-kept : (a : ℕ) (p : Packet) (q : Pair) → (recalled a p q).kept ≡ q.kept
unfolding recalled with_latest pick
recalled-kept a p q = go (sifted a && allowed a)
  where
    go : (t : Bool) → (pick t (with_latest p.event p.adv q) q).kept ≡ q.kept
    go true = refl
    go false = refl

pub freshened-kept : (a : ℕ) (q : Pair) → (freshened a q).kept ≡ q.kept
unfolding freshened with_since_good pick
freshened-kept a q = go (refreshes a)
  where
    go : (t : Bool) → (pick t (with_since_good q 0) q).kept ≡ q.kept
    go true = refl
    go false = refl

collected-kept : (a : ℕ) (p : Packet) (q : Pair) → q.kept ≡ p.rssi → (collected a p q).kept ≡ p.rssi
unfolding collected gathered pick
collected-kept a p q e = go (takes a)
  where
    go : (t : Bool) → (pick t (gathered p q) q).kept ≡ p.rssi
    go true = refl
    go false = e

changed-kept : (a : ℕ) (p : Packet) (q : Pair) → keeps_by a ≡ true → (changed a p q).kept ≡ p.rssi
unfolding changed counted strengthened with_kept
changed-kept a p q e =
    recalled-kept a p (collected a p (freshened a (strengthened a p.rssi q)))
    ∙ collected-kept a p (freshened a (strengthened a p.rssi q))
    (freshened-kept a (strengthened a p.rssi q) ∙ ap (λ (y : Pair). y.kept) (pick_true (with_kept q p.rssi) q e))

-- the moved pairs of such a handle are firm
moved_at : (mons : List (ℕ × Monitor)) (p : Packet) (h : ℕ) (q : Pair) → opens (mark (find mons h) p) ≡ true
    → Firm p h (packet_move mons p q)
unfolding is_pair
moved_at mons p h q e x =
    let y : (q.handle == h && sames (watched q) (device_of p)) ≡ true =
    ap (λ (z : ℕ × List ℕ). (z.0 == h) && sames z.1 (device_of p)) (sym (packet-key mons p q)) ∙ x in
    let hd : q.handle ≡ h = eqb-true q.handle h
    (and_left (q.handle == h) (sames (watched q) (device_of p)) y) in
    let dv : watched q ≡ device_of p =
    sames-eq (watched q) (device_of p) (and_right (q.handle == h) (sames (watched q) (device_of p)) y) in
    let oc : opens (mark (find mons q.handle) p) ≡ true = rw hd e in
    let z : packet_move mons p q ≡ changed (mark (find mons q.handle) p) p q =
    move-changed mons p q ∙ pick_true _ q (eq-sames (device_of p) (watched q) (sym dv)) in
    let r : (packet_move mons p q).kept ≡ p.rssi =
    ap (λ (k : Pair). k.kept) z
    ∙ changed-kept (mark (find mons q.handle) p) p q (opens-keeps (find mons q.handle) p oc) in
    let l : level (packet_move mons p q).kept ≡ level p.rssi = ap level r in
    omega arith

pub moved-firm : (mons : List (ℕ × Monitor)) (p : Packet) (h : ℕ) (qs : List Pair)
    → opens (mark (find mons h) p) ≡ true
    → All (Firm p h) (map (packet_move mons p) qs)
moved-firm mons p h [] e = tt
moved-firm mons p h (q ∷ qs) e = (moved_at mons p h q e, moved-firm mons p h qs e)

-- and so are the handles of which they are
pub moved_holds : (mons : List (ℕ × Monitor)) (p : Packet) (h : ℕ) (d : List ℕ) (qs : List Pair)
    → holds (map (packet_move mons p) qs) h d ≡ holds qs h d
unfolding holds some_of is_pair
moved_holds mons p h d [] = refl
moved_holds mons p h d (q ∷ qs) =
    ap₂ ◌||◌ (ap (λ (x : ℕ × List ℕ). (x.0 == h) && sames x.1 d) (packet-key mons p q))
    (moved_holds mons p h d qs)
