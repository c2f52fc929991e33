-- Laws of the definitions in Moves.
use Rattle.std.specs.Prelude.{◌≡◌, ℕ, zero, suc, ◌+◌, ◌*◌, ◌/◌, ◌%◌, ◌<◌, ◌≤◌, false, ◌&&◌, List, [], ◌∷◌, length, get_or, set, ◌≢◌, slice_index_or, slice_set, refl}
use Rattle.std.proofs.Common.{sym, ◌∙◌, subst, arith, set-set, eq-eqb, ne_eqb, le-leb}
use Rattle.std.proofs.Math.Path.{ap}
use Rattle.std.proofs.Math.ListN.{length-set}
use Rattle.std.proofs.Math.Seq.{get_or-set_same}
use Rattle.std.proofs.lemmas.Bool.{lt-leb}
use Rattle.laws.specs.Tests.{sames}
use Rattle.laws.specs.TestsLaws.{pick_true, pick-false, and_both, and-not-left, and-not-right}
use Rattle.laws.specs.Put.{put}
use Rattle.laws.specs.PutLaws.{set-put}
use Rattle.octets.specs.Little.{little, octets_of}
use Rattle.rule.specs.Base.{All}
use Rattle.rule.specs.Engine.{find}
use Rattle.model.specs.Types.{Model, Monitor, Packet, Pair, device_of, watched, with_lists}
use Rattle.model.specs.Level.{add_rssi}
use Rattle.model.specs.Watch.{with_since_good, with_kept, with_latest, gathered, packet_move}
use Rattle.model.specs.Block.{padded}
use Rattle.blocks.specs.Bounds.{Fits}
use Rattle.blocks.specs.Block.{Measured}
use Rattle.blocks.specs.BlockLaws.{length-padded}
use Rattle.blocks.specs.UpdatesLaws.{measured-pairs}
use Rattle.blocks.specs.EndsLaws.{all_set}
use Rattle.blocks.specs.Fields.{latest_of, window_of}
use Rattle.steps.specs.Typed.{Sent}
use Rattle.steps.specs.TypedLaws.{pick-both}
use Rattle.marks.specs.Marks.{matched, refreshes, takes, sifted, allowed, keeps, mark}
use Rattle.packets.specs.Changes.{freshened, collected, strengthened, counted, recalled, changed}
use Rattle.packets.specs.ChangesLaws.{move-changed}
use Rattle.packets.specs.Writes.{no_pair}
use Rattle.packets.specs.WritesLaws.{same_row_lem, fits-silent, fits_kept, fits-latest, fits-gathered, row-silent, row_kept, row-latest, row-gathered}
use Rattle.model.specs.Layout.{block_size, event_at, pair_size, pairs_at, rssi_at}
use Rattle.packets.specs.Moves.{pair_at, with_pair, AtPair}

all-at : (P : Pair → Type 0) (qs : List Pair) → All P qs → (i : ℕ) → i < length qs → P (slice_index_or qs i no_pair)
all-at P [] a i h = absurd (omega arith)
all-at P (q ∷ qs) a zero h = a.0
all-at P (q ∷ qs) a (suc i) h = all-at P qs a.1 i (omega arith)

pub pair_fits : {m : Model} {s : List ℕ} {i : ℕ} → AtPair m s i → Fits (pair_at m i)
unfolding pair_at
pair_fits {m} {s} {i} a = all-at Fits m.pairs a.measured.fit i a.within

-- the count of ticks since a good packet starts anew, or is left
module _ (m : Model) (s : List ℕ) (i a : ℕ) (w : AtPair m s i) where
  pub refresh-done : {t : List ℕ} → a % 2 ≡ 1 → t ≡ put s (pairs_at + pair_size * i + 8) (octets_of 2 0)
      → t ≡ padded (with_pair m i (freshened a (pair_at m i)))
  unfolding with_pair freshened refreshes pair_at
  refresh-done h e =
      e ∙ ap (λ (l : List ℕ). put l (pairs_at + pair_size * i + 8) (octets_of 2 0)) w.block
      ∙ row-silent m w.measured i no_pair w.within (pair_fits w)
      ∙ ap (λ (q : Pair). padded (with_lists m m.mons (slice_set m.pairs i q)))
      (sym (pick_true (with_since_good (slice_index_or m.pairs i no_pair) 0) (slice_index_or m.pairs i no_pair) (eq-eqb (a % 2) 1 h)))

  pub refresh-left : (a % 2 ≢ 1) → s ≡ padded (with_pair m i (freshened a (pair_at m i)))
  unfolding with_pair freshened refreshes pair_at
  refresh-left h =
      w.block ∙ same_row_lem m w.measured i no_pair
      ∙ ap (λ (q : Pair). padded (with_lists m m.mons (slice_set m.pairs i q)))
      (sym (pick-false (with_since_good (slice_index_or m.pairs i no_pair) 0) (slice_index_or m.pairs i no_pair) (ne_eqb (a % 2) 1 h)))

-- the RSSI is kept, or is left
module _ (m : Model) (s : List ℕ) (i a o : ℕ) (w : AtPair m s i) where
  pub keep-done : {t : List ℕ} → o < 256 → matched ≤ a → t ≡ slice_set s (pairs_at + pair_size * i + rssi_at) o
      → t ≡ padded (with_pair m i (strengthened a o (pair_at m i)))
  unfolding with_pair strengthened keeps pair_at
  keep-done b h e =
      let n : length s ≡ block_size = ap length w.block ∙ length-padded m w.measured in
      e ∙ set-put s (pairs_at + pair_size * i + rssi_at) o (omega (arith, w.within, w.measured.pairs-most))
      ∙ ap (λ (l : List ℕ). put l (pairs_at + pair_size * i + rssi_at) (o ∷ [])) w.block
      ∙ row_kept m w.measured i no_pair w.within (pair_fits w) o b
      ∙ ap (λ (q : Pair). padded (with_lists m m.mons (slice_set m.pairs i q)))
      (sym (pick_true (with_kept (slice_index_or m.pairs i no_pair) o) (slice_index_or m.pairs i no_pair) (le-leb matched a h)))

  pub keep_left : a < matched → s ≡ padded (with_pair m i (strengthened a o (pair_at m i)))
  unfolding with_pair strengthened keeps pair_at
  keep_left h =
      w.block ∙ same_row_lem m w.measured i no_pair
      ∙ ap (λ (q : Pair). padded (with_lists m m.mons (slice_set m.pairs i q)))
      (sym (pick-false (with_kept (slice_index_or m.pairs i no_pair) o) (slice_index_or m.pairs i no_pair) (lt-leb matched a h)))

-- the window takes the packet, or is left
module _ (m : Model) (s : List ℕ) (i a : ℕ) (p : Packet) (w : AtPair m s i) where
  pub gather-done : {t : List ℕ} → Sent p → (pair_at m i).packets < 4294967295 → a / 2 % 2 ≡ 1
      → t ≡ put s (pairs_at + pair_size * i + 11) (window_of (little 4 s (pairs_at + pair_size * i + 11) + 1)
      (add_rssi (little 8 s (pairs_at + pair_size * i + 15)) p.rssi) p.rssi p.event p.adv)
      → t ≡ padded (with_pair m i (collected a p (pair_at m i)))
  unfolding with_pair collected takes pair_at
  gather-done x r h e =
      e ∙ ap (λ (l : List ℕ). put l (pairs_at + pair_size * i + 11)
      (window_of (little 4 l (pairs_at + pair_size * i + 11) + 1)
      (add_rssi (little 8 l (pairs_at + pair_size * i + 15)) p.rssi) p.rssi p.event p.adv)) w.block
      ∙ row-gathered m w.measured i no_pair w.within (pair_fits w) p x r
      ∙ ap (λ (q : Pair). padded (with_lists m m.mons (slice_set m.pairs i q)))
      (sym (pick_true (gathered p (slice_index_or m.pairs i no_pair)) (slice_index_or m.pairs i no_pair) (eq-eqb (a / 2 % 2) 1 h)))

  pub gather-left : (a / 2 % 2 ≢ 1) → s ≡ padded (with_pair m i (collected a p (pair_at m i)))
  unfolding with_pair collected takes pair_at
  gather-left h =
      w.block ∙ same_row_lem m w.measured i no_pair
      ∙ ap (λ (q : Pair). padded (with_lists m m.mons (slice_set m.pairs i q)))
      (sym (pick-false (gathered p (slice_index_or m.pairs i no_pair)) (slice_index_or m.pairs i no_pair) (ne_eqb (a / 2 % 2) 1 h)))

-- the packet is kept for duplicates, or the one before is left
module _ (m : Model) (s : List ℕ) (i a : ℕ) (p : Packet) (w : AtPair m s i) where
  pub recall-done : {t : List ℕ} → Sent p → a / 16 % 2 ≡ 1 → a / 32 % 2 ≡ 1
      → t ≡ put s (pairs_at + pair_size * i + event_at) (latest_of p.event p.adv)
      → t ≡ padded (with_pair m i (recalled a p (pair_at m i)))
  unfolding with_pair recalled sifted allowed pair_at
  recall-done x h k e =
      e ∙ ap (λ (l : List ℕ). put l (pairs_at + pair_size * i + event_at) (latest_of p.event p.adv)) w.block
      ∙ row-latest m w.measured i no_pair w.within (pair_fits w) p.event p.adv
      (omega (arith, x.event-most)) x.adv-short x.adv-octets
      ∙ ap (λ (q : Pair). padded (with_lists m m.mons (slice_set m.pairs i q)))
      (sym (pick_true (with_latest p.event p.adv (slice_index_or m.pairs i no_pair)) (slice_index_or m.pairs i no_pair)
      (and_both (eq-eqb (a / 16 % 2) 1 h) (eq-eqb (a / 32 % 2) 1 k))))

  recall-none : (sifted a && allowed a) ≡ false → s ≡ padded (with_pair m i (recalled a p (pair_at m i)))
  unfolding with_pair recalled pair_at
  recall-none h =
      w.block ∙ same_row_lem m w.measured i no_pair
      ∙ ap (λ (q : Pair). padded (with_lists m m.mons (slice_set m.pairs i q)))
      (sym (pick-false (with_latest p.event p.adv (slice_index_or m.pairs i no_pair)) (slice_index_or m.pairs i no_pair) h))

  pub recall-plain : (a / 16 % 2 ≢ 1) → s ≡ padded (with_pair m i (recalled a p (pair_at m i)))
  unfolding sifted
  recall-plain h = recall-none (and-not-left _ _ (ne_eqb (a / 16 % 2) 1 h))

  pub recall-barred : (a / 32 % 2 ≢ 1) → s ≡ padded (with_pair m i (recalled a p (pair_at m i)))
  unfolding allowed
  recall-barred h = recall-none (and-not-right (sifted a) _ (ne_eqb (a / 32 % 2) 1 h))

-- a pair changed stays one that fits
freshened-packets : (a : ℕ) (q : Pair) → (freshened a q).packets ≡ q.packets
unfolding freshened with_since_good
freshened-packets a q = pick-both (λ (r : Pair). r.packets ≡ q.packets) (refreshes a) _ _ (λ e. refl) (λ e. refl)

freshened-fits : (a : ℕ) (q : Pair) → Fits q → Fits (freshened a q)
unfolding freshened
freshened-fits a q f = pick-both Fits (refreshes a) (with_since_good q 0) q (λ e. fits-silent q f) (λ e. f)

collected-fits : (a : ℕ) (p : Packet) (q : Pair) → Sent p → Fits q → q.packets < 4294967295 → Fits (collected a p q)
unfolding collected
collected-fits a p q t f h =
    pick-both Fits (takes a) (gathered p q) q (λ e. fits-gathered p q t f h) (λ e. f)

strengthened-packets : (a o : ℕ) (q : Pair) → (strengthened a o q).packets ≡ q.packets
unfolding strengthened with_kept
strengthened-packets a o q = pick-both (λ (r : Pair). r.packets ≡ q.packets) (keeps a) _ _ (λ e. refl) (λ e. refl)

strengthened-fits : (a o : ℕ) (q : Pair) → o < 256 → Fits q → Fits (strengthened a o q)
unfolding strengthened
strengthened-fits a o q b f = pick-both Fits (keeps a) (with_kept q o) q (λ e. fits_kept o q b f) (λ e. f)

counted-fits : (a : ℕ) (p : Packet) (q : Pair) → Sent p → Fits q → q.packets < 4294967295 → Fits (counted a p q)
unfolding counted
counted-fits a p q t f h = collected-fits a p (freshened a q) t (freshened-fits a q f) (rw (freshened-packets a q) h)

recalled-fits : (a : ℕ) (p : Packet) (q : Pair) → Sent p → Fits q → Fits (recalled a p q)
unfolding recalled
recalled-fits a p q t f =
    pick-both Fits (sifted a && allowed a) (with_latest p.event p.adv q) q
    (λ e. fits-latest p.event p.adv q (omega (arith, t.event-most)) t.adv-short t.adv-octets f) (λ e. f)

pub moved-fits : (mons : List (ℕ × Monitor)) (p : Packet) (q : Pair) → Sent p → Fits q → q.packets < 4294967295
    → Fits (packet_move mons p q)
unfolding changed
moved-fits mons p q t f h =
    let a : ℕ = mark (find mons q.handle) p in
    let k : Pair = strengthened a p.rssi q in
    subst Fits (sym (move-changed mons p q))
    (pick-both Fits (sames (device_of p) (watched q)) (recalled a p (counted a p k)) q
    (λ e. recalled-fits a p (counted a p k) t
    (counted-fits a p k t (strengthened-fits a p.rssi q t.rssi-octet f)
    (rw (strengthened-packets a p.rssi q) h)))
    (λ e. f))

-- a change of pair i and then another, one after the other
module _ (m : Model) (s : List ℕ) (i : ℕ) (w : AtPair m s i) (q : Pair) (k : Fits q) where
  then : (g : Pair → Pair) {u t : List ℕ} → u ≡ padded (with_pair m i q)
      → ((n : Model) → AtPair n u i → pair_at n i ≡ q → t ≡ padded (with_pair n i (g (pair_at n i))))
      → t ≡ padded (with_pair m i (g q))
  unfolding with_pair with_lists pair_at
  then g {u} {t} e f =
      let qs : List Pair = set m.pairs i q in
      let n : Model = with_lists m m.mons qs in
      let c : length qs ≡ length m.pairs = length-set m.pairs i q in
      let y : get_or qs i no_pair ≡ q = get_or-set_same m.pairs i q no_pair w.within in
      let x : Measured n =
      measured-pairs m w.measured qs (all_set m.pairs w.measured.fit i q k)
      (omega (arith, w.measured.pairs-most)) in
      let v : AtPair n u i = record { measured = x; block = e; within = omega (arith, w.within) } in
      f n v y
      ∙ ap (λ (z : Pair). padded (with_lists m m.mons (slice_set qs i (g z)))) y
      ∙ ap (λ (z : List Pair). padded (with_lists m m.mons z)) (set-set m.pairs i q (g q))

-- the count of ticks, and then the window
pub change-both : (m : Model) (s : List ℕ) (i a : ℕ) (p : Packet) {u t : List ℕ} → AtPair m s i → Sent p
    → (pair_at m i).packets < 4294967295
    → u ≡ padded (with_pair m i (freshened a (pair_at m i)))
    → ((n : Model) → AtPair n u i → (pair_at n i).packets < 4294967295
    → t ≡ padded (with_pair n i (collected a p (pair_at n i))))
    → t ≡ padded (with_pair m i (counted a p (pair_at m i)))
unfolding counted
change-both m s i a p w x r e f =
    then m s i w (freshened a (pair_at m i)) (freshened-fits a (pair_at m i) (pair_fits w)) (collected a p) e
    (λ n v y. f n v (rw (y, freshened-packets a (pair_at m i)) r))

-- the RSSI, then both, and then the packet kept for duplicates
pub change-all : (m : Model) (s : List ℕ) (i a : ℕ) (p : Packet) {u v t : List ℕ} → AtPair m s i → Sent p
    → (pair_at m i).packets < 4294967295
    → u ≡ padded (with_pair m i (strengthened a p.rssi (pair_at m i)))
    → ((n : Model) → AtPair n u i → (pair_at n i).packets < 4294967295
    → v ≡ padded (with_pair n i (counted a p (pair_at n i))))
    → ((n : Model) → AtPair n v i → t ≡ padded (with_pair n i (recalled a p (pair_at n i))))
    → t ≡ padded (with_pair m i (changed a p (pair_at m i)))
unfolding changed
change-all m s i a p w x r e f g =
    let k : Pair = strengthened a p.rssi (pair_at m i) in
    let h : Fits k = strengthened-fits a p.rssi (pair_at m i) x.rssi-octet (pair_fits w) in
    let l : k.packets < 4294967295 = rw (strengthened-packets a p.rssi (pair_at m i)) r in
    then m s i w (counted a p k) (counted-fits a p k x h l) (recalled a p)
    (then m s i w k h (counted a p) e (λ n z y. f n z (rw y l))) (λ n z y. g n z)
