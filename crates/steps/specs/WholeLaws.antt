-- What a whole sound state keeps to: its monitors, its pairs and itself, as records, both ways. Document 01, The
-- image ("Sound: .."). Assumes nothing.
use Rattle.std.specs.Prelude.{ℕ, suc, ◌≤◌, ◌<◌, ◌≡◌, refl, Bool, true, false, ◌&&◌, ◌||◌, not, List, [], ◌∷◌, map, leb, ltb, eqb, length}
use Rattle.std.proofs.Common.{zero-le, arith, sym, ap, ◌∙◌, inl, inr, leb-true, ltb-true, eqb-true, le-leb, lt-ltb, eq-eqb}
use Rattle.std.proofs.lemmas.Bool.{false≢true, not-true}
use Rattle.std.proofs.Math.Option.{Option, none, some}
use Rattle.laws.specs.Tests.{sames}
use Rattle.laws.specs.TestsLaws.{and_left, and_right, and_both, sames-eq, eq-sames}
use Rattle.laws.specs.Loops.{every, some as some_of}
use Rattle.rule.specs.Base.{In, All, Distinct}
use Rattle.rule.specs.BaseLaws.{pair_path}
use Rattle.rule.specs.Engine.{find}
use Rattle.rule.specs.Finds.{Rising}
use Rattle.sessions.specs.Machine.{last_number}
use Rattle.model.specs.Types.{Model, Monitor, Pair, watched}
use Rattle.model.specs.Monitors.{run_of}
use Rattle.model.specs.Watch.{is_pair, holds}
use Rattle.model.specs.Sound.{sound_monitor, sound_monitors, sound_settings, sound_window, sound_empty, sound_fields}
use Rattle.model.specs.Sound.{sound_of, sound_pair, apart, sound_model}
use Rattle.steps.specs.ListsLaws.{all-weaken, every-all, all-every}
use Rattle.steps.specs.FactsLaws.{and-three, and-four, and-five}
use Rattle.model.specs.Layout.{most_monitors, most_pairs}

-- "monitors held in rising handle order, handles 0 to 15": a row, and a row of a handle from k on
abbrev pub Row : ℕ × Monitor → Type 0
Row x = (x.0 < most_monitors) × (sound_monitor x.1 ≡ true)

abbrev pub RowFrom : ℕ → ℕ × Monitor → Type 0
RowFrom k x = (k ≤ x.0) × Row x

pub monitors-of : (k : ℕ) (l : List (ℕ × Monitor)) → sound_monitors k l ≡ true → Rising l × All (RowFrom k) l
unfolding sound_monitors
monitors-of k [] e = (tt, tt)
monitors-of k (x ∷ l) e =
    let r = and-four (leb k x.0) (ltb x.0 most_monitors) (sound_monitor x.1) (sound_monitors (suc x.0) l) e in
    let low : k ≤ x.0 = leb-true k x.0 r.0 in
    let ih = monitors-of (suc x.0) l r.3 in
    let up : All (λ y. x.0 < y.0) l =
    all-weaken (RowFrom (suc x.0)) (λ y. x.0 < y.0) (λ y a. a.0) l ih.1 in
    let rest : All (RowFrom k) l =
    all-weaken (RowFrom (suc x.0)) (RowFrom k) (λ y a. (omega (arith, low, a.0), a.1)) l ih.1 in
    ((up, ih.0), ((low, (ltb-true x.0 most_monitors r.1, r.2)), rest))

pub monitors-hold : (k : ℕ) (l : List (ℕ × Monitor)) → Rising l → All (RowFrom k) l → sound_monitors k l ≡ true
unfolding sound_monitors
monitors-hold k [] r a = refl
monitors-hold k (x ∷ l) r a =
    let up : All (RowFrom (suc x.0)) l = zip l r.0 a.1 in
    and_both (and_both (and_both (le-leb k x.0 a.0.0) (lt-ltb x.0 most_monitors a.0.1.0)) a.0.1.1)
    (monitors-hold (suc x.0) l r.1 up)
  where
    zip : (m : List (ℕ × Monitor)) → All (λ y. x.0 < y.0) m → All (RowFrom k) m → All (RowFrom (suc x.0)) m
    zip [] b c = tt
    zip (y ∷ m) b c = ((b.0, c.0.1), zip m b.1 c.1)

-- handle and device of a pair
abbrev pub key : Pair → ℕ × List ℕ
key q = (q.handle, watched q)

-- the test `holds` is membership of keys
pub holds-in : (qs : List Pair) (h : ℕ) (d : List ℕ) → holds qs h d ≡ true → In (h, d) (map key qs)
unfolding holds some_of is_pair
holds-in [] h d t = absurd (false≢true t)
holds-in (q ∷ qs) h d t = go (eqb q.handle h && sames (watched q) d) refl t (λ u. holds-in qs h d u)
  where
    go : (b : Bool) → (eqb q.handle h && sames (watched q) d) ≡ b → (b || holds qs h d) ≡ true
        → (holds qs h d ≡ true → In (h, d) (map key qs)) → In (h, d) (map key (q ∷ qs))
    go true w u ih =
        let a : eqb q.handle h ≡ true = and_left (eqb q.handle h) (sames (watched q) d) w in
        let b : sames (watched q) d ≡ true = and_right (eqb q.handle h) (sames (watched q) d) w in
        inl (pair_path (sym (eqb-true q.handle h a)) (sym (sames-eq (watched q) d b)))
    go false w u ih = inr (ih u)

pub in-holds : (qs : List Pair) (h : ℕ) (d : List ℕ) → In (h, d) (map key qs) → holds qs h d ≡ true
unfolding holds some_of is_pair
in-holds [] h d x' = elim x' [ ]
in-holds (q ∷ qs) h d (inl w) =
    let a : eqb q.handle h ≡ true = eq-eqb q.handle h (ap (λ x. x.0) (sym w)) in
    let b : sames (watched q) d ≡ true = eq-sames (watched q) d (ap (λ x. x.1) (sym w)) in
    rw (a, b)
in-holds (q ∷ qs) h d (inr i) = go (eqb q.handle h && sames (watched q) d) (in-holds qs h d i)
  where
    go : (b : Bool) → holds qs h d ≡ true → (b || holds qs h d) ≡ true
    go true u = refl
    go false u = u

pub not-holds : (qs : List Pair) (h : ℕ) (d : List ℕ) → (In (h, d) (map key qs) → ⊥) → holds qs h d ≡ false
not-holds qs h d n = go (holds qs h d) refl
  where
    go : (t : Bool) → holds qs h d ≡ t → t ≡ false
    go true e = absurd (n (holds-in qs h d e))
    go false e = refl

-- "pairs distinct"
pub apart_distinct : (qs : List Pair) → apart qs ≡ true → Distinct (map key qs)
unfolding apart
apart_distinct [] e = tt
apart_distinct (q ∷ qs) e =
    let a : not (holds qs q.handle (watched q)) ≡ true =
    and_left (not (holds qs q.handle (watched q))) (apart qs) e in
    let b : holds qs q.handle (watched q) ≡ false = not-true (holds qs q.handle (watched q)) a in (
      λ i. false≢true (sym b ∙ in-holds qs q.handle (watched q) i),
      apart_distinct qs (and_right (not (holds qs q.handle (watched q))) (apart qs) e),
    )

pub distinct_apart : (qs : List Pair) → Distinct (map key qs) → apart qs ≡ true
unfolding apart
distinct_apart [] d = refl
distinct_apart (q ∷ qs) d = and_both (ap not (not-holds qs q.handle (watched q) d.0)) (distinct_apart qs d.1)

-- a pair of the monitor m: "ticks below 10 × interval", its fields and its window sound
pub record Kept (position : ℕ) (m : Monitor) (q : Pair) : Type 0 where
  pub fields : sound_fields q ≡ true
  pub silent-below : q.since_good < run_of m
  pub window : sound_window position m q ≡ true
  pub empty : sound_empty m q ≡ true

-- a pair "of live handles"
pub record Held (position : ℕ) (mons : List (ℕ × Monitor)) (q : Pair) : Type 0 where
  pub mon : Monitor
  pub live : find mons q.handle ≡ some mon
  pub kept : Kept position mon q

pub held_of : (m : Model) (q : Pair) → sound_pair m q ≡ true → Held m.position m.mons q
unfolding sound_pair sound_of
held_of m q e = go (find m.mons q.handle) refl e
  where
    go : (o : Option Monitor) → find m.mons q.handle ≡ o → sound_of m.position o q ≡ true
        → Held m.position m.mons q
    go none w u = absurd (false≢true u)
    go (some n) w u =
        let r =
        and-four (sound_fields q) (ltb q.since_good (run_of n)) (sound_window m.position n q) (sound_empty n q) u in
        let k : Kept m.position n q =
        record {
          fields = r.0;
          silent-below = ltb-true q.since_good (run_of n)
              r.1;
          window = r.2;
          empty = r.3;
        } in
        record { mon = n; live = w; kept = k }

pub held-holds : (m : Model) (q : Pair) → Held m.position m.mons q → sound_pair m q ≡ true
unfolding sound_pair sound_of
held-holds m q h =
    let k : Kept m.position h.mon q = h.kept in
    rw h.live
    (and_both (and_both (and_both k.fields (lt-ltb q.since_good (run_of h.mon) k.silent-below)) k.window)
    k.empty)

-- the pairs of a sound state: "pairs distinct, at most 64, .."
pub record Pairs (position : ℕ) (mons : List (ℕ × Monitor)) (qs : List Pair) : Type 0 where
  pub room : length qs ≤ most_pairs
  pub once : Distinct (map key qs)
  pub held : All (Held position mons) qs

-- the monitors of a sound state
pub record Monitors (mons : List (ℕ × Monitor)) : Type 0 where
  pub rising : Rising mons
  pub rows : All Row mons

-- "Sound: .."
pub record Sound (m : Model) : Type 0 where
  pub position-most : m.position ≤ 4294967295
  pub filter-most : m.filter ≤ 1
  pub settings : sound_settings m.opcode m.prefix ≡ true
  pub monitors : Monitors m.mons
  pub pairs : Pairs m.position m.mons m.pairs
