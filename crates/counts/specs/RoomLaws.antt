-- Laws of the definitions in Room.
use Prim.Native.Nat.{ℕ, zero, suc, ◌+◌, ◌-◌, ◌≤◌, ◌<◌}
use Rattle.std.specs.Prelude.{◌≡◌, Bool, ◌&&◌, ◌||◌, List, [], ◌∷◌, ◌++◌, length}
use Rattle.std.proofs.Math.Path.{refl, sym, ap, ap₂}
use Rattle.std.proofs.Common.{◌∙◌, subst, arith, length-append, ltb-true, lt-ltb, le-ltb, eq-eqb, ne_eqb, eqb-true}
use Rattle.std.proofs.Math.Bool.{true, false, not}
use Rattle.std.proofs.lemmas.Bool.{false≢true}
use Rattle.std.proofs.Math.Option.{none}
use Rattle.std.proofs.Math.Dec.{ltb}
use Rattle.std.specs.Int.Signed.{lt_z}
use Rattle.laws.specs.Tests.{pick}
use Rattle.laws.specs.TestsLaws.{cases-le, and_right}
use Rattle.laws.specs.Loops.{some as some_of, keep, only}
use Rattle.laws.specs.LoopsLaws.{keep_append}
use Rattle.rule.specs.Base.{All}
use Rattle.rule.specs.BaseLaws.{all_append}
use Rattle.rule.specs.Engine.{find}
use Rattle.model.specs.Types.{Monitor, Packet, Pair, device_of}
use Rattle.model.specs.Level.{level, d_bm}
use Rattle.model.proofs.LevelsLaws.{below-levels}
use Rattle.model.specs.Watch.{is_pair, holds, smaller, least, keeps, without, has_room, fits, stays_for, turns, start_like}
use Rattle.model.specs.Layout.{most_pairs}
use Rattle.steps.proofs.DropsLaws.{keeps-level, without_all}
use Rattle.marks.specs.Marks.{opens, mark}
use Rattle.packets.specs.Changes.{starts, started, after}
use Rattle.packets.specs.ChangesLaws.{some-append, or-none, turn-after}
use Rattle.counts.specs.Room.{weak_of, weak, room, begun, left_of}

weak_more : (r : ℕ) (q : Pair) (qs : List Pair) → weak r (q ∷ qs) ≡ length (only (weak_of r q) q) + weak r qs
unfolding weak keep
weak_more r q qs = length-append (only (weak_of r q) q) (keep (weak_of r) qs)

one-yes : (b : Bool) (q : Pair) → b ≡ true → length (only b q) ≡ 1
unfolding only
one-yes b q e = rw e

one-no : (b : Bool) (q : Pair) → b ≡ false → length (only b q) ≡ 0
unfolding only
one-no b q e = rw e

-- the smallest kept RSSI is below r exactly where some pair keeps less
record Least (r : ℕ) (qs : List Pair) : Type 0 where
  most : level (least r qs) ≤ level r
  found : 0 < weak r qs → level (least r qs) < level r
  none : weak r qs ≡ 0 → level r ≤ level (least r qs)
  kept : level (least r qs) < level r → some_of (keeps (least r qs)) qs ≡ true

some-here : (f : Pair → Bool) (q : Pair) (qs : List Pair) → f q ≡ true → some_of f (q ∷ qs) ≡ true
unfolding some_of
some-here f q qs e = rw e

some-later : (f : Pair → Bool) (q : Pair) (qs : List Pair) → some_of f qs ≡ true → some_of f (q ∷ qs) ≡ true
unfolding some_of
some-later f q qs e = go (f q)
  where
    go : (t : Bool) → (t || some_of f qs) ≡ true
    go true = refl
    go false = e

weak-nil : (r : ℕ) → weak r [] ≡ 0
unfolding weak keep
weak-nil r = refl

weak-yes : (r : ℕ) (q : Pair) (qs : List Pair) → level q.kept < level r → weak r (q ∷ qs) ≡ 1 + weak r qs
unfolding weak_of
weak-yes r q qs h =
    weak_more r q qs ∙ ap (λ (n : ℕ). n + weak r qs) (one-yes (weak_of r q) q (lt-ltb (level q.kept) (level r) h))

weak-no : (r : ℕ) (q : Pair) (qs : List Pair) → level r ≤ level q.kept → weak r (q ∷ qs) ≡ weak r qs
unfolding weak_of
weak-no r q qs h =
    let e : length (only (weak_of r q) q) ≡ 0 = one-no (weak_of r q) q (le-ltb (level q.kept) (level r) h) in
    weak_more r q qs ∙ omega arith

-- the smaller of two
smaller-first : (a b : ℕ) → level a < level b → smaller a b ≡ a
unfolding smaller pick
smaller-first a b h = rw (below-levels a b, lt-ltb (level a) (level b) h)

smaller-second : (a b : ℕ) → level b ≤ level a → smaller a b ≡ b
unfolding smaller pick
smaller-second a b h = rw (below-levels a b, le-ltb (level a) (level b) h)

least_more : (r : ℕ) (q : Pair) (qs : List Pair) → least r (q ∷ qs) ≡ smaller q.kept (least r qs)
unfolding least
least_more r q qs = refl

least-nil : (r : ℕ) → least r [] ≡ r
unfolding least
least-nil r = refl

keeps-own : (k : ℕ) (q : Pair) → level q.kept ≡ level k → keeps k q ≡ true
keeps-own k q e = keeps-level k q ∙ eq-eqb (level q.kept) (level k) e

least-is : (r : ℕ) (qs : List Pair) → Least r qs
least-is r [] =
    let z : weak r [] ≡ 0 = weak-nil r in
    let l : level (least r []) ≡ level r = ap level (least-nil r) in
    record {
      most = omega arith;
      found = λ h. absurd (omega arith);
      none = λ e. omega arith;
      kept = λ h. absurd (omega arith);
    }
least-is r (q ∷ qs) =
    let x : Least r qs = least-is r qs in
    cases-le (level (least r qs)) (level q.kept)
    (λ (u : level (least r qs) ≤ level q.kept).
    let e : least r (q ∷ qs) ≡ least r qs = least_more r q qs ∙ smaller-second q.kept (least r qs) u in
    let l : level (least r (q ∷ qs)) ≡ level (least r qs) = ap level e in
    record {
      most = omega (arith, x.most);
      found = λ h. cases-le (level r) (level q.kept)
          (λ (v : level r ≤ level q.kept). let w : weak r (q ∷ qs)
          ≡ weak r qs = weak-no r q qs v in omega (arith, x.found (omega arith)))
          (λ (v : level q.kept < level r). omega arith);
      none = λ z. cases-le (level r) (level q.kept)
          (λ (v : level r ≤ level q.kept). let w : weak r (q ∷ qs)
          ≡ weak r qs = weak-no r q qs v in omega (arith, x.none (omega arith)))
          (λ (v : level q.kept < level r). let w : weak r (q ∷ qs)
          ≡ 1 + weak r qs = weak-yes r q qs v in absurd (omega arith));
      kept = λ h. some-later (keeps (least r (q ∷ qs))) q qs
          (ap (λ (k : ℕ). some_of (keeps k) qs) e ∙ x.kept (omega arith));
    })
    (λ (u : level q.kept < level (least r qs)).
    let e : least r (q ∷ qs) ≡ q.kept = least_more r q qs ∙ smaller-first q.kept (least r qs) u in
    let l : level (least r (q ∷ qs)) ≡ level q.kept = ap level e in
    let b : level q.kept < level r = omega (arith, x.most) in
    let w : weak r (q ∷ qs) ≡ 1 + weak r qs = weak-yes r q qs b in
    record {
      most = omega (arith, x.most);
      found = λ h. omega (arith, x.most);
      none = λ z. absurd (omega arith);
      kept = λ h. some-here (keeps (least r (q ∷ qs))) q qs (keeps-own (least r (q ∷ qs)) q (sym l));
    })

-- there is room for a start exactly where the room is not 0
pub fits-room : (r : ℕ) (qs : List Pair) → fits r qs ≡ ltb 0 (room r qs)
unfolding fits has_room room
fits-room r qs =
    let x : Least r qs = least-is r qs in
    cases-le most_pairs (length qs)
    (λ (u : most_pairs ≤ length qs).
    rw (le-ltb (length qs) most_pairs u, below-levels (least r qs) r)
    (cases-le (weak r qs) 0
    (λ (v : weak r qs ≤ 0). le-ltb (level (least r qs)) (level r) (x.none (omega arith))
    ∙ sym (le-ltb 0 (most_pairs - length qs + weak r qs) (omega arith)))
    (λ (v : 0 < weak r qs). lt-ltb (level (least r qs)) (level r) (x.found v)
    ∙ sym (lt-ltb 0 (most_pairs - length qs + weak r qs) (omega arith)))))
    (λ (u : length qs < most_pairs). rw (lt-ltb (length qs) most_pairs u)
    (sym (lt-ltb 0 (most_pairs - length qs + weak r qs) (omega arith))))

-- the pair that goes is one fewer, and one fewer that keeps less
without-length : (k : ℕ) (qs : List Pair) → some_of (keeps k) qs ≡ true → 1 + length (without k qs) ≡ length qs
unfolding without some_of pick
without-length k [] e = absurd (false≢true e)
without-length k (q ∷ qs) e = go (keeps k q) e (without-length k qs)
  where
    go : (t : Bool) → (t || some_of (keeps k) qs) ≡ true
        → (some_of (keeps k) qs ≡ true → 1 + length (without k qs) ≡ length qs)
        → 1 + length (pick t qs (q ∷ without k qs)) ≡ length (q ∷ qs)
    go true h ih = omega arith
    go false h ih = let i : 1 + length (without k qs) ≡ length qs = ih h in omega arith

without-weak : (r k : ℕ) (qs : List Pair) → level k < level r → some_of (keeps k) qs ≡ true
    → 1 + weak r (without k qs) ≡ weak r qs
unfolding without some_of pick
without-weak r k [] b e = absurd (false≢true e)
without-weak r k (q ∷ qs) b e = go (keeps k q) refl e (without-weak r k qs b)
  where
    go : (t : Bool) → keeps k q ≡ t → (t || some_of (keeps k) qs) ≡ true
        → (some_of (keeps k) qs ≡ true → 1 + weak r (without k qs) ≡ weak r qs)
        → 1 + weak r (pick t qs (q ∷ without k qs)) ≡ weak r (q ∷ qs)
    go true p h ih =
        let l : level q.kept ≡ level k = eqb-true (level q.kept) (level k) (sym (keeps-level k q) ∙ p) in
        sym (weak-yes r q qs (omega arith))
    go false p h ih =
        let i : 1 + weak r (without k qs) ≡ weak r qs = ih h in
        let u : weak r (q ∷ without k qs) ≡ length (only (weak_of r q) q) + weak r (without k qs) =
        weak_more r q (without k qs) in
        let v : weak r (q ∷ qs) ≡ length (only (weak_of r q) q) + weak r qs = weak_more r q qs in
        omega arith

weak-append : (r : ℕ) (qs : List Pair) (q : Pair) → level q.kept ≡ level r → weak r (qs ++ (q ∷ [])) ≡ weak r qs
unfolding weak
weak-append r qs q e =
    let u : weak r (q ∷ []) ≡ weak r [] = weak-no r q [] (omega arith) in
    let z : weak r [] ≡ 0 = weak-nil r in
    ap length (keep_append (weak_of r) qs (q ∷ [])) ∙ length-append (keep (weak_of r) qs) (keep (weak_of r) (q ∷ []))
    ∙ omega arith

-- a start takes one of the room
pub room-start : (r : ℕ) (qs : List Pair) (q : Pair) → level q.kept ≡ level r → fits r qs ≡ true
    → room r (stays_for r qs ++ (q ∷ [])) ≡ room r qs - 1
unfolding room stays_for has_room pick
room-start r qs q e f =
    let g : 0 < most_pairs - length qs + weak r qs =
    ltb-true 0 (most_pairs - length qs + weak r qs) (sym (fits-room r qs) ∙ f) in
    cases-le most_pairs (length qs)
    (λ (u : most_pairs ≤ length qs).
    let x : Least r qs = least-is r qs in
    let b : level (least r qs) < level r = x.found (omega arith) in
    let s : some_of (keeps (least r qs)) qs ≡ true = x.kept b in
    let l : 1 + length (without (least r qs) qs) ≡ length qs = without-length (least r qs) qs s in
    let w : 1 + weak r (without (least r qs) qs) ≡ weak r qs = without-weak r (least r qs) qs b s in
    let a : weak r (without (least r qs) qs ++ (q ∷ [])) ≡ weak r (without (least r qs) qs) =
    weak-append r (without (least r qs) qs) q e in
    let n : length (without (least r qs) qs ++ (q ∷ [])) ≡ length (without (least r qs) qs) + 1 =
    length-append (without (least r qs) qs) (q ∷ []) in
    rw (le-ltb (length qs) most_pairs u)
    (full (without (least r qs) qs ++ (q ∷ [])) (without (least r qs) qs) n a l w g))
    (λ (u : length qs < most_pairs).
    let a : weak r (qs ++ (q ∷ [])) ≡ weak r qs = weak-append r qs q e in
    let n : length (qs ++ (q ∷ [])) ≡ length qs + 1 = length-append qs (q ∷ []) in
    rw (lt-ltb (length qs) most_pairs u) (free (qs ++ (q ∷ [])) n a u))
  where
    full : (ys zs : List Pair) → length ys ≡ length zs + 1 → weak r ys ≡ weak r zs → 1 + length zs ≡ length qs
        → 1 + weak r zs ≡ weak r qs
        → 0 < most_pairs - length qs + weak r qs
        → most_pairs - length ys + weak r ys ≡ most_pairs - length qs + weak r qs - 1
    full ys zs n a l w g = omega arith

    free : (ys : List Pair) → length ys ≡ length qs + 1 → weak r ys ≡ weak r qs → length qs < most_pairs
        → most_pairs - length ys + weak r ys ≡ most_pairs - length qs + weak r qs - 1
    free ys n a u = omega arith

-- the pairs of a handle and a device keep an RSSI's level: none of them goes for a start at it
abbrev pub Kept : ℕ → ℕ → List ℕ → List Pair → Type 0
Kept r h d qs = All (λ (q : Pair). is_pair h d q ≡ true → level q.kept ≡ level r) qs

without-holds : (r h k : ℕ) (d : List ℕ) (qs : List Pair) → Kept r h d qs → level k < level r
    → holds (without k qs) h d ≡ holds qs h d
unfolding holds without some_of pick
without-holds r h k d [] a b = refl
without-holds r h k d (q ∷ qs) a b = go (keeps k q) refl (without-holds r h k d qs a.1 b)
  where
    miss : keeps k q ≡ true → (t : Bool) → is_pair h d q ≡ t → t ≡ false
    miss p true e =
        let l : level q.kept ≡ level k = eqb-true (level q.kept) (level k) (sym (keeps-level k q) ∙ p) in
        let m : level q.kept ≡ level r = a.0 e in
        absurd (omega arith)
    miss p false e = refl

    go : (t : Bool) → keeps k q ≡ t → some_of (is_pair h d) (without k qs) ≡ some_of (is_pair h d) qs
        → some_of (is_pair h d) (pick t qs (q ∷ without k qs)) ≡ (is_pair h d q || some_of (is_pair h d) qs)
    go true p ih = sym (ap (λ (t : Bool). t || some_of (is_pair h d) qs) (miss p (is_pair h d q) refl))
    go false p ih = ap (λ (t : Bool). is_pair h d q || t) ih

stays-holds : (r h : ℕ) (d : List ℕ) (qs : List Pair) → Kept r h d qs → fits r qs ≡ true
    → holds (stays_for r qs) h d ≡ holds qs h d
unfolding stays_for fits pick
stays-holds r h d qs a f = go (has_room qs) f
  where
    go : (t : Bool) → (t || lt_z (d_bm (least r qs)) (d_bm r)) ≡ true
        → holds (pick t qs (without (least r qs) qs)) h d ≡ holds qs h d
    go true e = refl
    go false e = without-holds r h (least r qs) d qs a
        (ltb-true (level (least r qs)) (level r) (sym (below-levels (least r qs) r) ∙ e))

stays-kept : (P : Pair → Type 0) (r : ℕ) (qs : List Pair) → All P qs → All P (stays_for r qs)
unfolding stays_for pick
stays-kept P r qs a = go (has_room qs)
  where
    go : (t : Bool) → All P (pick t qs (without (least r qs) qs))
    go true = a
    go false = without_all P (least r qs) qs a

-- one more pair, which is another handle's
holds-last : (d : List ℕ) (l : List Pair) (x : Pair) (h : ℕ) → is_pair h d x ≡ false
    → holds (l ++ (x ∷ [])) h d ≡ holds l h d
unfolding holds some_of
holds-last d l x h e =
    some-append (is_pair h d) l (x ∷ []) ∙ ap (λ (t : Bool). some_of (is_pair h d) l || (t || false)) e
    ∙ or-none (some_of (is_pair h d) l)

one_more : pick {A = ℕ} true 1 0 ≡ 1
unfolding pick
one_more = refl

minus-none : (n : ℕ) → n - pick false 1 0 ≡ n
unfolding pick
minus-none n = omega arith

module _ (mons : List (ℕ × Monitor)) (p : Packet) (qs : List Pair)
    (own : (h : ℕ) → opens (mark (find mons h) p) ≡ true → Kept p.rssi h (device_of p) qs) where
  abbrev octet : ℕ → ℕ
  octet h = mark (find mons h) p

  abbrev T : ℕ → List Pair
  T n = turns mons p n qs

  turns_more : (n : ℕ) → T (suc n) ≡ after (octet n) n p (T n)
  unfolding turns
  turns_more n = turn-after (find mons n) p n (T n)

  -- pairs of later handles stay
  record Stays (n h : ℕ) : Type 0 where
    same : holds (T n) h (device_of p) ≡ holds qs h (device_of p)
    kept : Kept p.rssi h (device_of p) (T n)

  other-pair : (a n h : ℕ) → n < h → is_pair h (device_of p) (started a n p) ≡ false
  unfolding is_pair started start_like
  other-pair a n h b = rw (ne_eqb n h (λ e. omega arith))

  after-yes : (n : ℕ) → starts (octet n) n p (T n) ≡ true
      → T (suc n) ≡ stays_for p.rssi (T n) ++ (started (octet n) n p ∷ [])
  unfolding after pick
  after-yes n e = turns_more n ∙ rw e

  after-no : (n : ℕ) → starts (octet n) n p (T n) ≡ false → T (suc n) ≡ T n
  unfolding after pick
  after-no n e = turns_more n ∙ rw e

  starts_fit : (a n : ℕ) (l : List Pair) → starts a n p l ≡ true → fits p.rssi l ≡ true
  unfolding starts
  starts_fit a n l e =
      and_right (not (holds l n (device_of p))) (fits p.rssi l)
      (and_right (opens a) (not (holds l n (device_of p)) && fits p.rssi l) e)

  new-kept : (a n : ℕ) → level (started a n p).kept ≡ level p.rssi
  unfolding started start_like
  new-kept a n = refl

  stays : (n h : ℕ) → n ≤ h → opens (octet h) ≡ true → Stays n h
  unfolding turns
  stays zero h b o = record { same = refl; kept = own h o }
  stays (suc n) h b o = go (starts (octet n) n p (T n)) refl (stays n h (omega arith) o)
    where
      x : Pair
      x = started (octet n) n p

      go : (t : Bool) → starts (octet n) n p (T n) ≡ t → Stays n h → Stays (suc n) h
      go true e i =
          let l : List Pair = stays_for p.rssi (T n) in
          let q : T (suc n) ≡ l ++ (x ∷ []) = after-yes n e in
          let f : fits p.rssi (T n) ≡ true = starts_fit (octet n) n (T n) e in
          record {
            same = ap (λ (k : List Pair). holds k h (device_of p)) q
                ∙ holds-last (device_of p) l x h (other-pair (octet n) n h (omega arith))
                ∙ stays-holds p.rssi h (device_of p) (T n) i.kept f ∙ i.same;
            kept = subst (Kept p.rssi h (device_of p)) (sym q)
                (all_append (λ (k : Pair). is_pair h (device_of p) k ≡ true → level k.kept ≡ level p.rssi) l
                (x ∷ [])
                (stays-kept (λ (k : Pair). is_pair h (device_of p) k ≡ true → level k.kept ≡ level p.rssi)
                p.rssi (T n) i.kept)
                (λ _. new-kept (octet n) n, tt));
          }
      go false e i =
          let q : T (suc n) ≡ T n = after-no n e in
          record {
            same = ap (λ (k : List Pair). holds k h (device_of p)) q ∙ i.same;
            kept = subst (Kept p.rssi h (device_of p)) (sym q) i.kept;
          }

  -- each handle's turn, by what is left
  starts_by : (n left : ℕ) → room p.rssi (T n) ≡ left
      → starts (octet n) n p (T n) ≡ begun (octet n) (holds qs n (device_of p)) left
  unfolding starts begun
  starts_by n left e = go (opens (octet n)) refl
    where
      go : (t : Bool) → opens (octet n) ≡ t
          → (t && (not (holds (T n) n (device_of p)) && fits p.rssi (T n)))
          ≡ (t && (not (holds qs n (device_of p)) && ltb 0 left))
      go true o =
          ap₂ (λ (u v : Bool). not u && v) (stays n n (omega arith) o).same (fits-room p.rssi (T n) ∙ ap (ltb 0) e)
      go false o = refl

  pub room-left : (n : ℕ) → room p.rssi (T n) ≡ left_of mons p qs n
  unfolding left_of turns
  room-left zero = refl
  room-left (suc n) =
      go (starts (octet n) n p (T n)) refl (starts_by n (left_of mons p qs n) (room-left n)) (room-left n)
    where
      go : (t : Bool) → starts (octet n) n p (T n) ≡ t
          → starts (octet n) n p (T n) ≡ begun (octet n) (holds qs n (device_of p)) (left_of mons p qs n)
          → room p.rssi (T n) ≡ left_of mons p qs n
          → room p.rssi (T (suc n))
          ≡ left_of mons p qs n - pick (begun (octet n) (holds qs n (device_of p)) (left_of mons p qs n)) 1 0
      go true e b r =
          let c = ap (λ (t : Bool). left_of mons p qs n - pick t 1 0) (sym b ∙ e) in
          ap (room p.rssi) (after-yes n e)
          ∙ room-start p.rssi (T n) (started (octet n) n p) (new-kept (octet n) n) (starts_fit (octet n) n (T n) e)
          ∙ ap (λ (k : ℕ). k - 1) r ∙ ap (λ (k : ℕ). left_of mons p qs n - k) (sym one_more) ∙ sym c
      go false e b r =
          let c = ap (λ (t : Bool). left_of mons p qs n - pick t 1 0) (sym b ∙ e) in
          let z : left_of mons p qs n - pick false 1 0 ≡ left_of mons p qs n = minus-none (left_of mons p qs n) in
          ap (room p.rssi) (after-no n e) ∙ r ∙ sym z ∙ sym c

  pub turn-starts : (n : ℕ)
      → starts (octet n) n p (T n) ≡ begun (octet n) (holds qs n (device_of p)) (left_of mons p qs n)
  turn-starts n = starts_by n (left_of mons p qs n) (room-left n)
