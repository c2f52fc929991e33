-- The laws of the starts that the code keeps: one more behind the others, those that pass a test, all but one, the
-- first of the smallest. Assumes nothing.
use Rattle.std.specs.Prelude.{◌≡◌, ℕ, zero, suc, ◌+◌, ◌-◌, ◌<◌, ◌≤◌, Bool, true, false, not, ◌==◌, List, [], ◌∷◌, ◌++◌, length, take, drop, nat_lt, slice_index_or, slice_set, refl}
use Rattle.std.proofs.Common.{sym, ◌∙◌, append-nil, add-one, arith, eq-eqb, ne_eqb, le-ltb, lt-ltb, length-set, length-append, length-drop, take_all, take-suc, take-suc-set, drop-cons}
use Rattle.std.proofs.Math.Path.{ap}
use Rattle.std.proofs.Math.Seq.{length-take-le, get_or-take}
use Rattle.std.proofs.lemmas.List.{take-append-le}
use Rattle.std.proofs.Math.ListN
use Rattle.laws.specs.Tests.{pick}
use Rattle.laws.specs.TestsLaws.{cases-le, cases_eq}
use Rattle.laws.specs.Loops.{keep, only, some as some_of}
use Rattle.laws.specs.LoopsLaws.{keep-take}
use Rattle.rule.specs.Base.{All}
use Rattle.model.specs.Layout.{most_pairs}
use Rattle.twin.specs.declared.watch.Begun.{Begun}
use Rattle.twin.specs.declared.watch.Seen.{Seen}
use Rattle.twin.specs.Seen.{Held, Least, Rest, bare, begun_at, but_at, list_of, no_begun, of_other, pushed}

module _ {A : Type 0} where
  pub all_get_d : (P : A → Type 0) (l : List A) (i : ℕ) (d : A) → All P l → i < length l → P (slice_index_or l i d)
  all_get_d P [] i d a h = absurd (omega arith)
  all_get_d P (x ∷ l) zero d a h = a.0
  all_get_d P (x ∷ l) (suc i) d a h = all_get_d P l i d a.1 (omega arith)

module _ (s : Seen) (v : Held s) where
  pub list_length : length (list_of s) ≡ s.count
  unfolding list_of
  list_length =
      let q : length s.starts ≡ most_pairs = v.size in
      let f : s.count ≤ most_pairs = v.few in
      length-take-le s.count s.starts (omega arith)

  pub list_at : (i : ℕ) → i < s.count → slice_index_or (list_of s) i no_begun ≡ begun_at s i
  unfolding list_of begun_at
  list_at i h = get_or-take s.count s.starts i no_begun h

  pub all-at : (P : Begun → Type 0) (i : ℕ) → All P (list_of s) → i < s.count → P (begun_at s i)
  all-at P i a h =
      let n : length (list_of s) ≡ s.count = list_length in
      rw (list_at i h) at (all_get_d P (list_of s) i no_begun a (omega arith))

  pub below-pairs : (i : ℕ) → i < s.count → i < most_pairs
  below-pairs i h = let f : s.count ≤ most_pairs = v.few in omega arith

-- one more
push-list : (s : Seen) (b : Begun) → s.count < length s.starts → list_of (pushed s b) ≡ list_of s ++ (b ∷ [])
unfolding list_of pushed
push-list s b h =
    ap (λ (n : ℕ). take n (slice_set s.starts s.count b)) (add-one s.count)
    ∙ take-suc-set s.starts s.count b h

pub rest-push : (s r : Seen) (l : List Begun) (b : Begun) → Rest s l r → r.count < most_pairs
    → Rest s (l ++ (b ∷ [])) (pushed r b)
unfolding pushed
rest-push s r l b x h =
    let q : length r.starts ≡ most_pairs = x.held.size in
    record {
      held = record { size = length-set r.starts r.count b ∙ q; names = x.held.names; few = omega arith };
      list = push-list r b (omega arith) ∙ ap (λ (m : List Begun). m ++ (b ∷ [])) x.list;
      live = x.live;
      filter = x.filter;
    }

pub rest-bare : (s r : Seen) → Held s → r ≡ bare s → Rest s [] r
unfolding bare list_of
rest-bare s r v e =
    rw e (record {
      held = record { size = v.size; names = v.names; few = omega arith };
      list = refl;
      live = refl;
      filter = refl;
    })

pub rest-whole : (s : Seen) → Held s → Rest s (list_of s) s
rest-whole s v = record { held = v; list = refl; live = refl; filter = refl }

rest-count : (s r : Seen) (l : List Begun) → Rest s l r → r.count ≡ length l
rest-count s r l x = sym (list_length r x.held) ∙ ap length x.list

pub rest-room : (s r : Seen) (l : List Begun) → Rest s l r → length l < most_pairs → r.count < most_pairs
rest-room s r l x h = let n : r.count ≡ length l = rest-count s r l x in omega arith

-- those of a list that pass a test, as far as a loop has come
pub record Passed (P : Begun → Bool → Type 0) (s : Seen) (l : List Begun) (r : Seen) : Type 0 where
  pub rest : Rest s (list_of r) r
  pub few : r.count ≤ length l
  pub is : (f : Begun → Bool) → ((b : Begun) (o : Bool) → P b o → o ≡ f b) → list_of r ≡ keep f l

pub passed_none : (P : Begun → Bool → Type 0) (s r : Seen) → Held s → r ≡ bare s → Passed P s [] r
unfolding keep
passed_none P s r v e =
    let x : Rest s [] r = rest-bare s r v e in
    let n : r.count ≡ 0 = rest-count s r [] x in
    record {
      rest = record { held = x.held; list = refl; live = x.live; filter = x.filter };
      few = omega arith;
      is = λ f k. x.list;
    }

-- one more start looked at
module _ (P : Begun → Bool → Type 0) (s r : Seen) (l : List Begun) (i : ℕ) (h : i < length l)
    (x : Passed P s (take i l) r) where
  pub passed-room : length l ≤ most_pairs → r.count < most_pairs
  passed-room m =
      let n : r.count ≤ length (take i l) = x.few in
      let d : length (take i l) ≡ i = length-take-le i l (omega arith) in
      omega arith

  passed-more : take (i + 1) l ≡ take i l ++ (slice_index_or l i no_begun ∷ [])
  passed-more = rw (add-one i) (take-suc l i no_begun h)

  keep-more : (f : Begun → Bool) → keep f (take (i + 1) l)
      ≡ keep f (take i l) ++ only (f (slice_index_or l i no_begun)) (slice_index_or l i no_begun)
  keep-more f = keep-take f l i no_begun h

  longer : length (take i l) < length (take (i + 1) l)
  longer =
      let d : length (take i l) ≡ i = length-take-le i l (omega arith) in
      let e : length (take (i + 1) l) ≡ i + 1 = length-take-le (i + 1) l (omega arith) in
      omega arith

  pub passed-on : (r' : Seen) → length l ≤ most_pairs → P (slice_index_or l i no_begun) true
      → r' ≡ pushed r (slice_index_or l i no_begun)
      → Passed P s (take (i + 1) l) r'
  unfolding only pushed
  passed-on r' m p q =
      let b : Begun = slice_index_or l i no_begun in
      let y : Rest s (list_of r ++ (b ∷ [])) r' = rw q (rest-push s r (list_of r) b x.rest (passed-room m)) in
      let n : r.count ≤ length (take i l) = x.few in
      let c : r'.count ≡ r.count + 1 = ap (λ (u : Seen). u.count) q in
      record {
        rest = record { held = y.held; list = refl; live = y.live; filter = y.filter };
        few = let g = longer in omega arith;
        is = λ f k. y.list ∙ ap (λ (u : List Begun). u ++ (b ∷ [])) (x.is f k)
            ∙ sym (keep-more f ∙ ap (λ (o : Bool). keep f (take i l) ++ only o b) (sym (k b true p)));
      }

  pub passed-off : P (slice_index_or l i no_begun) false → Passed P s (take (i + 1) l) r
  unfolding only
  passed-off p =
      let b : Begun = slice_index_or l i no_begun in
      let n : r.count ≤ length (take i l) = x.few in
      record {
        rest = x.rest;
        few = let g = longer in omega arith;
        is = λ f k. x.is f k
            ∙ sym (keep-more f ∙ ap (λ (o : Bool). keep f (take i l) ++ only o b) (sym (k b false p))
            ∙ append-nil (keep f (take i l)));
      }

pub passed-end : (P : Begun → Bool → Type 0) (s r : Seen) (l : List Begun) (i : ℕ) → l ≡ list_of s → length l ≤ i
    → Passed P s (take i l) r → (f : Begun → Bool) → ((b : Begun) (o : Bool) → P b o → o ≡ f b)
    → Rest s (keep f (list_of s)) r
passed-end P s r l i e h x f k =
    record {
      held = x.rest.held;
      list = x.is f k ∙ ap (keep f) (take_all i l h ∙ e);
      live = x.rest.live;
      filter = x.rest.filter;
    }

-- all but one
but-most : (g : ℕ) (l : List Begun) → length (but_at g l) ≤ length l
unfolding but_at
but-most g [] = omega arith
but-most zero (b ∷ l) = omega arith
but-most (suc g) (b ∷ l) = let h : length (but_at g l) ≤ length l = but-most g l in omega arith

pub but-less : (g : ℕ) (l : List Begun) → g < length l → length (but_at g l) < length l
unfolding but_at
but-less g [] h = absurd (omega arith)
but-less zero (b ∷ l) h = omega arith
but-less (suc g) (b ∷ l) h = let k : length (but_at g l) < length l = but-less g l (omega arith) in omega arith

pub but-all : (P : Begun → Type 0) (g : ℕ) (l : List Begun) → All P l → All P (but_at g l)
unfolding but_at
but-all P g [] a = tt
but-all P zero (b ∷ l) a = a.1
but-all P (suc g) (b ∷ l) a = (a.0, but-all P g l a.1)

-- the others moved down one place
but-cut : (g n : ℕ) (l : List Begun) → g < n → n ≤ length l
    → but_at g (take n l) ≡ take g l ++ take (n - (g + 1)) (drop (g + 1) l)
unfolding but_at
but-cut g zero l h k = absurd (omega arith)
but-cut g (suc n) [] h k = absurd (omega arith)
but-cut zero (suc n) (b ∷ l) h k = let z : suc n - (0 + 1) ≡ n = omega arith in ap (λ (j : ℕ). take j l) (sym z)
but-cut (suc g) (suc n) (b ∷ l) h k =
    let z : suc n - (suc g + 1) ≡ n - (g + 1) = omega arith in
    let y : suc g + 1 ≡ suc (g + 1) = omega arith in
    rw (z, y) (ap (λ (m : List Begun). b ∷ m) (but-cut g n l (omega arith) (omega arith)))

pub but-moved : (s r : Seen) (g : ℕ) {x : List Begun} → Held s → g < s.count
    → x ≡ (take g s.starts ++ take (s.count - (g + 1)) (drop (g + 1) s.starts)) ++ drop (g + (s.count - (g + 1))) s.starts
    → length x ≡ length s.starts
    → r ≡ record { starts = x; count = s.count - 1; live = s.live; filter = s.filter } → Rest s (but_at g (list_of s)) r
unfolding list_of
but-moved s r g {x} v h e z q =
    let n : length s.starts ≡ most_pairs = v.size in
    let m : s.count ≤ most_pairs = v.few in
    let a : List Begun = take g s.starts in
    let b : List Begun = take (s.count - (g + 1)) (drop (g + 1) s.starts) in
    let la : length a ≡ g = length-take-le g s.starts (omega arith) in
    let ld : length (drop (g + 1) s.starts) ≡ length s.starts - (g + 1) = length-drop (g + 1) s.starts in
    let lb : length b ≡ s.count - (g + 1) = length-take-le (s.count - (g + 1)) (drop (g + 1) s.starts) (omega arith) in
    let lc : length (a ++ b) ≡ length a + length b = length-append a b in
    let t : take (s.count - 1) x ≡ a ++ b =
    ap (take (s.count - 1)) e
    ∙ take-append-le (s.count - 1) (a ++ b) (drop (g + (s.count - (g + 1))) s.starts) (omega arith)
    ∙ take_all (s.count - 1) (a ++ b) (omega arith) in
    rw q (record {
      held = record { size = z ∙ n; names = v.names; few = omega arith };
      list = t ∙ sym (but-cut g s.count s.starts h (omega arith));
      live = refl;
      filter = refl;
    })

pub but-place : (g : ℕ) (s r : Seen) → Held s → g < s.count → Rest s (but_at g (list_of s)) r → r.count < most_pairs
but-place g s r v h x =
    let n : length (list_of s) ≡ s.count = list_length s v in
    let m : s.count ≤ most_pairs = v.few in
    let k : length (but_at g (list_of s)) < length (list_of s) = but-less g (list_of s) (omega arith) in
    rest-room s r (but_at g (list_of s)) x (omega arith)

-- whether some start passes a test: a loop's turns over the list
module _ (f : Begun → Bool) (l : List Begun) (i : ℕ) where
  rest-cons : i < length l → drop i l ≡ slice_index_or l i no_begun ∷ drop (i + 1) l
  rest-cons h = drop-cons l i no_begun h ∙ rw (add-one i)

  pub some-hit : {r : Bool} → i < length l → r ≡ f (slice_index_or l i no_begun) → r ≡ true
      → some_of f (drop i l) ≡ true
  unfolding some_of
  some-hit h e z = rw (rest-cons h, ← e, z)

  pub some-miss : {r : Bool} → i < length l → r ≡ f (slice_index_or l i no_begun) → r ≡ false
      → some_of f (drop i l) ≡ some_of f (drop (i + 1) l)
  unfolding some_of
  some-miss h e z = ap (some_of f) (rest-cons h) ∙ rw (← e, z)

  pub some_end : length l ≤ i → some_of f (drop i l) ≡ false
  unfolding some_of
  some_end h = ap (some_of f) (ListN.drop_of_length-le l {i = i} h)

-- the first of the smallest: a loop's turns
pub least-one : (f : ℕ → ℕ) → Least f 1 0
least-one f =
    record {
      within = omega arith;
      before = λ m h. absurd (omega arith);
      all = λ m h. let e : 0 ≡ m = omega arith in rw e (omega arith);
    }

pub least-turn : (f : ℕ → ℕ) (j w : ℕ) {w' : ℕ} → Least f j w → w' ≡ pick (nat_lt (f j) (f w)) j w → Least f (j + 1) w'
unfolding pick
least-turn f j w {w'} x e =
    cases-le (f w) (f j)
    (λ h. let q : w' ≡ w = e ∙ rw (le-ltb (f j) (f w) h) in rw q (stay h))
    (λ h. let q : w' ≡ j = e ∙ rw (lt-ltb (f j) (f w) h) in rw q (move h))
  where
    stay : f w ≤ f j → Least f (j + 1) w
    stay h =
        record {
          within = let k : w < j = x.within in omega arith;
          before = x.before;
          all = λ m b. cases_eq m j (λ q. rw q h) (λ n. x.all m (omega arith));
        }

    move : f j < f w → Least f (j + 1) j
    move h =
        record {
          within = omega arith;
          before = λ m b. let k : f w ≤ f m = x.all m b in omega arith;
          all = λ m b. cases_eq m j (λ q. rw q (omega arith))
              (λ n. let k : f w ≤ f m = x.all m (omega arith) in omega arith);
        }
