-- Laws of the definitions in Either.
use Rattle.std.specs.Prelude.{◌≡◌, ℕ, suc, ◌+◌, ◌-◌, ◌<◌, ◌≤◌, Bool, true, false, ◌||◌, List, [], ◌∷◌, length, take, drop, ◌≢◌, nat_lt, refl}
use Rattle.std.proofs.Common.{sym, ap, subst, ◌∙◌, arith, length-drop, length-take-le, drop-drop, take_all}
use Rattle.std.proofs.lemmas.Bool.{false≢true}
use borrow.Author.Tests.{lt-ltb, le-ltb}
use Rattle.std.proofs.Math.Seq.{take-nil}
use Rattle.laws.specs.Loops.{some}
use Rattle.laws.specs.LoopsLaws.{some-step, some-stop, some-nil}
use Rattle.laws.specs.Tests.{pick}
use Rattle.laws.specs.TestsLaws.{cases_eq, cases-le}
use Rattle.advert.specs.Sections.{sections, walk_cost, Lookup}
use Rattle.advert.specs.SectionsLaws.{contents-end, walk_end}
use Rattle.advert.specs.Either.{text_of, both, left, rest, cost_left, Handed}

pub text-second : {second : Bool} (adv scan : List ℕ) → second ≡ true → text_of second adv scan ≡ scan
unfolding text_of pick
text-second adv scan e = rw e

pub text-first : {second : Bool} (adv scan : List ℕ) → second ≡ false → text_of second adv scan ≡ adv
unfolding text_of pick
text-first adv scan e = rw e

-- what the lookup finds from a place on: the content of a section, in the text of `second'` from index `from` on, to
-- before index `to`; `seen` AD types were looked at
pub record Found (t u : ℕ) (adv scan : List ℕ) (second : Bool) (at : ℕ) (found : Bool) (seen : ℕ) (second' : Bool)
    (from to : ℕ) : Type 0 where
  pub none : found ≡ false → left t u adv scan second at ≡ []
  pub low : found ≡ true → 0 < from
  pub order : found ≡ true → from ≤ to
  pub high : found ≡ true → to ≤ length (text_of second' adv scan)
  pub more : found ≡ true → left t u adv scan second at ≡ take (to - from) (drop from (text_of second' adv scan))
      ∷ left t u adv scan second' to
  pub less : found ≡ true → seen + (to - from) + rest adv scan second' to < rest adv scan second at
  pub few : found ≡ false → seen ≤ rest adv scan second at
  pub pass : found ≡ false → (cost : List ℕ → ℕ) (hit : List ℕ → Bool)
      → cost_left t u cost hit adv scan second at ≡ seen
  pub meet : found ≡ true → (cost : List ℕ → ℕ) (hit : List ℕ → Bool)
      → cost_left t u cost hit adv scan second at
      ≡ seen + (cost (take (to - from) (drop from (text_of second' adv scan)))
      + pick (hit (take (to - from) (drop from (text_of second' adv scan)))) 0
      (cost_left t u cost hit adv scan second' to))

module _ (t u : ℕ) (adv scan : List ℕ) (at : ℕ) where
  -- in the advertisement
  pub found_first : {b : Bool} (seen from to : ℕ) → b ≡ true → Lookup t u adv at b seen from to → {second : Bool}
      → second ≡ false
      → Found t u adv scan second at true seen false from to
  unfolding left text_of rest cost_left pick
  found_first seen from to y p z = rw z record {
    none = λ z. absurd (false≢true (sym z));
    low = λ _. omega (arith, p.low y);
    order = λ _. p.order y;
    high = λ _. p.high y;
    more = λ _. rw (p.more y);
    less = λ _. omega (arith, p.low y, p.order y, p.high y);
    few = λ z. absurd (false≢true (sym z));
    pass = λ z. absurd (false≢true (sym z));
    meet = λ _ c h. p.meet y c h _;
  }

  -- in the scan response, where the advertisement has none from there on
  pub found-second : {b : Bool} (found : Bool) (seen more from to : ℕ) {k l : ℕ} → at ≤ length adv → b ≡ false
      → Lookup t u adv at b seen k l
      → Lookup t u scan 0 found more from to → {second : Bool} → second ≡ false
      → Found t u adv scan second at found (seen + more) true from to
  unfolding left text_of rest cost_left pick
  found-second found seen more from to m y n p z = rw z record {
    none = λ e. rw (n.none y) (p.none e);
    low = λ e. omega (arith, p.low e);
    order = p.order;
    high = p.high;
    more = λ e. rw (n.none y) (p.more e);
    less = λ e. omega (arith, n.few y, p.low e, p.order e, p.high e);
    few = λ e. omega (arith, n.few y, p.few e);
    pass = λ e c h. let v = n.pass y c h (walk_cost t u c h 0 (sections scan)) in let w =
        p.pass e c h 0 in omega arith;
    meet = λ e c h. let v = n.pass y c h (walk_cost t u c h 0 (sections scan)) in let w =
        p.meet e c h 0 in omega arith;
  }

  pub found-there : (found : Bool) (seen from to : ℕ) → Lookup t u scan at found seen from to → {second : Bool}
      → second ≡ true
      → Found t u adv scan second at found seen true from to
  unfolding left text_of rest cost_left pick
  found-there found seen from to p z = rw z record {
    none = p.none;
    low = λ e. omega (arith, p.low e);
    order = p.order;
    high = p.high;
    more = p.more;
    less = λ e. omega (arith, p.low e, p.order e, p.high e);
    few = λ e. omega (arith, p.few e);
    pass = λ e c h. let w = p.pass e c h 0 in omega arith;
    meet = λ e c h. p.meet e c h 0;
  }

-- in the text of the place, whichever it is
pub found_here : (t u : ℕ) (adv scan : List ℕ) (second : Bool) (at : ℕ) {b : Bool} (seen from to : ℕ) → b ≡ true
    → Lookup t u (text_of second adv scan) at b seen from to → Found t u adv scan second at true seen second from to
unfolding text_of pick
found_here t u adv scan true at {b} seen from to y p =
    found-there t u adv scan at true seen from to (subst (λ c. Lookup t u scan at c seen from to) y p) refl
found_here t u adv scan false at seen from to y p = found_first t u adv scan at seen from to y p refl

empty : (l : List ℕ) → length l ≡ 0 → l ≡ []
empty [] e = refl
empty (x ∷ l) e = absurd (omega arith)

drop-take-one : (k : ℕ) (l : List ℕ) → drop 1 (take (suc k) l) ≡ take k (drop 1 l)
drop-take-one k [] = sym (take-nil k)
drop-take-one k (x ∷ l) = refl

-- a section without its AD type octet is its content
content : (from to : ℕ) (y : List ℕ) → 0 < from → from ≤ to
    → drop 1 (take (to - (from - 1)) (drop (from - 1) y)) ≡ take (to - from) (drop from y)
content from to y h k =
    let n : to - (from - 1) ≡ suc (to - from) = omega arith in let m : from - 1 + 1 ≡ from = omega arith in
    rw n (drop-take-one (to - from) (drop (from - 1) y)
    ∙ ap (take (to - from)) (drop-drop 1 (from - 1) y ∙ ap (λ (j : ℕ). drop j y) m))

module _ (t u : ℕ) (adv scan : List ℕ) (second : Bool) (at : ℕ) {found second' : Bool} {seen from to : ℕ}
    (p : Found t u adv scan second at found seen second' from to) where
  pub handed-none : {part : List ℕ} → at ≤ length (text_of second adv scan) → found ≡ false → length part ≡ 0
      → Handed t u adv scan second at second at seen part
  handed-none {part} h e q = record {
    none = λ _. p.none e;
    high = h;
    here = empty part q ∙ sym (ap (λ (n : ℕ). take n (drop (at - length part) (text_of second adv scan))) q);
    more = λ z. absurd (z q);
    less = λ z. absurd (z q);
    few = λ _. p.few e;
    pass = λ _. p.pass e;
    meet = λ z. absurd (z q);
  }

  pub handed : {part : List ℕ} → found ≡ true
      → part ≡ take (to - (from - 1)) (drop (from - 1) (text_of second' adv scan))
      → Handed t u adv scan second at second' to seen part
  handed {part} e q =
      let y = text_of second' adv scan in
      let n : length part ≡ to - (from - 1) =
      ap length q ∙ length-take-le (to - (from - 1)) (drop (from - 1) y) (simp length-drop (omega
      (arith, p.low e, p.order e, p.high e))) in
      let m : to - (to - (from - 1)) ≡ from - 1 = omega (arith, p.low e, p.order e) in
      let some_left : length part ≡ 0 → ⊥ = λ z. omega (arith, p.low e, p.order e) in
      let k : drop 1 part ≡ take (to - from) (drop from y) =
      ap (drop 1) q ∙ content from to y (p.low e) (p.order e) in
      record {
        none = λ z. absurd (some_left z);
        high = p.high e;
        here = rw (n, m) q;
        more = λ _. rw k (p.more e);
        less = λ _. omega (arith, p.less e, p.low e, p.order e);
        few = λ z. absurd (some_left z);
        pass = λ z. absurd (some_left z);
        meet = λ _ c h. rw k (p.meet e c h);
      }

-- no more AD types are looked at than octets are left
-- a part that was found is not empty
pub part_some : (xs : List ℕ) (from to : ℕ) → 0 < from → from ≤ to → to ≤ length xs
    → length (take (to - (from - 1)) (drop (from - 1) xs)) ≢ 0
part_some xs from to l o h =
    let m : length (take (to - (from - 1)) (drop (from - 1) xs)) ≡ to - (from - 1) =
    length-take-le (to - (from - 1)) (drop (from - 1) xs) (simp length-drop (omega arith)) in
    λ z. omega arith

pub seen_most : {t u : ℕ} {adv scan : List ℕ} {second : Bool} {at : ℕ} {second' : Bool} {to seen : ℕ} {part : List ℕ}
    → Handed t u adv scan second at second' to seen part → seen ≤ rest adv scan second at
seen_most {part = part} p = cases_eq (length part) 0 (λ e. p.few e) (λ n. omega (arith, p.less n))

pub rest_all : (adv scan : List ℕ) → rest adv scan false 0 ≡ length adv + length scan
unfolding rest pick
rest_all adv scan = omega arith

-- no octets left at a place: no section, and nothing to pay
module _ (t u : ℕ) (adv scan : List ℕ) where
  pub left-none : (second : Bool) (at : ℕ) → rest adv scan second at ≡ 0 → left t u adv scan second at ≡ []
  unfolding left rest pick
  left-none true at h = contents-end t u scan at (omega arith)
  left-none false at h = rw (contents-end t u adv at (omega arith)) (contents-end t u scan 0 (omega arith))

  pub cost-none : (cost : List ℕ → ℕ) (hit : List ℕ → Bool) (second : Bool) (at : ℕ) → rest adv scan second at ≡ 0
      → cost_left t u cost hit adv scan second at ≡ 0
  unfolding cost_left rest pick
  cost-none c h true at z = walk_end t u c h 0 scan at (omega arith)
  cost-none c h false at z = walk_end t u c h _ adv at (omega arith) ∙ walk_end t u c h 0 scan 0 (omega arith)

-- what says that no octets are left
module _ (adv scan : List ℕ) {second : Bool} (at : ℕ) where
  pub none-second : second ≡ true → nat_lt at (length scan) ≡ false → rest adv scan second at ≡ 0
  unfolding rest pick
  none-second z e = rw z (cases-le (length scan) at (λ (h : length scan ≤ at). omega arith)
      (λ (h : at < length scan). absurd (false≢true (sym e ∙ lt-ltb at (length scan) h))))

  pub none_first : second ≡ false → (nat_lt at (length adv) || nat_lt 0 (length scan)) ≡ false → rest adv scan second at ≡ 0
  unfolding rest pick
  none_first z e =
      rw z (cases-le (length adv) at
      (λ (h : length adv ≤ at). cases-le (length scan) 0 (λ (k : length scan ≤ 0). omega arith)
      (λ (k : 0 < length scan). absurd
      (false≢true (sym (rw (le-ltb at (length adv) h, lt-ltb 0 (length scan) k) at e)))))
      (λ (h : at < length adv). absurd (false≢true (sym (rw (lt-ltb at (length adv) h) at e)))))

pub left-all : (t u : ℕ) (adv scan : List ℕ) → left t u adv scan false 0 ≡ both t u adv scan
unfolding left both pick
left-all t u adv scan = refl

-- `&part[1..]`, as the code takes it
tail-is : (part : List ℕ) → take (length part - 1) (drop 1 part) ≡ drop 1 part
tail-is part = take_all (length part - 1) (drop 1 part) (simp length-drop (omega arith))

-- the loop's end where no octets are left
pub tried-done : (f : List ℕ → Bool) (t u : ℕ) (adv scan : List ℕ) (second : Bool) (at : ℕ) {r : Bool}
    → r ≡ some f (left t u adv scan second at) → rest adv scan second at ≡ 0 → false ≡ r
tried-done f t u adv scan second at q h = sym (q ∙ ap (some f) (left-none t u adv scan second at h) ∙ some-nil f)

-- the turns of a loop that tries each section handed back: r is the answer, and what is left at the place has it too
module _ (f : List ℕ → Bool) (t u : ℕ) (adv scan : List ℕ) (second : Bool) (at : ℕ) {r : Bool}
    (q : r ≡ some f (left t u adv scan second at)) {second' : Bool} {to seen : ℕ} {part : List ℕ}
    (p : Handed t u adv scan second at second' to seen part) where
  pub tried-none : length part ≡ 0 → false ≡ r
  tried-none e = sym (q ∙ ap (some f) (p.none e) ∙ some-nil f)

  pub tried-hit : (length part ≢ 0) → f (take (length part - 1) (drop 1 part)) ≡ true → true ≡ r
  tried-hit e y = sym
      (q ∙ ap (some f) (p.more e) ∙ some-stop f (drop 1 part) (left t u adv scan second' to) (rw (tail-is part) at y))

  pub tried-miss : (length part ≢ 0) → f (take (length part - 1) (drop 1 part)) ≡ false
      → r ≡ some f (left t u adv scan second' to)
  tried-miss e y =
      q ∙ ap (some f) (p.more e) ∙ some-step f (drop 1 part) (left t u adv scan second' to) (rw (tail-is part) at y)
