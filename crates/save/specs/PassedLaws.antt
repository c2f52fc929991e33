-- Laws of the definitions in Passed.
use Prim.Native.Nat.{ℕ, ◌+◌, ◌-◌, ◌≤◌, ◌<◌}
use Rattle.std.specs.Prelude.{◌≡◌, take, get_or, replicate}
use Rattle.std.proofs.Math.Path.{refl, sym, ap}
use Rattle.std.proofs.Common.{◌∙◌, zero-add, drop-drop}
use mathlib.Core.Bool.{Bool, true, false, ◌&&◌}
use mathlib.Core.List.{List, [], ◌∷◌, ◌++◌}
use native.Mathlib.Omega.{arith}
use borrow.Author.Tests.{eq-eqb, ne_eqb}
use Rattle.std.proofs.Math.Dec.{eqb}
use Rattle.std.proofs.Math.ListN.{length, drop, length-append, length-drop, drop_of_length-le}
use Rattle.std.proofs.lemmas.List.{length-replicate}
use Rattle.laws.specs.Tests.{pick, sames}
use Rattle.laws.specs.TestsLaws.{pick_true, pick-false, and_right, and-not-right, cases-le, cases_eq}
use Rattle.laws.specs.Put.{put}
use Rattle.laws.specs.PutLaws.{take_put, length-put}
use Rattle.laws.specs.Loops.{up_to}
use Rattle.laws.specs.LoopsLaws.{up_to-more}
use Rattle.octets.specs.Numbers.{at_most}
use Rattle.sessions.specs.Machine.{save_room}
use Rattle.model.specs.Layout.{block_size, count_at, most_monitors, most_pairs}
use Rattle.save.specs.Text.{monitor_text, monitor_at, monitors_text, pair_text, pair_at, pairs_text, end_text, live_below, pairs_in, rest_text}
use Rattle.save.specs.Passed.{begins, lost, passed}

-- what a text begins with, in parts
and_assoc : (a b c : Bool) → (a && (b && c)) ≡ ((a && b) && c)
and_assoc true b c = refl
and_assoc false b c = refl

pub begins-append : (a b t : List ℕ) → begins (a ++ b) t ≡ (begins a t && begins b (drop (length a) t))
unfolding begins
begins-append [] b t = refl
begins-append (x ∷ a) b [] = refl
begins-append (x ∷ a) b (y ∷ t) =
    ap (λ (k : Bool). eqb x y && k) (begins-append a b t)
    ∙ and_assoc (eqb x y) (begins a t) (begins b (drop (length a) t))

pub sames-append : (a c t : List ℕ) → sames (a ++ c) t ≡ (begins a t && sames c (drop (length a) t))
unfolding begins sames
sames-append [] c t = refl
sames-append (x ∷ a) c [] = refl
sames-append (x ∷ a) c (y ∷ t) =
    ap (λ (k : Bool). eqb x y && k) (sames-append a c t)
    ∙ and_assoc (eqb x y) (begins a t) (sames c (drop (length a) t))

begins-long : (l t : List ℕ) → begins l t ≡ true → length l ≤ length t
unfolding begins
begins-long [] t e = omega arith
begins-long (a ∷ l) [] e = absurd (mathlib.Core.Bool.false≢true e)
begins-long (a ∷ l) (b ∷ t) e = let h = begins-long l t (and_right (eqb a b) (begins l t) e) in omega arith

begins-whole : (l t : List ℕ) → sames l t ≡ (begins l t && eqb (length l) (length t))
unfolding begins sames
begins-whole [] [] = refl
begins-whole [] (b ∷ t) = sym (ne_eqb 0 (length (b ∷ t)) (λ (e : 0 ≡ length (b ∷ t)). omega arith))
begins-whole (a ∷ l) [] = refl
begins-whole (a ∷ l) (b ∷ t) =
    ap (λ (k : Bool). eqb a b && k) (begins-whole l t ∙ ap (λ (k : Bool). begins l t && k) one)
    ∙ and_assoc (eqb a b) (begins l t) (eqb (length (a ∷ l)) (length (b ∷ t)))
  where
    one : eqb (length l) (length t) ≡ eqb (length (a ∷ l)) (length (b ∷ t))
    one = cases_eq (length l) (length t)
        (λ e. eq-eqb (length l) (length t) e ∙ sym (eq-eqb (length (a ∷ l)) (length (b ∷ t)) (omega arith)))
        (λ n. ne_eqb (length l) (length t) n
        ∙ sym (ne_eqb (length (a ∷ l)) (length (b ∷ t)) (λ (e : length (a ∷ l) ≡ length (b ∷ t)). n (omega arith))))

-- .. told by the part of its length
pub begins-part : (l t : List ℕ) → length l ≤ length t → sames (take (length l) t) l ≡ begins l t
unfolding begins sames
begins-part [] t h = refl
begins-part (a ∷ l) [] h = absurd (omega arith)
begins-part (a ∷ l) (b ∷ t) h =
    ap (λ (k : Bool). eqb b a && k) (begins-part l t (omega arith)) ∙ ap (λ (k : Bool). k && begins l t) turned
  where
    turned : eqb b a ≡ eqb a b
    turned = cases_eq b a (λ e. eq-eqb b a e ∙ sym (eq-eqb a b (sym e)))
        (λ n. ne_eqb b a n ∙ sym (ne_eqb a b (λ e. n (sym e))))

pub begins-short : (l t : List ℕ) → length t < length l → begins l t ≡ false
begins-short l t h = go (begins l t) refl
  where
    go : (b : Bool) → begins l t ≡ b → b ≡ false
    go false e = refl
    go true e = let k = begins-long l t e in absurd (omega arith)

-- one line behind another
module _ (t : List ℕ) (h : length t ≤ save_room) where
  lost-stays : (l : List ℕ) → passed t lost l ≡ lost
  unfolding passed begins pick
  lost-stays l = let z : drop lost t ≡ [] =
      drop_of_length-le t {i = lost} (omega arith) in ap (λ (x : List ℕ). pick (begins l x) (lost + length l) lost) z
      ∙ go l
    where
      go : (l : List ℕ) → pick (begins l []) (lost + length l) lost ≡ lost
      go [] = refl
      go (a ∷ l) = refl

  pub none_passed : (at : ℕ) → at ≡ passed t at []
  unfolding passed begins
  none_passed at = sym (pick_true (at + 0) lost refl ∙ omega arith)

  pub passed-more : (at : ℕ) (a b : List ℕ) → passed t (passed t at a) b ≡ passed t at (a ++ b)
  unfolding passed
  passed-more at a b = go (begins a (drop at t)) refl
    where
      go : (k : Bool) → begins a (drop at t) ≡ k
          → passed t (passed t at a) b ≡ pick (begins (a ++ b) (drop at t)) (at + length (a ++ b)) lost
      go true e =
          let n : at + length a + length b ≡ at + length (a ++ b) = let m = length-append a b in omega arith in
          let d : drop (at + length a) t ≡ drop (length a) (drop at t) = sym (drop-drop (length a) at t) in
          let w : begins (a ++ b) (drop at t) ≡ begins b (drop (length a) (drop at t)) =
          begins-append a b (drop at t) ∙ ap (λ (k : Bool). k && begins b (drop (length a) (drop at t))) e in
          ap (λ (i : ℕ). passed t i b) (pick_true (at + length a) lost e)
          ∙ ap (λ (x : List ℕ). pick (begins b x) (at + length a + length b) lost) d
          ∙ ap (λ (i : ℕ). pick (begins b (drop (length a) (drop at t))) i lost) n
          ∙ ap (λ (k : Bool). pick k (at + length (a ++ b)) lost) (sym w)
      go false e =
          let w : begins (a ++ b) (drop at t) ≡ false =
          begins-append a b (drop at t) ∙ ap (λ (k : Bool). k && begins b (drop (length a) (drop at t))) e in
          ap (λ (i : ℕ). passed t i b) (pick-false (at + length a) lost e) ∙ lost-stays b
          ∙ sym (pick-false (at + length (a ++ b)) lost w)

  -- all of a text: behind its last line it ends
  pub passed-whole : (l : List ℕ) → eqb (passed t 0 l) (length t) ≡ sames l t
  unfolding passed
  passed-whole l = go (begins l t) refl
    where
      go : (k : Bool) → begins l t ≡ k → eqb (pick (begins l t) (0 + length l) lost) (length t) ≡ sames l t
      go true e =
          let z : pick (begins l t) (0 + length l) lost ≡ length l = pick_true (0 + length l) lost e ∙ omega arith in
          ap (λ (i : ℕ). eqb i (length t)) z
          ∙ sym (begins-whole l t ∙ ap (λ (k : Bool). k && eqb (length l) (length t)) e)
      go false e =
          ap (λ (i : ℕ). eqb i (length t)) (pick-false (0 + length l) lost e)
          ∙ ne_eqb lost (length t) (λ (x : lost ≡ length t). omega arith)
          ∙ sym (begins-whole l t ∙ ap (λ (k : Bool). k && eqb (length l) (length t)) e)

  -- a text in two parts: behind the first the second stands
  pub passed-rest : (a c : List ℕ) (i : ℕ) → i ≡ passed t 0 a → i ≤ length t → sames c (drop i t) ≡ sames (a ++ c) t
  unfolding passed
  passed-rest a c i q b = go (begins a t) refl
    where
      go : (k : Bool) → begins a t ≡ k → sames c (drop i t) ≡ sames (a ++ c) t
      go true e =
          let z : i ≡ length a = q ∙ pick_true (0 + length a) lost e ∙ omega arith in
          ap (λ (j : ℕ). sames c (drop j t)) z
          ∙ sym (sames-append a c t ∙ ap (λ (k : Bool). k && sames c (drop (length a) t)) e)
      go false e = let z : i ≡ lost = q ∙ pick-false (0 + length a) lost e in absurd (omega arith)

  pub passed-lost : (a c : List ℕ) (i : ℕ) → i ≡ passed t 0 a → length t < i → false ≡ sames (a ++ c) t
  unfolding passed
  passed-lost a c i q b = go (begins a t) refl
    where
      go : (k : Bool) → begins a t ≡ k → false ≡ sames (a ++ c) t
      go true e =
          let z : i ≡ length a = q ∙ pick_true (0 + length a) lost e ∙ omega arith in
          let n = begins-long a t e in absurd (omega arith)
      go false e = sym (sames-append a c t ∙ ap (λ (k : Bool). k && sames c (drop (length a) t)) e)

-- the branches of the code
module _ (t : List ℕ) (at : ℕ) (l : List ℕ) where
  pub passed_none : length t < at → length l ≡ 0 → at ≡ passed t at l
  unfolding passed begins
  passed_none h e = go l e
    where
      go : (l : List ℕ) → length l ≡ 0 → at ≡ pick (begins l (drop at t)) (at + length l) lost
      go [] e = sym (pick_true (at + 0) lost refl ∙ omega arith)
      go (a ∷ l) e = absurd (omega arith)

  pub passed-short : length t < at + length l → (length t < at → length l ≡ 0 → ⊥) → lost ≡ passed t at l
  unfolding passed
  passed-short h n =
      let d : length (drop at t) < length l =
      cases-le at (length t) (λ x. simp length-drop (omega arith))
      (λ x. cases_eq (length l) 0 (λ e. absurd (n x e)) (λ e. simp length-drop (omega arith))) in
      sym (pick-false (at + length l) lost (begins-short l (drop at t) d))

  pub passed-same : {r : Bool} → at + length l ≤ length t → r ≡ sames (take (at + length l - at) (drop at t)) l
      → pick r (at + length l) lost ≡ passed t at l
  unfolding passed
  passed-same {r} b w =
      let n : at + length l - at ≡ length l = omega arith in
      let k : r ≡ begins l (drop at t) =
      w ∙ ap (λ (i : ℕ). sames (take i (drop at t)) l) n
      ∙ begins-part l (drop at t) (simp length-drop (omega arith)) in
      ap (λ (b : Bool). pick b (at + length l) lost) k

  pub passed-there : {r : Bool} → at + length l ≤ length t → r ≡ sames (take (at + length l - at) (drop at t)) l
      → r ≡ true
      → at + length l ≡ passed t at l
  passed-there b w e = sym (pick_true (at + length l) lost e) ∙ passed-same b w

  pub passed-other : {r : Bool} → at + length l ≤ length t → r ≡ sames (take (at + length l - at) (drop at t)) l
      → r ≡ false
      → lost ≡ passed t at l
  passed-other b w e = sym (pick-false (at + length l) lost e) ∙ passed-same b w

-- a line written into a buffer of zeros, and read from it
pub record OneLine (line after : List ℕ) (n : ℕ) : Type 0 where
  pub within : n ≤ length after
  pub text : take n after ≡ line

pub one_line : (line : List ℕ) (room : ℕ) {after : List ℕ} {n : ℕ} → length line ≤ room
    → (n ≡ length line) × (after ≡ put (replicate room 0) 0 line) → OneLine line after n
one_line line room {after} {n} h p =
    let z : length {A = ℕ} (replicate room 0) ≡ room = length-replicate {A = ℕ} room 0 in
    let k : length after ≡ length {A = ℕ} (replicate room 0) =
    ap length p.1 ∙ length-put (replicate room 0) 0 line (omega arith) in
    record {
      within = let q = p.0 in omega arith;
      text = ap (λ (i : ℕ). take i after) p.0 ∙ ap (take (length line)) p.1
          ∙ take_put (replicate room 0) 0 line (omega arith);
    }

pub one-line-at : (line : List ℕ) (room : ℕ) {after : List ℕ} {n : ℕ} → length line ≤ room
    → (n ≡ 0 + length line) × (after ≡ put (replicate room 0) 0 line) → OneLine line after n
one-line-at line room h p = one_line line room h (p.0 ∙ zero-add (length line), p.1)

-- turns of the loops
module _ (t : List ℕ) (h : length t ≤ save_room) (s : List ℕ) where
  pub monitors-begin : (at : ℕ) → at ≡ passed t at (monitors_text s 0)
  unfolding monitors_text up_to
  monitors-begin at = none_passed t h at

  pub pairs-begin : (at : ℕ) → at ≡ passed t at (pairs_text s 0)
  unfolding pairs_text up_to
  pairs-begin at = none_passed t h at

  pub monitor-passed : (at i : ℕ) {next : ℕ}
      → next ≡ passed t (passed t at (monitors_text s i)) (monitor_text (monitor_at s i))
      → next ≡ passed t at (monitors_text s (i + 1))
  unfolding monitors_text
  monitor-passed at i e =
      e ∙ passed-more t h at (up_to (λ h. monitor_text (monitor_at s h)) i) (monitor_text (monitor_at s i))
      ∙ ap (passed t at) (sym (up_to-more (λ h. monitor_text (monitor_at s h)) i))

  pub pair-passed : (at i : ℕ) {next : ℕ} → next ≡ passed t (passed t at (pairs_text s i)) (pair_text (pair_at s i))
      → next ≡ passed t at (pairs_text s (i + 1))
  unfolding pairs_text
  pair-passed at i e =
      e ∙ passed-more t h at (up_to (λ i. pair_text (pair_at s i)) i) (pair_text (pair_at s i))
      ∙ ap (passed t at) (sym (up_to-more (λ i. pair_text (pair_at s i)) i))

  -- the parts of the rest
  pub rest-passed : (n u a b : ℕ) {r : ℕ} → n ≡ at_most (get_or s count_at 0) most_pairs
      → u ≡ length (live_below s most_monitors) → a ≡ passed t 0 (monitors_text s most_monitors)
      → b ≡ passed t a (pairs_text s n) → r ≡ passed t b (end_text u n) → r ≡ passed t 0 (rest_text s)
  unfolding rest_text pairs_in
  rest-passed n u a b {r} en eu ea eb er =
      let x : List ℕ = monitors_text s most_monitors in
      let y : List ℕ = pairs_text s (pairs_in s) in
      let z : List ℕ = end_text (length (live_below s most_monitors)) (pairs_in s) in
      let b1 : b ≡ passed t (passed t 0 x) y =
      eb ∙ ap (λ (i : ℕ). passed t i (pairs_text s n)) ea
      ∙ ap (λ (i : ℕ). passed t (passed t 0 x) (pairs_text s i)) en in
      er ∙ ap (λ (i : ℕ). passed t i (end_text u n)) b1
      ∙ ap (λ (i : ℕ). passed t (passed t (passed t 0 x) y) (end_text i n)) eu
      ∙ ap (λ (i : ℕ). passed t (passed t (passed t 0 x) y) (end_text (length (live_below s most_monitors)) i)) en
      ∙ ap (λ (i : ℕ). passed t i z) (passed-more t h 0 x y) ∙ passed-more t h 0 (x ++ y) z

-- what is answered of a block of any length
module _ (s : List ℕ) where
  pub head-none : (x : ℕ) → (length s ≡ block_size → ⊥) → lost ≡ pick (eqb (length s) block_size) x lost
  head-none x h = sym (pick-false x lost (ne_eqb (length s) block_size h))

  pub head-there : {x r : ℕ} → length s ≡ block_size → r ≡ x → r ≡ pick (eqb (length s) block_size) x lost
  head-there {x} h e = e ∙ sym (pick_true x lost (eq-eqb (length s) block_size h))

  pub rest-none : (b : Bool) → (length s ≡ block_size → ⊥) → false ≡ (eqb (length s) block_size && b)
  rest-none b h = sym (ap (λ (k : Bool). k && b) (ne_eqb (length s) block_size h))

  pub rest-long : (t : List ℕ) → length (rest_text s) < length t
      → false ≡ (eqb (length s) block_size && sames (rest_text s) t)
  rest-long t h = sym (and-not-right (eqb (length s) block_size) (sames (rest_text s) t)
      (go (sames (rest_text s) t) refl))
    where
      go : (b : Bool) → sames (rest_text s) t ≡ b → b ≡ false
      go false e = refl
      go true e = let n : length (rest_text s) ≡ length t =
          ap length (Rattle.laws.specs.TestsLaws.sames-eq (rest_text s) t e) in absurd (omega arith)

  pub rest-there : (t : List ℕ) (i : ℕ) → length s ≡ block_size → length t ≤ save_room → i ≡ passed t 0 (rest_text s)
      → eqb i (length t) ≡ (eqb (length s) block_size && sames (rest_text s) t)
  rest-there t i h k e =
      ap (λ (j : ℕ). eqb j (length t)) e ∙ passed-whole t k (rest_text s)
      ∙ sym (ap (λ (b : Bool). b && sames (rest_text s) t) (eq-eqb (length s) block_size h))
