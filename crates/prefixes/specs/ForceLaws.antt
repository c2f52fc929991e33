-- Laws of the definitions in Force.
use Prim.Native.Nat.{ℕ, zero, suc, ◌+◌, ◌-◌, ◌*◌, ◌≤◌, ◌<◌}
use Rattle.std.specs.Prelude.{◌≡◌, refl, List, [], ◌∷◌, ◌++◌, leb}
use Rattle.std.proofs.Math.Path.{sym, ap}
use Rattle.std.proofs.Common.{◌∙◌, zero-add, le-leb, eq-eqb, ne_eqb}
use mathlib.Core.Bool.{Bool, true, false, ◌&&◌, ◌||◌}
use native.Mathlib.Omega.{arith}
use Rattle.std.proofs.lemmas.Bool.{lt-leb, eqb-false}
use Rattle.std.proofs.Math.Dec.{eqb}
use lib.ListN.{length, take, drop, get_or, set, replicate, length-replicate}
use Rattle.laws.specs.Put.{put, put_if}
use Rattle.laws.specs.PutLaws.{put_of, put-left, set-put, put_then, length-put}
use Rattle.laws.specs.Tests.{pick}
use Rattle.laws.specs.TestsLaws.{pick_true, pick-false, and-not-left}
use Rattle.laws.specs.Loops.{some}
use Rattle.laws.specs.LoopsLaws.{some-step, some-stop, some-nil}
use Rattle.octets.specs.Numbers.{at_most}
use Rattle.model.specs.Block.{pad_to, padded}
use Rattle.model.specs.Types.{Model}
use Rattle.model.specs.Layout.{most_prefix, prefix_length_at, block_size}
use Rattle.model.specs.Sound.{sound_model}
use Rattle.blocks.specs.FactsLaws.{sound-facts}
use Rattle.blocks.specs.BlockLaws.{padded-length}
use Rattle.editions.specs.Editions.{Edition, Gateway, with_prefix, in_force, prefix_for, sound_editions, most_editions}
use Rattle.editions.proofs.FactsLaws.{prefix-fits}
use Rattle.editions.specs.Block.{edition_size, edition_block}
use Rattle.editions.proofs.BlockLaws.{editions-in}
use Rattle.steps.specs.FactsLaws.{up-to}
use Rattle.wholes.specs.Layout.{editions_at, index_size, whole_size}
use Rattle.wholes.specs.Whole.{laid_with}
use Rattle.wholes.proofs.LaidLaws.{laid-length, laid-editions}
use Rattle.wholes.specs.Heads.{prefix_size, prefix_row}
use Rattle.wholes.specs.HeadsLaws.{length-prefix_row, head-written}
use Rattle.prefixes.specs.Held.{listed, edition_count, edition_at}
use Rattle.prefixes.specs.HeldLaws.{listed-take, listed-drop, listed-all, listed-end, count_most, prefix-read, prefix-short, prefix-most}
use Rattle.prefixes.specs.Force.{InForce, enforced, begins_at, starts_at}

in-force-last : (p : List ℕ) (n : ℕ) (es : List Edition) (e : Edition)
    → in_force p n (es ++ (e ∷ [])) ≡ pick (leb e.from n) e.prefix (in_force p n es)
unfolding in_force
in-force-last p n [] e = refl
in-force-last p n (d ∷ es) e = in-force-last (pick (leb d.from n) d.prefix p) n es e

pub prefix-last : (n : ℕ) (es : List Edition) (e : Edition)
    → prefix_for n (es ++ (e ∷ [])) ≡ pick (leb e.from n) e.prefix (prefix_for n es)
unfolding prefix_for
prefix-last n es e = in-force-last [] n es e

-- the loop from behind: what is in force among the first k
module _ (s : List ℕ) (n : ℕ) where
  abbrev pub Left : ℕ → Type 0
  Left k = (k ≤ edition_count s) × (prefix_for n (listed s) ≡ prefix_for n (take k (listed s)))

  pub left-all : (k : ℕ) → k ≡ edition_count s → Left k
  left-all k e = (
    omega arith,
    ap (prefix_for n) (sym (listed-all s))
        ∙ ap (λ (j : ℕ). prefix_for n (take j (listed s))) (sym e),
  )

  module _ (k i : ℕ) (h : 0 < k) (z : i ≡ k - 1) (l : Left k) where
    last_of : prefix_for n (listed s)
        ≡ pick (leb (edition_at s i).from n) (edition_at s i).prefix (prefix_for n (take i (listed s)))
    last_of =
        let b : k ≤ edition_count s = l.0 in
        let e : k ≡ suc i = omega arith in
        l.1 ∙ ap (λ (j : ℕ). prefix_for n (take j (listed s))) e ∙ ap (prefix_for n) (listed-take s i (omega arith))
        ∙ prefix-last n (take i (listed s)) (edition_at s i)

    pub left-found : {v : ℕ} → v ≡ (edition_at s i).from → v ≤ n → InForce s n k
    left-found {v} e g =
        let b : k ≤ edition_count s = l.0 in let m = count_most s in
        record {
          most = omega arith;
          none = λ q. absurd (omega arith);
          some = λ q. last_of
              ∙ pick_true (edition_at s i).prefix (prefix_for n (take i (listed s)))
              (ap (λ (j : ℕ). leb j n) (sym e) ∙ le-leb v n g)
              ∙ ap (λ (j : ℕ). (edition_at s j).prefix) z;
        }

    pub left_less : {v : ℕ} → v ≡ (edition_at s i).from → n < v → Left i
    left_less {v} e g =
        let b : k ≤ edition_count s = l.0 in (
          omega arith,
          last_of
              ∙ pick-false (edition_at s i).prefix (prefix_for n (take i (listed s)))
              (ap (λ (j : ℕ). leb j n) (sym e) ∙ lt-leb v n g),
        )

  pub left-none : (k : ℕ) → k ≤ 0 → Left k → InForce s n 0
  unfolding prefix_for in_force
  left-none k h l =
      let e : k ≡ 0 = omega arith in
      record {
        most = omega arith;
        none = λ q. l.1 ∙ ap (λ (j : ℕ). prefix_for n (take j (listed s))) e;
        some = λ q. absurd (omega arith);
      }

-- written into zeros at their start: zeros are left behind it
drop-zeros : (m t : ℕ) → drop {A = ℕ} t (replicate m 0) ≡ replicate (m - t) 0
drop-zeros m zero = ap (λ (j : ℕ). replicate j 0) (let e : m ≡ m - 0 = omega arith in e)
drop-zeros zero (suc t) = ap (λ (j : ℕ). replicate j 0) (let e : 0 ≡ 0 - suc t = omega arith in e)
drop-zeros (suc m) (suc t) =
    drop-zeros m t ∙ ap (λ (j : ℕ). replicate j 0) (let e : m - t ≡ suc m - suc t = omega arith in e)

pub zeros-behind : (m : ℕ) (t : List ℕ) → put (replicate m 0) 0 t ≡ t ++ replicate (m - length t) 0
unfolding put
zeros-behind m t =
    ap (λ (j : ℕ). t ++ drop {A = ℕ} j (replicate m 0)) (zero-add (length t))
    ∙ ap (λ (w : List ℕ). t ++ w) (drop-zeros m (length t))

-- a prefix written into zeros with its length
pub row_written : (s : List ℕ) (i k v : ℕ) → length s ≡ whole_size → i < most_editions → k ≡ at_most v most_prefix
    → v ≡ get_or s (editions_at + edition_size * i + 4) 0
    → (z : List ℕ) {r : Bool} {l : List ℕ} (j : ℕ) → z ≡ replicate prefix_size 0 → j ≡ k
    → r ≡ leb (1 + length (take j (drop (editions_at + edition_size * i + 4 + 1) s))) (length (set z 0 k))
    → l ≡ put_if r (set z 0 k) 1 (take j (drop (editions_at + edition_size * i + 4 + 1) s))
    → l ≡ prefix_row (edition_at s i).prefix
unfolding prefix_row pad_to
row_written s i k v n b e q z {r} {l} j y w p u =
    let m = Rattle.octets.specs.NumbersLaws.at-most v most_prefix in
    let x : List ℕ = (edition_at s i).prefix in
    let a : x ≡ take j (drop (editions_at + edition_size * i + 4 + 1) s) =
    prefix-read s i n b k v e q ∙ ap (λ (t : ℕ). take t (drop (editions_at + edition_size * i + 4 + 1) s)) (sym w) in
    let c : length x ≡ k = prefix-short s i n b k v e q in
    let o : length z ≡ prefix_size = ap length y ∙ length-replicate {A = ℕ} prefix_size 0 in
    let d : set z 0 k ≡ put z 0 (k ∷ []) = set-put z 0 k (omega arith) in
    let f : length (set z 0 k) ≡ prefix_size = ap length d ∙ length-put z 0 (k ∷ []) (omega arith) ∙ o in
    let g : l ≡ put (set z 0 k) 1 x =
    put_of (set z 0 k) 1 x (length x) (length (set z 0 k))
    (p ∙ ap (λ (t : List ℕ). leb (1 + length t) (length (set z 0 k))) (sym a)) (omega arith)
    (u ∙ ap (put_if r (set z 0 k) 1) (sym a)) in
    let h : l ≡ put z 0 (k ∷ x) = put_then z 0 (k ∷ []) 1 x (omega arith) d refl g refl in
    h ∙ ap (λ (t : List ℕ). put t 0 (k ∷ x)) y ∙ zeros-behind prefix_size (k ∷ x)
    ∙ ap (λ (t : ℕ). (t ∷ x) ++ replicate (prefix_size - suc (length x)) 0) (sym c)
    ∙ ap (λ (t : ℕ). length x ∷ (x ++ replicate t 0))
    (let y : prefix_size - suc (length x) ≡ most_prefix - length x = omega arith in y)

pub row_sized : (s : List ℕ) (i k v : ℕ) → length s ≡ whole_size → i < most_editions → k ≡ at_most v most_prefix
    → v ≡ get_or s (editions_at + edition_size * i + 4) 0
    → (z : List ℕ) {r : Bool} {l : List ℕ} (j : ℕ) → z ≡ replicate prefix_size 0 → j ≡ k
    → r ≡ leb (1 + length (take j (drop (editions_at + edition_size * i + 4 + 1) s))) (length (set z 0 k))
    → l ≡ put_if r (set z 0 k) 1 (take j (drop (editions_at + edition_size * i + 4 + 1) s)) → length l ≡ length z
row_sized s i k v n b e q z j y w p u =
    ap length (row_written s i k v n b e q z j y w p u)
    ∙ length-prefix_row (edition_at s i).prefix (prefix-most s i n b)
    ∙ sym (ap length y ∙ length-replicate {A = ℕ} prefix_size 0)

-- the row of the prefix in force: of an edition, or zeros
pub forced-row : (s : List ℕ) (n r : ℕ) (row : List ℕ) → InForce s n r → 0 < r
    → row ≡ prefix_row (edition_at s (r - 1)).prefix → row ≡ prefix_row (prefix_for n (listed s))
forced-row s n r row f h e = e ∙ ap prefix_row (sym (f.some h))

pub forced-none : (s : List ℕ) (n r : ℕ) (row : List ℕ) → InForce s n r → r ≤ 0 → row ≡ replicate prefix_size 0
    → row ≡ prefix_row (prefix_for n (listed s))
unfolding prefix_row pad_to
forced-none s n r row f h e = e ∙ ap prefix_row (sym (f.none (omega arith)))

pub enforced-not : (n : ℕ) (s : List ℕ) → (length s ≡ whole_size → ⊥) → s ≡ enforced n s
unfolding enforced
enforced-not n s h = sym (pick-false _ s (ne_eqb (length s) whole_size h))

pub enforced-is : (n : ℕ) (s row : List ℕ) {r : Bool} {t : List ℕ} → length s ≡ whole_size → length row ≡ prefix_size
    → row ≡ prefix_row (prefix_for n (listed s))
    → r ≡ leb (prefix_length_at + length row) (length s) → t ≡ put_if r s prefix_length_at row → t ≡ enforced n s
unfolding enforced
enforced-is n s row l k e p q =
    put_of s prefix_length_at row (length row) (length s) p (omega arith) q ∙ ap (put s prefix_length_at) e
    ∙ sym (pick_true (put s prefix_length_at (prefix_row (prefix_for n (listed s)))) s (eq-eqb (length s) whole_size l))

-- on a block of a state: the state with that prefix
pub enforced-laid : (n : ℕ) (g : Gateway) (x : List ℕ) → sound_model g.core ≡ true
    → sound_editions g.editions ≡ true → length x ≡ index_size
    → enforced n (laid_with x g)
    ≡ laid_with x (record { core = with_prefix g.core (prefix_for n g.editions); editions = g.editions })
unfolding enforced laid_with listed
enforced-laid n g x ok es k =
    let m : Model = g.core in
    let p : List ℕ = prefix_for n g.editions in
    let l : length ((padded m ++ x) ++ edition_block g.editions) ≡ whole_size = laid-length g x ok es k in
    let i : Rattle.editions.specs.Block.editions_of (drop editions_at ((padded m ++ x) ++ edition_block g.editions))
    ≡ g.editions =
    ap Rattle.editions.specs.Block.editions_of (laid-editions g x ok es k) ∙ editions-in g.editions es in
    let u = up-to most_prefix p (prefix-fits n g.editions es) in
    let f = sound-facts m ok in
    let b : length (padded m) ≡ block_size = padded-length m ok in
    let r = length-prefix_row p u.0 in
    let a = lib.ListN.length-append (padded m) x in
    pick_true _ _ (eq-eqb (length ((padded m ++ x) ++ edition_block g.editions)) whole_size l)
    ∙ ap (λ (t : List Edition). put ((padded m ++ x) ++ edition_block g.editions) prefix_length_at
    (prefix_row (prefix_for n t))) i
    ∙ put-left (padded m ++ x) (edition_block g.editions) prefix_length_at (prefix_row p) (omega arith)
    ∙ ap (λ (t : List ℕ). t ++ edition_block g.editions)
    (put-left (padded m) x prefix_length_at (prefix_row p) (omega arith))
    ∙ ap (λ (t : List ℕ). (t ++ x) ++ edition_block g.editions) (head-written m p f.prefix-most u.0)

pub starts-not : (n : ℕ) (s : List ℕ) → (length s ≡ whole_size → ⊥) → false ≡ starts_at n s
unfolding starts_at
starts-not n s h = sym (and-not-left (eqb (length s) whole_size) _ (ne_eqb (length s) whole_size h))

module _ (n : ℕ) (s : List ℕ) where
  abbrev pub Rest : ℕ → Type 0
  Rest i = (i ≤ edition_count s) × (starts_at n s ≡ begins_at n (drop i (listed s)))

  pub rest_all : length s ≡ whole_size → Rest 0
  unfolding starts_at
  rest_all l = (omega arith, ap (λ (b : Bool). b && begins_at n (listed s)) (eq-eqb (length s) whole_size l))

  module _ (i : ℕ) (h : i < edition_count s) (r : Rest i) where
    pub rest-hit : {v : ℕ} → v ≡ (edition_at s i).from → v ≡ n → true ≡ starts_at n s
    unfolding begins_at
    rest-hit {v} e q =
        sym (r.1 ∙ ap (begins_at n) (listed-drop s i h)
        ∙ some-stop (λ (d : Edition). eqb d.from n) (edition_at s i) (drop (suc i) (listed s))
        (eq-eqb (edition_at s i).from n (sym e ∙ q)))

    pub rest-miss : {v : ℕ} → v ≡ (edition_at s i).from → (v ≡ n → ⊥) → Rest (i + 1)
    unfolding begins_at
    rest-miss {v} e q =
        let a : suc i ≡ i + 1 = omega arith in (
          omega arith,
          r.1 ∙ ap (begins_at n) (listed-drop s i h)
              ∙ some-step (λ (d : Edition). eqb d.from n) (edition_at s i) (drop (suc i) (listed s))
              (ne_eqb (edition_at s i).from n (λ z. q (e ∙ z)))
              ∙ ap (λ (j : ℕ). begins_at n (drop j (listed s))) a,
        )

  pub rest-none : (i : ℕ) → edition_count s ≤ i → Rest i → false ≡ starts_at n s
  unfolding begins_at
  rest-none i h r =
      let b : i ≤ edition_count s = r.0 in
      let e : i ≡ edition_count s = omega arith in
      sym (r.1 ∙ ap (λ (j : ℕ). begins_at n (drop j (listed s))) e ∙ ap (begins_at n) (listed-end s)
      ∙ some-nil (λ (d : Edition). eqb d.from n))

-- where none begins at the next frame, the prefix in force stays
force-stays : (p : List ℕ) (n : ℕ) (es : List Edition) → begins_at (suc n) es ≡ false
    → in_force p (suc n) es ≡ in_force p n es
unfolding in_force begins_at some
force-stays p n [] h = refl
force-stays p n (e ∷ es) h =
    go (eqb e.from (suc n)) refl h (λ z. force-stays (pick (leb e.from n) e.prefix p) n es z)
  where
    same : (e.from ≡ suc n → ⊥) → leb e.from (suc n) ≡ leb e.from n
    same q = Rattle.laws.specs.TestsLaws.cases-le e.from n
        (λ b. le-leb e.from (suc n) (omega arith) ∙ sym (le-leb e.from n b))
        (λ b. lt-leb e.from (suc n)
        (Rattle.laws.specs.TestsLaws.cases-le e.from (suc n) (λ c. absurd (q (omega arith))) (λ c. c))
        ∙ sym (lt-leb e.from n b))

    go : (b : Bool) → eqb e.from (suc n) ≡ b → (b || begins_at (suc n) es) ≡ false
        → (begins_at (suc n) es ≡ false
        → in_force (pick (leb e.from n) e.prefix p) (suc n) es
        ≡ in_force (pick (leb e.from n) e.prefix p) n es)
        → in_force (pick (leb e.from (suc n)) e.prefix p) (suc n) es
        ≡ in_force (pick (leb e.from n) e.prefix p) n es
    go true q z r = absurd (mathlib.Core.Bool.false≢true (sym z))
    go false q z r =
        ap (λ (b : Bool). in_force (pick b e.prefix p) (suc n) es) (same (eqb-false e.from (suc n) q))
        ∙ r z

pub prefix-stays-on : (n : ℕ) (es : List Edition) → begins_at (suc n) es ≡ false → prefix_for (suc n) es ≡ prefix_for n es
unfolding prefix_for
prefix-stays-on n es h = force-stays [] n es h
