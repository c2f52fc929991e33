-- Laws of the pair that a start displaces: the first that keeps the smallest RSSI. Assumes nothing.
use Rattle.std.specs.Prelude.{ℕ, suc, ◌≤◌, ◌<◌, ◌≡◌, refl, ◌⊎◌, Bool, true, false, ◌||◌, cond, List, [], ◌∷◌, length, ltb, eqb}
use Rattle.std.proofs.Common.{arith, sym, ap, ◌∙◌, subst, inl, inr, ltb-true, ltb-false, eqb-true}
use Rattle.std.proofs.lemmas.Bool.{eqb-false}
use Rattle.rule.specs.Base.{In, Distinct, Ordered}
use Rattle.rule.specs.BaseLaws.{all_in, in_all, in_map, map-in}
use Rattle.rule.specs.Radio.{Radio, most_pairs}
use Rattle.rule.specs.Engine.{Pair, key, keys, least, drop_first, fits, room_for}

module _ (R : Radio) where
  pub least-le : (r : ℕ) (ps : List (Pair R)) (y : Pair R) → In y ps → least R r ps ≤ y.3
  least-le r [] y i = elim i [ ]
  least-le r (q ∷ ps) y i = go (ltb q.3 (least R r ps)) refl i (λ j. least-le r ps y j)
    where
      go : (b : Bool) → ltb q.3 (least R r ps) ≡ b → In y (q ∷ ps) → (In y ps → least R r ps ≤ y.3)
          → cond b q.3 (least R r ps) ≤ y.3
      go true e (inl w) ih = let z : y.3 ≡ q.3 = ap (λ x. x.3) w in omega arith
      go true e (inr j) ih = let z = ltb-true q.3 (least R r ps) e in let t = ih j in omega arith
      go false e (inl w) ih =
          let z : y.3 ≡ q.3 = ap (λ x. x.3) w in
          let t = ltb-false q.3 (least R r ps) e in
          omega arith
      go false e (inr j) ih = ih j

  pub least-is : (r : ℕ) (ps : List (Pair R)) → least R r ps < r → (y : Pair R) × In y ps × (y.3 ≡ least R r ps)
  least-is r [] t = absurd (omega arith)
  least-is r (q ∷ ps) t = go (ltb q.3 (least R r ps)) refl t (λ u. least-is r ps u)
    where
      go : (b : Bool) → ltb q.3 (least R r ps) ≡ b → cond b q.3 (least R r ps) < r
          → (least R r ps < r → (y : Pair R) × In y ps × (y.3 ≡ least R r ps))
          → (y : Pair R) × In y (q ∷ ps) × (y.3 ≡ cond b q.3 (least R r ps))
      go true e u ih = (q, inl refl, refl)
      go false e u ih = let w = ih u in (w.0, inr w.1, w.2)

  -- x is the first that keeps k.
  abbrev pub First : ℕ → List (Pair R) → Pair R → Type 0
  First k [] x = ⊥
  First k (q ∷ ps) x = ((eqb q.3 k ≡ true) × (x ≡ q)) ⊎ ((eqb q.3 k ≡ false) × First k ps x)

  pub first-in : (k : ℕ) (ps : List (Pair R)) (x : Pair R) → First k ps x → In x ps
  first-in k [] x x3 = elim x3 [ ]
  first-in k (q ∷ ps) x (inl w) = inl w.1
  first-in k (q ∷ ps) x (inr w) = inr (first-in k ps x w.1)

  pub first-keeps : (k : ℕ) (ps : List (Pair R)) (x : Pair R) → First k ps x → x.3 ≡ k
  first-keeps k [] x x3 = elim x3 [ ]
  first-keeps k (q ∷ ps) x (inl w) = ap (λ z. z.3) w.1 ∙ eqb-true q.3 k w.0
  first-keeps k (q ∷ ps) x (inr w) = first-keeps k ps x w.1

  pub first_of : (k : ℕ) (ps : List (Pair R)) (y : Pair R) → In y ps → y.3 ≡ k → (x : Pair R) × First k ps x
  first_of k [] y i e = elim i [ ]
  first_of k (q ∷ ps) y i e = go (eqb q.3 k) refl i (λ j. first_of k ps y j e)
    where
      go : (b : Bool) → eqb q.3 k ≡ b → In y (q ∷ ps) → (In y ps → (x : Pair R) × First k ps x)
          → (x : Pair R) × First k (q ∷ ps) x
      go true t j ih = (q, inl (t, refl))
      go false t (inl w) ih = absurd (eqb-false q.3 k t (sym (ap (λ z. z.3) w) ∙ e))
      go false t (inr j) ih = let r = ih j in (r.0, inr (t, r.1))

  pub drop-in : (k : ℕ) (ps : List (Pair R)) (y : Pair R) → In y (drop_first R k ps) → In y ps
  drop-in k [] y i = elim i [ ]
  drop-in k (q ∷ ps) y i = go (eqb q.3 k) i (λ j. drop-in k ps y j)
    where
      go : (b : Bool) → In y (cond b ps (q ∷ drop_first R k ps)) → (In y (drop_first R k ps) → In y ps) → In y (q ∷ ps)
      go true j ih = inr j
      go false (inl w) ih = inl w
      go false (inr j) ih = inr (ih j)

  -- What stands there stays, or is the first that keeps k.
  pub drop-or : (k : ℕ) (ps : List (Pair R)) (y : Pair R) → In y ps → In y (drop_first R k ps) ⊎ First k ps y
  drop-or k [] y i = elim i [ ]
  drop-or k (q ∷ ps) y i = go (eqb q.3 k) refl i (λ j. drop-or k ps y j)
    where
      up : eqb q.3 k ≡ false → In y (drop_first R k ps) ⊎ First k ps y
          → In y (q ∷ drop_first R k ps) ⊎ First k (q ∷ ps) y
      up t (inl j) = inl (inr j)
      up t (inr f) = inr (inr (t, f))

      go : (b : Bool) → eqb q.3 k ≡ b → In y (q ∷ ps) → (In y ps → In y (drop_first R k ps) ⊎ First k ps y)
          → In y (cond b ps (q ∷ drop_first R k ps)) ⊎ First k (q ∷ ps) y
      go true t (inl w) ih = inr (inl (t, w))
      go true t (inr j) ih = inl j
      go false t (inl w) ih = inl (inl w)
      go false t (inr j) ih = up t (ih j)

  pub drop-once : (k : ℕ) (ps : List (Pair R)) → Distinct (keys R ps) → Distinct (keys R (drop_first R k ps))
  drop-once k [] d = tt
  drop-once k (q ∷ ps) d = go (eqb q.3 k) (drop-once k ps d.1)
    where
      old : In (key R q) (keys R (drop_first R k ps)) → ⊥
      old i =
          let r = map-in (key R) (drop_first R k ps) (key R q) i in
          d.0 (rw r.2 (in_map (key R) ps r.0 (drop-in k ps r.0 r.1)))

      go : (b : Bool) → Distinct (keys R (drop_first R k ps)) → Distinct (keys R (cond b ps (q ∷ drop_first R k ps)))
      go true ih = d.1
      go false ih = (old, ih)

  pub drop-ordered : (P : Pair R → Pair R → Type 0) (k : ℕ) (ps : List (Pair R)) → Ordered P ps
      → Ordered P (drop_first R k ps)
  drop-ordered P k [] o = tt
  drop-ordered P k (q ∷ ps) o = go (eqb q.3 k) (drop-ordered P k ps o.1)
    where
      go : (b : Bool) → Ordered P (drop_first R k ps) → Ordered P (cond b ps (q ∷ drop_first R k ps))
      go true ih = o.1
      go false ih = (
        in_all (P q) (drop_first R k ps) (λ y i. all_in (P q) ps o.0 y (drop-in k ps y i)),
        ih,
      )

  pub drop-length : (k : ℕ) (ps : List (Pair R)) (x : Pair R) → First k ps x
      → length ps ≡ suc (length (drop_first R k ps))
  drop-length k [] x x3 = elim x3 [ ]
  drop-length k (q ∷ ps) x (inl w) = rw w.0
  drop-length k (q ∷ ps) x (inr w) = rw w.0 (ap suc (drop-length k ps x w.1))

  -- What is dropped is gone.
  pub first-gone : (k : ℕ) (ps : List (Pair R)) (x y : Pair R) → Distinct (keys R ps) → First k ps x
      → In y (drop_first R k ps) → key R y ≡ key R x → ⊥
  first-gone k [] x y d x6 i e = elim x6 [ ]
  first-gone k (q ∷ ps) x y d (inl w) i e =
      let j : In y ps = subst (λ b. In y (cond b ps (q ∷ drop_first R k ps))) w.0 i in
      let z : key R y ≡ key R q = e ∙ ap (key R) w.1 in
      d.0 (subst (λ c. In c (keys R ps)) z (in_map (key R) ps y j))
  first-gone k (q ∷ ps) x y d (inr w) i e =
      go (subst (λ b. In y (cond b ps (q ∷ drop_first R k ps))) w.0 i)
      (λ j. first-gone k ps x y d.1 w.1 j e)
    where
      go : In y (q ∷ drop_first R k ps) → (In y (drop_first R k ps) → ⊥) → ⊥
      go (inl u) ih =
          let z : key R x ≡ key R q = sym e ∙ ap (key R) u in
          d.0 (subst (λ c. In c (keys R ps)) z (in_map (key R) ps x (first-in k ps x w.1)))
      go (inr j) ih = ih j

  -- The first stands before all others that keep k.
  pub first-before : (P : Pair R → Pair R → Type 0) (k : ℕ) (ps : List (Pair R)) (x y : Pair R) → Ordered P ps
      → First k ps x → In y ps → y.3 ≡ k → (y ≡ x) ⊎ P x y
  first-before P k [] x y o x6 _ e = elim x6 [ ]
  first-before P k (q ∷ ps) x y o (inl w) (inl i) e = inl (i ∙ sym w.1)
  first-before P k (q ∷ ps) x y o (inl w) (inr i) e =
      inr (subst (λ z. P z y) (sym w.1) (all_in (P q) ps o.0 y i))
  first-before P k (q ∷ ps) x y o (inr w) (inl i) e =
      absurd (eqb-false q.3 k w.0 (sym (ap (λ z. z.3) i) ∙ e))
  first-before P k (q ∷ ps) x y o (inr w) (inr i) e = first-before P k ps x y o.1 w.1 i e

  -- The same of the pairs that stay when one starts.
  pub room_in_lem : (r : ℕ) (ps : List (Pair R)) (y : Pair R) → In y (room_for R r ps) → In y ps
  room_in_lem r ps y i = go (ltb (length ps) most_pairs) i
    where
      go : (b : Bool) → In y (cond b ps (drop_first R (least R r ps) ps)) → In y ps
      go true j = j
      go false j = drop-in (least R r ps) ps y j

  pub room-once : (r : ℕ) (ps : List (Pair R)) → Distinct (keys R ps) → Distinct (keys R (room_for R r ps))
  room-once r ps d = go (ltb (length ps) most_pairs)
    where
      go : (b : Bool) → Distinct (keys R (cond b ps (drop_first R (least R r ps) ps)))
      go true = d
      go false = drop-once (least R r ps) ps d

  pub room-ordered : (P : Pair R → Pair R → Type 0) (r : ℕ) (ps : List (Pair R)) → Ordered P ps
      → Ordered P (room_for R r ps)
  room-ordered P r ps o = go (ltb (length ps) most_pairs)
    where
      go : (b : Bool) → Ordered P (cond b ps (drop_first R (least R r ps) ps))
      go true = o
      go false = drop-ordered P (least R r ps) ps o

  pub room-length : (r : ℕ) (ps : List (Pair R)) → length ps ≤ most_pairs → fits R r ps ≡ true
      → length (room_for R r ps) < most_pairs
  room-length r ps c f = go (ltb (length ps) most_pairs) refl f
    where
      go : (b : Bool) → ltb (length ps) most_pairs ≡ b → (b || ltb (least R r ps) r) ≡ true
          → length (cond b ps (drop_first R (least R r ps) ps)) < most_pairs
      go true e t = ltb-true (length ps) most_pairs e
      go false e t =
          let w = least-is r ps (ltb-true (least R r ps) r t) in
          let x = first_of (least R r ps) ps w.0 w.1 w.2 in
          let n = drop-length (least R r ps) ps x.0 x.1 in
          omega arith

  -- A pair that keeps r stays.
  pub room-keeps : (r : ℕ) (ps : List (Pair R)) (y : Pair R) → In y ps → fits R r ps ≡ true → y.3 ≡ r
      → In y (room_for R r ps)
  room-keeps r ps y i f e = go (ltb (length ps) most_pairs) f
    where
      stay : least R r ps < r → In y (drop_first R (least R r ps) ps) ⊎ First (least R r ps) ps y
          → In y (drop_first R (least R r ps) ps)
      stay t (inl j) = j
      stay t (inr w) = let z = first-keeps (least R r ps) ps y w in absurd (omega arith)

      go : (b : Bool) → (b || ltb (least R r ps) r) ≡ true → In y (cond b ps (drop_first R (least R r ps) ps))
      go true t = i
      go false t = stay (ltb-true (least R r ps) r t) (drop-or (least R r ps) ps y i)
