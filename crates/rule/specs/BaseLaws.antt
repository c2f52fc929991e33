-- Laws of the definitions in Base.
use Prim.Native.Nat.{suc, ◌≤◌, zero-le}
use Rattle.std.proofs.Common.{arith, ◌∙◌, subst}
use Rattle.std.specs.Prelude.{◌≡◌, ◌⊎◌, Bool, true, false, ◌&&◌, not, List, [], ◌∷◌, ◌++◌, map, length}
use Rattle.std.proofs.Math.Path.{refl, sym, ap}
use Rattle.std.proofs.Math.Logic.{inl, inr}
use Rattle.std.proofs.lemmas.Bool.{false≢true}
use Rattle.std.proofs.Math.Option.{Option, none, some}
use Rattle.rule.specs.Base.{In, All, Distinct, Ordered, push, map_some}

-- A test is true or false, with the equation.
pub both : (b : Bool) → (b ≡ true) ⊎ (b ≡ false)
both true = inl refl
both false = inr refl

-- The two parts of a conjunction that is true.
pub and-true : (a b : Bool) → (a && b) ≡ true → (a ≡ true) × (b ≡ true)
and-true true b e = (refl, e)
and-true false b e = absurd (false≢true e)

-- A negated test that is true.
pub not-true : (a : Bool) → not a ≡ true → a ≡ false
not-true true e = sym e
not-true false e = refl

pub none≢some : {A : Type 0} {a : A} → ◌≡◌ {A = Option A} none (some a) → ⊥
none≢some {A} e = subst is_none e tt
  where
    is_none : Option A → Type 0
    is_none none = Unit
    is_none (some b) = ⊥

pub some_inj : {A : Type 0} {a b : A} → ◌≡◌ {A = Option A} (some a) (some b) → a ≡ b
some_inj e = cc

pub pair_path : {A B : Type 0} {a c : A} {b d : B} → a ≡ c → b ≡ d → ◌≡◌ {A = A × B} (a, b) (c, d)
pair_path p q = rw (p, q)

module _ {A : Type 0} where
  pub all_in : (P : A → Type 0) (l : List A) → All P l → (x : A) → In x l → P x
  all_in P [] a x x4 = elim x4 [ ]
  all_in P (y ∷ l) a x (inl e) = subst P (sym e) a.0
  all_in P (y ∷ l) a x (inr i) = all_in P l a.1 x i

  pub in_all : (P : A → Type 0) (l : List A) → ((x : A) → In x l → P x) → All P l
  in_all P [] f = tt
  in_all P (y ∷ l) f = (f y (inl refl), in_all P l (λ x i. f x (inr i)))

  pub in_left : (x : A) (l m : List A) → In x l → In x (l ++ m)
  in_left x [] m x'' = elim x'' [ ]
  in_left x (y ∷ l) m (inl e) = inl e
  in_left x (y ∷ l) m (inr i) = inr (in_left x l m i)

  pub in_right : (x : A) (l m : List A) → In x m → In x (l ++ m)
  in_right x [] m i = i
  in_right x (y ∷ l) m i = inr (in_right x l m i)

  pub in-append : (x : A) (l m : List A) → In x (l ++ m) → In x l ⊎ In x m
  in-append x [] m i = inr i
  in-append x (y ∷ l) m (inl e) = inl (inl e)
  in-append x (y ∷ l) m (inr i) = go (in-append x l m i)
    where
      go : In x l ⊎ In x m → In x (y ∷ l) ⊎ In x m
      go (inl j) = inl (inr j)
      go (inr j) = inr j

  pub all_append : (P : A → Type 0) (l m : List A) → All P l → All P m → All P (l ++ m)
  all_append P [] m a b = b
  all_append P (x ∷ l) m a b = (a.0, all_append P l m a.1 b)

  -- An element that is new goes to the end.
  pub distinct_snoc : (l : List A) (x : A) → Distinct l → (In x l → ⊥) → Distinct (l ++ (x ∷ []))
  distinct_snoc [] x d n = (λ i. i, tt)
  distinct_snoc (y ∷ l) x d n = (λ i. go (in-append y l (x ∷ []) i), distinct_snoc l x d.1 (λ i. n (inr i)))
    where
      go : In y l ⊎ In y (x ∷ []) → ⊥
      go (inl i) = d.0 i
      go (inr (inl e)) = n (inl (sym e))
      go (inr (inr e)) = e

  pub ordered-snoc : (P : A → A → Type 0) (l : List A) (x : A) → Ordered P l → All (λ y. P y x) l
      → Ordered P (l ++ (x ∷ []))
  ordered-snoc P [] x o a = (tt, tt)
  ordered-snoc P (y ∷ l) x o a =
      (all_append (P y) l (x ∷ []) o.0 (a.0, tt), ordered-snoc P l x o.1 a.1)

  -- The list without one given place of x.
  without : (x : A) (m : List A) → In x m → List A
  without x [] x'' = elim x'' [ ]
  without x (y ∷ m) (inl e) = m
  without x (y ∷ m) (inr i) = y ∷ without x m i

  without-length : (x : A) (m : List A) (i : In x m) → length m ≡ suc (length (without x m i))
  unfolding without
  without-length x [] i = elim i [ ]
  without-length x (y ∷ m) (inl e) = refl
  without-length x (y ∷ m) (inr i) = ap suc (without-length x m i)

  without_in : (x y : A) (m : List A) (i : In x m) → (y ≡ x → ⊥) → In y m → In y (without x m i)
  unfolding without
  without_in x y [] i n _ = elim i [ ]
  without_in x y (z ∷ m) (inl e) n (inl q) = absurd (n (q ∙ sym e))
  without_in x y (z ∷ m) (inl e) n (inr j) = j
  without_in x y (z ∷ m) (inr i) n (inl q) = inl q
  without_in x y (z ∷ m) (inr i) n (inr j) = inr (without_in x y m i n j)

  -- The pigeonhole: distinct elements that all stand in m are no more than m has.
  pub pigeon : (l m : List A) → Distinct l → All (λ x. In x m) l → length l ≤ length m
  pigeon [] m d a = zero-le
  pigeon (x ∷ l) m d a =
      let r = without x m a.0 in
      let rest : All (λ y. In y r) l = in_all (λ y. In y r) l
      (λ y i. without_in x y m a.0 (apart y i) (all_in (λ z. In z m) l a.1 y i)) in
      let le : length l ≤ length r = pigeon l r d.1 rest in
      let n = without-length x m a.0 in
      omega arith
    where
      apart : (y : A) → In y l → y ≡ x → ⊥
      apart y i e = d.0 (subst (λ z. In z l) e i)

  in-push : (x : A) (o : Option A) (l : List A) → In x l → In x (push o l)
  in-push x none l i = i
  in-push x (some y) l i = inr i

  pub in-each : (f : A → Option A) (l : List A) (x y : A) → In x l → f x ≡ some y → In y (map_some f l)
  in-each f [] x y x4 q = elim x4 [ ]
  in-each f (z ∷ l) x y (inl e) q = go (f z) (subst (λ w. f w ≡ some y) e q)
    where
      go : (o : Option A) → o ≡ some y → In y (push o (map_some f l))
      go o p = subst (λ w. In y (push w (map_some f l))) (sym p) (inl refl)
  in-each f (z ∷ l) x y (inr i) q = in-push y (f z) (map_some f l) (in-each f l x y i q)

  -- What stands in `map_some f l`: where it came from.
  pub record From (f : A → Option A) (l : List A) (y : A) : Type 0 where
    pub was : A
    pub place : In was l
    pub moved : f was ≡ some y

  pub each_in : (f : A → Option A) (l : List A) (y : A) → In y (map_some f l) → From f l y
  each_in f [] y i = elim i [ ]
  each_in f (z ∷ l) y i = go (f z) refl i (λ j. each_in f l y j)
    where
      go : (o : Option A) → f z ≡ o → In y (push o (map_some f l)) → (In y (map_some f l) → From f l y)
          → From f (z ∷ l) y
      go none e j ih = let r = ih j in record { was = r.was; place = inr r.place; moved = r.moved }
      go (some w) e (inl q) ih = record { was = z; place = inl refl; moved = e ∙ ap some (sym q) }
      go (some w) e (inr j) ih = let r = ih j in record { was = r.was; place = inr r.place; moved = r.moved }

  pub each-length : (f : A → Option A) (l : List A) → length (map_some f l) ≤ length l
  each-length f [] = zero-le
  each-length f (z ∷ l) = go (f z) (each-length f l)
    where
      go : (o : Option A) → length (map_some f l) ≤ length l → length (push o (map_some f l)) ≤ suc (length l)
      go none h = omega arith
      go (some w) h = omega arith

  -- A relation between what came from related elements holds in `map_some f l` in the same order.
  pub ordered-each : (P Q : A → A → Type 0) (f : A → Option A) (l : List A)
      → ((x y x' y' : A) → In x l → In y l → P x y → f x ≡ some x' → f y ≡ some y' → Q x' y')
      → Ordered P l → Ordered Q (map_some f l)
  ordered-each P Q f [] h o = tt
  ordered-each P Q f (z ∷ l) h o =
      go (f z) refl (ordered-each P Q f l (λ x y x' y' i j. h x y x' y' (inr i) (inr j)) o.1)
    where
      go : (r : Option A) → f z ≡ r → Ordered Q (map_some f l) → Ordered Q (push r (map_some f l))
      go none e ih = ih
      go (some w) e ih = (
        in_all (Q w) (map_some f l) (λ y i. let r = each_in f l y i in h z r.was w y (inl refl) (inr r.place)
            (all_in (P z) l o.0 r.was r.place) e r.moved),
        ih,
      )

module _ {A B : Type 0} where
  pub in_map : (g : A → B) (l : List A) (x : A) → In x l → In (g x) (map g l)
  in_map g [] x x3 = elim x3 [ ]
  in_map g (y ∷ l) x (inl e) = inl (ap g e)
  in_map g (y ∷ l) x (inr i) = inr (in_map g l x i)

  -- An element of `map g l` comes from one of l.
  pub map-in : (g : A → B) (l : List A) (y : B) → In y (map g l) → (x : A) × In x l × (y ≡ g x)
  map-in g [] y x' = elim x' [ ]
  map-in g (z ∷ l) y (inl e) = (z, inl refl, e)
  map-in g (z ∷ l) y (inr i) = let r = map-in g l y i in (r.0, inr r.1, r.2)

  pub map-append : (g : A → B) (l m : List A) → map g (l ++ m) ≡ map g l ++ map g m
  map-append g [] m = refl
  map-append g (x ∷ l) m = ap (λ r. g x ∷ r) (map-append g l m)

  -- `map_some` with a function that keeps keys leaves distinct keys distinct.
  pub each-distinct : (g : A → B) (f : A → Option A) (l : List A) → ((x y : A) → f x ≡ some y → g y ≡ g x)
      → Distinct (map g l) → Distinct (map g (map_some f l))
  each-distinct g f [] k d = tt
  each-distinct g f (z ∷ l) k d = go (f z) refl (each-distinct g f l k d.1)
    where
      old : (w : A) → f z ≡ some w → In (g w) (map g (map_some f l)) → ⊥
      old w e i =
          let r = map-in g (map_some f l) (g w) i in
          let s = each_in f l r.0 r.1 in
          let same : g s.was ≡ g z = sym (k s.was r.0 s.moved) ∙ sym r.2 ∙ k z w e in
          d.0 (subst (λ q. In q (map g l)) same (in_map g l s.was s.place))

      go : (o : Option A) → f z ≡ o → Distinct (map g (map_some f l)) → Distinct (map g (push o (map_some f l)))
      go none e ih = ih
      go (some w) e ih = (old w e, ih)

  -- An order of keys, said of the elements.
  pub ordered-map : (P : B → B → Type 0) (g : A → B) (l : List A) → Ordered (λ x y. P (g x) (g y)) l
      → Ordered P (map g l)
  ordered-map P g [] o = tt
  ordered-map P g (x ∷ l) o = (all_map l o.0, ordered-map P g l o.1)
    where
      all_map : (m : List A) → All (λ y. P (g x) (g y)) m → All (P (g x)) (map g m)
      all_map [] a = tt
      all_map (y ∷ m) a = (a.0, all_map m a.1)
