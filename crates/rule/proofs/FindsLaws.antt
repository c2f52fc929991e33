-- Laws of the definitions in Finds.
use Rattle.std.specs.Prelude.{ℕ, zero, suc, ◌+◌, ◌≤◌, ◌<◌, ◌≡◌, refl, Bool, true, false, cond, List, [], ◌∷◌, length, ltb, eqb}
use Rattle.std.proofs.Common.{arith, sym, ap, ◌∙◌, subst, inl, inr, ltb-true, ltb-false, eqb-true, eq-eqb, ne_eqb}
use Rattle.std.proofs.Math.Option.{Option, none, some}
use Rattle.std.proofs.lemmas.Bool.{eqb-false}
use Rattle.rule.specs.Base.{All}
use Rattle.rule.specs.BaseLaws.{both, none≢some}
use Rattle.rule.specs.Engine.{find, first_or, slot, insert, remove}
use Rattle.rule.specs.Finds.{Rising}

module _ {M : Type 0} where
  pub find_none : (x : ℕ × M) (l : List (ℕ × M)) (h : ℕ) → find (x ∷ l) h ≡ none
      → (eqb x.0 h ≡ false) × (find l h ≡ none)
  find_none x l h e = go (eqb x.0 h) e
    where
      go : (b : Bool) → cond b (some x.1) (find l h) ≡ none → (b ≡ false) × (find l h ≡ none)
      go true q = absurd (none≢some (sym q))
      go false q = (refl, q)

  pub find-all : (P : ℕ × M → Type 0) (l : List (ℕ × M)) (h : ℕ) (m : M) → All P l → find l h ≡ some m → P (h, m)
  find-all P [] h m a e = absurd (none≢some e)
  find-all P (x ∷ l) h m a e = go (eqb x.0 h) refl e (λ q. find-all P l h m a.1 q)
    where
      go : (b : Bool) → eqb x.0 h ≡ b → cond b (some x.1) (find l h) ≡ some m → (find l h ≡ some m → P (h, m))
          → P (h, m)
      go true t q ih =
          let g : x.0 ≡ h = eqb-true x.0 h t in
          let n : x.1 ≡ m = cc in
          subst (λ k. P (k, m)) g (subst (λ k. P (x.0, k)) n a.0)
      go false t q ih = ih q

  pub find-above : (l : List (ℕ × M)) (h : ℕ) → All (λ y. h < y.0) l → find l h ≡ none
  find-above [] h a = refl
  find-above (x ∷ l) h a =
      let f : x.0 ≡ h → ⊥ = λ e. absurd (apart x.0 h a.0 e) in
      rw (ne_eqb x.0 h f) (find-above l h a.1)
    where
      apart : (a b : ℕ) → b < a → a ≡ b → ⊥
      apart a b q e = omega arith

  pub find-insert-same : (h : ℕ) (m : M) (l : List (ℕ × M)) → find l h ≡ none → find (insert h m l) h ≡ some m
  find-insert-same h m [] e = rw (eq-eqb h h refl)
  find-insert-same h m (x ∷ l) e = go (ltb h x.0) (find-insert-same h m l (find_none x l h e).1)
    where
      go : (b : Bool) → find (insert h m l) h ≡ some m → find (cond b ((h, m) ∷ x ∷ l) (x ∷ insert h m l)) h ≡ some m
      go true ih = rw (eq-eqb h h refl)
      go false ih = rw (find_none x l h e).0 ih

  pub find-insert-other : (h g : ℕ) (m : M) (l : List (ℕ × M)) → (h ≡ g → ⊥) → find (insert h m l) g ≡ find l g
  find-insert-other h g m [] n = rw (ne_eqb h g n)
  find-insert-other h g m (x ∷ l) n = go (ltb h x.0) (find-insert-other h g m l n)
    where
      go : (b : Bool) → find (insert h m l) g ≡ find l g
          → find (cond b ((h, m) ∷ x ∷ l) (x ∷ insert h m l)) g ≡ find (x ∷ l) g
      go true ih = rw (ne_eqb h g n)
      go false ih = rw ih

  pub find-remove-same : (h : ℕ) (l : List (ℕ × M)) → find (remove h l) h ≡ none
  find-remove-same h [] = refl
  find-remove-same h (x ∷ l) = go (eqb x.0 h) refl (find-remove-same h l)
    where
      go : (b : Bool) → eqb x.0 h ≡ b → find (remove h l) h ≡ none
          → find (cond b (remove h l) (x ∷ remove h l)) h ≡ none
      go true q ih = ih
      go false q ih = rw q ih

  pub find-remove-other : (h g : ℕ) (l : List (ℕ × M)) → (h ≡ g → ⊥) → find (remove h l) g ≡ find l g
  find-remove-other h g [] n = refl
  find-remove-other h g (x ∷ l) n = go (eqb x.0 h) refl (find-remove-other h g l n)
    where
      go : (b : Bool) → eqb x.0 h ≡ b → find (remove h l) g ≡ find l g
          → find (cond b (remove h l) (x ∷ remove h l)) g ≡ find (x ∷ l) g
      go true q ih = rw (ne_eqb x.0 g (λ e. n (sym (eqb-true x.0 h q) ∙ e))) ih
      go false q ih = rw ih

  pub all_insert : (P : ℕ × M → Type 0) (h : ℕ) (m : M) (l : List (ℕ × M)) → P (h, m) → All P l → All P (insert h m l)
  all_insert P h m [] p a = (p, tt)
  all_insert P h m (x ∷ l) p a = go (ltb h x.0) (all_insert P h m l p a.1)
    where
      go : (b : Bool) → All P (insert h m l) → All P (cond b ((h, m) ∷ x ∷ l) (x ∷ insert h m l))
      go true ih = (p, a)
      go false ih = (a.0, ih)

  pub all_remove : (P : ℕ × M → Type 0) (h : ℕ) (l : List (ℕ × M)) → All P l → All P (remove h l)
  all_remove P h [] a = tt
  all_remove P h (x ∷ l) a = go (eqb x.0 h) (all_remove P h l a.1)
    where
      go : (b : Bool) → All P (remove h l) → All P (cond b (remove h l) (x ∷ remove h l))
      go true ih = ih
      go false ih = (a.0, ih)

  all_above : (h k : ℕ) (l : List (ℕ × M)) → h < k → All (λ y. k < y.0) l → All (λ y. h < y.0) l
  all_above h k [] q a = tt
  all_above h k (x ∷ l) q a = (omega (arith, a.0), all_above h k l q a.1)

  pub rising-insert : (h : ℕ) (m : M) (l : List (ℕ × M)) → find l h ≡ none → Rising l → Rising (insert h m l)
  rising-insert h m [] e r = (tt, tt)
  rising-insert h m (x ∷ l) e r = go (ltb h x.0) refl (rising-insert h m l (find_none x l h e).1 r.1)
    where
      above : x.0 ≤ h → x.0 < h
      above q = let n = eqb-false x.0 h (find_none x l h e).0 in omega (arith, n)

      go : (b : Bool) → ltb h x.0 ≡ b → Rising (insert h m l) → Rising (cond b ((h, m) ∷ x ∷ l) (x ∷ insert h m l))
      go true q ih = let z = ltb-true h x.0 q in ((z, all_above h x.0 l z r.0), r)
      go false q ih = (all_insert (λ y. x.0 < y.0) h m l (above (ltb-false h x.0 q)) r.0, ih)

  pub rising-remove : (h : ℕ) (l : List (ℕ × M)) → Rising l → Rising (remove h l)
  rising-remove h [] r = tt
  rising-remove h (x ∷ l) r = go (eqb x.0 h) (rising-remove h l r.1)
    where
      go : (b : Bool) → Rising (remove h l) → Rising (cond b (remove h l) (x ∷ remove h l))
      go true ih = ih
      go false ih = (all_remove (λ y. x.0 < y.0) h l r.0, ih)

  -- Rising handles from b on, all below n, are at most n - b.
  pub rising-length : (l : List (ℕ × M)) (b n : ℕ) → b ≤ n → Rising l → All (λ y. (b ≤ y.0) × (y.0 < n)) l
      → b + length l ≤ n
  rising-length [] b n q r a = omega arith
  rising-length (x ∷ l) b n q r a =
      let z : All (λ y. (suc x.0 ≤ y.0) × (y.0 < n)) l = zip l r.0 a.1 in
      let w = rising-length l (suc x.0) n a.0.1 r.1 z in
      omega (arith, w, a.0.0)
    where
      zip : (k : List (ℕ × M)) → All (λ y. x.0 < y.0) k → All (λ y. (b ≤ y.0) × (y.0 < n)) k
          → All (λ y. (suc x.0 ≤ y.0) × (y.0 < n)) k
      zip [] c d = tt
      zip (y ∷ k) c d = ((c.0, d.0.1), zip k c.1 d.1)

  -- g is the lowest handle not live of the n from k on.
  pub record Lowest (l : List (ℕ × M)) (n k g : ℕ) : Type 0 where
    pub free : find l g ≡ none
    pub from : k ≤ g
    pub below : g < k + n
    pub taken : (j : ℕ) → k ≤ j → j < g → find l j ≡ none → ⊥

  pub slot-some : (l : List (ℕ × M)) (n k g : ℕ) → slot l n k ≡ some g → Lowest l n k g
  slot-some l zero k g e = absurd (none≢some e)
  slot-some l (suc n) k g e = go (find l k) refl e (λ q. slot-some l n (suc k) g q)
    where
      here : find l k ≡ none → k ≡ g → Lowest l (suc n) k g
      here q w = record {
        free = subst (λ j. find l j ≡ none) w q;
        from = omega arith;
        below = omega arith;
        taken = λ j a b c. omega
            arith;
      }

      later : (m : M) → find l k ≡ some m → Lowest l n (suc k) g → Lowest l (suc n) k g
      later m q r = record {
        free = r.free;
        from = omega (arith, r.from);
        below = omega (arith, r.below);
        taken = up;
      }
        where
          up : (j : ℕ) → k ≤ j → j < g → find l j ≡ none → ⊥
          up j a b c = elim (both (eqb k j)) [
            | inl t ↦ at (eqb-true k j t)
            | inr t ↦ r.taken j
                (more (eqb-false k j t)) b c
          ]
            where
              at : k ≡ j → ⊥
              at t = none≢some (sym c ∙ subst (λ i. find l i ≡ some m) t q)

              more : (k ≡ j → ⊥) → suc k ≤ j
              more t = omega (arith, t)

      go : (o : Option M) → find l k ≡ o → first_or o k (slot l n (suc k)) ≡ some g
          → (slot l n (suc k) ≡ some g → Lowest l n (suc k) g) → Lowest l (suc n) k g
      go none q w ih = here q (cc)
      go (some m) q w ih = later m q (ih w)

  pub slot-none : (l : List (ℕ × M)) (n k : ℕ) → slot l n k ≡ none → (j : ℕ) → k ≤ j → j < k + n → find l j ≡ none → ⊥
  slot-none l zero k e j a b c = omega arith
  slot-none l (suc n) k e j a b c = go (find l k) refl e (λ q u. slot-none l n (suc k) q j u (omega arith) c)
    where
      more : (k ≡ j → ⊥) → suc k ≤ j
      more t = omega (arith, t)

      go : (o : Option M) → find l k ≡ o → first_or o k (slot l n (suc k)) ≡ none
          → (slot l n (suc k) ≡ none → suc k ≤ j → ⊥) → ⊥
      go none q w ih = none≢some (sym w)
      go (some m) q w ih =
          ih w (more (λ t. none≢some (sym c ∙ subst (λ i. find l i ≡ some m) t q)))

  -- The lowest handle not live is the one that `slot` finds.
  pub lowest-slot : (l : List (ℕ × M)) (n k g : ℕ) → Lowest l n k g → slot l n k ≡ some g
  lowest-slot l n k g w = go (slot l n k) refl
    where
      go : (o : Option ℕ) → slot l n k ≡ o → o ≡ some g
      go none e = absurd (slot-none l n k e g w.from w.below w.free)
      go (some j) e = ap some (meet (slot-some l n k j e))
        where
          meet : Lowest l n k j → j ≡ g
          meet v =
              let low : j < g → ⊥ = λ q. w.taken j v.from q v.free in
              let high : g < j → ⊥ = λ q. v.taken g w.from q w.free in
              omega (arith, low, high)
