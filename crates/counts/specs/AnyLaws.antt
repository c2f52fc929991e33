-- A search through the pairs held, by what it is told of each. Assumes nothing.
use Rattle.std.specs.Prelude.{ℕ, zero, suc, ◌+◌, ◌<◌, ◌≡◌, refl, Bool, true, false, List, [], ◌∷◌, length, get_or}
use Rattle.std.proofs.Common.{sym, ap, ◌∙◌, arith, subst}
use native.Mathlib.Nat.{zero-add}
use Rattle.std.specs.Bool.{MatchBool}
use Rattle.std.specs.List.{HoldsAt, AllWithin, range_with_len}
use Rattle.std.proofs.lemmas.List.FromFn.{length-range_with_len, get_or-range_with_len}
use Rattle.laws.specs.Loops.{some as some_of}
use Rattle.laws.specs.LoopsLaws.{some-step, some-stop, some-nil}
use Rattle.model.specs.Types.{Model, Pair}
use Rattle.packets.specs.Writes.{no_pair}
use Rattle.packets.specs.Moves.{AtPair, pair_at}
use Rattle.packets.specs.Starts.{Holding}

some-at : (f : Pair → Bool) (qs : List Pair) (i : ℕ) → i < length qs → true ≡ f (get_or qs i no_pair)
    → true ≡ some_of f qs
some-at f [] i h e = absurd (omega arith)
some-at f (q ∷ qs) zero h e = sym (some-stop f q qs (sym e))
some-at f (q ∷ qs) (suc i) h e = go (f q) refl (some-at f qs i (omega arith) e)
  where
    go : (b : Bool) → f q ≡ b → true ≡ some_of f qs → true ≡ some_of f (q ∷ qs)
    go true b r = sym (some-stop f q qs b)
    go false b r = r ∙ sym (some-step f q qs b)

none-at : (f : Pair → Bool) (qs : List Pair)
    → ((i : ℕ) → i < length qs → false ≡ f (get_or qs i no_pair)) → false ≡ some_of f qs
none-at f [] h = sym (some-nil f)
none-at f (q ∷ qs) h =
    none-at f qs (λ i k. h (suc i) (omega arith)) ∙ sym (some-step f q qs (sym (h 0 (omega arith))))

-- what is told of pair i
abbrev pub Tells : Model → List ℕ → (Pair → Bool) → Bool → ℕ → Type 0
Tells m s f b i = AtPair m s i → b ≡ f (pair_at m i)

module _ (m : Model) (s : List ℕ) (n : ℕ) (w : Holding m s n) (f : Pair → Bool) where
  abbrev pub places : List ℕ
  places = range_with_len 0 n

  at_pair : (i : ℕ) → i < n → AtPair m s i
  at_pair i b = record { measured = w.measured; block = w.block; within = omega (arith, w.count) }

  pub any-told : (r : Bool)
      → MatchBool r ((k : ℕ) × (k < length places) × HoldsAt (Tells m s f true) places k)
      (AllWithin (Tells m s f false) places 0 (length places)) → r ≡ some_of f m.pairs
  unfolding pair_at
  any-told true (k, l, t) =
      let i = get_or-range_with_len 0 n k 0 (omega (arith, length-range_with_len 0 n)) ∙ zero-add k in
      some-at f m.pairs k (omega (arith, w.count, length-range_with_len 0 n))
      (subst (Tells m s f true) i (t 0) (at_pair k (omega (arith, length-range_with_len 0 n))))
  any-told false t =
      none-at f m.pairs (λ k h.
      let l = length-range_with_len 0 n in
      let i = get_or-range_with_len 0 n k 0 (omega (arith, w.count)) ∙ zero-add k in
      subst (Tells m s f false) i (t k 0 (omega arith) (omega (arith, l, w.count))) (at_pair k (omega (arith, w.count))))
