-- The searches through the pairs that are held, row by row: for a pair by its key, for a reason, for one under watch.
use Rattle.std.specs.Prelude.{ℕ, suc, ◌+◌, ◌*◌, ◌≤◌, ◌<◌, ◌≡◌, Bool, true, false, List, drop, get_or}
use Rattle.std.proofs.Common.{sym, ap, ◌∙◌, arith, add-one, drop_of_length-le, drop-cons}
use Rattle.laws.specs.Loops.{some as some_of}
use Rattle.laws.specs.LoopsLaws.{some-step, some-stop, some-nil}
use Rattle.octets.specs.Little.{little, value}
use Rattle.model.specs.Types.{Model, Packet, Pair, device_of, watched}
use Rattle.model.specs.Watch.{is_pair, holds}
use Rattle.model.specs.Layout.{pair_size, pairs_at}
use Rattle.months.specs.Counts.{watching}
use Rattle.packets.specs.KeysLaws.{pair-true, pair-false, key-pairs}
use Rattle.packets.specs.Writes.{no_pair}
use Rattle.packets.specs.Moves.{AtPair, pair_at}
use Rattle.packets.specs.MovesLaws.{pair_fits}
use Rattle.packets.specs.Starts.{Holding, Sought}
use Rattle.counts.specs.Causes.{wanted, wants_for}
use Rattle.counts.specs.Ticks.{watched_for}

-- a row within the number of pairs
pub at_pair : (m : Model) (s : List ℕ) (n i : ℕ) → Holding m s n → i < n → AtPair m s i
at_pair m s n i w b = record { measured = w.measured; block = w.block; within = omega (arith, w.count) }

-- the search: what is left at row i has the answer
module _ (m : Model) (s : List ℕ) (n : ℕ) (p : Packet) (h key i : ℕ) (w : Holding m s n) (x : Sought p h key)
    (q : holds m.pairs h (device_of p) ≡ holds (drop i m.pairs) h (device_of p)) where
  key-at : (b : i < n) (k : ℕ) → k ≡ little 8 s (pairs_at + pair_size * i)
      → k ≡ (get_or m.pairs i no_pair).handle + 256 * value (watched (get_or m.pairs i no_pair))
  unfolding pair_at
  key-at b k e =
      e ∙ ap (λ (l : List ℕ). little 8 l (pairs_at + pair_size * i)) w.block
      ∙ key-pairs m w.measured i no_pair (at_pair m s n i w b).within (pair_fits (at_pair m s n i w b))

  pub search-hit : (k : ℕ) → i < n → k ≡ little 8 s (pairs_at + pair_size * i) → k ≡ key
      → true ≡ holds m.pairs h (device_of p)
  unfolding holds pair_at
  search-hit k b e y =
      let g : Pair = get_or m.pairs i no_pair in
      let t : is_pair h (device_of p) g ≡ true =
      pair-true p x.sent h g (pair_fits (at_pair m s n i w b)) x.low (sym (key-at b k e) ∙ y ∙ x.number) in
      sym (q ∙ ap (λ (l : List Pair). some_of (is_pair h (device_of p)) l) (drop-cons m.pairs i no_pair
      (at_pair m s n i w b).within)
      ∙ some-stop (is_pair h (device_of p)) g (drop (suc i) m.pairs) t)

  pub search-miss : (k : ℕ) → i < n → k ≡ little 8 s (pairs_at + pair_size * i) → (k ≡ key → ⊥)
      → holds m.pairs h (device_of p) ≡ holds (drop (i + 1) m.pairs) h (device_of p)
  unfolding holds
  search-miss k b e y =
      let g : Pair = get_or m.pairs i no_pair in
      let t : is_pair h (device_of p) g ≡ false =
      pair-false p x.sent h g (λ z. y (key-at b k e ∙ z ∙ sym x.number)) in
      q ∙ ap (λ (l : List Pair). some_of (is_pair h (device_of p)) l)
      (drop-cons m.pairs i no_pair (at_pair m s n i w b).within)
      ∙ some-step (is_pair h (device_of p)) g (drop (suc i) m.pairs) t
      ∙ ap (λ (j : ℕ). some_of (is_pair h (device_of p)) (drop j m.pairs)) (sym (add-one i))

  pub search-end : n ≤ i → false ≡ holds m.pairs h (device_of p)
  unfolding holds
  search-end b =
      sym (q ∙ ap (λ (l : List Pair). some_of (is_pair h (device_of p)) l)
      (drop_of_length-le m.pairs {i = i} (omega (arith, w.count)))
      ∙ some-nil (is_pair h (device_of p)))

-- the search: what is left at pair i has the answer
module _ (m : Model) (s : List ℕ) (n : ℕ) (p : Packet) (h i : ℕ) (w : Holding m s n)
    (q : wanted m p h ≡ some_of (wants_for m p h) (drop i m.pairs)) where
  pub wanted-hit : i < n → true ≡ wants_for m p h (pair_at m i) → true ≡ wanted m p h
  unfolding pair_at
  wanted-hit b t =
      sym (q ∙ ap (λ (l : List Pair). some_of (wants_for m p h) l)
      (drop-cons m.pairs i no_pair (at_pair m s n i w b).within)
      ∙ some-stop (wants_for m p h) (get_or m.pairs i no_pair) (drop (suc i) m.pairs) (sym t))

  pub wanted-miss : i < n → false ≡ wants_for m p h (pair_at m i)
      → wanted m p h ≡ some_of (wants_for m p h) (drop (i + 1) m.pairs)
  unfolding pair_at
  wanted-miss b t =
      q ∙ ap (λ (l : List Pair). some_of (wants_for m p h) l)
      (drop-cons m.pairs i no_pair (at_pair m s n i w b).within)
      ∙ some-step (wants_for m p h) (get_or m.pairs i no_pair) (drop (suc i) m.pairs) (sym t)
      ∙ ap (λ (j : ℕ). some_of (wants_for m p h) (drop j m.pairs)) (sym (add-one i))

  pub wanted-end : n ≤ i → false ≡ wanted m p h
  wanted-end b =
      sym (q ∙ ap (λ (l : List Pair). some_of (wants_for m p h) l)
      (drop_of_length-le m.pairs {i = i} (omega (arith, w.count)))
      ∙ some-nil (wants_for m p h))

-- the loop that looks for one
module _ (m : Model) (s : List ℕ) (n : ℕ) (h i : ℕ) (w : Holding m s n)
    (q : watching m h ≡ some_of (watched_for m h) (drop i m.pairs)) where
  pub watching-hit : i < n → true ≡ watched_for m h (pair_at m i) → true ≡ watching m h
  unfolding pair_at
  watching-hit b t =
      sym (q ∙ ap (λ (l : List Pair). some_of (watched_for m h) l)
      (drop-cons m.pairs i no_pair (at_pair m s n i w b).within)
      ∙ some-stop (watched_for m h) (get_or m.pairs i no_pair) (drop (suc i) m.pairs) (sym t))

  pub watching-miss : i < n → false ≡ watched_for m h (pair_at m i)
      → watching m h ≡ some_of (watched_for m h) (drop (i + 1) m.pairs)
  unfolding pair_at
  watching-miss b t =
      q ∙ ap (λ (l : List Pair). some_of (watched_for m h) l)
      (drop-cons m.pairs i no_pair (at_pair m s n i w b).within)
      ∙ some-step (watched_for m h) (get_or m.pairs i no_pair) (drop (suc i) m.pairs) (sym t)
      ∙ ap (λ (j : ℕ). some_of (watched_for m h) (drop j m.pairs)) (sym (add-one i))

  pub watching-end : n ≤ i → false ≡ watching m h
  watching-end b =
      sym (q ∙ ap (λ (l : List Pair). some_of (watched_for m h) l)
      (drop_of_length-le m.pairs {i = i} (omega (arith, w.count)))
      ∙ some-nil (watched_for m h))
