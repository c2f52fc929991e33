-- Laws of the definitions in Two.
use Prim.Native.Nat.{ℕ, zero, suc, ◌+◌, ◌≤◌, ◌<◌}
use Rattle.std.specs.Prelude.{◌≡◌, Bool, true, false, take, drop, get_or, set}
use Rattle.std.proofs.Math.Path.{refl}
use mathlib.Core.List.{List, [], ◌∷◌}
use Rattle.std.proofs.Math.Numerals.{add-one}
use native.Mathlib.Omega.{arith}
use Rattle.std.proofs.Math.ListN.{length}
use Rattle.std.proofs.Common.{drop_of_length-le, take_all}
use Rattle.std.proofs.Math.Seq.{drop-cons}
use Rattle.laws.specs.Put.{put}
use Rattle.laws.specs.PutLaws.{put_copy}
use Rattle.laws.specs.RowsLaws.{put_whole}
use Rattle.laws.specs.TestsLaws.{and_left, and_right}
use Rattle.totals.specs.Two.{every_two, map_two}

module _ {A : Type 0} where
  pub every-two-at : (f : A → A → Bool) (l m : List A) (i : ℕ) (d : A) → every_two f l m ≡ true → i < length l
      → i < length m → f (get_or l i d) (get_or m i d) ≡ true
  unfolding every_two
  every-two-at f [] m i d e h k = absurd (omega arith)
  every-two-at f (a ∷ l) [] i d e h k = absurd (omega arith)
  every-two-at f (a ∷ l) (b ∷ m) zero d e h k = and_left (f a b) (every_two f l m) e
  every-two-at f (a ∷ l) (b ∷ m) (suc i) d e h k =
      every-two-at f l m i d (and_right (f a b) (every_two f l m) e) (omega arith) (omega arith)

  -- the turns of a loop that tests: one more passes, one fails, all are passed
  module _ (f : A → A → Bool) (l m : List A) (i : ℕ) (d : A) where
    pub every-two-step : i < length l → i < length m → f (get_or l i d) (get_or m i d) ≡ true
        → every_two f (drop (i + 1) l) (drop (i + 1) m) ≡ every_two f (drop i l) (drop i m)
    unfolding every_two
    every-two-step h k e = rw (drop-cons l i d h, drop-cons m i d k, e, add-one i)

    pub every-two-stop : i < length l → i < length m → f (get_or l i d) (get_or m i d) ≡ false
        → false ≡ every_two f (drop i l) (drop i m)
    unfolding every_two
    every-two-stop h k e = rw (drop-cons l i d h, drop-cons m i d k, e)

  pub every-two-end : (f : A → A → Bool) (l m : List A) (i : ℕ) → length l ≤ i
      → true ≡ every_two f (drop i l) (drop i m)
  unfolding every_two
  every-two-end f l m i h = rw (drop_of_length-le l {i = i} h)

  pub length-map-two : (f : A → A → A) (l m : List A) → length l ≡ length m → length (map_two f l m) ≡ length l
  unfolding map_two
  length-map-two f [] m e = refl
  length-map-two f (a ∷ l) [] e = absurd (omega arith)
  length-map-two f (a ∷ l) (b ∷ m) e = let k : length (map_two f l m) ≡ length l =
      length-map-two f l m (omega arith) in omega arith

  pub get_d-map-two : (f : A → A → A) (l m : List A) (i : ℕ) (d : A) → i < length l → i < length m
      → get_or (map_two f l m) i d ≡ f (get_or l i d) (get_or m i d)
  unfolding map_two
  get_d-map-two f [] m i d h k = absurd (omega arith)
  get_d-map-two f (a ∷ l) [] i d h k = absurd (omega arith)
  get_d-map-two f (a ∷ l) (b ∷ m) zero d h k = refl
  get_d-map-two f (a ∷ l) (b ∷ m) (suc i) d h k = get_d-map-two f l m i d (omega arith) (omega arith)

  -- the turns of a loop that puts f of each pair over the first list
  module _ (f : A → A → A) (l m : List A) (e : length l ≡ length m) (i : ℕ) {u : List A}
      (q : u ≡ put l 0 (take i (map_two f l m))) where
    pub map-two-turn : (d : A) {v : A} → i < length l → v ≡ f (get_or l i d) (get_or m i d)
        → set u i v ≡ put l 0 (take (i + 1) (map_two f l m))
    map-two-turn d h w =
        let n : length (map_two f l m) ≡ length l = length-map-two f l m e in
        rw (w, ← get_d-map-two f l m i d h (omega arith))
        (put_copy l 0 (map_two f l m) i d {n = i} (omega arith) (omega arith) (omega arith) q)

    pub map-two-end : length l ≤ i → u ≡ map_two f l m
    map-two-end h =
        let n : length (map_two f l m) ≡ length l = length-map-two f l m e in
        rw (q, take_all i (map_two f l m) (omega arith)) (put_whole l (map_two f l m) (omega arith))
