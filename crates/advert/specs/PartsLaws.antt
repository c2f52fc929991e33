-- Laws of the definitions in Parts.
use Rattle.std.specs.Prelude.{◌≡◌, ℕ, zero, suc, ◌+◌, ◌-◌, ◌<◌, ◌≤◌, Bool, true, false, List, [], ◌∷◌, length, take, drop, nat_le, slice_index, slice_index_or, refl}
use Rattle.std.proofs.Common.{add-one, arith, le-leb, length-drop, drop_of_length-le, drop-cons, drop-drop, take_all, length-take-le}
use Rattle.std.proofs.lemmas.Bool.{lt-leb}
use Rattle.laws.specs.Loops.{when}
use Rattle.laws.specs.LoopsLaws.{when_false}
use Rattle.advert.specs.Parts.{parts_from, parts, PartAt}

-- what is left of a text from an index on, as a part of it
pub rest-whole : (k : ℕ) (l : List ℕ) → take (length l - k) (drop k l) ≡ drop k l
rest-whole k l = take_all (length l - k) (drop k l) (simp length-drop (omega arith))

-- what passing over k octets means
pub parts_from_lem : (least : ℕ) (xs : List ℕ) (k : ℕ) → parts_from least xs k ≡ parts least (drop k xs)
unfolding parts_from parts
parts_from_lem least [] zero = refl
parts_from_lem least [] (suc k) = refl
parts_from_lem least (x ∷ xs) zero = refl
parts_from_lem least (x ∷ xs) (suc k) = parts_from_lem least xs k

pub parts-nil : (least : ℕ) → parts least [] ≡ []
unfolding parts_from parts
parts-nil least = refl

pub parts-short : (least x : ℕ) (xs : List ℕ) → x < least → parts least (x ∷ xs) ≡ []
unfolding parts_from parts
parts-short least x xs h = when_false _ (lt-leb least x h)

pub parts-past : (least x : ℕ) (xs : List ℕ) → length xs < x → parts least (x ∷ xs) ≡ []
unfolding parts_from parts when
parts-past least x xs h = go (nat_le least x)
  where
    go : (t : Bool) → when t (when (nat_le x (length xs)) (take x xs ∷ parts_from least xs x)) ≡ []
    go true = rw (lt-leb x (length xs) h)
    go false = refl

pub parts_more : (least x : ℕ) (xs : List ℕ) → least ≤ x → x ≤ length xs
    → parts least (x ∷ xs) ≡ take x xs ∷ parts least (drop x xs)
unfolding parts_from parts when
parts_more least x xs h b = rw (le-leb least x h, le-leb x (length xs) b, parts_from_lem least xs x)

module _ (least : ℕ) (xs : List ℕ) (i : ℕ) where
  -- where a text has no part at an index
  none-at : i ≤ length xs → parts least (drop i xs) ≡ [] → PartAt least xs i i
  none-at h e = record {
    low = omega arith;
    high = h;
    none = λ _. e;
    room = λ b. absurd (omega arith);
    more = λ b. absurd (omega arith);
  }

  pub part_end : i ≡ length xs → PartAt least xs i i
  part_end h = none-at (omega arith) (rw (drop_of_length-le xs {i = i} (omega arith)) (parts-nil least))

  pub part-short : i < length xs → slice_index xs i < least → PartAt least xs i i
  part-short h b = none-at (omega arith)
      (rw (drop-cons xs i 0 h) (parts-short least (slice_index xs i) (drop (suc i) xs) b))

  pub part-past : i < length xs → length xs < i + 1 + slice_index xs i → PartAt least xs i i
  part-past h b =
      none-at (omega arith)
      (rw (drop-cons xs i 0 h) (parts-past least (slice_index xs i) (drop (suc i) xs) (simp length-drop (omega arith))))

  pub part-found : (e : ℕ) → i < length xs → least ≤ slice_index xs i → e ≡ i + 1 + slice_index xs i → e ≤ length xs
      → PartAt least xs i e
  part-found e h b q f =
      let m : parts least (drop i xs) ≡ take (slice_index xs i) (drop (suc i) xs) ∷ parts least
      (drop (slice_index xs i) (drop (suc i) xs)) =
      rw (drop-cons xs i 0 h) (parts_more least (slice_index xs i) (drop (suc i) xs) b (simp length-drop (omega arith))) in
      let d : e - (i + 1) ≡ slice_index_or xs i 0 = omega arith in
      let s : suc i + slice_index xs i ≡ e = omega arith in
      record {
        low = omega arith;
        high = f;
        none = λ z. absurd (omega arith);
        room = λ _. omega arith;
        more = λ _. rw (d, add-one i) (rw (drop-drop (slice_index xs i) (suc i) xs, s) at m);
      }

-- a part is no shorter than the least
pub part-least : (least : ℕ) (xs : List ℕ) (i e : ℕ) → PartAt least xs i e → i < e
    → least ≤ length (take (e - (i + 1)) (drop (i + 1) xs))
part-least least xs i e p h =
    let f : e ≤ length xs = p.high in
    let r : i + least < e = p.room h in
    let n : length (take (e - (i + 1)) (drop (i + 1) xs)) ≡ e - (i + 1) =
    length-take-le (e - (i + 1)) (drop (i + 1) xs) (simp length-drop (omega arith)) in
    omega arith
