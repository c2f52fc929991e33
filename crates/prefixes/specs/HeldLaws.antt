-- Laws of the definitions in Held.
use Rattle.std.specs.Prelude.{ℕ, zero, suc, ◌+◌, ◌-◌, ◌*◌, ◌≤◌, ◌<◌, ◌≡◌, refl}
use Rattle.std.proofs.Math.Path.{sym, ap}
use Rattle.std.proofs.Common.{◌∙◌, zero-add, suc-add, take-suc, length-take-le}
use mathlib.Core.List.{List, [], ◌∷◌, ◌++◌, map}
use native.Mathlib.Omega.{arith}
use lib.ListN.{length, take, drop, get_or, length-map, length-drop}
use Rattle.std.proofs.Math.Seq.{get_or-drop, take_all, drop-drop}
use Rattle.laws.specs.TestsLaws.{cases-le}
use Rattle.laws.specs.Rows.{rows, row}
use Rattle.laws.specs.RowsLaws.{row_at, length-rows, get_d-row, length-row}
use Rattle.octets.specs.Little.{little}
use Rattle.octets.specs.LittleLaws.{little-row, little-drop}
use Rattle.octets.specs.Numbers.{number_at, at_most}
use Rattle.octets.specs.NumbersLaws.{number-of, at-is, at-over, at-most}
use Rattle.model.specs.Layout.{most_prefix}
use Rattle.editions.specs.Editions.{Edition, edition_in, most_editions}
use Rattle.editions.specs.Block.{edition_size, edition_count_at, editions_of}
use Rattle.wholes.specs.Layout.{editions_at, editions_count_at, whole_size}
use Rattle.index.specs.ReadLaws.{rows-most}
use Rattle.prefixes.specs.Held.{listed, edition_count, row_in, edition_at}

map-take : {A B : Type 0} (f : A → B) (n : ℕ) (l : List A) → take n (map f l) ≡ map f (take n l)
map-take f zero l = refl
map-take f (suc n) [] = refl
map-take f (suc n) (a ∷ l) = ap (λ k. f a ∷ k) (map-take f n l)

map-drop : {A B : Type 0} (f : A → B) (n : ℕ) (l : List A) → drop n (map f l) ≡ map f (drop n l)
map-drop f zero l = refl
map-drop f (suc n) [] = refl
map-drop f (suc n) (a ∷ l) = map-drop f n l

map_snoc : {A B : Type 0} (f : A → B) (l : List A) (a : A) → map f (l ++ (a ∷ [])) ≡ map f l ++ (f a ∷ [])
map_snoc f [] a = refl
map_snoc f (b ∷ l) a = ap (λ k. f b ∷ k) (map_snoc f l a)

take-take : {A : Type 0} (i n : ℕ) (l : List A) → i ≤ n → take i (take n l) ≡ take i l
take-take zero n l h = refl
take-take (suc i) zero l h = absurd (omega arith)
take-take (suc i) (suc n) [] h = refl
take-take (suc i) (suc n) (a ∷ l) h = ap (λ k. a ∷ k) (take-take i n l (omega arith))

drop-take : {A : Type 0} (i n : ℕ) (l : List A) → i < n → n ≤ length l → (d : A)
    → drop i (take n l) ≡ get_or l i d ∷ drop (suc i) (take n l)
drop-take i zero l h k d = absurd (omega arith)
drop-take zero (suc n) [] h k d = absurd (omega arith)
drop-take zero (suc n) (a ∷ l) h k d = refl
drop-take (suc i) (suc n) [] h k d = absurd (omega arith)
drop-take (suc i) (suc n) (a ∷ l) h k d = drop-take i n l (omega arith) (omega arith) d

drop_of_take : {A : Type 0} (i k : ℕ) (l : List A) → drop i (take (i + k) l) ≡ take k (drop i l)
drop_of_take zero k l = ap (λ j. take j l) (zero-add k)
drop_of_take (suc i) k [] = ap (λ j. drop (suc i) (take {A = _} j [])) (suc-add i k) ∙ sym (take-nil k)
  where
    take-nil : {A : Type 0} (n : ℕ) → take {A = A} n [] ≡ []
    take-nil zero = refl
    take-nil (suc n) = refl
drop_of_take (suc i) k (a ∷ l) = ap (λ j. drop (suc i) (take j (a ∷ l))) (suc-add i k) ∙ drop_of_take i k l

module _ (s : List ℕ) where
  abbrev rs : List (List ℕ)
  rs = rows edition_size most_editions (drop editions_at s)

  pub count_most : edition_count s ≤ most_editions
  unfolding edition_count
  count_most = at-most (get_or s editions_count_at 0) most_editions

  listed-is : listed s ≡ map edition_in (take (edition_count s) rs)
  unfolding listed edition_count editions_of
  listed-is =
      ap (λ (k : ℕ). map edition_in (take k rs)) (get_or-drop editions_at s edition_count_at 0)
      ∙ ap (map edition_in) (sym (rows-most edition_size most_editions (drop editions_at s) (get_or s editions_count_at 0)))

  rows_long : length rs ≡ most_editions
  rows_long = length-rows edition_size most_editions (drop editions_at s)

  pub listed-count : length (listed s) ≡ edition_count s
  listed-count =
      let h = count_most in let n = rows_long in
      ap length listed-is ∙ length-map (take (edition_count s) rs) edition_in
      ∙ length-take-le (edition_count s) rs (omega arith)

  module _ (i : ℕ) (h : i < edition_count s) where
    at_row : get_or rs i [] ≡ row_in s i
    unfolding row_in
    at_row = let m = count_most in row_at edition_size most_editions i (drop editions_at s) (omega arith)

    pub listed-take : take (suc i) (listed s) ≡ take i (listed s) ++ (edition_at s i ∷ [])
    unfolding edition_at
    listed-take =
        let m = count_most in let n = rows_long in
        let cut : (j : ℕ) → j ≤ edition_count s → take j (listed s) ≡ map edition_in (take j rs) =
        λ j k. ap (take j) listed-is ∙ map-take edition_in j (take (edition_count s) rs)
        ∙ ap (map edition_in) (take-take j (edition_count s) rs k) in
        cut (suc i) (omega arith) ∙ ap (map edition_in) (take-suc rs i [] (omega arith))
        ∙ map_snoc edition_in (take i rs) (get_or rs i [])
        ∙ ap (λ (r : List ℕ). map edition_in (take i rs) ++ (edition_in r ∷ [])) at_row
        ∙ ap (λ (l : List Edition). l ++ (edition_in (row_in s i) ∷ [])) (sym (cut i (omega arith)))

    pub listed-drop : drop i (listed s) ≡ edition_at s i ∷ drop (suc i) (listed s)
    unfolding edition_at
    listed-drop =
        let m = count_most in let n = rows_long in
        ap (drop i) listed-is ∙ map-drop edition_in i (take (edition_count s) rs)
        ∙ ap (map edition_in) (drop-take i (edition_count s) rs h (omega arith) [])
        ∙ ap (λ (r : List ℕ). edition_in r ∷ map edition_in (drop (suc i) (take (edition_count s) rs))) at_row
        ∙ ap (λ (l : List Edition). edition_in (row_in s i) ∷ l)
        (sym (ap (drop (suc i)) listed-is ∙ map-drop edition_in (suc i) (take (edition_count s) rs)))

  pub listed-all : take (edition_count s) (listed s) ≡ listed s
  listed-all = let n = listed-count in take_all (edition_count s) (listed s) (omega arith)

  pub listed-end : drop (edition_count s) (listed s) ≡ []
  listed-end = let n = listed-count in lib.ListN.drop_of_length-le (listed s) {i = edition_count s} (omega arith)

  module _ (i : ℕ) (l : length s ≡ whole_size) (b : i < most_editions) where
    pub row-long : length (row_in s i) ≡ edition_size
    unfolding row_in
    row-long = length-row edition_size i most_editions (drop editions_at s) b (simp length-drop (omega arith))

    pub from-read : {v : ℕ} → v ≡ number_at 4 s (editions_at + edition_size * i) → v ≡ (edition_at s i).from
    unfolding edition_at edition_in row_in
    from-read {v} e =
        number-of 4 s (editions_at + edition_size * i) e (omega arith)
        ∙ sym (little-row 4 edition_size i 0 (drop editions_at s) (omega arith)
        ∙ little-drop 4 editions_at s (edition_size * i + 0) ∙ ap (little 4 s) (omega arith))

    -- its prefix, with the length held to 32
    length-octet : get_or (row_in s i) 4 0 ≡ get_or s (editions_at + edition_size * i + 4) 0
    unfolding row_in
    length-octet =
        get_d-row edition_size i 4 (drop editions_at s) 0 (omega arith) ∙ get_or-drop editions_at s (edition_size * i + 4) 0
        ∙ ap (λ (j : ℕ). get_or s j 0) (omega arith)

    behind : (k : ℕ) → k ≤ most_prefix
        → take k (drop 5 (row_in s i)) ≡ take k (drop (editions_at + edition_size * i + 4 + 1) s)
    unfolding row_in row
    behind k h =
        let q : editions_at + (edition_size * i + 5) ≡ editions_at + edition_size * i + 4 + 1 = omega arith in
        ap (take k) (drop_of_take 5 (edition_size - 5) (drop (edition_size * i) (drop editions_at s)))
        ∙ take-take k (edition_size - 5) (drop 5 (drop (edition_size * i) (drop editions_at s))) (omega arith)
        ∙ ap (take k) (drop-drop 5 (edition_size * i) (drop editions_at s) ∙ drop-drop (edition_size * i + 5) editions_at s
        ∙ ap (λ (j : ℕ). drop j s) q)

    pub prefix-read : (k v : ℕ) → k ≡ at_most v most_prefix → v ≡ get_or s (editions_at + edition_size * i + 4) 0
        → (edition_at s i).prefix ≡ take k (drop (editions_at + edition_size * i + 4 + 1) s)
    unfolding edition_at edition_in
    prefix-read k v e q =
        let n : length (drop 5 (row_in s i)) ≡ most_prefix = let r = row-long in simp length-drop (omega arith) in
        ap (λ (j : ℕ). take j (drop 5 (row_in s i))) (length-octet ∙ sym q)
        ∙ cases-le v most_prefix
        (λ h. ap (λ (j : ℕ). take j (drop 5 (row_in s i))) (at-is v most_prefix h ∙ sym e))
        (λ h. take_all v (drop 5 (row_in s i)) (omega arith)
        ∙ sym (ap (λ (j : ℕ). take j (drop 5 (row_in s i))) (e ∙ sym (at-over v most_prefix h))
        ∙ take_all most_prefix (drop 5 (row_in s i)) (omega arith)))
        ∙ behind k (let m = at-most v most_prefix in omega arith)

    pub prefix-short : (k v : ℕ) → k ≡ at_most v most_prefix → v ≡ get_or s (editions_at + edition_size * i + 4) 0
        → length (edition_at s i).prefix ≡ k
    prefix-short k v e q =
        let m = at-most v most_prefix in
        ap length (prefix-read k v e q)
        ∙ length-take-le k (drop (editions_at + edition_size * i + 4 + 1) s) (simp length-drop (omega arith))

    pub prefix-most : length (edition_at s i).prefix ≤ most_prefix
    prefix-most =
        let v : ℕ = get_or s (editions_at + edition_size * i + 4) 0 in
        let m = at-most v most_prefix in let p : length (edition_at s i).prefix ≡ at_most v most_prefix =
        prefix-short (at_most v most_prefix) v refl refl in omega arith
