-- Laws of the definitions in Words.
use Rattle.std.specs.Prelude.{ℕ, ◌+◌, ◌-◌, ◌/◌, ◌%◌, ◌≤◌, ◌<◌, ◌≡◌, List, [], ◌∷◌, ◌++◌, take}
use Rattle.std.proofs.Common.{ap, eq-eqb, ne_eqb, lt-ltb, le-ltb}
use Rattle.decimals.specs.Decimals.{decimal}
use Rattle.lines.specs.Hex.{digit}
use Rattle.model.specs.Quoted.{codes}
use Rattle.texts.specs.Text.{room}
use Rattle.texts.specs.ChainsLaws.{then, same, taken, left}
use Rattle.texts.specs.Words.{pair_of, colon_pair, address_text, kind_text, two_of, time_text, level_text}

module _ (t : List ℕ) where
  pub pair-so : (x a b : ℕ) {r : List ℕ} → a ≡ digit (x / 16) → b ≡ digit (x % 16) → r ≡ take room (t ++ (a ∷ b ∷ []))
      → r ≡ take room (t ++ pair_of x)
  unfolding pair_of
  pair-so x a b p q e = same t (a ∷ b ∷ []) (digit (x / 16) ∷ digit (x % 16) ∷ []) e (rw (p, q))

  pub colon-so : (v o : ℕ) {s r : List ℕ} → o ≡ v % 256 → s ≡ take room (t ++ codes ":")
      → r ≡ take room (s ++ pair_of o) → r ≡ take room (t ++ colon_pair v)
  unfolding colon_pair
  colon-so v o k e q =
      same t (codes ":" ++ pair_of o) (codes ":" ++ pair_of (v % 256)) (then t (codes ":") (pair_of o) e q)
      (ap (λ (j : ℕ). codes ":" ++ pair_of j) k)

  pub address-so : (v o : ℕ) {a b c d e f : List ℕ} → o ≡ v / 281474976710656 % 256 → a ≡ take room (t ++ pair_of o)
      → b ≡ take room (a ++ colon_pair (v / 1099511627776))
      → c ≡ take room (b ++ colon_pair (v / 4294967296)) → d ≡ take room (c ++ colon_pair (v / 16777216))
      → e ≡ take room (d ++ colon_pair (v / 65536))
      → f ≡ take room (e ++ colon_pair (v / 256)) → f ≡ take room (t ++ address_text v)
  unfolding address_text
  address-so v o k ea eb ec ed ee ef =
      let p = pair_of (v / 281474976710656 % 256) in
      let x = colon_pair (v / 1099511627776) in
      let y = colon_pair (v / 4294967296) in
      let z = colon_pair (v / 16777216) in
      let w = colon_pair (v / 65536) in
      then t (p ++ x ++ y ++ z ++ w) (colon_pair (v / 256))
      (then t (p ++ x ++ y ++ z) w
      (then t (p ++ x ++ y) z (then t (p ++ x) y (then t p x (same t (pair_of o) p ea (ap pair_of k)) eb) ec) ed)
      ee) ef

  pub kind-public : (d : ℕ) {r : List ℕ} → d % 256 ≡ 0 → r ≡ take room (t ++ codes "public")
      → r ≡ take room (t ++ kind_text d)
  unfolding kind_text
  kind-public d k e = taken t (codes "public") (codes "random") (eq-eqb (d % 256) 0 k) e

  pub kind-random : (d : ℕ) {r : List ℕ} → (d % 256 ≡ 0 → ⊥) → r ≡ take room (t ++ codes "random")
      → r ≡ take room (t ++ kind_text d)
  unfolding kind_text
  kind-random d k e = left t (codes "public") (codes "random") (ne_eqb (d % 256) 0 k) e

  pub two-so : (n a b : ℕ) {r : List ℕ} → a ≡ (48 + n / 10 % 10) % 256 → b ≡ (48 + n % 10) % 256
      → r ≡ take room (t ++ (a ∷ b ∷ [])) → r ≡ take room (t ++ two_of n)
  unfolding two_of
  two-so n a b p q e = same t (a ∷ b ∷ []) ((48 + n / 10 % 10) % 256 ∷ (48 + n % 10) % 256 ∷ []) e (rw (p, q))

  pub time-so : (n : ℕ) {a b c d e f : List ℕ} → a ≡ take room (t ++ (codes "" ++ decimal (n / 36000)))
      → b ≡ take room (a ++ codes ":")
      → c ≡ take room (b ++ two_of (n / 600 % 60)) → d ≡ take room (c ++ codes ":")
      → e ≡ take room (d ++ two_of (n / 10 % 60))
      → f ≡ take room (e ++ (codes "." ++ decimal (n % 10))) → f ≡ take room (t ++ time_text n)
  unfolding time_text
  time-so n ea eb ec ed ee ef =
      let h = codes "" ++ decimal (n / 36000) in
      let m = two_of (n / 600 % 60) in
      let s = two_of (n / 10 % 60) in
      then t (h ++ codes ":" ++ m ++ codes ":" ++ s) (codes "." ++ decimal (n % 10))
      (then t (h ++ codes ":" ++ m ++ codes ":") s
      (then t (h ++ codes ":" ++ m) (codes ":") (then t (h ++ codes ":") m (then t h (codes ":") ea eb) ec) ed)
      ee) ef

  pub level-below : (x : ℕ) {r : List ℕ} → x < 128 → r ≡ take room (t ++ (codes "-" ++ decimal (128 - x)))
      → r ≡ take room (t ++ level_text x)
  unfolding level_text
  level-below x k e = taken t (codes "-" ++ decimal (128 - x)) (codes "" ++ decimal (x - 128)) (lt-ltb x 128 k) e

  pub level-above : (x : ℕ) {r : List ℕ} → 128 ≤ x → r ≡ take room (t ++ (codes "" ++ decimal (x - 128)))
      → r ≡ take room (t ++ level_text x)
  unfolding level_text
  level-above x k e = left t (codes "-" ++ decimal (128 - x)) (codes "" ++ decimal (x - 128)) (le-ltb x 128 k) e
