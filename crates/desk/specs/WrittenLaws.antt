-- Laws of the definitions in Written.
use Rattle.std.specs.Prelude.{ℕ, ◌+◌, ◌-◌, ◌*◌, ◌%◌, ◌≤◌, ◌<◌, ◌≡◌, Bool, true, false, ◌&&◌, List, [], ◌∷◌, length, Some, None}
use Rattle.std.proofs.Common.{sym, ◌∙◌, arith}
use Rattle.std.proofs.Math.Path.{ap}
use borrow.Author.Tests.{le-leb, lt-leb, lt-ltb, le-ltb}
use Rattle.std.proofs.Math.Dec.{ltb, eqb}
use Rattle.laws.specs.Tests.{pick, sames}
use Rattle.laws.specs.TestsLaws.{pick_true, pick-false}
use Rattle.octets.specs.Numbers.{number_at}
use Rattle.model.specs.Quoted.{codes}
use Rattle.desk.specs.Written.{digit_of, char_at, is_pair, is_colon, octet_at, is_address, address_in, address_of, type_of}

-- the branches of a digit
module _ (c : ℕ) where
  pub digit-below : c < 48 → 16 ≡ digit_of c
  unfolding digit_of pick
  digit-below h = rw (lt-ltb c 48 h)

  pub digit-number : 48 ≤ c → c ≤ 57 → c - 48 ≡ digit_of c
  unfolding digit_of pick
  digit-number h k = rw (le-ltb c 48 h, le-leb c 57 k)

  pub digit-between : 57 < c → c < 65 → 16 ≡ digit_of c
  unfolding digit_of pick
  digit-between h k = rw (le-ltb c 48 (omega arith), lt-leb c 57 h, lt-ltb c 65 k)

  pub digit-upper : 65 ≤ c → c ≤ 70 → c - 65 + 10 ≡ digit_of c
  unfolding digit_of pick
  digit-upper h k = rw (le-ltb c 48 (omega arith), lt-leb c 57 (omega arith), le-ltb c 65 h, le-leb c 70 k)

  pub digit-among : 70 < c → c < 97 → 16 ≡ digit_of c
  unfolding digit_of pick
  digit-among h k =
      rw (
        le-ltb c 48 (omega arith),
        lt-leb c 57 (omega arith),
        le-ltb c 65
            (omega arith),
        lt-leb c 70 h,
        lt-ltb c 97 k,
      )

  pub digit-lower : 97 ≤ c → c ≤ 102 → c - 97 + 10 ≡ digit_of c
  unfolding digit_of pick
  digit-lower h k =
      rw (
        le-ltb c 48 (omega arith),
        lt-leb c 57 (omega arith),
        le-ltb c 65 (omega arith),
        lt-leb c 70 (omega arith),
        le-ltb c 97 h,
        le-leb c 102 k,
      )

  pub digit-above : 102 < c → 16 ≡ digit_of c
  unfolding digit_of pick
  digit-above h =
      rw (
        le-ltb c 48 (omega arith),
        lt-leb c 57 (omega arith),
        le-ltb c 65 (omega arith),
        lt-leb c 70 (omega arith),
        le-ltb c 97 (omega arith),
        lt-leb c 102 h,
      )

-- the branches of a type
pub type-public : (w : List ℕ) → sames w (codes "public") ≡ true → Some 0 ≡ type_of w
unfolding type_of
type-public w e = sym (pick_true (Some 0) _ e)

pub type-random : (w : List ℕ) → sames w (codes "public") ≡ false → sames w (codes "random") ≡ true → Some 1 ≡ type_of w
unfolding type_of
type-random w e f = sym (pick-false (Some 0) _ e ∙ pick_true (Some 1) None f)

pub type-other : (w : List ℕ) → sames w (codes "public") ≡ false → sames w (codes "random") ≡ false → None ≡ type_of w
unfolding type_of
type-other w e f = sym (pick-false (Some 0) _ e ∙ pick-false (Some 1) None f)

-- what the parts of a text are read as
module _ (t : List ℕ) (i : ℕ) where
  pub colon-so : {c : ℕ} → c ≡ number_at 1 t i → eqb c 58 ≡ is_colon t i
  unfolding is_colon char_at
  colon-so e = ap (λ (k : ℕ). eqb k 58) e

  module _ {c d x y : ℕ} (e : c ≡ number_at 1 t i) (f : d ≡ number_at 1 t (i + 1)) (p : x ≡ digit_of c)
      (q : y ≡ digit_of d) where
    high : x ≡ digit_of (char_at t i)
    unfolding char_at
    high = p ∙ ap digit_of e

    low : y ≡ digit_of (char_at t (i + 1))
    unfolding char_at
    low = q ∙ ap digit_of f

    pub pair-so : (ltb x 16 && ltb y 16) ≡ is_pair t i
    unfolding is_pair
    pair-so = ap (λ (k : ℕ). ltb k 16 && ltb y 16) high ∙ ap (λ (k : ℕ). ltb (digit_of (char_at t i)) 16 && ltb k 16) low

    pub octet-so : (16 * x + y) % 256 ≡ octet_at t i
    unfolding octet_at
    octet-so = ap (λ (k : ℕ). (16 * k + y) % 256) high ∙ ap (λ (k : ℕ). (16 * digit_of (char_at t i) + k) % 256) low

pub address-so : (t : List ℕ) {a b c d e f g h i j k : Bool} → a ≡ is_pair t 0 → b ≡ is_colon t 2 → c ≡ is_pair t 3
    → d ≡ is_colon t 5
    → e ≡ is_pair t 6 → f ≡ is_colon t 8 → g ≡ is_pair t 9 → h ≡ is_colon t 11 → i ≡ is_pair t 12 → j ≡ is_colon t 14
    → k ≡ is_pair t 15
    → (eqb (length t) 17 && (a && b && c && d) && (e && f && g && h) && (i && j && k)) ≡ is_address t
unfolding is_address
address-so t pa pb pc pd pe pf pg ph pi pj pk = rw (pa, pb, pc, pd, pe, pf, pg, ph, pi, pj, pk)

pub octets-so : (t : List ℕ) {a b c d e f : ℕ} → a ≡ octet_at t 15 → b ≡ octet_at t 12 → c ≡ octet_at t 9
    → d ≡ octet_at t 6 → e ≡ octet_at t 3
    → f ≡ octet_at t 0 → ◌≡◌ {A = List ℕ} (a ∷ b ∷ c ∷ d ∷ e ∷ f ∷ []) (address_in t)
unfolding address_in
octets-so t pa pb pc pd pe pf = rw (pa, pb, pc, pd, pe, pf)

-- the two ways of an address
pub address-some : (t : List ℕ) {l : List ℕ} → is_address t ≡ true → l ≡ address_in t → Some l ≡ address_of t
unfolding address_of
address-some t {l} e q = ap Some q ∙ sym (pick_true (Some (address_in t)) None e)

pub address-none : (t : List ℕ) → is_address t ≡ false → None ≡ address_of t
unfolding address_of
address-none t e = sym (pick-false (Some (address_in t)) None e)
