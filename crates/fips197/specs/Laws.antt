-- The key schedule by whole round keys, and the turns of the cipher's loop. Assumes nothing.
use Rattle.std.specs.Prelude.{ℕ, zero, suc, ◌+◌, ◌-◌, ◌*◌, ◌/◌, ◌%◌, ◌≡◌, refl, List, [], ◌∷◌, ◌++◌}
use Rattle.std.proofs.Common.{sym, ap, ◌∙◌, add-one, arith, eq-eqb, ne_eqb}
use Rattle.laws.specs.Tests.{pick}
use Rattle.fips197.specs.Field.{xtimes}
use Rattle.fips197.specs.Words.{word, sums, rotated}
use Rattle.fips197.specs.Cipher.{cell, column, sub_bytes, shift_rows, mix_columns, add_round_key, rot_word, sub_word, power_of_x, rcon, temp, next_words, key_expansion, round_key, rounds, cipher}

-- the window of four words moved by one: where the new word's number is a multiple of 4, with the first octet of the
-- round constant, and elsewhere
unfoldable first : ℕ → List ℕ → List ℕ
first rc k =
    let u = sums (sub_word (rot_word (column k 3))) (rc ∷ 0 ∷ 0 ∷ 0 ∷ []) in
    column k 1 ++ column k 2 ++ column k 3 ++ sums (column k 0) u

unfoldable other : List ℕ → List ℕ
other k = column k 1 ++ column k 2 ++ column k 3 ++ sums (column k 0) (column k 3)

first-words : (n : ℕ) (k : List ℕ) → next_words (4 * n + 4) k ≡ first (power_of_x n) k
unfolding next_words temp pick rcon first
first-words n k =
    let d : (4 * n + 4) / 4 - 1 ≡ n = omega arith in
    rw (eq-eqb ((4 * n + 4) % 4) 0 (omega arith), d)

other-words : (i : ℕ) (k : List ℕ) → (i % 4 ≡ 0 → ⊥) → next_words i k ≡ other k
unfolding next_words temp pick other
other-words i k h = rw (ne_eqb (i % 4) 0 h)

-- four words of the key schedule from the four before them, with the first octet of the round constant
unfoldable pub next_key : ℕ → List ℕ → List ℕ
next_key rc k =
    let u = sums (sub_word (rot_word (column k 3))) (rc ∷ 0 ∷ 0 ∷ 0 ∷ []) in
    let a = sums (column k 0) u in
    let b = sums (column k 1) a in
    let c = sums (column k 2) b in
    let d = sums (column k 3) c in
    a ++ b ++ c ++ d

-- the window moved by four
moved : (rc : ℕ) (k : List ℕ) → other (other (other (first rc k))) ≡ next_key rc k
unfolding first other next_key column word sums cell rot_word rotated sub_word
moved rc k = refl

-- the round keys one after the other
next-key : (key : List ℕ) (n : ℕ) → round_key key (suc n) ≡ next_key (power_of_x n) (round_key key n)
unfolding round_key key_expansion
next-key key n =
    let e : 4 * suc n ≡ suc (suc (suc (suc (4 * n)))) = omega arith in
    let k1 = first (power_of_x n) (round_key key n) in
    rw (
      e,
      first-words n (round_key key n),
      other-words (suc (4 * n) + 4) k1 (λ z. omega arith),
      other-words (suc (suc (4 * n)) + 4) (other k1) (λ z. omega arith),
      other-words (suc (suc (suc (4 * n))) + 4) (other (other k1)) (λ z. omega arith),
    )
    (moved (power_of_x n) (round_key key n))

-- one turn of the loop: a round
module _ (key s : List ℕ) (n : ℕ) {rc q : ℕ} {k k' p m p' : List ℕ} (hr : rc ≡ power_of_x n) (hk : k ≡ round_key key n)
    (hp : p ≡ rounds key s n) (eq : q ≡ xtimes rc) (ek : k' ≡ next_key rc k)
    (em : m ≡ mix_columns (shift_rows (sub_bytes p))) (ep : p' ≡ add_round_key m k') where
  pub round-turn : (q ≡ power_of_x (n + 1)) × (k' ≡ round_key key (n + 1)) × (p' ≡ rounds key s (n + 1))
  unfolding power_of_x rounds
  round-turn =
      let e : k' ≡ round_key key (suc n) = rw (ek, hr, hk, next-key key n) in
      rw (add-one n) (rw (eq, hr), e, rw (ep, em, hp, e))

-- what follows the loop: the last round
pub cipher-end : (key block : List ℕ) {rc : ℕ} {k p l : List ℕ} → rc ≡ power_of_x 9 → k ≡ round_key key 9
    → p ≡ rounds key (add_round_key block key) 9 → l ≡ next_key rc k
    → add_round_key (shift_rows (sub_bytes p)) l ≡ cipher key block
unfolding cipher round_key key_expansion
cipher-end key block hr hk hp el = rw (hp, el, hr, hk, sym (next-key key 9))
