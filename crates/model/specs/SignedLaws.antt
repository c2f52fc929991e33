-- Differences of natural numbers as whole numbers with a sign: `sub_ℕ a b` is a − b. When two are equal or in order,
-- sums and products. Assumes nothing.
use Rattle.std.specs.Prelude.{ℕ, zero, suc, ◌+◌, ◌-◌, ◌*◌, ◌≤◌, ◌<◌, ◌≡◌, refl, T, ltb, leb, ℤ, pos, negsuc, neg_ℤ, ◌+ℤ◌, ◌*ℤ◌, ◌≤ℤ◌, ◌<ℤ◌}
use Rattle.std.proofs.Common.{sym, ap, ap₂, ◌∙◌, subst, add-mul, arith, lt-ltb, le-ltb, le-leb, le→leb, lt→ltb}
use Rattle.std.proofs.lemmas.Bool.{lt-leb}
use Rattle.std.proofs.Math.IntN.{sub_ℕ}
use Rattle.std.specs.Int.Signed.{le_z, lt_z}
use Rattle.laws.specs.TestsLaws.{cases-le}

-- two comparisons that hold together are equal tests
pub same-leb : (a b c d : ℕ) → (a ≤ b → c ≤ d) → (c ≤ d → a ≤ b) → leb a b ≡ leb c d
same-leb a b c d f g =
    cases-le a b (λ h. le-leb a b h ∙ sym (le-leb c d (f h)))
    (λ h. lt-leb a b h ∙ sym (cases-le c d (λ k. absurd (let n : a ≤ b = g k in omega arith)) (λ k. lt-leb c d k)))

pub same-ltb : (a b c d : ℕ) → (a < b → c < d) → (c < d → a < b) → ltb a b ≡ ltb c d
same-ltb a b c d f g =
    cases-le b a (λ h. le-ltb a b h
    ∙ sym (cases-le d c (λ k. le-ltb c d k) (λ k. absurd (let n : a < b = g k in omega arith))))
    (λ h. lt-ltb a b h ∙ sym (lt-ltb c d (f h)))

pub sub-up : (a b : ℕ) → b ≤ a → sub_ℕ a b ≡ pos (a - b)
sub-up a b h = rw (le-ltb a b h)

pub sub-down : (a b : ℕ) → a < b → sub_ℕ a b ≡ negsuc (b - suc a)
sub-down a b h = rw (lt-ltb a b h)

-- a − b and c − d are equal where a + d and c + b are
pub sub_same : (a b c d : ℕ) → a + d ≡ c + b → sub_ℕ a b ≡ sub_ℕ c d
sub_same a b c d e =
    cases-le b a
    (λ h. let k : a - b ≡ c - d = omega arith in sub-up a b h ∙ ap pos k ∙ sym (sub-up c d (omega arith)))
    (λ h. let k : b - suc a ≡ d - suc c = omega arith in sub-down a b h ∙ ap negsuc k
    ∙ sym (sub-down c d (omega arith)))

pub pos-sub : (a : ℕ) → pos a ≡ sub_ℕ a 0
pos-sub a = let k : a ≡ a - 0 = omega arith in ap pos k ∙ sym (sub-up a 0 (omega arith))

pub neg-sub : (k : ℕ) → neg_ℤ (pos k) ≡ sub_ℕ 0 k
neg-sub zero = refl
neg-sub (suc k) = let j : k ≡ suc k - 1 = omega arith in ap negsuc j ∙ sym (sub-down 0 (suc k) (omega arith))

-- the order of differences: a − b and c − d as a + d and c + b
pub sub-leb : (a b c d : ℕ) → le_z (sub_ℕ a b) (sub_ℕ c d) ≡ leb (a + d) (c + b)
sub-leb a b c d =
    cases-le b a
    (λ p. cases-le d c
    (λ q. rw (le-ltb a b p, le-ltb c d q)
    (same-leb (a - b) (c - d) (a + d) (c + b) (λ h. omega arith) (λ h. omega arith)))
    (λ q. rw (le-ltb a b p, lt-ltb c d q) (sym (lt-leb (a + d) (c + b) (omega arith)))))
    (λ p. cases-le d c
    (λ q. rw (lt-ltb a b p, le-ltb c d q) (sym (le-leb (a + d) (c + b) (omega arith))))
    (λ q. rw (lt-ltb a b p, lt-ltb c d q)
    (same-leb (d - suc c) (b - suc a) (a + d) (c + b) (λ h. omega arith) (λ h. omega arith))))

pub sub-ltb : (a b c d : ℕ) → lt_z (sub_ℕ a b) (sub_ℕ c d) ≡ ltb (a + d) (c + b)
sub-ltb a b c d =
    cases-le b a
    (λ p. cases-le d c
    (λ q. rw (le-ltb a b p, le-ltb c d q)
    (same-ltb (a - b) (c - d) (a + d) (c + b) (λ h. omega arith) (λ h. omega arith)))
    (λ q. rw (le-ltb a b p, lt-ltb c d q) (sym (le-ltb (a + d) (c + b) (omega arith)))))
    (λ p. cases-le d c
    (λ q. rw (lt-ltb a b p, le-ltb c d q) (sym (lt-ltb (a + d) (c + b) (omega arith))))
    (λ q. rw (lt-ltb a b p, lt-ltb c d q)
    (same-ltb (d - suc c) (b - suc a) (a + d) (c + b) (λ h. omega arith) (λ h. omega arith))))

pub sub-le : (a b c d : ℕ) → a + d ≤ c + b → sub_ℕ a b ≤ℤ sub_ℕ c d
sub-le a b c d h = record { le = subst T (sym (sub-leb a b c d)) (le→leb (a + d) (c + b) h) }

pub sub-lt : (a b c d : ℕ) → a + d < c + b → sub_ℕ a b <ℤ sub_ℕ c d
sub-lt a b c d h = record { lt = subst T (sym (sub-ltb a b c d)) (lt→ltb (a + d) (c + b) h) }

-- sums of differences, and a difference times a number
pub sub-add : (a b c d : ℕ) → sub_ℕ a b +ℤ sub_ℕ c d ≡ sub_ℕ (a + c) (b + d)
sub-add a b c d =
    cases-le b a
    (λ p. cases-le d c
    (λ q. ap₂ ◌+ℤ◌ (sub-up a b p) (sub-up c d q) ∙ pos-sub (a - b + (c - d))
    ∙ sub_same (a - b + (c - d)) 0 (a + c) (b + d) (omega arith))
    (λ q. ap₂ ◌+ℤ◌ (sub-up a b p) (sub-down c d q) ∙ sub_same (a - b) (suc (d - suc c)) (a + c) (b + d) (omega arith)))
    (λ p. cases-le d c
    (λ q. ap₂ ◌+ℤ◌ (sub-down a b p) (sub-up c d q) ∙ sub_same (c - d) (suc (b - suc a)) (a + c) (b + d) (omega arith))
    (λ q. ap₂ ◌+ℤ◌ (sub-down a b p) (sub-down c d q)
    ∙ (let k : suc (b - suc a + (d - suc c)) ≡ b + d - suc (a + c) = omega arith in ap negsuc k)
    ∙ sym (sub-down (a + c) (b + d) (omega arith))))

pub sub-times : (a b n : ℕ) → sub_ℕ a b *ℤ pos n ≡ sub_ℕ (a * n) (b * n)
sub-times a b n =
    cases-le b a
    (λ p. let e : a * n ≡ (a - b) * n + b * n = ap (λ (k : ℕ). k * n) (let z : a ≡ a - b + b = omega arith in z)
    ∙ add-mul (a - b) b n in
    ap (λ (z : ℤ). z *ℤ pos n) (sub-up a b p) ∙ pos-sub ((a - b) * n)
    ∙ sub_same ((a - b) * n) 0 (a * n) (b * n) (omega arith))
    (λ p. let e : b * n
    ≡ suc (b - suc a) * n + a * n = ap (λ (k : ℕ). k * n) (let z : b ≡ suc (b - suc a) + a = omega arith in z)
    ∙ add-mul (suc (b - suc a)) a n in
    ap (λ (z : ℤ). z *ℤ pos n) (sub-down a b p) ∙ neg-sub (suc (b - suc a) * n)
    ∙ sub_same 0 (suc (b - suc a) * n) (a * n) (b * n) (omega arith))
