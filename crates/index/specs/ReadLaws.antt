-- Numbers and tables read from parts of slices, as the code reads them. Assumes nothing.
use Rattle.std.specs.Prelude.{ℕ, zero, suc, ◌+◌, ◌-◌, ◌*◌, ◌/◌, ◌%◌, ◌^◌, ◌≤◌, ◌<◌, ◌≡◌, refl, Bool, true, false, List, [], ◌∷◌, ◌++◌, map, leb, length, take, drop, get_or}
use Rattle.std.proofs.Common.{sym, ap, ◌∙◌, subst, add-zero, arith, le-leb, length-drop, length-take, take-append-drop, length-take-le, take_all, drop-drop}
use Rattle.std.proofs.lemmas.Bool.{lt-leb}
use Rattle.laws.specs.Tests.{pick}
use Rattle.laws.specs.TestsLaws.{cases-le}
use Rattle.laws.specs.Loops.{every}
use Rattle.laws.specs.LoopsLaws.{every_take, every_drop}
use Rattle.laws.specs.Rows.{rows}
use Rattle.laws.specs.RowsLaws.{length-rows}
use Rattle.octets.specs.Little.{little, value, is_octet}
use Rattle.octets.specs.LittleLaws.{little-add, little-value, little-take, little-drop, value-lt}
use Rattle.octets.specs.Numbers.{number_at, at_most}
use Rattle.octets.specs.NumbersLaws.{number-of, at-is, at-over}
use Rattle.model.specs.Types.{device}
use Rattle.blocks.specs.RowsLaws.{octets-cons}
use Rattle.wholes.specs.Sizes.{Seven}
use Rattle.wholes.proofs.LaidLaws.{rows-front}

-- a number of eight octets, read from its own part
pub key-read : (t : List ℕ) (at n : ℕ) {v : ℕ} → n ≡ 8 → at + 8 ≤ length t → v ≡ number_at 8 (take n (drop at t)) 0
    → v ≡ little 8 t at
key-read t at n e h w =
    let m : length (take n (drop at t)) ≡ n = length-take-le n (drop at t) (rw (length-drop at t) (omega arith)) in
    number-of 8 (take n (drop at t)) 0 w (omega arith) ∙ little-take 8 n (drop at t) 0 (omega arith)
    ∙ little-drop 8 at t 0
    ∙ ap (little 8 t) (add-zero at)

-- .. and seven octets of it
pub device-read : (t : List ℕ) (at n : ℕ) {v : ℕ} → n ≡ 8 → at + 8 ≤ length t → every is_octet t ≡ true
    → v ≡ number_at 8 (take n (drop at t)) 0
    → v % 72057594037927936 ≡ little 7 t at
device-read t at n e h o w =
    let k = key-read t at n e h w in
    let s : little 8 t at ≡ little 7 t at + 256 ^ 7 * little 1 t (at + 7) = little-add 7 1 t at in
    let x : List ℕ = take 7 (drop at t) in
    let i : little 7 t at ≡ value x = little-value 7 t at (omega arith) in
    let l : length x ≡ 7 = length-take-le 7 (drop at t) (rw (length-drop at t) (omega arith)) in
    let b : value x < 256 ^ length x = value-lt x (every_take is_octet 7 (drop at t) (every_drop is_octet at t o)) in
    let c : value x < 72057594037927936 = subst (λ (j : ℕ). value x < 256 ^ j) l b in
    omega arith

-- a device from its address type and address
pub device-value : (kind : ℕ) (a : List ℕ) {x y : ℕ} → length a ≡ 6 → x ≡ number_at 4 a 0 → y ≡ number_at 2 a 4
    → kind + 256 * (x + 4294967296 * y) ≡ value (device kind a)
unfolding device value
device-value kind a {x} {y} n p q =
    let u : x ≡ little 4 a 0 = number-of 4 a 0 p (omega arith) in
    let v : y ≡ little 2 a 4 = number-of 2 a 4 q (omega arith) in
    let s : little 6 a 0 ≡ little 4 a 0 + 256 ^ 4 * little 2 a 4 = little-add 4 2 a 0 in
    let i : little 6 a 0 ≡ value a = little-value 6 a 0 (omega arith) ∙ ap value (take_all 6 a (omega arith)) in
    omega arith

-- no more rows than there are
pub rows-most : (n k : ℕ) (t : List ℕ) (v : ℕ) → take (at_most v k) (rows n k t) ≡ take v (rows n k t)
rows-most n k t v =
    cases-le v k (λ h. ap (λ (j : ℕ). take j (rows n k t)) (sym (at-is v k h)))
    (λ h. ap (λ (j : ℕ). take j (rows n k t)) (sym (at-over v k h))
    ∙ take_all k (rows n k t) (let l = length-rows n k t in omega arith)
    ∙ sym (take_all v (rows n k t) (let l = length-rows n k t in omega arith)))

-- the rows of a part that has them
pub rows-part : (n k m : ℕ) (t : List ℕ) → m ≡ n * k → n * k ≤ length t → rows n k (take m t) ≡ rows n k t
rows-part n k m t e h =
    sym (ap (rows n k) (sym (take-append-drop m t))
    ∙ rows-front n k (take m t) (drop m t)
    (let l : length (take m t) ≡ m = length-take-le m t (omega arith) in omega arith))

pub device-seven : (kind : ℕ) (a : List ℕ) → kind < 256 → length a ≡ 6 → every is_octet a ≡ true → Seven (device kind a)
unfolding device
device-seven kind a k n o = record { long = omega arith; octets = octets-cons kind a k o }
