-- How many characters the pieces of a line in words have at most. Assumes nothing.
use Rattle.std.specs.Prelude.{ℕ, ◌+◌, ◌-◌, ◌*◌, ◌%◌, ◌≤◌, ◌<◌, ◌≡◌, refl, List, [], ◌∷◌, leb, ltb, eqb, length, take, drop}
use Prim.Native.String.{String}
use mathlib.Core.Bool.{Bool, true, false, ◌||◌}
use Rattle.std.proofs.Common.{arith, leb-true, eqb-true, length-append, length-take, length-drop}
use Rattle.laws.specs.Tests.{pick}
use Rattle.laws.specs.TestsLaws.{cases-le}
use Rattle.laws.specs.Loops.{every}
use Rattle.octets.specs.Numbers.{number_at}
use Rattle.decimals.specs.Decimals.{decimal}
use Rattle.decimals.specs.WritingTurns.{digits-most}
use Rattle.lines.specs.TextsLaws.{length-hex}
use Rattle.model.specs.Level.{level}
use Rattle.model.specs.Quoted.{codes}
use Rattle.names.specs.Names.{Row, named}
use Rattle.names.specs.NamesLaws.{is_short, named-most}
use Rattle.names.specs.Uuids.{uuid_name}
use Rattle.names.specs.UuidsLaws.{uuid-name-most}
use Rattle.texts.specs.Words.{pair_of, colon_pair, address_text, kind_text, level_text}
use Rattle.words.specs.Pieces.{part_of, number_text, dbm, sum_text, device_text, groups_text, uuid_number, named_or}
use Rattle.words.specs.Uuids.{is_wide, is_based, short_of, bracketed, behind_uuid, uuid_text}

-- one of two texts
pub by : (b : Bool) (xs ys : List ℕ) (n : ℕ) → (b ≡ true → length xs ≤ n) → (b ≡ false → length ys ≤ n)
    → length (pick b xs ys) ≤ n
unfolding pick
by true xs ys n f g = f refl
by false xs ys n f g = g refl

pub digits : (n : ℕ) → length (decimal n) ≤ 20
unfolding decimal
digits n = digits-most 19 n

pub number-long : (s : List ℕ) → length (number_text s) ≡ 2 * length s
unfolding number_text pair_of
number-long [] = refl
number-long (x ∷ s) = let h = number-long s in simp length-append (omega arith)

pub part-most : (s : List ℕ) (from n : ℕ) → length (part_of s from n) ≤ n
unfolding part_of
part-most s from n = by (leb (from + n) (length s)) _ _ n (λ e. simp length-take (omega arith)) (λ e. omega arith)

pub part-within : (s : List ℕ) (from n : ℕ) → length (part_of s from n) ≤ length s
unfolding part_of
part-within s from n =
    by (leb (from + n) (length s)) _ _ (length s) (λ e. simp (length-take, length-drop) (omega arith))
    (λ e. omega arith)

-- two parts one behind the other
pub parts_within : (s : List ℕ) (a b : ℕ) → length (part_of s 9 a) + length (part_of s (9 + a + 1) b) ≤ length s
unfolding part_of
parts_within s a b =
    let g : (p : Bool) → leb (9 + a + 1 + b) (length s) ≡ p
    → length (part_of s 9 a) + length (pick p (take b (drop (9 + a + 1) s)) []) ≤ length s = go in
    g (leb (9 + a + 1 + b) (length s)) refl
  where
    go : (p : Bool) → leb (9 + a + 1 + b) (length s) ≡ p
        → length (part_of s 9 a) + length (pick p (take b (drop (9 + a + 1) s)) []) ≤ length s
    go true e =
        let h = leb-true (9 + a + 1 + b) (length s) e in
        let k = part-most s 9 a in
        let m : length (pick true (take b (drop (9 + a + 1) s)) []) ≤ b =
        by true _ _ b (λ q. simp length-take (omega arith)) (λ q. omega arith) in
        omega arith
    go false e =
        let k = part-within s 9 a in
        let m : length (pick false (take b (drop (9 + a + 1) s)) []) ≤ 0 =
        by false _ _ 0 (λ q. absurd (mathlib.Core.Bool.false≢true q)) (λ q. omega arith) in
        omega arith

level-most : (x : ℕ) → length (level_text x) ≤ 21
unfolding level_text codes
level-most x = by (ltb x 128) _ _ 21 (λ e. let k = digits (128 - x) in simp length-append (omega arith))
    (λ e. let k = digits (x - 128) in simp length-append (omega arith))

pub dbm-most : (x : ℕ) → length (dbm x) ≤ 25
unfolding dbm codes
dbm-most x = let k = level-most (level x) in simp length-append (omega arith)

pub sum-most : (v : ℕ) → length (sum_text v) ≤ 21
unfolding sum_text codes
sum-most v =
    by (ltb v 9223372036854775808) _ _ 21 (λ e. let k = digits v in simp length-append (omega arith))
    (λ e. let k = digits (18446744073709551616 - v) in simp length-append (omega arith))

kind-most : (d : ℕ) → length (kind_text d) ≤ 6
unfolding kind_text codes
kind-most d = by (eqb (d % 256) 0) _ _ 6 (λ e. omega arith) (λ e. omega arith)

address-long : (d : ℕ) → length (address_text d) ≡ 17
unfolding address_text pair_of colon_pair codes
address-long d = refl

pub device-most : (d : ℕ) → length (device_text d) ≤ 24
unfolding device_text codes
device-most d = let k = kind-most d in let l = address-long d in simp length-append (omega arith)

groups-most : (s : List ℕ) → length (groups_text s) ≤ 36
unfolding groups_text codes
groups-most s =
    let a = part-most s 12 4 in
    let b = part-most s 10 2 in
    let c = part-most s 8 2 in
    let d = part-most s 6 2 in
    let e = part-most s 0 6 in
    simp (length-append, number-long) (omega arith)

uuid-number-most : (s : List ℕ) → length (uuid_number s) ≤ 2 * length s + 4
unfolding uuid_number codes
uuid-number-most s =
    by (eqb (length s) 16) _ _ (2 * length s + 4)
    (λ e. let h = eqb-true (length s) 16 e in let k = groups-most s in omega arith)
    (λ e. by (eqb (length s) 2 || eqb (length s) 4) _ _ (2 * length s + 4)
    (λ q. simp (length-append, number-long) (omega arith)) (λ q. simp length-hex (omega arith)))

-- the name behind a UUID's number: none where it has no name, that is behind one of fewer than 2 octets too
bracketed-most : (w : List ℕ) (n : ℕ) → length w ≤ n → length (bracketed w) ≤ n + 3
unfolding bracketed codes
bracketed-most w n h = by (eqb (length w) 0) _ _ (n + 3) (λ e. omega arith) (λ e. simp length-append (omega arith))

behind-most : (s : List ℕ) → length (behind_uuid s) ≤ 42
unfolding behind_uuid
behind-most s = bracketed-most (uuid_name (number_at 1 (short_of s) 1) (number_at 1 (short_of s) 0)) 39
    (uuid-name-most (number_at 1 (short_of s) 1) (number_at 1 (short_of s) 0))

behind-few : (s : List ℕ) → length s ≤ 1 → length (behind_uuid s) ≡ 0
unfolding behind_uuid short_of is_wide is_based bracketed uuid_name pick number_at
behind-few [] h = refl
behind-few (x ∷ []) h = refl
behind-few (x ∷ y ∷ s) h = absurd (omega arith)

pub uuid-most : (s : List ℕ) → length (uuid_text s) ≤ 24 * length s + 4
unfolding uuid_text
uuid-most s =
    let a = uuid-number-most s in
    let b = behind-most s in
    simp length-append
    (cases-le (length s) 1 (λ (h : length s ≤ 1). let c = behind-few s h in omega arith)
    (λ (h : 1 < length s). omega arith))

-- of octets of which there are some
pub uuid-some : (s : List ℕ) → 0 < length s → length (uuid_text s) < 27 * length s
unfolding uuid_text
uuid-some s k =
    let a = uuid-number-most s in
    let b = behind-most s in
    simp length-append
    (cases-le (length s) 1 (λ (h : length s ≤ 1). let c = behind-few s h in omega arith)
    (λ (h : 1 < length s). omega arith))

pub named-or-most : (rows : List Row) (words : String) (m x : ℕ) → every (is_short m) rows ≡ true
    → length (codes words) + 2 ≤ m → length (named_or rows words x) ≤ m
unfolding named_or pair_of
named-or-most rows words m x e h =
    by (eqb (length (named rows x)) 0) _ _ m (λ q. simp length-append (omega arith)) (λ q. named-most rows m x e)
