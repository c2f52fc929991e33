-- How many characters names, AD structures and monitors in words have at most: of octets, at most 27 for each.
-- Assumes nothing.
use Prim.Native.Nat.{ℕ, zero, suc, ◌+◌, ◌-◌, ◌*◌, ◌/◌, ◌%◌, ◌≤◌, ◌<◌, min}
use Rattle.std.specs.Prelude.{◌≡◌, refl, Bool, true, false, ◌&&◌, ◌||◌, leb, ltb, eqb, take, drop}
use Rattle.std.proofs.lemmas.Bool.{false≢true, eqb-false}
use mathlib.Core.List.{List, [], ◌∷◌}
use native.Mathlib.Omega.{arith}
use Rattle.std.proofs.Common.{eqb-true, ltb-false, length-drop}
use Rattle.std.proofs.Math.ListN.{length, length-append, length-take}
use Rattle.laws.specs.Tests.{pick}
use Rattle.laws.specs.Loops.{every}
use Rattle.octets.specs.Numbers.{number_at}
use Rattle.lines.specs.TextsLaws.{length-hex}
use Rattle.model.specs.Quoted.{codes}
use Rattle.names.specs.NamesLaws.{is_short, named-most}
use Rattle.texts.specs.Words.{pair_of}
use Rattle.words.specs.Pieces.{part_of, device_of}
use Rattle.fields.specs.Names.{ad_rows, ad_text, event_rows, event_text, status_rows, status_text, sub_rows, sub_text, why_text, switch_text, change_word, prefix_text}
use Rattle.fields.specs.Cuts.{cut_from, each, all_of}
use Rattle.fields.specs.Data.{size_of, is_whole, is_plain, character_text, characters_text, quoted_text, uuid_size, next_of, uuid_in, uuids_text, plain_text, headed_text, company_text, special_text, value_text, structure_text, structures_text}
use Rattle.fields.specs.Monitors.{pattern_text, patterns_text, unknown_text, is_uuid, single_text, condition_text, sampling_text, limits_text, bit_text, reserved_text, options_text, filtering_text, peer_of, peer_text}
use Rattle.lengths.specs.PiecesLaws.{by, digits, number-long, part-most, dbm-most, device-most, uuid-most, uuid-some, named-or-most}
use Rattle.fields.specs.declared.terms.Fault.{Fault}
use Rattle.fields.specs.declared.terms.Fault.TheVariants.{Empty, Long, NoDigits, NoKind, ShortFrame, NoFrame, NoForm}

-- names
pub ad-most : (x : ℕ) → length (ad_text x) ≤ 25
unfolding ad_text ad_rows every is_short codes
ad-most x = named-or-most ad_rows "AD type 0x" 25 x refl (omega arith)

pub event-most : (x : ℕ) → length (event_text x) ≤ 15
unfolding event_text event_rows every is_short codes
event-most x = named-or-most event_rows "event type 0x" 15 x refl (omega arith)

pub status-most : (x : ℕ) → length (status_text x) ≤ 18
unfolding status_text status_rows every is_short codes
status-most x = named-or-most status_rows "status 0x" 18 x refl (omega arith)

pub sub-most : (x : ℕ) → length (sub_text x) ≤ 24
unfolding sub_text sub_rows every is_short codes
sub-most x = named-or-most sub_rows "sub-opcode 0x" 24 x refl (omega arith)

pub why-most : (x : Fault) → length (why_text x) ≤ 30
unfolding why_text codes
why-most Empty = omega arith
why-most Long = omega arith
why-most NoDigits = omega arith
why-most NoKind = omega arith
why-most ShortFrame = omega arith
why-most NoFrame = omega arith
why-most NoForm = omega arith

pub switch-most : (x : ℕ) → length (switch_text x) ≤ 3
unfolding switch_text codes
switch-most x = by (eqb x 0) _ _ 3 (λ e. omega arith) (λ e. omega arith)

pub change-most : (x : ℕ) → length (change_word x) ≤ 6
unfolding change_word codes
change-most x = by (eqb x 0) _ _ 6 (λ e. omega arith) (λ e. omega arith)

pub prefix-most : (s : List ℕ) → length (prefix_text s) ≤ 2 * length s + 11
unfolding prefix_text codes
prefix-most s = by (eqb (length s) 0) _ _ (2 * length s + 11) (λ e. omega arith)
    (λ e. simp (length-append, length-hex) (omega arith))

-- pieces of octets, one behind another
module _ (size : List ℕ → ℕ) (f : List ℕ → List ℕ) (some : (x : ℕ) (s : List ℕ) → 0 < size (x ∷ s))
    (most : (p : List ℕ) → 0 < length p → length (f p) ≤ 27 * length p) where
  from-most : (s : List ℕ) (n : ℕ) → length (each f (cut_from size s n)) ≤ 27 * (length s - n)
  unfolding each cut_from
  from-most [] n = omega arith
  from-most (x ∷ s) (suc n) = let h = from-most s n in omega arith
  from-most (x ∷ s) zero =
      let h = from-most s (size (x ∷ s) - 1) in
      let k = some x s in
      let l : length (take (size (x ∷ s)) (x ∷ s)) ≡ min (size (x ∷ s)) (suc (length s)) =
      length-take (size (x ∷ s)) (x ∷ s) in
      let m = most (take (size (x ∷ s)) (x ∷ s)) (omega arith) in
      simp length-append (omega arith)

  pub all_most : (s : List ℕ) → length (all_of size f s) ≤ 27 * length s
  unfolding all_of
  all_most s = let h = from-most s 0 in omega arith

size-some : (x : ℕ) (s : List ℕ) → 0 < size_of (x ∷ s)
unfolding size_of pick
size-some x s = go (eqb x 0) (leb (suc (length s)) x)
  where
    go : (a b : Bool) → 0 < pick a (suc (length s)) (pick b (suc (length s)) (1 + x))
    go true b = omega arith
    go false true = omega arith
    go false false = omega arith

-- values
characters-most : (s : List ℕ) → length (characters_text s) ≤ 4 * length s
unfolding characters_text character_text codes pair_of
characters-most [] = omega arith
characters-most (c ∷ s) =
    let h = characters-most s in
    let k : length (character_text c) ≤ 4 = by (is_plain c) _ _ 4 (λ e. omega arith) (λ e. omega arith) in
    simp length-append (omega arith)

plain-most : (s : List ℕ) → length (plain_text s) ≤ 2 * length s + 1
unfolding plain_text codes
plain-most s = by (eqb (length s) 0) _ _ (2 * length s + 1) (λ e. omega arith)
    (λ e. simp (length-append, length-hex) (omega arith))

company-most : (s : List ℕ) → length (company_text s) ≤ 2 * length s + 8
unfolding company_text codes
company-most s =
    by (ltb (length s) 2) _ _ (2 * length s + 8) (λ e. let h = plain-most s in omega arith)
    (λ e. let a = part-most s 0 2 in
    let c = plain-most (drop 2 s) in
    let d = length-drop 2 s in
    simp (length-append, number-long) (omega arith))

headed-most : (k : ℕ) (s : List ℕ) → length (headed_text k s) ≤ 24 * length s + 6
unfolding headed_text codes
headed-most k s =
    by (ltb (length s) k) _ _ (24 * length s + 6) (λ e. let h = plain-most s in omega arith)
    (λ e. let h = ltb-false (length s) k e in
    let a = uuid-most (part_of s 0 k) in
    let b = part-most s 0 k in
    let c = plain-most (drop k s) in
    let d = length-drop k s in
    simp length-append (omega arith))

uuid-in-most : (p : List ℕ) → 0 < length p → length (uuid_in p) ≤ 27 * length p
unfolding uuid_in codes
uuid-in-most p h = let k = uuid-some p h in simp length-append (omega arith)

uuids-most : (k : ℕ) (s : List ℕ) → 0 < k → length (uuids_text k s) ≤ 27 * length s
unfolding uuids_text next_of
uuids-most k s h = all_most (next_of k) uuid_in (λ x t. omega arith) uuid-in-most s

special-most : (kind : ℕ) (s : List ℕ) → length (special_text kind s) ≤ 27 * length s + 27
unfolding special_text
special-most kind s =
    by (eqb kind 255) _ _ (27 * length s + 27) (λ e. let h = company-most s in omega arith)
    (λ e. by ((eqb kind 22 || eqb kind 32) || eqb kind 33) _ _ (27 * length s + 27)
    (λ q. let h = headed-most (uuid_size kind) s in omega arith)
    (λ q. by (eqb (uuid_size kind) 0) _ _ (27 * length s + 27) (λ u. let h = plain-most s in omega arith)
    (λ u. let n = eqb-false (uuid_size kind) 0 u in let h = uuids-most (uuid_size kind) s
    (positive (uuid_size kind) n) in omega arith)))
  where
    positive : (n : ℕ) → (n ≡ 0 → ⊥) → 0 < n
    positive zero z = absurd (z refl)
    positive (suc n) z = omega arith

value-most : (kind : ℕ) (s : List ℕ) → length (value_text kind s) ≤ 27 * length s + 27
unfolding value_text quoted_text codes
value-most kind s =
    by (eqb kind 8 || eqb kind 9) _ _ (27 * length s + 27)
    (λ e. let h = characters-most s in simp length-append (omega arith))
    (λ e. by (eqb kind 10 && eqb (length s) 1) _ _ (27 * length s + 27)
    (λ q. let h = dbm-most (number_at 1 s 0) in simp length-append (omega arith)) (λ q. special-most kind s))

-- a piece that is whole has its length octet and at least so many octets behind it
whole_long : (p : List ℕ) (n : ℕ) → is_whole p n ≡ true → n < length p
unfolding is_whole pick
whole_long p n = go (ltb (number_at 1 p 0) n) refl
  where
    go : (b : Bool) → ltb (number_at 1 p 0) n ≡ b → pick b false (eqb (length p) (1 + number_at 1 p 0)) ≡ true
        → n < length p
    go true e q = absurd (false≢true q)
    go false e q = let h = ltb-false (number_at 1 p 0) n e in let k =
        eqb-true (length p) (1 + number_at 1 p 0) q in omega arith

structure-most : (p : List ℕ) → 0 < length p → length (structure_text p) ≤ 27 * length p
unfolding structure_text codes
structure-most p h =
    by (is_whole p 1) _ _ (27 * length p)
    (λ e. let n = whole_long p 1 e in
    let a = ad-most (number_at 1 p 1) in
    let v = value-most (number_at 1 p 1) (drop 2 p) in
    let d = length-drop 2 p in
    simp length-append (omega arith))
    (λ e. simp (length-append, length-hex) (omega arith))

pub structures-most : (s : List ℕ) → length (structures_text s) ≤ 27 * length s
unfolding structures_text
structures-most s = all_most size_of structure_text size-some structure-most s

-- conditions
pattern-most : (p : List ℕ) → 0 < length p → length (pattern_text p) ≤ 27 * length p
unfolding pattern_text codes
pattern-most p h =
    by (is_whole p 3) _ _ (27 * length p)
    (λ e. let n = whole_long p 3 e in
    let a = ad-most (number_at 1 p 1) in
    let b = digits (number_at 1 p 2) in
    let d = length-drop 3 p in
    simp (length-append, length-hex) (omega arith))
    (λ e. simp (length-append, length-hex) (omega arith))

patterns-most : (s : List ℕ) → length (patterns_text s) ≤ 27 * length s
unfolding patterns_text
patterns-most s = all_most size_of pattern_text size-some pattern-most s

single-most : (kind : ℕ) (s : List ℕ) → length (single_text kind s) ≤ 27 * length s + 41
unfolding single_text unknown_text codes
single-most kind s =
    by (eqb kind 2 && is_uuid s) _ _ (27 * length s + 41)
    (λ e. let u = uuid-most (drop 1 s) in let d = length-drop 1 s in simp length-append (omega arith))
    (λ e. by (eqb kind 3 && eqb (length s) 16) _ _ (27 * length s + 41)
    (λ q. simp (length-append, number-long) (omega arith))
    (λ q. by ((eqb kind 4 && eqb (length s) 7) && leb (number_at 1 s 0) 1) _ _ (27 * length s + 41)
    (λ u. let k = device-most (device_of s) in simp length-append (omega arith))
    (λ u. let a = digits kind in let b = plain-most s in simp length-append (omega arith))))

pub condition-most : (kind : ℕ) (s : List ℕ) → length (condition_text kind s) ≤ 27 * length s + 41
unfolding condition_text codes
condition-most kind s =
    by (eqb kind 1 && ltb 0 (length s)) _ _ (27 * length s + 41)
    (λ e. let a = digits (number_at 1 s 0) in let b = patterns-most (drop 1 s) in let d = length-drop 1 s in simp
    length-append (omega arith)) (λ e. single-most kind s)

-- thresholds, options, peer
sampling-most : (x : ℕ) → length (sampling_text x) ≤ 34
unfolding sampling_text codes
sampling-most x =
    by (eqb x 0) _ _ 34 (λ e. omega arith)
    (λ e. by (eqb x 255) _ _ 34 (λ q. omega arith)
    (λ q. let k = digits (100 * x) in simp length-append (omega arith)))

pub limits-most : (s : List ℕ) → length (limits_text s) ≤ 129
unfolding limits_text codes
limits-most s =
    let a = dbm-most (number_at 1 s 0) in
    let b = dbm-most (number_at 1 s 1) in
    let c = digits (number_at 1 s 2) in
    let d = sampling-most (number_at 1 s 3) in
    simp length-append (omega arith)

bit-most : (x k : ℕ) (w : List ℕ) → length (bit_text x k w) ≤ length w
unfolding bit_text
bit-most x k w = by (eqb (x / k % 2) 1) _ _ (length w) (λ e. omega arith) (λ e. omega arith)

reserved-most : (x : ℕ) → length (reserved_text x) ≤ 14
unfolding reserved_text codes pair_of
reserved-most x = by (eqb x 0) _ _ 14 (λ e. omega arith) (λ e. omega arith)

options-most : (x : ℕ) → length (options_text x) ≤ 97
unfolding options_text codes
options-most x =
    by (eqb x 0) _ _ 97 (λ e. omega arith)
    (λ e. let a = bit-most x 1 (codes " peer-address") in
    let b = bit-most x 2 (codes " peer-IRK") in
    let c = bit-most x 4 (codes " directed-peer-address") in
    let d = bit-most x 8 (codes " directed-peer-IRK") in
    let f = bit-most x 16 (codes " directed") in
    let g = bit-most x 32 (codes " any-address") in
    let r = reserved-most (x / 64 * 64) in
    simp length-append (omega arith))

filtering-most : (x : ℕ) → length (filtering_text x) ≤ 53
unfolding filtering_text codes
filtering-most x =
    by (eqb x 0) _ _ 53 (λ e. omega arith)
    (λ e. let a = bit-most x 1 (codes " no-duplicates") in
    let b = bit-most x 2 (codes " legacy") in
    let c = bit-most x 4 (codes " extended") in
    let d = bit-most x 8 (codes " directed") in
    let r = reserved-most (x / 16 * 16) in
    simp length-append (omega arith))

pub peer-most : (s : List ℕ) → length (peer_text s) ≤ 250
unfolding peer_text codes
peer-most s =
    let a = options-most (number_at 1 s 0) in
    let b = filtering-most (number_at 1 s 1) in
    let c = device-most (peer_of s) in
    let d = part-most s 9 16 in
    simp (length-append, number-long) (omega arith)
