-- Laws of the definitions in Pieces.
use Rattle.std.specs.Prelude.{ℕ, suc, ◌+◌, ◌-◌, ◌%◌, ◌≤◌, ◌<◌, min, ◌≡◌, Bool, true, false, List, [], ◌∷◌, ◌++◌, ltb, eqb, length, take, drop, get_or}
use Prim.Native.String.{String}
use Rattle.std.proofs.Common.{sym, ap, ◌∙◌, add-one, arith, le-leb, take_all, take-suc, drop-cons}
use Rattle.std.proofs.lemmas.Bool.{lt-leb}
use Rattle.laws.specs.Tests.{pick}
use Rattle.laws.specs.TestsLaws.{pick_true, pick-false, cases-le}
use Rattle.decimals.specs.Decimals.{decimal}
use Rattle.decimals.specs.WritingTurns.{digits-most}
use Rattle.lines.specs.Hex.{hex_of}
use Rattle.lines.specs.TextsLaws.{hex-append}
use Rattle.model.specs.Quoted.{codes}
use Rattle.names.specs.Names.{Row}
use Rattle.names.specs.NamesLaws.{table_of, looked-up}
use Rattle.texts.specs.Text.{room}
use Rattle.texts.specs.Words.{pair_of, colon_pair, address_text, kind_text, level_text}
use Rattle.words.specs.Says.{Says}
use Rattle.words.specs.SaysLaws.{same, then}
use Rattle.words.specs.Pieces.{part_of, number_text, name_or, named_or}

-- parts
pub part_in : (s : List ℕ) (from n : ℕ) → from + n ≤ length s → take n (drop from s) ≡ part_of s from n
unfolding part_of
part_in s from n h = sym (pick_true (take n (drop from s)) [] (le-leb (from + n) (length s) h))

pub part_out : (s : List ℕ) (from n : ℕ) → length s < from + n → [] ≡ part_of s from n
unfolding part_of
part_out s from n h = sym (pick-false (take n (drop from s)) [] (lt-leb (from + n) (length s) h))

-- a text that was put together in a room that holds it
held : (a : List ℕ) {t b : List ℕ} → length a ≤ room → b ≡ [] → t ≡ take room (b ++ a) → t ≡ a
held a h z e = e ∙ ap (λ (l : List ℕ). take room (l ++ a)) z ∙ take_all room a h

pub decimal-held : (n : ℕ) {t b : List ℕ} → b ≡ [] → t ≡ take room (b ++ ([] ++ decimal n)) → t ≡ decimal n
unfolding decimal
decimal-held n z e = held (decimal n) (let k = digits-most 19 n in omega arith) z e

pub name-rows : (rows : List Row) (words : String) (x : ℕ)
    → name_or (table_of rows) (codes words) x ≡ named_or rows words x
unfolding name_or named_or
name-rows rows words x = ap (λ (l : List ℕ). pick (eqb (length l) 0) (codes words ++ pair_of x) l) (looked-up rows x)

-- turns of the loops that write octets
pub hex-turn : {out : List ℕ} {at : ℕ} (s : List ℕ) (i : ℕ) {out' out'' : List ℕ} {r q : ℕ} → i < length s
    → Says out at (hex_of (take i s)) out' r → Says out' r (pair_of (get_or s i 0)) out'' q
    → Says out at (hex_of (take (i + 1) s)) out'' q
unfolding pair_of hex_of
hex-turn s i h a b =
    let e : hex_of (take (i + 1) s) ≡ hex_of (take i s) ++ pair_of (get_or s i 0) =
    rw (add-one i, take-suc s i 0 h) (hex-append (take i s) (get_or s i 0 ∷ [])) in
    same (sym e) (then a b)

pub number-turn : {out : List ℕ} {at : ℕ} (s : List ℕ) (i n : ℕ) {out' out'' : List ℕ} {r q : ℕ} → i < length s
    → n ≡ suc i → Says out at (number_text (drop n s)) out' r
    → Says out' r (pair_of (get_or s i 0)) out'' q → Says out at (number_text (drop i s)) out'' q
unfolding number_text
number-turn s i n h k a b =
    let e : number_text (drop i s) ≡ number_text (drop n s) ++ pair_of (get_or s i 0) = rw (k, drop-cons s i 0 h) in
    same (sym e) (then a b)

-- an address type and an address in a room
pub kind-held : (d : ℕ) {t b : List ℕ} → b ≡ [] → t ≡ take room (b ++ kind_text d) → t ≡ kind_text d
unfolding kind_text pick codes
kind-held d z e = held (kind_text d) (go (eqb (d % 256) 0)) z e
  where
    go : (b : Bool) → length (pick b (codes "public") (codes "random")) ≤ room
    go true = omega arith
    go false = omega arith

pub address-held : (d : ℕ) {t b : List ℕ} → b ≡ [] → t ≡ take room (b ++ address_text d) → t ≡ address_text d
unfolding address_text pair_of colon_pair codes
address-held d z e = e ∙ ap (λ (l : List ℕ). take room (l ++ address_text d)) z

pub pair_held : (x : ℕ) {t b : List ℕ} → b ≡ [] → t ≡ take room (b ++ pair_of x) → t ≡ pair_of x
unfolding pair_of
pair_held x z e = e ∙ ap (λ (l : List ℕ). take room (l ++ pair_of x)) z

pub level-held : (x : ℕ) {t b : List ℕ} → b ≡ [] → t ≡ take room (b ++ level_text x) → t ≡ level_text x
unfolding level_text pick codes decimal
level-held x z e = held (level_text x) (go (ltb x 128)) z e
  where
    go : (b : Bool) → length (pick b (codes "-" ++ decimal (128 - x)) (codes "" ++ decimal (x - 128))) ≤ room
    go true = let k = digits-most 19 (128 - x) in omega arith
    go false = let k = digits-most 19 (x - 128) in omega arith
