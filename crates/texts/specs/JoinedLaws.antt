-- Texts put together. Assumes nothing.
use Rattle.std.specs.Prelude.{ℕ, zero, suc, ◌+◌, ◌-◌, ◌≤◌, ◌<◌, min, ◌≡◌, refl, Bool, true, false, List, [], ◌∷◌, ◌++◌, leb, length, take, drop}
use Rattle.std.proofs.Common.{sym, ap, ◌∙◌, subst, append_assoc, append-nil, add-zero, zero-add, arith, le-leb, length-append, length-take, length-take-le, take_all, take_at}
use Rattle.std.proofs.lemmas.List.{take-append-le}
use Rattle.std.proofs.Math.Seq.{take-append-add, take-append_seam, take-length}
use Rattle.laws.specs.Put.{put, put_if}
use Rattle.laws.specs.PutLaws.{put_of, take_put}
use Rattle.laws.specs.TestsLaws.{cases-le}
use Rattle.decimals.specs.Decimals.{decimal, decimal_in, written_in}
use Rattle.decimals.specs.WritingTurns.{written_in_lem, digits-most}
use Rattle.texts.specs.Text.{room, told}

-- what was cut before is cut no less behind more
pub cut_again : (n : ℕ) (xs ys : List ℕ) → take n (take n xs ++ ys) ≡ take n (xs ++ ys)
cut_again n xs ys =
    cases-le n (length xs)
    (λ (h : n ≤ length xs). let e : length (take n xs) ≡ n = length-take-le n xs h in
    take-append-le n (take n xs) ys (omega arith) ∙ take_all n (take n xs) (omega arith)
    ∙ sym (take-append-le n xs ys h))
    (λ (h : length xs < n). ap (λ (l : List ℕ). take n (l ++ ys)) (take_all n xs (omega arith)))

-- a text behind another
pub joined : (xs ws : List ℕ) {s t : List ℕ} → s ≡ take room xs → t ≡ take room (s ++ ws) → t ≡ take room (xs ++ ws)
joined xs ws e q = q ∙ ap (λ (l : List ℕ). take room (l ++ ws)) e ∙ cut_again room xs ws

-- a text that fits is not cut
pub whole : (xs : List ℕ) {t : List ℕ} → t ≡ take room xs → length xs ≤ room → t ≡ xs
whole xs e h = e ∙ take_all room xs h

-- a text of at most room octets: as many of them as it has characters
pub cut-so : (octets : List ℕ) (count at : ℕ) → length octets ≡ room → at ≡ min count room
    → take at octets ≡ take count octets
cut-so octets count at l a =
    sym (cases-le count room
    (λ (x : count ≤ room). ap (λ (j : ℕ). take j octets) (let z : count ≡ at = omega arith in z))
    (λ (x : room < count). take_all count octets (omega arith) ∙ sym (take_all at octets (omega arith))))

-- words behind a text of so many characters
pub with-so : (octets words out : List ℕ) (count at n : ℕ) (b : Bool) → length octets ≡ room → at ≡ min count room
    → n ≡ min (length words) (room - at)
    → b ≡ leb (at + length (take n words)) (length octets) → out ≡ put_if b octets at (take n words)
    → take (at + n) out ≡ take room (take count octets ++ words)
unfolding put
with-so octets words out count at n b l a c p q =
    let w : length (take n words) ≡ n = length-take-le n words (omega arith) in
    let o : out ≡ put octets at (take n words) =
    put_of octets at (take n words) n room
    (p ∙ ap (λ (x : ℕ). leb (at + x) (length octets)) w ∙ ap (leb (at + n)) l) (omega arith) q in
    let h : length (take at octets ++ take n words) ≡ at + n =
    length-append (take at octets) (take n words)
    ∙ (let k = length-take-le at octets (omega arith) in omega (arith, k, w)) in
    let i : take count octets ≡ take at octets = sym (cut-so octets count at l a) in
    let t : take (at + n) out ≡ take at octets ++ take n words =
    ap (λ (x : List ℕ). take (at + n) x) o
    ∙ take_at (take at octets ++ take n words) (drop (at + length (take n words)) octets) (at + n) h in
    let k : length (take at octets) ≡ at = length-take-le at octets (omega arith) in
    let r : at + (room - at) ≡ room = omega arith in
    let s : take room (take at octets ++ words) ≡ take at octets ++ take (room - at) words =
    ap (λ (j : ℕ). take j (take at octets ++ words)) (sym r ∙ ap (λ (j : ℕ). j + (room - at)) (sym k))
    ∙ take-append-add (take at octets) words (room - at) in
    let u : take n words ≡ take (room - at) words = cases-le (length words) (room - at)
    (λ (x : length words ≤ room - at). take_all n words (omega arith) ∙ sym (take_all (room - at) words x))
    (λ (x : room - at < length words). ap (λ (j : ℕ). take j words) (let z : n ≡ room - at = omega arith in z)) in
    t ∙ ap (λ (l : List ℕ). take at octets ++ l) u ∙ sym s ∙ ap (λ (l : List ℕ). take room (l ++ words)) (sym i)

-- words and a number
pub said-so : (t words number : List ℕ) {s r : List ℕ} → s ≡ take room (t ++ words) → r ≡ take room (s ++ number)
    → r ≡ take room (t ++ (words ++ number))
said-so t words number e q =
    joined (t ++ words) number e q ∙ ap (λ (l : List ℕ). take room l) (append_assoc t words number)

-- the digits of a number at the start of a buffer
pub digits-so : (n r : ℕ) (lent out : List ℕ) → 19 < length lent → (r ≡ length (written_in 19 n (length lent)))
    × (out ≡ put lent 0 (written_in 19 n (length lent)))
    → (take r out ≡ decimal n) × (r ≤ length lent)
unfolding decimal
digits-so n r lent out h e =
    let w = written_in_lem 19 n r lent out h e in (
      ap (λ (k : ℕ). take k out) w.0 ∙ ap (λ (l : List ℕ). take (length (decimal_in 19 n)) l) w.1
          ∙ take_put lent 0 (decimal_in 19 n) (omega arith),
      omega (arith, w.0, digits-most 19 n),
    )
