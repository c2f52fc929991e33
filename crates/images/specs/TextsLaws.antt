-- Lines written one after another: the text is cut into those lines, and each is read back. Document 01, Lines and
-- The image. Assumes nothing.
use Rattle.std.specs.Prelude.{ℕ, ◌≡◌, refl, Bool, true, false, eqb}
use mathlib.Core.List.{List, [], ◌∷◌, map, flatten}
use Rattle.std.proofs.lemmas.Bool.{eqb-false, not-true}
use Rattle.laws.specs.TestsLaws.{and_left, and_right}
use Rattle.laws.specs.Loops.{every, each}
use Rattle.octets.specs.Little.{is_octet}
use Rattle.lines.specs.Hex.{lf, hex_of, text_of, octets_in}
use Rattle.lines.specs.HexLaws.{not_lf}
use Rattle.lines.specs.TextsLaws.{hex-no-lf, read-written}
use Rattle.sessions.specs.Machine.{NoLF, OneLine}
use Rattle.sessions.specs.Saved.{cut}
use Rattle.sessions.proofs.CutsLaws.{AllLines, cut-lines}

-- whether every element of a list is an octet
abbrev pub octets : List ℕ → Bool
octets = every is_octet

no-lf : (l : List ℕ) → every not_lf l ≡ true → NoLF l
unfolding every not_lf
no-lf [] e = tt
no-lf (c ∷ l) e =
    let n : eqb c lf ≡ false = not-true (eqb c lf) (and_left (not_lf c) (every not_lf l) e) in
    (eqb-false c lf n, no-lf l (and_right (not_lf c) (every not_lf l) e))

-- the text of octets ends in its only LF
pub text-one-line : (xs : List ℕ) → OneLine (text_of xs)
unfolding text_of
text-one-line xs = record { front = hex_of xs; clear = no-lf (hex_of xs) (hex-no-lf xs); whole = refl }

all_lines : (rs : List (List ℕ)) → AllLines (map text_of rs)
all_lines [] = tt
all_lines (r ∷ rs) = (text-one-line r, all_lines rs)

each-flatten : (f : List ℕ → List ℕ) (rs : List (List ℕ)) → each f rs ≡ flatten (map f rs)
unfolding each flatten
each-flatten f [] = refl
each-flatten f (r ∷ rs) = rw (each-flatten f rs)

-- lines written one after another are cut into those lines
pub cut-texts : (rs : List (List ℕ)) → cut (each text_of rs) ≡ map text_of rs
cut-texts rs = rw (each-flatten text_of rs) (cut-lines (map text_of rs) (all_lines rs))

-- what was written of octets is read back
pub read-texts : (rs : List (List ℕ)) → every octets rs ≡ true → map octets_in (map text_of rs) ≡ rs
unfolding every
read-texts [] e = refl
read-texts (r ∷ rs) e =
    let a : octets r ≡ true = and_left (octets r) (every octets rs) e in
    let b : every octets rs ≡ true = and_right (octets r) (every octets rs) e in
    rw (read-written r a, read-texts rs b)
