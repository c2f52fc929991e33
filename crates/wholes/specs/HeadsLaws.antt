-- Laws of the definitions in Heads.
use Rattle.std.specs.Prelude.{ℕ, suc, ◌+◌, ◌-◌, ◌≤◌, ◌≡◌, refl, length, take, drop, get_or, replicate}
use Rattle.std.proofs.Common.{sym, ap, ◌∙◌, arith, length-append, take_at, drop_at}
use mathlib.Core.List.{List, [], ◌∷◌, ◌++◌, append_assoc}
use Rattle.laws.specs.Put.{put}
use Rattle.laws.specs.PutLaws.{put-left, put_right}
use Rattle.laws.specs.RowsLaws.{put_whole}
use Rattle.octets.specs.Little.{octets_of}
use Rattle.octets.specs.LittleLaws.{length-octets}
use Rattle.model.specs.Types.{Model}
use Rattle.model.specs.Image.{head_row}
use Rattle.model.specs.Block.{pad_to, padded}
use Rattle.model.specs.Layout.{head_size, most_prefix, prefix_length_at}
use Rattle.blocks.specs.BlockLaws.{tables}
use Rattle.blocks.specs.RowsLaws.{length-pad_to}
use Rattle.editions.specs.Editions.{Edition, with_prefix, edition_row}
use Rattle.editions.specs.Block.{edition_size}
use Rattle.wholes.specs.Heads.{prefix_size, prefix_row}

pub length-prefix_row : (p : List ℕ) → length p ≤ most_prefix → length (prefix_row p) ≡ prefix_size
unfolding prefix_row
length-prefix_row p h = let n = length-pad_to most_prefix p h in omega arith

-- it says its prefix
pub prefix-said : (p : List ℕ) → take (get_or (prefix_row p) 0 0) (drop 1 (prefix_row p)) ≡ p
unfolding prefix_row pad_to
prefix-said p = take_at p (replicate (most_prefix - length p) 0) (length p) refl

pub prefix_row-one : (p q : List ℕ) → prefix_row p ≡ prefix_row q → p ≡ q
prefix_row-one p q e = sym (prefix-said p) ∙ ap (λ (l : List ℕ). take (get_or l 0 0) (drop 1 l)) e ∙ prefix-said q

-- a list of n octets before it, padded
pad-behind : (f p : List ℕ) (n : ℕ) → length f ≡ n → length p ≤ most_prefix
    → pad_to (n + prefix_size) (f ++ (length p ∷ p)) ≡ f ++ prefix_row p
unfolding pad_to prefix_row
pad-behind f p n e h =
    let k : length (f ++ (length p ∷ p)) ≡ n + suc (length p) = length-append f (length p ∷ p) ∙ omega arith in
    let d : n + prefix_size - length (f ++ (length p ∷ p)) ≡ most_prefix - length p = omega arith in
    ap (λ (j : ℕ). (f ++ (length p ∷ p)) ++ replicate j 0) d
    ∙ append_assoc f (length p ∷ p) (replicate (most_prefix - length p) 0)

-- an edition's row
pub padded-edition : (e : Edition) → length e.prefix ≤ most_prefix
    → pad_to edition_size (edition_row e) ≡ octets_of 4 e.from ++ prefix_row e.prefix
unfolding edition_row
padded-edition e h = pad-behind (octets_of 4 e.from) e.prefix 4 (length-octets 4 e.from) h

pub edition-prefix : (e : Edition) → length e.prefix ≤ most_prefix
    → take prefix_size (drop 4 (pad_to edition_size (edition_row e))) ≡ prefix_row e.prefix
edition-prefix e h =
    ap (λ (l : List ℕ). take prefix_size (drop 4 l)) (padded-edition e h)
    ∙ ap (take prefix_size) (drop_at (octets_of 4 e.from) (prefix_row e.prefix) 4 (length-octets 4 e.from))
    ∙ ap (take prefix_size) (sym (mathlib.Core.List.append-nil (prefix_row e.prefix)))
    ∙ take_at (prefix_row e.prefix) [] prefix_size (length-prefix_row e.prefix h)

-- the head: what stands before the prefix, the prefix, the tables
unfoldable pub opening : Model → List ℕ
opening m = octets_of 4 m.position ++ (m.filter ∷ octets_of 2 m.opcode)

pub length-opening : (m : Model) → length (opening m) ≡ prefix_length_at
unfolding opening
length-opening m =
    let a = length-octets 4 m.position in let b = length-octets 2 m.opcode in
    length-append (octets_of 4 m.position) (m.filter ∷ octets_of 2 m.opcode) ∙ omega arith

pub padded-opening : (m : Model) → length m.prefix ≤ most_prefix
    → padded m ≡ opening m ++ (prefix_row m.prefix ++ tables m)
unfolding padded head_row opening
padded-opening m h =
    let f : List ℕ = octets_of 4 m.position ++ (m.filter ∷ octets_of 2 m.opcode) in
    let e : octets_of 4 m.position ++ (m.filter ∷ (octets_of 2 m.opcode ++ (length m.prefix ∷ m.prefix))) ≡ f
    ++ (length m.prefix ∷ m.prefix) =
    sym (append_assoc (octets_of 4 m.position) (m.filter ∷ octets_of 2 m.opcode)
    (length m.prefix ∷ m.prefix)) in
    ap (λ (l : List ℕ). pad_to head_size l ++ tables m) e
    ∙ ap (λ (l : List ℕ). l ++ tables m) (pad-behind f m.prefix prefix_length_at (length-opening m) h)
    ∙ append_assoc f (prefix_row m.prefix) (tables m)

pub head-prefix : (m : Model) → length m.prefix ≤ most_prefix
    → take prefix_size (drop prefix_length_at (padded m)) ≡ prefix_row m.prefix
head-prefix m h =
    ap (λ (l : List ℕ). take prefix_size (drop prefix_length_at l)) (padded-opening m h)
    ∙ ap (take prefix_size) (drop_at (opening m) (prefix_row m.prefix ++ tables m) prefix_length_at (length-opening m))
    ∙ take_at (prefix_row m.prefix) (tables m) prefix_size (length-prefix_row m.prefix h)

-- another prefix written into it
pub head-written : (m : Model) (q : List ℕ) → length m.prefix ≤ most_prefix → length q ≤ most_prefix
    → put (padded m) prefix_length_at (prefix_row q) ≡ padded (with_prefix m q)
unfolding with_prefix opening
head-written m q h k =
    let n : length (opening m) + 0 ≡ prefix_length_at = let l = length-opening m in omega arith in
    let a = length-prefix_row m.prefix h in let b = length-prefix_row q k in
    ap (λ (l : List ℕ). put l prefix_length_at (prefix_row q)) (padded-opening m h)
    ∙ ap (λ (i : ℕ). put (opening m ++ (prefix_row m.prefix ++ tables m)) i (prefix_row q)) (sym n)
    ∙ put_right (opening m) (prefix_row m.prefix ++ tables m) 0 (prefix_row q)
    ∙ ap (λ (l : List ℕ). opening m ++ l) (put-left (prefix_row m.prefix) (tables m) 0 (prefix_row q) (omega arith))
    ∙ ap (λ (l : List ℕ). opening m ++ (l ++ tables m)) (put_whole (prefix_row m.prefix) (prefix_row q) (omega arith))
    ∙ sym (padded-opening (with_prefix m q) k)
