-- The pair table of the block: its length, its rows, the pairs read from it, and the way back from rows to the table.
-- Document 01, The image (A3; "every unused octet and place of the state 0"). Assumes nothing.
use Rattle.std.specs.Prelude.{ℕ, zero, suc, ◌+◌, ◌-◌, ◌*◌, ◌≤◌, ◌<◌, ◌≡◌, refl, true, List, [], ◌∷◌, ◌++◌, map, length, take, get_or, replicate}
use Rattle.std.proofs.Common.{sym, ap, ◌∙◌, append-nil, arith, length-append, take_at, get_or-append-add}
use Rattle.std.proofs.lemmas.List.{length-replicate, length-map, get_or-replicate}
use Rattle.std.proofs.Math.ListN.{get_or-append}
use Rattle.laws.specs.Loops.{every}
use Rattle.laws.specs.Rows.{row, rows, flat}
use Rattle.laws.specs.RowsLaws.{row_at, rows-flat}
use Rattle.octets.specs.Little.{is_octet}
use Rattle.rule.specs.Base.{All}
use Rattle.rule.specs.BaseLaws.{all_append}
use Rattle.model.specs.Types.{Pair}
use Rattle.model.specs.Image.{pair_row, pair_in}
use Rattle.model.specs.Block.{pad_to, pair_block}
use Rattle.blocks.specs.RowsLaws.{length-pair_row, length-pad_to, pad_to-octets, octets-zeros, octets-append}
use Rattle.blocks.specs.Bounds.{Fits}
use Rattle.blocks.specs.BoundsLaws.{fits_in_lem, fits-pair_row}
use Rattle.blocks.specs.TablesLaws.{flat-padded, rows_whole}
use Rattle.model.specs.Layout.{most_pairs, pair_size, pairs_size}

-- a pair's row in the table
abbrev pub pair_place : Pair → List ℕ
pair_place q = pad_to pair_size (pair_row q)

-- the rows of the table: the pairs' and then empty ones
abbrev pub pair_places : List Pair → List (List ℕ)
pair_places qs = map (λ (q : Pair). pad_to pair_size (pair_row q)) qs
    ++ replicate (most_pairs - length qs) (replicate pair_size 0)

pub length-pair_place : (q : Pair) → Fits q → length (pad_to pair_size (pair_row q)) ≡ pair_size
length-pair_place q f =
    let n = length-pair_row q f.address-length in
    length-pad_to pair_size (pair_row q) (omega (arith, f.adv-most))

pub length-pair_places : (qs : List Pair) → length qs ≤ most_pairs → length (pair_places qs) ≡ most_pairs
length-pair_places qs h =
    let z : List ℕ = replicate pair_size 0 in
    let n : length (map pair_place qs) ≡ length qs = length-map qs pair_place in
    length-append (map pair_place qs) (replicate (most_pairs - length qs) z)
    ∙ ap (λ (k : ℕ). k + length (replicate (most_pairs - length qs) z)) n
    ∙ ap (λ (k : ℕ). length qs + k) (length-replicate (most_pairs - length qs) z) ∙ omega arith

all-places : (qs : List Pair) → All Fits qs → All (λ (r : List ℕ). length r ≡ pair_size) (map pair_place qs)
all-places [] a = tt
all-places (q ∷ qs) a = (length-pair_place q a.0, all-places qs a.1)

all-zeros : (k : ℕ) → All (λ (r : List ℕ). length r ≡ pair_size) (replicate k (replicate pair_size 0))
all-zeros zero = tt
all-zeros (suc k) = (refl, all-zeros k)

all-at : (rs : List (List ℕ)) → All (λ (r : List ℕ). length r ≡ pair_size) rs → (i : ℕ) → i < length rs
    → length (get_or rs i []) ≡ pair_size
all-at [] a i h = absurd (omega arith)
all-at (r ∷ rs) a zero h = a.0
all-at (r ∷ rs) a (suc i) h = all-at rs a.1 i (omega arith)

-- the table is its rows, one after another
pub pair_block-flat : (qs : List Pair) → pair_block qs ≡ flat (pair_places qs)
unfolding pair_block
pair_block-flat qs = flat-padded pair_size (most_pairs - length qs) (map pair_place qs) 0

pub rows-pair_block : (qs : List Pair) → All Fits qs → length qs ≤ most_pairs → (t : List ℕ)
    → rows pair_size most_pairs (pair_block qs ++ t) ≡ pair_places qs
rows-pair_block qs a h t =
    let p : All (λ (r : List ℕ). length r ≡ pair_size) (pair_places qs) =
    all_append (λ (r : List ℕ). length r ≡ pair_size) (map pair_place qs)
    (replicate (most_pairs - length qs) (replicate pair_size 0))
    (all-places qs a)
    (all-zeros (most_pairs - length qs)) in
    ap (λ (l : List ℕ). rows pair_size most_pairs (l ++ t)) (pair_block-flat qs)
    ∙ ap (λ (k : ℕ). rows pair_size k (flat (pair_places qs) ++ t)) (sym (length-pair_places qs h))
    ∙ rows-flat pair_size (pair_places qs) t (all-at (pair_places qs) p)

length-flat : (rs : List (List ℕ)) → All (λ (r : List ℕ). length r ≡ pair_size) rs
    → length (flat rs) ≡ pair_size * length rs
unfolding flat
length-flat [] a = refl
length-flat (r ∷ rs) a =
    let e : length (r ++ flat rs) ≡ length r + length (flat rs) = length-append r (flat rs) in
    omega (arith, length-flat rs a.1, a.0)

pub length-pair_block : (qs : List Pair) → All Fits qs → length qs ≤ most_pairs → length (pair_block qs) ≡ pairs_size
length-pair_block qs a h =
    let p : All (λ (r : List ℕ). length r ≡ pair_size) (pair_places qs) =
    all_append (λ (r : List ℕ). length r ≡ pair_size) (map pair_place qs)
    (replicate (most_pairs - length qs) (replicate pair_size 0))
    (all-places qs a)
    (all-zeros (most_pairs - length qs)) in
    ap (λ (l : List ℕ). length l) (pair_block-flat qs) ∙ length-flat (pair_places qs) p
    ∙ ap (λ (k : ℕ). pair_size * k) (length-pair_places qs h)

-- row i: the pair's, and zeros from the number of pairs on
pub row-pair_block : (qs : List Pair) → All Fits qs → length qs ≤ most_pairs → (t : List ℕ) (i : ℕ) (d : Pair)
    → i < length qs
    → row pair_size i (pair_block qs ++ t) ≡ pad_to pair_size (pair_row (get_or qs i d))
row-pair_block qs a h t i d b =
    let n : length (map pair_place qs) ≡ length qs = length-map qs pair_place in
    sym (row_at pair_size most_pairs i (pair_block qs ++ t) (omega arith))
    ∙ ap (λ (l : List (List ℕ)). get_or l i []) (rows-pair_block qs a h t)
    ∙ get_or-append (map pair_place qs) (replicate (most_pairs - length qs) (replicate pair_size 0)) [] i (omega arith)
    ∙ get_d-places qs i d b
  where
    get_d-places : (qs : List Pair) (i : ℕ) (d : Pair) → i < length qs
        → get_or (map pair_place qs) i [] ≡ pad_to pair_size (pair_row (get_or qs i d))
    get_d-places [] i d b = absurd (omega arith)
    get_d-places (q ∷ qs) zero d b = refl
    get_d-places (q ∷ qs) (suc i) d b = get_d-places qs i d (omega arith)

pub row-pair_block-zero : (qs : List Pair) → All Fits qs → length qs ≤ most_pairs → (t : List ℕ) (i : ℕ) → length qs ≤ i
    → i < most_pairs
    → row pair_size i (pair_block qs ++ t) ≡ replicate pair_size 0
row-pair_block-zero qs a h t i b c =
    let z : List ℕ = replicate pair_size 0 in
    let n : length (map pair_place qs) ≡ length qs = length-map qs pair_place in
    let e : i ≡ length (map pair_place qs) + (i - length qs) = omega arith in
    sym (row_at pair_size most_pairs i (pair_block qs ++ t) c)
    ∙ ap (λ (l : List (List ℕ)). get_or l i []) (rows-pair_block qs a h t)
    ∙ ap (λ (k : ℕ). get_or (pair_places qs) k []) e
    ∙ get_or-append-add (map pair_place qs) (replicate (most_pairs - length qs) z) (i - length qs) []
    ∙ get_or-replicate (most_pairs - length qs) (i - length qs) z [] (omega arith)

-- the same of the table alone
module _ (qs : List Pair) (a : All Fits qs) (h : length qs ≤ most_pairs) where
  pub rows-table : rows pair_size most_pairs (pair_block qs) ≡ pair_places qs
  rows-table = ap (λ (l : List ℕ). rows pair_size most_pairs l) (sym (append-nil (pair_block qs)))
      ∙ rows-pair_block qs a h []

  pub row-table : (i : ℕ) (d : Pair) → i < length qs
      → row pair_size i (pair_block qs) ≡ pad_to pair_size (pair_row (get_or qs i d))
  row-table i d b =
      ap (λ (l : List ℕ). row pair_size i l) (sym (append-nil (pair_block qs))) ∙ row-pair_block qs a h [] i d b

  pub row-table-zero : (i : ℕ) → length qs ≤ i → i < most_pairs → row pair_size i (pair_block qs) ≡ replicate pair_size 0
  row-table-zero i b c =
      ap (λ (l : List ℕ). row pair_size i l) (sym (append-nil (pair_block qs))) ∙ row-pair_block-zero qs a h [] i b c

-- the pairs read from the table are those that it was written from
read-places : (qs : List Pair) → All Fits qs → map pair_in (map pair_place qs) ≡ qs
unfolding pad_to
read-places [] a = refl
read-places (q ∷ qs) a = rw (fits_in_lem q (replicate (pair_size - length (pair_row q)) 0) a.0, read-places qs a.1)

pub take-pair_places : (qs : List Pair)
    → take (length qs) (pair_places qs) ≡ map (λ (q : Pair). pad_to pair_size (pair_row q)) qs
take-pair_places qs =
    take_at (map pair_place qs) (replicate (most_pairs - length qs) (replicate pair_size 0)) (length qs)
    (length-map qs pair_place)

pub pairs-read : (qs : List Pair) → All Fits qs → length qs ≤ most_pairs → (t : List ℕ)
    → map pair_in (take (length qs) (rows pair_size most_pairs (pair_block qs ++ t))) ≡ qs
pairs-read qs a h t =
    ap (λ (l : List (List ℕ)). map pair_in (take (length qs) l)) (rows-pair_block qs a h t)
    ∙ ap (map pair_in) (take-pair_places qs)
    ∙ read-places qs a

-- octets whose rows are the table's are the table
pub pair_block-of : (qs : List Pair) (t : List ℕ) → length t ≡ pairs_size → rows pair_size most_pairs t ≡ pair_places qs
    → t ≡ pair_block qs
pair_block-of qs t l e = sym (rows_whole pair_size most_pairs t l) ∙ ap flat e ∙ sym (pair_block-flat qs)

-- the table is octets
pub pair_block-octets : (qs : List Pair) → All Fits qs → every is_octet (pair_block qs) ≡ true
unfolding pair_block every flat
pair_block-octets qs a =
    octets-append (flat (map pair_place qs)) (replicate (pair_size * (most_pairs - length qs)) 0) (places qs a)
    (octets-zeros (pair_size * (most_pairs - length qs)))
  where
    places : (qs : List Pair) → All Fits qs → every is_octet (flat (map pair_place qs)) ≡ true
    places [] a = refl
    places (q ∷ qs) a =
        octets-append (pair_place q) (flat (map pair_place qs))
        (pad_to-octets pair_size (pair_row q) (fits-pair_row q a.0))
        (places qs a.1)
