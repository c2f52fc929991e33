-- Rows written in the pair table, and tables of changed pairs: the table of other pairs. Document 01, The image (A3),
-- Watching, by history. Assumes nothing.
use Rattle.std.specs.Prelude.{ℕ, zero, suc, ◌+◌, ◌-◌, ◌*◌, ◌≤◌, ◌<◌, ◌≡◌, refl, List, [], ◌∷◌, ◌++◌, map, length, take, drop, set, replicate}
use Rattle.std.proofs.Common.{sym, ap, ◌∙◌, append_assoc, arith, length-append, length-set, drop_at}
use Rattle.std.proofs.lemmas.List.{length-map, replicate-append-replicate, set_at, set-append_left}
use Rattle.laws.specs.Put.{put}
use Rattle.laws.specs.PutLaws.{length-put}
use Rattle.laws.specs.LoopsLaws.{map-append}
use Rattle.laws.specs.RowsLaws.{rows-store}
use Rattle.rule.specs.Base.{All}
use Rattle.model.specs.Types.{Pair}
use Rattle.model.specs.Image.{pair_row, pair_in}
use Rattle.model.specs.Block.{pad_to, pair_block}
use Rattle.blocks.specs.Bounds.{Fits}
use Rattle.blocks.specs.BoundsLaws.{fits_in_lem}
use Rattle.blocks.specs.PairsLaws.{pair_place, pair_places, length-pair_place, length-pair_block, rows-table}
use Rattle.blocks.specs.PairsLaws.{take-pair_places, pair_block-of}
use Rattle.model.specs.Layout.{most_pairs, pair_size, pairs_size}

-- a pair is read from its row in the table
pub pair_in-place : (q : Pair) → Fits q → pair_in (pad_to pair_size (pair_row q)) ≡ q
unfolding pad_to
pair_in-place q f = fits_in_lem q (replicate (pair_size - length (pair_row q)) 0) f

-- a row written in the table
pub put-pair_block : (qs rs : List Pair) → All Fits qs → length qs ≤ most_pairs → (i : ℕ) (r : List ℕ) → i < most_pairs
    → length r ≡ pair_size
    → set (pair_places qs) i r ≡ pair_places rs → put (pair_block qs) (pair_size * i) r ≡ pair_block rs
put-pair_block qs rs a h i r b l e =
    let n : length (pair_block qs) ≡ pairs_size = length-pair_block qs a h in
    pair_block-of rs (put (pair_block qs) (pair_size * i) r)
    (length-put (pair_block qs) (pair_size * i) r (omega arith) ∙ n)
    (rows-store pair_size most_pairs i (pair_block qs) r b l (omega arith)
    ∙ ap (λ (x : List (List ℕ)). set x i r) (rows-table qs a h)
    ∙ e)

-- a pair changed, a pair more, the last pair gone
pub set-places : (qs : List Pair) (i : ℕ) (q : Pair) → i < length qs
    → set (pair_places qs) i (pad_to pair_size (pair_row q)) ≡ pair_places (set qs i q)
set-places qs i q h =
    let n : length (map pair_place qs) ≡ length qs = length-map qs pair_place in
    let k : length (set qs i q) ≡ length qs = length-set qs i q in
    set-append_left (map pair_place qs) (replicate (most_pairs - length qs) (replicate pair_size 0)) i (pair_place q)
    (omega arith)
    ∙ rw k (ap (λ (x : List (List ℕ)). x ++ replicate (most_pairs - length qs) (replicate pair_size 0)) (go qs i))
  where
    go : (qs : List Pair) (i : ℕ) → set (map pair_place qs) i (pair_place q) ≡ map pair_place (set qs i q)
    go [] i = refl
    go (p ∷ qs) zero = refl
    go (p ∷ qs) (suc i) = ap (λ (x : List (List ℕ)). pair_place p ∷ x) (go qs i)

pub push_places : (qs : List Pair) (q : Pair) → length qs < most_pairs
    → set (pair_places qs) (length qs) (pad_to pair_size (pair_row q)) ≡ pair_places (qs ++ (q ∷ []))
push_places qs q h =
    let z : List ℕ = replicate pair_size 0 in
    let n : length (map pair_place qs) ≡ length qs = length-map qs pair_place in
    let k : length (qs ++ (q ∷ [])) ≡ length qs + 1 = length-append qs (q ∷ []) in
    let e : most_pairs - length qs ≡ suc (most_pairs - length (qs ++ (q ∷ []))) = omega arith in
    ap (λ (j : ℕ). set (map pair_place qs ++ replicate j z) (length qs) (pair_place q)) e
    ∙ set_at (map pair_place qs) z (replicate (most_pairs - length (qs ++ (q ∷ []))) z) (pair_place q) (length qs) n
    ∙ sym (append_assoc (map pair_place qs) (pair_place q ∷ []) (replicate (most_pairs - length (qs ++ (q ∷ []))) z))
    ∙ ap (λ (x : List (List ℕ)). x ++ replicate (most_pairs - length (qs ++ (q ∷ []))) z)
    (sym (map-append pair_place qs (q ∷ [])))

pub put-pair : (qs : List Pair) → All Fits qs → length qs ≤ most_pairs → (i : ℕ) (q : Pair) → Fits q → i < length qs
    → put (pair_block qs) (pair_size * i) (pad_to pair_size (pair_row q)) ≡ pair_block (set qs i q)
put-pair qs a h i q f b =
    put-pair_block qs (set qs i q) a h i (pad_to pair_size (pair_row q)) (omega arith) (length-pair_place q f)
    (set-places qs i q b)

pub push-pair : (qs : List Pair) → All Fits qs → length qs < most_pairs → (q : Pair) → Fits q
    → put (pair_block qs) (pair_size * length qs) (pad_to pair_size (pair_row q)) ≡ pair_block (qs ++ (q ∷ []))
push-pair qs a h q f =
    put-pair_block qs (qs ++ (q ∷ [])) a (omega arith) (length qs) (pad_to pair_size (pair_row q)) h (length-pair_place q f)
    (push_places qs q h)

-- the rows behind the pairs
pub drop-places : (qs : List Pair)
    → drop (length qs) (pair_places qs) ≡ replicate (most_pairs - length qs) (replicate pair_size 0)
drop-places qs =
    drop_at (map pair_place qs) (replicate (most_pairs - length qs) (replicate pair_size 0)) (length qs)
    (length-map qs pair_place)

-- every pair's row changed in place, and rows moved down with the freed ones cleared
pub map-places : (f : List ℕ → List ℕ) (g : Pair → Pair) (qs : List Pair) → All Fits qs
    → ((q : Pair) → Fits q → f (pad_to pair_size (pair_row q)) ≡ pad_to pair_size (pair_row (g q)))
    → map f (take (length qs) (pair_places qs)) ++ drop (length qs) (pair_places qs) ≡ pair_places (map g qs)
map-places f g qs a e =
    let k : length (map g qs) ≡ length qs = length-map qs g in
    rw (take-pair_places qs, drop-places qs, k, go qs a)
  where
    go : (qs : List Pair) → All Fits qs → map f (map pair_place qs) ≡ map pair_place (map g qs)
    go [] a = refl
    go (q ∷ qs) a = rw (e q a.0, go qs a.1)

pub compact-places : (ps qs : List Pair) → length qs ≤ length ps → length ps ≤ most_pairs
    → map (λ (q : Pair). pad_to pair_size (pair_row q)) qs ++
    (replicate (length ps - length qs) (replicate pair_size 0) ++ drop (length ps) (pair_places ps))
    ≡ pair_places qs
compact-places ps qs h k =
    let z : List ℕ = replicate pair_size 0 in
    let e : length ps - length qs + (most_pairs - length ps) ≡ most_pairs - length qs = omega arith in
    ap (λ (x : List (List ℕ)). map pair_place qs ++ (replicate (length ps - length qs) z ++ x)) (drop-places ps)
    ∙ ap (λ (x : List (List ℕ)). map pair_place qs ++ x)
    (replicate-append-replicate (length ps - length qs) (most_pairs - length ps) z
    ∙ ap (λ (j : ℕ). replicate j z) e)
