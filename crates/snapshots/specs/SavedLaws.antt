-- Laws of the definitions in Saved.
use Prim.Native.Nat.{ℕ, zero, suc, ◌+◌, ◌-◌, ◌*◌, ◌≤◌, ◌<◌}
use Rattle.std.specs.Prelude.{◌≡◌, Bool, false, ◌&&◌, leb, eqb, replicate}
use Rattle.std.proofs.Math.Path.{refl, sym, ap}
use Rattle.std.proofs.Common.{◌∙◌, zero-add, drop_of_length-le, take_at, drop-drop}
use Rattle.std.proofs.Math.Bool.{true}
use mathlib.Core.List.{List, [], ◌∷◌, ◌++◌, map, append_assoc, append-nil}
use native.Mathlib.Omega.{arith}
use borrow.Author.Tests.{le-leb, eq-eqb}
use borrow.Rule.Slice.PartMut.{put_mid, post_of}
use Rattle.std.proofs.Math.ListN.{length, take, drop, get_or, length-append, length-drop, length-map}
use Rattle.std.proofs.lemmas.List.{length-replicate}
use Rattle.std.proofs.Math.Seq.{length-take-le, take_all}
use Rattle.laws.specs.Put.{put, put_if}
use Rattle.laws.specs.PutLaws.{put_of, put_then, length-put}
use Rattle.laws.specs.Tests.{pick, sames}
use Rattle.laws.specs.TestsLaws.{pick_true, and_left, and_right, and_both}
use Rattle.laws.specs.Loops.{each, every, up_to}
use Rattle.laws.specs.LoopsLaws.{every-at, up_to-more, length-up_to}
use Rattle.rule.specs.Base.{All}
use Rattle.laws.specs.Rows.{rows, row}
use Rattle.laws.specs.RowsLaws.{row_at}
use Rattle.octets.specs.Numbers.{at_most}
use Rattle.octets.specs.NumbersLaws.{at-most}
use Rattle.octets.specs.Little.{octets_of}
use Rattle.octets.specs.LittleLaws.{length-octets}
use Rattle.lines.specs.Hex.{text_of}
use Rattle.lines.specs.TextsLaws.{length-text}
use Rattle.sessions.specs.Machine.{save_room, last_number}
use Rattle.model.specs.Image.{head_row, records, image_text}
use Rattle.model.specs.Sound.{octets_up_to}
use Rattle.model.specs.Block.{pad_to, padded}
use Rattle.model.specs.Layout.{block_size, head_line, most_prefix}
use Rattle.blocks.specs.FactsLaws.{sound-facts}
use Rattle.blocks.specs.RowsLaws.{length-pad_to}
use Rattle.steps.specs.FactsLaws.{up-to}
use Rattle.save.specs.Text.{head_text, rest_text, saved_text, rest_room, saves_in}
use Rattle.save.specs.TextLaws.{length-line, length-head_text, length-rest_text, length-saved_text}
use Rattle.save.specs.Passed.{lost, passed}
use Rattle.save.specs.PassedLaws.{none_passed, passed-more, passed-rest, passed-lost}
use Rattle.save.specs.ImageLaws.{head-image, rest-image}
use Rattle.editions.specs.Editions.{Edition, Gateway, sound_edition, sound_editions, sound_gateway, edition_row, edition_in, records_on, image_on, most_editions}
use Rattle.editions.proofs.FactsLaws.{Kept, kept_of_lem, Parts, parts-of}
use Rattle.editions.specs.Block.{edition_size, edition_line, edition_block, editions_of}
use Rattle.editions.proofs.BlockLaws.{editions-in}
use Rattle.editions.specs.Table.{table_of, places_of}
use Rattle.editions.specs.TableLaws.{rows-table}
use Rattle.wholes.specs.Layout.{editions_at, whole_size}
use Rattle.wholes.specs.Index.{index_block}
use Rattle.wholes.specs.Whole.{whole}
use Rattle.wholes.proofs.LaidLaws.{whole-core, whole_length, state-index, laid-editions}
use Rattle.prefixes.specs.LaidLaws.{row_fits_lem}
use Rattle.prefixes.specs.Held.{listed, edition_count, row_in, edition_at}
use Rattle.prefixes.specs.HeldLaws.{listed-count, listed-take, listed-all, count_most, prefix-short}
use Rattle.snapshots.specs.Saved.{place_of, length_at, line_at, lines_text, core_of, saved_on}

pub length-line_at : (s : List ℕ) (i : ℕ) → length (line_at s i) ≤ edition_line
unfolding line_at length_at
length-line_at s i =
    let m = at-most (get_or s (place_of i + 4) 0) most_prefix in
    length-line 0xA4 edition_size (5 + at_most (get_or s (place_of i + 4) 0) most_prefix) (drop (place_of i) s) (omega arith)

pub length-lines : (s : List ℕ) (n : ℕ) → length (up_to (line_at s) n) ≤ edition_line * n
length-lines s n = length-up_to (line_at s) edition_line (length-line_at s) n

pub length-saved_on : (s : List ℕ) → length (saved_on s) ≡ length (lines_text s) + length (saved_text (core_of s))
unfolding saved_on saved_text
length-saved_on s =
    let a = length-append (head_text (core_of s)) (lines_text s ++ rest_text (core_of s)) in
    let b = length-append (lines_text s) (rest_text (core_of s)) in
    let c = length-append (head_text (core_of s)) (rest_text (core_of s)) in
    omega arith

-- a line's octets, copied behind its name
pub line_row_lem : (s z : List ℕ) (i k : ℕ) {r : Bool} {l : List ℕ} → length s ≡ whole_size → i < most_editions
    → k ≡ length_at s i
    → z ≡ replicate (1 + edition_size) 0xA4 → (j : ℕ) → j ≡ 5 + k
    → r ≡ leb (1 + length (take j (drop (place_of i) s))) (length z) → l ≡ put_if r z 1 (take j (drop (place_of i) s))
    → (take (6 + k) l ≡ 0xA4 ∷ take (5 + k) (drop (place_of i) s)) × (length l ≡ 1 + edition_size)
unfolding length_at put
line_row_lem s z i k {r} {l} n h e y j w p q =
    let m = at-most (get_or s (place_of i + 4) 0) most_prefix in
    let x : List ℕ = take (5 + k) (drop (place_of i) s) in
    let a : take j (drop (place_of i) s) ≡ x = ap (λ (t : ℕ). take t (drop (place_of i) s)) w in
    let lx : length x ≡ 5 + k = length-take-le (5 + k) (drop (place_of i) s) (simp length-drop (omega arith)) in
    let lz : length z ≡ 1 + edition_size = ap length y ∙ length-replicate {A = ℕ} (1 + edition_size) 0xA4 in
    let b : l ≡ put z 1 x =
    put_of z 1 x (length x) (length z) (p ∙ ap (λ (t : List ℕ). leb (1 + length t) (length z)) a) (omega arith)
    (q ∙ ap (put_if r z 1) a) in
    let c : put z 1 x ≡ (0xA4 ∷ x) ++ drop {A = ℕ} (1 + length x) (replicate (1 + edition_size) 0xA4) =
    ap (λ (t : List ℕ). put t 1 x) y in (
      ap (take (6 + k)) (b ∙ c)
          ∙ take_at (0xA4 ∷ x) (drop {A = ℕ} (1 + length x) (replicate (1 + edition_size) 0xA4)) (6 + k) (omega arith),
      ap length b ∙ length-put z 1 x (omega arith) ∙ lz,
    )

-- a turn of the loop that writes the lines
pub line-put : (s out : List ℕ) (i at k : ℕ) (line : List ℕ) {r : Bool} {l : List ℕ} → k ≡ length_at s i
    → line ≡ 0xA4 ∷ take (5 + k) (drop (place_of i) s)
    → length line ≡ 6 + k → at + edition_line ≤ length out
    → r ≡ leb (at + 2 * length line + 1) (length out) → l ≡ put_if r out at (text_of line)
    → (at + 2 * (6 + k) + 1 ≡ at + length (line_at s i)) × (l ≡ put out at (line_at s i))
unfolding line_at length_at
line-put s out i at k line {r} {l} e q n h p u =
    let m = at-most (get_or s (place_of i + 4) 0) most_prefix in
    let t : text_of line ≡ text_of (0xA4 ∷ take (5 + at_most (get_or s (place_of i + 4) 0) most_prefix)
    (drop (place_of i) s)) =
    ap text_of (q ∙ ap (λ (j : ℕ). 0xA4 ∷ take (5 + j) (drop (place_of i) s)) e) in
    let w : length (text_of line) ≡ 2 * length line + 1 = length-text line in
    let x : length (text_of line)
    ≡ length (text_of (0xA4 ∷ take (5 + at_most (get_or s (place_of i + 4) 0) most_prefix) (drop (place_of i) s))) = ap
    length t in
    let y : at + 2 * length line + 1 ≡ at + (2 * length line + 1) = omega arith in (
      omega arith,
      put_of out at (text_of line) (2 * length line + 1) (length out) (p ∙ ap (λ (j : ℕ). leb j (length out)) y)
          (omega arith) u ∙ ap (put out at) t,
    )

-- the loop: the first i lines stand at an index
pub lines_more : (s z : List ℕ) (from i : ℕ) {at : ℕ} {out l : List ℕ} → from + edition_line * most_editions ≤ length z
    → i < most_editions
    → at ≡ from + length (up_to (line_at s) i) → out ≡ put z from (up_to (line_at s) i) → l ≡ put out at (line_at s i)
    → (at + length (line_at s i) ≡ from + length (up_to (line_at s) (i + 1))) × (l ≡ put z from (up_to (line_at s) (i + 1)))
lines_more s z from i {at} {out} {l} n h e q w =
    let m = up_to-more (line_at s) i in
    let k : length (up_to (line_at s) (i + 1)) ≡ length (up_to (line_at s) i) + length (line_at s i) =
    ap length m ∙ length-append (up_to (line_at s) i) (line_at s i) in
    let b = length-lines s i in
    (omega arith, put_then z from (up_to (line_at s) i) at (line_at s i) (omega arith) q e w (sym m))

-- rows of editions
abbrev Fits : Edition → Type 0
Fits e = sound_edition e ≡ true

sound-own : (e : Edition) → sound_edition e ≡ true
    → (leb e.from last_number && octets_up_to most_prefix e.prefix) ≡ true
unfolding sound_edition
sound-own e f = f

short-own : (e : Edition) → sound_edition e ≡ true → length e.prefix ≤ most_prefix
short-own e f = (up-to most_prefix e.prefix
    (and_right (leb e.from last_number) (octets_up_to most_prefix e.prefix) (sound-own e f))).0

long : (e : Edition) → Fits e → length (pad_to edition_size (edition_row e)) ≡ edition_size
long e f = length-pad_to edition_size (edition_row e) (row_fits_lem e (short-own e f))

row-length : (e : Edition) → length (edition_row e) ≡ 5 + length e.prefix
unfolding edition_row
row-length e = let a =
    length-octets 4 e.from in length-append (octets_of 4 e.from) (length e.prefix ∷ e.prefix) ∙ omega arith

all_fit : (es : List Edition) → every sound_edition es ≡ true → All Fits es
unfolding every
all_fit [] f = tt
all_fit (e ∷ es) f = (
  and_left (sound_edition e) (every sound_edition es) f,
  all_fit es
      (and_right (sound_edition e) (every sound_edition es) f),
)

get_d_append_left : {A : Type 0} (l m : List A) (i : ℕ) (d : A) → i < length l → get_or (l ++ m) i d ≡ get_or l i d
get_d_append_left [] m i d h = absurd (omega arith)
get_d_append_left (a ∷ l) m zero d h = refl
get_d_append_left (a ∷ l) m (suc i) d h = get_d_append_left l m i d (omega arith)

at_map : (es : List Edition) (i : ℕ) → i < length es → (e : Edition)
    → get_or (map (λ (a : Edition). pad_to edition_size (edition_row a)) es) i []
    ≡ pad_to edition_size (edition_row (get_or es i e))
at_map [] i h e = absurd (omega arith)
at_map (d ∷ es) zero h e = refl
at_map (d ∷ es) (suc i) h e = at_map es i (omega arith) e

get_d_any : {A : Type 0} (l : List A) (i : ℕ) (d e : A) → i < length l → get_or l i e ≡ get_or l i d
get_d_any [] i d e h = absurd (omega arith)
get_d_any (a ∷ l) zero d e h = refl
get_d_any (a ∷ l) (suc i) d e h = get_d_any l i d e (omega arith)

in-pad : (r : List ℕ) (n : ℕ) → length r ≡ n → take n (pad_to edition_size r) ≡ r
unfolding pad_to
in-pad r n e = take_at r (replicate (edition_size - length r) 0) n e

row-taken : (s : List ℕ) (i n : ℕ) → n ≤ edition_size → take n (drop (place_of i) s) ≡ take n (row_in s i)
unfolding row_in row
row-taken s i n b =
    sym (take_less n edition_size (drop (edition_size * i) (drop editions_at s)) b
    ∙ ap (take n) (drop-drop (edition_size * i) editions_at s))
  where
    take_less : {A : Type 0} (i n : ℕ) (l : List A) → i ≤ n → take i (take n l) ≡ take i l
    take_less zero n l h = refl
    take_less (suc i) zero l h = absurd (omega arith)
    take_less (suc i) (suc n) [] h = refl
    take_less (suc i) (suc n) (a ∷ l) h = ap (λ k. a ∷ k) (take_less i n l (omega arith))

edition-at : (s : List ℕ) (i : ℕ) (e : Edition) → row_in s i ≡ pad_to edition_size (edition_row e) → sound_edition e ≡ true
    → edition_at s i ≡ e
unfolding edition_at edition_in edition_row octets_of pad_to last_number
edition-at s i e r f =
    let w = sound-own e f in
    let h : e.from ≤ last_number =
    borrow.Author.Tests.leb-true e.from last_number
    (and_left (leb e.from last_number) (octets_up_to most_prefix e.prefix) w) in
    let z : List ℕ = replicate (edition_size - length (edition_row e)) 0 in
    let b : e.from < 4294967296 = omega arith in
    let v : Rattle.octets.specs.Little.little 4 (octets_of 4 e.from ++ (length e.prefix ∷ (e.prefix ++ z))) 0
    ≡ e.from =
    Rattle.blocks.specs.RowsLaws.little-in 4 [] e.from (length e.prefix ∷ (e.prefix ++ z)) 0 refl b in
    ap Rattle.editions.specs.Editions.edition_in r ∙ rw (v, take_at e.prefix z (length e.prefix) refl)

-- lines of the editions that stand in a block
module _ (s : List ℕ) (es : List Edition) (ok : sound_editions es ≡ true) (is : drop editions_at s ≡ edition_block es)
    (l : length s ≡ whole_size) where
  listed-is : listed s ≡ es
  unfolding listed
  listed-is = ap editions_of is ∙ editions-in es ok

  -- the line of an edition: its octets in the block are its row
  row_of : (i : ℕ) → i < edition_count s → (e : Edition) → get_or es i e ≡ e → sound_edition e ≡ true
      → row_in s i ≡ pad_to edition_size (edition_row e)
  unfolding row_in edition_block
  row_of i h e q f =
      let m = count_most s in
      let k : Kept es = kept_of_lem es ok in
      let c : edition_count s ≡ length es = sym (listed-count s) ∙ ap length listed-is in
      let t : List ℕ = table_of edition_size most_editions edition_row es ++ (length es ∷ []) in
      let d : drop editions_at s ≡ t = is in
      let r : rows edition_size most_editions t ≡ places_of edition_size most_editions edition_row es =
      rows-table edition_size most_editions edition_row Fits long es (all_fit es k.fit) k.room (length es ∷ []) in
      ap (row edition_size i) d ∙ sym (row_at edition_size most_editions i t (omega arith))
      ∙ ap (λ (l : List (List ℕ)). get_or l i []) r
      ∙ get_d_append_left (map (λ (a : Edition). pad_to edition_size (edition_row a)) es)
      (replicate (most_editions - length es) (replicate edition_size 0)) i []
      (let n = length-map es (λ (a : Edition). pad_to edition_size (edition_row a)) in omega arith)
      ∙ at_map es i (omega arith) e ∙ ap (λ (a : Edition). pad_to edition_size (edition_row a)) q

  line_of : (i : ℕ) → i < edition_count s → line_at s i ≡ text_of (0xA4 ∷ edition_row (edition_at s i))
  unfolding line_at length_at
  line_of i h =
      let m = count_most s in
      let c : edition_count s ≡ length es = sym (listed-count s) ∙ ap length listed-is in
      let k : ℕ = at_most (get_or s (place_of i + 4) 0) most_prefix in
      let e : Edition = get_or es i (edition_at s i) in
      let f : sound_edition e ≡ true = every-at sound_edition es i (edition_at s i) (kept_of_lem es ok).fit (omega arith) in
      let r : row_in s i ≡ pad_to edition_size (edition_row e) =
      row_of i h e (get_d_any es i (edition_at s i) e (omega arith)) f in
      let same : edition_at s i ≡ e = at_same i r f in
      let n : length e.prefix ≡ k =
      ap (λ (a : Edition). length a.prefix) (sym same)
      ∙ prefix-short s i l (omega arith) k (get_or s (place_of i + 4) 0) refl refl in
      let u = up-to most_prefix e.prefix
      (and_right (leb e.from last_number) (octets_up_to most_prefix e.prefix) (sound-parts e f)) in
      let o : length (edition_row e) ≡ 5 + k = row-length e ∙ ap (λ (j : ℕ). 5 + j) n in
      let b : k ≤ most_prefix = at-most (get_or s (place_of i + 4) 0) most_prefix in
      ap (λ (x : List ℕ). text_of (0xA4 ∷ x))
      (in_row i (5 + k) (omega arith) ∙ ap (take (5 + k)) r ∙ in-pad (edition_row e) (5 + k) o)
      ∙ ap (λ (a : Edition). text_of (0xA4 ∷ edition_row a)) (sym same)
    where
      sound-parts : (e : Edition) → sound_edition e ≡ true
          → (leb e.from last_number && octets_up_to most_prefix e.prefix) ≡ true
      sound-parts e f = sound-own e f

      at_same : (i : ℕ) → {e : Edition} → row_in s i ≡ pad_to edition_size (edition_row e) → sound_edition e ≡ true
          → edition_at s i ≡ e
      at_same i {e} r f = edition-at s i e r f

      in_row : (i n : ℕ) → n ≤ edition_size → take n (drop (place_of i) s) ≡ take n (row_in s i)
      in_row i n b = row-taken s i n b

  lines_of : (n : ℕ) → n ≤ edition_count s
      → up_to (line_at s) n ≡ each text_of (map (λ (e : Edition). 0xA4 ∷ edition_row e) (take n (listed s)))
  unfolding up_to each
  lines_of zero h = refl
  lines_of (suc n) h =
      ap (λ (u : List ℕ). u ++ line_at s n) (lines_of n (omega arith))
      ∙ ap (λ (u : List ℕ). each text_of (map a4 (take n (listed s))) ++ u) (line_of n (omega arith))
      ∙ sym (ap (λ (l : List Edition). each text_of (map a4 l)) (listed-take s n (omega arith))
      ∙ each_snoc (take n (listed s)) (edition_at s n))
    where
      a4 : Edition → List ℕ
      a4 e = 0xA4 ∷ edition_row e

      each_snoc : (l : List Edition) (e : Edition) → each text_of (map a4 (l ++ (e ∷ []))) ≡ each text_of (map a4 l)
          ++ text_of (a4 e)
      each_snoc [] e = append-nil (text_of (a4 e))
      each_snoc (d ∷ l) e =
          ap (λ (u : List ℕ). text_of (a4 d) ++ u) (each_snoc l e)
          ∙ sym (append_assoc (text_of (a4 d)) (each text_of (map a4 l)) (text_of (a4 e)))

  pub lines-text : lines_text s ≡ each text_of (map (λ (e : Edition). 0xA4 ∷ edition_row e) es)
  unfolding lines_text
  lines-text =
      lines_of (edition_count s) (omega arith)
      ∙ ap (λ (x : List Edition). each text_of (map (λ (e : Edition). 0xA4 ∷ edition_row e) x))
      (listed-all s ∙ listed-is)

-- of the whole block of a sound state: its image
module _ (g : Gateway) (good : sound_gateway g ≡ true) where
  p : Parts g
  p = parts-of g good

  abbrev s : List ℕ
  s = whole g

  pub saved-whole : saved_on s ≡ image_on g
  unfolding saved_on image_on whole records_on image_text records each
  saved-whole =
      let c : core_of s ≡ padded g.core = whole-core g good in
      let f = sound-facts g.core p.core in
      let h : head_text (core_of s) ≡ text_of (0xA0 ∷ head_row g.core) =
      ap head_text c ∙ head-image g.core f.prefix-most in
      let hl : List ℕ = text_of (0xA0 ∷ head_row g.core) in
      let r : List (List ℕ) = drop 1 (records g.core) in
      let t : rest_text (core_of s) ≡ each text_of r = ap rest_text c ∙ rest-image g.core p.core in
      let ls : lines_text s ≡ each text_of (map (λ (e : Edition). 0xA4 ∷ edition_row e) g.editions) =
      lines-text s g.editions p.editions
      (laid-editions g (index_block g.core.pairs) p.core p.editions (state-index g good))
      (whole_length g good) in
      ap (λ (x : List ℕ). x ++ (lines_text s ++ rest_text (core_of s))) h
      ∙ ap (λ (x : List ℕ). hl ++ (lines_text s ++ x)) t
      ∙ ap (λ (x : List ℕ). hl ++ (x ++ each text_of r)) ls
      ∙ ap (λ (x : List ℕ). hl ++ x) (sym (join (map (λ (e : Edition). 0xA4 ∷ edition_row e) g.editions) r))
    where
      join : (xs ys : List (List ℕ)) → each text_of (xs ++ ys) ≡ each text_of xs ++ each text_of ys
      join [] ys = refl
      join (x ∷ xs) ys =
          ap (λ (l : List ℕ). text_of x ++ l) (join xs ys)
          ∙ sym (append_assoc (text_of x) (each text_of xs) (each text_of ys))

-- the pieces that the code puts together
pub lines-short : (s : List ℕ) → length (lines_text s) ≤ edition_line * most_editions
unfolding lines_text
lines-short s = let a = length-lines s (edition_count s) in let b = count_most s in omega arith

pub saved-most : (s : List ℕ) → length (saved_on s) ≤ save_room
saved-most s = let a = length-saved_on s in let b = length-saved_text (core_of s) in let c = lines-short s in omega arith

-- a part that save wrote into enough room
part-saved : (need : ℕ) (c o x : List ℕ) {r : ℕ} {y : List ℕ} → length c ≡ block_size → need ≤ length o
    → r ≡ pick (saves_in need c (length o)) (length x) 0
    → y ≡ put_if (saves_in need c (length o)) o 0 x → (r ≡ length x) × (y ≡ put o 0 x)
unfolding saves_in
part-saved need c o x l h p q =
    let e : (eqb (length c) block_size && leb need (length o)) ≡ true =
    and_both (eq-eqb (length c) block_size l) (le-leb need (length o) h) in
    (p ∙ pick_true (length x) 0 e, q ∙ sym (Rattle.laws.specs.PutLaws.put-if-true o 0 x e))

part-put : (out : List ℕ) (at : ℕ) (ys part : List ℕ) → part ≡ put (take (length out - at) (drop at out)) 0 ys
    → put_mid at (length out - at) out part ≡ put out at ys
unfolding put
part-put out at ys part e =
    let z : post_of at (length out - at) out ≡ [] =
    drop_of_length-le (drop at out) {i = length out - at} (simp length-drop (omega arith)) in
    let d : drop (0 + length ys) (drop at out) ≡ drop (at + length ys) out =
    ap (λ (k : ℕ). drop k (drop at out)) (zero-add (length ys)) ∙ drop-drop (length ys) at out in
    let tail : take (length out - at) (drop at out) ≡ drop at out =
    take_all (length out - at) (drop at out) (simp length-drop (omega arith)) in
    let p : part ≡ ys ++ drop (at + length ys) out =
    e ∙ ap (λ (l : List ℕ). put l 0 ys) tail ∙ ap (λ (l : List ℕ). ys ++ l) d in
    ap (λ (l : List ℕ). take at out ++ (part ++ l)) z ∙ ap (λ (l : List ℕ). take at out ++ l) (append-nil part)
    ∙ ap (λ (l : List ℕ). take at out ++ l) p ∙ sym (append_assoc (take at out) ys (drop (at + length ys) out))

-- the first line, the editions' lines, the rest
module _ (s out : List ℕ) (l : length s ≡ whole_size) (h : save_room ≤ length out) where
  core-long : length (core_of s) ≡ block_size
  core-long = length-take-le block_size s (omega arith)

  pub head-put : {a : ℕ} {x : List ℕ}
      → a ≡ pick (saves_in head_line (core_of s) (length out)) (length (head_text (core_of s))) 0
      → x ≡ put_if (saves_in head_line (core_of s) (length out)) out 0 (head_text (core_of s))
      → (a ≡ length (head_text (core_of s))) × (x ≡ put out 0 (head_text (core_of s)))
  head-put p q = part-saved head_line (core_of s) out (head_text (core_of s)) core-long (omega arith) p q

  module _ {a b : ℕ} {x y : List ℕ} (ea : a ≡ length (head_text (core_of s))) (ex : x ≡ put out 0 (head_text (core_of s)))
      (eb : b ≡ a + length (lines_text s)) (ey : y ≡ put x a (lines_text s)) where
    pub room-left : (length x ≡ length out) × (length y ≡ length out) × (b + rest_room ≤ length out)
    room-left =
        let i = length-head_text (core_of s) in
        let j = lines-short s in
        let lx : length x ≡ length out = ap length ex ∙ length-put out 0 (head_text (core_of s)) (omega arith) in
        let ly : length y ≡ length x = ap length ey ∙ length-put x a (lines_text s) (omega arith) in
        (lx, ly ∙ lx, omega arith)

    pub image-put : {n : ℕ} {part : List ℕ}
        → n ≡ pick (saves_in rest_room (core_of s) (length (take (length y - b) (drop b y))))
        (length (rest_text (core_of s))) 0
        → part ≡ put_if (saves_in rest_room (core_of s) (length (take (length y - b) (drop b y))))
        (take (length y - b) (drop b y)) 0 (rest_text (core_of s))
        → (b + n ≡ length (saved_on s)) × (put_mid b (length y - b) y part ≡ put out 0 (saved_on s))
    unfolding saved_on
    image-put {n} {part} p q =
        let w = room-left in
        let hd : List ℕ = head_text (core_of s) in
        let la : List ℕ = lines_text s in
        let re : List ℕ = rest_text (core_of s) in
        let d : length (take (length y - b) (drop b y)) ≡ length y - b =
        length-take-le (length y - b) (drop b y) (simp length-drop (omega arith)) in
        let r = part-saved rest_room (core_of s) (take (length y - b) (drop b y)) re core-long
        (let i = w.1 in let j = w.2 in omega arith) p q in
        let z : put_mid b (length y - b) y part ≡ put y b re = part-put y b re part r.1 in
        let i = length-head_text (core_of s) in
        let j = lines-short s in
        let k = length-rest_text (core_of s) in
        let y1 : y ≡ put out 0 (hd ++ la) =
        put_then out 0 hd a la (omega arith) ex (ea ∙ sym (zero-add (length hd))) ey refl in
        let m = length-append hd la in
        let y2 : put y b re ≡ put out 0 ((hd ++ la) ++ re) =
        put_then out 0 (hd ++ la) b re (let o = length-append (hd ++ la) re in omega arith) y1 (omega arith) refl
        refl in
        let o = length-append hd (la ++ re) in
        let u = length-append la re in
        (let v = r.0 in omega arith, z ∙ y2 ∙ ap (put out 0) (append_assoc hd la re))

-- a text held to a block's, line by line
module _ (s t : List ℕ) (l : length s ≡ whole_size) (h : length t ≤ save_room) where
  pub lines-begin : (from : ℕ) → from ≡ passed t from (up_to (line_at s) 0)
  unfolding up_to
  lines-begin from = none_passed t h from

  pub line-passed : (from i : ℕ) {at next : ℕ} → at ≡ passed t from (up_to (line_at s) i)
      → next ≡ passed t at (line_at s i)
      → next ≡ passed t from (up_to (line_at s) (i + 1))
  line-passed from i e q =
      q ∙ ap (λ (j : ℕ). passed t j (line_at s i)) e ∙ passed-more t h from (up_to (line_at s) i) (line_at s i)
      ∙ ap (passed t from) (sym (up_to-more (line_at s) i))

  module _ {a b : ℕ} (ea : a ≡ pick (eqb (length (core_of s)) block_size) (passed t 0 (head_text (core_of s))) lost)
      (eb : b ≡ passed t a (lines_text s)) where
    both-passed : b ≡ passed t 0 (head_text (core_of s) ++ lines_text s)
    both-passed =
        let c : length (core_of s) ≡ block_size = length-take-le block_size s (omega arith) in
        eb ∙ ap (λ (j : ℕ). passed t j (lines_text s))
        (ea ∙ pick_true (passed t 0 (head_text (core_of s))) lost (eq-eqb (length (core_of s)) block_size c))
        ∙ passed-more t h 0 (head_text (core_of s)) (lines_text s)

    pub other_text : length t < b → false ≡ sames (saved_on s) t
    unfolding saved_on
    other_text k =
        passed-lost t h (head_text (core_of s) ++ lines_text s) (rest_text (core_of s)) b both-passed k
        ∙ ap (λ (x : List ℕ). sames x t) (append_assoc (head_text (core_of s)) (lines_text s) (rest_text (core_of s)))

    pub same_text : b ≤ length t → {r : Bool} (n : ℕ) → n ≡ length t - b
        → r ≡ (eqb (length (core_of s)) block_size && sames (rest_text (core_of s)) (take n (drop b t)))
        → r ≡ sames (saved_on s) t
    unfolding saved_on
    same_text k {r} n e q =
        let c : length (core_of s) ≡ block_size = length-take-le block_size s (omega arith) in
        let d : take n (drop b t) ≡ drop b t = take_all n (drop b t) (simp length-drop (omega arith)) in
        q ∙ ap (λ (x : Bool). x && sames (rest_text (core_of s)) (take n (drop b t)))
        (eq-eqb (length (core_of s)) block_size c)
        ∙ ap (sames (rest_text (core_of s))) d
        ∙ passed-rest t h (head_text (core_of s) ++ lines_text s) (rest_text (core_of s)) b both-passed k
        ∙ ap (λ (x : List ℕ). sames x t) (append_assoc (head_text (core_of s)) (lines_text s) (rest_text (core_of s)))
