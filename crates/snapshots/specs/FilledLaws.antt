-- The lines of a sound state's image stored in an empty block, and the index worked out: the state's whole block.
-- Document 01, The image; document 02, T-02, T-12. Assumes nothing.
use Prim.Native.Nat.{ℕ, zero, suc, ◌+◌, ◌-◌, ◌*◌, ◌≤◌, ◌<◌}
use Rattle.std.specs.Prelude.{◌≡◌, Bool, true, false, ◌&&◌, eqb, ltb, leb, take, get_or}
use Rattle.std.proofs.Math.Path.{refl, sym, ap}
use Rattle.std.proofs.Common.{◌∙◌, subst, zero-add, eq-eqb, lt-ltb, length-drop, drop_at, take_at, length-take-le, take_all, drop-drop}
use mathlib.Core.List.{List, [], ◌∷◌, ◌++◌, map, append_assoc, append-nil}
use Rattle.std.proofs.Math.Option.{Option, none, some}
use native.Mathlib.Omega.{arith}
use Rattle.std.proofs.Math.ListN.{length, drop, replicate, length-append, length-replicate}
use Rattle.std.proofs.lemmas.List.{replicate-append-replicate, length-map, get_or_at}
use Rattle.laws.specs.Tests.{pick}
use Rattle.laws.specs.TestsLaws.{pick_true, pick-false, and_left, and_right}
use Rattle.laws.specs.Put.{put, put_if}
use Rattle.laws.specs.PutLaws.{put_of, put-left, put_right, put_then, take_put, length-put}
use Rattle.laws.specs.Loops.{every, each}
use Rattle.laws.specs.Rows.{flat}
use Rattle.laws.specs.RowsLaws.{put_whole}
use Rattle.octets.specs.Little.{is_octet, octets_of}
use Rattle.octets.specs.LittleLaws.{length-octets}
use Rattle.lines.specs.Hex.{text_of}
use Rattle.lines.specs.TextsLaws.{length-text}
use Rattle.reader.specs.Pairs.{leading}
use Rattle.reader.specs.AnswersLaws.{line-there}
use Rattle.rule.specs.Base.{All}
use Rattle.rule.specs.BaseLaws.{all_append}
use Rattle.sessions.specs.Machine.{core_room, last_number}
use Rattle.model.specs.Types.{Model, Monitor, Pair}
use Rattle.model.specs.Image.{head_row, monitor_row, extra_text, name_of, monitor_text, pair_row, end_row, records, image_text, is_image, held_in}
use Rattle.model.specs.Sound.{sound_model, octets_up_to}
use Rattle.model.specs.Block.{model_of, pad_to, padded}
use Rattle.model.specs.Engine.{block_in as core_in}
use Rattle.model.specs.Layout.{block_size, line_row, most_prefix}
use Rattle.blocks.specs.BlockLaws.{padded-length}
use Rattle.blocks.specs.RowsLaws.{length-pad_to, octets-cons}
use Rattle.steps.specs.FactsLaws.{up-to}
use Rattle.images.specs.RestoresLaws.{held-image, image-is}
use Rattle.images.specs.SizesLaws.{image-most}
use Rattle.restore.specs.Lines.{stored}
use Rattle.restore.specs.LinesLaws.{stored_all, length-stored}
use Rattle.restore.specs.Rows.{Row}
use Rattle.restore.specs.SpreadLaws.{behind-name, name-of}
use Rattle.restore.specs.FillLaws.{records-rows, records-stored}
use Rattle.editions.specs.Editions.{Edition, Gateway, sound_edition, sound_editions, sound_gateway, edition_row, records_on, image_on, most_editions}
use Rattle.editions.proofs.FactsLaws.{Kept, kept_of_lem, Parts, parts-of}
use Rattle.editions.specs.Block.{edition_size, edition_count_at, editions_size, edition_block}
use Rattle.editions.proofs.BlockLaws.{length-edition_block}
use Rattle.editions.specs.Table.{table_of}
use Rattle.prefixes.specs.ForceLaws.{zeros-behind}
use Rattle.prefixes.specs.Laid.{placed}
use Rattle.prefixes.specs.LaidLaws.{row_fits_lem, rows_more, rows_of}
use Rattle.prefixes.specs.MoreLaws.{more-row, rows_long}
use Rattle.wholes.specs.Layout.{editions_at, editions_count_at, index_at, index_size, whole_size}
use Rattle.wholes.specs.Index.{index_block}
use Rattle.wholes.specs.Whole.{laid_with, whole}
use Rattle.wholes.proofs.LaidLaws.{laid-length, laid-held, state-index}
use Rattle.index.specs.Renewed.{renewed}
use Rattle.snapshots.specs.Stored.{stored_on, stored_edition, stored_all_on}

-- a core, an empty index, and editions
unfoldable pub onto : List ℕ → List Edition → List ℕ
onto c es = (c ++ replicate index_size 0) ++ edition_block es

pub onto-none : replicate whole_size 0 ≡ onto (replicate block_size 0) []
unfolding onto edition_block table_of flat
onto-none = refl

-- lines of other names
Other : List ℕ → Type 0
Other r = (k : ℕ) × (q : List ℕ) × (r ≡ k ∷ q) × (eqb k 0xA4 ≡ false) × (length r ≤ line_row)

Named : List ℕ → Type 0
Named r = (k : ℕ) × (q : List ℕ) × (r ≡ k ∷ q) × (eqb k 0xA4 ≡ false)

named_other : (c : List ℕ) (es : List Edition) (k : ℕ) (r : List ℕ) → length c ≡ block_size → eqb k 0xA4 ≡ false
    → stored_on (onto c es) (pad_to line_row (k ∷ r)) ≡ onto (stored c (pad_to line_row (k ∷ r))) es
unfolding stored_on onto
named_other c es k r n e =
    let l : List ℕ = pad_to line_row (k ∷ r) in
    let z : List ℕ = replicate index_size 0 in
    let b : List ℕ = edition_block es in
    let a : (c ++ z) ++ b ≡ c ++ (z ++ b) = append_assoc c z b in
    pick-false (stored_edition ((c ++ z) ++ b) (take edition_size (drop 1 l))) _
    (ap (λ (i : ℕ). eqb i 0xA4) (name-of k r) ∙ e)
    ∙ ap (λ (x : List ℕ). stored (take block_size x) l ++ drop block_size x) a
    ∙ ap (λ (x : List ℕ). stored x l ++ drop block_size (c ++ (z ++ b))) (take_at c (z ++ b) block_size n)
    ∙ ap (λ (x : List ℕ). stored c l ++ x) (drop_at c (z ++ b) block_size n)
    ∙ sym (append_assoc (stored c l) z b)

others : (c : List ℕ) (es : List Edition) (rs : List (List ℕ)) → length c ≡ block_size → All Other rs
    → stored_all_on (onto c es) rs ≡ onto (stored_all c rs) es
unfolding stored_all_on stored_all Other
others c es [] n a = refl
others c es (r ∷ rs) n a =
    let l : List ℕ = pad_to line_row r in
    let m : length l ≡ line_row = length-pad_to line_row r a.0.4 in
    ap (λ (u : List ℕ). stored_all_on u rs)
    (ap (λ (x : List ℕ). stored_on (onto c es) (pad_to line_row x)) a.0.2
    ∙ named_other c es a.0.0 a.0.1 n a.0.3
    ∙ ap (λ (x : List ℕ). onto (stored c (pad_to line_row x)) es) (sym a.0.2))
    ∙ others (stored c l) es rs (length-stored c n l m) a.1

others-of : (rs : List (List ℕ)) → All Row rs → All Named rs → All Other rs
unfolding Other Named
others-of [] a b = tt
others-of (r ∷ rs) a b = ((b.0.0, b.0.1, b.0.2, b.0.3, a.0.most), others-of rs a.1 b.1)

monitors-other : (l : List (ℕ × Monitor)) → All Named (map monitor_text l)
unfolding Named monitor_text name_of
monitors-other [] = tt
monitors-other (x ∷ l) =
    ((name_of x.1.extra, monitor_row x ++ extra_text x.1.extra, refl, name x.1.extra), monitors-other l)
  where
    name : (o : Option (List ℕ)) → eqb (name_of o) 0xA4 ≡ false
    name none = refl
    name (some a) = refl

pairs-other : (l : List Pair) → All Named (map (λ (q : Pair). 0xA3 ∷ pair_row q) l)
unfolding Named
pairs-other [] = tt
pairs-other (q ∷ l) = ((0xA3, pair_row q, refl, refl), pairs-other l)

rest-other : (m : Model) → All Named (drop 1 (records m))
unfolding records Named
rest-other m =
    all_append Named (map monitor_text m.mons) _ (monitors-other m.mons)
    (all_append Named (map (λ (q : Pair). 0xA3 ∷ pair_row q) m.pairs) ((0xAF ∷ end_row m) ∷ [])
    (pairs-other m.pairs) ((0xAF, end_row m, refl, refl), tt))

-- one edition's line more
short-of : (e : Edition) → sound_edition e ≡ true → length e.prefix ≤ most_prefix
unfolding sound_edition
short-of e f = (up-to most_prefix e.prefix
    (and_right (leb e.from last_number) (octets_up_to most_prefix e.prefix) f)).0

more-placed : (es : List Edition) (e : Edition) → every sound_edition es ≡ true → length es < most_editions
    → sound_edition e ≡ true
    → put (put (edition_block es) (edition_size * length es) (placed e)) edition_count_at ((length es + 1) ∷ [])
    ≡ edition_block (es ++ (e ∷ []))
more-placed es e f h k =
    let c : ℕ = length es in
    let p : List ℕ = placed e in
    let m : ℕ = edition_size * (most_editions - c) in
    let r : ℕ = edition_size * (most_editions - (c + 1)) in
    let lp : length p ≡ edition_size = length-pad_to edition_size (edition_row e) (row_fits_lem e (short-of e k)) in
    more-row es e p f h (short-of e k) (omega arith)
    (zeros-behind m p ∙ ap (λ (t : ℕ). p ++ replicate t 0) (let q : m - length p ≡ r = omega arith in q))

block-count : (x : List ℕ) (es : List Edition) → length x ≡ editions_at → every sound_edition es ≡ true
    → length es ≤ most_editions
    → get_or (x ++ edition_block es) editions_count_at 0 ≡ length es
unfolding edition_block table_of rows_of
block-count z es a f h =
    let x : List ℕ = flat (map placed es) ++ replicate (edition_size * (most_editions - length es)) 0 in
    let b : length (flat (map placed es)) ≡ edition_size * length es = rows_long es f in
    let c : length (replicate {A = ℕ} (edition_size * (most_editions - length es)) 0)
    ≡ edition_size * (most_editions - length es) = length-replicate {A = ℕ}
    (edition_size * (most_editions - length es)) 0 in
    let d : length (z ++ x) ≡ editions_count_at =
    let i = length-append z x in let j =
    length-append (flat (map placed es)) (replicate {A = ℕ} (edition_size * (most_editions - length es)) 0) in omega
    arith in
    ap (λ (l : List ℕ). get_or l editions_count_at 0) (sym (append_assoc z x (length es ∷ [])))
    ∙ get_or_at (z ++ x) (length es) [] 0 editions_count_at d

one_more : (c : List ℕ) (es : List Edition) (e : Edition) → length c ≡ block_size → every sound_edition es ≡ true
    → length es < most_editions → sound_edition e ≡ true
    → stored_on (onto c es) (pad_to line_row (0xA4 ∷ edition_row e)) ≡ onto c (es ++ (e ∷ []))
unfolding stored_on stored_edition onto
one_more c es e n f h k =
    let l : List ℕ = pad_to line_row (0xA4 ∷ edition_row e) in
    let x : List ℕ = c ++ replicate index_size 0 in
    let b = row_fits_lem e (short-of e k) in
    let r : take edition_size (drop 1 l) ≡ placed e = behind-name 0xA4 edition_size (edition_row e) b (omega arith) in
    let z : length x ≡ editions_at =
    length-append c (replicate index_size 0) ∙ (let i = length-replicate {A = ℕ} index_size 0 in omega arith) in
    let c1 : get_or (x ++ edition_block es) editions_count_at 0 ≡ length es = block-count x es z f (omega arith) in
    let inside : (u ys : List ℕ) (j : ℕ) → put (x ++ u) (editions_at + j) ys ≡ x ++ put u j ys =
    λ u ys j. ap (λ (i : ℕ). put (x ++ u) (i + j) ys) (sym z) ∙ put_right x u j ys in
    pick_true (stored_edition (onto c es) (take edition_size (drop 1 l))) _
    (ap (λ (i : ℕ). eqb i 0xA4) (name-of 0xA4 (edition_row e)))
    ∙ pick_true _ _ (ap (λ (i : ℕ). ltb i most_editions) c1 ∙ lt-ltb (length es) most_editions h)
    ∙ ap (λ (i : ℕ). put (put (x ++ edition_block es) (editions_at + edition_size * i) (take edition_size (drop 1 l)))
    editions_count_at ((i + 1) ∷ [])) c1
    ∙ ap (λ (u : List ℕ). put (put (x ++ edition_block es) (editions_at + edition_size * length es) u) editions_count_at
    ((length es + 1) ∷ [])) r
    ∙ ap (λ (u : List ℕ). put u editions_count_at ((length es + 1) ∷ []))
    (inside (edition_block es) (placed e) (edition_size * length es))
    ∙ inside (put (edition_block es) (edition_size * length es) (placed e)) ((length es + 1) ∷ []) edition_count_at
    ∙ ap (λ (u : List ℕ). x ++ u) (more-placed es e f h k)

many_more : (c : List ℕ) (ds es : List Edition) (rs : List (List ℕ)) → length c ≡ block_size
    → every sound_edition ds ≡ true → every sound_edition es ≡ true
    → length ds + length es ≤ most_editions
    → stored_all_on (onto c ds) (map (λ (e : Edition). 0xA4 ∷ edition_row e) es ++ rs) ≡ stored_all_on
    (onto c (ds ++ es)) rs
unfolding stored_all_on every
many_more c ds [] rs n f g h = ap (λ (l : List Edition). stored_all_on (onto c l) rs) (sym (append-nil ds))
many_more c ds (e ∷ es) rs n f g h =
    let k : sound_edition e ≡ true = and_left (sound_edition e) (every sound_edition es) g in
    let m : length (ds ++ (e ∷ [])) ≡ length ds + 1 = length-append ds (e ∷ []) in
    ap (λ (u : List ℕ). stored_all_on u (map (λ (d : Edition). 0xA4 ∷ edition_row d) es ++ rs))
    (one_more c ds e n f (omega arith) k)
    ∙ many_more c (ds ++ (e ∷ [])) es rs n
    (Rattle.laws.specs.LoopsLaws.every_append sound_edition ds (e ∷ [])
    ∙ Rattle.laws.specs.TestsLaws.and_both f (Rattle.laws.specs.TestsLaws.and_both k refl))
    (and_right (sound_edition e) (every sound_edition es) g) (omega arith)
    ∙ ap (λ (l : List Edition). stored_all_on (onto c l) rs) (append_assoc ds (e ∷ []) es)

module _ (g : Gateway) (good : sound_gateway g ≡ true) where
  p : Parts g
  p = parts-of g good

  abbrev m : Model
  m = g.core

  abbrev es : List Edition
  es = g.editions

  k : Kept es
  k = kept_of_lem es p.editions

  -- every line is a row that fits
  edition-rows : (l : List Edition) → every sound_edition l ≡ true
      → All Row (map (λ (e : Edition). 0xA4 ∷ edition_row e) l)
  unfolding every sound_edition edition_row
  edition-rows [] f = tt
  edition-rows (e ∷ l) f =
      let o = and_left (leb e.from last_number && octets_up_to most_prefix e.prefix) (every sound_edition l) f in
      let u = up-to most_prefix e.prefix
      (and_right (leb e.from last_number) (octets_up_to most_prefix e.prefix) o) in
      let a = length-octets 4 e.from in
      let n = length-append (octets_of 4 e.from) (length e.prefix ∷ e.prefix) in (
        record {
          octets = octets-cons 0xA4 (octets_of 4 e.from ++ (length e.prefix ∷ e.prefix)) (omega arith)
              (Rattle.blocks.specs.RowsLaws.octets-append (octets_of 4 e.from) (length e.prefix ∷ e.prefix)
              (Rattle.octets.specs.LittleLaws.octets-octets 4 e.from)
              (octets-cons (length e.prefix) e.prefix (omega (arith, u.0)) u.1));
          most = omega (arith, u.0);
        },
        edition-rows l (and_right (leb e.from last_number && octets_up_to most_prefix e.prefix)
            (every sound_edition l) f),
      )

  pub rows_fit : All Row (records_on g)
  unfolding records_on records
  rows_fit =
      let r : All Row (records m) = records-rows m p.core in (
        r.0,
        all_append Row (map (λ (e : Edition). 0xA4 ∷ edition_row e) es) (drop 1 (records m))
            (edition-rows es k.fit) r.1,
      )

  -- the lines of its image, stored in an empty block
  pub lines-filled : stored_all_on (replicate whole_size 0) (records_on g) ≡ laid_with (replicate index_size 0) g
  unfolding records_on stored_all_on stored_all every records laid_with onto
  lines-filled =
      let z : List ℕ = replicate block_size 0 in
      let hd : List ℕ = 0xA0 ∷ head_row m in
      let lines : List (List ℕ) = map (λ (e : Edition). 0xA4 ∷ edition_row e) es in
      let rest : List (List ℕ) = drop 1 (records m) in
      let r : All Row (records m) = records-rows m p.core in
      let n : length z ≡ block_size = length-replicate {A = ℕ} block_size 0 in
      let c : List ℕ = stored z (pad_to line_row hd) in
      let lc : length c ≡ block_size = length-stored z n (pad_to line_row hd) (length-pad_to line_row hd r.0.most) in
      ap (λ (u : List ℕ). stored_all_on (stored_on u (pad_to line_row hd)) (lines ++ rest)) onto-none
      ∙ ap (λ (u : List ℕ). stored_all_on u (lines ++ rest)) (named_other z [] 0xA0 (head_row m) n refl)
      ∙ many_more c [] es rest lc refl k.fit (let h = k.room in omega arith)
      ∙ others c es rest lc (others-of rest r.1 (rest-other m))
      ∙ ap (λ (u : List ℕ). onto u es) (records-stored m p.core)

  -- an index worked out over any other
  pub renewed-laid : (x : List ℕ) → length x ≡ index_size → renewed (laid_with x g) ≡ whole g
  unfolding renewed whole laid_with
  renewed-laid x n =
      let t : List ℕ = edition_block es in
      let l : length ((padded m ++ x) ++ t) ≡ whole_size = laid-length g x p.core p.editions n in
      let i : List ℕ = index_block (model_of ((padded m ++ x) ++ t)).pairs in
      let j : i ≡ index_block m.pairs =
      ap (λ (a : Model). index_block a.pairs) (laid-held g x p.core p.editions n) in
      let k : length i ≡ index_size = ap length j ∙ state-index g good in
      let b : length (padded m) + 0 ≡ index_at = let c = padded-length m p.core in omega arith in
      let c = length-append (padded m) x in
      pick_true (put ((padded m ++ x) ++ t) index_at i) ((padded m ++ x) ++ t)
      (eq-eqb (length ((padded m ++ x) ++ t)) whole_size l)
      ∙ put-left (padded m ++ x) t index_at i (omega arith)
      ∙ ap (λ (y : ℕ). put (padded m ++ x) y i ++ t) (sym b)
      ∙ ap (λ (y : List ℕ). y ++ t) (put_right (padded m) x 0 i)
      ∙ ap (λ (y : List ℕ). (padded m ++ y) ++ t) (put_whole x i (n ∙ sym k))
      ∙ ap (λ (y : List ℕ). (padded m ++ y) ++ t) j
