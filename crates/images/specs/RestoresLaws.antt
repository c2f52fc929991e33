-- Restoring what save writes gives the state that was saved, for every sound state. Document 01, The image and
-- Sessions and failover. Assumes nothing.
use Rattle.std.specs.Prelude.{ℕ, ◌+◌, ◌≡◌, true, false, eqb, length, drop, get_or}
use Rattle.std.proofs.Math.Path.{refl}
use Rattle.std.proofs.Common.{ap, ◌∙◌, arith, drop_at}
use mathlib.Core.List.{List, [], ◌∷◌, ◌++◌, map, append-nil}
use Rattle.std.proofs.Math.Option.{Option, none, some}
use Rattle.laws.specs.TestsLaws.{pick_true, and_both, sames-refl}
use Rattle.laws.specs.Loops.{every, keep, only}
use Rattle.laws.specs.LoopsLaws.{every_append, keep_append, map-append}
use Rattle.lines.specs.Hex.{octets_in}
use Rattle.model.specs.Types.{Model, Monitor, Pair}
use Rattle.model.specs.Sound.{sound_model}
use Rattle.rule.specs.Base.{All}
use Rattle.model.specs.Image.{head_row, monitor_row, extra_text, name_of, monitor_text, pair_row, end_row, records, image_text}
use Rattle.model.specs.Image.{monitor_from, monitor_on, pair_in, has_name, rows_named, is_monitor, monitors_on, first_of, model_in}
use Rattle.model.specs.Image.{held_in, is_image, read_image}
use Rattle.blocks.specs.RowsLaws.{length-monitor_row, monitor_from-row, head_row-position, head_row-filter, head_row-opcode}
use Rattle.blocks.specs.RowsLaws.{head_row-count, head_row-prefix, octets-cons}
use Rattle.blocks.specs.Bounds.{Fits as PairFits}
use Rattle.blocks.specs.BoundsLaws.{fits_in_lem, fits-pair_row, sound-head_row}
use Rattle.images.specs.TextsLaws.{octets, cut-texts, read-texts}
use Rattle.images.specs.FitsLaws.{MonitorFits, Fits, sound-fits, extra-read, monitor-octets}

-- lines by their names

pub rows_append : (n : ℕ) (rs ss : List (List ℕ)) → rows_named n (rs ++ ss) ≡ rows_named n rs ++ rows_named n ss
unfolding rows_named
rows_append n rs ss = rw (keep_append (has_name n) rs ss)
    (map-append (drop 1) (keep (has_name n) rs) (keep (has_name n) ss))

-- a line of another name is passed over
pub rows_other : (n k : ℕ) (r : List ℕ) (rs : List (List ℕ)) → eqb k n ≡ false
    → rows_named n ((k ∷ r) ∷ rs) ≡ rows_named n rs
unfolding rows_named has_name keep only
rows_other n k r rs e = rw e

module _ {A : Type 0} (row : A → List ℕ) where
  -- lines of a name are kept, without it
  pub rows-own : (n : ℕ) (l : List A) → eqb n n ≡ true → rows_named n (map (λ a. n ∷ row a) l) ≡ map row l
  unfolding rows_named has_name keep only
  rows-own n [] e = refl
  rows-own n (a ∷ l) e = rw e (ap (λ (x : List (List ℕ)). row a ∷ x) (rows-own n l e))

  -- lines of another name are not
  pub rows_none : (n k : ℕ) (l : List A) → eqb k n ≡ false → rows_named n (map (λ a. k ∷ row a) l) ≡ []
  unfolding rows_named has_name keep only
  rows_none n k [] e = refl
  rows_none n k (a ∷ l) e = rw e (rows_none n k l e)

  -- nor are they monitors' lines
  pub no-monitors : (n : ℕ) (l : List A) → eqb n 0xA1 ≡ false → eqb n 0xA5 ≡ false
      → keep is_monitor (map (λ a. n ∷ row a) l) ≡ []
  unfolding is_monitor has_name keep only
  no-monitors n [] e f = refl
  no-monitors n (a ∷ l) e f = rw (e, f) (no-monitors n l e f)

pub octets-lines : {A : Type 0} (line : A → List ℕ) (P : A → Type 0) (l : List A)
    → ((a : A) → P a → octets (line a) ≡ true)
    → All P l → every octets (map line l) ≡ true
unfolding every
octets-lines line P [] f p = refl
octets-lines line P (a ∷ l) f p = and_both (f a p.0) (octets-lines line P l f p.1)

-- a monitor's line is named by its version
name-kept : (o : Option (List ℕ)) (r : List ℕ) → is_monitor (name_of o ∷ r) ≡ true
unfolding is_monitor has_name name_of
name-kept none r = refl
name-kept (some l) r = refl

name-other : (o : Option (List ℕ)) (r : List ℕ) → has_name 0xA3 (name_of o ∷ r) ≡ false
unfolding has_name name_of
name-other none r = refl
name-other (some l) r = refl

monitors-kept : (l : List (ℕ × Monitor)) → keep is_monitor (map monitor_text l) ≡ map monitor_text l
unfolding keep only monitor_text
monitors-kept [] = refl
monitors-kept (x ∷ l) =
    rw (name-kept x.1.extra (monitor_row x ++ extra_text x.1.extra))
    (ap (λ (r : List (List ℕ)). monitor_text x ∷ r) (monitors-kept l))

monitors-other : (l : List (ℕ × Monitor)) → rows_named 0xA3 (map monitor_text l) ≡ []
unfolding rows_named keep only monitor_text
monitors-other [] = refl
monitors-other (x ∷ l) = rw (name-other x.1.extra (monitor_row x ++ extra_text x.1.extra)) (monitors-other l)

-- the lines of the monitors and of the pairs
module _ (m : Model) where
  abbrev monitor_lines : List (List ℕ)
  monitor_lines = map monitor_text m.mons

  abbrev pair_lines : List (List ℕ)
  pair_lines = map (λ (q : Pair). 0xA3 ∷ pair_row q) m.pairs

  abbrev end_lines : List (List ℕ)
  end_lines = (0xAF ∷ end_row m) ∷ []

  lines-monitors : keep is_monitor (records m) ≡ map monitor_text m.mons
  unfolding records is_monitor has_name keep only
  lines-monitors =
      keep_append is_monitor monitor_lines (pair_lines ++ end_lines)
      ∙ rw (
        monitors-kept m.mons,
        keep_append is_monitor pair_lines end_lines,
        no-monitors pair_row 0xA3 m.pairs
            refl refl,
      )
      (append-nil (map monitor_text m.mons))

  rows-pairs : rows_named 0xA3 (records m) ≡ map pair_row m.pairs
  unfolding records rows_named keep
  rows-pairs =
      rows_other 0xA3 0xA0 (head_row m) (monitor_lines ++ (pair_lines ++ end_lines)) refl
      ∙ rows_append 0xA3 monitor_lines (pair_lines ++ end_lines)
      ∙ rw (monitors-other m.mons, rows_append 0xA3 pair_lines end_lines)
      (rw (rows-own pair_row 0xA3 m.pairs refl, rows_other 0xA3 0xAF (end_row m) [] refl)
      (append-nil (map pair_row m.pairs)))

  first_head : first_of (records m) ≡ head_row m
  unfolding records first_of
  first_head = refl

-- rows hold what was written

monitor-on : (x : ℕ × Monitor) → MonitorFits x → monitor_on (monitor_row x ++ extra_text x.1.extra) ≡ x
unfolding monitor_on monitor_row
monitor-on x f =
    let e : List ℕ = extra_text x.1.extra in
    ap (monitor_from (monitor_row x ++ e))
    (drop_at (monitor_row x) e (7 + length x.1.condition) (length-monitor_row x))
    ∙ monitor_from-row x e e (extra-read x.1 f.sound.accept)

monitors-on : (l : List (ℕ × Monitor)) → All MonitorFits l
    → map (λ (r : List ℕ). monitor_on (drop 1 r)) (map monitor_text l) ≡ l
unfolding monitor_text
monitors-on [] f = refl
monitors-on (x ∷ l) f = rw (monitor-on x f.0, monitors-on l f.1)

pairs-in : (l : List Pair) → All PairFits l → map pair_in (map pair_row l) ≡ l
pairs-in [] f = refl
pairs-in (q ∷ l) f =
    let e : pair_in (pair_row q) ≡ q = rw (append-nil (pair_row q)) at (fits_in_lem q [] f.0) in rw (e, pairs-in l f.1)

model-eq : {p f o : ℕ} {x : List ℕ} {n : List (ℕ × Monitor)} {q : List Pair} (m : Model)
    → p ≡ m.position → f ≡ m.filter → o ≡ m.opcode → x ≡ m.prefix → n ≡ m.mons → q ≡ m.pairs
    → ◌≡◌ {A = Model} (record { position = p; filter = f; opcode = o; prefix = x; mons = n; pairs = q }) m
model-eq m e1 e2 e3 e4 e5 e6 = rw (e1, e2, e3, e4, e5, e6)

-- the lines of a state hold the state
pub model_in_lem : (m : Model) → Fits m → model_in (records m) ≡ m
unfolding model_in monitors_on
model_in_lem m f =
    let r : head_row m ++ [] ≡ head_row m = append-nil (head_row m) in
    let c : get_or (head_row m) 7 0 ≡ length m.prefix = rw r at (head_row-count m []) in
    rw (first_head m, lines-monitors m, rows-pairs m)
    (model-eq m
    (rw r at (head_row-position m [] (omega (arith, f.facts.position-most))))
    (rw r at (head_row-filter m []))
    (rw r at (head_row-opcode m [] (omega (arith, f.facts.opcode-most))))
    (rw c (rw r at (head_row-prefix m [])))
    (monitors-on m.mons f.mons)
    (pairs-in m.pairs f.pairs))

-- the lines are octets

pair-octets : (q : Pair) → PairFits q → octets (0xA3 ∷ pair_row q) ≡ true
pair-octets q f = octets-cons 0xA3 (pair_row q) (omega arith) (fits-pair_row q f)

pub records-octets : (m : Model) → Fits m → every octets (records m) ≡ true
unfolding records every end_row
records-octets m f =
    let h : octets (head_row m) ≡ true = sound-head_row m f.facts in
    let e : every octets (end_lines m) ≡ true =
    and_both (octets-cons 0xAF (end_row m) (omega arith)
    (octets-cons (length m.mons) (length m.pairs ∷ []) (omega (arith, f.most-mons))
    (octets-cons (length m.pairs) [] (omega (arith, f.facts.pairs-most)) refl))) refl in
    and_both (octets-cons 0xA0 (head_row m) (omega arith) h)
    (every_append octets (monitor_lines m) (pair_lines m ++ end_lines m)
    ∙ and_both (octets-lines monitor_text MonitorFits m.mons monitor-octets f.mons)
    (every_append octets (pair_lines m) (end_lines m)
    ∙ and_both (octets-lines (λ (q : Pair). 0xA3 ∷ pair_row q) PairFits m.pairs pair-octets f.pairs) e))

-- the text of a state holds the state
pub held-image : (m : Model) → sound_model m ≡ true → held_in (image_text m) ≡ m
unfolding held_in image_text
held-image m e =
    let f : Fits m = sound-fits m e in
    ap (λ (l : List (List ℕ)). model_in (map octets_in l)) (cut-texts (records m))
    ∙ ap model_in (read-texts (records m) (records-octets m f))
    ∙ model_in_lem m f

-- the text of a sound state is an image
pub image-is : (m : Model) → sound_model m ≡ true → is_image (image_text m) ≡ true
unfolding is_image
image-is m e = rw (held-image m e) (and_both e (sames-refl (image_text m)))

-- Restoring what save writes gives the state that was saved.
pub restores : (m : Model) → sound_model m ≡ true → read_image (image_text m) ≡ some m
unfolding read_image
restores m e = pick_true (some (held_in (image_text m))) none (image-is m e) ∙ ap some (held-image m e)
