-- Restoring what save writes, the A4 lines among it, gives the state that was saved. Document 02, T-12. Assumes
-- nothing.
use Rattle.std.specs.Prelude.{ℕ, zero, suc, ◌+◌, ◌≤◌, ◌<◌, ◌≡◌, Bool, true, false, ◌&&◌, leb, eqb, length, take, drop, get_or}
use Rattle.std.proofs.Math.Path.{refl}
use Rattle.std.proofs.Common.{sym, ap, ◌∙◌, arith, leb-true, drop_at, take_at}
use mathlib.Core.List.{List, [], ◌∷◌, ◌++◌, map, append-nil}
use Rattle.std.proofs.Math.Option.{Option, none, some}
use Rattle.laws.specs.Tests.{pick}
use Rattle.laws.specs.TestsLaws.{pick_true, and_left, and_right, and_both, sames-refl}
use Rattle.laws.specs.Loops.{each, every, keep, only}
use Rattle.laws.specs.LoopsLaws.{every_append, keep_append, map-append}
use Rattle.octets.specs.Little.{little, octets_of, is_octet}
use Rattle.octets.specs.LittleLaws.{length-octets, octets-octets}
use Rattle.lines.specs.Hex.{text_of, octets_in}
use Rattle.rule.specs.Base.{All}
use Rattle.sessions.specs.Machine.{last_number}
use Rattle.model.specs.Types.{Model, Monitor, Pair}
use Rattle.model.specs.Image.{head_row, monitor_row, extra_text, name_of, pair_row, end_row, records, has_name, rows_named, is_monitor, monitors_on, monitor_text, model_in, first_of, held_in}
use Rattle.model.specs.Sound.{octets_up_to}
use Rattle.model.specs.Layout.{most_prefix}
use Rattle.steps.specs.FactsLaws.{up-to}
use Rattle.blocks.specs.RowsLaws.{octets-cons, little-in}
use Rattle.images.specs.TextsLaws.{octets, cut-texts, read-texts}
use Rattle.images.specs.FitsLaws.{Fits, sound-fits}
use Rattle.images.specs.RestoresLaws.{rows_append, rows_other, rows-own, rows_none, no-monitors, octets-lines, model_in_lem, records-octets}
use Rattle.editions.specs.Editions.{Edition, Gateway, sound_edition, sound_gateway, edition_row, records_on, image_on, edition_in, held_on, is_image_on, read_on}
use Rattle.editions.proofs.FactsLaws.{kept_of_lem, Parts, parts-of}

-- the A4 lines
abbrev a4 : List Edition → List (List ℕ)
a4 es = map (λ (e : Edition). 0xA4 ∷ edition_row e) es

-- lines among others, none of which is kept
keep-among : (f : List ℕ → Bool) (h : List ℕ) (ls rs : List (List ℕ)) → keep f ls ≡ []
    → keep f (h ∷ (ls ++ rs)) ≡ keep f (h ∷ rs)
unfolding keep
keep-among f h ls rs e = rw (keep_append f ls rs, e)

-- no monitor's line is one
name-other : (o : Option (List ℕ)) (r : List ℕ) → has_name 0xA4 (name_of o ∷ r) ≡ false
unfolding has_name name_of
name-other none r = refl
name-other (some l) r = refl

monitors-other : (l : List (ℕ × Monitor)) → rows_named 0xA4 (map monitor_text l) ≡ []
unfolding rows_named keep only monitor_text
monitors-other [] = refl
monitors-other (x ∷ l) = rw (name-other x.1.extra (monitor_row x ++ extra_text x.1.extra)) (monitors-other l)

-- so the core is read past them
module _ (m : Model) (es : List Edition) where
  abbrev rest : List (List ℕ)
  rest = drop 1 (records m)

  opens : records m ≡ (0xA0 ∷ head_row m) ∷ rest
  unfolding records
  opens = refl

  model-among : model_in ((0xA0 ∷ head_row m) ∷ (a4 es ++ rest)) ≡ model_in ((0xA0 ∷ head_row m) ∷ rest)
  unfolding model_in monitors_on first_of rows_named
  model-among =
      let k : keep is_monitor ((0xA0 ∷ head_row m) ∷ (a4 es ++ rest)) ≡ keep is_monitor ((0xA0 ∷ head_row m) ∷ rest) =
      keep-among is_monitor (0xA0 ∷ head_row m) (a4 es) rest (no-monitors edition_row 0xA4 es refl refl) in
      let p : rows_named 0xA3 ((0xA0 ∷ head_row m) ∷ (a4 es ++ rest)) ≡ rows_named 0xA3 ((0xA0 ∷ head_row m) ∷ rest) =
      rows_other 0xA3 0xA0 (head_row m) (a4 es ++ rest) refl ∙ rows_append 0xA3 (a4 es) rest
      ∙ rw (rows_none edition_row 0xA3 0xA4 es refl) (sym (rows_other 0xA3 0xA0 (head_row m) rest refl)) in
      rw (k, p)

  editions-among : rows_named 0xA4 ((0xA0 ∷ head_row m) ∷ (a4 es ++ rest)) ≡ map edition_row es
  unfolding records rows_named keep
  editions-among =
      let mons : List (List ℕ) = map monitor_text m.mons in
      let pairs : List (List ℕ) = map (λ (q : Pair). 0xA3 ∷ pair_row q) m.pairs in
      let last : List (List ℕ) = (0xAF ∷ end_row m) ∷ [] in
      let none_left : rows_named 0xA4 (mons ++ (pairs ++ last)) ≡ [] =
      rows_append 0xA4 mons (pairs ++ last)
      ∙ rw (monitors-other m.mons, rows_append 0xA4 pairs last, rows_none pair_row 0xA4 0xA3 m.pairs refl)
      (rows_other 0xA4 0xAF (end_row m) [] refl) in
      rows_other 0xA4 0xA0 (head_row m) (a4 es ++ rest) refl ∙ rows_append 0xA4 (a4 es) rest
      ∙ rw (none_left, rows-own edition_row 0xA4 es refl) (append-nil (map edition_row es))

-- an edition's row holds it, and is of octets
edition-in : (e : Edition) → e.from < 4294967296 → edition_in (edition_row e) ≡ e
unfolding edition_in edition_row octets_of
edition-in e h =
    let f : little 4 (edition_row e) 0 ≡ e.from = little-in 4 [] e.from _ 0 refl h in
    let p : take (length e.prefix) e.prefix ≡ e.prefix =
    rw (append-nil e.prefix) at (take_at e.prefix [] (length e.prefix) refl) in
    rw (f, p)

pub editions-in : (es : List Edition) → every sound_edition es ≡ true → map edition_in (map edition_row es) ≡ es
unfolding every sound_edition last_number
editions-in [] s = refl
editions-in (e ∷ es) s =
    let o = and_left (sound_edition e) (every sound_edition es) s in
    let h : e.from ≤ last_number =
    leb-true e.from last_number (and_left (leb e.from last_number) (octets_up_to most_prefix e.prefix) o) in
    rw (edition-in e (omega arith), editions-in es (and_right (sound_edition e) (every sound_edition es) s))

edition-octets : (e : Edition) → sound_edition e ≡ true → octets (0xA4 ∷ edition_row e) ≡ true
unfolding sound_edition edition_row
edition-octets e s =
    let u = up-to most_prefix e.prefix
    (and_right (leb e.from last_number) (octets_up_to most_prefix e.prefix) s) in
    octets-cons 0xA4 (edition_row e) (omega arith)
    (every_append is_octet (octets_of 4 e.from) (length e.prefix ∷ e.prefix)
    ∙ and_both (octets-octets 4 e.from) (octets-cons (length e.prefix) e.prefix (omega (arith, u.0)) u.1))

lines-octets : (es : List Edition) → every sound_edition es ≡ true → every octets (a4 es) ≡ true
unfolding every
lines-octets [] s = refl
lines-octets (e ∷ es) s =
    and_both (edition-octets e (and_left (sound_edition e) (every sound_edition es) s))
    (lines-octets es (and_right (sound_edition e) (every sound_edition es) s))

-- the text of a state holds the state
pub held-image : (g : Gateway) → sound_gateway g ≡ true → held_on (image_on g) ≡ g
unfolding held_on image_on records_on held_in every records
held-image g s =
    let p : Parts g = parts-of g s in
    let m : Model = g.core in
    let es : List Edition = g.editions in
    let f : Fits m = sound-fits m p.core in
    let k : every sound_edition es ≡ true = (kept_of_lem es p.editions).fit in
    let rs : List (List ℕ) = (0xA0 ∷ head_row m) ∷ (a4 es ++ rest m es) in
    let o : every octets (records m) ≡ true = records-octets m f in
    let w : every octets rs ≡ true =
    and_both (and_left (octets (0xA0 ∷ head_row m)) (every octets (rest m es)) o)
    (every_append octets (a4 es) (rest m es)
    ∙ and_both (lines-octets es k) (and_right (octets (0xA0 ∷ head_row m)) (every octets (rest m es)) o)) in
    let c : map octets_in (Rattle.sessions.specs.Saved.cut (each text_of rs)) ≡ rs =
    ap (map octets_in) (cut-texts rs) ∙ read-texts rs w in
    rw (c, model-among m es, editions-among m es, editions-in es k)
    (ap (λ (n : Model). record { core = n; editions = es }) (model_in_lem m f))

pub restores : (g : Gateway) → sound_gateway g ≡ true → read_on (image_on g) ≡ some g
unfolding read_on is_image_on
restores g s =
    let h : held_on (image_on g) ≡ g = held-image g s in
    pick_true (some (held_on (image_on g))) none (rw h (and_both s (sames-refl (image_on g)))) ∙ ap some h
