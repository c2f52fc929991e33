-- Which texts are images with editions: exactly those that save writes of sound states; those without A4 lines are
-- none. Document 02, T-12. Assumes nothing.
use Rattle.std.specs.Prelude.{ℕ, ◌+◌, ◌*◌, ◌≤◌, ◌≡◌, refl, ◌↔◌, Bool, true, false, ◌&&◌, List, [], ◌∷◌, ◌++◌, map, leb, length, drop}
use Rattle.std.proofs.Common.{sym, ap, ◌∙◌, append_assoc, arith, length-append}
use Rattle.std.proofs.Math.Option.{Option, none, some}
use Rattle.laws.specs.Tests.{sames}
use Rattle.laws.specs.TestsLaws.{pick_true, pick-false, and_left, and_right, and-not-left, and-not-right, sames-eq}
use Rattle.laws.specs.Loops.{each, every}
use Rattle.octets.specs.Little.{octets_of}
use Rattle.octets.specs.LittleLaws.{length-octets}
use Rattle.lines.specs.Hex.{text_of, octets_in}
use Rattle.lines.specs.TextsLaws.{length-text}
use Rattle.sessions.specs.Machine.{core_room, save_room, last_number}
use Rattle.sessions.specs.Saved.{cut}
use Rattle.model.specs.Types.{Model}
use Rattle.model.specs.Sound.{sound_model, octets_up_to}
use Rattle.model.specs.Layout.{most_prefix}
use Rattle.model.specs.Image.{head_row, records, image_text, rows_named}
use Rattle.steps.specs.FactsLaws.{up-to}
use Rattle.images.specs.SizesLaws.{image-most}
use Rattle.editions.specs.Editions.{Edition, Gateway, most_editions, sound_edition, sound_editions, sound_gateway, edition_row, records_on, image_on, edition_in, held_on, is_image_on, read_on}
use Rattle.editions.proofs.FactsLaws.{Kept, kept_of_lem, Parts, parts-of}
use Rattle.editions.proofs.ImagesLaws.{restores}
use Rattle.editions.specs.Block.{edition_line}

held-saved : (t : List ℕ) → is_image_on t ≡ true → (sound_gateway (held_on t) ≡ true) × (image_on (held_on t) ≡ t)
unfolding is_image_on
held-saved t e =
    let s = sound_gateway (held_on t) in
    let b = sames (image_on (held_on t)) t in
    (and_left s b e, sames-eq (image_on (held_on t)) t (and_right s b e))

pub read-refused : (t : List ℕ) → is_image_on t ≡ false → read_on t ≡ none
unfolding read_on
read-refused t e = pick-false (some (held_on t)) none e

never : {A : Type 0} {a : A} {x : Option A} → x ≡ none → x ≡ some a → ⊥
never p q = let z : ◌≡◌ {A = ℕ} 0 1 = cc in omega arith

pub read-saved : (t : List ℕ) (g : Gateway) → sound_gateway g ≡ true → image_on g ≡ t → read_on t ≡ some g
read-saved t g s e = rw (← e) (restores g s)

pub saved_read : (t : List ℕ) (g : Gateway) → read_on t ≡ some g → (sound_gateway g ≡ true) × (image_on g ≡ t)
unfolding read_on
saved_read t g e = go (is_image_on t) refl
  where
    go : (b : Bool) → is_image_on t ≡ b → (sound_gateway g ≡ true) × (image_on g ≡ t)
    go true i =
        let r : read_on t ≡ some (held_on t) = pick_true (some (held_on t)) none i in
        let h : held_on t ≡ g = cc in
        rw h at (held-saved t i)
    go false i = absurd (never (read-refused t i) e)

-- A text is read as a state exactly where the state is sound and save writes that text of it; no two texts of one
-- state are read.
pub exactly : (t : List ℕ) (g : Gateway) → (read_on t ≡ some g) ↔ ((sound_gateway g ≡ true) × (image_on g ≡ t))
exactly t g = (saved_read t g, λ p. read-saved t g p.0 p.1)

pub one-text : (s t : List ℕ) (g : Gateway) → read_on s ≡ some g → read_on t ≡ some g → s ≡ t
one-text s t g p q = sym (saved_read s g p).1 ∙ (saved_read t g q).1

-- "images without A4 are now 10"
no-editions : (g : Gateway) → g.editions ≡ [] → sound_gateway g ≡ false
unfolding sound_gateway sound_editions
no-editions g e = rw e (and-not-left _ _ (and-not-right (sound_model g.core) false refl))

pub without-editions : (t : List ℕ) → rows_named 0xA4 (map octets_in (cut t)) ≡ [] → read_on t ≡ none
unfolding is_image_on held_on
without-editions t e = read-refused t (and-not-left _ _ (no-editions (held_on t) (ap (map edition_in) e)))

-- a line of at most 77 characters for each edition
edition-line : (e : Edition) → sound_edition e ≡ true → length (text_of (0xA4 ∷ edition_row e)) ≤ edition_line
unfolding sound_edition edition_row
edition-line e s =
    let u = up-to most_prefix e.prefix
    (and_right (leb e.from last_number) (octets_up_to most_prefix e.prefix) s) in
    let k : length (octets_of 4 e.from) ≡ 4 = length-octets 4 e.from in
    let n : length (edition_row e) ≡ length (octets_of 4 e.from) + length (length e.prefix ∷ e.prefix) =
    length-append (octets_of 4 e.from) (length e.prefix ∷ e.prefix) in
    let w : length (text_of (0xA4 ∷ edition_row e)) ≡ 2 * length (0xA4 ∷ edition_row e) + 1 =
    length-text (0xA4 ∷ edition_row e) in
    omega (arith, u.0)

each_append : (xs ys : List (List ℕ)) → each text_of (xs ++ ys) ≡ each text_of xs ++ each text_of ys
unfolding each
each_append [] ys = refl
each_append (x ∷ xs) ys =
    ap (λ (l : List ℕ). text_of x ++ l) (each_append xs ys)
    ∙ sym (append_assoc (text_of x) (each text_of xs) (each text_of ys))

lines-most : (es : List Edition) → every sound_edition es ≡ true
    → length (each text_of (map (λ (e : Edition). 0xA4 ∷ edition_row e) es)) ≤ edition_line * length es
unfolding each every
lines-most [] s = omega arith
lines-most (e ∷ es) s =
    let a : length (text_of (0xA4 ∷ edition_row e)) ≤ edition_line =
    edition-line e (and_left (sound_edition e) (every sound_edition es) s) in
    let b : length (each text_of (map (λ (d : Edition). 0xA4 ∷ edition_row d) es)) ≤ edition_line * length es =
    lines-most es (and_right (sound_edition e) (every sound_edition es) s) in
    let n = length-append (text_of (0xA4 ∷ edition_row e))
    (each text_of (map (λ (d : Edition). 0xA4 ∷ edition_row d) es)) in
    omega (arith, n)

-- "the largest image and the save limit grow by 32 × 77 octets"
pub image-most-on : (g : Gateway) → sound_gateway g ≡ true → length (image_on g) ≤ save_room
unfolding image_on records_on records image_text each
image-most-on g s =
    let p : Parts g = parts-of g s in
    let k : Kept g.editions = kept_of_lem g.editions p.editions in
    let h : List ℕ = text_of (0xA0 ∷ head_row g.core) in
    let x : List (List ℕ) = map (λ (e : Edition). 0xA4 ∷ edition_row e) g.editions in
    let r : List (List ℕ) = drop 1 (records g.core) in
    let m : length (h ++ each text_of r) ≤ core_room = image-most g.core p.core in
    let a = length-append h (each text_of r) in
    let b = length-append h (each text_of (x ++ r)) in
    let c : length (each text_of (x ++ r)) ≡ length (each text_of x) + length (each text_of r) =
    ap length (each_append x r) ∙ length-append (each text_of x) (each text_of r) in
    let l : length (each text_of x) ≤ edition_line * length g.editions = lines-most g.editions k.fit in
    omega (arith, k.room, a, b)
