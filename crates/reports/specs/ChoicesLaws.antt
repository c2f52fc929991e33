-- Laws of the definitions in Choices.
use Rattle.std.specs.Prelude.{ℕ, ◌+◌, ◌≤◌, ◌<◌, ◌≡◌, Bool, true, false, not, ◌&&◌, List, leb, eqb, length, take, Option}
use Rattle.std.proofs.Math.Path.{refl, sym, ap}
use Rattle.std.proofs.Common.{◌∙◌, subst, arith, le-leb, take_all, length-take-le}
use Rattle.std.proofs.lemmas.Bool.{lt-leb}
use Rattle.laws.specs.Tests.{pick, sames}
use Rattle.laws.specs.TestsLaws.{and-not-left, and-not-right, cases-le}
use Rattle.decimals.specs.Decimals.{number_of}
use Rattle.sessions.specs.Machine.{save_room}
use Rattle.editions.specs.Editions.{is_image_on}
use Rattle.wholes.specs.Engine.{block_in}
use Rattle.snapshots.specs.AcceptedLaws.{image-long}
use Rattle.engine.specs.declared.Restored.{Restored}
use Rattle.engine.specs.Public.{loaded_of}
use Rattle.reports.specs.declared.Asked.{Asked}
use Rattle.model.specs.Quoted.{codes}
use Rattle.reports.specs.Options.{with_numbers, with_progress, with_after, option_of, behind_of, first_name, fits_of, adds_of, three_of, is_option, is_dash, names_of}
use Rattle.reports.specs.Choices.{Loads}

module _ (a : Asked) (w n : List ℕ) where
  pub option-numbered : {r : Asked} → sames w (codes "--numbered") ≡ true → r ≡ with_numbers a → r ≡ option_of a w n
  unfolding option_of pick
  option-numbered e q = q ∙ rw e refl

  module _ (e : sames w (codes "--numbered") ≡ false) where
    pub option-progress : {r : Asked} → sames w (codes "--progress") ≡ true → r ≡ with_progress a → r ≡ option_of a w n
    unfolding option_of pick
    option-progress f q = q ∙ rw (e, f) refl

    module _ (f : sames w (codes "--progress") ≡ false) where
      pub option-given : a.given ≡ true → a ≡ option_of a w n
      unfolding option_of pick
      option-given g = rw (e, f, g) refl

      pub option-after : {r : Asked} {m : Option ℕ} → a.given ≡ false → sames w (codes "--after") ≡ true
          → m ≡ number_of n → r ≡ with_after a m → r ≡ option_of a w n
      unfolding option_of pick
      option-after g h i q = q ∙ ap (with_after a) i ∙ rw (e, f, h, g) refl

      pub option-none : a.given ≡ false → sames w (codes "--after") ≡ false → a ≡ option_of a w n
      unfolding option_of pick
      option-none g h = rw (e, f, h, g) refl

-- one octet more than the longest image has
abbrev pub image_room : ℕ
image_room = save_room + 1

-- a file read as far as that is an image where the file is
pub image-read : (file : List ℕ) → is_image_on (take image_room file) ≡ is_image_on file
image-read file =
    cases-le (length file) image_room
    (λ (h : length file ≤ image_room). ap is_image_on (take_all image_room file h))
    (λ (h : image_room < length file). image-long (take image_room file)
    (let k : length (take image_room file)
    ≡ image_room = length-take-le image_room file (omega arith) in omega (arith, k))
    ∙ sym (image-long file (omega arith)))

-- .. and it restores to the same block
pub block_read : (file : List ℕ)
    → block_in (is_image_on (take image_room file)) (take image_room file) ≡ block_in (is_image_on file) file
unfolding block_in
block_read file =
    cases-le (length file) image_room
    (λ (h : length file ≤ image_room). ap (λ (l : List ℕ). block_in (is_image_on l) l) (take_all image_room file h))
    (λ (h : image_room < length file).
    let a : is_image_on (take image_room file) ≡ false = image-read file ∙ image-long file (omega arith) in
    let b : is_image_on file ≡ false = image-long file (omega arith) in
    rw (a, b) refl)

pub load-so : (text : List ℕ) (count : ℕ) (r : Restored) → length text ≡ image_room
    → (r.answer ≡ loaded_of (is_image_on (take count text)))
    × (r.state.block ≡ block_in (is_image_on (take count text)) (take count text)) → Loads text count r
load-so text count r l q =
    record {
      says = λ file e.
          let i : take count text ≡ take image_room file = e ∙ ap (λ (k : ℕ). take k file) l in (
            q.0 ∙ ap (λ (t : List ℕ). loaded_of (is_image_on t)) i ∙ ap loaded_of (image-read file),
            q.1
                ∙ ap (λ (t : List ℕ). block_in (is_image_on t) t) i ∙ block_read file,
          );
    }

pub load_full : (text : List ℕ) (count : ℕ) (r : Restored) → length text ≡ image_room → image_room ≤ count
    → (r.answer ≡ loaded_of (is_image_on text)) × (r.state.block ≡ block_in (is_image_on text) text) → Loads text count r
load_full text count r l h q =
    load-so text count r l
    (subst (λ (t : List ℕ). (r.answer ≡ loaded_of (is_image_on t)) × (r.state.block ≡ block_in (is_image_on t) t))
    (sym (take_all count text (omega arith))) q)

-- both names
pub names-dashes : (image journal : List ℕ) → (is_dash image && is_dash journal) ≡ true → false ≡ names_of image journal
unfolding names_of
names-dashes image journal e = rw e refl

pub names-not : (image journal : List ℕ) (o : Bool) → (is_dash image && is_dash journal) ≡ false → o ≡ is_option image
    → not o ≡ names_of image journal
unfolding names_of
names-not image journal o e w = rw (e, sym w) refl

-- three names
module _ (image journal additions : List ℕ) where
  pub three-image : (is_dash image && is_dash additions) ≡ true → false ≡ three_of image journal additions
  unfolding three_of
  three-image e = rw e refl

  pub three-journal : (is_dash journal && is_dash additions) ≡ true → false ≡ three_of image journal additions
  unfolding three_of
  three-journal e =
      sym (and-not-right (not (is_dash image && is_dash additions))
      (not (is_dash journal && is_dash additions) && names_of image journal) (rw e refl))

  pub three-so : (b : Bool) → (is_dash image && is_dash additions) ≡ false
      → (is_dash journal && is_dash additions) ≡ false → b ≡ names_of image journal
      → b ≡ three_of image journal additions
  unfolding three_of
  three-so b e f q = rw (e, f) q

-- the places of the options
pub behind-there : (i : ℕ) (there : Bool) → there ≡ true → (i + 1 ≡ behind_of i there) × (i + 1 ≤ i + 1)
unfolding behind_of pick
behind-there i there e = rw e (refl, omega arith)

pub behind-not : (i : ℕ) (there : Bool) → there ≡ false → (i ≡ behind_of i there) × (i ≤ i + 1)
unfolding behind_of pick
behind-not i there e = rw e (refl, omega arith)

pub first_so : (x : Asked) (a b c d : ℕ) → a ≡ behind_of 1 x.numbered → b ≡ behind_of a x.progress
    → c ≡ behind_of b x.given → d ≡ behind_of c x.given → d ≡ first_name x
unfolding first_name
first_so x a b c d e f g h = rw (h, g, f, e) refl

pub fits-few : (x : Asked) (words first : ℕ) → first ≡ first_name x → words < first + 2 → false ≡ fits_of x words
unfolding fits_of
fits-few x words first q h =
    sym (and-not-right x.good (leb (first_name x + 2) words && leb words (first_name x + 3))
    (and-not-left (leb (first_name x + 2) words) (leb words (first_name x + 3))
    (lt-leb (first_name x + 2) words (omega (arith, q)))))

pub fits-good : (x : Asked) (words first : ℕ) → x.good ≡ true → first ≡ first_name x → first + 2 ≤ words
    → leb words (first + 3) ≡ fits_of x words
unfolding fits_of first_name
fits-good x words first e q h = rw (e, le-leb (first_name x + 2) words (omega (arith, q)), q) refl

pub adds-so : (x : Asked) (words first : ℕ) → first ≡ first_name x → eqb words (first + 3) ≡ adds_of x words
unfolding adds_of
adds-so x words first q = ap (λ (n : ℕ). eqb words (n + 3)) q

pub fits-bad : (x : Asked) (words : ℕ) → x.good ≡ false → false ≡ fits_of x words
unfolding fits_of
fits-bad x words e = rw e refl

-- a word that begins as an option does
pub option-short : (word : List ℕ) → length word < 2 → false ≡ is_option word
unfolding is_option
option-short word h =
    sym (and-not-left (leb 2 (length word)) (sames (take 2 word) (codes "--")) (lt-leb 2 (length word) h))

pub option-long : (word : List ℕ) (b : Bool) → 2 ≤ length word → b ≡ sames (take 2 word) (codes "--")
    → b ≡ is_option word
unfolding is_option
option-long word b h e = e ∙ rw (le-leb 2 (length word) h) refl
