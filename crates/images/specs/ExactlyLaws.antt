-- Which texts are images: exactly those that save writes of sound states. Document 01, The image; refusal 10.
-- Assumes nothing.
use Rattle.std.specs.Prelude.{◌≡◌, refl, ◌↔◌, Bool, true, false, List, ℕ}
use Rattle.std.proofs.Common.{sym, ◌∙◌, arith}
use Rattle.std.proofs.Math.Option.{Option, none, some}
use Rattle.laws.specs.Tests.{sames}
use Rattle.laws.specs.TestsLaws.{pick_true, pick-false, and_left, and_right, sames-eq}
use Rattle.model.specs.Types.{Model}
use Rattle.model.specs.Sound.{sound_model}
use Rattle.model.specs.Image.{image_text, held_in, is_image, read_image}
use Rattle.images.specs.RestoresLaws.{image-is, restores}

-- what an accepted text holds is sound, and is saved as that text
held-saved : (t : List ℕ) → is_image t ≡ true → (sound_model (held_in t) ≡ true) × (image_text (held_in t) ≡ t)
unfolding is_image
held-saved t e =
    let s = sound_model (held_in t) in
    let b = sames (image_text (held_in t)) t in
    (and_left s b e, sames-eq (image_text (held_in t)) t (and_right s b e))

read_held : (t : List ℕ) → is_image t ≡ true → read_image t ≡ some (held_in t)
unfolding read_image
read_held t e = pick_true (some (held_in t)) none e

-- a text that is no image is refused
pub read-refused : (t : List ℕ) → is_image t ≡ false → read_image t ≡ none
unfolding read_image
read-refused t e = pick-false (some (held_in t)) none e

never : {A : Type 0} {a : A} {x : Option A} → x ≡ none → x ≡ some a → ⊥
never p q = let z : ◌≡◌ {A = ℕ} 0 1 = cc in omega arith

-- The text of a sound state is read as that state.
pub read-saved : (t : List ℕ) (m : Model) → sound_model m ≡ true → image_text m ≡ t → read_image t ≡ some m
read-saved t m s e = rw (← e) (restores m s)

-- What is read of a text is sound, and is saved as that text.
pub saved_read : (t : List ℕ) (m : Model) → read_image t ≡ some m → (sound_model m ≡ true) × (image_text m ≡ t)
saved_read t m e = go (is_image t) refl
  where
    go : (b : Bool) → is_image t ≡ b → (sound_model m ≡ true) × (image_text m ≡ t)
    go true i =
        let r : read_image t ≡ some (held_in t) = read_held t i in
        let h : held_in t ≡ m = cc in
        rw h at (held-saved t i)
    go false i = absurd (never (read-refused t i) e)

-- A text is read as a state exactly where the state is sound and save writes that text of it.
pub exactly : (t : List ℕ) (m : Model) → (read_image t ≡ some m) ↔ ((sound_model m ≡ true) × (image_text m ≡ t))
exactly t m = (saved_read t m, λ p. read-saved t m p.0 p.1)

-- A text is an image exactly where save writes it of some sound state.
pub image-exactly : (t : List ℕ) → (is_image t ≡ true) ↔ ((m : Model) × (sound_model m ≡ true) × (image_text m ≡ t))
image-exactly t = (λ i. (held_in t, (held-saved t i).0, (held-saved t i).1), λ p. rw p.2 at (image-is p.0 p.1))

-- Every other text is refused, and no text that save writes of a sound state is.
pub refused-exactly : (t : List ℕ) → (read_image t ≡ none) ↔ ((m : Model) → sound_model m ≡ true → image_text m ≡ t → ⊥)
refused-exactly t = (λ e m s w. never e (read-saved t m s w), λ f. go f (is_image t) refl)
  where
    go : ((m : Model) → sound_model m ≡ true → image_text m ≡ t → ⊥) → (b : Bool) → is_image t ≡ b → read_image t ≡ none
    go f true i = absurd (f (held_in t) (held-saved t i).0 (held-saved t i).1)
    go f false i = read-refused t i

-- Two accepted texts of one state are the same text.
pub one-text : (s t : List ℕ) (m : Model) → read_image s ≡ some m → read_image t ≡ some m → s ≡ t
one-text s t m p q = sym (saved_read s m p).1 ∙ (saved_read t m q).1

-- One text is never read as two states.
pub one-reading : (t : List ℕ) (m n : Model) → read_image t ≡ some m → read_image t ≡ some n → m ≡ n
one-reading t m n p q = cc

-- Two sound states with one text are the same state.
pub one_state : (m n : Model) → sound_model m ≡ true → sound_model n ≡ true → image_text m ≡ image_text n → m ≡ n
one_state m n p q e = one-reading (image_text n) m n (read-saved (image_text n) m p e) (restores n q)
