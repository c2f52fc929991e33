-- Every character of an image is an upper-case digit or an LF. Document 01, Lines and The image. Assumes nothing.
use Rattle.std.specs.Prelude.{ℕ, ◌/◌, ◌%◌, ◌<◌, ◌≡◌, refl, Bool, true, ◌||◌, List, [], ◌∷◌, eqb}
use Rattle.std.proofs.Common.{◌∙◌, arith, ltb-true}
use Rattle.laws.specs.TestsLaws.{and_left, and_right, and_both}
use Rattle.laws.specs.Loops.{every, each}
use Rattle.laws.specs.LoopsLaws.{every_append}
use Rattle.octets.specs.Little.{is_octet}
use Rattle.lines.specs.Hex.{lf, digit, is_hex, hex_of, text_of}
use Rattle.lines.specs.HexLaws.{digit-hex}
use Rattle.model.specs.Types.{Model}
use Rattle.model.specs.Sound.{sound_model}
use Rattle.model.specs.Image.{records, image_text, is_image}
use Rattle.images.specs.TextsLaws.{octets}
use Rattle.images.specs.FitsLaws.{sound-fits}
use Rattle.images.specs.RestoresLaws.{records-octets}
use Rattle.images.specs.ExactlyLaws.{image-exactly}

-- an upper-case hexadecimal digit or an LF
unfoldable pub is_character : ℕ → Bool
is_character c = is_hex c || eqb c lf

character : (d : ℕ) → d < 16 → is_character (digit d) ≡ true
unfolding is_character
character d h = rw (digit-hex d h)

hex-characters : (xs : List ℕ) → octets xs ≡ true → every is_character (hex_of xs) ≡ true
unfolding hex_of every
hex-characters [] e = refl
hex-characters (x ∷ xs) e =
    let b : x < 256 = ltb-true x 256 (and_left (is_octet x) (octets xs) e) in
    rw (character (x / 16) (omega arith), character (x % 16) (omega arith))
    (hex-characters xs (and_right (is_octet x) (octets xs) e))

text-characters : (rs : List (List ℕ)) → every octets rs ≡ true → every is_character (each text_of rs) ≡ true
unfolding each every text_of is_character is_hex
text-characters [] e = refl
text-characters (r ∷ rs) e =
    let h : every is_character (hex_of r) ≡ true = hex-characters r (and_left (octets r) (every octets rs) e) in
    every_append is_character (text_of r) (each text_of rs)
    ∙ and_both (every_append is_character (hex_of r) (lf ∷ []) ∙ and_both h refl)
    (text-characters rs (and_right (octets r) (every octets rs) e))

-- Every character that save writes of a sound state is an upper-case digit or an LF.
pub saved-characters : (m : Model) → sound_model m ≡ true → every is_character (image_text m) ≡ true
unfolding image_text
saved-characters m e = text-characters (records m) (records-octets m (sound-fits m e))

-- So is every character of an accepted text.
pub image-characters : (t : List ℕ) → is_image t ≡ true → every is_character t ≡ true
image-characters t i = let p = (image-exactly t).0 i in rw p.2 at (saved-characters p.0 p.1)
