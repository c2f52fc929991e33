-- How long an image is: the sum of its lines, at most 10,698 characters. Document 01, Sizes of the gateway
-- ("image 10,698") and The image. Assumes nothing.
use Prim.Native.Nat.{ℕ, suc, ◌+◌, ◌*◌, ◌≤◌}
use Rattle.std.specs.Prelude.{◌≡◌, true}
use Rattle.std.proofs.Math.Path.{refl}
use Rattle.std.proofs.Common.{◌∙◌}
use mathlib.Core.List.{List, [], ◌∷◌, ◌++◌, map}
use native.Mathlib.Omega.{arith}
use Rattle.std.proofs.Math.Nat.{mul-suc}
use Rattle.std.proofs.Math.ListN.{length, length-append}
use Rattle.laws.specs.Loops.{each}
use Rattle.laws.specs.LoopsLaws.{each_append}
use Rattle.lines.specs.Hex.{text_of}
use Rattle.lines.specs.TextsLaws.{length-text}
use Rattle.sessions.specs.Machine.{core_room}
use Rattle.model.specs.Types.{Model, Monitor, Pair}
use Rattle.model.specs.Sound.{sound_model}
use Rattle.model.proofs.AcceptedLaws.{accepted}
use Rattle.model.specs.Image.{head_row, monitor_row, extra_text, monitor_text, pair_row, end_row, records, image_text}
use Rattle.blocks.specs.RowsLaws.{length-head_row, length-monitor_row, length-pair_row}
use Rattle.rule.specs.Base.{All}
use Rattle.blocks.specs.Bounds.{Fits as PairFits}
use Rattle.images.specs.FitsLaws.{MonitorFits, Fits, sound-fits, extra-most}
use Rattle.model.specs.Layout.{data_at, monitor_line, pair_line}

-- the sum of a number for each element
unfoldable pub total : {A : Type 0} → (A → ℕ) → List A → ℕ
total f [] = 0
total f (a ∷ l) = f a + total f l

-- characters of a line of so many octets: two an octet, and the LF
unfoldable pub line_length : ℕ → ℕ
line_length n = 2 * n + 1

-- A0: its name, position, filter, opcode and length, then the prefix
unfoldable pub head_length : Model → ℕ
head_length m = line_length (9 + length m.prefix)

-- A1 and A5: their name and 7 octets, then the condition, then in version 2 what is added
unfoldable pub monitor_length : ℕ × Monitor → ℕ
monitor_length x = line_length (8 + length x.1.condition + length (extra_text x.1.extra))

-- A3: its name and the fields before the data, then the data
unfoldable pub pair_length : Pair → ℕ
pair_length q = line_length (1 + (data_at + length q.adv))

-- AF: its name and 2 octets
unfoldable pub end_length : ℕ
end_length = line_length 3

-- the image
unfoldable pub image_length : Model → ℕ
image_length m = head_length m + (total monitor_length m.mons + (total pair_length m.pairs + end_length))

module _ {A : Type 0} (row : A → List ℕ) (size : A → ℕ) where
  -- lines written one after another
  length-lines : (P : A → Type 0) (l : List A) → ((a : A) → P a → length (text_of (row a)) ≡ size a) → All P l
      → length (each text_of (map row l)) ≡ total size l
  unfolding each total
  length-lines P [] h p = refl
  length-lines P (a ∷ l) h p = simp length-append (rw (h a p.0, length-lines P l h p.1))

module _ {A : Type 0} (size : A → ℕ) (n : ℕ) where
  total-most : (P : A → Type 0) (l : List A) → ((a : A) → P a → size a ≤ n) → All P l → total size l ≤ n * length l
  unfolding total
  total-most P [] h p = omega arith
  total-most P (a ∷ l) h p =
      let e : n * suc (length l) ≡ n * length l + n = mul-suc n (length l) in
      omega (arith, h a p.0, total-most P l h p.1)

length-head : (m : Model) → length (text_of (0xA0 ∷ head_row m)) ≡ head_length m
unfolding head_length line_length
length-head m = length-text (0xA0 ∷ head_row m) ∙ omega (arith, length-head_row m)

length-monitor : (x : ℕ × Monitor) → MonitorFits x → length (text_of (monitor_text x)) ≡ monitor_length x
unfolding monitor_length monitor_text line_length
length-monitor x f =
    length-text (monitor_text x)
    ∙ omega (arith, length-append (monitor_row x) (extra_text x.1.extra), length-monitor_row x)

length-pair : (q : Pair) → PairFits q → length (text_of (0xA3 ∷ pair_row q)) ≡ pair_length q
unfolding pair_length line_length
length-pair q f = length-text (0xA3 ∷ pair_row q) ∙ omega (arith, length-pair_row q f.address-length)

length-end : (m : Model) → length (text_of (0xAF ∷ end_row m)) ≡ end_length
unfolding end_length line_length end_row
length-end m = length-text (0xAF ∷ end_row m)

-- The image of a sound state is as long as its lines are.
pub image-length : (m : Model) → sound_model m ≡ true → length (image_text m) ≡ image_length m
unfolding image_text records image_length each
image-length m e =
    let f : Fits m = sound-fits m e in
    let r : List (List ℕ) = map monitor_text m.mons in
    let p : List (List ℕ) = map (λ (q : Pair). 0xA3 ∷ pair_row q) m.pairs in
    let z : List (List ℕ) = (0xAF ∷ end_row m) ∷ [] in
    let a : length (each text_of r) ≡ total monitor_length m.mons =
    length-lines monitor_text monitor_length MonitorFits m.mons length-monitor f.mons in
    let b : length (each text_of p) ≡ total pair_length m.pairs =
    length-lines (λ (q : Pair). 0xA3 ∷ pair_row q) pair_length PairFits m.pairs length-pair f.pairs in
    rw (each_append text_of r (p ++ z), each_append text_of p z)
    (simp length-append (omega (arith, length-head m, length-end m)))

monitor-most : (x : ℕ × Monitor) → MonitorFits x → monitor_length x ≤ monitor_line
unfolding monitor_length line_length
monitor-most x f =
    omega (arith, (accepted x.1 f.sound.accept).short, extra-most x.1.extra f.sound.extra-sound)

-- "image 10,698": the image of a sound state is at most that long.
pub image-most : (m : Model) → sound_model m ≡ true → length (image_text m) ≤ core_room
unfolding image_length head_length monitor_length pair_length end_length line_length
image-most m e =
    let f : Fits m = sound-fits m e in
    let s : length (image_text m) ≡ image_length m = image-length m e in
    let a : total monitor_length m.mons ≤ monitor_line * length m.mons =
    total-most monitor_length monitor_line MonitorFits m.mons monitor-most f.mons in
    let b : total pair_length m.pairs ≤ pair_line * length m.pairs =
    total-most pair_length pair_line PairFits m.pairs (λ q g. omega (arith, g.adv-most)) f.pairs in
    omega (arith, f.facts.prefix-most, f.most-mons, f.facts.pairs-most)

-- so it fits what a save is lent
pub image-room : (m : Model) → sound_model m ≡ true → length (image_text m) ≤ core_room
image-room m e = image-most m e
