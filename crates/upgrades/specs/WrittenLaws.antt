-- The same of characters, as `bin/upgrade` writes them: where in a line what is put in stands.
use Rattle.std.specs.Prelude.{ℕ, suc, ◌+◌, ◌-◌, ◌*◌, ◌≤◌, ◌≡◌, refl, List, [], ◌∷◌, ◌++◌, length, take, drop}
use Rattle.std.proofs.Common.{sym, ap, ◌∙◌, append_assoc, arith, take-append-drop, take_at, drop_at, length-take-le}
use Rattle.laws.specs.Tests.{pick}
use Rattle.lines.specs.Hex.{lf, hex_of, text_of}
use Rattle.lines.specs.TextsLaws.{hex-append, length-hex}
use Rattle.model.specs.Layout.{rssi_at, prefix_length_at}
use Rattle.upgrades.specs.Formats.{filled, fill_line}

-- "A3", the line's characters from the third to the 48th, "14", and those from the 49th on
unfoldable pub filled_text : List ℕ → List ℕ
filled_text t = 65 ∷ 51 ∷ (take (2 * rssi_at) (drop 2 t) ++ (49 ∷ 52 ∷ drop (2 + 2 * rssi_at) t))

-- "A400000000" and the head's characters from the 17th on
unfoldable pub edition_text : List ℕ → List ℕ
edition_text t = 65 ∷ 52 ∷ 48 ∷ 48 ∷ 48 ∷ 48 ∷ 48 ∷ 48 ∷ 48 ∷ 48 ∷ drop (2 + 2 * prefix_length_at) t

-- the text of octets, cut where the octets are
text-cut : (n : ℕ) (r : List ℕ) → text_of r ≡ hex_of (take n r) ++ text_of (drop n r)
unfolding text_of
text-cut n r =
    ap (λ (l : List ℕ). hex_of l ++ (lf ∷ [])) (sym (take-append-drop n r))
    ∙ ap (λ (l : List ℕ). l ++ (lf ∷ [])) (hex-append (take n r) (drop n r))
    ∙ append_assoc (hex_of (take n r)) (hex_of (drop n r)) (lf ∷ [])

module _ (n : ℕ) (r : List ℕ) (h : n ≤ length r) where
  hex-front : length (hex_of (take n r)) ≡ 2 * n
  hex-front = length-hex (take n r) ∙ ap (λ (k : ℕ). 2 * k) (length-take-le n r h)

  text-front : take (2 * n) (text_of r) ≡ hex_of (take n r)
  text-front = ap (take (2 * n)) (text-cut n r) ∙ take_at (hex_of (take n r)) (text_of (drop n r)) (2 * n) hex-front

  text-back : drop (2 * n) (text_of r) ≡ text_of (drop n r)
  text-back = ap (drop (2 * n)) (text-cut n r) ∙ drop_at (hex_of (take n r)) (text_of (drop n r)) (2 * n) hex-front

-- the text of an A2 line, made that of the A3 line
pub filled-text : (r : List ℕ) → rssi_at ≤ length r → text_of (fill_line (0xA2 ∷ r)) ≡ filled_text (text_of (0xA2 ∷ r))
unfolding filled_text fill_line text_of hex_of Rattle.lines.specs.Hex.digit pick
filled-text r h =
    ap (λ (l : List ℕ). 65 ∷ 51 ∷ (l ++ (lf ∷ []))) (hex-append (take rssi_at r) (filled ∷ drop rssi_at r))
    ∙ ap (λ (l : List ℕ). 65 ∷ 51 ∷ l)
    (append_assoc (hex_of (take rssi_at r)) (49 ∷ 52 ∷ hex_of (drop rssi_at r)) (lf ∷ []))
    ∙ ap (λ (l : List ℕ). 65 ∷ 51 ∷ (hex_of (take rssi_at r) ++ (49 ∷ 52 ∷ l))) (sym (text-back rssi_at r h))
    ∙ ap (λ (l : List ℕ). 65 ∷ 51 ∷ (l ++ (49 ∷ 52 ∷ drop (2 * rssi_at) (text_of r)))) (sym (text-front rssi_at r h))

-- the text of the one edition's line, of the head's
pub edition-text : (h : List ℕ) → 1 + prefix_length_at ≤ length h
    → text_of (0xA4 ∷ 0 ∷ 0 ∷ 0 ∷ 0 ∷ drop (1 + prefix_length_at) h) ≡ edition_text (text_of h)
unfolding edition_text text_of hex_of Rattle.lines.specs.Hex.digit pick
edition-text h e =
    ap (λ (l : List ℕ). 65 ∷ 52 ∷ 48 ∷ 48 ∷ 48 ∷ 48 ∷ 48 ∷ 48 ∷ 48 ∷ 48 ∷ l) (sym (text-back (1 + prefix_length_at) h e))
