-- Laws of the definitions in Sound.
use Prim.Native.Nat.{ℕ, zero, suc, ◌+◌, ◌*◌, ◌≤◌, ◌<◌}
use Rattle.std.specs.Prelude.{◌≡◌, Bool, ◌&&◌, ltb, eqb, take, drop, get_or}
use Rattle.std.proofs.Math.Path.{refl, sym, ap, subst}
use Rattle.std.proofs.Common.{◌∙◌, le-leb, lt-ltb, le-ltb, eq-eqb, ne_eqb}
use Rattle.std.proofs.Math.Bool.{true, false}
use mathlib.Core.List.{List, [], ◌∷◌}
use native.Mathlib.Omega.{arith}
use Rattle.std.proofs.Math.Dec.{leb}
use Rattle.std.proofs.Math.ListN.{length, length-drop}
use Rattle.std.proofs.Math.Seq.{length-take-le}
use Rattle.laws.specs.Tests.{sames}
use Rattle.laws.specs.TestsLaws.{and_both, and-not-left, and-not-right}
use Rattle.laws.specs.Loops.{every}
use Rattle.laws.specs.LoopsLaws.{every_take, every_drop}
use Rattle.octets.specs.Little.{little, is_octet, value}
use Rattle.octets.specs.LittleLaws.{little-value, value-lt}
use Rattle.octets.specs.Numbers.{number_at, at_most}
use Rattle.octets.specs.NumbersLaws.{number-of}
use Rattle.sessions.specs.Machine.{last_number}
use Rattle.model.specs.Block.{model_of}
use Rattle.model.specs.Layout.{most_prefix, position_at, prefix_length_at}
use Rattle.steps.specs.FactsLaws.{up-to-holds}
use Rattle.editions.specs.Editions.{Edition, prefix_for, rising, sound_edition, sound_editions, most_editions}
use Rattle.editions.specs.Block.{edition_size, edition_block, editions_of, sound_block}
use Rattle.wholes.specs.Layout.{editions_at, whole_size}
use Rattle.wholes.specs.Laid.{sound_prefixes}
use Rattle.wholes.specs.Heads.{prefix_size, prefix_row}
use Rattle.prefixes.specs.Held.{listed, edition_count, edition_at}
use Rattle.prefixes.specs.HeldLaws.{listed-count, listed-take, listed-drop, listed-all, listed-end, count_most, from-read, prefix-read, prefix-most}
use Rattle.prefixes.specs.Sound.{starts_rising, is_prefixed}

module _ (s : List ℕ) where
  none-listed : edition_count s ≡ 0 → listed s ≡ []
  none-listed z = go (listed s) (listed-count s ∙ z)
    where
      go : (es : List Edition) → length es ≡ 0 → es ≡ []
      go [] h = refl
      go (e ∷ es) h = absurd (omega arith)

  pub rising_none : edition_count s ≡ 0 → false ≡ starts_rising (listed s)
  unfolding starts_rising
  rising_none z = sym (ap starts_rising (none-listed z))

  first_of : 0 < edition_count s → listed s ≡ edition_at s 0 ∷ drop 1 (listed s)
  first_of h = listed-drop s 0 h

  pub rising-first : 0 < edition_count s → ((edition_at s 0).from ≡ 0 → ⊥) → false ≡ starts_rising (listed s)
  unfolding starts_rising
  rising-first h n =
      sym (ap starts_rising (first_of h)
      ∙ and-not-left _ (rising 0 (drop 1 (listed s))) (ne_eqb (edition_at s 0).from 0 n))

  -- the loop: what is left to rise above the last number
  abbrev pub Rises : ℕ → ℕ → Type 0
  Rises last i = (1 ≤ i) × (i ≤ edition_count s) × (starts_rising (listed s) ≡ rising last (drop i (listed s)))

  pub rises-all : (v : ℕ) → 0 < edition_count s → v ≡ (edition_at s 0).from → v ≡ 0 → Rises v 1
  unfolding starts_rising
  rises-all v h e z = (
    omega arith,
    omega arith,
    ap starts_rising (first_of h)
        ∙ ap (λ (b : Bool). b && rising 0 (drop 1 (listed s))) (eq-eqb (edition_at s 0).from 0 (sym e ∙ z))
        ∙ ap (λ (j : ℕ). rising j (drop 1 (listed s))) (sym z),
  )

  module _ (last i : ℕ) (h : i < edition_count s) (r : Rises last i) where
    next_of : starts_rising (listed s)
        ≡ (ltb last (edition_at s i).from && rising (edition_at s i).from (drop (suc i) (listed s)))
    unfolding rising
    next_of = r.2 ∙ ap (rising last) (listed-drop s i h)

    pub rises-not : {v : ℕ} → v ≡ (edition_at s i).from → v ≤ last → false ≡ starts_rising (listed s)
    rises-not {v} e k =
        sym (next_of ∙ and-not-left _ (rising (edition_at s i).from (drop (suc i) (listed s)))
        (ap (ltb last) (sym e) ∙ le-ltb last v k))

    pub rises-more : {v : ℕ} → v ≡ (edition_at s i).from → last < v → Rises v (i + 1)
    rises-more {v} e k =
        let a : suc i ≡ i + 1 = omega arith in (
          omega arith,
          omega arith,
          next_of ∙ ap (λ (b : Bool). b && rising (edition_at s i).from (drop (suc i) (listed s)))
              (ap (ltb last) (sym e) ∙ lt-ltb last v k)
              ∙ ap (λ (j : ℕ). rising j (drop (suc i) (listed s))) (sym e)
              ∙ ap (λ (j : ℕ). rising v (drop j (listed s))) a,
        )

  pub rises-end : (last i : ℕ) → edition_count s ≤ i → Rises last i → true ≡ starts_rising (listed s)
  unfolding rising
  rises-end last i h r =
      let b : i ≤ edition_count s = r.1 in
      let e : i ≡ edition_count s = omega arith in
      sym (r.2 ∙ ap (λ (j : ℕ). rising last (drop j (listed s))) e ∙ ap (rising last) (listed-end s))

module _ (s : List ℕ) (l : length s ≡ whole_size) where
  -- every edition's own fields are in range, whatever the octets
  module _ (o : every is_octet s ≡ true) where
    edition-fits : (i : ℕ) → i < most_editions → sound_edition (edition_at s i) ≡ true
    unfolding sound_edition last_number
    edition-fits i h =
        let f : (edition_at s i).from ≡ little 4 s (editions_at + edition_size * i) =
        sym (from-read s i l h
        (Rattle.octets.specs.NumbersLaws.number_in 4 s (editions_at + edition_size * i) refl
        (le-leb (editions_at + edition_size * i + 4) (length s) (omega arith)))) in
        let v : little 4 s (editions_at + edition_size * i) ≡ value (take 4 (drop (editions_at + edition_size * i) s)) =
        little-value 4 s (editions_at + edition_size * i) (omega arith) in
        let n : length (take 4 (drop (editions_at + edition_size * i) s)) ≡ 4 =
        length-take-le 4 (drop (editions_at + edition_size * i) s) (simp length-drop (omega arith)) in
        let b : value (take 4 (drop (editions_at + edition_size * i) s)) < 4294967296 =
        subst (λ (j : ℕ). value (take 4 (drop (editions_at + edition_size * i) s)) < Prim.Native.Nat.◌^◌ 256 j) n
        (value-lt (take 4 (drop (editions_at + edition_size * i) s))
        (every_take is_octet 4 _ (every_drop is_octet (editions_at + edition_size * i) s o))) in
        let k : ℕ = at_most (get_or s (editions_at + edition_size * i + 4) 0) most_prefix in
        and_both (le-leb (edition_at s i).from 4294967295 (omega arith))
        (up-to-holds most_prefix (edition_at s i).prefix (prefix-most s i l h)
        (ap (every is_octet) (prefix-read s i l h k (get_or s (editions_at + edition_size * i + 4) 0) refl refl)
        ∙ every_take is_octet k _ (every_drop is_octet (editions_at + edition_size * i + 4 + 1) s o)))

    all_fit : (i : ℕ) → i ≤ edition_count s → every sound_edition (take i (listed s)) ≡ true
    unfolding every
    all_fit zero h = refl
    all_fit (suc i) h =
        let m = count_most s in
        ap (every sound_edition) (listed-take s i (omega arith))
        ∙ Rattle.laws.specs.LoopsLaws.every_append sound_edition (take i (listed s)) (edition_at s i ∷ [])
        ∙ and_both (all_fit i (omega arith)) (and_both (edition-fits i (omega arith)) refl)

    sound-listed : sound_editions (listed s) ≡ starts_rising (listed s)
    unfolding sound_editions starts_rising
    sound-listed =
        let m = count_most s in
        let c : length (listed s) ≡ edition_count s = listed-count s in
        go (listed s) (le-leb (length (listed s)) most_editions (omega arith))
        (ap (every sound_edition) (sym (listed-all s)) ∙ all_fit (edition_count s) (omega arith))
      where
        go : (es : List Edition) → leb (length es) most_editions ≡ true → every sound_edition es ≡ true
            → sound_editions es ≡ starts_rising es
        go [] a b = refl
        go (e ∷ es) a b =
            ap (λ (t : Bool). (eqb e.from 0 && rising 0 es && leb (length (e ∷ es)) most_editions) && t) b
            ∙ ap (λ (t : Bool). (eqb e.from 0 && rising 0 es && t) && true) a
            ∙ trues (eqb e.from 0 && rising 0 es)
          where
            trues : (t : Bool) → ((t && true) && true) ≡ t
            trues true = refl
            trues false = refl

    -- what the tests together say
    pub prefixed-falling : starts_rising (listed s) ≡ false → false ≡ is_prefixed s
    unfolding is_prefixed sound_prefixes sound_block listed
    prefixed-falling e =
        sym (and-not-right (eqb (length s) whole_size) _ (and-not-left _ _ (and-not-left _ _ (sound-listed ∙ e))))

    pub prefixed-other : {r : Bool} → r ≡ sames (edition_block (listed s)) (drop editions_at s) → r ≡ false
        → false ≡ is_prefixed s
    unfolding is_prefixed sound_prefixes sound_block listed
    prefixed-other q z =
        sym (and-not-right (eqb (length s) whole_size) _
        (and-not-left _ _ (and-not-right (sound_editions (editions_of (drop editions_at s))) _ (sym q ∙ z))))

    pub prefixed-head : (j p : ℕ) (row : List ℕ) {r w : Bool} → starts_rising (listed s) ≡ true
        → r ≡ sames (edition_block (listed s)) (drop editions_at s)
        → r ≡ true → p ≡ number_at 4 s position_at → row ≡ prefix_row (prefix_for p (listed s)) → j ≡ prefix_size
        → w ≡ sames (take j (drop prefix_length_at s)) row → w ≡ is_prefixed s
    unfolding is_prefixed sound_prefixes sound_block listed model_of
    prefixed-head j p row {r} {w} a q z f g m y =
        let es : List Edition = editions_of (drop editions_at s) in
        let b : sames (edition_block es) (drop editions_at s) ≡ true = sym q ∙ z in
        let c : p ≡ little 4 s position_at = number-of 4 s position_at f (omega arith) in
        y ∙ ap (sames (take j (drop prefix_length_at s))) (g ∙ ap (λ (u : ℕ). prefix_row (prefix_for u es)) c)
        ∙ ap (λ (u : ℕ). sames (take u (drop prefix_length_at s)) (prefix_row (prefix_for (little 4 s position_at) es))) m
        ∙ sym (ap (λ (u : Bool). u
        && ((sound_editions es && sames (edition_block es) (drop editions_at s))
        && sames (take prefix_size (drop prefix_length_at s)) (prefix_row (prefix_for (little 4 s position_at) es))))
        (eq-eqb (length s) whole_size l)
        ∙ ap (λ (u : Bool). u
        && sames (take prefix_size (drop prefix_length_at s)) (prefix_row (prefix_for (little 4 s position_at) es)))
        (and_both (sound-listed ∙ a) b))

pub prefixed-short : (s : List ℕ) → (length s ≡ whole_size → ⊥) → false ≡ is_prefixed s
unfolding is_prefixed
prefixed-short s h = sym (and-not-left (eqb (length s) whole_size) (sound_prefixes s) (ne_eqb (length s) whole_size h))

pub prefixed-sound : (s : List ℕ) {r : Bool} → length s ≡ whole_size → r ≡ is_prefixed s → r ≡ sound_prefixes s
unfolding is_prefixed
prefixed-sound s l e = e ∙ ap (λ (b : Bool). b && sound_prefixes s) (eq-eqb (length s) whole_size l)
