-- Turns of the loops over the octets of names, structures, patterns and lists of UUIDs. Assumes nothing.
use Rattle.std.specs.Prelude.{ℕ, suc, ◌+◌, ◌-◌, ◌≤◌, ◌<◌, min, ◌≡◌, List, [], ◌++◌, leb, eqb, length, take, drop, get_or}
use Rattle.std.proofs.Common.{sym, ◌∙◌, add-one, arith, length-drop, drop_of_length-le}
use Rattle.std.proofs.Math.Path.{ap}
use Rattle.std.proofs.Math.Seq.{drop-cons}
use Rattle.laws.specs.Tests.{pick}
use Rattle.fields.specs.CutsLaws.{all_none, all-next}
use Rattle.fields.specs.Data.{size_of, character_text, characters_text, next_of, uuid_in, uuids_text, structure_text, structures_text}
use Rattle.fields.specs.Monitors.{pattern_text, patterns_text}

-- the size of the piece at an index
pub size-at : (s : List ℕ) (i : ℕ) → i < length s
    → size_of (drop i s)
    ≡ pick (eqb (get_or s i 0) 0) (length s - i)
    (pick (leb (length s - i) (get_or s i 0)) (length s - i) (1 + get_or s i 0))
unfolding size_of
size-at s i h =
    let e : suc (length (drop (suc i) s)) ≡ length s - i = simp length-drop (omega arith) in
    rw (drop-cons s i 0 h, e)

module _ (s : List ℕ) (i : ℕ) where
  pub characters-end : length s ≤ i → characters_text (drop i s) ≡ []
  unfolding characters_text
  characters-end h = ap characters_text (drop_of_length-le s {i = i} h)

  pub characters-next : i < length s → characters_text (drop i s) ≡ character_text (get_or s i 0)
      ++ characters_text (drop (i + 1) s)
  unfolding characters_text
  characters-next h = rw (add-one i, drop-cons s i 0 h)

  pub structures-end : length s ≤ i → structures_text (drop i s) ≡ []
  unfolding structures_text
  structures-end h = all_none size_of structure_text s i h

  pub structures-next : (n : ℕ) → i < length s → n ≡ size_of (drop i s) → 0 < n
      → structures_text (drop i s) ≡ structure_text (take n (drop i s)) ++ structures_text (drop (i + n) s)
  unfolding structures_text
  structures-next n h e k = all-next size_of structure_text s i n h e k

  pub patterns-end : length s ≤ i → patterns_text (drop i s) ≡ []
  unfolding patterns_text
  patterns-end h = all_none size_of pattern_text s i h

  pub patterns-next : (n : ℕ) → i < length s → n ≡ size_of (drop i s) → 0 < n
      → patterns_text (drop i s) ≡ pattern_text (take n (drop i s)) ++ patterns_text (drop (i + n) s)
  unfolding patterns_text
  patterns-next n h e k = all-next size_of pattern_text s i n h e k

  pub uuids-end : (k : ℕ) → length s ≤ i → uuids_text k (drop i s) ≡ []
  unfolding uuids_text
  uuids-end k h = all_none (next_of k) uuid_in s i h

  pub uuids-next : (k n : ℕ) → 0 < k → i < length s → n ≡ min k (length s - i)
      → uuids_text k (drop i s) ≡ uuid_in (take n (drop i s)) ++ uuids_text k (drop (i + n) s)
  unfolding uuids_text next_of
  uuids-next k n p h e = all-next (next_of k) uuid_in s i n h (e ∙ ap (min k) (sym (length-drop i s))) (omega arith)
