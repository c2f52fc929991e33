-- Laws of the definitions in Seen.
use Rattle.std.specs.Prelude.{ℕ, ◌+◌, ◌*◌, ◌/◌, ◌%◌, ◌^◌, ◌≤◌, ◌<◌, ◌≡◌, refl, Bool, true, false, get_or, set}
use Rattle.std.proofs.Math.Path.{sym, ap, subst}
use Rattle.std.proofs.Common.{◌∙◌, one-mul, get_or-set_same, get_or-set_other}
use mathlib.Core.List.{List, [], ◌∷◌, ◌++◌}
use Rattle.std.proofs.Math.Nat.{div_self, mod-eq_of_lt, one-le-pow}
use native.Mathlib.Omega.{arith}
use Rattle.std.specs.Int.Bits.{bit_and, bit_or, or_add_and}
use Rattle.std.proofs.lemmas.Nat.{or_shr, or_mod, and_le_l, and_le_r}
use Rattle.std.proofs.Math.Pow.{pow-lt}
use Rattle.std.proofs.Math.ListN.{length}
use Rattle.laws.specs.Tests.{pick, sames}
use Rattle.laws.specs.TestsLaws.{sames-eq, cases_eq}
use Rattle.octets.specs.Little.{value}
use Rattle.wholes.specs.Index.{IndexEntry, bit_of, noted, with_handle}
use Rattle.index.specs.Table.{Tabled, with_entry}
use Rattle.index.specs.Seen.{marks, mark_of, words, bit_in, Marked, Seen, Kept}

pub mark-small : (dev : ℕ) → mark_of dev < marks
unfolding mark_of
mark-small dev = omega arith

pub seen_none : (seen : List ℕ) → Seen [] seen
unfolding Seen
seen_none seen = tt

-- a bit more: what was set stays, and it is set
or-bits : (x y c : ℕ) → bit_or x y / 2 ^ c % 2 ≡ bit_or (x / 2 ^ c % 2) (y / 2 ^ c % 2)
or-bits x y c = ap (λ (n : ℕ). n % 2) (or_shr x y c) ∙ or_mod (x / 2 ^ c) (y / 2 ^ c) 1

or_left : (a b : ℕ) → bit_or a b ≡ 0 → a ≡ 0
or_left a b e = let s : bit_or a b + bit_and a b ≡ a + b = or_add_and a b in let l : bit_and a b ≤ b =
    and_le_r a b in omega arith

or_right : (a b : ℕ) → bit_or a b ≡ 0 → b ≡ 0
or_right a b e = let s : bit_or a b + bit_and a b ≡ a + b = or_add_and a b in let l : bit_and a b ≤ a =
    and_le_l a b in omega arith

with-bit : List ℕ → ℕ → List ℕ
with-bit seen m = set seen (m / 64) (bit_or (get_or seen (m / 64) 0) (2 ^ (m % 64)))

set_there : (seen : List ℕ) (m n : ℕ) → m / 64 < length seen → Marked seen n → Marked (with-bit seen m) n
unfolding Marked with-bit
set_there seen m n h s z =
    let x : ℕ = get_or seen (m / 64) 0 in
    let y : ℕ = 2 ^ (m % 64) in
    cases_eq (n / 64) (m / 64)
    (λ e. let w : get_or (set seen (m / 64) (bit_or x y)) (n / 64) 0 ≡ bit_or x y =
    ap (λ (i : ℕ). get_or (set seen (m / 64) (bit_or x y)) i 0) e ∙ get_or-set_same seen (m / 64) (bit_or x y) 0 h in
    s (ap (λ (i : ℕ). get_or seen i 0 / 2 ^ (n % 64) % 2) e
    ∙ or_left (x / 2 ^ (n % 64) % 2) (y / 2 ^ (n % 64) % 2)
    (sym (or-bits x y (n % 64)) ∙ ap (λ (v : ℕ). v / 2 ^ (n % 64) % 2) (sym w) ∙ z)))
    (λ e. s (ap (λ (v : ℕ). v / 2 ^ (n % 64) % 2) (sym (get_or-set_other seen (m / 64) (n / 64) (bit_or x y) 0 e)) ∙ z))

set_here : (seen : List ℕ) (m : ℕ) → m / 64 < length seen → Marked (with-bit seen m) m
unfolding Marked with-bit
set_here seen m h z =
    let x : ℕ = get_or seen (m / 64) 0 in
    let y : ℕ = 2 ^ (m % 64) in
    let w : get_or (set seen (m / 64) (bit_or x y)) (m / 64) 0 ≡ bit_or x y = get_or-set_same seen (m / 64)
    (bit_or x y) 0 h in
    let q : y / 2 ^ (m % 64) % 2 ≡ 0 =
    or_right (x / 2 ^ (m % 64) % 2) (y / 2 ^ (m % 64) % 2)
    (sym (or-bits x y (m % 64)) ∙ ap (λ (v : ℕ). v / 2 ^ (m % 64) % 2) (sym w) ∙ z) in
    let o : y / y ≡ 1 = div_self {n = y} (one-le-pow (m % 64) 2 (omega arith)) in
    let u : y / y % 2 ≡ 1 = ap (λ (v : ℕ). v % 2) o in
    omega arith

-- .. with a mark more
seen-set : (es : List IndexEntry) (seen : List ℕ) (m : ℕ) → m / 64 < length seen → Seen es seen
    → Seen es (with-bit seen m)
unfolding Seen
seen-set [] seen m h a = tt
seen-set (e ∷ es) seen m h a = (set_there seen m (mark_of (value e.device)) h a.0, seen-set es seen m h a.1)

-- .. with a pair noted whose device has its mark
seen-noted : (d : List ℕ) (h : ℕ) (es : List IndexEntry) (seen : List ℕ) → Seen es seen
    → Marked seen (mark_of (value d))
    → Seen (noted d h es) seen
unfolding Seen noted with_handle pick
seen-noted d h [] seen a s = (s, tt)
seen-noted d h (e ∷ es) seen a s = go (sames e.device d) (seen-noted d h es seen a.1 s)
  where
    go : (t : Bool) → Seen (noted d h es) seen → Seen (pick t (with_handle h e ∷ es) (e ∷ noted d h es)) seen
    go true i = a
    go false i = (a.0, i)

-- a device without a mark has no entry
noted-fresh : (d : List ℕ) (h : ℕ) (es : List IndexEntry) (seen : List ℕ) → Seen es seen
    → bit_in seen (mark_of (value d)) ≡ 0 → noted d h es ≡ with_entry es d (bit_of h)
unfolding Seen Marked noted with_entry pick
noted-fresh d h [] seen a z = refl
noted-fresh d h (e ∷ es) seen a z = go (sames e.device d) refl (noted-fresh d h es seen a.1 z)
  where
    go : (t : Bool) → sames e.device d ≡ t → noted d h es ≡ es ++ (record { device = d; mask = bit_of h } ∷ [])
        → pick t (with_handle h e ∷ es) (e ∷ noted d h es) ≡ e ∷ (es ++ (record { device = d; mask = bit_of h } ∷ []))
    go true q i = absurd (a.0 (ap (λ (x : List ℕ). bit_in seen (mark_of (value x))) (sames-eq e.device d q) ∙ z))
    go false q i = ap (λ (l : List IndexEntry). e ∷ l) i

module _ (es : List IndexEntry) (d t seen : List ℕ) (k h m : ℕ) (n : length seen ≡ words)
    (w : Kept es k t seen) {dev : ℕ}
    (e : dev ≡ value d)
    (p : m ≡ mark_of dev) where
  is : m ≡ mark_of (value d)
  is = p ∙ ap mark_of e

  pub kept_new : bit_in seen m ≡ 0 → {bit : ℕ} → bit ≡ bit_of h → (v : ℕ)
      → v ≡ (1 * 2 ^ (m % 64)) % 18446744073709551616 → {k' : ℕ} {t' : List ℕ}
      → Tabled (with_entry es d bit) k' t'
      → Kept (noted d h es) k' t' (set seen (m / 64) (bit_or (get_or seen (m / 64) 0) v))
  unfolding with-bit
  kept_new z b v y {k'} {t'} f =
      let q : m / 64 < length seen = let s = mark-small dev in omega arith in
      let u : noted d h es ≡ with_entry es d (bit_of h) =
      noted-fresh d h es seen w.marked (ap (bit_in seen) (sym is) ∙ z) in
      let j : v ≡ 2 ^ (m % 64) =
      y ∙ ap (λ (x : ℕ). x % 18446744073709551616) (one-mul (2 ^ (m % 64)))
      ∙ mod-eq_of_lt (pow-lt {i = m % 64} {j = 64} (omega arith)) in
      record {
        tabled = subst (λ (x : List IndexEntry). Tabled x k' t') (ap (with_entry es d) b ∙ sym u) f;
        marked = subst (λ (x : ℕ). Seen (noted d h es) (set seen (m / 64) (bit_or (get_or seen (m / 64) 0) x))) (sym j)
            (seen-noted d h es (with-bit seen m) (seen-set es seen m q w.marked)
            (subst (Marked (with-bit seen m)) is (set_here seen m q)));
      }

  pub kept-old : (bit_in seen m ≡ 0 → ⊥) → {k' : ℕ} {t' : List ℕ} → Tabled (noted d h es) k' t'
      → Kept (noted d h es) k' t' seen
  unfolding Marked
  kept-old z f = record { tabled = f; marked = seen-noted d h es seen w.marked (λ q. z (ap (bit_in seen) is ∙ q)) }
