-- Laws of the definitions in Fields.
use Rattle.std.specs.Prelude.{ℕ, ◌+◌, ◌-◌, ◌≤◌, ◌<◌, ◌≡◌, refl, Bool, false, ◌&&◌, ◌||◌, List, leb, eqb, length, take, drop}
use Rattle.std.proofs.Common.{sym, ap, ◌∙◌, arith}
use Rattle.std.proofs.Math.Bool.{true}
use Rattle.std.proofs.Math.Option.{some}
use Rattle.std.proofs.Math.ListN.{get_or, get_or-eq_default}
use borrow.Author.Tests.{leb-true, eqb-true, le-leb, eq-eqb, lt-leb, ne_eqb}
use Rattle.laws.specs.Tests.{pick}
use Rattle.laws.specs.TestsLaws.{pick_true, and_left, and_right, and_both, and-not-left, cases-le}
use Rattle.octets.specs.Numbers.{at_most}
use Rattle.octets.specs.NumbersLaws.{at-over}
use Rattle.model.specs.Types.{scan_text}
use Rattle.model.specs.Frames.{packet_of, scan_of, has_packet}
use Rattle.steps.specs.TypedLaws.{Fielded, fielded, scan-none, scan-some}
use Rattle.marks.specs.Marks.{marks_at}
use Rattle.model.specs.Layout.{block_size, most_data, most_monitors}
use Rattle.marks.specs.Fields.{scan_at, scan_part, Ends, Framed, scan_fits, framed, fits_for, marks_fit, marked}

-- a number held to at most a limit
pub record Clamped (x top r : ℕ) : Type 0 where
  pub most : r ≤ top
  pub within : x ≤ top → r ≡ x
  pub above : top < x → r ≡ top

pub clamped : {x top r : ℕ} → (r ≡ at_most x top) × (r ≤ top) × (x ≤ top → r ≡ x) → Clamped x top r
clamped {x} {top} p = record { most = p.1; within = p.2; above = λ h. p.0 ∙ sym (at-over x top h) }

pub scan-at-none : (l : List ℕ) → length l ≤ 10 + get_or l 8 0 → scan_at l ≡ 9 + get_or l 8 0
unfolding scan_at pick
scan-at-none l h = rw (le-leb (length l) (10 + get_or l 8 0) h)

pub scan-at-short : (l : List ℕ) → length l < 9 → 9 ≡ scan_at l
scan-at-short l h =
    let z : get_or l 8 0 ≡ 0 = get_or-eq_default l 0 {n = 8} (omega arith) in
    let s : scan_at l ≡ 9 + get_or l 8 0 = scan-at-none l (omega arith) in
    omega arith

pub scan-at-some : (l : List ℕ) → 10 + get_or l 8 0 < length l → scan_at l ≡ 10 + get_or l 8 0
unfolding scan_at pick
scan-at-some l h = rw (lt-leb (length l) (10 + get_or l 8 0) h)

-- a payload that ends with the octet behind the data, and one that goes on with a scan response
ends-plain : (l : List ℕ) → length l ≡ 10 + get_or l 8 0 → Ends l
ends-plain l e =
    let s : scan_at l ≡ 9 + get_or l 8 0 = scan-at-none l (omega arith) in
    record {
      low = omega arith;
      high = omega arith;
      most = omega arith;
      sized = λ h. absurd (omega arith);
      without = λ h. scan-none l h;
      within = λ h. absurd (omega arith);
    }

ends-scanned : (l : List ℕ) → get_or l (9 + get_or l 8 0) 0 ≤ most_data
    → length l ≡ 11 + get_or l 8 0 + get_or l (9 + get_or l 8 0) 0 → Ends l
ends-scanned l b e =
    let s : scan_at l ≡ 10 + get_or l 8 0 = scan-at-some l (omega arith) in
    let k : length l - 1 - scan_at l ≡ get_or l (9 + get_or l 8 0) 0 = omega arith in
    record {
      low = omega arith;
      high = omega arith;
      most = omega arith;
      sized = λ h. e;
      without = λ h. absurd (omega arith);
      within = λ h. scan-some l h
          ∙ ap some (sym (ap (λ (j : ℕ). take j (drop (scan_at l) l)) k
          ∙ ap (λ (j : ℕ). take (get_or l (9 + get_or l 8 0) 0) (drop j l)) s));
    }

-- the scan response as a text
pub scan-is : (l : List ℕ) → Ends l → scan_part l ≡ scan_text (scan_of l)
unfolding scan_text
scan-is l f =
    cases-le (length l) (10 + get_or l 8 0)
    (λ (h : length l ≤ 10 + get_or l 8 0).
    let s : scan_at l ≡ 9 + get_or l 8 0 = scan-at-none l h in
    let k : length l - 1 - scan_at l ≡ 0 = omega arith in
    rw (f.without h) (ap (λ (j : ℕ). take j (drop (scan_at l) l)) k))
    (λ (h : 10 + get_or l 8 0 < length l). rw (f.within h) refl)

pub framed-facts : (l : List ℕ) → framed l ≡ true → Framed l
unfolding framed scan_fits
framed-facts l e =
    let c = leb 10 (length l) in
    let d = leb (get_or l 8 0) most_data in
    let f = eqb (length l) (10 + get_or l 8 0) in
    let g = leb (11 + get_or l 8 0) (length l) in
    let u = leb (get_or l (9 + get_or l 8 0) 0) most_data in
    let v = eqb (length l) (11 + get_or l 8 0 + get_or l (9 + get_or l 8 0) 0) in
    let e3 = and_right c (d && (f || (g && (u && v)))) e in
    let m : get_or l 8 0 ≤ most_data = leb-true (get_or l 8 0) most_data (and_left d (f || (g && (u && v))) e3) in
    let r : (10 + get_or l 8 0 ≤ length l) × Ends l = go f refl (and_right d (f || (g && (u && v))) e3) in
    (r.0, m, r.1)
  where
    go : (t : Bool) → eqb (length l) (10 + get_or l 8 0) ≡ t
        → (t || (leb (11 + get_or l 8 0) (length l)
        && (leb (get_or l (9 + get_or l 8 0) 0) most_data
        && eqb (length l) (11 + get_or l 8 0 + get_or l (9 + get_or l 8 0) 0)))) ≡ true
        → (10 + get_or l 8 0 ≤ length l) × Ends l
    go true p z = let q : length l ≡ 10 + get_or l 8 0 = eqb-true _ _ p in (omega arith, ends-plain l q)
    go false p z =
        let g = leb (11 + get_or l 8 0) (length l) in
        let u = leb (get_or l (9 + get_or l 8 0) 0) most_data in
        let v = eqb (length l) (11 + get_or l 8 0 + get_or l (9 + get_or l 8 0) 0) in
        let y = and_right g (u && v) z in
        let q : length l ≡ 11 + get_or l 8 0 + get_or l (9 + get_or l 8 0) 0 = eqb-true _ _ (and_right u v y) in
        (omega arith, ends-scanned l (leb-true _ _ (and_left u v y)) q)

pub facts-framed : (l : List ℕ) → Framed l → framed l ≡ true
unfolding framed scan_fits
facts-framed l f =
    and_both (le-leb 10 (length l) (omega arith))
    (and_both (le-leb (get_or l 8 0) most_data f.1)
    (cases-le (length l) (10 + get_or l 8 0)
    (λ (h : length l ≤ 10 + get_or l 8 0). rw (eq-eqb (length l) (10 + get_or l 8 0) (omega arith)))
    (λ (h : 10 + get_or l 8 0 < length l).
    let q = f.2.sized h in
    let m = f.2.most in
    let s = scan-at-some l h in
    rw (ne_eqb (length l) (10 + get_or l 8 0) (λ z. omega arith))
    (and_both (le-leb (11 + get_or l 8 0) (length l) (omega arith))
    (and_both (le-leb (get_or l (9 + get_or l 8 0) 0) most_data (omega arith))
    (eq-eqb (length l) (11 + get_or l 8 0 + get_or l (9 + get_or l 8 0) 0) q))))))

-- a payload of a packet is framed
pub packet-framed : (l : List ℕ) → has_packet l ≡ true → Framed l
packet-framed l e =
    let f : Fielded l = fielded l e in (
      f.size,
      f.few,
      cases-le (length l) (10 + get_or l 8 0) (λ (h : length l ≤ 10 + get_or l 8 0). ends-plain l (omega (arith, f.size)))
          (λ (h : 10 + get_or l 8 0 < length l). ends-scanned l (f.scanned h).0 (f.scanned h).1),
    )

-- the branches of the test
pub framed-short : (l : List ℕ) → length l < 10 → false ≡ framed l
unfolding framed
framed-short l n = sym (and-not-left _ _ (lt-leb 10 (length l) n))

module _ (l : List ℕ) (c : 10 ≤ length l) where
  pub framed-over : most_data < get_or l 8 0 → false ≡ framed l
  unfolding framed
  framed-over h = rw (le-leb 10 (length l) c, lt-leb (get_or l 8 0) most_data h)

  module _ (m : get_or l 8 0 ≤ most_data) where
    pub framed-plain : length l ≡ 10 + get_or l 8 0 → true ≡ framed l
    unfolding framed
    framed-plain e = rw (le-leb 10 (length l) c, le-leb (get_or l 8 0) most_data m, eq-eqb (length l) (10 + get_or l 8 0) e)

    pub framed-cut : length l < 10 + get_or l 8 0 → false ≡ framed l
    unfolding framed scan_fits
    framed-cut h =
        rw (
          le-leb 10 (length l) c,
          le-leb (get_or l 8 0) most_data m,
          ne_eqb (length l) (10 + get_or l 8 0) (λ z. omega arith),
          lt-leb (11 + get_or l 8 0) (length l) (omega arith),
        )

    pub framed-scan : 10 + get_or l 8 0 < length l
        → (leb (get_or l (9 + get_or l 8 0) 0) most_data && eqb (length l) (11 + get_or l 8 0 + get_or l (9 + get_or l 8 0) 0))
        ≡ framed l
    unfolding framed scan_fits
    framed-scan h =
        rw (
          le-leb 10 (length l) c,
          le-leb (get_or l 8 0) most_data m,
          ne_eqb (length l) (10 + get_or l 8 0) (λ z. omega arith),
          le-leb (11 + get_or l 8 0) (length l) (omega arith),
        )

pub fits-facts : (n : ℕ) (s l : List ℕ) → fits_for n s l ≡ true → (n ≡ most_monitors) × (length s ≡ block_size) × Framed l
unfolding fits_for
fits-facts n s l e =
    let r = and_right (eqb n most_monitors) _ e in (
      eqb-true n most_monitors (and_left (eqb n most_monitors) _ e),
      eqb-true (length s) block_size (and_left (eqb (length s) block_size) (framed l) r),
      framed-facts l (and_right (eqb (length s) block_size) (framed l) r),
    )

pub facts-fits : (n : ℕ) (s l : List ℕ) → n ≡ most_monitors → length s ≡ block_size → Framed l → fits_for n s l ≡ true
unfolding fits_for
facts-fits n s l a b f =
    and_both (eq-eqb n most_monitors a) (and_both (eq-eqb (length s) block_size b) (facts-framed l f))

module _ (acts s l : List ℕ) where
  pub marked-not : {t : Bool} → t ≡ marks_fit acts s l → t ≡ false → (false ≡ marks_fit acts s l)
      × (acts ≡ marked false acts s l)
  unfolding marked pick
  marked-not e z = (sym z ∙ e, refl)

  pub marked-done : {t : Bool} {x : List ℕ} → t ≡ marks_fit acts s l → t ≡ true → x ≡ marks_at s (packet_of l)
      → (true ≡ marks_fit acts s l) × (x ≡ marked true acts s l)
  unfolding marked pick
  marked-done e z q = (sym z ∙ e, q)

  -- the octets, where the lengths are right
  pub marked-of : {t : Bool} {x : List ℕ} → length acts ≡ most_monitors → length s ≡ block_size → Framed l
      → (t ≡ marks_fit acts s l) × (x ≡ marked t acts s l) → x ≡ marks_at s (packet_of l)
  unfolding marked
  marked-of {t} {x} a b f e =
      let u : t ≡ true = e.0 ∙ facts-fits (length acts) s l a b f in
      e.1 ∙ pick_true (marks_at s (packet_of l)) acts u
