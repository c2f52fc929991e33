-- Laws of the definitions in Keyed.
use Rattle.std.specs.Prelude.{ℕ, ◌+◌, ◌*◌, ◌<◌, ◌≡◌, refl, Bool, true, false, ◌&&◌, List, eqb, length, take, drop, get_or, set, Option, Some, None}
use Rattle.std.proofs.Common.{sym, ap, ap₂, ◌∙◌, arith, get_or-set_same, get_or-set_other, eqb-true}
use Rattle.std.proofs.lemmas.Bool.{false≢true}
use Rattle.std.specs.Int.{from_bool}
use Rattle.laws.specs.Tests.{pick}
use Rattle.laws.specs.TestsLaws.{and_left, cases-le}
use Rattle.laws.specs.Rows.{row}
use Rattle.resolve.specs.Resolve.{key_size, resolvable, resolves_by, hash_of, ah, key_of, prand_of}
use Rattle.advert.specs.Condition.{meets}
use Rattle.advert.specs.Irk.{irk_meets}
use Rattle.advert.specs.IrkLaws.{irk-random}
use Rattle.model.specs.Types.{scan_text}
use Rattle.model.specs.Frames.{packet_of, scan_of}
use Rattle.model.specs.Monitors.{meets_condition}
use Rattle.model.specs.Image.{monitor_from, monitor_in}
use Rattle.marks.specs.Marks.{flag}
use Rattle.marks.proofs.FieldsLaws.{Clamped}
use Rattle.marks.specs.Monitors.{Alike}
use Rattle.marks.proofs.MonitorsLaws.{row_field, row-condition, alike-matches}
use Rattle.model.specs.Layout.{condition_at, condition_length_at, condition_room, monitor_size, monitors_at, most_monitors}
use Rattle.marks.specs.Keyed.{private_of, KeyAt, Keyed, Told, ToldAll}

pub told_at_lem : (met : Option (List Bool)) (s a l : List ℕ) (h : ℕ) → h < most_monitors → ToldAll met s a l
    → (get_or a h 0 ≡ 0 → ⊥)
    → Told met s l h
told_at_lem None s a l h b t n = record { is = t.is; keyed = t.keyed }
told_at_lem (Some m) s a l h b t n = record { is = t.is; keyed = t.keyed h b n }

-- an octet that is 0 is no handle's that is asked
pub flag-some : (t : Bool) → t ≡ true → flag t ≡ 0 → ⊥
unfolding flag
flag-some true n e = omega arith
flag-some false n e = absurd (false≢true n)

-- a test as a number
pub flag-from : {x : ℕ} (t : Bool) → x ≡ from_bool t → x ≡ flag t
unfolding flag
flag-from true e = e
flag-from false e = e

-- one handle more
pub keyed-turn : (m : List Bool) (s a l : List ℕ) (h : ℕ) (x : Bool) → h < length m → Keyed m s a l h
    → ((get_or a h 0 ≡ 0 → ⊥) → KeyAt s h
    → x ≡ meets_condition (monitor_in (row monitor_size h (drop monitors_at s))).1 (packet_of l))
    → Keyed (set m h x) s a l (h + 1)
keyed-turn m s a l h x b f e j k n q =
    cases-le h j
    (λ z. let i : j ≡ h = omega arith in rw i (get_or-set_same m h x false b ∙ e (rw i at n) (rw i at q)))
    (λ z. get_or-set_other m h j x false (λ i. omega arith) ∙ f j z n q)

-- the match of a key is that of the address
key-matches : (s : List ℕ) (h : ℕ) (l : List ℕ) → KeyAt s h
    → meets_condition (monitor_in (row monitor_size h (drop monitors_at s))).1 (packet_of l)
    ≡ irk_meets (take (get_or (row monitor_size h (drop monitors_at s)) condition_length_at 0)
    (drop condition_at (row monitor_size h (drop monitors_at s)))) (get_or l 1 0) (take 6 (drop 2 l))
unfolding meets_condition monitor_in monitor_from packet_of meets pick
key-matches s h l e =
    let r : List ℕ = row monitor_size h (drop monitors_at s) in
    ap (λ (k : ℕ). meets k (take (get_or r condition_length_at 0) (drop condition_at r)) (get_or l 1 0) (take 6 (drop 2 l))
    (take (get_or l 8 0) (drop 9 l)) (scan_text (scan_of l)))
    (row_field s h 5 (omega arith) ∙ e)

-- what the key was asked
pub key-asked : (s : List ℕ) (h : ℕ) (l : List ℕ) (n : ℕ) {cond adr : List ℕ} {found : Bool} → KeyAt s h
    → private_of l ≡ true
    → Clamped (get_or s (monitors_at + monitor_size * h + 6) 0) condition_room n
    → cond ≡ take n (drop (monitors_at + monitor_size * h + 7) s) → adr ≡ take 6 (drop 2 l) → found ≡ resolves_by cond adr
    → found ≡ meets_condition (monitor_in (row monitor_size h (drop monitors_at s))).1 (packet_of l)
unfolding private_of
key-asked s h l n k p c ec ea f =
    let r : List ℕ = row monitor_size h (drop monitors_at s) in
    irk-random (take (get_or r condition_length_at 0) (drop condition_at r)) (get_or l 1 0) (take 6 (drop 2 l))
    (eqb-true (get_or l 1 0) 1 (and_left (eqb (get_or l 1 0) 1) (resolvable (take 6 (drop 2 l))) p))
    (f ∙ ap₂ resolves_by (ec ∙ row-condition s h n c) ea) ∙ sym (key-matches s h l k)

unresolved : (x y k z : Bool) → (x && y) ≡ false → (x && (k && (y && z))) ≡ false
unresolved false y k z e = refl
unresolved true false false z e = refl
unresolved true false true z e = refl
unresolved true true k z e = absurd (false≢true (sym e))

-- no key resolves another address
pub key-none : (s : List ℕ) (h : ℕ) (l : List ℕ) → KeyAt s h → private_of l ≡ false
    → false ≡ meets_condition (monitor_in (row monitor_size h (drop monitors_at s))).1 (packet_of l)
unfolding private_of irk_meets resolves_by
key-none s h l k p =
    let r : List ℕ = row monitor_size h (drop monitors_at s) in
    let key : List ℕ = take (get_or r condition_length_at 0) (drop condition_at r) in
    let a : List ℕ = take 6 (drop 2 l) in
    sym (key-matches s h l k
    ∙ unresolved (eqb (get_or l 1 0) 1) (resolvable a) (eqb (length key) key_size)
    (eqb (hash_of a) (ah (key_of key) (prand_of a))) p)

-- what was found for an alike row
pub key-alike : (s l : List ℕ) (j h : ℕ) {x : Bool} → Alike s j h → KeyAt s h
    → (KeyAt s j → x ≡ meets_condition (monitor_in (row monitor_size j (drop monitors_at s))).1 (packet_of l))
    → x ≡ meets_condition (monitor_in (row monitor_size h (drop monitors_at s))).1 (packet_of l)
unfolding monitor_in monitor_from
key-alike s l j h a k f =
    f (sym (row_field s j 5 (omega arith)) ∙ a.kinds ∙ row_field s h 5 (omega arith) ∙ k)
    ∙ alike-matches s j h (packet_of l) a
