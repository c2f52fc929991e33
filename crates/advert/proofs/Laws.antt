-- Laws of conditions for those who keep them and ask them: which types there are, how long well-formed conditions
-- are, what a match says (document 01, Conditions). Assumes nothing.
use Rattle.std.specs.Prelude.{◌≡◌, ℕ, zero, suc, ◌+◌, ◌*◌, ◌<◌, ◌≤◌, Bool, true, false, ◌&&◌, ◌⊎◌, List, [], ◌∷◌, length, take, ◌==◌, ◌≢◌, nat_le, slice_index, refl}
use Rattle.std.proofs.Common.{sym, ◌∙◌, inl, inr, ⊎_elim, arith, ne_eqb, le-leb, leb-true, eqb-true, length-take-le}
use Rattle.std.proofs.lemmas.Bool.{false≢true, lt-leb}
use Rattle.laws.specs.Loops.{when}
use Rattle.laws.specs.Tests.{pick, sames}
use Rattle.laws.specs.TestsLaws.{sames-eq, sames-refl, and_left, and_right, cases-le, cases_eq}
use Rattle.std.specs.Prelude.{Result, Ok, Err}
use Rattle.advert.specs.declared.FormError.{FormError}
use Rattle.advert.specs.declared.FormError.TheVariants.{Malformed, Unknown}
use Rattle.advert.specs.Parts.{parts_from, parts}
use Rattle.advert.specs.Pattern.{patterns, patterns_form, patterns_meet, fills, extent}
use Rattle.advert.specs.Uuid.{uuid_form, uuid_meets}
use Rattle.advert.proofs.UuidLaws.{uuid-cases, uuid-bounds, uuid-bad}
use Rattle.advert.specs.Address.{address_form, address_meets}
use Rattle.advert.proofs.AddressLaws.{address-bounds}
use Rattle.advert.specs.Irk.{irk_form, irk_meets}
use Rattle.advert.specs.IrkLaws.{irk-bounds}
use Rattle.advert.specs.Condition.{well_formed, meets, form_of, form_status}

-- the types of conditions
abbrev pub Built : ℕ → Type 0
Built kind = (kind ≡ 1) ⊎ ((kind ≡ 2) ⊎ ((kind ≡ 3) ⊎ (kind ≡ 4)))

-- one of five by the type, as a test: true says that the type is one of them
kind-of : (kind : ℕ) (a b c d : Bool)
    → pick (kind == 1) a (pick (kind == 2) b (pick (kind == 3) c (pick (kind == 4) d false))) ≡ true
    → Built kind
unfolding pick
kind-of kind a b c d e =
    cases_eq kind 1 (λ z. inl z)
    (λ n1. cases_eq kind 2 (λ z. inr (inl z))
    (λ n2. cases_eq kind 3 (λ z. inr (inr (inl z)))
    (λ n3. cases_eq kind 4 (λ z. inr (inr (inr z)))
    (λ n4. absurd (false≢true (rw (ne_eqb kind 1 n1, ne_eqb kind 2 n2, ne_eqb kind 3 n3, ne_eqb kind 4 n4) at e))))))

-- only a condition of one of these types is well formed or matches
pub well-kind : (kind : ℕ) (condition : List ℕ) → well_formed kind condition ≡ true → Built kind
unfolding well_formed
well-kind kind condition e =
    kind-of kind (patterns_form condition) (uuid_form condition) (irk_form condition) (address_form condition) e

pub meets-kind : (kind : ℕ) (condition : List ℕ) (t : ℕ) (address adv scan : List ℕ)
    → meets kind condition t address adv scan ≡ true → Built kind
unfolding meets
meets-kind kind condition t address adv scan e =
    kind-of kind (patterns_meet condition adv scan) (uuid_meets condition adv scan) (irk_meets condition t address)
    (address_meets condition t address) e

-- the form and the match of each type
pub well-pattern : (condition : List ℕ) → well_formed 1 condition ≡ patterns_form condition
unfolding well_formed pick
well-pattern condition = refl

pub well-uuid : (condition : List ℕ) → well_formed 2 condition ≡ uuid_form condition
unfolding well_formed pick
well-uuid condition = refl

pub well-irk : (condition : List ℕ) → well_formed 3 condition ≡ irk_form condition
unfolding well_formed pick
well-irk condition = refl

pub well-address : (condition : List ℕ) → well_formed 4 condition ≡ address_form condition
unfolding well_formed pick
well-address condition = refl

pub meets-pattern : (condition : List ℕ) (t : ℕ) (address adv scan : List ℕ)
    → meets 1 condition t address adv scan ≡ patterns_meet condition adv scan
unfolding meets pick
meets-pattern condition t address adv scan = refl

pub meets-uuid : (condition : List ℕ) (t : ℕ) (address adv scan : List ℕ)
    → meets 2 condition t address adv scan ≡ uuid_meets condition adv scan
unfolding meets pick
meets-uuid condition t address adv scan = refl

pub meets-address : (condition : List ℕ) (t : ℕ) (address adv scan : List ℕ)
    → meets 4 condition t address adv scan ≡ sames condition (t ∷ address)
unfolding meets pick address_meets
meets-address condition t address adv scan = refl

-- a match of type 4 says that the condition is the packet's address type and address, and the other way round
pub address_is : (condition : List ℕ) (t : ℕ) (address adv scan : List ℕ) → meets 4 condition t address adv scan ≡ true
    → condition ≡ t ∷ address
address_is condition t address adv scan e =
    sames-eq condition (t ∷ address) (sym (meets-address condition t address adv scan) ∙ e)

pub address_same : (t : ℕ) (address adv scan : List ℕ) → meets 4 (t ∷ address) t address adv scan ≡ true
address_same t address adv scan = meets-address (t ∷ address) t address adv scan ∙ sames-refl (t ∷ address)

-- only a well-formed UUID condition matches
pub uuid-well : (condition : List ℕ) (t : ℕ) (address adv scan : List ℕ) → meets 2 condition t address adv scan ≡ true
    → well_formed 2 condition ≡ true
uuid-well condition t address adv scan e = go (uuid_form condition) refl
  where
    go : (b : Bool) → uuid_form condition ≡ b → well_formed 2 condition ≡ true
    go true f = well-uuid condition ∙ f
    go false f = absurd (false≢true
        (uuid-bad condition adv scan f ∙ sym (meets-uuid condition t address adv scan) ∙ e))

-- how long well-formed conditions are
pub uuid-length : (condition : List ℕ) → well_formed 2 condition ≡ true
    → (length condition ≡ 3) ⊎ ((length condition ≡ 5) ⊎ (length condition ≡ 17))
uuid-length condition e =
    ⊎_elim (λ a. inl a.1) (λ b. inr (⊎_elim (λ a. inl a.1) (λ a. inr a.1) b))
    (uuid-cases condition (sym (well-uuid condition) ∙ e))

pub address-length : (condition : List ℕ) → well_formed 4 condition ≡ true → length condition ≡ 7
address-length condition e = (address-bounds condition (sym (well-address condition) ∙ e)).0

-- a part takes four octets or more
pub extent-parts : (xs : List ℕ) (k : ℕ) → 4 * length (parts_from 3 xs k) ≤ extent (parts_from 3 xs k)
unfolding parts_from extent when
extent-parts [] k = omega arith
extent-parts (x ∷ xs) (suc k) = extent-parts xs k
extent-parts (x ∷ xs) zero =
    cases-le 3 x
    (λ a. cases-le x (length xs)
    (λ b. let n : length (take x xs) ≡ x = length-take-le x xs b in
    rw (le-leb 3 x a, le-leb x (length xs) b) (omega (arith, extent-parts xs x)))
    (λ b. rw (le-leb 3 x a, lt-leb x (length xs) b) (omega arith)))
    (λ a. rw (lt-leb 3 x a) (omega arith))

-- a well-formed pattern condition has as many patterns as it counts, one at least, and four octets or more for each
pub pattern-count : (condition : List ℕ) → well_formed 1 condition ≡ true
    → (length (patterns condition) ≡ slice_index condition 0) × (1 ≤ length (patterns condition))
    × (4 * length (patterns condition) + 1 ≤ length condition)
unfolding well_formed pick patterns_form fills patterns parts
pattern-count [] e = absurd (false≢true e)
pattern-count (n ∷ rest) e =
    let ps = parts_from 3 rest 0 in
    let f : (n == length ps && length rest == extent ps) ≡ true =
    and_right (nat_le 1 n) (n == length ps && length rest == extent ps) e in
    let a : n ≡ length ps = eqb-true n (length ps) (and_left (n == length ps) (length rest == extent ps) f) in
    let b : length rest ≡ extent ps =
    eqb-true (length rest) (extent ps) (and_right (n == length ps) (length rest == extent ps) f) in
    let o : 1 ≤ n = leb-true 1 n (and_left (nat_le 1 n) (n == length ps && length rest == extent ps) e) in
    (sym a, omega arith, omega (arith, extent-parts rest 0))

-- a well-formed condition has three octets or more, and only one of type 1 has more than 17
pub well-length : (kind : ℕ) (condition : List ℕ) → well_formed kind condition ≡ true → 3 ≤ length condition
well-length kind condition e =
    ⊎_elim (λ z. omega (arith, pattern-count condition (rw z at e)))
    (⊎_elim (λ z. omega (arith, uuid-bounds condition (sym (well-uuid condition) ∙ rw z at e)))
    (⊎_elim (λ z. omega (arith, irk-bounds condition (sym (well-irk condition) ∙ rw z at e)))
    (λ z. omega (arith, address-length condition (rw z at e)))))
    (well-kind kind condition e)

pub well-short : (kind : ℕ) (condition : List ℕ) → well_formed kind condition ≡ true → (kind ≢ 1)
    → length condition ≤ 17
well-short kind condition e n =
    ⊎_elim (λ z. absurd (n z))
    (⊎_elim (λ z. omega (arith, uuid-bounds condition (sym (well-uuid condition) ∙ rw z at e)))
    (⊎_elim (λ z. omega (arith, irk-bounds condition (sym (well-irk condition) ∙ rw z at e)))
    (λ z. omega (arith, address-length condition (rw z at e)))))
    (well-kind kind condition e)

-- the answer on the form says whether the condition is well formed
pub form-good : (kind : ℕ) (condition : List ℕ) → form_of kind condition ≡ Ok tt → well_formed kind condition ≡ true
unfolding form_of pick
form-good kind condition e = go (nat_le 1 kind && nat_le kind 4) (well_formed kind condition) e
  where
    go : (b w : Bool)
        → ◌≡◌ {A = Result Unit FormError} (pick b (pick w (Ok tt) (Err Malformed)) (Err Unknown)) (Ok tt) → w ≡ true
    go false w e = let z : ◌≡◌ {A = ℕ} 0 1 = cc in absurd (omega arith)
    go true false e = let z : ◌≡◌ {A = ℕ} 0 1 = cc in absurd (omega arith)
    go true true e = refl

pub good-form : (kind : ℕ) (condition : List ℕ) → well_formed kind condition ≡ true → form_of kind condition ≡ Ok tt
unfolding form_of pick
good-form kind condition e =
    let b : (1 ≤ kind) × (kind ≤ 4) =
    ⊎_elim (λ z. (omega arith, omega arith)) (⊎_elim (λ z. (omega arith, omega arith))
    (⊎_elim (λ z. (omega arith, omega arith)) (λ z. (omega arith, omega arith)))) (well-kind kind condition e) in
    rw (le-leb 1 kind b.0, le-leb kind 4 b.1, e)

-- the types go to 4
pub well-kind-most : (kind : ℕ) (condition : List ℕ) → well_formed kind condition ≡ true → kind ≤ 4
well-kind-most kind condition e =
    ⊎_elim (λ z. omega arith) (⊎_elim (λ z. omega arith) (⊎_elim (λ z. omega arith) (λ z. omega arith)))
    (well-kind kind condition e)

-- a status is an octet
pub status-below : (f : Result Unit FormError) → form_status f < 256
unfolding form_status
status-below (Ok tt) = omega arith
status-below (Err Malformed) = omega arith
status-below (Err Unknown) = omega arith

-- the status is 0 exactly for a well-formed condition
pub status-good : (kind : ℕ) (condition : List ℕ) → well_formed kind condition ≡ true
    → form_status (form_of kind condition) ≡ 0
unfolding form_status
status-good kind condition e = rw (good-form kind condition e)

pub status-zero : (kind : ℕ) (condition : List ℕ) → form_status (form_of kind condition) ≡ 0
    → well_formed kind condition ≡ true
unfolding form_status
status-zero kind condition e = form-good kind condition (go (form_of kind condition) e)
  where
    go : (f : Result Unit FormError) → form_status f ≡ 0 → f ≡ Ok tt
    go (Ok tt) e = refl
    go (Err Malformed) e = absurd (omega arith)
    go (Err Unknown) e = absurd (omega arith)
