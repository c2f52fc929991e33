-- Laws of the definitions in Heard.
use Rattle.std.specs.Prelude.{◌≡◌, ℕ, ◌+◌, ◌-◌, ◌/◌, ◌%◌, ◌<◌, Bool, true, false, List, length, take, drop, ◌≢◌, slice_index, slice_index_or, slice_range, refl}
use Rattle.std.proofs.Math.Path.{sym, ap, ap₂}
use Rattle.std.proofs.Common.{◌∙◌, arith, length-drop, length-take-le, take_all}
use borrow.Author.Tests.{eq-eqb, ne_eqb}
use Rattle.laws.specs.Tests.{pick, sames}
use Rattle.laws.specs.TestsLaws.{and-not-left, and-not-right}
use Rattle.advert.specs.Condition.{meets}
use Rattle.model.specs.Types.{Packet, device, device_of}
use Rattle.model.specs.Frames.{packet_of}
use Rattle.model.specs.Monitors.{admits, has_bit, extra_of, irk, options, peer, peer_type, is_second, matches, meets_condition, missing, monitor_of, parameters, parameters_of, type_in}
use Rattle.model.specs.Commands.{sub_of}
use Rattle.model.specs.Layout.{extra_size, first_type_in, second_type_in}
use Rattle.statuses.specs.Statuses.{type_by}
use Rattle.statuses.specs.SecondLaws.{type-said}
use Rattle.resolve.specs.Resolve.{resolves_by}
use Rattle.advert.specs.IrkLaws.{irk-public, irk-random}
use Rattle.marks.specs.Options.{key_meets, peer_meets}
use Rattle.marks.proofs.OptionsLaws.{bit-off, bit-on, odd-off, odd-on}
use Rattle.marks.specs.Fields.{Framed, scan_at}
use Rattle.marks.proofs.FieldsLaws.{scan-is}
use Rattle.twin.specs.Heard.{Adds}

pub type-is : (l : List ℕ) (at : ℕ) → at ≡ type_by (slice_index l 0) → at ≡ type_in l
unfolding sub_of
type-is l at e = e ∙ type-said l refl

pub type-in : (l : List ℕ) (at : ℕ) → Adds l → at ≡ type_by (slice_index l 0) → at < length l
type-in l at a e = let k : at ≡ type_in l = type-is l at e in let h : type_in l < length l = a.long in omega arith

-- the condition met
pub condition-asked : (l p : List ℕ) (at scan : ℕ) {cond adr adv text : List ℕ} {found : Bool}
    → at ≡ type_by (slice_index l 0) → Framed p → scan ≡ scan_at p
    → cond ≡ take (length l - (at + 1)) (drop (at + 1) l) → adr ≡ take 6 (drop 2 p)
    → adv ≡ take (slice_index p 8) (drop 9 p)
    → text ≡ take (length p - 1 - scan) (drop scan p) → found ≡ meets (slice_index l at) cond (slice_index p 1) adr adv text
    → found ≡ meets_condition (monitor_of l) (packet_of p)
unfolding meets_condition monitor_of packet_of
condition-asked l p at scan e fr s c a d x f =
    let k : at ≡ type_in l = type-is l at e in
    let n : length (drop (at + 1) l) ≡ length l - (at + 1) = length-drop (at + 1) l in
    let y : take (length l - (at + 1)) (drop (at + 1) l) ≡ drop (at + 1) l =
    take_all (length l - (at + 1)) (drop (at + 1) l) (omega arith) in
    let z = scan-is p fr.2 in
    f ∙ rw (c, y, a, d, x, s, z, k)

-- the added parameters of version 2: the peer, its key, and whether they admit a device
module _ (a l : List ℕ) where
  pub peer-off : (slice_index a 0 % 2 ≢ 1) → false ≡ peer_meets a (packet_of l)
  unfolding peer_meets options
  peer-off n = sym (and-not-left _ _ (odd-off (slice_index a 0) n))

  pub peer-other : (slice_index a 8 ≢ slice_index l 1) → false ≡ peer_meets a (packet_of l)
  unfolding peer_meets peer device device_of packet_of sames peer_type
  peer-other n = sym (and-not-right (has_bit 1 (options a)) _ (and-not-left _ _ (ne_eqb (slice_index a 8) (slice_index l 1) n)))

  pub peer-asked : {x y : List ℕ} {r : Bool} → slice_index a 0 % 2 ≡ 1 → slice_index a 8 ≡ slice_index l 1 → x ≡ take 6 (drop 2 a)
      → y ≡ take 6 (drop 2 l) → r ≡ sames x y
      → r ≡ peer_meets a (packet_of l)
  unfolding peer_meets peer device device_of packet_of sames peer_type options
  peer-asked o t ex ey e = e ∙ ap₂ sames ex ey ∙ sym (rw (odd-on (slice_index a 0) o, eq-eqb (slice_index a 8) (slice_index l 1) t))

  pub key-off : (slice_index a 0 / 2 % 2 ≢ 1) → false ≡ key_meets a (packet_of l)
  unfolding key_meets options
  key-off n = sym (and-not-left _ _ (bit-off 2 (slice_index a 0) n))

  pub key-public : (slice_index l 1 ≢ 1) → false ≡ key_meets a (packet_of l)
  unfolding key_meets packet_of
  key-public n = sym (and-not-right (has_bit 2 (options a)) _
      (sym (irk-public (irk a) (slice_index l 1) (take 6 (drop 2 l)) n)))

  pub key-asked : {x y : List ℕ} {r : Bool} → slice_index a 0 / 2 % 2 ≡ 1 → slice_index l 1 ≡ 1 → x ≡ take 16 (drop 9 a)
      → y ≡ take 6 (drop 2 l) → r ≡ resolves_by x y
      → r ≡ key_meets a (packet_of l)
  unfolding key_meets irk packet_of options
  key-asked o t ex ey e =
      irk-random (irk a) (slice_index l 1) (take 6 (drop 2 l)) t (e ∙ ap₂ resolves_by ex ey)
      ∙ sym (rw (bit-on 2 (slice_index a 0) o))

  pub admits-any : slice_index_or a 0 0 / 32 % 2 ≡ 1 → true ≡ admits a (packet_of l)
  unfolding admits options
  admits-any e = sym (rw (bit-on 32 (slice_index a 0) e))

  pub admits-peer : {r : Bool} → (slice_index a 0 / 32 % 2 ≢ 1) → r ≡ peer_meets a (packet_of l) → r ≡ true
      → true ≡ admits a (packet_of l)
  unfolding admits options peer_meets
  admits-peer n e z = sym (rw (bit-off 32 (slice_index a 0) n, sym e ∙ z))

  pub admits-key : {r k : Bool} → (slice_index a 0 / 32 % 2 ≢ 1) → r ≡ peer_meets a (packet_of l) → r ≡ false
      → k ≡ key_meets a (packet_of l) → k ≡ admits a (packet_of l)
  unfolding admits options peer_meets key_meets
  admits-key n e z f = f ∙ sym (rw (bit-off 32 (slice_index a 0) n, sym e ∙ z))

missing-admits : (p : Packet) → admits missing p ≡ true
unfolding admits missing options has_bit
missing-admits p = refl

pub params-first : (l : List ℕ) → is_second l ≡ false → parameters (monitor_of l) ≡ missing
unfolding parameters parameters_of monitor_of extra_of pick
params-first l e = rw e

pub params-second : (l : List ℕ) → is_second l ≡ true → parameters (monitor_of l) ≡ take extra_size (drop first_type_in l)
unfolding parameters parameters_of monitor_of extra_of pick
params-second l e = rw e

type-picked : (l : List ℕ) (b : Bool) → is_second l ≡ b → type_in l ≡ pick b second_type_in first_type_in
unfolding type_in
type-picked l b e = rw e

pub first-is : (l : List ℕ) (at : ℕ) → at ≡ type_by (slice_index l 0) → at ≡ 5 → is_second l ≡ false
unfolding pick
first-is l at e z = go (is_second l) refl
  where
    go : (b : Bool) → is_second l ≡ b → b ≡ false
    go false q = refl
    go true q = let k : at ≡ type_in l = type-is l at e in let m : type_in l ≡ 30 =
        type-picked l true q in absurd (omega arith)

pub second_is : (l : List ℕ) (at : ℕ) → at ≡ type_by (slice_index l 0) → (at ≢ 5) → (is_second l ≡ true) × (at ≡ 30)
unfolding pick
second_is l at e z = go (is_second l) refl
  where
    go : (b : Bool) → is_second l ≡ b → (is_second l ≡ true) × (at ≡ 30)
    go true q = (q, type-is l at e ∙ type-picked l true q)
    go false q = absurd (z (type-is l at e ∙ type-picked l false q))

-- a monitor by its condition and its options
module _ (l p : List ℕ) where
  pub match_none : {r : Bool} → r ≡ meets_condition (monitor_of l) (packet_of p) → r ≡ false
      → false ≡ matches (monitor_of l) (packet_of p)
  unfolding matches
  match_none e z = sym (and-not-left _ _ (sym e ∙ z))

  pub match-first : {r : Bool} (at : ℕ) → at ≡ type_by (slice_index l 0) → at ≡ 5
      → r ≡ meets_condition (monitor_of l) (packet_of p) → r ≡ true
      → true ≡ matches (monitor_of l) (packet_of p)
  unfolding matches
  match-first at e z f q = sym (rw (sym f ∙ q, params-first l (first-is l at e z)) (missing-admits (packet_of p)))

  pub match-second : {r k : Bool} {x : List ℕ} (at : ℕ) → at ≡ type_by (slice_index l 0) → (at ≢ 5)
      → r ≡ meets_condition (monitor_of l) (packet_of p) → r ≡ true
      → x ≡ slice_range l 5 at → k ≡ admits x (packet_of p) → k ≡ matches (monitor_of l) (packet_of p)
  unfolding matches
  match-second at e z f q ex g =
      let s = second_is l at e z in
      let n : at - 5 ≡ 25 = omega (arith, s.1) in
      let y = ex ∙ ap (λ (j : ℕ). take j (drop 5 l)) n in
      g ∙ sym (rw (sym f ∙ q, params-second l s.0, y))

-- the added parameters as the code takes them
pub extra-length : (l : List ℕ) (at : ℕ) → Adds l → at ≡ type_by (slice_index l 0) → (at ≢ 5)
    → length (slice_range l 5 at) ≡ extra_size
extra-length l at a e z =
    let s : at ≡ 30 = (second_is l at e z).1 in
    let k : at < length l = type-in l at a e in
    let d : length (drop 5 l) ≡ length l - 5 = length-drop 5 l in
    let n : length (slice_range l 5 at) ≡ at - 5 = length-take-le (at - 5) (drop 5 l) (omega arith) in
    omega arith
