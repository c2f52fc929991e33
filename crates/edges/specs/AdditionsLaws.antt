-- Laws of the definitions in Additions.
use Rattle.std.specs.Prelude.{ℕ, zero, suc, ◌≡◌, List, [], ◌∷◌, leb, take, drop}
use Rattle.std.proofs.Math.Path.{refl}
use Rattle.std.proofs.Common.{ap, ◌∙◌, leb-true}
use mathlib.Core.Bool.{Bool, true, ◌&&◌}
use Rattle.std.proofs.Math.Option.{Option, none, some}
use Rattle.laws.specs.TestsLaws.{and_left, and_right, and_both}
use Rattle.laws.specs.Loops.{every}
use Rattle.octets.specs.Little.{is_octet}
use Rattle.sessions.specs.Machine.{Outcome, refused, done, octets, answer_room, last_number}
use Rattle.sessions.specs.Session.{state_after}
use Rattle.model.specs.Rows.{Reply, reply_of, same, imaged}
use Rattle.model.specs.Sound.{sound_settings, octets_up_to}
use Rattle.editions.specs.Editions.{Edition, Gateway, sound_gateway, add_edition, image_on}
use Rattle.editions.specs.Engine.{Addition}
use Rattle.editions.specs.Rows.{Given, frame, add, Example, asks, additions, t12numbers, t12frames, t12between, t12limits, addition_rows}
use Rattle.editions.proofs.RowsLaws.{outcome, answered_by, reached_by, begun, holds, rows-hold}
use Rattle.wholes.specs.Whole.{whole, sound_whole}
use Rattle.wholes.proofs.LaidLaws.{sound-whole}
use Rattle.wholes.proofs.RestoresLaws.{engine-restores}
use Rattle.wholes.specs.Engine.{engine}
use Rattle.failover.proofs.LaidLaws.{onto}
use Rattle.failover.specs.Grows.{growing}
use Rattle.failover.proofs.Proved.{fresh-gateway}
use Rattle.failover.proofs.BlocksLaws.{answer-blocks, given-sound, add-blocks, after-blocks, encode-blocks, begin-blocks}
use Rattle.edges.specs.Additions.{outcome_in, answered_in, reached_in, rows_begin, holds_in}

-- the block that is restored from a block's image, and the replies of a row from there on, saved and restored after
-- its first i calls
unfoldable pub restored_to : Option (List ℕ) → List ℕ
restored_to none = []
restored_to (some s) = s

unfoldable pub goes_on_after : ℕ → Example → Bool
goes_on_after i r =
    answered_in (restored_to (engine.decode (engine.encode (reached_in rows_begin (take i r.given)))))
    (drop i r.given) (drop i r.replies)

-- an addition has a number of 4 octets, and octets
unfoldable pub fits_in : Given → Bool
fits_in (frame f) = true
fits_in (add n p) = leb n last_number && every is_octet p

reply-onto : (o : Outcome Gateway) → reply_of (onto whole o) ≡ reply_of o
unfolding reply_of onto
reply-onto (refused n) = refl
reply-onto (done m l) = refl

module _ (g : Gateway) (ok : sound_gateway g ≡ true) where
  outcome-blocks : (x : Given) → outcome_in (whole g) x ≡ onto whole (outcome g x)
  unfolding outcome_in outcome
  outcome-blocks (frame f) = answer-blocks g ok answer_room octets f
  outcome-blocks (add n p) = add-blocks g ok (record { from = n; prefix = p })

  left-blocks : (x : Given) → state_after (whole g) (outcome_in (whole g) x) ≡ whole (state_after g (outcome g x))
  left-blocks x = ap (state_after (whole g)) (outcome-blocks x) ∙ after-blocks g (outcome g x)

  outcome-sound : (x : Given) → fits_in x ≡ true → sound_gateway (state_after g (outcome g x)) ≡ true
  unfolding outcome fits_in state_after
  outcome-sound (frame f) h = given-sound g ok answer_room octets f
  outcome-sound (add n p) h = go (add_edition g e) refl
    where
      e : Edition
      e = record { from = n; prefix = p }

      a : Addition
      a =
          record {
            edition = e;
            fits = leb-true n last_number (and_left (leb n last_number) (every is_octet p) h);
            octets = and_right (leb n last_number) (every is_octet p) h;
          }

      go : (o : Outcome Gateway) → add_edition g e ≡ o → sound_gateway (state_after g o) ≡ true
      go (refused k) q = ok
      go (done t w) q = growing.keeps g t a w q ok

answered-blocks : (xs : List Given) (rs : List Reply) (g : Gateway) → sound_gateway g ≡ true → every fits_in xs ≡ true
    → answered_in (whole g) xs rs ≡ answered_by g xs rs
unfolding answered_in answered_by every
answered-blocks [] [] g ok h = refl
answered-blocks [] (r ∷ rs) g ok h = refl
answered-blocks (x ∷ xs) [] g ok h = refl
answered-blocks (x ∷ xs) (r ∷ rs) g ok h =
    ap (λ (y : Reply). same y r && answered_in (state_after (whole g) (outcome_in (whole g) x)) xs rs)
    (ap reply_of (outcome-blocks g ok x) ∙ reply-onto (outcome g x))
    ∙ ap (λ (s : List ℕ). same (reply_of (outcome g x)) r && answered_in s xs rs) (left-blocks g ok x)
    ∙ ap (λ (b : Bool). same (reply_of (outcome g x)) r && b)
    (answered-blocks xs rs (state_after g (outcome g x))
    (outcome-sound g ok x (and_left (fits_in x) (every fits_in xs) h)) (and_right (fits_in x) (every fits_in xs) h))

-- where a row's calls lead
record Leads (xs : List Given) (g : Gateway) : Type 0 where
  pub block : reached_in (whole g) xs ≡ whole (reached_by g xs)
  pub sound : sound_gateway (reached_by g xs) ≡ true

leads : (xs : List Given) (g : Gateway) → sound_gateway g ≡ true → every fits_in xs ≡ true → Leads xs g
unfolding reached_in reached_by every
leads [] g ok h = record { block = refl; sound = ok }
leads (x ∷ xs) g ok h =
    let l : Leads xs (state_after g (outcome g x)) =
    leads xs (state_after g (outcome g x)) (outcome-sound g ok x (and_left (fits_in x) (every fits_in xs) h))
    (and_right (fits_in x) (every fits_in xs) h) in
    record { block = ap (λ (s : List ℕ). reached_in s xs) (left-blocks g ok x) ∙ l.block; sound = l.sound }

in-range : sound_settings 0xFC1E (0x4D ∷ 0x53 ∷ []) ≡ true
unfolding sound_settings octets_up_to every
in-range = refl

begun-sound : sound_gateway begun ≡ true
unfolding begun
begun-sound = fresh-gateway 0xFC1E (0x4D ∷ 0x53 ∷ []) in-range

begun-blocks : rows_begin ≡ whole begun
unfolding begun
begun-blocks = begin-blocks 0xFC1E (0x4D ∷ 0x53 ∷ []) in-range

unfoldable pub fitting : Example → Bool
fitting r = every fits_in r.given

row-in : (r : Example) → fitting r ≡ true → holds r ≡ true → holds_in r ≡ true
unfolding holds holds_in fitting
row-in r f e =
    let l : Leads r.given begun = leads r.given begun begun-sound f in
    let a : Bool = answered_by begun r.given r.replies in
    let b : Bool = imaged r.image (image_on (reached_by begun r.given)) in
    ap (λ (s : List ℕ). answered_in s r.given r.replies
    && imaged r.image (engine.encode (reached_in s r.given))) begun-blocks
    ∙ ap (λ (t : List ℕ). answered_in (whole begun) r.given r.replies && imaged r.image t)
    (ap engine.encode l.block ∙ encode-blocks (reached_by begun r.given) l.sound)
    ∙ and_both (answered-blocks r.given r.replies begun begun-sound f ∙ and_left a b e) (and_right a b e)

-- calls in two parts
fits-take : (i : ℕ) (xs : List Given) → every fits_in xs ≡ true → every fits_in (take i xs) ≡ true
unfolding every
fits-take zero xs h = refl
fits-take (suc i) [] h = refl
fits-take (suc i) (x ∷ xs) h =
    and_both (and_left (fits_in x) (every fits_in xs) h) (fits-take i xs (and_right (fits_in x) (every fits_in xs) h))

answered-rest : (i : ℕ) (s : List ℕ) (xs : List Given) (rs : List Reply) → answered_in s xs rs ≡ true
    → answered_in (reached_in s (take i xs)) (drop i xs) (drop i rs) ≡ true
unfolding answered_in reached_in
answered-rest zero s xs rs e = e
answered-rest (suc i) s [] [] e = refl
answered-rest (suc i) s [] (r ∷ rs) e = absurd (mathlib.Core.Bool.false≢true e)
answered-rest (suc i) s (x ∷ xs) [] e = absurd (mathlib.Core.Bool.false≢true e)
answered-rest (suc i) s (x ∷ xs) (r ∷ rs) e =
    answered-rest i (state_after s (outcome_in s x)) xs rs
    (and_right (same (reply_of (outcome_in s x)) r) (answered_in (state_after s (outcome_in s x)) xs rs) e)

row-restored : (i : ℕ) (r : Example) → fitting r ≡ true → holds_in r ≡ true → goes_on_after i r ≡ true
unfolding holds_in fitting goes_on_after restored_to
row-restored i r f e =
    let l : Leads (take i r.given) begun = leads (take i r.given) begun begun-sound (fits-take i r.given f) in
    let s : List ℕ = reached_in rows_begin (take i r.given) in
    let w : s ≡ whole (reached_by begun (take i r.given)) =
    ap (λ (b : List ℕ). reached_in b (take i r.given)) begun-blocks ∙ l.block in
    let g : sound_whole s ≡ true = ap sound_whole w ∙ sound-whole (reached_by begun (take i r.given)) l.sound in
    ap (λ (o : Option (List ℕ)). answered_in (restored_to o) (drop i r.given) (drop i r.replies))
    (engine-restores s g)
    ∙ answered-rest i rows_begin r.given r.replies
    (and_left (answered_in rows_begin r.given r.replies)
    (imaged r.image (engine.encode (reached_in rows_begin r.given))) e)

all_fit : every fitting addition_rows ≡ true
unfolding every fitting fits_in addition_rows t12numbers t12frames t12between t12limits asks additions last_number
all_fit = refl

rows_in : (rs : List Example) → every fitting rs ≡ true → every holds rs ≡ true → every holds_in rs ≡ true
unfolding every
rows_in [] f e = refl
rows_in (r ∷ rs) f e =
    and_both (row-in r (and_left (fitting r) (every fitting rs) f) (and_left (holds r) (every holds rs) e))
    (rows_in rs (and_right (fitting r) (every fitting rs) f) (and_right (holds r) (every holds rs) e))

-- The rows hold of the engine over blocks,
pub engine-additions : every holds_in addition_rows ≡ true
engine-additions = rows_in addition_rows all_fit rows-hold

rows-restored : (i : ℕ) (rs : List Example) → every fitting rs ≡ true → every holds_in rs ≡ true
    → every (goes_on_after i) rs ≡ true
unfolding every
rows-restored i [] f e = refl
rows-restored i (r ∷ rs) f e =
    and_both (row-restored i r (and_left (fitting r) (every fitting rs) f) (and_left (holds_in r) (every holds_in rs) e))
    (rows-restored i rs (and_right (fitting r) (every fitting rs) f) (and_right (holds_in r) (every holds_in rs) e))

-- and go on as they do where the block is saved and restored after any number of their calls.
pub additions-restored : (i : ℕ) → every (goes_on_after i) addition_rows ≡ true
additions-restored i = rows-restored i addition_rows all_fit engine-additions
