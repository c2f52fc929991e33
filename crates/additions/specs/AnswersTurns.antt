-- What the giving of an addition answers and leaves, branch by branch, and the turns of the loop over a text's
-- characters. Assumes nothing.
use Rattle.std.specs.Prelude.{ℕ, zero, suc, ◌+◌, ◌-◌, ◌*◌, ◌≤◌, ◌<◌, min, Bool, ◌&&◌, List, [], ◌∷◌, ◌++◌, ltb, is_err, Result, Ok, Err}
use Rattle.std.proofs.Math.Path.{◌≡◌, refl, sym, ap}
use Rattle.std.proofs.Common.{◌∙◌, add-one, arith, drop-cons}
use Rattle.std.proofs.Math.Bool.{true, false}
use borrow.Author.Tests.{le-leb, lt-leb, eq-eqb, ne_eqb, eqb-true, leb-true, leb-false, ltb-true}
use Rattle.std.proofs.Math.Dec.{leb, eqb}
use lib.ListN.{length, take, drop, get_or, set, length-drop}
use Rattle.laws.specs.Tests.{pick}
use Rattle.laws.specs.TestsLaws.{pick_true, pick-false, and_left, and_right, and-not-left, and-not-right, cases-le}
use Rattle.laws.specs.Loops.{every}
use Rattle.laws.specs.LoopsLaws.{every-at}
use Rattle.laws.specs.Put.{put}
use Rattle.laws.specs.PutLaws.{take_put}
use Rattle.octets.specs.Little.{little, is_octet}
use Rattle.octets.specs.Numbers.{number_at}
use Rattle.octets.specs.NumbersLaws.{number-of}
use Rattle.lines.specs.Hex.{lf, is_text, octets_in}
use Rattle.lines.specs.TextsLaws.{octets-in-octets}
use Rattle.reader.specs.Pairs.{leading}
use Rattle.reader.specs.PairsLaws.{leading-room}
use Rattle.reader.specs.Answers.{take_text}
use Rattle.reader.specs.AnswersLaws.{take-read}
use Rattle.refusals.specs.declared.Refusal.{Refusal}
use Rattle.refusals.specs.declared.Refusal.TheVariants.{NotLine}
use Rattle.refusals.specs.Numbers.{number}
use Rattle.sessions.specs.Machine.{Outcome, refused, done}
use Rattle.sessions.specs.Session.{state_after}
use Rattle.editions.specs.Editions.{Edition, edition_in}
use Rattle.wholes.specs.Engine.{add_whole}
use Rattle.engine.specs.Tries.{tried_of}
use Rattle.engine.specs.CallsLaws.{number-case}
use Rattle.additions.specs.declared.Course.{Course}
use Rattle.additions.specs.Additions.{prefix_at, most_octets, line_most, is_addition, add_octets, add_line, next}
use Rattle.additions.specs.Pieces.{Standing, course_after, given, held_in, placed, ended, longer, stepped, fed}

-- an answer and the block that it leaves, by the outcome
abbrev pub Gives : List ℕ → Outcome (List ℕ) → Result Unit Refusal → List ℕ → Type 0
Gives s o r t = (r ≡ tried_of o) × (t ≡ state_after s o)

not_line : (s : List ℕ) (o : Outcome (List ℕ)) → o ≡ refused 4 → Gives s o (Err NotLine) s
unfolding tried_of state_after number
not_line s o q = (sym (ap tried_of q ∙ ap Err (number-case NotLine)), sym (ap (state_after s) q))

-- the form of the octets

module _ (r : List ℕ) where
  pub form-short : length r < prefix_at → false ≡ is_addition r
  unfolding is_addition
  form-short h =
      sym (and-not-left (leb prefix_at (length r)) (eqb (get_or r 0 0) 0xA4 && eqb (length r) (prefix_at + get_or r 5 0))
      (lt-leb prefix_at (length r) h))

  pub form-other : (get_or r 0 0 ≡ 0xA4 → ⊥) → false ≡ is_addition r
  unfolding is_addition
  form-other n =
      sym (and-not-right (leb prefix_at (length r)) (eqb (get_or r 0 0) 0xA4 && eqb (length r) (prefix_at + get_or r 5 0))
      (and-not-left (eqb (get_or r 0 0) 0xA4) (eqb (length r) (prefix_at + get_or r 5 0)) (ne_eqb (get_or r 0 0) 0xA4 n)))

  pub form-whole : (w : ℕ) → prefix_at ≤ length r → get_or r 0 0 ≡ 0xA4 → w ≡ get_or r 5 0
      → eqb (length r) (prefix_at + w) ≡ is_addition r
  unfolding is_addition
  form-whole w h n e = rw (le-leb prefix_at (length r) h, eq-eqb (get_or r 0 0) 0xA4 n, e) refl

  -- what it says of the octets
  form-name : is_addition r ≡ true → (prefix_at ≤ length r) × (length r ≡ prefix_at + get_or r 5 0)
  unfolding is_addition
  form-name e =
      let a = and_left (leb prefix_at (length r)) (eqb (get_or r 0 0) 0xA4 && eqb (length r) (prefix_at + get_or r 5 0)) e in
      let b = and_right (leb prefix_at (length r))
      (eqb (get_or r 0 0) 0xA4 && eqb (length r) (prefix_at + get_or r 5 0)) e in (
        leb-true prefix_at (length r) a,
        eqb-true (length r) (prefix_at + get_or r 5 0)
            (and_right (eqb (get_or r 0 0) 0xA4) (eqb (length r) (prefix_at + get_or r 5 0)) b),
      )

  pub form-long : is_addition r ≡ true → prefix_at ≤ length r
  form-long e = (form-name e).0

-- more octets than the length octet can say are none
pub form-over : (r : List ℕ) → every is_octet r ≡ true → most_octets < length r → is_addition r ≡ false
form-over r o h = go (is_addition r) refl
  where
    go : (b : Bool) → is_addition r ≡ b → is_addition r ≡ false
    go true e =
        let n = form-name r e in
        let b : get_or r 5 0 < 256 = ltb-true (get_or r 5 0) 256 (every-at is_octet r 5 0 o (omega arith)) in
        absurd (omega (arith, n.1))
    go false e = e

-- the edition in them, as its number and the octets behind the length octet
edition-of : (r : List ℕ) → is_addition r ≡ true
    → edition_in (drop 1 r) ≡ record { from = little 4 r 1; prefix = take (length r - prefix_at) (drop prefix_at r) }
unfolding edition_in little
edition-of [] e = let n = form-name [] e in absurd (omega (arith, n.0))
edition-of (a ∷ r) e =
    let n = form-name (a ∷ r) e in
    let k : get_or r 4 0 ≡ length (a ∷ r) - prefix_at = omega (arith, n.1) in
    rw k refl

-- octets that have not the form, and those that have

pub octets-other : (s r : List ℕ) → is_addition r ≡ false → Gives s (add_octets s r) (Err NotLine) s
unfolding add_octets
octets-other s r e = not_line s (add_octets s r) (pick-false (add_whole s (edition_in (drop 1 r))) (refused 4) e)

pub octets-added : (s r : List ℕ) (v : ℕ) (x : Result Unit Refusal) (t : List ℕ) → is_addition r ≡ true → v ≡ number_at 4 r 1
    → Gives s (add_whole s (record { from = v; prefix = take (length r - prefix_at) (drop prefix_at r) })) x t
    → Gives s (add_octets s r) x t
unfolding add_octets
octets-added s r v x t e n g =
    let l = form-long r e in
    let k : v ≡ little 4 r 1 = number-of 4 r 1 n (omega arith) in
    let q : add_octets s r ≡ add_whole s (record { from = v; prefix = take (length r - prefix_at) (drop prefix_at r) }) =
    pick_true (add_whole s (edition_in (drop 1 r))) (refused 4) e
    ∙ ap (add_whole s)
    (edition-of r e ∙ ap (λ (i : ℕ). record { from = i; prefix = take (length r - prefix_at) (drop prefix_at r) })
    (sym k)) in
    (g.0 ∙ sym (ap tried_of q), g.1 ∙ sym (ap (state_after s) q))

-- a line that was read, and one that was not

module _ (s l : List ℕ) (got : Result ℕ Refusal) (q : got ≡ take_text l most_octets) where
  pub line-fits : (n : ℕ) → got ≡ Ok n → n ≤ most_octets
  line-fits n e =
      let w = take-read l most_octets n (sym q ∙ e) in
      omega (arith, w.2, ap length w.1, leading-room l 0 most_octets)

  pub line-given : (n : ℕ) (buf buf' : List ℕ) (x : Result Unit Refusal) (t : List ℕ) → got ≡ Ok n
      → buf' ≡ put buf 0 (leading l 0 most_octets)
      → Gives s (add_octets s (take n buf')) x t → Gives s (add_line s l) x t
  unfolding add_line
  line-given n buf buf' x t e p g =
      let w = take-read l most_octets n (sym q ∙ e) in
      let k : take n buf' ≡ octets_in l =
      ap (take n) (p ∙ ap (put buf 0) w.1) ∙ ap (λ (i : ℕ). take i (put buf 0 (octets_in l))) w.2
      ∙ take_put buf 0 (octets_in l) (omega arith) in
      let o : add_line s l ≡ add_octets s (take n buf') =
      pick_true (add_octets s (octets_in l)) (refused 4) w.0 ∙ ap (add_octets s) (sym k) in
      (g.0 ∙ sym (ap tried_of o), g.1 ∙ sym (ap (state_after s) o))

  pub line-none : (x : Refusal) → got ≡ Err x → Gives s (add_line s l) (Err NotLine) s
  unfolding take_text add_line add_octets
  line-none x e = not_line s (add_line s l) (go (is_text l) (leb (length (octets_in l)) most_octets) refl refl)
    where
      go : (a b : Bool) → is_text l ≡ a → leb (length (octets_in l)) most_octets ≡ b → add_line s l ≡ refused 4
      go true true f h =
          let d : ◌≡◌ {A = Result ℕ Refusal} (Ok (length (octets_in l))) (Err x) =
          sym (pick_true (Ok (length (octets_in l))) (Err NotLine) (rw (f, h))) ∙ sym q ∙ e in
          let z : ◌≡◌ {A = ℕ} 0 1 = cc in
          absurd (omega arith)
      go true false f h =
          let m : most_octets < length (octets_in l) = leb-false (length (octets_in l)) most_octets h in
          pick_true (add_octets s (octets_in l)) (refused 4) f
          ∙ pick-false (add_whole s (edition_in (drop 1 (octets_in l)))) (refused 4)
          (form-over (octets_in l) (octets-in-octets l) (omega arith))
      go false b f h = pick-false (add_octets s (octets_in l)) (refused 4) f

-- a character

module _ (s line : List ℕ) (a : Course) (c : ℕ) where
  abbrev now : Standing
  now = record { state = s; line = line; course = a }

  pub step-stopped : is_err a.stop ≡ true → now ≡ stepped now c
  unfolding stepped
  step-stopped e = sym (pick_true now (pick (eqb c lf) (ended now c) (longer now c)) e)

  module _ (goes : is_err a.stop ≡ false) (h : ℕ) (is : h ≡ min a.held line_most) where
    pub step-ended : c ≡ lf → (x : Result Unit Refusal) (t : List ℕ) (r : Course)
        → Gives s (add_line s (take (h + 1) (set line h c))) x t
        → r ≡ course_after a.lines x → record { state = t; line = set line h c; course = r } ≡ stepped now c
    unfolding stepped ended given placed held_in
    step-ended l x t r g q =
        rw (q, g.0, g.1, is)
        (sym (pick-false now (pick (eqb c lf) (ended now c) (longer now c)) goes
        ∙ pick_true (ended now c) (longer now c) (eq-eqb c lf l)))

    pub step-longer : (c ≡ lf → ⊥) → (k : ℕ) → k ≡ min (h + 1) line_most
        → record { state = s; line = set line h c; course = record { held = k; lines = a.lines; stop = a.stop } }
        ≡ stepped now c
    unfolding stepped longer placed held_in
    step-longer l k q =
        rw (q, is)
        (sym (pick-false now (pick (eqb c lf) (ended now c) (longer now c)) goes
        ∙ pick-false (ended now c) (longer now c) (ne_eqb c lf l)))

-- one more of a text
pub fed-more : (g h : Standing) (t : List ℕ) (i : ℕ) → i < length t → h ≡ stepped g (get_or t i 0)
    → fed g (drop i t) ≡ fed h (drop (i + 1) t)
unfolding fed
fed-more g h t i b e = rw (add-one, drop-cons t i 0, e) refl

-- its end
pub fed-end : (g : Standing) (t : List ℕ) (i : ℕ) → length t ≤ i → fed g (drop i t) ≡ g
unfolding fed
fed-end g t i b = rw (lib.ListN.drop_of_length-le t {i = i} b) refl
