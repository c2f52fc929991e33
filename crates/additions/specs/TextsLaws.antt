-- Additions read in pieces of any size are the additions of the whole text. Document 02, T-12. Assumes nothing.
use Rattle.std.specs.Prelude.{ℕ, zero, suc, ◌+◌, ◌*◌, ◌≤◌, ◌<◌, min, ◌≡◌, is_err, Bool, eqb, length, take, drop, set, Ok, Err}
use Rattle.std.proofs.Math.Path.{refl}
use Rattle.std.proofs.Common.{sym, ap, ◌∙◌, add-one, length-append, length-set}
use Rattle.std.proofs.Math.Bool.{true, false}
use mathlib.Core.List.{List, [], ◌∷◌, ◌++◌}
use Rattle.std.proofs.Math.Option.{Option, none, some}
use native.Mathlib.Omega.{arith}
use lib.Seq.{take_all, take-append-le, take-set-le, take-suc-set}
use Rattle.laws.specs.Tests.{pick}
use Rattle.laws.specs.TestsLaws.{pick_true, pick-false, cases-le}
use Rattle.lines.specs.Hex.{lf, is_text, octets_in}
use Rattle.lines.specs.TextsLaws.{octets-in-octets, length-is-text}
use Rattle.sessions.specs.Machine.{Outcome, refused, done}
use Rattle.sessions.specs.Session.{state_after}
use Rattle.sessions.specs.Saved.{cut_from, cut}
use Rattle.editions.specs.Editions.{edition_in}
use Rattle.wholes.specs.Engine.{add_whole}
use Rattle.engine.specs.Calls.{case_of}
use Rattle.engine.specs.Tries.{tried_of}
use Rattle.engine.specs.Replays.{stop_case}
use Rattle.additions.specs.declared.Course.{Course}
use Rattle.additions.specs.Additions.{most_octets, line_most, is_addition, add_octets, add_line, next, Added, go_on, add_lines, add_text}
use Rattle.additions.specs.Pieces.{Standing, begun, course_after, given, held_in, placed, ended, longer, stepped, fed}
use Rattle.additions.specs.AnswersTurns.{form-over, step-stopped}

-- a text read in two pieces is read as a whole
pub fed-pieces : (g : Standing) (a b : List ℕ) → fed g (a ++ b) ≡ fed (fed g a) b
unfolding fed
fed-pieces g [] b = refl
fed-pieces g (c ∷ a) b = fed-pieces (stepped g c) a b

-- after a refusal nothing is read
pub fed-stopped : (g : Standing) (t : List ℕ) → is_err g.course.stop ≡ true → fed g t ≡ g
unfolding fed
fed-stopped g [] e = refl
fed-stopped g (c ∷ t) e =
    ap (λ (h : Standing). fed h t) (sym (step-stopped g.state g.line g.course c e)) ∙ fed-stopped g t e

-- a line of more characters than an addition's has is none
line-over : (s l : List ℕ) → line_most < length l → add_line s l ≡ refused 4
unfolding add_line add_octets
line-over s l h = go (is_text l) refl
  where
    go : (b : Bool) → is_text l ≡ b → add_line s l ≡ refused 4
    go true e =
        let n : length l ≡ 2 * length (octets_in l) + 1 = length-is-text l e in
        pick_true (add_octets s (octets_in l)) (refused 4) e
        ∙ pick-false (add_whole s (edition_in (drop 1 (octets_in l)))) (refused 4)
        (form-over (octets_in l) (octets-in-octets l) (omega arith))
    go false e = pick-false (add_octets s (octets_in l)) (refused 4) e

-- so what is kept of a longer one answers as the whole does
line_kept : (s piece : List ℕ) (c : ℕ) → add_line s (take line_most piece ++ (c ∷ [])) ≡ add_line s (piece ++ (c ∷ []))
line_kept s piece c =
    cases-le (length piece) line_most (λ h. ap (λ (l : List ℕ). add_line s (l ++ (c ∷ []))) (take_all line_most piece h))
    (λ h. line-over s (take line_most piece ++ (c ∷ [])) (kept h)
    ∙ sym (line-over s (piece ++ (c ∷ [])) (simp length-append (omega arith))))
  where
    kept : line_most < length piece → line_most < length (take line_most piece ++ (c ∷ []))
    kept h =
        let n : length (take line_most piece) ≡ line_most = lib.Seq.length-take-le line_most piece (omega arith) in
        simp length-append (omega arith)

-- the room holds so many characters of what stands since the last LF
pub record Holds (line : List ℕ) (h : ℕ) (piece : List ℕ) : Type 0 where
  pub room : length line ≡ line_most + 1
  pub count : h ≡ min (length piece) line_most
  pub same : take h line ≡ take line_most piece

module _ (line : List ℕ) (h : ℕ) (piece : List ℕ) (r : Holds line h piece) (c : ℕ) where
  bound : h ≤ line_most
  bound = omega (arith, r.count)

  -- none at a line's start
  holds-none : Holds (set line h c) 0 []
  holds-none = record { room = simp length-set r.room; count = omega arith; same = refl }

  -- one more
  holds_more : Holds (set line h c) (min (h + 1) line_most) (piece ++ (c ∷ []))
  holds_more = record {
    room = simp length-set r.room;
    count = simp length-append (omega (arith, r.count));
    same = kept;
  }
    where
      kept : take (min (h + 1) line_most) (set line h c) ≡ take line_most (piece ++ (c ∷ []))
      kept =
          cases-le line_most (length piece)
          (λ b. let k : h ≡ line_most = omega (arith, r.count) in
          let m : min (h + 1) line_most ≡ h = omega arith in
          rw m (take-set-le h line h c (omega arith) ∙ r.same ∙ sym (take-append-le line_most piece (c ∷ []) b)))
          (λ b. let k : h ≡ length piece = omega (arith, r.count) in
          let m : min (h + 1) line_most ≡ suc h = omega arith in
          let n : length (piece ++ (c ∷ [])) ≤ line_most = simp length-append (omega arith) in
          rw m (take-suc-set line h c (omega (arith, r.room))
          ∙ ap (λ (l : List ℕ). l ++ (c ∷ [])) (r.same ∙ take_all line_most piece (omega arith))
          ∙ sym (take_all line_most (piece ++ (c ∷ [])) n)))

  -- the line that an LF ends
  line-held : (s : List ℕ) → add_line s (take (h + 1) (set line h c)) ≡ add_line s (piece ++ (c ∷ []))
  line-held s =
      ap (λ (i : ℕ). add_line s (take i (set line h c))) (add-one h)
      ∙ ap (add_line s)
      (take-suc-set line h c (omega (arith, r.room, bound)) ∙ ap (λ (l : List ℕ). l ++ (c ∷ [])) r.same)
      ∙ line_kept s piece c

-- how the giving of a text stands is what the text does
pub record Same (g : Standing) (r : Added) : Type 0 where
  pub state : g.state ≡ r.state
  pub lines : g.course.lines ≡ r.lines
  pub stop : g.course.stop ≡ stop_case r.stop

abbrev at-line : List ℕ → List ℕ → ℕ → ℕ → Standing
at-line s line n h = record { state = s; line = line; course = record { held = h; lines = n; stop = Ok tt } }

module _ (s line : List ℕ) (n h c : ℕ) (b : h ≤ line_most) where
  held-so : held_in h ≡ h
  unfolding held_in
  held-so = omega arith

  ended_so : eqb c lf ≡ true
      → stepped (at-line s line n h) c ≡ given s (set line h c) n (add_line s (take (h + 1) (set line h c)))
  unfolding stepped ended placed pick
  ended_so e = rw (e, held-so) refl

  longer-so : eqb c lf ≡ false → stepped (at-line s line n h) c ≡ at-line s (set line h c) n (held_in (h + 1))
  unfolding stepped longer placed pick
  longer-so e = rw (e, held-so) refl

-- a line that was refused
given-refused : (s line t : List ℕ) (n k : ℕ)
    → fed (given s line n (refused k)) t
    ≡ record { state = s; line = line; course = record { held = 0; lines = n; stop = Err (case_of k) } }
unfolding given course_after tried_of state_after
given-refused s line t n k =
    fed-stopped (record
    { state = s; line = line; course = record { held = 0; lines = n; stop = Err (case_of k) } }) t refl

given-done : (s line u w : List ℕ) (n : ℕ) → given s line n (done u w) ≡ at-line u line (next n) 0
unfolding given course_after tried_of state_after
given-done s line u w n = refl

abbrev FedFrom : List ℕ → Type 0
FedFrom t = (s line : List ℕ) (n h : ℕ) (piece : List ℕ) → Holds line h piece
    → Same (fed (at-line s line n h) t) (add_lines s n (cut_from piece t))

-- behind a line and behind any other character, by what holds of the rest of the text
module _ (t : List ℕ) (rest : FedFrom t) (s line : List ℕ) (n h : ℕ) (piece : List ℕ) (r : Holds line h piece)
    (c : ℕ) where
  after : (o : Outcome (List ℕ))
      → Same (fed (given s (set line h c) n o) t) (go_on s n o (λ u. add_lines u (next n) (cut_from [] t)))
  unfolding go_on stop_case
  after (done u w) =
      rw (given-done s (set line h c) u w n) (rest u (set line h c) (next n) 0 [] (holds-none line h piece r c))
  after (refused k) = rw (given-refused s (set line h c) t n k) (record { state = refl; lines = refl; stop = refl })

  more : (b : Bool) → eqb c lf ≡ b
      → Same (fed (stepped (at-line s line n h) c) t)
      (add_lines s n (elim b [ true ↦ (piece ++ (c ∷ [])) ∷ cut_from [] t | false ↦ cut_from (piece ++ (c ∷ [])) t ]))
  unfolding add_lines held_in
  more true e = rw (ended_so s line n h c (bound line h piece r c) e, line-held line h piece r c s)
      (after (add_line s (piece ++ (c ∷ []))))
  more false e =
      rw (longer-so s line n h c (bound line h piece r c) e)
      (rest s (set line h c) n (min (h + 1) line_most) (piece ++ (c ∷ [])) (holds_more line h piece r c))

fed-from : (t : List ℕ) → FedFrom t
unfolding fed cut_from add_lines stop_case
fed-from [] s line n h piece r = record { state = refl; lines = refl; stop = refl }
fed-from (c ∷ t) s line n h piece r = more t (fed-from t) s line n h piece r c (eqb c lf) refl

-- a text of additions, given from its start
pub text-added : (s line t : List ℕ) → length line ≡ line_most + 1
    → Same (fed (record { state = s; line = line; course = begun }) t) (add_text s t)
unfolding begun add_text cut
text-added s line t e = fed-from t s line 0 0 [] (record { room = e; count = omega arith; same = refl })
