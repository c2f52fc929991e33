-- Replay of lines that were seen and then of a run's lines, in calls of any kind: what one call executes of the run,
-- and what it leaves ahead. Document 01, Refusal numbers, Sessions and failover; over any engine that keeps the laws.
-- Assumes nothing.
use Prim.Native.Nat.{ℕ, zero, suc, ◌+◌, ◌-◌, ◌≤◌, ◌<◌}
use Rattle.std.specs.Prelude.{◌≡◌, Bool, ◌⊎◌}
use Rattle.std.proofs.Math.Path.{refl, sym, ap, subst}
use Rattle.std.proofs.Common.{◌∙◌, add-zero, arith, length-append}
use Rattle.std.proofs.Math.Bool.{true, false, false≢true}
use Rattle.std.proofs.Math.Logic.{inl, inr}
use Rattle.std.proofs.Math.Option.{Option, none, some}
use mathlib.Core.List.{List, [], ◌∷◌, ◌++◌, map, append_assoc, append-nil}
use Rattle.std.proofs.Math.Nat.{add_assoc}
use Rattle.std.proofs.Math.ListN.{length}
use Rattle.laws.specs.Rows.{flat}
use Rattle.laws.specs.TestsLaws.{cases-le}
use Rattle.sessions.specs.Machine.{Machine, Laws, Line, Outcome, refused, done, text, answer_room}
use Rattle.sessions.specs.Session.{Entry, answer}
use Rattle.sessions.proofs.RefusalsLaws.{answer-short, answer-seen}
use Rattle.sessions.proofs.RunsLaws.{Run, line_of}
use Rattle.sessions.proofs.ReplayLaws.{answer-again}
use Rattle.replays.specs.Into.{Reached, reach, line_from, lines_while}
use Rattle.replays.proofs.PiecesLaws.{stays, line-goes}

-- the first lines of two equal lists, and the others
first-line : (l k : List ℕ) (ls ks : List (List ℕ)) → l ∷ ls ≡ k ∷ ks → (l ≡ k) × (ls ≡ ks)
first-line l k ls ks e = (ap head e, ap tail e)
  where
    head : List (List ℕ) → List ℕ
    head [] = []
    head (x ∷ xs) = x

    tail : List (List ℕ) → List (List ℕ)
    tail [] = []
    tail (x ∷ xs) = xs

no_lines : (l : List ℕ) (ls : List (List ℕ)) → l ∷ ls ≡ [] → ⊥
no_lines l ls e = let z : suc (length ls) ≡ 0 = ap length e in omega arith

-- the octets of answers
abbrev pub said_by : {B : Type 0} → List (Entry B) → List ℕ
said_by es = flat (map (λ e. e.wrote) es)

module _ (M : Machine) where
  -- lines of frames whose numbers are at most p
  abbrev pub SeenLines : ℕ → List (List ℕ) → Type 0
  SeenLines p [] = Unit {0}
  SeenLines p (l ∷ ls) = ((x : Line M.Body) × (M.read text l ≡ some x) × (x.num ≤ p)) × SeenLines p ls

  -- From the state s the lines are ahead: some that were seen, and then those of a run of the frames es to the state
  -- `end`.
  pub record Ahead (s : M.S) (ls : List (List ℕ)) (es : List (Entry M.Body)) (end : M.S) : Type 0 where
    pub seen : List (List ℕ)
    pub are-seen : SeenLines (M.pos s) seen
    pub split : ls ≡ seen ++ map (line_of M) es
    pub good : M.sound s ≡ true
    pub run : Run M s es end

  -- What a call made of it, from r to x, shown the lines ls of ls and ks: it executed the frames gs and left hs.
  --   held: the position before the last executed frame passed the test.
  --   ended: no line that was shown is left, or the position fails the test; or fewer than 2,880 octets are left.
  --   moved: with 2,880 octets lent, a line shown and a position that passes, a line was read.
  pub record Went (goes : ℕ → Bool) (room : ℕ) (r : Reached M.S) (ls ks : List (List ℕ))
      (es : List (Entry M.Body)) (end : M.S) (x : Reached M.S) : Type 0 where
    pub gs : List (Entry M.Body)
    pub hs : List (Entry M.Body)
    pub before : List (List ℕ)
    pub left : List (List ℕ)
    pub frames : es ≡ gs ++ hs
    pub lines : ls ≡ before ++ left
    pub ran : Run M r.state gs x.state
    pub ahead : Ahead x.state (left ++ ks) hs end
    pub wrote : x.wrote ≡ r.wrote ++ said_by gs
    pub taken : x.taken ≡ r.taken + length (flat before)
    pub held : (gs ≡ []) ⊎ ((p : ℕ) × (suc p ≡ M.pos x.state) × (goes p ≡ true))
    pub ended :
        ((x.stop ≡ none) × ((left ≡ []) ⊎ (goes (M.pos x.state) ≡ false)))
        ⊎ ((x.stop ≡ some 3) × (room - length x.wrote < answer_room))
    pub moved : 1 ≤ length ls → goes (M.pos r.state) ≡ true → answer_room ≤ room - length r.wrote
        → 1 ≤ length before

module _ (M : Machine) (𝓛 : Laws M) (goes : ℕ → Bool) (room : ℕ) (end : M.S) where
  -- nothing was read
  stood : (r : Reached M.S) (ls ks : List (List ℕ)) (es : List (Entry M.Body)) (o : Option ℕ)
      → Ahead M r.state (ls ++ ks) es end
      → ((o ≡ none) × ((ls ≡ []) ⊎ (goes (M.pos r.state) ≡ false)))
      ⊎ ((o ≡ some 3) × (room - length r.wrote < answer_room))
      → (1 ≤ length ls → goes (M.pos r.state) ≡ true → answer_room ≤ room - length r.wrote → ⊥)
      → Went M goes room r ls ks es end (record { state = r.state; wrote = r.wrote; taken = r.taken; stop = o })
  unfolding flat
  stood r ls ks es o a e n =
      record {
        gs = [];
        hs = es;
        before = [];
        left = ls;
        frames = refl;
        lines = refl;
        ran = refl;
        ahead = a;
        wrote = sym (append-nil r.wrote);
        taken = sym (add-zero r.taken);
        held = inl refl;
        ended = e;
        moved = λ p q z. absurd (n p q z);
      }

  -- a line that was read, from r to y, and what followed
  module _ (l : List ℕ) (ls ks : List (List ℕ)) (r y x : Reached M.S) (t : y.taken ≡ r.taken + length l) where
    read-on : (before : List (List ℕ)) → x.taken ≡ y.taken + length (flat before)
        → x.taken ≡ r.taken + length (flat (l ∷ before))
    unfolding flat
    read-on before e =
        e ∙ ap (λ (k : ℕ). k + length (flat before)) t ∙ add_assoc r.taken (length l) (length (flat before))
        ∙ ap (λ (k : ℕ). r.taken + k) (sym (length-append l (flat before)))

    -- it was seen
    skipped : (es : List (Entry M.Body)) → y.state ≡ r.state → y.wrote ≡ r.wrote
        → Went M goes room y ls ks es end x
        → Went M goes room r (l ∷ ls) ks es end x
    skipped es s w h =
        record {
          gs = h.gs;
          hs = h.hs;
          before = l ∷ h.before;
          left = h.left;
          frames = h.frames;
          lines = ap (λ (k : List (List ℕ)). l ∷ k) h.lines;
          ran = subst (λ (u : M.S). Run M u h.gs x.state) s h.ran;
          ahead = h.ahead;
          wrote = h.wrote ∙ ap (λ (k : List ℕ). k ++ said_by h.gs) w;
          taken = read-on h.before h.taken;
          held = h.held;
          ended = h.ended;
          moved = λ p q z. omega arith;
        }

    -- it was executed
    executed : (e : Entry M.Body) (es : List (Entry M.Body)) (q : Run M r.state (e ∷ es) end)
        → y.state ≡ q.0
        → y.wrote ≡ r.wrote ++ e.wrote → goes (M.pos r.state) ≡ true → Went M goes room y ls ks es end x
        → Went M goes room r (l ∷ ls) ks (e ∷ es) end x
    unfolding flat
    executed e es q s w g h =
        record {
          gs = e ∷ h.gs;
          hs = h.hs;
          before = l ∷ h.before;
          left = h.left;
          frames = ap (λ (k : List (Entry M.Body)). e ∷ k) h.frames;
          lines = ap (λ (k : List (List ℕ)). l ∷ k) h.lines;
          ran = (q.0, q.1, subst (λ (u : M.S). Run M u h.gs x.state) s h.ran);
          ahead = h.ahead;
          wrote = h.wrote ∙ ap (λ (k : List ℕ). k ++ said_by h.gs) w
              ∙ append_assoc r.wrote e.wrote (said_by h.gs);
          taken = read-on h.before h.taken;
          held = inr (last h.held);
          ended = h.ended;
          moved = λ p u z. omega arith;
        }
      where
        next : suc (M.pos r.state) ≡ M.pos q.0
        next = sym (𝓛.advance r.state q.0 e.line e.wrote q.1)

        last : (h.gs ≡ []) ⊎ ((p : ℕ) × (suc p ≡ M.pos x.state) × (goes p ≡ true))
            → (p : ℕ) × (suc p ≡ M.pos x.state) × (goes p ≡ true)
        last (inl z) =
            let i : y.state ≡ x.state =
            subst (λ (k : List (Entry M.Body)). Run M y.state k x.state) z h.ran in
            (M.pos r.state, next ∙ ap M.pos (sym s ∙ i), g)
        last (inr z) = z

  -- one line, where the position passes the test
  module _ (l : List ℕ) (ls ks : List (List ℕ)) (r : Reached M.S) (g : goes (M.pos r.state) ≡ true)
      (ih : (y : Reached M.S) (fs : List (Entry M.Body)) → y.stop ≡ none → Ahead M y.state (ls ++ ks) fs end
      → Went M goes room y ls ks fs end (lines_while M goes room y ls)) where
    abbrev outcome : Outcome M.S
    outcome = answer M (room - length r.wrote) r.state text l

    abbrev Result : List (Entry M.Body) → Outcome M.S → Type 0
    Result es o = Went M goes room r (l ∷ ls) ks es end (lines_while M goes room (reach r (length l) o) ls)

    was-short : (es : List (Entry M.Body)) → Ahead M r.state (l ∷ (ls ++ ks)) es end
        → room - length r.wrote < answer_room → Result es outcome
    unfolding reach
    was-short es a k =
        let halt : Reached M.S = record { state = r.state; wrote = r.wrote; taken = r.taken; stop = some 3 } in
        subst (Result es) (sym (answer-short M (room - length r.wrote) r.state text l a.good k))
        (subst (Went M goes room r (l ∷ ls) ks es end) (sym (stays M room goes halt 3 ls refl))
        (stood r (l ∷ ls) ks es (some 3) a (inr (refl, k)) (λ p q z. omega arith)))

    was-seen : (es : List (Entry M.Body)) (x : Line M.Body) → answer_room ≤ room - length r.wrote
        → M.sound r.state ≡ true
        → M.read text l ≡ some x → x.num ≤ M.pos r.state → Ahead M r.state (ls ++ ks) es end
        → Result es outcome
    unfolding reach
    was-seen es x k good i n a =
        let y : Reached M.S =
        record { state = r.state; wrote = r.wrote; taken = r.taken + length l; stop = none } in
        subst (Result es) (sym (answer-seen M (room - length r.wrote) r.state text l good k x i n))
        (skipped l ls ks r y (lines_while M goes room y ls) refl es refl refl (ih y es refl a))

    was-next : (e : Entry M.Body) (es : List (Entry M.Body)) → answer_room ≤ room - length r.wrote
        → l ≡ line_of M e
        → (q : Run M r.state (e ∷ es) end) → ls ++ ks ≡ map (line_of M) es → Result (e ∷ es) outcome
    unfolding reach
    was-next e es k i q w =
        let y : Reached M.S =
        record { state = q.0; wrote = r.wrote ++ e.wrote; taken = r.taken + length l; stop = none } in
        let o : outcome ≡ done q.0 e.wrote =
        ap (answer M (room - length r.wrote) r.state text) i
        ∙ answer-again M 𝓛 r.state q.0 e.line e.wrote (room - length r.wrote) q.1 k in
        subst (Result (e ∷ es)) (sym o)
        (executed l ls ks r y (lines_while M goes room y ls) refl e es q refl refl g
        (ih y es refl (record {
          seen = [];
          are-seen = tt;
          split = w;
          good = 𝓛.keeps r.state q.0 e.line e.wrote q.1;
          run = q.2;
        })))

    one : (es : List (Entry M.Body)) → Ahead M r.state (l ∷ (ls ++ ks)) es end → Result es outcome
    one es a = cases-le answer_room (room - length r.wrote)
        (λ k. read a.seen a.are-seen es a.split a.run k) (λ k. was-short es a k)
      where
        read : (seen : List (List ℕ)) → SeenLines M (M.pos r.state) seen → (fs : List (Entry M.Body))
            → l ∷ (ls ++ ks) ≡ seen ++ map (line_of M) fs → Run M r.state fs end
            → answer_room ≤ room - length r.wrote → Result fs outcome
        read [] s [] e q k = absurd (no_lines l (ls ++ ks) e)
        read [] s (f ∷ fs) e q k =
            let d = first-line l (line_of M f) (ls ++ ks) (map (line_of M) fs) e in was-next f fs k d.0 q d.1
        read (c ∷ seen) s fs e q k =
            let d = first-line l c (ls ++ ks) (seen ++ map (line_of M) fs) e in
            was-seen fs s.0.0 k a.good (ap (M.read text) d.0 ∙ s.0.1) s.0.2
            (record { seen = seen; are-seen = s.1; split = d.1; good = a.good; run = q })

  -- the lines that were shown
  pub lines-went : (ls ks : List (List ℕ)) (r : Reached M.S) (es : List (Entry M.Body)) → r.stop ≡ none
      → Ahead M r.state (ls ++ ks) es end
      → Went M goes room r ls ks es end (lines_while M goes room r ls)
  unfolding lines_while
  lines-went [] ks r es e a = stood r [] ks es r.stop a (inl (e, inl refl)) (λ p q z. omega arith)
  lines-went (l ∷ ls) ks r es e a =
      go (goes (M.pos r.state)) refl
      (λ g. subst (λ (y : Reached M.S). Went M goes room r (l ∷ ls) ks es end (lines_while M goes room y ls))
      (sym (line-goes M room r l e))
      (one l ls ks r g (λ y fs q b. lines-went ls ks y fs q b) es a))
    where
      go : (b : Bool) → goes (M.pos r.state) ≡ b
          → (goes (M.pos r.state) ≡ true
          → Went M goes room r (l ∷ ls) ks es end (lines_while M goes room (line_from M room r.stop r l) ls))
          → Went M goes room r (l ∷ ls) ks es end
          (elim b [ true ↦ lines_while M goes room (line_from M room r.stop r l) ls | false ↦ r ])
      go true g f = f g
      go false g f = stood r (l ∷ ls) ks es r.stop a (inl (e, inr g)) (λ p q z. false≢true (sym g ∙ q))
