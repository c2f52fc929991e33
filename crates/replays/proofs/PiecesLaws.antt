-- A text replayed in pieces, cut anywhere, gives what replaying it whole gives: what is left of a piece, its last
-- part without LF, goes in front of the next. Document 01, Lines ("A final piece of a journal without LF is not a
-- line and is not read"). Assumes nothing.
use Rattle.std.specs.Prelude.{ℕ, zero, suc, ◌+◌, ◌-◌, ◌≤◌, ◌<◌, ◌≡◌, ◌⊎◌, Bool, cond, eqb}
use Rattle.std.proofs.Math.Path.{refl, sym, ap}
use Rattle.std.proofs.Common.{◌∙◌, inl, inr, add-zero, add_assoc, ne_eqb, arith, length-append}
use Rattle.std.proofs.Math.Bool.{true, false}
use Rattle.std.proofs.lemmas.Bool.{false≢true, eqb-false}
use Rattle.std.proofs.Math.Option.{Option, none, some}
use mathlib.Core.List.{List, [], ◌∷◌, ◌++◌, append_assoc, append-nil}
use Rattle.std.proofs.Math.Nat.{zero-add}
use Rattle.std.proofs.Math.ListN.{length, drop}
use Rattle.std.proofs.Math.Seq.{drop-append_seam}
use Rattle.lines.specs.Hex.{lf}
use Rattle.laws.specs.Rows.{flat}
use Rattle.laws.specs.RowsLaws.{flat_append}
use Rattle.rule.specs.BaseLaws.{none≢some}
use Rattle.sessions.specs.Machine.{Machine, Outcome, refused, done, NoLF, text}
use Rattle.sessions.specs.Session.{answer, state_after}
use Rattle.sessions.specs.Saved.{cut, cut_from}
use Rattle.replays.specs.Into.{Reached, nothing_read, reach, line_from, lines_while, lines_from, replay_while, replay_into}

-- what stands after the last LF of a text, behind a piece before it
unfoldable pub rest_from : List ℕ → List ℕ → List ℕ
rest_from piece [] = piece
rest_from piece (c ∷ t) = elim (eqb c lf) [ true ↦ rest_from [] t | false ↦ rest_from (piece ++ (c ∷ [])) t ]

unfoldable pub rest : List ℕ → List ℕ
rest t = rest_from [] t

-- cutting a text of two parts: the lines of the first, then those of its rest and the second
pub cut-from-append : (p t u : List ℕ) → cut_from p (t ++ u) ≡ cut_from p t ++ cut_from (rest_from p t) u
unfolding cut_from rest_from
cut-from-append p [] u = refl
cut-from-append p (c ∷ t) u = go (eqb c lf) (cut-from-append [] t u) (cut-from-append (p ++ (c ∷ [])) t u)
  where
    go : (b : Bool) → cut_from [] (t ++ u) ≡ cut_from [] t ++ cut_from (rest_from [] t) u
        → cut_from (p ++ (c ∷ [])) (t ++ u) ≡ cut_from (p ++ (c ∷ [])) t ++ cut_from (rest_from (p ++ (c ∷ [])) t) u
        → ◌≡◌ {A = List (List ℕ)}
        (elim b [ true ↦ (p ++ (c ∷ [])) ∷ cut_from [] (t ++ u) | false ↦ cut_from (p ++ (c ∷ [])) (t ++ u) ])
        (elim b [ true ↦ (p ++ (c ∷ [])) ∷ cut_from [] t | false ↦ cut_from (p ++ (c ∷ [])) t ]
        ++ cut_from (elim b [ true ↦ rest_from [] t | false ↦ rest_from (p ++ (c ∷ [])) t ]) u)
    go true a b = ap {B = List (List ℕ)} (λ l. (p ++ (c ∷ [])) ∷ l) a
    go false a b = b

-- what is left of a text has no LF
pub rest-clear : (p t : List ℕ) → NoLF p → NoLF (rest_from p t)
unfolding rest_from
rest-clear p [] h = h
rest-clear p (c ∷ t) h = go (eqb c lf) refl (rest-clear [] t tt) (λ k. rest-clear (p ++ (c ∷ [])) t k)
  where
    snoc : (q : List ℕ) (d : ℕ) → NoLF q → (d ≡ lf → ⊥) → NoLF (q ++ (d ∷ []))
    snoc [] d k n = (n, tt)
    snoc (x ∷ q) d k n = (k.0, snoc q d k.1 n)

    go : (b : Bool) → eqb c lf ≡ b → NoLF (rest_from [] t) → (NoLF (p ++ (c ∷ [])) → NoLF (rest_from (p ++ (c ∷ [])) t))
        → NoLF (elim b [ true ↦ rest_from [] t | false ↦ rest_from (p ++ (c ∷ [])) t ])
    go true e a b = a
    go false e a b = b (snoc p c h (eqb-false c lf e))

-- a piece with no LF is read on from
pub cut-clear : (q p u : List ℕ) → NoLF p → cut_from q (p ++ u) ≡ cut_from (q ++ p) u
unfolding cut_from
cut-clear q [] u h = ap (λ (l : List ℕ). cut_from l u) (sym (append-nil q))
cut-clear q (c ∷ p) u h =
    rw (ne_eqb c lf h.0, cut_from)
    (cut-clear (q ++ (c ∷ [])) p u h.1 ∙ ap (λ (l : List ℕ). cut_from l u) (append_assoc q (c ∷ []) p))

-- the lines of a text in two parts
pub cut-append : (t u : List ℕ) → cut (t ++ u) ≡ cut t ++ cut (rest t ++ u)
unfolding cut rest
cut-append t u =
    cut-from-append [] t u
    ∙ ap (λ (l : List (List ℕ)). cut_from [] t ++ l) (sym (cut-clear [] (rest_from [] t) u (rest-clear [] t tt)))

-- a text is its lines and its rest
pub flat-from : (p t : List ℕ) → flat (cut_from p t) ++ rest_from p t ≡ p ++ t
unfolding cut_from rest_from flat
flat-from p [] = sym (append-nil p)
flat-from p (c ∷ t) = go (eqb c lf) (flat-from [] t) (flat-from (p ++ (c ∷ [])) t)
  where
    go : (b : Bool) → flat (cut_from [] t) ++ rest_from [] t ≡ t
        → flat (cut_from (p ++ (c ∷ [])) t) ++ rest_from (p ++ (c ∷ [])) t ≡ (p ++ (c ∷ [])) ++ t
        → flat (elim b [ true ↦ (p ++ (c ∷ [])) ∷ cut_from [] t | false ↦ cut_from (p ++ (c ∷ [])) t ])
        ++ elim b [ true ↦ rest_from [] t | false ↦ rest_from (p ++ (c ∷ [])) t ] ≡ p ++ (c ∷ t)
    go true a b =
        append_assoc (p ++ (c ∷ [])) (flat (cut_from [] t)) (rest_from [] t)
        ∙ ap (λ (l : List ℕ). (p ++ (c ∷ [])) ++ l) a
        ∙ append_assoc p (c ∷ []) t
    go false a b = b ∙ append_assoc p (c ∷ []) t

pub flat-cut : (t : List ℕ) → flat (cut t) ++ rest t ≡ t
unfolding cut rest
flat-cut t = flat-from [] t

-- what is left after the lines of a text is its rest
pub drop-lines : (t : List ℕ) → drop (length (flat (cut t))) t ≡ rest t
drop-lines t =
    ap (λ (l : List ℕ). drop (length (flat (cut t))) l) (sym (flat-cut t)) ∙ drop-append_seam (flat (cut t)) (rest t)

-- the state after a line is that of its outcome
pub reach-state : {S : Type 0} (r : Reached S) (n : ℕ) (o : Outcome S) → (reach r n o).state ≡ state_after r.state o
unfolding reach state_after
reach-state r n (done t a) = refl
reach-state {S} r n (refused k) = go (eqb k 1)
  where
    go : (b : Bool) → (cond {A = Reached S} b
        (record { state = r.state; wrote = r.wrote; taken = r.taken + n; stop = none })
        (record { state = r.state; wrote = r.wrote; taken = r.taken; stop = some k })).state ≡ r.state
    go true = refl
    go false = refl

-- a line that did not stop is read
pub reach-taken : {S : Type 0} (r : Reached S) (n : ℕ) (o : Outcome S) → (reach r n o).stop ≡ none
    → (reach r n o).taken ≡ r.taken + n
unfolding reach
reach-taken r n (done t a) q = refl
reach-taken {S} r n (refused k) q = go (eqb k 1) q
  where
    skipped : Reached S
    skipped = record { state = r.state; wrote = r.wrote; taken = r.taken + n; stop = none }

    halted : Reached S
    halted = record { state = r.state; wrote = r.wrote; taken = r.taken; stop = some k }

    go : (b : Bool) → (cond {A = Reached S} b skipped halted).stop ≡ none
        → (cond {A = Reached S} b skipped halted).taken ≡ r.taken + n
    go true z = refl
    go false z = absurd (none≢some (sym z))

module _ (M : Machine) (room : ℕ) where
  pub lines-append : (r : Reached M.S) (ls ks : List (List ℕ))
      → lines_from M room r (ls ++ ks) ≡ lines_from M room (lines_from M room r ls) ks
  unfolding lines_while
  lines-append r [] ks = refl
  lines-append r (l ∷ ls) ks = lines-append (line_from M room r.stop r l) ls ks

  -- what has stopped stays
  pub stays : (goes : ℕ → Bool) (r : Reached M.S) (k : ℕ) (ls : List (List ℕ)) → r.stop ≡ some k
      → lines_while M goes room r ls ≡ r
  unfolding lines_while line_from
  stays goes r k [] e = refl
  stays goes r k (l ∷ ls) e =
      go (goes (M.pos r.state))
      (ap (λ (o : Option ℕ). lines_while M goes room (line_from M room o r l) ls) e ∙ stays goes r k ls e)
    where
      go : (b : Bool) → lines_while M goes room (line_from M room r.stop r l) ls ≡ r
          → elim b [ true ↦ lines_while M goes room (line_from M room r.stop r l) ls | false ↦ r ] ≡ r
      go true h = h
      go false h = refl

  pub stopped : (r : Reached M.S) (k : ℕ) (ls : List (List ℕ)) → r.stop ≡ some k → lines_from M room r ls ≡ r
  stopped = stays (λ p. true)

  -- a line of a replay that has not stopped
  pub line-goes : (r : Reached M.S) (l : List ℕ) → r.stop ≡ none
      → line_from M room r.stop r l ≡ reach r (length l) (answer M (room - length r.wrote) r.state text l)
  unfolding line_from
  line-goes r l e = ap (λ (o : Option ℕ). line_from M room o r l) e

  -- a line that did not stop is read
  pub line_taken : (r : Reached M.S) (l : List ℕ) → r.stop ≡ none → (line_from M room r.stop r l).stop ≡ none
      → (line_from M room r.stop r l).taken ≡ r.taken + length l
  line_taken r l e h =
      let q = line-goes r l e in
      ap (λ (x : Reached M.S). x.taken) q
      ∙ reach-taken r (length l) (answer M (room - length r.wrote) r.state text l)
      (sym (ap (λ (x : Reached M.S). x.stop) q) ∙ h)

  -- lines that were not stopped at are read
  pub lines-taken : (r : Reached M.S) (ls : List (List ℕ)) → r.stop ≡ none → (lines_from M room r ls).stop ≡ none
      → (lines_from M room r ls).taken ≡ r.taken + length (flat ls)
  unfolding lines_while flat
  lines-taken r [] e h = sym (add-zero r.taken)
  lines-taken r (l ∷ ls) e h =
      go (line_from M room r.stop r l).stop refl (λ q. lines-taken (line_from M room r.stop r l) ls q h)
    where
      next : Reached M.S
      next = line_from M room r.stop r l

      go : (o : Option ℕ) → next.stop ≡ o
          → (next.stop ≡ none → (lines_from M room next ls).taken ≡ next.taken + length (flat ls))
          → (lines_from M room next ls).taken ≡ r.taken + length (l ++ flat ls)
      go none q ih =
          ih q ∙ ap (λ (n : ℕ). n + length (flat ls)) (line_taken r l e q)
          ∙ add_assoc r.taken (length l) (length (flat ls))
          ∙ ap (λ (n : ℕ). r.taken + n) (sym (length-append l (flat ls)))
      go (some k) q ih =
          absurd (none≢some (sym h ∙ ap (λ (x : Reached M.S). x.stop) (stopped next k ls q) ∙ q))

  -- Replaying a text in two pieces, cut anywhere: the second goes on where the first stood, behind what the first
  -- left unread.
  pub pieces : (s : M.S) (t u : List ℕ)
      → replay_into M room s (t ++ u) ≡ lines_from M room (replay_into M room s t) (cut (rest t ++ u))
  unfolding replay_while
  pieces s t u =
      ap (lines_from M room (nothing_read s)) (cut-append t u) ∙ lines-append (nothing_read s) (cut t) (cut (rest t ++ u))

  -- what a piece that did not stop left unread is its last part without LF
  pub unread : (s : M.S) (t : List ℕ) → (replay_into M room s t).stop ≡ none
      → drop (replay_into M room s t).taken t ≡ rest t
  unfolding replay_while nothing_read
  unread s t h =
      let e : (lines_from M room (nothing_read s) (cut t)).taken ≡ length (flat (cut t)) =
      lines-taken (nothing_read s) (cut t) refl h ∙ zero-add (length (flat (cut t))) in
      ap (λ (n : ℕ). drop n t) e ∙ drop-lines t
