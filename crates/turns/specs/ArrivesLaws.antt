-- However the journal's octets come in pieces, what a takeover writes is what replay of the whole journal answers,
-- and it ends where that does: the same state, the same refusal, every line counted. Document 01, Refusal numbers
-- (replay), Lines, A session in full. Assumes nothing.
use Prim.Native.Nat.{ℕ, suc, ◌+◌}
use Rattle.std.specs.Prelude.{◌≡◌, Bool, true, false, drop}
use Rattle.std.proofs.Math.Path.{refl, sym, ap}
use Rattle.std.proofs.Common.{◌∙◌, subst, arith, ne_eqb}
use Rattle.std.proofs.Math.Bool.{not}
use Rattle.std.proofs.lemmas.Bool.{false≢true}
use Rattle.std.proofs.Math.Option.{none, some}
use mathlib.Core.List.{List, [], ◌∷◌, ◌++◌, append-nil}
use Rattle.std.proofs.Math.Nat.{add-zero}
use Rattle.std.proofs.Math.ListN.{length, take, take-append-drop}
use Rattle.laws.specs.Tests.{pick}
use Rattle.sessions.specs.Machine.{Machine, NoLF}
use Rattle.sessions.specs.Saved.{replay_lines, replay, cut, cut_from, Enough}
use Rattle.replays.proofs.PiecesLaws.{cut-clear}
use Rattle.turns.specs.EventsLaws.{drop-part}
use Rattle.turns.specs.WholesLaws.{Tells}
use Rattle.turns.specs.SplitLaws.{ahead}
use Rattle.turns.specs.Told.{shown_of}
use Rattle.turns.specs.StandsTurns.{Stands, starts, goes_on_lem, rests-on}
use Rattle.turns.specs.Takeover.{Next, reads, again, ended, stopped, is_reads, acts}
use Rattle.turns.specs.Takeover.{reached, turned, rested, turn, tells, Flow, piece, flows, run, start}

-- a piece without LF has no line
clear-cut : (p : List ℕ) → NoLF p → cut p ≡ []
unfolding cut cut_from
clear-cut p h = ap cut (sym (append-nil p)) ∙ cut-clear [] p [] h

module _ (M : Machine) (𝓣 : Tells M) (after : ℕ) (numbered : Bool) (room cap : ℕ) where
  -- the piece of a turn and what is still to come
  piece-rem : (n : Next) (size : ℕ) (rem : List ℕ) → piece M after numbered room cap n size rem
      ++ drop (length (piece M after numbered room cap n size rem)) rem ≡ rem
  unfolding piece is_reads pick
  piece-rem reads size rem =
      ap (λ (l : List ℕ). take (suc size) rem ++ l) (drop-part (suc size) rem) ∙ take-append-drop (suc size) rem
  piece-rem again size rem = refl
  piece-rem ended size rem = refl
  piece-rem (stopped k) size rem = refl

  -- a turn that does not replay got no piece, and where it was to read nothing was left
  piece-none : (n : Next) (size : ℕ) (rem : List ℕ)
      → acts n (length (piece M after numbered room cap n size rem)) ≡ false
      → (drop (length (piece M after numbered room cap n size rem)) rem ≡ rem) × (is_reads n ≡ true → rem ≡ [])
  unfolding piece is_reads acts pick
  piece-none reads size [] e = (refl, λ q. refl)
  piece-none reads size (c ∷ rem) e =
      absurd (false≢true (sym e ∙ ap not (ne_eqb (suc (length (take size rem))) 0 (λ z. omega arith))))
  piece-none again size rem e = absurd (false≢true (sym e))
  piece-none ended size rem e = (refl, λ q. absurd (false≢true q))
  piece-none (stopped k) size rem e = (refl, λ q. absurd (false≢true q))

  -- every turn
  turns-on : (s : M.S) (journal : List ℕ) (size : ℕ) (f : Flow M after numbered room cap)
      → Stands M 𝓣 after numbered room cap s journal f
      → Stands M 𝓣 after numbered room cap s journal (flows M after numbered room cap size f)
  unfolding flows turn Rattle.turns.specs.Takeover.tells pick
  turns-on s journal size f h =
      go (acts f.standing.next (length (piece M after numbered room cap f.standing.next size f.rem))) refl
    where
      u : List ℕ
      u = piece M after numbered room cap f.standing.next size f.rem

      v : List ℕ
      v = drop (length u) f.rem

      go : (b : Bool) → acts f.standing.next (length u) ≡ b
          → Stands M 𝓣 after numbered room cap s journal (record {
            standing = pick b
                (turned M after numbered room cap f.standing (f.standing.held ++ u)
                (reached M after numbered room cap f.standing.state (f.standing.held ++ u)))
                (rested M after numbered room cap f.standing);
            wrote = f.wrote
                ++ pick b (shown_of after numbered (M.pos f.standing.state)
                (reached M after numbered room cap f.standing.state (f.standing.held ++ u)).wrote) [];
            rem = v;
          })
      go true e =
          goes_on_lem M 𝓣 after numbered room cap s journal f.standing f.wrote u v
          (subst (λ (l : List ℕ). Stands M 𝓣 after numbered room cap s journal
          (record { standing = f.standing; wrote = f.wrote; rem = l }))
          (sym (piece-rem f.standing.next size f.rem)) h)
      go false e =
          let z = piece-none f.standing.next size f.rem e in
          subst (λ (l : List ℕ). Stands M 𝓣 after numbered room cap s journal
          (record { standing = rested M after numbered room cap f.standing; wrote = f.wrote ++ []; rem = l }))
          (sym z.0)
          (rests-on M 𝓣 after numbered room cap s journal f h f.standing.next refl z.1)

  -- However the journal comes: every takeover stands so.
  run_on : (s : M.S) (journal : List ℕ) (sizes : List ℕ) (f : Flow M after numbered room cap)
      → Stands M 𝓣 after numbered room cap s journal f
      → Stands M 𝓣 after numbered room cap s journal (run M after numbered room cap sizes f)
  unfolding run
  run_on s journal [] f h = h
  run_on s journal (n ∷ ns) f h = run_on s journal ns (flows M after numbered room cap n f) (turns-on s journal n f h)

  pub arrives : (s : M.S) (journal : List ℕ) (sizes : List ℕ)
      → Stands M 𝓣 after numbered room cap s journal
      (run M after numbered room cap sizes (start M after numbered room cap s journal))
  arrives s journal sizes =
      run_on s journal sizes (start M after numbered room cap s journal) (starts M 𝓣 after numbered room cap s journal)

  -- A takeover that has come to the journal's end has done what replay of the journal does, and has read every line.
  pub at-end : (s : M.S) (journal : List ℕ) (f : Flow M after numbered room cap)
      (h : Stands M 𝓣 after numbered room cap s journal f) → f.standing.next ≡ ended
      → (lent : ℕ → ℕ) → Enough lent
      → (replay M lent s journal ≡ record { state = f.standing.state; answers = h.gave; stop = none })
      × (f.standing.lines ≡ length (cut journal))
  unfolding ahead replay replay_lines
  at-end s journal f h e lent big =
      let o : (f.rem ≡ []) × NoLF f.standing.held = h.over e in
      let c : cut (f.standing.held ++ f.rem) ≡ [] =
      ap (λ (l : List ℕ). cut (f.standing.held ++ l)) o.0 ∙ ap cut (append-nil f.standing.held)
      ∙ clear-cut f.standing.held o.1 in (
        h.whole lent big ∙ ap (λ (ls : List (List ℕ)). ahead h.gave (replay_lines M lent f.standing.state ls)) c
            ∙ ap (λ (ls : List (List ℕ)). record { state = f.standing.state; answers = ls; stop = none })
            (append-nil h.gave),
        sym (h.lines ∙ ap (λ (ls : List (List ℕ)). f.standing.lines + length ls) c ∙ add-zero f.standing.lines),
      )

  -- One that was stopped has done so too, and stands before the line that was refused.
  pub at-stop : (s : M.S) (journal : List ℕ) (f : Flow M after numbered room cap)
      (h : Stands M 𝓣 after numbered room cap s journal f) (k : ℕ) → f.standing.next ≡ stopped k
      → (lent : ℕ → ℕ) → Enough lent
      → replay M lent s journal ≡ record { state = f.standing.state; answers = h.gave; stop = some k }
  unfolding ahead
  at-stop s journal f h k e lent big =
      h.whole lent big ∙ ap (ahead h.gave) (h.halts k e lent big)
      ∙ ap (λ (ls : List (List ℕ)). record { state = f.standing.state; answers = ls; stop = some k })
      (append-nil h.gave)
