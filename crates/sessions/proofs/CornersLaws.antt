-- The ends of demand 3's ranges, as corollaries of `failover`: no executed frame, an image at the very beginning, at
-- the very end, the empty journal, refused calls anywhere, saves anywhere, two saves in a row, a torn last line.
-- From document 01, Lines and Sessions and failover.
use Rattle.std.specs.Prelude.{◌≡◌, true, drop}
use Rattle.std.proofs.Math.Path.{refl}
use Rattle.std.proofs.Common.{sym, ◌∙◌, add-one, arith}
use Rattle.std.proofs.Math.Option.{Option, none, some}
use mathlib.Core.List.{List, [], ◌∷◌, ◌++◌, map, flatten}
use Prim.Native.Nat.{ℕ, zero, suc, ◌+◌, ◌≤◌}
use Rattle.std.proofs.Math.Seq.{drop-length}
use Rattle.sessions.specs.Machine.{Machine, Line, NoLF, refused, done, Laws, save_room}
use Rattle.sessions.specs.Session.{Call, give, save, from_frame, entries, state_after, written, image, reply, after}
use Rattle.sessions.specs.Session.{ran, walk, trace, executed, answers, lines_of, journal}
use Rattle.sessions.specs.Saved.{Enough, replay, frames, SavedAfter}
use Rattle.sessions.proofs.CutsLaws.{AllLines, cut-lines, cut-torn}
use Rattle.sessions.proofs.RefusalsLaws.{save-leaves, image-saved, image-wrote}
use Rattle.sessions.proofs.RunsLaws.{runs, run-lines}
use Rattle.sessions.proofs.ReplayLaws.{failover, map-lines}
use Rattle.sessions.proofs.HistoryLaws.{walk-sound}

module _ (M : Machine) (𝓛 : Laws M) (fresh : M.S) (origin : M.pos fresh ≡ 0) (good : M.sound fresh ≡ true) where
  -- Images can be had everywhere: a save that stands anywhere in a session and is lent 13,162 octets is not refused.
  pub saved-anywhere :
      (before later : List Call) (lent : ℕ) → save_room ≤ lent
      → SavedAfter M fresh (before ++ (save lent ∷ later)) (frames M fresh before) (M.encode (walk M fresh before))
      (walk M fresh before)
  saved-anywhere before later lent h =
      record {
        before = before;
        lent = lent;
        later = later;
        split = refl;
        count = refl;
        state = refl;
        saved = image-saved M lent (walk M fresh before) (walk-sound M 𝓛 fresh good before) h;
      }

  -- k = 0: an image saved before all else takes over the whole session, by the journal from frame 1.
  pub from-the-beginning :
      (room : ℕ) (img : List ℕ) (calls : List Call) (lent : ℕ → ℕ) → image M room fresh ≡ done fresh img → Enough lent
      → replay M lent fresh (journal M fresh (save room ∷ calls) 1)
      ≡ record {
        state = walk M fresh (save room ∷ calls);
        answers = answers M fresh (save room ∷ calls);
        stop = none;
      }
  unfolding frames executed walk trace
  from-the-beginning room img calls lent e big =
      let f =
      failover M 𝓛 fresh origin good (save room ∷ calls) 0 img fresh
      (record {
        before = [];
        lent = room;
        later = calls;
        split = refl;
        count = refl;
        state = refl;
        saved = e;
      })
      in
      f.goes_on 1 (omega arith) (omega arith) lent big

  module _ (calls : List Call) (k : ℕ) (img : List ℕ) (at : M.S) (sv : SavedAfter M fresh calls k img at) where
    -- n = 0: no frame was executed; the image is of frame 0, and replay of the empty journal gives its state.
    pub no_frames :
        (lent : ℕ → ℕ) → frames M fresh calls ≡ 0
        → (k ≡ 0) × (replay M lent at (journal M fresh calls 1) ≡ record { state = at; answers = []; stop = none })
    no_frames lent n =
        let f = failover M 𝓛 fresh origin good calls k img at sv in
        let h : k ≤ frames M fresh calls = f.within in
        (omega arith, f.nothing 1 (omega arith) lent)

    -- k = n: nothing is left to execute, from whatever frame the journal begins.
    pub at_last :
        (j : ℕ) (lent : ℕ → ℕ) → k ≡ frames M fresh calls → 1 ≤ j → j ≤ k + 1 → Enough lent
        → replay M lent at (journal M fresh calls j) ≡ record { state = at; answers = []; stop = none }
    at_last j lent n h g big =
        let f = failover M 𝓛 fresh origin good calls k img at sv in
        f.goes_on j h g lent big
        ∙ sym (f.goes_on (k + 1) (omega arith) (omega arith) lent big)
        ∙ f.nothing (k + 1) (omega arith) lent

  -- j = n + 1: the journal is empty.
  pub journal-end : (calls : List Call) → journal M fresh calls (frames M fresh calls + 1) ≡ []
  unfolding journal from_frame lines_of flatten frames
  journal-end calls = rw (add-one, drop-length (executed M fresh calls))

module _ (M : Machine) (s : M.S) where
  -- A refused call, of whatever kind and number, leaves the state, executes nothing and writes no octet ..
  pub refused-leaves :
      (c : Call) (n : ℕ) → reply M s c ≡ refused n
      → (after M s c ≡ s) × (ran M s c ≡ []) × (written (reply M s c) ≡ [])
  unfolding after ran reply state_after entries written
  refused-leaves (give lent w r) n e = (rw e, rw e (none-by (M.read w r)), rw e)
    where
      none-by : (f : Option (Line M.Body)) → entries {S = M.S} f (refused n) ≡ []
      none-by none = refl
      none-by (some x) = refl
  refused-leaves (save lent) n e = (rw e, refl, rw e)

  -- .. so a session with it is, from there on, the session without it.
  pub refused-walk : (c : Call) (n : ℕ) (cs : List Call) → reply M s c ≡ refused n → walk M s (c ∷ cs) ≡ walk M s cs
  unfolding walk
  refused-walk c n cs e = rw (refused-leaves c n e).0

  pub refused-trace : (c : Call) (n : ℕ) (cs : List Call) → reply M s c ≡ refused n → trace M s (c ∷ cs) ≡ trace M s cs
  unfolding trace
  refused-trace c n cs e = let l = refused-leaves c n e in rw (l.1, l.0)

  -- Two saves in a row, neither refused, write the same image, and the state stays.
  pub saved-twice :
      (l m : ℕ) (a b : List ℕ) → image M l s ≡ done s a → image M m (after M s (save l)) ≡ done s b → a ≡ b
  saved-twice l m a b p q =
      let x = image-wrote M l s a p in
      let y = image-wrote M m s b (rw (save-leaves M l s) at q) in
      x.is ∙ sym y.is

module _ (M : Machine) where
  drop-lines :
      (i : ℕ) (xs : List (Line M.Body))
      → AllLines (map M.write xs) → AllLines (map M.write (drop i xs))
  drop-lines zero xs h = h
  drop-lines (suc i) [] h = h
  drop-lines (suc i) (x ∷ xs) h = drop-lines i xs h.1

  since-lines :
      (j : ℕ) (xs : List (Line M.Body))
      → AllLines (map M.write xs) → AllLines (map M.write (from_frame j xs))
  unfolding from_frame
  since-lines zero xs h = h
  since-lines (suc i) xs h = drop-lines i xs h

  -- A last line that is torn, without its LF, changes nothing: it is not read, whatever it holds.
  pub journal-torn :
      Laws M → (fresh at : M.S) (calls : List Call) (j : ℕ) (piece : List ℕ) (lent : ℕ → ℕ) → NoLF piece
      → replay M lent at (journal M fresh calls j ++ piece) ≡ replay M lent at (journal M fresh calls j)
  unfolding replay journal lines_of executed
  journal-torn 𝓛 fresh at calls j piece lent h =
      let all = run-lines M 𝓛 fresh (walk M fresh calls) (trace M fresh calls) (runs M 𝓛 fresh calls) in
      let left = since-lines j (executed M fresh calls) (rw (map-lines M (trace M fresh calls)) all) in
      rw (
        cut-torn (map M.write (from_frame j (executed M fresh calls))) piece left h,
        cut-lines (map M.write (from_frame j (executed M fresh calls))) left,
      )
