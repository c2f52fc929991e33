-- Every turn of a takeover ends it or leaves less to be done. Definitions of the proofs alone stand here too: work, at.
use Prim.Native.Nat.{ℕ, suc, ◌+◌, ◌-◌, ◌*◌, ◌≤◌, ◌<◌}
use Rattle.std.specs.Prelude.{◌≡◌, Bool, true, false, not, ◌&&◌, ◌⊎◌, eqb, ltb, length, drop}
use Rattle.std.proofs.Math.Path.{refl}
use Rattle.std.proofs.Common.{ap, inl, inr, arith, lt-ltb, length-append, length-take, length-drop}
use Rattle.std.proofs.lemmas.Bool.{false≢true, eqb-false}
use mathlib.Core.List.{List, [], ◌∷◌, ◌++◌, append-nil}
use Rattle.std.proofs.Math.ListN.{take}
use Rattle.laws.specs.Tests.{pick}
use Rattle.laws.specs.TestsLaws.{cases-le}
use Rattle.sessions.specs.Machine.{Machine, answer_room, last_number}
use Rattle.sessions.specs.Saved.{cut, cut_from}
use Rattle.model.specs.Block.{model_of}
use Rattle.replays.specs.Into.{Reached, replay_while}
use Rattle.turns.specs.Told.{goes_of}
use Rattle.turns.specs.Swap.{long_line}
use Rattle.turns.specs.Takeover.{Next, reads, again, ended, stopped, is_reads, kept, acts, rests, Standing}
use Rattle.turns.specs.Takeover.{reached, follows, turned, rested, turn, Flow, piece, flows, run, start}
use Rattle.turns.specs.MovesTurns.{weight}
use Rattle.turns.proofs.MovesTurns.{line-some, Rooms, moves}
use Rattle.turns.specs.Ends.{is_over}

-- a further line is taken at the position that a turn begins at
goes_first : (after : ℕ) (numbered : Bool) (p : ℕ) → goes_of after numbered p p ≡ true
unfolding goes_of pick
goes_first after numbered p = go (ltb p after) (numbered && ltb p last_number) refl
  where
    go : (b c : Bool) → ltb p after ≡ b → pick b (ltb p after) (pick c (ltb p (suc p)) true) ≡ true
    go true c e = e
    go false true e = lt-ltb p (suc p) (omega arith)
    go false false e = refl

cut-some : (t : List ℕ) → 0 < length (cut t) → 0 < length t
unfolding cut cut_from
cut-some [] h = absurd (omega arith)
cut-some (c ∷ t) h = omega arith

kept-most : (cap : ℕ) (n : Next) (left : List ℕ) → length (kept cap n left) ≤ length left
unfolding kept pick
kept-most cap n left = go (is_reads n && eqb (length left) cap)
  where
    go : (b : Bool) → length (pick b (take long_line left) left) ≤ length left
    go true = simp length-take (omega arith)
    go false = omega arith

module _ (M : Machine) (𝓡 : Rooms M) (after : ℕ) (numbered : Bool) (room cap : ℕ) (h : answer_room ≤ room) where
  -- what is still to be done: the octets to come twice, those held, and a turn on what is held
  unfoldable pub work : Flow M after numbered room cap → ℕ
  work f = 2 * length f.rem + (length f.standing.held + weight f.standing.next)

  again-took : (s : M.S) (t : List ℕ)
      → follows M after numbered room cap s (reached M after numbered room cap s t) ≡ again
      → (0 < (reached M after numbered room cap s t).taken) × (0 < length t)
  unfolding follows reached replay_while cut
  again-took s t e =
      let m = moves M 𝓡 (goes_of after numbered (M.pos s)) room s (cut t) (line-some [] t) h
      (goes_first after numbered (M.pos s)) e in
      (m.0, cut-some t m.1)

  -- a turn that replays ends the takeover, or leaves no more than the text, with one line less where another turn on
  -- it follows
  turned-less : (x : Standing M.S) (t : List ℕ) (y : Standing M.S)
      → y ≡ turned M after numbered room cap x t (reached M after numbered room cap x.state t)
      → (is_over y.next ≡ true) ⊎ (length y.held + weight y.next ≤ length t)
  unfolding turned is_over weight
  turned-less x t y q = rw q (go (follows M after numbered room cap x.state end) refl)
    where
      end : Reached M.S
      end = reached M after numbered room cap x.state t

      go : (n : Next) → follows M after numbered room cap x.state end ≡ n
          → (is_over (follows M after numbered room cap x.state end) ≡ true)
          ⊎ (length (kept cap (follows M after numbered room cap x.state end) (drop end.taken t)) + weight
          (follows M after numbered room cap x.state end) ≤ length t)
      go n e = rw e (each n e)
        where
          left : length (drop end.taken t) ≡ length t - end.taken
          left = length-drop end.taken t

          each : (m : Next) → follows M after numbered room cap x.state end ≡ m
              → (is_over m ≡ true) ⊎ (length (kept cap m (drop end.taken t)) + weight m ≤ length t)
          each reads p = inr (omega (arith, kept-most cap reads (drop end.taken t), left))
          each again p = inr
              (let z = again-took x.state t p in omega
              (arith, kept-most cap again (drop end.taken t), left, z.0, z.1))
          each ended p = inl refl
          each (stopped k) p = inl refl

  -- the flow with its parts named
  abbrev at : M.S → List ℕ → Next → ℕ → ℕ → List ℕ → List ℕ → Flow M after numbered room cap
  at s hold n lines executed wrote rem =
      record {
        standing = record { state = s; held = hold; next = n; lines = lines; executed = executed };
        wrote = wrote;
        rem = rem;
      }

  -- Every turn ends the takeover, or leaves less to be done.
  less-at : (n : Next) (s : M.S) (hold rem wrote : List ℕ) (lines executed size : ℕ) → is_over n ≡ false
      → (is_over (flows M after numbered room cap size (at s hold n lines executed wrote rem)).standing.next ≡ true)
      ⊎ (work (flows M after numbered room cap size (at s hold n lines executed wrote rem)) < work
      (at s hold n lines executed wrote rem))
  unfolding flows turn piece is_reads acts rests rested is_over weight work pick
  less-at reads s hold rem wrote lines executed size e = go (eqb (length u) 0) refl
    where
      u : List ℕ
      u = take (suc size) rem

      x : Standing M.S
      x = record { state = s; held = hold; next = reads; lines = lines; executed = executed }

      y : Standing M.S
      y = turned M after numbered room cap x (hold ++ u) (reached M after numbered room cap s (hold ++ u))

      go : (b : Bool) → eqb (length u) 0 ≡ b
          → (is_over (pick (not b) y (rested M after numbered room cap x)).next ≡ true)
          ⊎ (2 * length (drop (length u) rem) +
          (length (pick (not b) y (rested M after numbered room cap x)).held + weight
          (pick (not b) y (rested M after numbered room cap x)).next) < 2 * length rem + (length hold + 0))
      go true q = inl refl
      go false q = more (turned-less x (hold ++ u) y refl)
        where
          more : (is_over y.next ≡ true) ⊎ (length y.held + weight y.next ≤ length (hold ++ u))
              → (is_over y.next ≡ true)
              ⊎ (2 * length (drop (length u) rem) + (length y.held + weight y.next) < 2 * length rem +
              (length hold + 0))
          more (inl p) = inl p
          more (inr p) =
              let a : length (hold ++ u) ≡ length hold + length u = length-append hold u in
              let b : length (drop (length u) rem) ≡ length rem - length u = length-drop (length u) rem in
              let c : length u ≤ length rem = simp length-take (omega arith) in
              let d : length u ≡ 0 → ⊥ = eqb-false (length u) 0 q in
              inr (cases-le 1 (length u) (λ (w : 1 ≤ length u). omega (arith, a, b, c, p))
              (λ (w : length u < 1). absurd (d (omega arith))))
  less-at again s hold rem wrote lines executed size e = more (turned-less x (hold ++ []) y refl)
    where
      x : Standing M.S
      x = record { state = s; held = hold; next = again; lines = lines; executed = executed }

      y : Standing M.S
      y = turned M after numbered room cap x (hold ++ []) (reached M after numbered room cap s (hold ++ []))

      more : (is_over y.next ≡ true) ⊎ (length y.held + weight y.next ≤ length (hold ++ []))
          → (is_over y.next ≡ true)
          ⊎ (2 * length rem + (length y.held + weight y.next) < 2 * length rem + (length hold + 1))
      more (inl p) = inl p
      more (inr p) = let a : length (hold ++ []) ≡ length hold =
          ap length (append-nil hold) in inr (omega (arith, a, p))
  less-at ended s hold rem wrote lines executed size e = inl refl
  less-at (stopped k) s hold rem wrote lines executed size e = inl refl

  -- one that has ended stays so
  over-at : (n : Next) (s : M.S) (hold rem wrote : List ℕ) (lines executed size : ℕ) → is_over n ≡ true
      → is_over (flows M after numbered room cap size (at s hold n lines executed wrote rem)).standing.next ≡ true
  unfolding flows turn piece is_reads acts rests rested is_over pick
  over-at reads s hold rem wrote lines executed size e = absurd (false≢true e)
  over-at again s hold rem wrote lines executed size e = absurd (false≢true e)
  over-at ended s hold rem wrote lines executed size e = refl
  over-at (stopped k) s hold rem wrote lines executed size e = refl

  over-run : (sizes : List ℕ) (f : Flow M after numbered room cap) → is_over f.standing.next ≡ true
      → is_over (run M after numbered room cap sizes f).standing.next ≡ true
  unfolding run
  over-run [] f e = e
  over-run (n ∷ ns) f e =
      let x : Standing M.S = f.standing in
      over-run ns (flows M after numbered room cap n f)
      (over-at x.next x.state x.held f.rem f.wrote x.lines x.executed n e)

  -- So many turns end it as there is work, and one.
  pub run_ends_lem : (sizes : List ℕ) (f : Flow M after numbered room cap) → work f < length sizes
      → is_over (run M after numbered room cap sizes f).standing.next ≡ true
  unfolding run
  run_ends_lem [] f b = absurd (omega arith)
  run_ends_lem (n ∷ ns) f b =
      go (is_over f.standing.next) refl (λ w. run_ends_lem ns (flows M after numbered room cap n f) w)
    where
      x : Standing M.S
      x = f.standing

      step : (is_over (flows M after numbered room cap n f).standing.next ≡ true)
          ⊎ (work (flows M after numbered room cap n f) < work f)
          → (work (flows M after numbered room cap n f) < length ns
          → is_over (run M after numbered room cap ns (flows M after numbered room cap n f)).standing.next ≡ true)
          → is_over (run M after numbered room cap ns (flows M after numbered room cap n f)).standing.next ≡ true
      step (inl p) r = over-run ns (flows M after numbered room cap n f) p
      step (inr p) r = r (omega arith)

      go : (c : Bool) → is_over f.standing.next ≡ c
          → (work (flows M after numbered room cap n f) < length ns
          → is_over (run M after numbered room cap ns (flows M after numbered room cap n f)).standing.next ≡ true)
          → is_over (run M after numbered room cap ns (flows M after numbered room cap n f)).standing.next ≡ true
      go true q r = over-run ns (flows M after numbered room cap n f)
          (over-at x.next x.state x.held f.rem f.wrote x.lines x.executed n q)
      go false q r = step (less-at x.next x.state x.held f.rem f.wrote x.lines x.executed n q) r
