-- A session without additions is a session of document 01, and its replay is replay: what is claimed with additions
-- holds as before without. Document 02, T-12. Assumes nothing.
use Rattle.std.specs.Prelude.{◌≡◌, ℕ, zero, suc}
use Rattle.std.proofs.Math.Path.{refl, ap}
use Rattle.std.proofs.Common.{◌∙◌}
use mathlib.Core.List.{List, [], ◌∷◌, ◌++◌, map}
use Rattle.sessions.specs.Machine.{Machine}
use Rattle.sessions.specs.Session.{Entry, Call, after, ran, walk, trace, executed, answers, journal}
use Rattle.sessions.specs.Saved.{Replayed, replay_lines}
use Rattle.sessions.specs.Additions.{Growing, Act, call, after_act, reply_to, walk_on, ran_by, trace_on, added_by, added_on, Step, line, lines_in, added_in, InTime, replay_on, answers_on, journal_on}

module _ (M : Machine) (G : Growing M) where
  pub plain_walk : (s : M.S) (cs : List Call) → walk_on M G s (map call cs) ≡ walk M s cs
  unfolding walk_on walk after_act reply_to after
  plain_walk s [] = refl
  plain_walk s (c ∷ cs) = plain_walk (after M s c) cs

  pub plain-trace : (s : M.S) (cs : List Call) → trace_on M G s (map call cs) ≡ trace M s cs
  unfolding trace_on trace ran_by after_act reply_to after
  plain-trace s [] = refl
  plain-trace s (c ∷ cs) = ap {B = List (Entry M.Body)} (λ l. ran M s c ++ l) (plain-trace (after M s c) cs)

  pub plain-added : (s : M.S) (cs : List Call) → added_on M G s (map call cs) ≡ []
  unfolding added_on added_by
  plain-added s [] = refl
  plain-added s (c ∷ cs) = plain-added (after_act M G s (call c)) cs

  pub plain-answers : (s : M.S) (cs : List Call) → answers_on M G s (map call cs) ≡ answers M s cs
  unfolding answers_on answers
  plain-answers s cs = ap (map (λ e. e.wrote)) (plain-trace s cs)

  pub plain-journal : (s : M.S) (cs : List Call) (j : ℕ) → journal_on M G s (map call cs) j ≡ journal M s cs j
  unfolding journal_on journal executed
  plain-journal s cs j = rw (plain-trace s cs)

  -- lines alone
  pub plain_lines : (ls : List (List ℕ)) → lines_in M G (map line ls) ≡ ls
  unfolding lines_in
  plain_lines [] = refl
  plain_lines (l ∷ ls) = ap {B = List (List ℕ)} (λ k. l ∷ k) (plain_lines ls)

  pub plain-none : (ls : List (List ℕ)) → added_in M G (map line ls) ≡ []
  unfolding added_in
  plain-none [] = refl
  plain-none (l ∷ ls) = plain-none ls

  pub plain-time : (ls : List (List ℕ)) (n : ℕ) → InTime M G n (map line ls)
  plain-time [] n = tt
  plain-time (l ∷ ls) n = plain-time ls (suc n)

  pub plain-replay : (ls : List (List ℕ)) (lent : ℕ → ℕ) (s : M.S)
      → replay_on M G lent s (map line ls) ≡ replay_lines M lent s ls
  unfolding replay_on replay_lines
  plain-replay [] lent s = refl
  plain-replay (l ∷ ls) lent s =
      ap (Rattle.sessions.specs.Saved.resume s _) (λ i t. plain-replay ls (λ k. lent (suc k)) t i)
