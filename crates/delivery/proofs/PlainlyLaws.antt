-- Demand 3 as firmware sees it of sessions in which no edition was accepted after the save: document 01's, as it is
-- without T-12. The standby calls replay alone. It follows from the claim with additions (Firmware, Linked). Document
-- 01, Sessions and failover; document 02, T-12. Assumes nothing.
use Rattle.std.specs.Prelude.{ℕ, suc, ◌+◌, ◌-◌, ◌≤◌, ◌<◌, ◌≡◌, refl, Bool, ◌⊎◌, List, [], ◌∷◌, ◌++◌, map, length, take, drop}
use Rattle.std.proofs.Common.{sym, ap, ◌∙◌, subst}
use Rattle.laws.specs.Put.{put}
use Rattle.laws.specs.Tests.{pick}
use Rattle.rule.specs.Claim.{ByHistory}
use Rattle.sessions.specs.Machine.{answer_room}
use Rattle.sessions.specs.Session.{image}
use Rattle.sessions.specs.Saved.{cut}
use Rattle.model.specs.Sound.{sound_settings}
use Rattle.model.specs.Block.{model_of}
use Rattle.model.proofs.Radio.{radio}
use Rattle.editions.specs.Editions.{Edition, is_image_on}
use Rattle.wholes.specs.Engine.{engine, begin, block_in}
use Rattle.replays.specs.Into.{replay_into}
use Rattle.bournejade.specs.Gives.{Gave, ReplayGave}
use Rattle.failover.specs.Demand3.{pairs_in}
use Rattle.delivery.specs.Firmware.{Step, Seen, Heard, heard_in, accepted_in, kept_from, answers_of, frames_kept, ReplayCall, StandbyMove, replays, MovesWhile, MovesTo, Moves, given_in, InTime, with_editions, Go, Busy, turns_in, written_in, TakenOver}
use Rattle.delivery.proofs.LinkedLaws.{taken-over}

-- calls of replay alone
abbrev pub turns : List ReplayCall → List StandbyMove
turns xs = map replays xs

-- The clauses of `Firmware.TakenOver` without editions.
pub record TakenOverPlain (before later : List Heard) (at end img : List ℕ) : Type 0 where
  pub restored : (b : List ℕ) (r : ℕ) → r ≡ pick (is_image_on img) 0 10 → b ≡ block_in (is_image_on img) img
      → (r ≡ 0) × (b ≡ at)
  pub goes_on :
      (j : ℕ) → 1 ≤ j → j ≤ length before + 1 → (out b left : List ℕ) (m n r : ℕ)
      → ReplayGave (replay_into engine (length out) at (kept_from j (before ++ later))) out b left m n r
      → length (answers_of later) + answer_room ≤ length out
      → (r ≡ 0) × (b ≡ end) × (left ≡ put out 0 (answers_of later)) × (n ≡ length (answers_of later))
  pub in_turns :
      (j : ℕ) → 1 ≤ j → j ≤ length before + 1 → (xs : List ReplayCall) (b rest : List ℕ)
      → Moves at (kept_from j (before ++ later)) (turns xs) b rest
      → Go (turns xs) × (cut rest ≡ [] → (b ≡ end) × (written_in (turns xs) ≡ answers_of later))
  pub ends :
      (goes : ℕ → Bool) (j : ℕ) → 1 ≤ j → j ≤ length before + 1 → (xs : List ReplayCall) (b rest : List ℕ)
      → MovesWhile goes at (kept_from j (before ++ later)) (turns xs) b rest → Busy goes at (turns xs)
      → length xs ≤ length (cut (kept_from j (before ++ later)))
  pub once :
      (d j : ℕ) → 1 ≤ j → j ≤ length before + 1 → (xs ys : List ReplayCall) (c b between rest : List ℕ)
      → MovesTo d at (kept_from j (before ++ later)) (turns xs) c between → (d ≤ (model_of c).position)
      ⊎ (cut between ≡ [])
      → Moves c between (turns ys) b rest
      → Go (turns xs) × Go (turns ys)
      × (cut rest ≡ [] → (b ≡ end) × (written_in (turns ys) ≡ answers_of (drop (d - length before) later)))
  pub gapped :
      (j : ℕ) → length before + 1 < j → j ≤ length before + length later → (out b left : List ℕ) (m n r : ℕ)
      → ReplayGave (replay_into engine (length out) at (kept_from j (before ++ later))) out b left m n r
      → answer_room ≤ length out
      → (r ≡ 2) × (b ≡ at) × (left ≡ out) × (m ≡ 0) × (n ≡ 0)
  pub watched :
      (out left : List ℕ) (n : ℕ) → Gave (image engine (length out) end) end out end left n 0
      → ByHistory radio (frames_kept (before ++ later)) (pairs_in (take n left))

-- calls of replay give no edition
none-given : (xs : List ReplayCall) → given_in (turns xs) ≡ []
unfolding given_in
none-given [] = refl
none-given (x ∷ xs) = none-given xs

turns-count : (xs : List ReplayCall) → turns_in (turns xs) ≡ length xs
unfolding turns_in
turns-count [] = refl
turns-count (x ∷ xs) = ap suc (turns-count xs)

nothing-due : (given : List Edition) (p : ℕ) → given ≡ [] → InTime [] given [] p
nothing-due given p e = record { order = sym (ap (λ (l : List Edition). l ++ []) e); not_late = tt }

plainly : (before later : List Heard) (at end img : List ℕ) → TakenOver before later [] at end img
    → TakenOverPlain before later at end img
unfolding with_editions
plainly before later at end img t =
    record {
      restored = t.restored;
      goes_on = t.goes_on;
      in_turns = λ j h i xs b rest k.
          let r = t.in_turns j h i (turns xs) b rest [] k
          (nothing-due (given_in (turns xs)) (model_of b).position (none-given xs)) in
          (r.0, λ e. r.1 e refl);
      ends = λ goes j h i xs b rest k y.
          subst (λ (n : ℕ). n ≤ length (cut (kept_from j (before ++ later)))) (turns-count xs)
          (t.ends goes j h i (turns xs) b rest [] k
          (nothing-due (given_in (turns xs)) (model_of b).position (none-given xs)) y);
      once = λ d j h i xs ys c b between rest k e f.
          let r = t.once d j h i (turns xs) (turns ys) c b between rest [] k e f
          (nothing-due (given_in (turns xs) ++ given_in (turns ys)) (model_of b).position
          (ap (λ (l : List Edition). l ++ given_in (turns ys)) (none-given xs) ∙ none-given ys)) in
          (r.0, r.1, λ z. r.2 z refl);
      gapped = λ j h i out b left m n r p big. t.gapped j h i [] [] refl out b left m n r p big;
      watched = t.watched;
    }

-- It holds of every session in which no edition was accepted after the save.
pub taken-over-plain : (opcode : ℕ) (prefix fresh : List ℕ) (r : ℕ) → r ≡ pick (sound_settings opcode prefix) 0 9
    → fresh ≡ begin opcode prefix → r ≡ 0
    → (before later : List Step) (out left at end : List ℕ) (n : ℕ)
    → Seen fresh before at → Gave (image engine (length out) at) at out at left n 0 → Seen at later end
    → accepted_in later ≡ []
    → TakenOverPlain (heard_in before) (heard_in later) at end (take n left)
taken-over-plain opcode prefix fresh r e f z before later out left at end n b g l none =
    plainly (heard_in before) (heard_in later) at end (take n left)
    (subst (λ (es : List Edition). TakenOver (heard_in before) (heard_in later) es at end (take n left)) none
    (taken-over opcode prefix fresh r e f z before later out left at end n b g l))
