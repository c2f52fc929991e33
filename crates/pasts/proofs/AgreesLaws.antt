-- What past frames say of the state and of the next answer is what document 01's engine holds and writes, for every
-- past. Assumes nothing.
use Rattle.std.specs.Prelude.{ℕ, ◌≡◌, false, length}
use Rattle.std.proofs.Math.Path.{refl, sym, ap}
use Rattle.std.proofs.Common.{◌∙◌}
use Rattle.std.proofs.Math.Bool.{Bool, not}
use mathlib.Core.List.{List, [], ◌∷◌, map}
use Rattle.std.proofs.Math.Option.{none}
use Rattle.std.proofs.Math.Numerals.{add-one}
use Rattle.laws.specs.Tests.{pick}
use Rattle.laws.specs.Loops.{keep}
use Rattle.rule.specs.Base.{All}
use Rattle.rule.specs.BaseLaws.{none≢some}
use Rattle.rule.specs.Engine.{find}
use Rattle.steps.specs.ListsLaws.{all-weaken}
use Rattle.model.specs.Types.{Model, Packet, Pair, moved, with_lists}
use Rattle.model.specs.Frames.{Typed, command, packet, tick, bad}
use Rattle.model.specs.Commands.{commanded}
use Rattle.model.specs.Step.{step_typed}
use Rattle.model.specs.Watch
use Rattle.model.specs.Layout.{most_monitors}
use Rattle.pasts.specs.ListsLaws.{all_keep, keep-map, map-agree}
use Rattle.pasts.specs.Pair.{Start, cancels, pair_of}
use Rattle.pasts.specs.Past.{enables, filter_after, monitors_after, offers, pair_after, since_start, history_state, watch}
use Rattle.pasts.proofs.PairsLaws.{pair-command}
use Rattle.pasts.proofs.MonitorsLaws.{is_cancel, monitors-more, mons_by, taken}
use Rattle.pasts.proofs.CommandsLaws.{command-result, others, result}
use Rattle.pasts.proofs.DeedsLaws.{since-more}
use Rattle.pasts.proofs.WatchingLaws.{watch-command, watch-packet, watch-tick}
use Rattle.pasts.proofs.MovesLaws.{Watched, first-is, found-by, tick-moves, turns-is, watched-all}

module _ (opcode : ℕ) (prefix : List ℕ) (past : List Typed) where
  abbrev S : Model
  S = history_state opcode prefix past

  live-pairs : All (λ (q : Pair). find S.mons q.handle ≡ none → ⊥) S.pairs
  unfolding history_state
  live-pairs = go (watch past) (watched-all past)
    where
      go : (l : List Start) → All (Watched past) l
          → All (λ (q : Pair). find (monitors_after past) q.handle ≡ none → ⊥) (map (pair_after past) l)
      go [] a = tt
      go (s ∷ l) a = (λ e. none≢some (sym e ∙ found-by past s a.0), go l a.1)

  -- a frame that is no command leaves the monitors
  still : (f : Typed) → is_cancel f ≡ false → offers f ≡ none → mons_by f (monitors_after past) ≡ monitors_after past
  unfolding mons_by pick taken
  still f c n = rw (c, n)

  -- a command
  same-pair : (o : ℕ) (l : List ℕ) (s : Start) → Watched past s → pair_after (command o l ∷ past) s ≡ pair_after past s
  unfolding pair_after
  same-pair o l s w = ap (pair_of s) (since-more s (command o l) past w.old) ∙ pair-command s o l (since_start s past)

  command-pairs : (o : ℕ) (l : List ℕ) → map (pair_after (command o l ∷ past)) (watch (command o l ∷ past))
      ≡ keep (others (command o l)) (map (pair_after past) (watch past))
  unfolding others pair_after pair_of
  command-pairs o l =
      let F : Start → Bool = λ s. not (cancels s.handle (command o l)) in
      let w : List Start = keep F (watch past) in
      ap (map (pair_after (command o l ∷ past))) (watch-command past o l)
      ∙ map-agree (pair_after (command o l ∷ past)) (pair_after past) w
      (all-weaken (Watched past) (λ s. pair_after (command o l ∷ past) s ≡ pair_after past s) (same-pair o l) w
      (all_keep (Watched past) F (watch past) (watched-all past)))
      ∙ sym (keep-map (pair_after past) (others (command o l)) (watch past))

  pub state-command : (o : ℕ) (l : List ℕ) → history_state opcode prefix (command o l ∷ past) ≡ moved (commanded S l)
  unfolding history_state moved result filter_after
  state-command o l =
      rw (command-result S o l live-pairs, command-pairs o l, monitors-more (command o l) past, add-one (length past))

  -- a tick
  pub state-tick : history_state opcode prefix (tick ∷ past) ≡ moved (with_lists S S.mons (Watch.tick_pairs S))
  unfolding history_state moved with_lists filter_after enables pick Watch.tick_pairs is_cancel offers
  state-tick = rw (
    watch-tick past,
    tick-moves past,
    monitors-more tick past,
    add-one (length past),
    still tick refl
        refl,
  )

  -- a packet
  pub state-packet : (p : Packet)
      → history_state opcode prefix (packet p ∷ past) ≡ moved (with_lists S S.mons (Watch.packet_pairs S p))
  unfolding history_state moved with_lists filter_after enables pick Watch.packet_pairs is_cancel offers
  state-packet p =
      rw (
        watch-packet past p,
        first-is past p,
        turns-is past p most_monitors,
        monitors-more (packet p) past,
        add-one
            (length past),
        still (packet p) refl refl,
      )

  pub state-more : (f : Typed) → (f ≡ bad → ⊥) → history_state opcode prefix (f ∷ past) ≡ step_typed S f
  unfolding step_typed
  state-more (command o l) n = state-command o l
  state-more (packet p) n = state-packet p
  state-more tick n = state-tick
  state-more bad n = absurd (n refl)
