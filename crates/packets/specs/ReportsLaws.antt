-- Laws of the definitions in Reports.
use Rattle.std.specs.Prelude.{◌≡◌, ℕ, Bool, true, ◌||◌, List, map, ◌≢◌}
use Rattle.std.proofs.Math.Path.{sym, ap₂}
use Rattle.std.proofs.Common.{◌∙◌, eq-eqb, ne_eqb}
use Rattle.model.specs.Types.{Model, Packet}
use Rattle.model.specs.Watch.{packet_move, turns_answer, starts_of, reported}
use Rattle.model.specs.Layout.{most_monitors}
use Rattle.packets.specs.Reports.{held_told, starts_told}

module _ (m : Model) (p : Packet) where
  -- what its turns write
  abbrev pub turns_of : List ℕ
  turns_of = turns_answer m.prefix m.mons p most_monitors (map (packet_move m.mons p) m.pairs)

  pub reported-off : m.filter ≡ 0 → true ≡ reported m p
  unfolding reported
  reported-off e = rw (eq-eqb m.filter 0 e)

  pub reported-on : {r a b : Bool} → (m.filter ≢ 0) → a ≡ (held_told m p) → b ≡ (starts_told m p) → r ≡ (a || b)
      → r ≡ reported m p
  unfolding reported starts_of
  reported-on {r} {a} {b} n e f q = q ∙ ap₂ ◌||◌ e f ∙ sym (rw (ne_eqb m.filter 0 n))
