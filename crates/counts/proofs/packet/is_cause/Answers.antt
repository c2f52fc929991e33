use mathlib.Core.Path.{sym, ap, ◌∙◌}
use mathlib.Core.Bool.{Bool, ◌||◌, ◌&&◌}
use Rattle.marks.specs.Marks.{allowed}
use Rattle.model.specs.Frames.{packet_of}
use Rattle.counts.specs.Causes.{wanted}
use Rattle.counts.specs.Turns.{allowed-by}
use Rattle.counts.proofs.packet.is_cause.Goals as goal

pub returns-then-is_wanted : goal.returns-then-is_wanted
returns-then-is_wanted c = let a = c.args in
    λ m h dev acts w g low is o. ap (λ (t : Bool). t || (a.start && allowed a.a))
    (sym c.if-is_wanted.true ∙ c.is_wanted.ensures m h dev acts w g low is o)

pub returns : goal.returns
returns c = let a = c.args in
    λ m h dev acts w g low is o. allowed-by a.a a.start (wanted m (packet_of a.payload.now) h)
    (sym (c.is_wanted.ensures m h dev acts w g low is o) ∙ c.if-is_wanted.false)
