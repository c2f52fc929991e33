use mathlib.Core.Path.{sym, ◌∙◌}
use Rattle.soundness.specs.BlankLaws.{blank-rest}
use Rattle.soundness.proofs.rest_sound.Goals as goal

pub returns-then-is_blank : goal.returns-then-is_blank
returns-then-is_blank c = blank-rest c.args.r.now c.requires.1 (sym c.is_blank.ensures ∙ c.if-is_blank.true) _ _ _
    c.ticks_sound.ensures

pub returns : goal.returns
unfolding Rattle.soundness.specs.Fields.sifts_at
returns c = rw (c.get32-position.ensures, c.filtering_of-filtering.ensures) at
    c.held_window_sound.ensures
