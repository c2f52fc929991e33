-- The tags of a script's calls. Definitions alone.
use Rattle.std.specs.Prelude.{◌≡◌, ℕ, ◌<◌, Result, MatchResult}
use Rattle.calls_run.specs.declared.step.Step.{Step}
use Rattle.calls_run.specs.declared.step.Step.TheVariants.{End, Start, Octets, Line, Save, WriteLine, Restore, FailOver, Replay, Adopt, ReplayTo, Ask, Add}
use Rattle.calls_run.specs.declared.step.UnknownTag.{UnknownTag}

-- the tag of a call, and of a script's end
abbrev pub tag_of : Step → ℕ
tag_of End = 0
tag_of Start = 1
tag_of Octets = 2
tag_of Line = 3
tag_of Save = 4
tag_of WriteLine = 5
tag_of Restore = 6
tag_of FailOver = 7
tag_of Replay = 8
tag_of Adopt = 9
tag_of ReplayTo = 10
tag_of Ask = 11
tag_of Add = 12

-- the call with this tag, or the tag, above every call's
abbrev pub Decodes : ℕ → Result Step UnknownTag → Type 0
Decodes tag r = MatchResult r (λ step. tag_of step ≡ tag) (λ e. (e.0 ≡ tag) × (12 < tag))
