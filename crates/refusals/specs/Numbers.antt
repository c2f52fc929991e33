-- The number of each refusal (document 01, Refusal numbers). Assumes nothing.
use Rattle.std.specs.Prelude.{ℕ}
use Rattle.refusals.specs.declared.Refusal.{Refusal}
use Rattle.refusals.specs.declared.Refusal.TheVariants.{Seen, Gap, Short, NotLine, BadPayload, OtherOpcode, Unsound, BadSettings, NotImage, Full, NotRising, LongPrefix}

-- document 01's number of a refusal, the first column of its table; 8 is not used again (T-11); 13 to 15 are document
-- 02's (T-12)
unfoldable pub number : Refusal → ℕ
number Seen = 1
number Gap = 2
number Short = 3
number NotLine = 4
number BadPayload = 5
number OtherOpcode = 6
number Unsound = 7
number BadSettings = 9
number NotImage = 10
number Full = 13
number NotRising = 14
number LongPrefix = 15
