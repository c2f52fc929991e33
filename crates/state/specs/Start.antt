-- What starting a state answers, and the block that it leaves. Document 01, Sizes of the gateway ("Settings at start:
-- vendor opcode 0xFC00 to 0xFFFF, event prefix of 0 to 32 octets") and Refusal numbers (9). Assumes nothing.
use Rattle.refusals.specs.declared.Refusal.{Refusal}
use Rattle.std.specs.Prelude.{ℕ, List, ◌∷◌, ◌++◌, length, ◌==◌, Result, Ok, Err}
use Rattle.laws.specs.Tests.{pick}
use Rattle.octets.specs.Little.{octets_of}
use Rattle.refusals.specs.declared.Refusal.TheVariants.{BadSettings}
use Rattle.model.specs.Types.{blank}
use Rattle.model.specs.Sound.{sound_settings}
use Rattle.model.specs.Block.{padded}
use Rattle.model.specs.Engine.{begin}
use Rattle.model.specs.Layout.{block_size}

-- "9: settings out of range"
unfoldable pub settings_of : ℕ → List ℕ → Result Unit Refusal
settings_of opcode prefix = pick (sound_settings opcode prefix) (Ok tt) (Err BadSettings)

-- the settings as they stand in a block: opcode, prefix length, prefix
abbrev pub settings_row : ℕ → List ℕ → List ℕ
settings_row opcode prefix = octets_of 2 opcode ++ (length prefix ∷ prefix)

-- the blank state's block in the place of another
unfoldable pub blank_in : List ℕ → List ℕ
blank_in s = pick (length s == block_size) (padded blank) s

-- the block that a start leaves in the place of another
unfoldable pub fresh_in : List ℕ → ℕ → List ℕ → List ℕ
fresh_in s opcode prefix = pick (length s == block_size) (begin opcode prefix) s
