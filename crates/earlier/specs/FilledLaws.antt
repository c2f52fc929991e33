-- Rows of editions, one after another, have their length.
use Prim.Native.Nat.{◌-◌, ◌*◌, ◌≤◌}
use Rattle.std.specs.Prelude.{◌≡◌, true, leb}
use Rattle.std.proofs.Math.Path.{refl}
use Rattle.std.proofs.Common.{◌∙◌}
use mathlib.Core.List.{List, [], ◌∷◌, map}
use native.Mathlib.Omega.{arith}
use Rattle.std.proofs.Math.ListN.{length, length-append}
use Rattle.laws.specs.TestsLaws.{and_left, and_right}
use Rattle.laws.specs.Loops.{every}
use Rattle.laws.specs.Rows.{flat}
use Rattle.sessions.specs.Machine.{last_number}
use Rattle.model.specs.Sound.{octets_up_to}
use Rattle.model.specs.Layout.{most_prefix}
use Rattle.blocks.specs.RowsLaws.{length-pad_to}
use Rattle.steps.specs.FactsLaws.{up-to}
use Rattle.editions.specs.Editions.{Edition, sound_edition, edition_row}
use Rattle.editions.specs.Block.{edition_size}
use Rattle.prefixes.specs.Laid.{placed}
use Rattle.prefixes.specs.LaidLaws.{row_fits_lem}

short-of : (e : Edition) → sound_edition e ≡ true → length e.prefix ≤ most_prefix
unfolding sound_edition
short-of e f = (up-to most_prefix e.prefix
    (and_right (leb e.from last_number) (octets_up_to most_prefix e.prefix) f)).0

pub rows_long : (es : List Edition) → every sound_edition es ≡ true → length (flat (map placed es)) ≡ edition_size * length es
unfolding flat every
rows_long [] f = refl
rows_long (e ∷ es) f =
    let b = row_fits_lem e (short-of e (and_left (sound_edition e) (every sound_edition es) f)) in
    let c : length (placed e) ≡ edition_size = length-pad_to edition_size (edition_row e) b in
    let r : length (flat (map placed es)) ≡ edition_size * length es =
    rows_long es (and_right (sound_edition e) (every sound_edition es) f) in
    length-append (placed e) (flat (map placed es)) ∙ omega arith
