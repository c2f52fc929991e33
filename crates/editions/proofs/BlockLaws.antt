-- Laws of the definitions in Block.
use Rattle.std.specs.Prelude.{ℕ, ◌-◌, ◌≤◌, ◌<◌, ◌≡◌, refl, true, leb, length, get_or, replicate}
use Rattle.std.proofs.Common.{sym, ap, ◌∙◌, arith, leb-true, length-append, take_at}
use mathlib.Core.List.{List, [], ◌∷◌, ◌++◌, append_assoc}
use Rattle.std.proofs.lemmas.List.{get_or_at}
use Rattle.laws.specs.TestsLaws.{and_left, and_right, and_both, eq-sames}
use Rattle.laws.specs.Loops.{every}
use Rattle.octets.specs.Little.{little, octets_of}
use Rattle.octets.specs.LittleLaws.{length-octets}
use Rattle.rule.specs.Base.{All}
use Rattle.sessions.specs.Machine.{last_number}
use Rattle.model.specs.Sound.{octets_up_to}
use Rattle.model.specs.Layout.{most_prefix}
use Rattle.model.specs.Block.{pad_to}
use Rattle.steps.specs.FactsLaws.{up-to}
use Rattle.blocks.specs.RowsLaws.{little-in, length-pad_to}
use Rattle.editions.specs.Editions.{Edition, most_editions, sound_edition, sound_editions, edition_row, edition_in}
use Rattle.editions.proofs.FactsLaws.{Kept, kept_of_lem}
use Rattle.editions.specs.Table.{table_of}
use Rattle.editions.specs.TableLaws.{length-table, read_table}
use Rattle.editions.specs.Block.{edition_size, edition_count_at, edition_block, editions_of, sound_block, editions_size}

abbrev Fits : Edition → Type 0
Fits e = sound_edition e ≡ true

row-short : (e : Edition) → Fits e → length (edition_row e) ≤ edition_size
unfolding sound_edition edition_row
row-short e s =
    let u = up-to most_prefix e.prefix
    (and_right (leb e.from last_number) (octets_up_to most_prefix e.prefix) s) in
    let k : length (octets_of 4 e.from) ≡ 4 = length-octets 4 e.from in
    let n = length-append (octets_of 4 e.from) (length e.prefix ∷ e.prefix) in
    omega (arith, u.0, n)

row-long : (e : Edition) → Fits e → length (pad_to edition_size (edition_row e)) ≡ edition_size
row-long e s = length-pad_to edition_size (edition_row e) (row-short e s)

row_read : (e : Edition) → Fits e → edition_in (pad_to edition_size (edition_row e)) ≡ e
unfolding sound_edition edition_in edition_row octets_of pad_to last_number
row_read e s =
    let h : e.from ≤ last_number =
    leb-true e.from last_number (and_left (leb e.from last_number) (octets_up_to most_prefix e.prefix) s) in
    let z : List ℕ = replicate (edition_size - length (edition_row e)) 0 in
    let b : e.from < 4294967296 = omega arith in
    let f : little 4 (octets_of 4 e.from ++ (length e.prefix ∷ (e.prefix ++ z))) 0 ≡ e.from =
    little-in 4 [] e.from (length e.prefix ∷ (e.prefix ++ z)) 0 refl b in
    rw (f, take_at e.prefix z (length e.prefix) refl)

all_fit : (es : List Edition) → every sound_edition es ≡ true → All Fits es
unfolding every
all_fit [] s = tt
all_fit (e ∷ es) s = (
  and_left (sound_edition e) (every sound_edition es) s,
  all_fit es
      (and_right (sound_edition e) (every sound_edition es) s),
)

-- the editions that their block holds
pub editions-held : (es : List Edition) → sound_editions es ≡ true → (t : List ℕ)
    → editions_of (edition_block es ++ t) ≡ es
unfolding editions_of edition_block
editions-held es s t =
    let k : Kept es = kept_of_lem es s in
    let f : All Fits es = all_fit es k.fit in
    let x : List ℕ = table_of edition_size most_editions edition_row es in
    let a : (x ++ (length es ∷ [])) ++ t ≡ x ++ (length es ∷ t) = append_assoc x (length es ∷ []) t in
    let n : length x ≡ edition_count_at = length-table edition_size most_editions edition_row Fits row-long es f
    k.room in
    let c : get_or (x ++ (length es ∷ t)) edition_count_at 0 ≡ length es = get_or_at x (length es) t 0 edition_count_at n in
    rw (a, c) (read_table edition_size most_editions edition_row Fits row-long edition_in row_read es f k.room
    (length es ∷ t))

-- a block of editions is sound where it is that of sound ones
pub block-sound : (es : List Edition) → sound_editions es ≡ true → sound_block (edition_block es) ≡ true
unfolding sound_block
block-sound es s =
    let h : editions_of (edition_block es) ≡ es =
    ap editions_of (sym (mathlib.Core.List.append-nil (edition_block es))) ∙ editions-held es s [] in
    rw h (and_both s (eq-sames (edition_block es) (edition_block es) refl))

pub length-edition_block : (es : List Edition) → sound_editions es ≡ true → length (edition_block es) ≡ editions_size
unfolding edition_block
length-edition_block es s =
    let k : Kept es = kept_of_lem es s in
    let n : length (table_of edition_size most_editions edition_row es) ≡ edition_count_at =
    length-table edition_size most_editions edition_row Fits row-long es (all_fit es k.fit) k.room in
    length-append (table_of edition_size most_editions edition_row es) (length es ∷ []) ∙ omega arith

-- .. and what holds them
pub editions-in : (es : List Edition) → sound_editions es ≡ true → editions_of (edition_block es) ≡ es
editions-in es s = ap editions_of (sym (mathlib.Core.List.append-nil (edition_block es))) ∙ editions-held es s []
