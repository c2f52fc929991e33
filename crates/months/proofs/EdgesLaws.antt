-- Rows of examples, both sides, for T-09 and T-10 (document 02), under single claims that the checker computes. A
-- row: frames given one after another as octets, with rows to begin with, what each frame is answered, and the rows
-- at the end. The numbers follow from the document by hand.
use Rattle.std.specs.Prelude.{ℕ, ◌+◌, ◌≡◌, refl, Bool, true, false, ◌&&◌, List, [], ◌∷◌, ◌++◌, eqb, ℤ, pos, negsuc, length, replicate}
use Rattle.std.proofs.Math.Option.{Option, none, some}
use Rattle.std.specs.Int.Signed.{le_z}
use Rattle.laws.specs.Tests.{pick}
use Rattle.laws.specs.Loops.{every}
use Rattle.octets.specs.Little.{octets_of}
use Rattle.totals.specs.declared.Row.{Row}
use Rattle.totals.specs.Two.{every_two, map_two}
use Rattle.totals.specs.Table.{empty, row_fits, row_sum}
use Rattle.totals.specs.Join.{join_of}
use Rattle.sessions.specs.Machine.{Machine, Outcome, refused, done, octets, answer_room}
use Rattle.model.specs.Types.{Model, fresh}
use Rattle.model.specs.Engine.{models}
use Rattle.model.specs.Rows.{Reply, wrote, refusal, reply_of, same, answered, reached, cmd, pkt, tck, tcks, quiet, add_watch, added0, added1, start0, stop0, report60, on, on_answer, add_sampled}
use Rattle.model.specs.Requests.{add_equal, report_at, scn, rep, add_ff, aa, bb}
use Rattle.model.specs.Second.{add_plain, second}
use Rattle.months.specs.Counts.{rows_added}
use Rattle.months.specs.Counted.{Tallied, counted}
use Rattle.months.proofs.CountedLaws.{count_answer}
use Rattle.months.specs.Counting.{no_rows}

-- a row of a handle, by its totals; a whole number below 0
unfoldable pub row : ℕ → ℕ → ℕ → ℤ → Row
row p r t s = record { packets = p; reports = r; ticks = t; sum = s }

unfoldable pub less : ℕ → ℤ
less n = negsuc n

-- the rows of handles 0 and 1, the others empty
unfoldable pub two : Row → Row → List Row
two a b = a ∷ b ∷ replicate 14 empty

-- equal rows
unfoldable pub same_row : Row → Row → Bool
same_row a b =
    eqb a.packets b.packets
    && (eqb a.reports b.reports
    && (eqb a.ticks b.ticks && (le_z a.sum b.sum && le_z b.sum a.sum)))

unfoldable pub same_rows : List Row → List Row → Bool
same_rows a b = eqb (length a) (length b) && every_two same_row a b

pub record Case : Type 0 where
  pub frames : List (List ℕ)
  pub begins : List Row
  pub replies : List Reply
  pub ends : List Row

-- from a fresh state with the opcode 0xFC1E and the prefix 4D 53
unfoldable pub begin : List Row → Tallied Model
begin l = record { state = fresh 0xFC1E (0x4D ∷ 0x53 ∷ []); rows = l }

-- the engine over records, with rows
abbrev counting : Machine
counting = counted models rows_added

unfoldable pub right : Case → Bool
right c =
    answered counting (λ o p. begin no_rows) (begin c.begins) c.frames c.replies
    && same_rows (reached counting (λ o p. begin no_rows) (begin c.begins) c.frames).rows c.ends

-- a packet of another device
unfoldable pub other : ℕ → ℕ → List ℕ
other n rssi = 2 ∷ (octets_of 4 n ++ (0 ∷ 0 ∷ 6 ∷ 5 ∷ 4 ∷ 3 ∷ 2 ∷ 2 ∷ 0 ∷ rssi ∷ []))

unfoldable pub report_other : ℕ → List ℕ
report_other rssi = 0x3E ∷ 0x0C ∷ 0x02 ∷ 0x01 ∷ 0x00 ∷ 0x00 ∷ 6 ∷ 5 ∷ 4 ∷ 3 ∷ 2 ∷ 2 ∷ 0 ∷ rssi ∷ []

-- every packet that matches counts, under watch or not: −75 before the start, −60 that starts, −80 under watch; one
-- of another device does not
unfoldable pub every_match : Case
every_match =
    record {
      frames = cmd 1 add_watch ∷ cmd 2 on ∷ pkt 3 0xB5 ∷ other 4 0xC4 ∷ pkt 5 0xC4 ∷ pkt 6 0xB0 ∷ [];
      begins = no_rows;
      replies = wrote added0 ∷ wrote on_answer ∷ wrote [] ∷ wrote [] ∷ wrote (start0 ++ report60)
          ∷ wrote (report_at 0xB0) ∷ [];
      ends = two (row 3 2 0 (less 214)) empty;
    }

-- a report that is sent only because the filter is off counts for none; the start and the packet under watch count,
-- filter off or not
unfoldable pub filter_off : Case
filter_off =
    record {
      frames = cmd 1 add_watch ∷ pkt 2 0xB5 ∷ other 3 0xC4 ∷ pkt 4 0xC4 ∷ pkt 5 0xC4 ∷ [];
      begins = no_rows;
      replies = wrote added0 ∷ wrote (report_at 0xB5) ∷ wrote (report_other 0xC4) ∷ wrote (start0 ++ report60)
          ∷ wrote report60 ∷ [];
      ends = two (row 3 2 0 (less 194)) empty;
    }

-- sampling 0xFF: the start counts, a packet under watch is reported for no monitor
unfoldable pub start_only : Case
start_only =
    record {
      frames = cmd 1 (add_equal 0xC4 0xC4) ∷ pkt 2 0xC4 ∷ pkt 3 0xC4 ∷ [];
      begins = no_rows;
      replies = wrote added0 ∷ wrote (start0 ++ report60) ∷ wrote report60 ∷ [];
      ends = two (row 2 1 0 (less 119)) empty;
    }

-- "A report caused by several monitors counts for each": two monitors of one device, one report
unfoldable pub several : Case
several =
    record {
      frames = cmd 1 add_watch ∷ cmd 2 add_watch ∷ cmd 3 on ∷ pkt 4 0xC4 ∷ [];
      begins = no_rows;
      replies = wrote added0 ∷ wrote added1 ∷ wrote on_answer
          ∷ wrote (start0 ++
          ((0xFF ∷ 0x0C ∷ 0x4D ∷ 0x53 ∷ 0x02 ∷ 0x00 ∷ 6 ∷ 5 ∷ 4 ∷ 3 ∷ 2 ∷ 1 ∷ 0x01 ∷ 0x01 ∷ []) ++ report60)) ∷ [];
      ends = two (row 1 1 0 (less 59)) (row 1 1 0 (less 59));
    }

-- a window's report counts for its pair's monitor, one that closes while the filter is off has none: sampling 1
unfoldable pub window : Case
window =
    record {
      frames = cmd 1 add_sampled ∷ cmd 2 on ∷ pkt 3 0xC4 ∷ pkt 4 0xC4 ∷ pkt 5 0xC4 ∷ tck 6 ∷ tck 7 ∷ [];
      begins = no_rows;
      replies = wrote added0 ∷ wrote on_answer ∷ wrote (start0 ++ report60) ∷ wrote [] ∷ wrote [] ∷ wrote report60
          ∷ wrote [] ∷ [];
      ends = two (row 3 2 2 (less 179)) empty;
    }

unfoldable pub window_off : Case
window_off =
    record {
      frames = cmd 1 add_sampled ∷ pkt 2 0xC4 ∷ pkt 3 0xC4 ∷ tck 4 ∷ [];
      begins = no_rows;
      replies = wrote added0 ∷ wrote (start0 ++ report60) ∷ wrote report60 ∷ wrote [] ∷ [];
      ends = two (row 2 1 1 (less 119)) empty;
    }

-- "A scan response's report counts as its packet's does": a start of kind 04 counts two, and so does one under watch
unfoldable pub scanned : Case
scanned =
    record {
      frames = cmd 1 (add_ff 0) ∷ cmd 2 on ∷ scn 3 0 aa bb 0xC4 ∷ scn 4 0 aa [] 0xC4 ∷ scn 5 0 bb bb 0xC4 ∷ [];
      begins = no_rows;
      replies = wrote added0 ∷ wrote on_answer ∷ wrote (start0 ++ (rep 0 aa 0xC4 ++ rep 4 bb 0xC4))
          ∷ wrote (rep 0 aa 0xC4 ++ rep 4 [] 0xC4) ∷ wrote [] ∷ [];
      ends = two (row 2 4 0 (less 119)) empty;
    }

-- "A tick is judged after it is done": a tick before the start does not count, 9 after it do, the 10th ends the watch
-- and does not; with a second monitor that stays, its row goes on
unfoldable pub ticked : Case
ticked =
    record {
      frames = cmd 1 (add_equal 0xC4 0xC4) ∷ cmd 2 add_watch ∷ tck 3 ∷ pkt 4 0xC4 ∷ (tcks 10 5);
      begins = no_rows;
      replies = wrote added0 ∷ wrote added1 ∷ wrote []
          ∷ wrote (start0 ++
          ((0xFF ∷ 0x0C ∷ 0x4D ∷ 0x53 ∷ 0x02 ∷ 0x00 ∷ 6 ∷ 5 ∷ 4 ∷ 3 ∷ 2 ∷ 1 ∷ 0x01 ∷ 0x01 ∷ []) ++ report60))
          ∷ (quiet 9 ++ (wrote stop0 ∷ []));
      ends = two (row 1 1 9 (less 59)) (row 1 1 10 (less 59));
    }

-- seen lines count nothing, nor do refused ones: a frame given twice, a gap, a payload of no form
unfoldable pub seen : Case
seen =
    record {
      frames = cmd 1 add_watch ∷ pkt 2 0xC4 ∷ pkt 2 0xC4 ∷ pkt 4 0xC4 ∷ pkt 3 21 ∷ pkt 3 20 ∷ [];
      begins = no_rows;
      replies = wrote added0 ∷ wrote (start0 ++ report60) ∷ refusal 1 ∷ refusal 2 ∷ refusal 5 ∷ wrote (report_at 20)
          ∷ [];
      ends = two (row 2 2 0 (less 39)) empty;
    }

-- "A row covers a handle, across cancels"
unfoldable pub cancelled : Case
cancelled =
    record {
      frames = cmd 1 add_watch ∷ pkt 2 0xC4 ∷ cmd 3 (0x04 ∷ 0 ∷ []) ∷ pkt 4 0xC4 ∷ tck 5 ∷ cmd 6 (add_equal 0xC4 0xC4)
          ∷ pkt 7 0xC4 ∷ tck 8 ∷ [];
      begins = no_rows;
      replies = wrote added0 ∷ wrote (start0 ++ report60) ∷ wrote (0x0E ∷ 0x05 ∷ 0x01 ∷ 0x1E ∷ 0xFC ∷ 0 ∷ 4 ∷ [])
          ∷ wrote report60 ∷ wrote []
          ∷ wrote added0 ∷ wrote (start0 ++ report60) ∷ wrote [] ∷ [];
      ends = two (row 2 2 1 (less 119)) empty;
    }

-- T-13: a duplicate matches and is no reason, filter on or off; report filtering that lets nothing through is none,
-- at a start neither
unfoldable pub duplicates : Case
duplicates =
    record {
      frames = cmd 1 (add_plain 0 0x20 0x03) ∷ cmd 2 (add_plain 0 0x20 0x00) ∷ cmd 3 on ∷ adv_aa 4 ∷ adv_aa 5 ∷ [];
      begins = no_rows;
      replies = second 0 0 ∷ second 0 1 ∷ wrote on_answer
          ∷ wrote (start0 ++
          ((0xFF ∷ 0x0C ∷ 0x4D ∷ 0x53 ∷ 0x02 ∷ 0x00 ∷ 6 ∷ 5 ∷ 4 ∷ 3 ∷ 2 ∷ 1 ∷ 0x01 ∷ 0x01 ∷ []) ++ rep 0 aa 0xC4))
          ∷ wrote [] ∷ [];
      ends = two (row 2 1 0 (less 119)) (row 2 0 0 (less 119));
    }
  where
    adv_aa : ℕ → List ℕ
    adv_aa n = 2 ∷ (octets_of 4 n ++ (0 ∷ 0 ∷ 6 ∷ 5 ∷ 4 ∷ 3 ∷ 2 ∷ 1 ∷ 3 ∷ (aa ++ (0xC4 ∷ []))))

-- refusal 12: packets at 2^64 − 1, one below it; handle 1, which matches too and would have fitted, stays as it was;
-- the frame's number is still free, and what counts nothing for the full row is executed
unfoldable pub packets_full : Case
packets_full =
    record {
      frames = cmd 1 add_watch ∷ cmd 2 add_watch ∷ cmd 3 on ∷ pkt 4 0xB5 ∷ pkt 5 0xB5 ∷ other 5 0xB5 ∷ pkt 6 0xB5 ∷ [];
      begins = two (row 0xFFFFFFFFFFFFFFFE 0 0 (pos 0)) empty;
      replies = wrote added0 ∷ wrote added1 ∷ wrote on_answer ∷ wrote [] ∷ refusal 12 ∷ wrote [] ∷ refusal 12 ∷ [];
      ends = two (row 0xFFFFFFFFFFFFFFFF 0 0 (less 74)) (row 1 0 0 (less 74));
    }

-- reports: two of kind 04 from 2^64 − 3 fit, from 2^64 − 2 they do not, where one would; and one at 2^64 − 1
unfoldable pub reports_full : ℕ → Reply → ℕ → Case
reports_full from says ends =
    record {
      frames = cmd 1 (add_ff 0) ∷ cmd 2 on ∷ scn 3 0 aa bb 0xC4 ∷ [];
      begins = two (row 0 from 0 (pos 0)) empty;
      replies = wrote added0 ∷ wrote on_answer ∷ says ∷ [];
      ends = two (pick (eqb from ends) (row 0 from 0 (pos 0)) (row 1 ends 0 (less 59))) empty;
    }

unfoldable pub two_reports : Reply
two_reports = wrote (start0 ++ (rep 0 aa 0xC4 ++ rep 4 bb 0xC4))

-- ticks at 2^64 − 1, and one below it
unfoldable pub ticks_full : Case
ticks_full =
    record {
      frames = cmd 1 add_watch ∷ cmd 2 on ∷ pkt 3 0xC4 ∷ tck 4 ∷ tck 5 ∷ [];
      begins = two (row 0 0 0xFFFFFFFFFFFFFFFE (pos 0)) empty;
      replies = wrote added0 ∷ wrote on_answer ∷ wrote (start0 ++ report60) ∷ wrote [] ∷ refusal 12 ∷ [];
      ends = two (row 1 1 0xFFFFFFFFFFFFFFFF (less 59)) empty;
    }

-- the sum at 2^63 − 1 takes 0 and −1 but not 1; at −2^63 it takes 0 and 1 but not −1
unfoldable pub sum_high : Case
sum_high =
    record {
      frames = cmd 1 add_watch ∷ cmd 2 on ∷ pkt 3 1 ∷ pkt 4 0 ∷ pkt 4 0 ∷ pkt 5 1 ∷ pkt 5 0xFF ∷ [];
      begins = two (row 0 0 0 (pos 9223372036854775806)) empty;
      replies = wrote added0 ∷ wrote on_answer ∷ wrote (start0 ++ report_at 1) ∷ wrote (report_at 0) ∷ refusal 1
          ∷ refusal 12 ∷ wrote (report_at 0xFF) ∷ [];
      ends = two (row 3 3 0 (pos 9223372036854775806)) empty;
    }

unfoldable pub sum_low : Case
sum_low =
    record {
      frames = cmd 1 add_watch ∷ cmd 2 on ∷ pkt 3 0xFF ∷ pkt 4 0xFF ∷ pkt 4 0 ∷ pkt 5 1 ∷ [];
      begins = two (row 0 0 0 (less 9223372036854775806)) empty;
      replies = wrote added0 ∷ wrote on_answer ∷ wrote (start0 ++ report_at 0xFF) ∷ refusal 12 ∷ wrote (report_at 0)
          ∷ wrote (report_at 1) ∷ [];
      ends = two (row 3 3 0 (less 9223372036854775806)) empty;
    }

-- 12 comes last: with full rows a seen frame is 1, a gap 2, a payload of no form 5, another opcode 6
unfoldable pub last : Case
last =
    record {
      frames = cmd 1 add_watch ∷ pkt 1 0xC4 ∷ pkt 3 0xC4 ∷ pkt 2 21 ∷ (1 ∷ 2 ∷ 0 ∷ 0 ∷ 0 ∷ 0x1F ∷ 0xFC ∷ 1 ∷ 0 ∷ [])
          ∷ pkt 2 0xC4 ∷ [];
      begins = two (row 0xFFFFFFFFFFFFFFFF 0 0 (pos 0)) empty;
      replies = wrote added0 ∷ refusal 1 ∷ refusal 2 ∷ refusal 5 ∷ refusal 6 ∷ refusal 12 ∷ [];
      ends = two (row 0xFFFFFFFFFFFFFFFF 0 0 (pos 0)) empty;
    }

unfoldable pub cases : List Case
cases =
    every_match ∷ filter_off ∷ start_only ∷ several ∷ window ∷ window_off ∷ scanned ∷ ticked ∷ seen ∷ cancelled
    ∷ duplicates ∷ packets_full
    ∷ reports_full 0xFFFFFFFFFFFFFFFD two_reports 0xFFFFFFFFFFFFFFFF
    ∷ reports_full 0xFFFFFFFFFFFFFFFE (refusal 12) 0xFFFFFFFFFFFFFFFE
    ∷ reports_full 0xFFFFFFFFFFFFFFFF (refusal 12) 0xFFFFFFFFFFFFFFFF ∷ ticks_full ∷ sum_high ∷ sum_low ∷ last ∷ []

-- tables of 15, 16 and 17 rows, and outputs of 2,879 and 2,880 octets
pub record Lending : Type 0 where
  pub lent : ℕ
  pub rows : ℕ
  pub says : Reply

unfoldable pub lends : Lending → Bool
lends x =
    same (reply_of (count_answer models rows_added x.lent (fresh 0xFC1E []) (replicate x.rows empty) octets
    (tck 1)))
    x.says

unfoldable pub lendings : List Lending
lendings =
    record { lent = 2880; rows = 16; says = wrote [] } ∷ record { lent = 2880; rows = 15; says = refusal 3 }
    ∷ record { lent = 2880; rows = 17; says = refusal 3 } ∷ record { lent = 2879; rows = 16; says = refusal 3 } ∷ []

-- T-10: two rows, and their join; a refused one gives the empty row
pub record Joins : Type 0 where
  pub one : Row
  pub other : Row
  pub fits : Bool
  pub whole : Row

unfoldable pub joins_right : Joins → Bool
joins_right x = same_row (join_of x.one x.other) x.whole
    && pick x.fits (row_fits x.one x.other) (pick (row_fits x.one x.other) false true)

abbrev pub most : ℤ
most = pos 9223372036854775807

unfoldable pub joins : List Joins
joins =
    record { one = row 1 2 3 (less 3); other = row 10 20 30 (pos 50); fits = true; whole = row 11 22 33 (pos 46) }
    ∷ record {
      one = row 0xFFFFFFFFFFFFFFFE 0 0 most;
      other = row 1 0 0 (pos 0);
      fits = true;
      whole = row 0xFFFFFFFFFFFFFFFF 0 0 most;
    }
    ∷ record { one = row 0xFFFFFFFFFFFFFFFF 5 0 (pos 0); other = row 1 0 0 (pos 0); fits = false; whole = empty }
    ∷ record { one = row 5 0xFFFFFFFFFFFFFFFF 0 (pos 0); other = row 5 1 0 (pos 0); fits = false; whole = empty }
    ∷ record { one = row 5 0 0xFFFFFFFFFFFFFFFF (pos 0); other = row 5 0 1 (pos 0); fits = false; whole = empty }
    ∷ record { one = row 5 0 0 most; other = row 5 0 0 (pos 1); fits = false; whole = empty }
    ∷ record { one = row 5 0 0 (less 9223372036854775807); other = row 5 0 0 (less 0); fits = false; whole = empty }
    ∷ record {
      one = row 5 0 0 (less 9223372036854775807);
      other = row 5 0 0 most;
      fits = true;
      whole = row 10 0 0 (less 0);
    } ∷ []

-- "along the way": three sums 2^63 − 1, 1 and −1, whose whole would fit, are refused in this order, and joined in the
-- other
unfoldable pub way_right : Bool
way_right =
    same_row (join_of (join_of (row 1 0 0 most) (row 1 0 0 (pos 1))) (row 1 0 0 (less 0))) (row 1 0 0 (less 0))
    && (pick (row_fits (row 1 0 0 most) (row 1 0 0 (pos 1))) false true
    && same_row (join_of (row 1 0 0 most) (join_of (row 1 0 0 (pos 1)) (row 1 0 0 (less 0)))) (row 3 0 0 most))

-- THE ROWS HOLD of the definitions.
pub cases-hold : every right cases && (every lends lendings && (every joins_right joins && way_right)) ≡ true
unfolding row less two same_row same_rows begin right other report_other every_match filter_off start_only several window
    window_off scanned ticked seen cancelled duplicates packets_full reports_full two_reports ticks_full sum_high sum_low
    last cases lends lendings joins_right joins way_right Rattle.months.specs.Counts.one
    Rattle.months.specs.Counts.of_handle Rattle.months.specs.Counts.matched_by
    Rattle.months.specs.Counts.matching Rattle.months.specs.Counts.causes
    Rattle.months.specs.Counts.reports_by Rattle.months.specs.Counts.reports_of
    Rattle.months.specs.Counts.closed_by Rattle.months.specs.Counts.windows
    Rattle.months.specs.Counts.watching Rattle.months.specs.Counts.packets_in
    Rattle.months.specs.Counts.reports_in Rattle.months.specs.Counts.ticks_in
    Rattle.months.specs.Counts.sum_in Rattle.months.specs.Counts.row_in
    Rattle.months.specs.Counts.rows_added Rattle.months.specs.Counted.tally
    Rattle.months.specs.Counted.lent_with Rattle.months.specs.Counted.count_act
    Rattle.months.proofs.CountedLaws.count_answer Rattle.totals.specs.Two.every_two Rattle.totals.specs.Two.map_two
    Rattle.totals.specs.Table.row_fits Rattle.totals.specs.Table.row_sum Rattle.totals.specs.Join.join_of
    Rattle.model.specs.Computed.computed
cases-hold = refl
