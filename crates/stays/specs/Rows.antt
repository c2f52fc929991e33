-- The rows of the service record in text (man/visits.1). Definitions, and the laws of putting them together. Assumes
-- nothing.
use Rattle.std.specs.Prelude.{ℕ, ◌+◌, ◌-◌, ◌/◌, ◌%◌, min, List, Option, None, Some, ◌++◌, eqb, length, take, replicate}
use Rattle.laws.specs.Tests.{pick}
use Rattle.decimals.specs.Decimals.{decimal}
use Rattle.model.specs.Quoted.{codes}
use Rattle.texts.specs.Text.{room}
use Rattle.texts.specs.Words.{address_text, kind_text, time_text, level_text}
use Rattle.visit.specs.Book.{devices, mean_of}
use Rattle.visit.specs.declared.End.{End}
use Rattle.visit.specs.declared.End.TheVariants.{Silence, Full, Cancelled, There}
use Rattle.stays.specs.declared.Style.{Style}
use Rattle.stays.specs.declared.Style.TheVariants.{Table, Csv, Json}
use Rattle.stays.specs.declared.Row.{Row}

-- a table, comma-separated values, JSON; what is not known is a dash, nothing, null
unfoldable pub none_text : Style → List ℕ
none_text Table = codes "-"
none_text Csv = codes ""
none_text Json = codes "null"

unfoldable pub quote_text : Style → List ℕ
quote_text Table = codes ""
quote_text Csv = codes ""
quote_text Json = codes "\""

-- a time of the day a day later has +1 behind it
unfoldable pub day_text : ℕ → List ℕ
day_text days = pick (eqb days 0) (codes "") (codes "+" ++ decimal days)

-- a tick's time since the first tick; where the first one's time of day is given, the time of day. A day is 864,000
-- ticks
unfoldable pub moment_text : Option ℕ → ℕ → List ℕ
moment_text (Some from) tick = time_text ((from + tick) % 864000) ++ day_text ((from + tick) / 864000)
moment_text None tick = time_text tick

-- frame 0 is none
unfoldable pub frame_or : Style → ℕ → List ℕ
frame_or style frame = pick (eqb frame 0) (none_text style) (codes "" ++ decimal frame)

unfoldable pub moment_or : Style → Option ℕ → ℕ → ℕ → List ℕ
moment_or style clock frame tick =
    pick (eqb frame 0) (none_text style) (quote_text style ++ moment_text clock tick ++ quote_text style)

-- how a visit ended
unfoldable pub ended_text : End → List ℕ
ended_text Silence = codes "silence"
ended_text Full = codes "full table"
ended_text Cancelled = codes "cancelled"
ended_text There = codes "still there"

unfoldable pub mean_or : Style → Option ℕ → List ℕ
mean_or style None = none_text style
mean_or style (Some mean) = level_text mean

-- what stands before a value, and the blanks behind it in a table
unfoldable pub lead_of : Style → List ℕ → List ℕ → List ℕ
lead_of Table csv json = codes ""
lead_of Csv csv json = csv
lead_of Json csv json = json

unfoldable pub gap_of : Style → ℕ → ℕ → ℕ
gap_of Table width long = min (width - long) 32
gap_of Csv width long = 0
gap_of Json width long = 0

unfoldable pub blanks_of : ℕ → List ℕ
blanks_of n = take n (replicate 32 32)

unfoldable pub put_text : Style → List ℕ → List ℕ → ℕ → List ℕ → List ℕ
put_text style csv json width value = lead_of style csv json ++ value ++ blanks_of (gap_of style width (length value))

unfoldable pub end_text : Style → List ℕ
end_text Table = codes "\n"
end_text Csv = codes "\n"
end_text Json = codes "}"

-- a value of at most so many characters as there is room for
unfoldable pub cut : List ℕ → List ℕ
cut xs = take room xs

-- device, type, monitor, start (frame, time), stop (frame, time), how it ended, packets, mean RSSI
unfoldable pub row_text : Style → Option ℕ → Row → List ℕ
row_text style clock row =
    put_text style (codes "") (codes "{\"device\":\"") 19 (cut (address_text row.visit.key))
    ++ put_text style (codes ",") (codes "\",\"type\":\"") 8 (cut (kind_text row.visit.key))
    ++ put_text style (codes ",")
    (codes "\",\"monitor\":") 9 (cut (codes "" ++ decimal (row.visit.key / devices)))
    ++ put_text style (codes ",") (codes ",\"start_frame\":") 12 (cut (frame_or style row.visit.frame))
    ++ put_text style (codes ",") (codes ",\"start\":") 15
    (cut (moment_or style clock row.visit.frame row.visit.tick))
    ++ put_text style (codes ",") (codes ",\"stop_frame\":") 12 (cut (frame_or style row.frame))
    ++ put_text style (codes ",") (codes ",\"stop\":") 15 (cut (moment_or style clock row.frame row.tick))
    ++ put_text style (codes ",") (codes ",\"ended\":\"") 13 (cut (ended_text row.how))
    ++ put_text style (codes ",") (codes "\",\"packets\":") 12 (cut (codes "" ++ decimal row.visit.packets))
    ++ put_text style (codes ",") (codes ",\"mean_rssi\":") 0
    (cut (mean_or style (mean_of row.visit.packets row.visit.sum)))
    ++ end_text style
