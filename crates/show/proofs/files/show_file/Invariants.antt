use Rattle.std.proofs.Common.{◌≡◌, length}
use Rattle.show.proofs.files.show_file.Given as goal

abbrev pub invariant-loop : goal.invariant-loop
invariant-loop l =
    length l.buf ≡ 65536
