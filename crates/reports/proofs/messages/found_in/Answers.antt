use Rattle.reports.specs.MessagesLaws.{found-so}
use mathlib.Core.Path.{refl, sym, ap, ◌∙◌}
use lib.Seq.{length-take-le}
use native.Mathlib.Omega.{arith}
use Rattle.octets.specs.Numbers.{number_at}
use Rattle.reports.specs.Texts.{found_in}
use Rattle.reports.proofs.messages.found_in.Goals as goal

pub slice_bounds-octets-end : goal.slice_bounds-octets-end
slice_bounds-octets-end c = let w = found-so c.args.text.now _ c.read_pairs-k.new.out
    c.read_pairs-k.result refl c.read_pairs-k.ensures in
    omega (arith, w.1)

pub slice_bounds-get32-end : goal.slice_bounds-get32-end
slice_bounds-get32-end c = let w = found-so c.args.text.now _
    c.read_pairs-k.new.out c.read_pairs-k.result refl
    c.read_pairs-k.ensures in
    sym (length-take-le _ _ (omega (arith, w.1)))

pub returns : goal.returns
unfolding found_in
returns c = let w = found-so c.args.text.now _ c.read_pairs-k.new.out
    c.read_pairs-k.result refl c.read_pairs-k.ensures in
    c.get32.ensures ∙ ap (λ l. number_at 4 l 0) w.0
