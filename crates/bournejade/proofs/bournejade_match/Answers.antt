use mathlib.Core.Path.{sym, ◌∙◌}
use Rattle.laws.specs.TestsLaws.{pick_true, pick-false}
use Rattle.bournejade.proofs.bournejade_match.Goals as goal

pub returns-then-m : goal.returns-then-m
returns-then-m c = let m = c.match_cost-m.ensures in record {
  value = sym (pick_true 1 0 (sym m.0 ∙ c.if-m.true));
  comparisons_after = m.1;
}

pub returns : goal.returns
returns c = let m = c.match_cost-m.ensures in record {
  value = sym (pick-false 1 0 (sym m.0 ∙ c.if-m.false));
  comparisons_after = m.1;
}
