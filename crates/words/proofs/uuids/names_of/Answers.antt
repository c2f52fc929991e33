use Prim.Native.Nat.{ℕ}
use mathlib.Core.Path.{◌≡◌, sym, ap, ◌∙◌}
use native.Mathlib.Omega.{arith}
use borrow.Author.Tests.{ne_eqb}
use Rattle.laws.specs.Tests.{pick}
use Rattle.model.specs.Quoted.{codes}
use Rattle.names.specs.NamesLaws.{table_of, looked-up, none}
use Rattle.names.specs.Uuids.{service_rows, member_rows_fc, member_rows_fd, member_rows_fe, standard_rows, uuid_name}
use Rattle.words.specs.UuidsLaws.{in-none}
use Rattle.words.proofs.uuids.names_of.Goals as goal

pub returns-in-24 : goal.returns-in-24
unfolding uuid_name pick service_rows table_of codes
returns-in-24 c = λ (low : ℕ). looked-up service_rows low ∙ ap (λ (h : ℕ). uuid_name h low) (sym c.in-24.is)

pub returns-in-252 : goal.returns-in-252
unfolding uuid_name pick member_rows_fc table_of codes
returns-in-252 c = λ (low : ℕ). looked-up member_rows_fc low ∙ ap (λ (h : ℕ). uuid_name h low) (sym c.in-252.is)

pub returns-in-253 : goal.returns-in-253
unfolding uuid_name pick member_rows_fd table_of codes
returns-in-253 c = λ (low : ℕ). looked-up member_rows_fd low ∙ ap (λ (h : ℕ). uuid_name h low) (sym c.in-253.is)

pub returns-in-254 : goal.returns-in-254
unfolding uuid_name pick member_rows_fe table_of codes
returns-in-254 c = λ (low : ℕ). looked-up member_rows_fe low ∙ ap (λ (h : ℕ). uuid_name h low) (sym c.in-254.is)

pub returns-in-255 : goal.returns-in-255
unfolding uuid_name pick standard_rows table_of codes
returns-in-255 c = λ (low : ℕ). looked-up standard_rows low ∙ ap (λ (h : ℕ). uuid_name h low) (sym c.in-255.is)

pub returns-in_default : goal.returns-in_default
returns-in_default c = λ (low : ℕ). none low
    ∙ in-none c.args.high low
    (ne_eqb c.args.high 24 (λ (e : c.args.high ≡ 24). omega arith))
    (ne_eqb c.args.high 252 (λ (e : c.args.high ≡ 252). omega arith))
    (ne_eqb c.args.high 253 (λ (e : c.args.high ≡ 253). omega arith))
    (ne_eqb c.args.high 254 (λ (e : c.args.high ≡ 254). omega arith))
    (ne_eqb c.args.high 255 (λ (e : c.args.high ≡ 255). omega arith))
