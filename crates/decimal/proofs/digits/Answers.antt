use Rattle.decimal.proofs.Numbers.{digits_written}
use Rattle.decimal.proofs.digits.Goals as goal

pub returns : goal.returns
returns c =
    let w = digits_written c.args.n c.first_digit-first.result _ _ c.args.line.now _ (simp c.from.ensures at c.in_ten-ten.ensures) c.first_digit-first.ensures.digits_value c.copy.ensures.value c.copy.ensures.out_after in
    record { value = w.0; line_after = w.1 }
