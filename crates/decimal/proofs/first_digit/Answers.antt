use Rattle.std.proofs.Common.{rules, tests, ◌≡◌, take, ap, ◌∙◌}
use Rattle.std.proofs.lemmas.Iterator.{YieldsList-from_slice}
use Rattle.std.proofs.lemmas.Iterator.Search.{position_from_yields_List}
use Rattle.std.specs.List.{position}
use Rattle.std.specs.Option.{unwrap_or}
use Rattle.decimal.proofs.Numbers.{other, first_found}
use Rattle.decimal.proofs.first_digit.Goals as goal

pub returns-clause-digits_value : goal.returns-clause-digits_value
returns-clause-digits_value c =
    let is : c.position.result ≡ position other (take 9 c.args.digits.now) =
    position_from_yields_List other _ _ c.position.result c.position.ensures.ran (YieldsList-from_slice _ c.iter.ensures.rest) (λ x b q k. search (rules, tests)) in
    first_found 9 c.args.digits.now c.told-digits (c.unwrap_or.ensures ∙ ap (λ o. unwrap_or o 9) is)
