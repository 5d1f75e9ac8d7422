use Rattle.std.proofs.Common.{rules, tests, arith, false, ◌∙◌}
use Rattle.std.proofs.lemmas.Iterator.{YieldsList-from_slice}
use Rattle.std.proofs.lemmas.Iterator.Search.{all_from_yields_List}
use Rattle.std.proofs.lemmas.Grind.{common_steps}
use Rattle.std.proofs.lemmas.List.{take_all}
use lib.ListN.{get_or}
use Rattle.sheet.proofs.Points.{all_flagged_is}
use Rattle.sheet.proofs.all_listed.Goals as goal

pub returns : goal.returns
returns c =
    all_from_yields_List (λ bytes. get_or c.args.listed (get_or bytes 0 0) false) _ _ _ c.all.ensures.ran (YieldsList-from_slice c.args.points.now (grind (arith, common_steps, take_all))) (λ x b q k. search (rules, tests))
    ∙ all_flagged_is c.args.listed c.args.points.now
