use Rattle.std.proofs.Common.{◌≡◌, Ok, Err, ap, ◌∙◌, rules}
use mir.Syntax.{w32}
use mir.Val.{SFits}
use Rattle.whole.proofs.Words.{of}
use Rattle.kinds.specs.Cases.{local_position}
use Rattle.kinds.proofs.Answers.{handed_on}
use Rattle.tables.specs.Page.{geoid, is_geoid}
use Rattle.tables.specs.Inside.{datum_page}
use Rattle.tables.proofs.Families.{its_geoid}
use Rattle.datum.specs.Cases.{geoid_says}
use Rattle.datum.specs.Inside.{datum_answer, coded_as, located}
use Rattle.datum.proofs.Points.{inside}
use Rattle.datum.proofs.Calls.{its_family, worked_is, refused_is, refused_code}
use Rattle.datum.proofs.Point.geoid.Goals as goal

pub geoid-requires : goal.geoid-requires
geoid-requires c =
    let self = c.args.self in
    let p : local_position (Ok c.in_ok-position.position) ≡ located (datum_page c.in_ok-datum.datum) self.latitude self.longitude = search rules in
    inside (datum_page c.in_ok-datum.datum) self.latitude self.longitude p

pub returns : goal.returns
returns c =
    let self = c.args.self in
    let d : datum_answer (Ok c.in_ok-datum.datum) ≡ coded_as is_geoid self.code = search rules in
    let p : local_position (Ok c.in_ok-position.position) ≡ located (datum_page c.in_ok-datum.datum) self.latitude self.longitude = search rules in
    let fn : SFits w32 c.geoid.result = search rules in
    worked_is is_geoid self.code d self.latitude self.longitude p (ap geoid (c.from.ensures ∙ (of fn).reads) ∙ c.geoid.ensures ∙ its_geoid _ _ (its_family is_geoid self.code d))

pub returns-in_err-datum : goal.returns-in_err-datum
returns-in_err-datum c =
    let self = c.args.self in
    let d : datum_answer (Err c.in_err-datum.field-0.0) ≡ coded_as is_geoid self.code = search rules in
    handed_on geoid_says c.from_residual.result _ c.from_residual.ensures.1
    ∙ refused_code is_geoid self.code self.latitude self.longitude d

pub returns-in_err-position : goal.returns-in_err-position
returns-in_err-position c =
    let self = c.args.self in
    let d : datum_answer (Ok c.in_ok-datum.datum) ≡ coded_as is_geoid self.code = search rules in
    let p : local_position (Err c.in_err-position.field-0.0) ≡ located (datum_page c.in_ok-datum.datum) self.latitude self.longitude = search rules in
    handed_on geoid_says c.from_residual-in_err-position.result _ c.from_residual-in_err-position.ensures.1
    ∙ refused_is is_geoid self.code d self.latitude self.longitude p
