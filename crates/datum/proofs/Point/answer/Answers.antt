use Rattle.std.proofs.Common.{◌≡◌, Ok, Err, ap, ◌∙◌, rules}
use mir.Syntax.{w32}
use mir.Val.{SFits}
use Rattle.whole.proofs.Words.{of}
use Rattle.kinds.specs.Cases.{local_position}
use Rattle.kinds.proofs.Answers.{handed_on}
use Rattle.tables.specs.Page.{geoid, is_either}
use Rattle.tables.specs.Inside.{datum_page}
use Rattle.tables.proofs.Families.{its_shift, its_geoid}
use Rattle.datum.specs.Cases.{given_says}
use Rattle.datum.specs.Inside.{located}
use Rattle.datum.proofs.Points.{inside}
use Rattle.datum.proofs.Calls.{of_frame, worked_is, refused_is}
use Rattle.datum.proofs.Point.answer.Goals as goal

pub shift-requires : goal.shift-requires
shift-requires c =
    let self = c.args.self in
    let e : local_position (Ok c.in_ok-position.position) ≡ located (datum_page c.in_ok-either.either) self.latitude self.longitude = search rules in
    inside (datum_page c.in_ok-either.either) self.latitude self.longitude e

pub geoid-requires : goal.geoid-requires
geoid-requires c =
    let self = c.args.self in
    let e : local_position (Ok c.in_ok-position.position) ≡ located (datum_page c.in_ok-either.either) self.latitude self.longitude = search rules in
    inside (datum_page c.in_ok-either.either) self.latitude self.longitude e

pub returns-in-Shift : goal.returns-in-Shift
returns-in-Shift c =
    let self = c.args.self in
    let e : local_position (Ok c.in_ok-position.position) ≡ located (datum_page c.in_ok-either.either) self.latitude self.longitude = search rules in
    worked_is is_either self.code c.in_ok-either.ensures self.latitude self.longitude e (c.from.ensures ∙ c.shift.ensures ∙ its_shift _ _ (of_frame (datum_page c.in_ok-either.either) c.frame-frame.ensures c.in-Shift.is))

pub returns-in-Geoid : goal.returns-in-Geoid
returns-in-Geoid c =
    let self = c.args.self in
    let e : local_position (Ok c.in_ok-position.position) ≡ located (datum_page c.in_ok-either.either) self.latitude self.longitude = search rules in
    let fn : SFits w32 c.geoid.result = search rules in
    worked_is is_either self.code c.in_ok-either.ensures self.latitude self.longitude e
    (ap geoid (c.from-in-Geoid.ensures ∙ (of fn).reads) ∙ c.geoid.ensures ∙ its_geoid _ _ (of_frame (datum_page c.in_ok-either.either) c.frame-frame.ensures c.in-Geoid.is))

pub returns-in_err-position : goal.returns-in_err-position
returns-in_err-position c =
    let self = c.args.self in
    let e : local_position (Err c.in_err-position.field-0.0) ≡ located (datum_page c.in_ok-either.either) self.latitude self.longitude = search rules in
    handed_on given_says c.from_residual-in_err-position.result _ c.from_residual-in_err-position.ensures.1
    ∙ refused_is is_either self.code c.in_ok-either.ensures self.latitude self.longitude e
