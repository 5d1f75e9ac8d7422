use Rattle.std.proofs.Common.{◌≡◌, sym, ap, ◌∙◌, subst}
use lib.IntN.{ℤ}
use Rattle.tables.specs.Page.{Family}
use Rattle.tables.specs.Inside.{datum_page, evaluated_at, shift_or_none, AllFit}
use Rattle.tables.specs.declared.Datum.{Datum}
use Rattle.tables.proofs.Datum.shift_by_tables.Goals as goal

-- of a datum that is d the equations are those of d
module _ {self d : Datum} (u v : ℤ) (is : self ≡ d) where
  fits : AllFit (datum_page self).equations u v → AllFit (datum_page d).equations u v
  fits = subst (λ (x : Datum). AllFit (datum_page x).equations u v) is

  given : {answer : Family ℤ} → answer ≡ shift_or_none (evaluated_at (datum_page d).equations u v) → answer ≡ shift_or_none (evaluated_at (datum_page self).equations u v)
  given h = h ∙ ap (λ (x : Datum). shift_or_none (evaluated_at (datum_page x).equations u v)) (sym is)

pub shift_at-requires : goal.shift_at-requires
shift_at-requires c = fits c.args.place.u.0 c.args.place.v.0 c.in-Cyprus.is c.requires

pub shift_at-requires-in-Minna : goal.shift_at-requires-in-Minna
shift_at-requires-in-Minna c = fits c.args.place.u.0 c.args.place.v.0 c.in-Minna.is c.requires

pub shift_at-requires-in-Alaska : goal.shift_at-requires-in-Alaska
shift_at-requires-in-Alaska c = fits c.args.place.u.0 c.args.place.v.0 c.in-Alaska.is c.requires

pub shift_at-requires-in-Qatar : goal.shift_at-requires-in-Qatar
shift_at-requires-in-Qatar c = fits c.args.place.u.0 c.args.place.v.0 c.in-Qatar.is c.requires

pub returns-in-Cyprus : goal.returns-in-Cyprus
returns-in-Cyprus c = given c.args.place.u.0 c.args.place.v.0 c.in-Cyprus.is c.shift_at.ensures

pub returns-in-Minna : goal.returns-in-Minna
returns-in-Minna c = given c.args.place.u.0 c.args.place.v.0 c.in-Minna.is c.shift_at-in-Minna.ensures

pub returns-in-Alaska : goal.returns-in-Alaska
returns-in-Alaska c = given c.args.place.u.0 c.args.place.v.0 c.in-Alaska.is c.shift_at-in-Alaska.ensures

pub returns-in-Qatar : goal.returns-in-Qatar
returns-in-Qatar c = given c.args.place.u.0 c.args.place.v.0 c.in-Qatar.is c.shift_at-in-Qatar.ensures
