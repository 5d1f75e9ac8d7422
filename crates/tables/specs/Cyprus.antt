-- Code 1, ED 50 (Cyprus): document 000, Table 20.16; the area is document 01's.
use Rattle.std.specs.Prelude.{List, [], ◌∷◌}
use Rattle.equation.specs.Equation.{Term, plus◌U^◌V^◌, minus◌U^◌V^◌}
use Rattle.tables.specs.Page.{Page, shift, ◌near◌, ◌from◌, at}

abbrev pub d_lat : List Term
d_lat =
    minus 384288 U^ 0 V^ 0
    ∷ plus 9188 U^ 1 V^ 0
    ∷ plus 3581 U^ 0 V^ 1
    ∷ minus 7481 U^ 1 V^ 1
    ∷ []

abbrev pub d_lon : List Term
d_lon =
    minus 110294 U^ 0 V^ 0
    ∷ minus 4240 U^ 1 V^ 0
    ∷ plus 12748 U^ 0 V^ 1
    ∷ minus 32783 U^ 1 V^ 2
    ∷ plus 51023 U^ 1 V^ 3
    ∷ minus 1600 U^ 0 V^ 7
    ∷ minus 17180 U^ 3 V^ 9
    ∷ []

abbrev pub d_h : List Term
d_h =
    plus 24430 U^ 0 V^ 0
    ∷ minus 5719 U^ 1 V^ 0
    ∷ plus 5631 U^ 2 V^ 0
    ∷ plus 778 U^ 0 V^ 1
    ∷ minus 23892 U^ 1 V^ 1
    ∷ plus 18980 U^ 2 V^ 1
    ∷ plus 106027 U^ 3 V^ 1
    ∷ minus 42824 U^ 4 V^ 1
    ∷ minus 323655 U^ 9 V^ 2
    ∷ minus 988 U^ 0 V^ 3
    ∷ plus 2261 U^ 4 V^ 9
    ∷ []

abbrev pub cyprus : Page
cyprus = record {
  u = 78539816 from at 35 0;
  v = 78539816 from at 33 0;
  equations = shift (d_lat near 501) (d_lon near 508) (d_h near 514);
  south = at 34 30;
  north = at 35 45;
  west = at 32 10;
  east = at 34 40;
}
