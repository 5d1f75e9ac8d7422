-- Code 4, Qatar National: document 000, Table 20.41; the area is document 01's.
use Rattle.std.specs.Prelude.{List, [], ◌∷◌}
use Rattle.equation.specs.Equation.{Term, plus◌U^◌V^◌, minus◌U^◌V^◌}
use Rattle.tables.specs.Page.{Page, shift, ◌near◌, ◌from◌, at}

abbrev pub d_lat : List Term
d_lat =
    plus 247363 U^ 0 V^ 0
    ∷ plus 8786 U^ 1 V^ 0
    ∷ plus 14283 U^ 2 V^ 0
    ∷ minus 11089 U^ 5 V^ 0
    ∷ plus 1669 U^ 9 V^ 0
    ∷ plus 4380 U^ 1 V^ 1
    ∷ plus 7142 U^ 0 V^ 2
    ∷ minus 8879 U^ 1 V^ 2
    ∷ minus 6321 U^ 3 V^ 4
    ∷ []

abbrev pub d_lon : List Term
d_lon =
    minus 280439 U^ 0 V^ 0
    ∷ plus 10489 U^ 0 V^ 1
    ∷ minus 6281 U^ 5 V^ 1
    ∷ plus 2697 U^ 0 V^ 2
    ∷ minus 110721 U^ 2 V^ 2
    ∷ plus 288786 U^ 2 V^ 3
    ∷ minus 259921 U^ 3 V^ 6
    ∷ []

abbrev pub d_h : List Term
d_h =
    minus 28376 U^ 0 V^ 0
    ∷ plus 2381 U^ 1 V^ 0
    ∷ minus 1126 U^ 2 V^ 0
    ∷ minus 2048 U^ 8 V^ 0
    ∷ plus 1618 U^ 9 V^ 0
    ∷ plus 3095 U^ 0 V^ 2
    ∷ minus 4112 U^ 3 V^ 3
    ∷ minus 13156 U^ 0 V^ 7
    ∷ plus 18689 U^ 1 V^ 8
    ∷ []

abbrev pub qatar : Page
qatar = record {
  u = 104719754 from at 25 0;
  v = 104719754 from at 51 0;
  equations = shift (d_lat near 504) (d_lon near 537) (d_h near 503);
  south = at 24 20;
  north = at 26 15;
  west = at 50 40;
  east = at 51 45;
}
